-- What the first parts of a node say.
use Rattle.std.proofs.Common.{◌≡◌, ℕ, ◌<◌, Bool, true, false, not, ◌||◌, ◌&&◌, List, refl, sym, ap, ◌∙◌, arith}
use Rattle.php_tree.specs.declared.kind.NodeKind.{NodeKind}
use Rattle.php_tree.specs.declared.token.Token.{Token}
use Rattle.php_tree.specs.Tree.{Forest, none, leaf, node}
use Rattle.php_terminals.specs.declared.mark.Mark.{Mark}
use Rattle.php_terminals.specs.declared.terminal.Terminal.{Terminal}
use Rattle.php_terminals.specs.declared.terminal.Terminal.TheVariants as t
use Rattle.php_terminals.specs.Classify.{terminal}
use Rattle.php_terminals.specs.Indents.{
  fresh_behind,
  fresh_by,
  is_heredoc_kind,
  heredoc_fits,
  last_text,
  leaf_fits,
  leaf_fits_by,
  literal_fits,
  node_fits,
  parts_fit,
  quoted_fits,
  text_fits,
}
use Rattle.php_terminals.specs.Marked.{IsMark, token_at}
use Rattle.php_rows.specs.declared.parts.Parts.{Parts}
use Rattle.php_rows.specs.Reading.{IsLeaf, IsChild, bytes_of, forest_in, weight}
use Rattle.php_grammar.specs.Levels.{first_leaf, is_alone, middle_leaf}

-- ---- levels

pub first_none : (k : NodeKind) (f : Forest) → f ≡ none → first_leaf (k, f) ≡ t.End
first_none k f e = rw e refl

pub first_token : (k : NodeKind) (m : Mark) (old new : Parts) → IsLeaf m old new → m.class ≡ first_leaf (k, forest_in old)
first_token k m old new l = l.mark.class ∙ rw l.parts refl

pub first_node : (k j : NodeKind) (n : ℕ) (c old new : Parts) → IsChild j n c old new → first_leaf (k, forest_in old) ≡ t.End
first_node k j n c old new l = rw l.parts refl

pub middle_none : (k : NodeKind) (f : Forest) → f ≡ none → middle_leaf (k, f) ≡ t.End
middle_none k f e = rw e refl

pub middle_token : (k : NodeKind) (m : Mark) (old new : Parts) → IsLeaf m old new → middle_leaf (k, forest_in old) ≡ t.End
middle_token k m old new l = rw l.parts refl

pub middle_end : (k j : NodeKind) (n : ℕ) (c old mid : Parts) → IsChild j n c old mid → forest_in mid ≡ none → middle_leaf (k, forest_in old) ≡ t.End
middle_end k j n c old mid l e = rw (l.parts, e) refl

pub middle_leaf_is : (k j : NodeKind) (n : ℕ) (c old mid new : Parts) (m : Mark) → IsChild j n c old mid → IsLeaf m mid new → m.class ≡ middle_leaf (k, forest_in old)
middle_leaf_is k j n c old mid new m l i = i.mark.class ∙ rw (l.parts, i.parts) refl

pub middle_nodes : (k j i : NodeKind) (n o : ℕ) (c b old mid new : Parts) → IsChild j n c old mid → IsChild i o b mid new → middle_leaf (k, forest_in old) ≡ t.End
middle_nodes k j i n o c b old mid new l h = rw (l.parts, h.parts) refl

pub alone_none : (k : NodeKind) (f : Forest) → f ≡ none → is_alone (k, f) ≡ false
alone_none k f e = rw e refl

pub alone_node : (k j : NodeKind) (n : ℕ) (c old new : Parts) → IsChild j n c old new → is_alone (k, forest_in old) ≡ false
alone_node k j n c old new l = rw l.parts refl

pub alone_token : (k : NodeKind) (m : Mark) (old mid : Parts) → IsLeaf m old mid → forest_in mid ≡ none → is_alone (k, forest_in old) ≡ true
alone_token k m old mid l e = rw (l.parts, e) refl

pub alone_tokens : (k : NodeKind) (m n : Mark) (old mid new : Parts) → IsLeaf m old mid → IsLeaf n mid new → is_alone (k, forest_in old) ≡ false
alone_tokens k m n old mid new l i = rw (l.parts, i.parts) refl

pub alone_then : (k j : NodeKind) (m : Mark) (n : ℕ) (c old mid new : Parts) → IsLeaf m old mid → IsChild j n c mid new → is_alone (k, forest_in old) ≡ false
alone_then k j m n c old mid new l i = rw (l.parts, i.parts) refl

-- ---- what is left is less

pub leaf_less : (m : Mark) (old new : Parts) → IsLeaf m old new → weight (forest_in new) < weight (forest_in old)
leaf_less m old new l = let w = ap weight l.parts in omega arith

pub child_less : (j : NodeKind) (n : ℕ) (c old new : Parts) → IsChild j n c old new → weight (forest_in new) < weight (forest_in old)
child_less j n c old new l = let w = ap weight l.parts in omega arith

-- ---- indentation

pub text_none : (text : List ℕ) (f : Forest) → f ≡ none → last_text text f ≡ text
text_none text f e = rw e refl

pub text_token : (text : List ℕ) (m : Mark) (old new : Parts) → IsLeaf m old new → last_text text (forest_in old) ≡ last_text (token_at (bytes_of old) m).text (forest_in new)
text_token text m old new l = rw l.parts refl

pub text_node : (text : List ℕ) (j : NodeKind) (n : ℕ) (c old new : Parts) → IsChild j n c old new → last_text text (forest_in old) ≡ last_text text (forest_in new)
text_node text j n c old new l = rw l.parts refl

-- the bytes behind
pub bytes_same : (m : Mark) (old new : Parts) → IsLeaf m old new → bytes_of new ≡ bytes_of old
bytes_same m old new l = ap (λ ts. ts.bytes.now) l.tokens

pub is_mark : (m : Mark) (old new : Parts) (bytes : List ℕ) → bytes ≡ bytes_of new → IsLeaf m old new → IsMark bytes m
is_mark m old new bytes e l = rw (e ∙ bytes_same m old new l) l.mark

pub fits_none : (indent : List ℕ) (fresh : Bool) (f : Forest) → f ≡ none → parts_fit indent fresh f ≡ true
fits_none indent fresh f e = rw e refl

leaf_is : (indent : List ℕ) (fresh : Bool) (m : Mark) (bytes text : List ℕ) → IsMark bytes m
    → text ≡ (token_at bytes m).text → leaf_fits indent fresh (token_at bytes m) ≡ leaf_fits_by m.class indent fresh
    text
unfolding leaf_fits
leaf_is indent fresh m bytes text i e = rw (i.class, e) refl

fresh_is : (fresh : Bool) (m : Mark) (bytes text : List ℕ) → IsMark bytes m → text ≡ (token_at bytes m).text → fresh_behind fresh (token_at bytes m) ≡ fresh_by m.class fresh text
unfolding fresh_behind
fresh_is fresh m bytes text i e = rw (i.class, e) refl

pub fits_token : (indent : List ℕ) (fresh : Bool) (m : Mark) (old new : Parts) (text : List ℕ) → IsLeaf m old new
    → text ≡ (token_at (bytes_of old) m).text → leaf_fits_by m.class indent fresh text ≡ true
    → parts_fit indent fresh (forest_in old) ≡ parts_fit indent (fresh_by m.class fresh text) (forest_in new)
fits_token indent fresh m old new text l e h = rw (l.parts, leaf_is indent fresh m (bytes_of old) text l.mark e, fresh_is fresh m (bytes_of old) text l.mark e, h) refl

pub unfit_token : (indent : List ℕ) (fresh : Bool) (m : Mark) (old new : Parts) (text : List ℕ) → IsLeaf m old new
    → text ≡ (token_at (bytes_of old) m).text → leaf_fits_by m.class indent fresh text ≡ false
    → parts_fit indent fresh (forest_in old) ≡ false
unfit_token indent fresh m old new text l e h = rw (l.parts, leaf_is indent fresh m (bytes_of old) text l.mark e, h) refl

pub fits_node : (indent : List ℕ) (fresh : Bool) (j : NodeKind) (n : ℕ) (c old new : Parts) → IsChild j n c old new
    → node_fits indent fresh ≡ true → parts_fit indent fresh (forest_in old) ≡ parts_fit indent false (forest_in new)
fits_node indent fresh j n c old new l h = rw (l.parts, h) refl

pub unfit_node : (indent : List ℕ) (fresh : Bool) (j : NodeKind) (n : ℕ) (c old new : Parts) → IsChild j n c old new
    → node_fits indent fresh ≡ false → parts_fit indent fresh (forest_in old) ≡ false
unfit_node indent fresh j n c old new l h = rw (l.parts, h) refl

pub quoted_none : (f : Forest) → f ≡ none → quoted_fits f ≡ true
quoted_none f e = rw e refl

pub quoted_token : (m : Mark) (old new : Parts) → IsLeaf m old new → (not (is_heredoc_kind m.kind) || heredoc_fits (forest_in new)) ≡ quoted_fits (forest_in old)
quoted_token m old new l = rw l.parts refl

pub quoted_node : (j : NodeKind) (n : ℕ) (c old new : Parts) → IsChild j n c old new → quoted_fits (forest_in old) ≡ true
quoted_node j n c old new l = rw l.parts refl

pub literal_none : (f : Forest) → f ≡ none → literal_fits f ≡ true
literal_none f e = rw e refl

pub literal_token : (m : Mark) (old new : Parts) (text : List ℕ) → IsLeaf m old new → text ≡ (token_at (bytes_of old) m).text → text_fits text ≡ literal_fits (forest_in old)
literal_token m old new text l e = rw (l.parts, e) refl

pub literal_node : (j : NodeKind) (n : ℕ) (c old new : Parts) → IsChild j n c old new → literal_fits (forest_in old) ≡ true
literal_node j n c old new l = rw l.parts refl
