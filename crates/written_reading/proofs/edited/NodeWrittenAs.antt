-- Nodes in what is put round them, casts, and offsets in braces.
use Rattle.std.proofs.Common.{◌≡◌, ℕ, Bool, true, false, List, [], ◌∷◌, ◌++◌, codes, Option, refl, sym, ap, ◌∙◌, subst}
use Rattle.std.specs.Str.{bytes_eq}
use Rattle.std.proofs.lemmas.Bool.{not-true}
use Rattle.php_tree.specs.declared.token.Token.{Token}
use Rattle.php_tree.specs.declared.token.TokenKind.{TokenKind}
use Rattle.php_tree.specs.declared.token.TokenKind.TheVariants as token
use Rattle.php_tree.specs.declared.kind.NodeKind.{NodeKind}
use Rattle.php_tree.specs.Tree.{Forest, leaves}
use Rattle.tracked_changes.specs.patches.Patches.{Wrapping, InParens}
use Rattle.tracked_changes.specs.Tokens.{is_text}
use Rattle.tracked_changes.specs.Walk.{NewTree}
use Rattle.tracked_changes.specs.Parens.{in_wrappings}
use Rattle.syntax_rules.specs.Around.{Around}
use Rattle.syntax_rules.specs.BraceOffset.{bracket}
use Rattle.syntax_rules.specs.HashComment.{hash_comment}
use Rattle.syntax_rules.specs.Rewritten.{wrapping}
use Rattle.written_tokens.specs.tokens.Written.{draft_tokens}
use Rattle.written_tokens.specs.tiles.Edits.{RoundsComeIn}
use Rattle.rewritten_shapes.specs.paired.Paired.{IsStanding, may_be_grouped}
use Rattle.rewritten_shapes.specs.paired.Tokens.{is_edge, begins_inside, ends_inside, has_stop, IsMark}
use Rattle.written_reading.proofs.edited.TileFacts.{leaves_html, html_behind}
use Rattle.written_reading.proofs.edited.WrittenAs.{WrittenAs, unstopped}
use Rattle.written_reading.proofs.edited.Between.{IsPut}
use Rattle.written_reading.proofs.edited.Wraps.{wrapped_written_as}
use Rattle.written_reading.proofs.edited.Drafts.{is_wrapped, wrapped_groups, grouped_expression}

-- ---- what is put round a node

edge_leaves : (k : TokenKind) → is_edge k ≡ false → leaves_html k ≡ false
edge_leaves token.Close h = absurd cc
edge_leaves token.InlineHtml h = absurd cc
edge_leaves k h = refl

-- what ends inside code leaves code
pub ends_coded : (h : Bool) (ts : List Token) → ends_inside ts ≡ true → html_behind h ts ≡ false
ends_coded h [] e = absurd cc
ends_coded h (t ∷ []) e = edge_leaves t.kind (not-true (is_edge t.kind) e)
ends_coded h (t ∷ u ∷ ts) e = ends_coded (leaves_html t.kind) (u ∷ ts) e

-- a node's tokens in parentheses
in_wraps : RoundsComeIn → (ws : List Wrapping) (h : Bool) (t : Token) (ss : List Token) → is_edge t.kind ≡ false
    → html_behind h (t ∷ ss) ≡ false → (n : NewTree) → WrittenAs h true (t ∷ ss) (draft_tokens n.1)
    → WrittenAs h true (t ∷ ss) (draft_tokens (in_wrappings ws n).1)
in_wraps rounds [] h t ss edge coded n written_as = written_as
in_wraps rounds (InParens ∷ ws) h t ss edge coded n written_as =
    wrapped_written_as rounds h t ss edge coded (in_wrappings ws n).1 (in_wraps rounds ws h t ss edge coded n written_as)

some_wraps : RoundsComeIn → (ws : List Wrapping) (h : Bool) (ss : List Token) → begins_inside ss ≡ true
    → ends_inside ss ≡ true → (n : NewTree) → WrittenAs h true ss (draft_tokens n.1)
    → WrittenAs h true ss (draft_tokens (in_wrappings ws n).1)
some_wraps rounds ws h [] b e n written_as = absurd cc
some_wraps rounds ws h (t ∷ ss) b e n written_as = in_wraps rounds ws h t ss (not-true (is_edge t.kind) b) (ends_coded h (t ∷ ss) e) n written_as

-- A node in what is put round it, where only nodes that may be grouped are put in parentheses.
pub node_written_as : RoundsComeIn → (ws : List Wrapping) (h stop : Bool) (k : NodeKind) (c : Forest) (n : NewTree)
    → (is_wrapped ws ≡ true → may_be_grouped (k, c) ≡ true) →
    (may_be_grouped (k, c) ≡ true → (stop ≡ true) × (begins_inside (leaves c) ≡ true)
    × (ends_inside (leaves c) ≡ true)) → WrittenAs h stop (leaves c) (draft_tokens n.1)
    → WrittenAs h false (leaves c) (draft_tokens (in_wrappings ws n).1)
node_written_as rounds [] h stop k c n grouped fits written_as = unstopped h stop (leaves c) (draft_tokens n.1) written_as
node_written_as rounds (w ∷ ws) h stop k c n grouped fits written_as =
    let f = fits (grouped refl) in
    unstopped h true (leaves c) (draft_tokens (in_wrappings (w ∷ ws) n).1)
    (some_wraps rounds (w ∷ ws) h (leaves c) f.1 f.2 n
    (subst (λ (x : Bool). WrittenAs h x (leaves c) (draft_tokens n.1)) f.0 written_as))

-- a node by where it stands
pub standing_written_as : RoundsComeIn → (a : Option Around) (h : Bool) (k : NodeKind) (c : Forest) (n : NewTree)
    → IsStanding k c → WrittenAs h (has_stop c) (leaves c) (draft_tokens n.1)
    → WrittenAs h false (leaves c) (draft_tokens (in_wrappings (wrapping a (k, c)) n).1)
standing_written_as rounds a h k c n standing written_as =
    node_written_as rounds (wrapping a (k, c)) h (has_stop c) k c n (wrapped_groups a (k, c))
    (λ g. let e = grouped_expression k _ g in (standing.stops g, standing.begins e, standing.ends e)) written_as

-- a node that is never grouped
pub plain_written_as : RoundsComeIn → (a : Option Around) (h stop : Bool) (k : NodeKind) (c : Forest) (n : NewTree)
    → may_be_grouped (k, c) ≡ false → WrittenAs h stop (leaves c) (draft_tokens n.1)
    → WrittenAs h false (leaves c) (draft_tokens (in_wrappings (wrapping a (k, c)) n).1)
plain_written_as rounds a h stop k c n single written_as =
    node_written_as rounds (wrapping a (k, c)) h stop k c n (wrapped_groups a (k, c))
    (λ g. absurd (let clash : true ≡ false = sym g ∙ single in cc)) written_as

-- ---- brackets for braces

pub kept_put : (x : ℕ) (t : Token) → IsMark x t → IsPut x t (hash_comment t)
kept_put x t mark = record { lead = refl; kind = mark.kind; text = ap (λ (l : List ℕ). l ++ []) mark.text }

old_text : (t : Token) (x : ℕ) → IsMark x t → (word : List ℕ) → is_text word (hash_comment t) ≡ bytes_eq (x ∷ []) word
old_text t x mark word = ap (λ (l : List ℕ). bytes_eq (l ++ []) word) mark.text

pub opening_put : (t : Token) → IsMark 123 t → IsPut 91 t (bracket (hash_comment t))
opening_put t mark = rw (old_text t 123 mark (codes "{")) (record { lead = refl; kind = refl; text = refl })

pub closing_put : (t : Token) → IsMark 125 t → IsPut 93 t (bracket (hash_comment t))
closing_put t mark = rw (old_text t 125 mark (codes "{"), old_text t 125 mark (codes "}")) (record { lead = refl; kind = refl; text = refl })
