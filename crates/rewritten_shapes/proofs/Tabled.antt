-- The draft of a file without the table of what is put round its nodes.
use Rattle.std.proofs.Common.{
  ◌≡◌,
  ℕ,
  zero,
  suc,
  ◌+◌,
  ◌<◌,
  Bool,
  true,
  false,
  if◌then◌else◌,
  List,
  [],
  ◌∷◌,
  ◌++◌,
  length,
  Option,
  refl,
  ap,
  sym,
  ◌∙◌,
  arith,
  slice_get,
  length-append,
  add-zero,
  zero-add,
}
use Rattle.std.specs.Prelude.{unwrap_or}
use Rattle.php_tree.specs.declared.kind.NodeKind.{NodeKind}
use Rattle.php_tree.specs.Tree.{Forest, none, leaf, node, Tree, count}
use Rattle.tracked_changes.specs.patches.Patches.{Patches, Wrapping}
use Rattle.tracked_changes.specs.Draft.{Draft, no_more, new_leaf, ◌then◌}
use Rattle.tracked_changes.specs.Parens.{in_wrappings}
use Rattle.tracked_changes.specs.Walk.{NewTree, new_alone, drafted}
use Rattle.syntax_rules.specs.Around.{Around, within, at_top}
use Rattle.syntax_rules.specs.BraceOffset.{is_brace_offset, brace_offset}
use Rattle.syntax_rules.specs.DollarBrace.{dollar_brace}
use Rattle.syntax_rules.specs.HashComment.{hash_comment}
use Rattle.syntax_rules.specs.RealCast.{is_real_cast, real_cast}
use Rattle.syntax_rules.specs.Rewritten.{wrapping, wrappings, patches}
use Rattle.syntax_rules.specs.Together.{all_on, is_quoted, rewriting}
use Rattle.syntax_rules.specs.UnsetCast.{is_edited, unset_cast}

-- a node, as it stands in the source and once its parts are done
abbrev pub changed : Tree → NewTree → NewTree
changed s t =
    if is_brace_offset s.0 then brace_offset t
    else (if is_real_cast s then real_cast t
    else (if is_edited s then unset_cast t
    else (if is_quoted s.0 then dollar_brace t else t)))

-- parts where they stand: whether the next is the first of its node
abbrev pub written : (Bool → Option Around) → Bool → Forest → Draft
written around is_first none = no_more
written around is_first (leaf t f) = new_leaf (hash_comment t) (written around false f)
written around is_first (node k c f) =
    new_alone (in_wrappings (wrapping (around is_first) (k, c)) (changed (k, c) (k, written (within k c) true c)))
    then written around false f

-- ---- the table has what is put round each node

length-wrappings : (a : Bool → Option Around) (b : Bool) (f : Forest) → length (wrappings a b f) ≡ count f
length-wrappings a b none = refl
length-wrappings a b (leaf t f) = length-wrappings a false f
length-wrappings a b (node k c f) =
    ap suc (length-append (wrappings (within k c) true c) (wrappings a false f)) ∙ omega (arith, length-wrappings (within k c) true c, length-wrappings a false f)

abbrev entry : List (List Wrapping) → ℕ → List Wrapping
entry ws j = unwrap_or (slice_get ws j) []

entry-within : (ws vs : List (List Wrapping)) (j : ℕ) → j < length ws → entry (ws ++ vs) j ≡ entry ws j
entry-within [] vs j h = absurd (omega arith)
entry-within (w ∷ ws) vs zero h = refl
entry-within (w ∷ ws) vs (suc j) h = entry-within ws vs j (omega arith)

entry-behind : (ws vs : List (List Wrapping)) (n j : ℕ) → n ≡ length ws + j → entry (ws ++ vs) n ≡ entry vs j
entry-behind [] vs n j e = ap (entry vs) (e ∙ zero-add j)
entry-behind (w ∷ ws) vs n j e =
    let d : n ≡ suc (length ws + j) = omega arith in
    ap (entry ((w ∷ ws) ++ vs)) d ∙ entry-behind ws vs (length ws + j) j refl

-- a table that has the wrappings of parts from a number on
abbrev Agrees : Patches → ℕ → (Bool → Option Around) → Bool → Forest → Type 0
Agrees p id a b f = (j : ℕ) → j < count f → p (id + j) ≡ entry (wrappings a b f) j

agrees_here : (p : Patches) (id : ℕ) (a : Bool → Option Around) (b : Bool) (k : NodeKind) (c f : Forest) → Agrees p id a b (node k c f) → p id ≡ wrapping (a b) (k, c)
agrees_here p id a b k c f h = ap p (sym (add-zero id)) ∙ h 0 (omega arith)

agrees_inside : (p : Patches) (id : ℕ) (a : Bool → Option Around) (b : Bool) (k : NodeKind) (c f : Forest) → Agrees p id a b (node k c f) → Agrees p (suc id) (within k c) true c
agrees_inside p id a b k c f h j below =
    ap p (omega arith) ∙ h (suc j) (omega arith) ∙ entry-within (wrappings (within k c) true c) (wrappings a false f) j (omega (arith, length-wrappings (within k c) true c))

agrees_after : (p : Patches) (id : ℕ) (a : Bool → Option Around) (b : Bool) (k : NodeKind) (c f : Forest) → Agrees p id a b (node k c f) → Agrees p (suc (id + count c)) a false f
agrees_after p id a b k c f h j below =
    ap p (omega arith) ∙ h (suc (count c + j)) (omega arith)
    ∙ entry-behind (wrappings (within k c) true c) (wrappings a false f) (count c + j) j (omega (arith, length-wrappings (within k c) true c))

module _ (p : Patches) where
  drafted_as : (id : ℕ) (a : Bool → Option Around) (b : Bool) (f : Forest) → Agrees p id a b f → drafted (rewriting (all_on p)) id f ≡ written a b f
  drafted_as id a b none h = refl
  drafted_as id a b (leaf t f) h = ap (new_leaf (hash_comment t)) (drafted_as id a false f h)
  drafted_as id a b (node k c f) h =
      ap (λ (ws : List Wrapping). new_alone (in_wrappings ws
      (changed (k, c) (k, drafted (rewriting (all_on p)) (suc id) c))) then drafted (rewriting (all_on p))
      (suc (id + count c)) f)
      (agrees_here p id a b k c f h)
      ∙ ap (λ (d : Draft). new_alone (in_wrappings (wrapping (a b) (k, c)) (changed (k, c) (k, d))) then drafted (rewriting (all_on p)) (suc (id + count c)) f)
      (drafted_as (suc id) (within k c) true c (agrees_inside p id a b k c f h))
      ∙ ap (λ (d : Draft). new_alone (in_wrappings (wrapping (a b) (k, c)) (changed (k, c) (k, written (within k c) true c))) then d)
      (drafted_as (suc (id + count c)) a false f (agrees_after p id a b k c f h))

-- the draft of a file's statements
pub drafted_is : (f : Forest) → drafted (rewriting (all_on (patches f))) 0 f ≡ written at_top true f
drafted_is f = drafted_as (patches f) 0 at_top true f (λ j h. ap (patches f) (zero-add j))
