-- What is put round a node, as it is asked for where the node stands.
use Rattle.std.proofs.Common.{
  ◌≡◌,
  ℕ,
  suc,
  ◌+◌,
  Bool,
  true,
  false,
  ◌&&◌,
  if◌then◌else◌,
  List,
  [],
  ◌∷◌,
  ◌++◌,
  length,
  Option,
  Some,
  None,
  refl,
  ap,
  sym,
  ◌∙◌,
  arith,
  append_assoc,
  append-nil,
  length-append,
  unwrap_or,
  slice_get,
}
use Rattle.php_tree.specs.declared.kind.NodeKind.{NodeKind}
use Rattle.php_tree.specs.Tree.{Forest, none, leaf, node, Tree, count}
use Rattle.tracked_changes.specs.patches.Patches.{Patches, Wrapping}
use Rattle.tracked_changes.specs.Draft.{new_leaf}
use Rattle.tracked_changes.specs.Walk.{drafted}
use Rattle.syntax_rules.specs.declared.rules.Rules.{Rules}
use Rattle.syntax_rules.specs.Around.{Around, within, at_top, kind_if_first}
use Rattle.syntax_rules.specs.NestedTernary as nested
use Rattle.syntax_rules.specs.DotPrecedence.{is_regrouped, around_dot}
use Rattle.syntax_rules.specs.Together.{Choice, every_rule, rewriting, token_by}
use Rattle.syntax_rules.specs.Rewritten.{wrapping, wrapping_by, wrappings_by, patches, patches_by}
use Rattle.syntax_rules.specs.InContext.{draft_in, is_nested, nests_in, parens_if, parts_by}

around_is : (o : Option NodeKind) (k : NodeKind) → nested.around o k ≡ parens_if (nests_in o k)
around_is None k = refl
around_is (Some o) k = refl

if_on : (is_on b : Bool) → (if is_on then parens_if b else []) ≡ parens_if (is_on && b)
if_on true b = refl
if_on false b = refl

-- first those round a nested ternary, then those round a `.`
pub wrapping_by_is : (r : Rules) (a : Option Around) (t : Tree)
    → wrapping_by r a t ≡ parens_if (r.nested_ternaries && is_nested a t.0) ++ parens_if (r.dot_operands && is_regrouped a t)
wrapping_by_is r a t =
    ap (λ (ws : List Wrapping). (if r.nested_ternaries then ws else []) ++ (if r.dot_operands then around_dot a t else []))
    (around_is (kind_if_first a) t.0)
    ∙ ap (λ (ws : List Wrapping). ws ++ (if r.dot_operands then around_dot a t else [])) (if_on r.nested_ternaries (is_nested a t.0))
    ∙ ap (λ (ws : List Wrapping). parens_if (r.nested_ternaries && is_nested a t.0) ++ ws) (if_on r.dot_operands (is_regrouped a t))

pub wrapping_is : (a : Option Around) (t : Tree) → wrapping a t ≡ parens_if (is_nested a t.0) ++ parens_if (is_regrouped a t)
wrapping_is a t = wrapping_by_is every_rule a t

-- ---- the table by numbers says the same as where nodes stand

abbrev table : List (List Wrapping) → Patches
table ws id = unwrap_or (slice_get ws id) []

abbrev chosen : Rules → Patches → Choice
chosen r wraps = record { wraps = wraps; rules = r }

at_length : (pre post : List (List Wrapping)) (w : List Wrapping) → table (pre ++ w ∷ post) (length pre) ≡ w
at_length [] post w = refl
at_length (x ∷ pre) post w = at_length pre post w

as_many : (r : Rules) (around : Bool → Option Around) (i : Bool) (f : Forest) → length (wrappings_by r around i f) ≡ count f
as_many r around i none = refl
as_many r around i (leaf t f) = as_many r around false f
as_many r around i (node k c f) =
    let h = as_many r (within k c) true c in
    let j = as_many r around false f in
    let l = length-append (wrappings_by r (within k c) true c) (wrappings_by r around false f) in
    omega (arith, h, j, l)

drafted_in : (r : Rules) (all pre post : List (List Wrapping)) (around : Bool → Option Around) (i : Bool) (f : Forest) (id : ℕ)
    → id ≡ length pre → all ≡ pre ++ (wrappings_by r around i f ++ post)
    → drafted (rewriting (chosen r (table all))) id f ≡ parts_by r around i f
drafted_in r all pre post around i none id h e = refl
drafted_in r all pre post around i (leaf t f) id h e =
    ap (new_leaf (token_by r t)) (drafted_in r all pre post around false f id h e)
drafted_in r all pre post around i (node k c f) id h e =
    let w = wrapping_by r (around i) (k, c) in
    let inner = wrappings_by r (within k c) true c in
    let outer = wrappings_by r around false f in
    let own : table all id ≡ w =
    rw h (ap (λ (ws : List (List Wrapping)). table ws (length pre)) (e ∙ ap (λ (ws : List (List Wrapping)). pre ++ w ∷ ws) (append_assoc inner outer post))
    ∙ at_length pre (inner ++ (outer ++ post)) w) in
    let first : drafted (rewriting (chosen r (table all))) (suc id) c ≡ parts_by r (within k c) true c =
    drafted_in r all (pre ++ w ∷ []) (outer ++ post) (within k c) true c (suc id)
    (let l = length-append pre (w ∷ []) in omega (arith, h, l)) (e ∙ simp append_assoc refl) in
    let second : drafted (rewriting (chosen r (table all))) (suc (id + count c)) f ≡ parts_by r around false f =
    drafted_in r all (pre ++ w ∷ inner) post around false f (suc (id + count c))
    (let l = length-append pre (w ∷ inner) in let m = as_many r (within k c) true c in omega (arith, h, l, m))
    (e ∙ simp append_assoc refl) in
    rw (own, first, second) refl

pub drafted_by_is : (r : Rules) (f : Forest) → drafted (rewriting (chosen r (patches_by r f))) 0 f ≡ parts_by r at_top true f
drafted_by_is r f = drafted_in r (wrappings_by r at_top true f) [] [] at_top true f 0 refl (sym (append-nil (wrappings_by r at_top true f)))

pub drafted_is : (f : Forest) → drafted (rewriting (chosen every_rule (patches f))) 0 f ≡ draft_in at_top true f
drafted_is f = drafted_by_is every_rule f
