-- The rules that group put parentheses round expressions alone.
use Rattle.std.proofs.Common.{
  ◌≡◌,
  ℕ,
  zero,
  suc,
  ◌+◌,
  ◌<◌,
  Bool,
  true,
  false,
  ◌&&◌,
  ◌||◌,
  cond,
  IsTrue,
  List,
  [],
  ◌∷◌,
  ◌++◌,
  length,
  Option,
  Some,
  None,
  refl,
  ap,
  sym,
  ◌∙◌,
  subst,
  arith,
  length-append,
  add-zero,
  zero-add,
}
use Rattle.php_tree.specs.declared.kind.NodeKind.{NodeKind}
use Rattle.php_tree.specs.declared.kind.NodeKind.TheVariants as kind
use Rattle.php_tree.specs.Tree.{Forest, none, leaf, node, Tree, count}
use Rattle.tracked_changes.specs.patches.Patches.{Patches, Wrapping, InParens}
use Rattle.php_meaning.specs.runs.Kinds.{is_expression}
use Rattle.syntax_rules.specs.declared.rules.Rules.{Rules}
use Rattle.syntax_rules.specs.Around.{Around, within, at_top, kind_if_first}
use Rattle.syntax_rules.specs.NestedTernary.{around}
use Rattle.syntax_rules.specs.DotPrecedence.{is_regrouped, around_dot, is_dot, takes_apart}
use Rattle.syntax_rules.specs.Rewritten.{wrapping_by, wrappings_by, patches_by}
use Rattle.syntax_rules.proofs.Regrouped.{entry, entry-within, entry-behind}
use Rattle.syntax_rules.proofs.ParenLemmas.{MayWrap, around_expressions}
use Rattle.syntax_rules.proofs.Walked.{Wraps}

-- ---- one node

both_wrap : (ws vs : List Wrapping) (k : NodeKind) → MayWrap ws k → MayWrap vs k → MayWrap (ws ++ vs) k
both_wrap [] vs k a b = b
both_wrap (w ∷ ws) vs k a b = a

dot_wraps : (b : Bool) (k : NodeKind) → (b ≡ true → IsTrue (is_expression k)) → MayWrap (cond b (InParens ∷ []) []) k
dot_wraps true k h = h refl
dot_wraps false k h = tt

binary_dot : (k : NodeKind) (c : Forest) (b : Bool) → (is_dot (k, c) && b) ≡ true → IsTrue (is_expression k)
binary_dot kind.Binary c b h = refl
binary_dot k c b h = cc

around_dot_wraps : (a : Option Around) (k : NodeKind) (c : Forest) → MayWrap (around_dot a (k, c)) k
around_dot_wraps None k c = tt
around_dot_wraps (Some a) k c = dot_wraps (is_dot (k, c) && takes_apart a) k (binary_dot k c (takes_apart a))

wraps_if : (b : Bool) (ws : List Wrapping) (k : NodeKind) → MayWrap ws k → MayWrap (cond b ws []) k
wraps_if true ws k h = h
wraps_if false ws k h = tt

wrapping_wraps : (r : Rules) (a : Option Around) (k : NodeKind) (c : Forest) → MayWrap (wrapping_by r a (k, c)) k
wrapping_wraps r a k c =
    let nested = around (kind_if_first a) k in
    let dot = around_dot a (k, c) in
    both_wrap (cond r.nested_ternaries nested []) (cond r.dot_operands dot []) k
    (wraps_if r.nested_ternaries nested k (around_expressions (kind_if_first a) k)) (wraps_if r.dot_operands dot k (around_dot_wraps a k c))

-- ---- the table

length-wrappings : (r : Rules) (a : Bool → Option Around) (i : Bool) (f : Forest) → length (wrappings_by r a i f) ≡ count f
length-wrappings r a i none = refl
length-wrappings r a i (leaf t f) = length-wrappings r a false f
length-wrappings r a i (node k c f) =
    ap suc (length-append (wrappings_by r (within k c) true c) (wrappings_by r a false f))
    ∙ omega (arith, length-wrappings r (within k c) true c, length-wrappings r a false f)

-- a table that has the forest's wrappings from a number on
abbrev Agrees : Rules → Patches → ℕ → (Bool → Option Around) → Bool → Forest → Type 0
Agrees r p id a i f = (j : ℕ) → j < count f → p (id + j) ≡ entry (wrappings_by r a i f) j

agrees_inside : (r : Rules) (p : Patches) (id : ℕ) (a : Bool → Option Around) (i : Bool) (k : NodeKind) (c f : Forest)
    → Agrees r p id a i (node k c f) → Agrees r p (suc id) (within k c) true c
agrees_inside r p id a i k c f h j below =
    ap p (omega arith) ∙ h (suc j) (omega arith)
    ∙ entry-within (wrappings_by r (within k c) true c) (wrappings_by r a false f) j (omega (arith, length-wrappings r (within k c) true c))

agrees_after : (r : Rules) (p : Patches) (id : ℕ) (a : Bool → Option Around) (i : Bool) (k : NodeKind) (c f : Forest)
    → Agrees r p id a i (node k c f) → Agrees r p (suc (id + count c)) a false f
agrees_after r p id a i k c f h j below =
    ap p (omega arith) ∙ h (suc (count c + j)) (omega arith)
    ∙ entry-behind (wrappings_by r (within k c) true c) (wrappings_by r a false f) (count c + j) j (omega (arith, length-wrappings r (within k c) true c))

wraps_by : (r : Rules) (p : Patches) (id : ℕ) (a : Bool → Option Around) (i : Bool) (f : Forest) → Agrees r p id a i f → Wraps p id f
wraps_by r p id a i none h = tt
wraps_by r p id a i (leaf t f) h = wraps_by r p id a false f h
wraps_by r p id a i (node k c f) h = (
  subst (λ ws. MayWrap ws k) (sym (ap p (sym (add-zero id)) ∙ h 0 (omega arith))) (wrapping_wraps r (a i) k c),
  wraps_by r p (suc id) (within k c) true c (agrees_inside r p id a i k c f h),
  wraps_by r p (suc (id + count c)) a false f (agrees_after r p id a i k c f h),
)

-- the table of a file
pub table_wraps : (r : Rules) (f : Forest) → Wraps (patches_by r f) 0 f
table_wraps r f = wraps_by r (patches_by r f) 0 at_top true f (λ j h. ap (patches_by r f) (zero-add j))
