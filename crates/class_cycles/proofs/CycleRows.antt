-- Cycles of classes, worked out by hand.
use Rattle.std.proofs.Common.{◌≡◌, ℕ, List, [], ◌∷◌, codes, refl, arith}
use Rattle.std.specs.Prelude.{Contains, Option, Some, None}
use Rattle.std.specs.Ordering.{nat_cmp}
use Rattle.std.specs.declared.cmp.Ordering.TheVariants.{Less}
use Rattle.std.specs.Cmp.Lexicographic.{slice_cmp}
use Rattle.php_tree.specs.declared.kind.NodeKind.TheVariants as kind
use Rattle.php_tree.specs.declared.token.TokenKind.TheVariants as token
use Rattle.php_tree.specs.Tree.{Forest, none, leaf, node}
use Rattle.node_names.specs.declared.name_sort.NameSort.TheVariants as sort
use Rattle.node_names.specs.Facts.{Fact, file_facts}
use Rattle.file_declarations.specs.declared.node_ref.NodeRef.{NodeRef}
use Rattle.program_names.specs.Table.{Table, Extends, IsCycle, fact_at}
use Rattle.program_names.specs.Told.{all_told}
use Rattle.graph_search.specs.Graph.{pair}
use Rattle.class_cycles.specs.Names.{linked, pairs_of}
use Rattle.class_cycles.specs.Others.{others_in}

abbrev key : List ℕ → Forest → Forest
key w f = leaf (record { kind = token.Keyword; lead = []; text = w; start = 0 }) f

abbrev op : List ℕ → Forest → Forest
op w f = leaf (record { kind = token.Op; lead = []; text = w; start = 0 }) f

abbrev label : List ℕ → Forest → Forest
label w f = leaf (record { kind = token.Label; lead = []; text = w; start = 0 }) f

-- W extends V { }
abbrev extending : List ℕ → List ℕ → Forest
extending w v = label w (key (codes "extends") (label v (op (codes "{") (op (codes "}") none))))

-- class W extends V { }, one node
abbrev class : List ℕ → List ℕ → Forest → Forest
class w v f = node kind.Class (key (codes "class") (extending w v)) f

-- interface W extends V { }, one node
abbrev interface : List ℕ → List ℕ → Forest → Forest
interface w v f = node kind.Interface (key (codes "interface") (extending w v)) f

-- what a node tells of one class and one that it extends
abbrev Tells : Option Fact → List ℕ → List ℕ → Type 0
Tells None w v = ⊥
Tells (Some x) w v = Contains x.declares (record { sort = sort.Class; text = w }) × Contains x.extends v

extends_at : (t : Table) (at : NodeRef) (w v : List ℕ) → Tells (fact_at t at) w v → Extends t w v
extends_at t at w v h = from (fact_at t at) refl h
  where
    from : (o : Option Fact) → fact_at t at ≡ o → Tells o w v → Extends t w v
    from None e k = absurd k
    from (Some x) e k = record { at = at; fact = x; is = e; declares = k.0; extends = k.1 }

abbrev at : ℕ → NodeRef
at n = record { file = 0; node = n }

-- class A extends B { }  class B extends A { }
abbrev two : Table
two = file_facts (codes "a.php") (class (codes "A") (codes "B") (class (codes "B") (codes "A") none)) ∷ []

two_linked : linked (all_told two) ≡ codes "a" ∷ codes "b" ∷ codes "b" ∷ codes "a" ∷ []
two_linked = refl

two_pairs : pairs_of (codes "a" ∷ codes "b" ∷ []) (all_told two) ≡ pair 0 1 ∷ pair 1 0 ∷ []
two_pairs = refl

two_others : others_in (all_told two) ≡ codes "a" ∷ codes "b" ∷ []
two_others = refl

cycle_of_two : IsCycle two (codes "a" ∷ codes "b" ∷ [])
cycle_of_two = (
  (refl, tt),
  ((λ c. omega (arith, c.1)), tt),
  (
    extends_at two (at 0) (codes "a") (codes "b") ((0, omega arith, refl), (0, omega arith, refl)),
    extends_at two (at 1) (codes "b") (codes "a") ((0, omega arith, refl), (0, omega arith, refl)),
  ),
)

-- class A extends A { }
abbrev own : Table
own = file_facts (codes "a.php") (class (codes "A") (codes "A") none) ∷ []

cycle_of_one : IsCycle own (codes "a" ∷ [])
cycle_of_one = (tt, tt, extends_at own (at 0) (codes "a") (codes "a") ((0, omega arith, refl), (0, omega arith, refl)))

-- interface A extends B { }  interface B extends C { }  interface C extends A { }
abbrev three : Table
three =
    file_facts (codes "a.php") (interface (codes "A") (codes "B") (interface (codes "B") (codes "C") (interface (codes "C") (codes "A") none))) ∷ []

three_pairs : pairs_of (codes "a" ∷ codes "b" ∷ codes "c" ∷ []) (all_told three) ≡ pair 0 1 ∷ pair 1 2 ∷ pair 2 0 ∷ []
three_pairs = refl

-- of the cycles `a b c` and `a c` the longer one comes first, and of `a b` and `a b c` the shorter one
longer_first : slice_cmp (slice_cmp nat_cmp) (codes "a" ∷ codes "b" ∷ codes "c" ∷ []) (codes "a" ∷ codes "c" ∷ []) ≡ Less
longer_first = refl

shorter_first : slice_cmp (slice_cmp nat_cmp) (codes "a" ∷ codes "b" ∷ []) (codes "a" ∷ codes "b" ∷ codes "c" ∷ []) ≡ Less
shorter_first = refl
