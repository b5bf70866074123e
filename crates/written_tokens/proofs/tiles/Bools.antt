-- Truth values.
use Rattle.std.proofs.Common.{◌≡◌, Bool, true, false, not, ◌&&◌, ◌||◌, refl}

pub and_true : (x : Bool) → (x && true) ≡ x
and_true true = refl
and_true false = refl

pub or_none : (x : Bool) → (x || false) ≡ x
or_none true = refl
or_none false = refl

pub and_not_or : (x y z : Bool) → (x && not (y || z)) ≡ ((x && not y) && not z)
and_not_or true true z = refl
and_not_or true false z = refl
and_not_or false y z = refl

pub never : (t x : Bool) → (t && false) ≡ true → x ≡ true
never true x h = absurd cc
never false x h = absurd cc

-- a disjunction of seven
pub out_of : (P : Type 0) (a b c d e f g : Bool) → (a ≡ true → P) → (b ≡ true → P) → (c ≡ true → P) → (d ≡ true → P)
    → (e ≡ true → P) → (f ≡ true → P) → (g ≡ true → P) → (a || b || c || d || e || f || g) ≡ true → P
out_of P true b c d e f g k l m n o p q h = k refl
out_of P false true c d e f g k l m n o p q h = l refl
out_of P false false true d e f g k l m n o p q h = m refl
out_of P false false false true e f g k l m n o p q h = n refl
out_of P false false false false true f g k l m n o p q h = o refl
out_of P false false false false false true g k l m n o p q h = p refl
out_of P false false false false false false true k l m n o p q h = q refl
out_of P false false false false false false false k l m n o p q h = absurd cc

-- none of eight
pub record NoneOf (a b c d e f g h : Bool) : Type 0 where
  pub one : a ≡ false
  pub two : b ≡ false
  pub three : c ≡ false
  pub four : d ≡ false
  pub five : e ≡ false
  pub six : f ≡ false
  pub seven : g ≡ false
  pub eight : h ≡ false

pub none_of : (a b c d e f g h : Bool) → not (a || b || c || d || e || f || g || h) ≡ true → NoneOf a b c d e f g h
none_of true b c d e f g h k = absurd cc
none_of false true c d e f g h k = absurd cc
none_of false false true d e f g h k = absurd cc
none_of false false false true e f g h k = absurd cc
none_of false false false false true f g h k = absurd cc
none_of false false false false false true g h k = absurd cc
none_of false false false false false false true h k = absurd cc
none_of false false false false false false false true k = absurd cc
none_of false false false false false false false false k =
    record { one = refl; two = refl; three = refl; four = refl; five = refl; six = refl; seven = refl; eight = refl }
