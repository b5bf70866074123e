-- Edges of expressions, by how many parts they have.
use Rattle.std.proofs.Common.{◌≡◌, ℕ, List, [], ◌∷◌, ◌++◌, Some, None, refl, ap}
use Rattle.program_points.specs.declared.point.Point.TheVariants.{Before, After}
use Rattle.program_points.specs.Rows.{Edge, edge, in_order, maybe_second, one_of_two}
use Rattle.program_points.specs.Chosen.{pair_of, three_of}

pub second_of_none : (n : ℕ) (xs : List ℕ) → pair_of xs ≡ None → maybe_second n xs ≡ in_order n xs
second_of_none n [] e = refl
second_of_none n (a ∷ []) e = refl
second_of_none n (a ∷ b ∷ []) e = cc
second_of_none n (a ∷ b ∷ c ∷ more) e = refl

pub second_of_pair : (n : ℕ) (xs : List ℕ) (a b : ℕ) → pair_of xs ≡ Some (a, b) → maybe_second n xs
    ≡ edge n (Before n) (Before a) ++ edge n (After a) (Before b) ++ edge n (After a) (After n) ++ edge n (After b) (After n)
second_of_pair n [] a b e = cc
second_of_pair n (x ∷ []) a b e = cc
second_of_pair n (x ∷ y ∷ []) a b e =
    let f : (x, y) ≡ (a, b) = cc in
    let edges_of : ℕ × ℕ → List Edge = λ q. edge n (Before n) (Before q.0) ++ edge n (After q.0) (Before q.1) ++ edge n (After q.0) (After n) ++ edge n (After q.1) (After n) in
    ap edges_of f
second_of_pair n (x ∷ y ∷ z ∷ more) a b e = cc

pub one_of_none : (n : ℕ) (xs : List ℕ) → three_of xs ≡ None → one_of_two n xs ≡ in_order n xs
one_of_none n [] e = refl
one_of_none n (a ∷ []) e = refl
one_of_none n (a ∷ b ∷ []) e = refl
one_of_none n (a ∷ b ∷ c ∷ []) e = cc
one_of_none n (a ∷ b ∷ c ∷ d ∷ more) e = refl

pub one_of_three : (n : ℕ) (xs : List ℕ) (a b c : ℕ) → three_of xs ≡ Some (a, b, c) → one_of_two n xs
    ≡ edge n (Before n) (Before a) ++ edge n (After a) (Before b) ++ edge n (After b) (After n)
    ++ edge n (After a) (Before c) ++ edge n (After c) (After n)
one_of_three n [] a b c e = cc
one_of_three n (x ∷ []) a b c e = cc
one_of_three n (x ∷ y ∷ []) a b c e = cc
one_of_three n (x ∷ y ∷ z ∷ []) a b c e =
    let f : (x, y, z) ≡ (a, b, c) = cc in
    let edges_of : ℕ × ℕ × ℕ → List Edge = λ q. edge n (Before n) (Before q.0) ++ edge n (After q.0) (Before q.1) ++ edge n (After q.1) (After n)
    ++ edge n (After q.0) (Before q.2) ++ edge n (After q.2) (After n) in
    ap edges_of f
one_of_three n (x ∷ y ∷ z ∷ w ∷ more) a b c e = cc
