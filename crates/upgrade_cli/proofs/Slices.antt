-- What is written back behind a slice of a whole list.
use Rattle.std.proofs.Common.{◌≡◌, ℕ, List, ◌++◌, length, take, subst}
use Rattle.std.proofs.Math.Seq.{take-append_seam}

pub written_back : {X : Type 0} (n : ℕ) (xs ys : List X) → length xs ≡ n → take n (xs ++ ys) ≡ xs
written_back n xs ys e = subst (λ m. take m (xs ++ ys) ≡ xs) e (take-append_seam xs ys)
