-- Lines put one behind another.
use Rattle.std.proofs.Common.{◌≡◌, ℕ, List, [], ◌∷◌, ◌++◌, refl, append_assoc}
use Rattle.review_answers.specs.Answers.{crlf, lines}

pub five_lines : (s a l b t0 t1 t2 t3 t4 t5 : List ℕ) → t0 ≡ [] → t1 ≡ t0 ++ (s ++ crlf) → t2 ≡ t1 ++ (a ++ crlf)
    → t3 ≡ t2 ++ (l ++ crlf) → t4 ≡ t3 ++ (b ++ crlf) → t5 ≡ t4 ++ ([] ++ crlf)
    → t5 ≡ lines (s ∷ a ∷ l ∷ b ∷ [] ∷ [])
five_lines s a l b t0 t1 t2 t3 t4 t5 e0 e1 e2 e3 e4 e5 =
    rw e5 (rw e4 (rw e3 (rw e2 (rw e1 (rw e0 (simp append_assoc refl))))))
