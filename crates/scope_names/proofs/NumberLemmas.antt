-- Declarations are numbered without a gap.
use Rattle.std.proofs.Common.{◌≡◌, ℕ, zero, suc, ◌+◌, Bool, true, false, ◌∷◌, ◌++◌, refl, sym, ◌∙◌, ap, arith}
use Rattle.php_tree.specs.Tree.{none, leaf, node}
use Rattle.scope_names.specs.Numbers.{counted, numbers, number_if, DeclarationsAreNumbered}
use Rattle.scope_names.specs.Sites.{is_declaration, declarations, one_if, within, beside}

-- numbers in two runs
counted-add : (from m n : ℕ) → counted from (m + n) ≡ counted from m ++ counted (m + from) n
counted-add from zero n =
    let left : zero + n ≡ n = omega arith in
    let right : zero + from ≡ from = omega arith in
    rw left (rw right refl)
counted-add from (suc m) n =
    let left : suc m + n ≡ suc (m + n) = omega arith in
    let right : suc m + from ≡ m + suc from = omega arith in
    rw left (rw right (ap (λ xs. from ∷ xs) (counted-add (suc from) m n)))

counted-one_if : (b : Bool) (from n : ℕ) → counted from (one_if b n) ≡ number_if b from ++ counted (one_if b from) n
counted-one_if true from n = refl
counted-one_if false from n = refl

one_if-add : (b : Bool) (n m : ℕ) → n + one_if b m ≡ one_if b n + m
one_if-add true n m = omega arith
one_if-add false n m = refl

pub declarations_are_numbered : DeclarationsAreNumbered
declarations_are_numbered s none = refl
declarations_are_numbered s (leaf t f) = declarations_are_numbered s f
declarations_are_numbered s (node k c f) =
    ap (λ xs. number_if (is_declaration k) s.number ++ xs ++ numbers (beside k c s) f) (declarations_are_numbered (within k c s) c)
    ∙ ap (λ xs. number_if (is_declaration k) s.number ++ counted (one_if (is_declaration k) s.number) (declarations c) ++ xs)
    (declarations_are_numbered (beside k c s) f)
    ∙ ap (λ xs. xs ++ counted (one_if (is_declaration k) (declarations c) + s.number) (declarations f)) (sym (counted-one_if (is_declaration k) s.number (declarations c)))
    ∙ sym (counted-add s.number (one_if (is_declaration k) (declarations c)) (declarations f))
