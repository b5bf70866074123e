-- Bytes of a list, one by one.
use Rattle.std.proofs.Common.{◌≡◌, ℕ, Bool, true, false, nat_eq, ◌&&◌, ◌||◌, List, [], ◌∷◌, refl, sym, subst}
use Rattle.std.proofs.lemmas.Bool.{eqb-true, and_parts}
use Rattle.php_relexing.specs.Alike.{is_among}

abbrev pub AllOf : (ℕ → Type 0) → List ℕ → Type 0
AllOf P [] = Unit {0}
AllOf P (x ∷ xs) = P x × (AllOf P xs)

by_first : (P : ℕ → Type 0) (b x : ℕ) (more : Bool) (t : Bool) → nat_eq b x ≡ t → P x → (more ≡ true → P b) → (t || more) ≡ true → P b
by_first P b x more true p here later e = subst P (sym (eqb-true b x p)) here
by_first P b x more false p here later e = later e

-- what is true of each of the bytes
pub each : (P : ℕ → Type 0) (xs : List ℕ) → AllOf P xs → (b : ℕ) → is_among xs b ≡ true → P b
each P [] h b e = absurd cc
each P (x ∷ xs) h b e = by_first P b x (is_among xs b) (nat_eq b x) refl h.0 (each P xs h.1 b) e

-- whether each of the bytes passes a test
abbrev pub every : (ℕ → Bool) → List ℕ → Bool
every p [] = true
every p (x ∷ xs) = p x && every p xs

every_by : (p : ℕ → Bool) (b x : ℕ) (more : Bool) (t : Bool) → nat_eq b x ≡ t → p x ≡ true → (more ≡ true → p b ≡ true) → (t || more) ≡ true → p b ≡ true
every_by p b x more true q here later e = subst (λ (y : ℕ). p y ≡ true) (sym (eqb-true b x q)) here
every_by p b x more false q here later e = later e

pub every_is : (p : ℕ → Bool) (xs : List ℕ) → every p xs ≡ true → (b : ℕ) → is_among xs b ≡ true → p b ≡ true
every_is p [] h b e = absurd cc
every_is p (x ∷ xs) h b e =
    let (here, more) = and_parts (p x) (every p xs) h in
    every_by p b x (is_among xs b) (nat_eq b x) refl here (every_is p xs more b) e
