-- A name is found among the rows of its own length.
use Rattle.std.proofs.Common.{◌≡◌, ℕ, suc, Bool, true, false, cond, ◌&&◌, nat_eq, List, [], ◌∷◌, length, map, refl, sym, ap, ◌∙◌}
use Rattle.std.proofs.lemmas.Bool.{eq-eqb}
use Rattle.std.proofs.lemmas.List.{length-map}
use Rattle.std.specs.Prelude.{Some}
use Rattle.std.specs.Char.{to_ascii_lowercase}
use Rattle.std.specs.Cmp.Lexicographic.{pointwise}
use Rattle.std.specs.Str.{bytes_eq}
use Rattle.builtin_tables.specs.Named.{found, found_by, found_exactly, is_same_name, of_length}

and_second : (x y : Bool) → (x && y) ≡ true → y ≡ true
and_second true y e = e
and_second false y e = absurd cc

-- lists that agree item by item have one length
same_length : (E : ℕ → ℕ → Bool) (xs ys : List ℕ) → pointwise E xs ys ≡ true → length xs ≡ length ys
same_length E [] [] e = refl
same_length E [] (y ∷ ys) e = absurd cc
same_length E (x ∷ xs) [] e = absurd cc
same_length E (x ∷ xs) (y ∷ ys) e = ap suc (same_length E xs ys (and_second (E x y) (pointwise E xs ys) e))

-- names that are one have one length
one_length : (xs ys : List ℕ) → is_same_name xs ys ≡ true → length xs ≡ length ys
unfolding is_same_name
one_length xs ys e =
    sym (length-map xs to_ascii_lowercase) ∙ same_length nat_eq (map to_ascii_lowercase xs) (map to_ascii_lowercase ys) e ∙ length-map ys to_ascii_lowercase

-- a row that the name isn't passes on what is found behind it, whether its length is another or not
passed_on : {A : Type 0} (same : List ℕ → List ℕ → Bool) (r : List ℕ × A) (rs more : List (List ℕ × A))
    (name : List ℕ) → found_by same more name ≡ found_by same rs name → (x y : Bool) → same r.0 name ≡ x
    → (x ≡ true → y ≡ true) → found_by same (cond y (r ∷ more) more) name ≡ cond x (Some r.1) (found_by same rs name)
passed_on same r rs more name ih true true e f = rw e refl
passed_on same r rs more name ih true false e f = let h : false ≡ true = f refl in absurd cc
passed_on same r rs more name ih false true e f = rw (e, ih) refl
passed_on same r rs more name ih false false e f = ih

among : {A : Type 0} (same : List ℕ → List ℕ → Bool) → ((a b : List ℕ) → same a b ≡ true → length a ≡ length b)
    → (rows : List (List ℕ × A)) (name : List ℕ) → found_by same (of_length (length name) rows) name ≡ found_by same
    rows name
among same h [] name = refl
among same h (r ∷ rs) name =
    passed_on same r rs (of_length (length name) rs) name (among same h rs name) (same r.0 name) (nat_eq (length r.0) (length name)) refl
    (λ e. eq-eqb (length r.0) (length name) (h r.0 name e))

pub found_in_length : {A : Type 0} (rows : List (List ℕ × A)) (name : List ℕ) → found (of_length (length name) rows) name ≡ found rows name
found_in_length rows name = among is_same_name one_length rows name

pub found_exactly_in_length : {A : Type 0} (rows : List (List ℕ × A)) (name : List ℕ) → found_exactly (of_length (length name) rows) name ≡ found_exactly rows name
found_exactly_in_length rows name = among bytes_eq (λ xs ys e. same_length nat_eq xs ys e) rows name
