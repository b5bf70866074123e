-- Numbers that stay.
use Rattle.std.specs.List.{AllZip}
use Rattle.std.proofs.Common.{◌≡◌, ℕ, List, [], ◌∷◌, ◌++◌, refl, ap}
use Rattle.node_facts.specs.declared.slot_name.SlotName.{SlotName}
use Rattle.program_names.specs.declared.slot_id.SlotId.{SlotId}
use Rattle.slot_numbers.specs.Growing.{Keeps}
use Rattle.slot_numbers.specs.Keys.{Key, key_of, keys_of_pair, keys_of_pairs, keys_of_slots}
use Rattle.slot_numbers.specs.Numbered.{AreNumbered, ArePairsNumbered, IsNumbered, IsPairNumbered}

pub all_then : {A B : Type 0} (R Q : A → B → Type 0) → ((x : A) (y : B) → R x y → Q x y) → (xs : List A) (ys : List B) → AllZip R xs ys → AllZip Q xs ys
all_then R Q f [] [] h = h
all_then R Q f [] (y ∷ ys) h = h
all_then R Q f (x ∷ xs) [] h = h
all_then R Q f (x ∷ xs) (y ∷ ys) h = (f x y h.0, all_then R Q f xs ys h.1)

pub all_push : {A B : Type 0} (R : A → B → Type 0) (xs : List A) (ys : List B) (x : A) (y : B) → AllZip R xs ys → R x y → AllZip R (xs ++ x ∷ []) (ys ++ y ∷ [])
all_push R [] [] x y h r = (r, tt)
all_push R [] (z ∷ ys) x y h r = absurd h
all_push R (w ∷ xs) [] x y h r = absurd h
all_push R (w ∷ xs) (z ∷ ys) x y h r = (h.0, all_push R xs ys x y h.1 r)

pub numbered_later : (ks js : List Key) (f : ℕ) (ss : List SlotName) (is : List SlotId) → Keeps ks js → AreNumbered ks f ss is → AreNumbered js f ss is
numbered_later ks js f ss is h n = all_then (IsNumbered ks f) (IsNumbered js f) (λ s i e. h i.0 (key_of f s) e) ss is n

pub pairs_later : (ks js : List Key) (f : ℕ) (ps : List (SlotName × SlotName)) (is : List (SlotId × SlotId)) → Keeps ks js
    → ArePairsNumbered ks f ps is → ArePairsNumbered js f ps is
pairs_later ks js f ps is h n =
    all_then (IsPairNumbered ks f) (IsPairNumbered js f) (λ p i e. (h i.0.0 (key_of f p.0) e.0, h i.1.0 (key_of f p.1) e.1)) ps is n

pub slots_more : (f : ℕ) (ss : List SlotName) (s : SlotName) → keys_of_slots f (ss ++ s ∷ []) ≡ keys_of_slots f ss ++ key_of f s ∷ []
slots_more f [] s = refl
slots_more f (x ∷ ss) s = ap (λ (ks : List Key). key_of f x ∷ ks) (slots_more f ss s)

pub pairs_more : (f : ℕ) (ps : List (SlotName × SlotName)) (p : SlotName × SlotName) → keys_of_pairs f (ps ++ p ∷ []) ≡ keys_of_pairs f ps ++ keys_of_pair f p
pairs_more f [] p = refl
pairs_more f (x ∷ ps) p = ap (λ (ks : List Key). key_of f x.0 ∷ key_of f x.1 ∷ ks) (pairs_more f ps p)
