-- How bytes that go on alike are joined.
use Rattle.std.proofs.Common.{◌≡◌, ℕ, true, false, nat_eq, List, [], ◌∷◌, ◌++◌, refl}
use Rattle.php_spellings.specs.Bytes.{is_space}
use Rattle.php_relexing.specs.Tiles.{is_far, begins_words}
use Rattle.php_relexing.specs.Alike.{Alike, ended, same, is_tight, AlikeJoins}

front : (u r s : List ℕ) → Alike r s → Alike (u ++ r) (u ++ s)
front [] r s h = h
front (b ∷ u) r s h = same b (front u r s h)

itself : (s : List ℕ) → Alike s s
itself [] = ended
itself (b ∷ s) = same b (itself s)

plain : (b : ℕ) (bs : List ℕ) → is_far b ≡ false → begins_words b ≡ false → is_space b ≡ false → nat_eq b 63 ≡ false → is_tight b bs ≡ true
plain b bs p q r t = rw (p, q, r, t) refl

pub alike_joins : AlikeJoins
alike_joins = record { front = front; itself = itself; longer = λ b z a r s. refl; plain = plain }
