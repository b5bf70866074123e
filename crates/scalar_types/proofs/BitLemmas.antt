-- Lemmas about sets of bits.
use Rattle.std.proofs.Common.{◌≡◌, ℕ, ap, arith, bit_and, bit_or}
use Rattle.std.specs.Int.{bit_at}
use Rattle.std.proofs.lemmas.Nat.Bits.{bit_at_and, bit_at_or, same_from_bits}
use Rattle.scalar_types.specs.Order.{BitsAmong}

pub BitsAmong-from_and : (a b : ℕ) → bit_and a b ≡ a → BitsAmong a b
BitsAmong-from_and a b e = record { each = λ k. omega (arith, bit_at_and a b k, ap (λ n. bit_at n k) e) }

pub and-from_BitsAmong : (a b : ℕ) → BitsAmong a b → bit_and a b ≡ a
and-from_BitsAmong a b h = same_from_bits (bit_and a b) a (λ k. omega (arith, bit_at_and a b k, h.each k))

pub BitsAmong-refl : (a : ℕ) → BitsAmong a a
BitsAmong-refl a = record { each = λ k. omega arith }

pub BitsAmong-trans : (a b c : ℕ) → BitsAmong a b → BitsAmong b c → BitsAmong a c
BitsAmong-trans a b c h k = record { each = λ i. omega (arith, h.each i, k.each i) }

pub same_from_BitsAmong : (a b : ℕ) → BitsAmong a b → BitsAmong b a → a ≡ b
same_from_BitsAmong a b h k = same_from_bits a b (λ i. omega (arith, h.each i, k.each i))

pub BitsAmong-or_left : (a b : ℕ) → BitsAmong a (bit_or a b)
BitsAmong-or_left a b = record { each = λ k. omega (arith, bit_at_or a b k) }

pub BitsAmong-or_right : (a b : ℕ) → BitsAmong b (bit_or a b)
BitsAmong-or_right a b = record { each = λ k. omega (arith, bit_at_or a b k) }

pub BitsAmong-or : (a b c : ℕ) → BitsAmong a c → BitsAmong b c → BitsAmong (bit_or a b) c
BitsAmong-or a b c h k = record { each = λ i. omega (arith, bit_at_or a b i, h.each i, k.each i) }

pub BitsAmong-and : (a b c : ℕ) → BitsAmong c a → BitsAmong c b → BitsAmong c (bit_and a b)
BitsAmong-and a b c h k = record { each = λ i. omega (arith, bit_at_and a b i, h.each i, k.each i) }
