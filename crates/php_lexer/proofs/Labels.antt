-- The label of a heredoc.
use Rattle.std.proofs.Common.{◌≡◌, ℕ, zero, suc, ◌+◌, ◌-◌, ◌≤◌, true, nat_le, List, [], ◌∷◌, length, take, drop, refl, sym, ap, ◌∙◌, arith}
use Rattle.std.proofs.lemmas.Bool.{le-leb}
use Rattle.std.proofs.lemmas.List.{drop-take}
use Rattle.php_spellings.specs.declared.table.Mark.TheVariants.{Here}
use Rattle.php_spellings.specs.Bytes.{label_len}
use Rattle.php_lexer.specs.Modes.{code, quoted, enter, label_place, label_of}
use Rattle.php_lexer.specs.Views.{cut}

pub drop_drop : (m n : ℕ) (bs : List ℕ) → drop n (drop m bs) ≡ drop (m + n) bs
drop_drop zero n bs = ap (λ (i : ℕ). drop i bs) (omega arith)
drop_drop (suc m) zero [] = let e : suc m + zero ≡ suc (m + zero) = omega arith in rw e refl
drop_drop (suc m) (suc n) [] = let e : suc m + suc n ≡ suc (m + suc n) = omega arith in rw e refl
drop_drop (suc m) n (b ∷ bs) = let e : suc m + n ≡ suc (m + n) = omega arith in rw e (drop_drop m n bs)

take_take : (a b : ℕ) (bs : List ℕ) → a ≤ b → take a (take b bs) ≡ take a bs
take_take zero b bs le = refl
take_take (suc a) zero bs le = absurd (omega arith)
take_take (suc a) (suc b) [] le = refl
take_take (suc a) (suc b) (x ∷ bs) le = ap (λ (u : List ℕ). x ∷ u) (take_take a b bs (omega arith))

-- a part of a text that stands at a place
pub cut_is : (bytes : List ℕ) (at len from size : ℕ) → at + len ≤ length bytes → from + size ≤ len
    → cut bytes (at + from) (at + (from + size)) ≡ take size (drop from (take len (drop at bytes)))
cut_is bytes at len from size le room =
    let first : nat_le (at + from) (at + (from + size)) ≡ true = le-leb (at + from) (at + (from + size)) (omega arith) in
    let second : nat_le (at + (from + size)) (length bytes) ≡ true = le-leb (at + (from + size)) (length bytes) (omega arith) in
    let count : at + (from + size) - (at + from) ≡ size = omega arith in
    let whole : len ≡ from + (len - from) = omega arith in
    let front : drop from (take len (drop at bytes)) ≡ take (len - from) (drop from (drop at bytes)) =
    ap (λ (n : ℕ). drop from (take n (drop at bytes))) whole ∙ drop-take from (len - from) (drop at bytes) in
    rw (first, second, count, front, take_take size (len - from) (drop from (drop at bytes)) (omega arith), drop_drop at from bytes) refl

pub label_is : (bytes : List ℕ) (at len from size : ℕ) → at + len ≤ length bytes → from + size ≤ len
    → from ≡ 1 + label_place (take len (drop at bytes)) → size ≡ label_len (drop from (take len (drop at bytes)))
    → cut bytes (at + from) (at + (from + size)) ≡ label_of (take len (drop at bytes))
label_is bytes at len from size le room p q =
    let text = take len (drop at bytes) in
    cut_is bytes at len from size le room ∙ ap (λ (n : ℕ). take n (drop from text)) q
    ∙ ap (λ (u : List ℕ). take (label_len u) u)
    (ap (λ (n : ℕ). drop n text) p ∙ sym (drop_drop 1 (label_place text) text))

pub start_is : (label other : List ℕ) → label ≡ other → enter (quoted Here label true) code ≡ enter (quoted Here other true) code
start_is label other e = ap (λ (u : List ℕ). enter (quoted Here u true) code) e
