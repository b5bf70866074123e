-- A read of bytes in memory.
use Rattle.std.proofs.Common.{◌≡◌, ℕ, ◌+◌, ◌-◌, ◌<◌, ◌≤◌, zero, suc, List, [], ◌∷◌, ◌++◌, length, take, drop, ap, sym, ◌∙◌, subst, arith, Some, refl}
use Rattle.std.proofs.Math.Seq.{take-add}
use Rattle.std.proofs.lemmas.List.{length-take-le, length-drop, take-append-drop, drop_all, drop-drop}
use Rattle.conn_ports.specs.Link.{Link, Takes, Reads}

-- the input, cut at a place
abbrev pub cut : ℕ → List ℕ → List ℕ → Link
cut at input written = record { taken = take at input; left = drop at input; written = written }

drop_add : (n m : ℕ) (l : List ℕ) → drop (n + m) l ≡ drop m (drop n l)
drop_add n m l = sym (drop-drop m n l)

some_left : (at n : ℕ) (input : List ℕ) → at + n ≤ length input → (n ≡ 0 → length input ≤ at) → take n (drop at input) ≡ [] → drop (at + n) input ≡ []
some_left at n input within last e =
    let fits : n ≤ length (drop at input) = rw length-drop (omega arith) in
    let none : n ≡ 0 = sym (length-take-le n (drop at input) fits) ∙ ap length e in
    drop_all (at + n) input (let l : length input ≤ at = last none in omega arith)

takes_piece : (at n : ℕ) (input written : List ℕ) → at + n ≤ length input → (n ≡ 0 → length input ≤ at)
    → Takes (take n (drop at input)) (cut at input written) (cut (at + n) input written)
takes_piece at n input written within last = record {
  taken = take-add at n input;
  left = sym (take-append-drop n (drop at input)) ∙ ap (λ (l : List ℕ). take n (drop at input) ++ l) (sym (drop_add at n input));
  written = refl;
  ended = some_left at n input within last;
}

-- a read of `n` bytes from a place
pub reads_piece : (max at n : ℕ) (input written old new : List ℕ) → n ≤ max → at + n ≤ length input
    → (n ≡ 0 → length input ≤ at) → new ≡ old ++ take n (drop at input)
    → Reads max old new (Some (cut at input written)) (Some (cut (at + n) input written)) n
reads_piece max at n input written old new most within last e = record {
  bytes = take n (drop at input);
  appended = e;
  count = (let fits : n ≤ length (drop at input) = rw length-drop (omega arith) in length-take-le n (drop at input) fits);
  most = most;
  told = takes_piece at n input written within last;
}
