-- Places as a fact and as a test.
use Rattle.std.proofs.Common.{◌≡◌, ℕ, ◌+◌, ◌-◌, ◌≤◌, List, [], ◌∷◌, ◌++◌, length, refl, ap, sym, ◌∙◌, rules, arith, Some, None}
use Rattle.std.specs.Prelude.{IsTrue}
use Rattle.std.proofs.lemmas.Bool.Decides.{nat_tests}
use Rattle.std.proofs.lemmas.Grind.{common_steps}
use Rattle.php_tree.specs.declared.token.Token.{Token}
use Rattle.php_tree.specs.Places.{ArePlaced, are_placed, behind}
use Rattle.php_tree.specs.Ids.{first_of, first_or, stop_or, place_of}

pub placed_test : (at : ℕ) (ts : List Token) → ArePlaced at ts → IsTrue (are_placed at ts)
placed_test at [] h = search rules
placed_test at (t ∷ ts) h = let more : IsTrue (are_placed (behind at t) ts) = placed_test (behind at t) ts h.1 in grind (arith, common_steps, more)

pub placed_fact : (at : ℕ) (ts : List Token) → IsTrue (are_placed at ts) → ArePlaced at ts
placed_fact at [] h = tt
placed_fact at (t ∷ ts) h =
    let start : t.start ≡ at + length t.lead = grind (arith, common_steps, nat_tests) in
    let more : IsTrue (are_placed (behind at t) ts) = grind (arith, common_steps) in
    (start, placed_fact (behind at t) ts more)

-- ---- where tokens end

-- the place behind some tokens that begin at a place
abbrev pub ends_at : ℕ → List Token → ℕ
ends_at at [] = at
ends_at at (t ∷ ts) = ends_at (behind at t) ts

pub ends-append : (at : ℕ) (ts us : List Token) → ends_at at (ts ++ us) ≡ ends_at (ends_at at ts) us
ends-append at [] us = refl
ends-append at (t ∷ ts) us = ends-append (behind at t) ts us

pub ends_later : (at : ℕ) (ts : List Token) → at ≤ ends_at at ts
ends_later at [] = omega arith
ends_later at (t ∷ ts) = let h : behind at t ≤ ends_at (behind at t) ts = ends_later (behind at t) ts in omega arith

pub placed-front : (at : ℕ) (ts us : List Token) → ArePlaced at (ts ++ us) → ArePlaced at ts
placed-front at [] us h = tt
placed-front at (t ∷ ts) us h = (h.0, placed-front (behind at t) ts us h.1)

pub placed-back : (at : ℕ) (ts us : List Token) → ArePlaced at (ts ++ us) → ArePlaced (ends_at at ts) us
placed-back at [] us h = h
placed-back at (t ∷ ts) us h = placed-back (behind at t) ts us h.1

pub stop_is : (at : ℕ) (ts : List Token) → ArePlaced at ts → stop_or ts at ≡ ends_at at ts
stop_is at [] h = refl
stop_is at (t ∷ ts) h = ap (λ x. stop_or ts (x + length t.text)) h.0 ∙ stop_is (behind at t) ts h.1

-- the place of tokens before another one
pub placed_between : (at : ℕ) (ts : List Token) (first next : Token) → ArePlaced at (ts ++ next ∷ []) → first_of ts ≡ Some first
    → (first.start + length next.lead ≤ next.start) × (place_of ts next ≡ (first.start, next.start - length next.lead))
placed_between at [] first next h e = cc
placed_between at (t ∷ ts) first next h e =
    let same : t ≡ first = cc in
    let front : ArePlaced (behind at t) ts = placed-front (behind at t) ts (next ∷ []) h.1 in
    let last : next.start ≡ ends_at (behind at t) ts + length next.lead = (placed-back (behind at t) ts (next ∷ []) h.1).0 in
    let stop : stop_or ts (t.start + length t.text) ≡ ends_at (behind at t) ts = ap (λ x. stop_or ts (x + length t.text)) h.0 ∙ stop_is (behind at t) ts front in
    let late : behind at t ≤ ends_at (behind at t) ts = ends_later (behind at t) ts in
    let here : t.start ≡ at + length t.lead = h.0 in
    let start : first.start ≡ t.start = ap (λ (x : Token). x.start) (sym same) in
    (omega arith, ap (λ x. (t.start, x)) (stop ∙ omega arith) ∙ ap (λ x. (x, next.start - length next.lead)) (sym start))

pub placed_nothing : (ts : List Token) (next : Token) → first_of ts ≡ None → place_of ts next ≡ (next.start, next.start)
placed_nothing [] next e = refl
placed_nothing (t ∷ ts) next e = cc

-- a first part's tokens, and the one that follows them
pub placed_part : (at : ℕ) (ts us : List Token) (next : Token) → ArePlaced at ((ts ++ us) ++ next ∷ []) → ArePlaced at (ts ++ first_or us next ∷ [])
placed_part at [] [] next h = h
placed_part at [] (u ∷ us) next h = (h.0, tt)
placed_part at (t ∷ ts) us next h = (h.0, placed_part (behind at t) ts us next h.1)

-- what follows a first part
pub placed_rest : (at : ℕ) (ts us : List Token) (next : Token) → ArePlaced at ((ts ++ us) ++ next ∷ []) → ArePlaced (ends_at at ts) (us ++ next ∷ [])
placed_rest at [] us next h = h
placed_rest at (t ∷ ts) us next h = placed_rest (behind at t) ts us next h.1
