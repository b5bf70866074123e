-- Rows that go on as others do: as themselves, behind a common front, and where less is asked.
use Rattle.std.proofs.Common.{◌≡◌, ℕ, Bool, true, false, not, ◌&&◌, ◌||◌, nat_eq, List, [], ◌∷◌, ◌++◌, refl, sym, subst}
use Rattle.std.proofs.lemmas.Bool.{and_parts, eqb-true}
use Rattle.php_spellings.specs.Bytes.{begins}
use Rattle.php_relexing.specs.Tiles.{Tile, tile, joined}
use Rattle.php_relexing.specs.Alike.{Alike, is_break}
use Rattle.php_relexing.specs.Alike as alike
use Rattle.php_relexing.specs.Pieces.{escape_last}
use Rattle.php_relexing.proofs.AlikeJoins.{alike_joins}
use Rattle.written_tokens.specs.tiles.ContinuesAs.{stops_cast, is_trivia, begins_token, is_mark, is_put, ContinuesAs, ended, same, put, hash, brace, escaped}
use Rattle.written_tokens.specs.tiles.IsRewrittenTo.{gap_behind}
use Rattle.written_tokens.specs.tiles.Going.{any_stops, RowsGoOn, ContinuingIsAlike, puts_none, FrontsStay}
use Rattle.written_tokens.proofs.tiles.Bools.{and_true, and_not_or, out_of, none_of}

-- ---- where less is asked

put_loose : (m x t y : Bool) → (m && (x || (not t && y))) ≡ true → (m && (x || (not false && y))) ≡ true
put_loose false x t y h = absurd cc
put_loose true true t y h = refl
put_loose true false true y h = absurd cc
put_loose true false false y h = h

untight : {tight gap : Bool} {ts us : List Tile} → ContinuesAs tight gap ts us → ContinuesAs false gap ts us
untight ended = ended
untight (same kind b a h) = same kind b a (untight h)
untight (put {tight} kind c e p q) =
    put kind c e (put_loose (is_mark kind) (nat_eq c 40 || nat_eq c 91 || nat_eq c 93 || nat_eq c 125 || nat_eq c 92 || nat_eq c 35) tight (nat_eq c 41) p) q
untight (hash a e) = hash a e
untight (brace kind e) = brace kind e
untight (escaped b c a e d l) = escaped b c a e d l

-- tight where it is asked for
pub tighter : (x y : Bool) {gap : Bool} {ts us : List Tile} → (y ≡ true → x ≡ true) → ContinuesAs x gap ts us → ContinuesAs y gap ts us
tighter true true f h = h
tighter x false f h = untight h
tighter false true f h = absurd (let clash = f refl in cc)

or_put : (g t : Bool) → (not true || t) ≡ true → (not g || t) ≡ true
or_put true t h = h
or_put false t h = refl

pub gapless : {tight : Bool} {ts us : List Tile} (gap : Bool) → ContinuesAs tight true ts us → ContinuesAs tight gap ts us
gapless gap ended = ended
gapless gap (same kind b a h) = same kind b a h
gapless gap (put {ts = ts} kind c e p q) = put kind c e p (or_put gap (begins_token ts) q)
gapless gap (hash a e) = hash a e
gapless gap (brace kind e) = brace kind e
gapless gap (escaped b c a e d l) = escaped b c a e d l

-- ---- behind a common front

itself : (tight gap : Bool) (ts : List Tile) → ContinuesAs tight gap ts ts
itself tight gap [] = ended
itself tight gap (tile kind b a ∷ ts) = same kind b a (itself (tight && not (stops_cast kind)) (is_trivia kind) ts)

front : (tight gap : Bool) (ts rest after : List Tile) → ContinuesAs (tight && not (any_stops ts)) (gap_behind gap ts) rest after → ContinuesAs tight gap (ts ++ rest) (ts ++ after)
front tight gap [] rest after h = subst (λ (t : Bool). ContinuesAs t gap rest after) (and_true tight) h
front tight gap (tile kind b a ∷ ts) rest after h =
    same kind b a
    (front (tight && not (stops_cast kind)) (is_trivia kind) ts rest after
    (subst (λ (t : Bool). ContinuesAs t (gap_behind (is_trivia kind) ts) rest after) (and_not_or tight (stops_cast kind) (any_stops ts)) h))

pub rows_go_on : RowsGoOn
rows_go_on = record {
  itself = itself;
  front = front;
  loose = λ tight gap ts us h. tighter true tight (λ e. refl) h;
  gapless = λ tight gap ts us h. gapless gap h;
}

-- ---- the bytes

-- what is true of each byte that is put in is true of this one
put_byte : (P : ℕ → Type 0) (m tight : Bool) (c : ℕ) → P 40 → P 91 → P 93 → P 125 → P 92 → P 35 → P 41 → (m && is_put tight c) ≡ true → P c
put_byte P m tight c k l n o p q r h =
    out_of (P c) (nat_eq c 40) (nat_eq c 91) (nat_eq c 93) (nat_eq c 125) (nat_eq c 92) (nat_eq c 35) (not tight && nat_eq c 41)
    (λ e. subst P (sym (eqb-true c 40 e)) k)
    (λ e. subst P (sym (eqb-true c 91 e)) l)
    (λ e. subst P (sym (eqb-true c 93 e)) n)
    (λ e. subst P (sym (eqb-true c 125 e)) o)
    (λ e. subst P (sym (eqb-true c 92 e)) p)
    (λ e. subst P (sym (eqb-true c 35 e)) q)
    (λ e. subst P (sym (eqb-true c 41 (and_parts (not tight) (nat_eq c 41) e).1)) r)
    (and_parts m (is_put tight c) h).1

pub put_is : (p : ℕ → Bool) (m tight : Bool) (c : ℕ) → p 40 ≡ true → p 91 ≡ true → p 93 ≡ true → p 125 ≡ true
    → p 92 ≡ true → p 35 ≡ true → p 41 ≡ true → (m && is_put tight c) ≡ true → p c ≡ true
put_is p m tight c = put_byte (λ (x : ℕ). p x ≡ true) m tight c

pub put_isnt : (p : ℕ → Bool) (m tight : Bool) (c : ℕ) → p 40 ≡ false → p 91 ≡ false → p 93 ≡ false → p 125 ≡ false
    → p 92 ≡ false → p 35 ≡ false → p 41 ≡ false → (m && is_put tight c) ≡ true → p c ≡ false
put_isnt p m tight c = put_byte (λ (x : ℕ). p x ≡ false) m tight c

pub escape_alike : (b : ℕ) (a r s : List ℕ) → Alike (b ∷ a ++ r) (escape_last (b ∷ a) ++ s)
escape_alike b [] r s = alike.broken 92 refl
escape_alike b (c ∷ a) r s = alike.same b (escape_alike c a r s)

pub bytes_alike : {tight gap : Bool} {ts us : List Tile} → ContinuesAs tight gap ts us → Alike (joined ts) (joined us)
bytes_alike ended = alike.ended
bytes_alike (same {ts = ts} {us = us} kind b a h) = alike.same b (alike_joins.front a (joined ts) (joined us) (bytes_alike h))
bytes_alike (put {tight = tight} kind c e p q) = alike.broken c (put_is is_break (is_mark kind) tight c refl refl refl refl refl refl refl p)
bytes_alike (hash a e) = alike.broken 35 refl
bytes_alike (brace kind e) = alike.broken 123 refl
bytes_alike (escaped {ts = ts} {us = us} b c a e d l) =
    subst (λ (x : List ℕ). Alike (b ∷ a ++ joined ts) (x ++ joined us)) l (escape_alike b a (joined ts) (joined us))

pub continuing_is_alike : ContinuingIsAlike
continuing_is_alike tight gap ts us h = bytes_alike h

-- ---- the first byte

pub escape_first : (p : ℕ → Bool) (b : ℕ) (a s : List ℕ) → p 92 ≡ false → p b ≡ false → begins p (escape_last (b ∷ a) ++ s) ≡ false
escape_first p b [] s h k = h
escape_first p b (c ∷ a) s h k = k

pub first_stays : (p : ℕ → Bool) {tight gap : Bool} {ts us : List Tile} → puts_none p ≡ true → ContinuesAs tight gap ts us → begins p (joined ts) ≡ false → begins p (joined us) ≡ false
first_stays p none ended k = refl
first_stays p none (same kind b a h) k = k
first_stays p none (put {tight = tight} kind c e q r) k =
    let is = none_of (p 35) (p 40) (p 41) (p 91) (p 92) (p 93) (p 123) (p 125) none in
    put_isnt p (is_mark kind) tight c is.two is.four is.six is.eight is.five is.one is.three q
first_stays p none (hash a e) k = (none_of (p 35) (p 40) (p 41) (p 91) (p 92) (p 93) (p 123) (p 125) none).one
first_stays p none (brace kind e) k = (none_of (p 35) (p 40) (p 41) (p 91) (p 92) (p 93) (p 123) (p 125) none).seven
first_stays p none (escaped {us = us} b c a e d l) k =
    subst (λ (x : List ℕ). begins p (x ++ joined us) ≡ false) l
    (escape_first p b a (joined us) (none_of (p 35) (p 40) (p 41) (p 91) (p 92) (p 93) (p 123) (p 125) none).five k)

pub fronts_stay : FrontsStay
fronts_stay p tight gap ts us none h k = first_stays p none h k
