-- A table in which each word stands at the place that its slot has is read by one look.
use Rattle.std.proofs.Common.{◌≡◌, ℕ, zero, suc, ◌-◌, ◌<◌, Bool, true, false, cond, ◌&&◌, nat_eq, nat_lt, List, [], ◌∷◌, length, get_or, refl, sym, ap, ◌∙◌, arith}
use Rattle.std.proofs.lemmas.Bool.{eqb-true}
use Rattle.std.proofs.lemmas.Bool.Decides.{nat_tests}
use Rattle.std.proofs.lemmas.List.{get_or-map}
use Rattle.std.specs.Borrow.{Bor}
use Rattle.std.specs.Char.{to_ascii_lowercase}
use Rattle.php_terminals.specs.declared.terminal.Terminal.{Terminal}
use Rattle.php_terminals.specs.declared.terminal.Terminal.TheVariants as t
use Rattle.php_terminals.specs.Words.{is_word, second_of, last_of, slot, row_at, row_class, find_row, rows_of}

abbrev pub Rows : Type 0
Rows = List (List ℕ × Terminal)

-- ---- the last byte, by its index

pub last_is : (a : ℕ) (bs : List ℕ) → 0 < length bs → last_of a bs ≡ to_ascii_lowercase (get_or bs (length bs - 1) 0)
last_is a [] h = absurd (omega arith)
last_is a (b ∷ []) h = refl
last_is a (b ∷ c ∷ bs) h =
    let e : length (b ∷ c ∷ bs) - 1 ≡ suc (length (c ∷ bs) - 1) = omega arith in
    rw e (last_is b (c ∷ bs) (omega arith))

-- ---- a word in lower case has the slot of each text that is the word

-- whether a word is in lower case
abbrev pub is_lower : List ℕ → Bool
is_lower [] = true
is_lower (a ∷ w) = nat_eq (to_ascii_lowercase a) a && is_lower w

and_left : (x y : Bool) → (x && y) ≡ true → x ≡ true
and_left true y h = refl
and_left false y h = h

and_right : (x y : Bool) → (x && y) ≡ true → y ≡ true
and_right true y h = h
and_right false y h = absurd (let e : false ≡ true = h in cc)

same_length : (w t : List ℕ) → is_word w t ≡ true → length w ≡ length t
same_length [] [] h = refl
same_length [] (b ∷ bs) h = absurd cc
same_length (a ∷ w) [] h = absurd cc
same_length (a ∷ w) (b ∷ bs) h = ap suc (same_length w bs (and_right (nat_eq a (to_ascii_lowercase b)) (is_word w bs) h))

same_head : (a b : ℕ) (w t : List ℕ) → is_word (a ∷ w) (b ∷ t) ≡ true → a ≡ to_ascii_lowercase b
same_head a b w t h = eqb-true a (to_ascii_lowercase b) (and_left (nat_eq a (to_ascii_lowercase b)) (is_word w t) h)

lower_head : (a : ℕ) (w : List ℕ) → is_lower (a ∷ w) ≡ true → to_ascii_lowercase a ≡ a
lower_head a w h = eqb-true (to_ascii_lowercase a) a (and_left (nat_eq (to_ascii_lowercase a) a) (is_lower w) h)

lower_tail : (a : ℕ) (w : List ℕ) → is_lower (a ∷ w) ≡ true → is_lower w ≡ true
lower_tail a w h = and_right (nat_eq (to_ascii_lowercase a) a) (is_lower w) h

same_second : (w t : List ℕ) → is_lower w ≡ true → is_word w t ≡ true → second_of w ≡ second_of t
same_second [] [] l h = refl
same_second [] (b ∷ bs) l h = absurd cc
same_second (a ∷ w) [] l h = absurd cc
same_second (a ∷ w) (b ∷ bs) l h = lower_head a w l ∙ same_head a b w bs h

same_last : (a b : ℕ) (w t : List ℕ) → to_ascii_lowercase a ≡ to_ascii_lowercase b → is_lower w ≡ true → is_word w t ≡ true → last_of a w ≡ last_of b t
same_last a b [] [] e l h = e
same_last a b [] (d ∷ ds) e l h = absurd cc
same_last a b (c ∷ cs) [] e l h = absurd cc
same_last a b (c ∷ cs) (d ∷ ds) e l h = same_last c d cs ds (lower_head c cs l ∙ same_head c d cs ds h)
    (lower_tail c cs l) (and_right (nat_eq c (to_ascii_lowercase d)) (is_word cs ds) h)

same_slot : (w t : List ℕ) → is_lower w ≡ true → is_word w t ≡ true → slot w ≡ slot t
same_slot [] [] l h = refl
same_slot [] (b ∷ bs) l h = absurd cc
same_slot (a ∷ w) [] l h = absurd cc
same_slot (a ∷ w) (b ∷ bs) l h =
    let tail = and_right (nat_eq a (to_ascii_lowercase b)) (is_word w bs) h in
    let head : to_ascii_lowercase a ≡ to_ascii_lowercase b = lower_head a w l ∙ same_head a b w bs h in
    rw (same_length (a ∷ w) (b ∷ bs) h, head, same_second w bs (lower_tail a w l) tail, same_last a b w bs head (lower_tail a w l) tail) refl

-- ---- tables

-- what an index past the end of a table would give
abbrev pub no_row : Bor (List ℕ) × Terminal
no_row = (record { ref_ptr = (0, 0); now = [] }, t.InlineHtml)

-- a row, without where it lies in memory
abbrev seen : Bor (List ℕ) × Terminal → List ℕ × Terminal
seen r = (r.0.now, r.1)

pub row_is_class : (other : Terminal) (rows : List (Bor (List ℕ) × Terminal)) (place : ℕ) (text : List ℕ)
    → place < length rows → (b : Bool) → is_word (get_or rows place no_row).0.now text ≡ b
    → cond b (get_or rows place no_row).1 other ≡ row_class other (rows_of rows) place text
row_is_class other rows place text lt b h =
    let none : List ℕ × Terminal = ([], t.End) in
    let m : row_at (rows_of rows) place ≡ seen (get_or rows place no_row) = get_or-map seen rows place no_row none lt in
    rw m (rw h refl)

abbrev pub place_of : List ℕ → List ℕ → ℕ
place_of places word = get_or places (slot word) 0

-- whether all words are in lower case
abbrev pub all_lower : Rows → Bool
all_lower [] = true
all_lower (r ∷ rs) = is_lower r.0 && all_lower rs

-- each row stands at the place of its word's slot
abbrev pub found_rows : Rows → List ℕ → Rows → Rows
found_rows rows places [] = []
found_rows rows places (r ∷ rs) = row_at rows (place_of places r.0) ∷ found_rows rows places rs

head_is : (x y : List ℕ × Terminal) (xs ys : Rows) → ◌≡◌ {A = Rows} (x ∷ xs) (y ∷ ys) → x ≡ y
head_is x y xs ys e = ap (λ (l : Rows). first_or x l) e
  where
    first_or : List ℕ × Terminal → Rows → List ℕ × Terminal
    first_or d [] = d
    first_or d (r ∷ rs) = r

tail_is : (x y : List ℕ × Terminal) (xs ys : Rows) → ◌≡◌ {A = Rows} (x ∷ xs) (y ∷ ys) → xs ≡ ys
tail_is x y xs ys e = ap (λ (l : Rows). rest_of l) e
  where
    rest_of : Rows → Rows
    rest_of [] = []
    rest_of (r ∷ rs) = rs

-- the row of a text that some row's word is
row_found : (rows : Rows) (places : List ℕ) (r : List ℕ × Terminal) (text : List ℕ) → is_lower r.0 ≡ true
    → row_at rows (place_of places r.0) ≡ r → is_word r.0 text ≡ true → row_at rows (place_of places text) ≡ r
row_found rows places r text l at h = ap (λ (n : ℕ). row_at rows (get_or places n 0)) (sym (same_slot r.0 text l h)) ∙ at

-- some rows, where the row of the text has another word: none of them is the text's
none_found : (other : Terminal) (rows : Rows) (places : List ℕ) (text : List ℕ)
    → is_word (row_at rows (place_of places text)).0 text ≡ false → (rs : Rows) → all_lower rs ≡ true
    → found_rows rows places rs ≡ rs → find_row other rs text ≡ other
none_found other rows places text differs [] l at = refl
none_found other rows places text differs (r ∷ rs) l at =
    by_case (none_found other rows places text differs rs (and_right (is_lower r.0) (all_lower rs) l)
    (tail_is (row_at rows (place_of places r.0)) r (found_rows rows places rs) rs at)) (is_word r.0 text) refl
  where
    by_case : find_row other rs text ≡ other → (b : Bool) → is_word r.0 text ≡ b → find_row other (r ∷ rs) text ≡ other
    by_case ih true e =
        let row = row_found rows places r text (and_left (is_lower r.0) (all_lower rs) l) (head_is (row_at rows (place_of places r.0)) r (found_rows rows places rs) rs at) e in
        let clash : true ≡ false = sym e ∙ ap (λ (x : List ℕ × Terminal). is_word x.0 text) (sym row) ∙ differs in
        absurd cc
    by_case ih false e = rw e ih

abbrev Later : Terminal → Rows → List ℕ → List ℕ × Terminal → Type 0
Later other rs text row = (n : ℕ) → n < length rs → row_at rs n ≡ row → find_row other rs text ≡ row.1

-- some rows, one of which is the text's
one_found : (other : Terminal) (rows : Rows) (places : List ℕ) (text : List ℕ) (row : List ℕ × Terminal)
    → row_at rows (place_of places text) ≡ row → is_word row.0 text ≡ true → (rs : Rows) → all_lower rs ≡ true
    → found_rows rows places rs ≡ rs → (k : ℕ) → k < length rs → row_at rs k ≡ row → find_row other rs text ≡ row.1
one_found other rows places text row is agrees [] l at k lt e = absurd (omega arith)
one_found other rows places text row is agrees (r ∷ rs) l at k lt e =
    by_case (λ n m f. one_found other rows places text row is agrees rs (and_right (is_lower r.0) (all_lower rs) l)
    (tail_is (row_at rows (place_of places r.0)) r (found_rows rows places rs) rs at) n m f) (is_word r.0 text)
    refl
  where
    later : Later other rs text row → (n : ℕ) → n < length (r ∷ rs) → row_at (r ∷ rs) n ≡ row → is_word r.0 text ≡ false → find_row other rs text ≡ row.1
    later ih zero m f differs = absurd (let clash : true ≡ false = sym agrees ∙ ap (λ (x : List ℕ × Terminal). is_word x.0 text) (sym f) ∙ differs in cc)
    later ih (suc n) m f differs = ih n (omega arith) f

    by_case : Later other rs text row → (b : Bool) → is_word r.0 text ≡ b → find_row other (r ∷ rs) text ≡ row.1
    by_case ih true h =
        let same = row_found rows places r text (and_left (is_lower r.0) (all_lower rs) l) (head_is (row_at rows (place_of places r.0)) r (found_rows rows places rs) rs at) h in
        rw h (ap (λ (x : List ℕ × Terminal). x.1) (sym same ∙ is))
    by_case ih false h = rw h (later ih k lt e h)

-- a table that is read by one look
pub one_look : (other : Terminal) (rows : Rows) (places : List ℕ) (text : List ℕ) → all_lower rows ≡ true
    → found_rows rows places rows ≡ rows → place_of places text < length rows
    → row_class other rows (place_of places text) text ≡ find_row other rows text
one_look other rows places text l at lt = by_case (is_word (row_at rows (place_of places text)).0 text) refl
  where
    by_case : (b : Bool) → is_word (row_at rows (place_of places text)).0 text ≡ b → row_class other rows (place_of places text) text ≡ find_row other rows text
    by_case true h = rw h (sym (one_found other rows places text (row_at rows (place_of places text)) refl h rows l at (place_of places text) lt refl))
    by_case false h = rw h (sym (none_found other rows places text h rows l at))

-- ---- places

abbrev pub all_below : (n : ℕ) (xs : List ℕ) → Bool
all_below n [] = true
all_below n (x ∷ xs) = nat_lt x n && all_below n xs

pub place_below : (n : ℕ) (xs : List ℕ) (i : ℕ) → 0 < n → all_below n xs ≡ true → get_or xs i 0 < n
place_below n [] i some h = some
place_below n (x ∷ xs) zero some h = grind (arith, nat_tests, and_left (nat_lt x n) (all_below n xs) h)
place_below n (x ∷ xs) (suc i) some h = place_below n xs i some (and_right (nat_lt x n) (all_below n xs) h)
