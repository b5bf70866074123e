-- Words of letters among the bytes, and the tokens of code that a letter or white space begins.
use Rattle.std.proofs.Common.{
  ◌≡◌,
  ℕ,
  suc,
  Bool,
  true,
  false,
  cond,
  not,
  ◌&&◌,
  ◌||◌,
  nat_eq,
  nat_lt,
  List,
  [],
  ◌∷◌,
  ◌++◌,
  length,
  drop,
  codes,
  Option,
  Some,
  None,
  refl,
  sym,
  ap,
  ◌∙◌,
  subst,
  arith,
}
use Rattle.std.proofs.lemmas.Bool.{and_parts, eqb-true, and_left}
use Rattle.std.proofs.lemmas.Bool.Decides.{nat_tests}
use Rattle.php_tree.specs.declared.version.Version.TheVariants.{V74}
use Rattle.php_spellings.specs.declared.table.Kind.{Kind}
use Rattle.php_spellings.specs.declared.table.Kind.TheVariants.{Keyword, Word}
use Rattle.php_spellings.specs.declared.table.State.TheVariants.{First}
use Rattle.php_spellings.specs.declared.table.Until.TheVariants.{From}
use Rattle.php_spellings.specs.Bytes.{is_space, is_letter, is_label_byte, lower, begins, starts_word}
use Rattle.php_lexer.specs.Heredocs.{no_label}
use Rattle.php_lexer.specs.Tails.{word_alone, begins_word, cast_words, begins_type}
use Rattle.php_lexer.specs.Letters.{letter_rows}
use Rattle.php_lexer.specs.Scan.{scan, scan_by, until_len, word_len, add_to, longer}
use Rattle.php_lexer.specs.Modes.{code, IsLongest}
use Rattle.php_lexer.proofs.Dispatch.{letter_scan, older_scan}
use Rattle.php_relexing.specs.Labels.{all_label}
use Rattle.php_relexing.proofs.NameRows.{is_small, all_small, small_label}
use Rattle.php_relexing.proofs.Picked.{longest_meets}
use Rattle.php_relexing.proofs.Scanned.{scan_of}
use Rattle.php_relexing.proofs.Words.{rows_are, letter_hash}
use Rattle.written_tokens.specs.tiles.ContinuesAs.{stops_cast}
use Rattle.written_tokens.proofs.tiles.Standing.{is_space_kind}

-- ---- a word alone, where no label goes on behind

no_start : (x : ℕ) (w s : List ℕ) → is_small x ≡ true → begins is_label_byte s ≡ false → starts_word (x ∷ w) s ≡ false
no_start x w [] small e = refl
no_start x w (c ∷ s) small e = by_case (nat_eq x (lower c)) refl
  where
    by_case : (t : Bool) → nat_eq x (lower c) ≡ t → (t && starts_word w s) ≡ false
    by_case false p = refl
    by_case true p = absurd (let clash : true ≡ false = sym (small_label x c small p).0 ∙ e in cc)

alone_step : (w t s : List ℕ) (x : Bool) → word_alone w (t ++ s) ≡ word_alone w t
    → ((x && starts_word w (t ++ s)) && no_label (drop (length w) (t ++ s))) ≡
    ((x && starts_word w t) && no_label (drop (length w) t))
alone_step w t s true h = h
alone_step w t s false h = refl

pub alone_same : (w t s : List ℕ) → all_small w ≡ true → begins is_label_byte s ≡ false → word_alone w (t ++ s) ≡ word_alone w t
alone_same [] [] s h e = rw e refl
alone_same [] (b ∷ t) s h e = refl
alone_same (x ∷ w) [] s h e = and_left (starts_word (x ∷ w) s) (no_label (drop (length (x ∷ w)) s)) (no_start x w s (and_parts (is_small x) (all_small w) h).0 e)
alone_same (x ∷ w) (b ∷ t) s h e = alone_step w t s (nat_eq x (lower b)) (alone_same w t s (and_parts (is_small x) (all_small w) h).1 e)

-- each of the words has letters alone
abbrev pub all_lettered : List (List ℕ) → Bool
all_lettered [] = true
all_lettered (w ∷ ws) = all_small w && all_lettered ws

word_same : (ws : List (List ℕ)) (t s : List ℕ) → all_lettered ws ≡ true → begins is_label_byte s ≡ false → begins_word ws (t ++ s) ≡ begins_word ws t
word_same [] t s h e = refl
word_same (w ∷ ws) t s h e =
    let (small, more) = and_parts (all_small w) (all_lettered ws) h in
    rw (alone_same w t s small e, word_same ws t s more e) refl

pub type_same : (t s : List ℕ) → begins is_label_byte s ≡ false → begins_type (t ++ s) ≡ begins_type t
type_same t s e = word_same cast_words t s refl e

-- ---- a label that is one of the words has letters alone

abbrev pub all_letters : List ℕ → Bool
all_letters [] = true
all_letters (b ∷ t) = is_letter b && all_letters t

pub small_letter : (x b : ℕ) → is_small x ≡ true → nat_eq x (lower b) ≡ true → is_letter b ≡ true
small_letter x b h e = grind (arith, nat_tests)

no_label_none : (b : ℕ) (t : List ℕ) → is_label_byte b ≡ true → no_label (b ∷ t) ≡ true → ⊥
no_label_none b t h e = let clash : not true ≡ true = ap not (sym h) ∙ e in cc

and_three : (x y z : Bool) → ((x && y) && z) ≡ true → (x ≡ true) × ((y && z) ≡ true)
and_three true y z h = (refl, h)
and_three false y z h = absurd cc

letters_alone : (w t : List ℕ) → all_small w ≡ true → all_label t ≡ true → word_alone w t ≡ true → all_letters t ≡ true
letters_alone [] [] h k e = refl
letters_alone [] (b ∷ t) h k e = absurd (no_label_none b t (and_parts (is_label_byte b) (all_label t) k).0 e)
letters_alone (x ∷ w) [] h k e = absurd cc
letters_alone (x ∷ w) (b ∷ t) h k e =
    let (small, smalls) = and_parts (is_small x) (all_small w) h in
    let (here, more) = and_three (nat_eq x (lower b)) (starts_word w t) (no_label (drop (length w) t)) e in
    rw (small_letter x b small here, letters_alone w t smalls (and_parts (is_label_byte b) (all_label t) k).1 more) refl

or_step : (P : Type 0) (x y : Bool) → (x ≡ true → P) → (y ≡ true → P) → (x || y) ≡ true → P
or_step P true y f g h = f refl
or_step P false y f g h = g h

letters_of : (ws : List (List ℕ)) (t : List ℕ) → all_lettered ws ≡ true → all_label t ≡ true → begins_word ws t ≡ true → all_letters t ≡ true
letters_of [] t h k e = absurd cc
letters_of (w ∷ ws) t h k e =
    let (small, more) = and_parts (all_small w) (all_lettered ws) h in
    or_step (all_letters t ≡ true) (word_alone w t) (begins_word ws t) (letters_alone w t small k) (letters_of ws t more k) e

pub type_letters : (t : List ℕ) → all_label t ≡ true → begins_type t ≡ true → all_letters t ≡ true
type_letters t h e = letters_of cast_words t refl h e

-- ---- no word begins but with a letter

abbrev pub all_begun : List (List ℕ) → Bool
all_begun [] = true
all_begun ([] ∷ ws) = false
all_begun ((x ∷ w) ∷ ws) = is_small x && all_begun ws

unlettered : (x b : ℕ) → is_small x ≡ true → is_letter b ≡ false → nat_eq x (lower b) ≡ false
unlettered x b small e = by_case (nat_eq x (lower b)) refl
  where
    by_case : (t : Bool) → nat_eq x (lower b) ≡ t → t ≡ false
    by_case false p = refl
    by_case true p = absurd (let clash : true ≡ false = sym (small_letter x b small p) ∙ e in cc)

pub no_word_begins : (ws : List (List ℕ)) (b : ℕ) (bs : List ℕ) → all_begun ws ≡ true → is_letter b ≡ false → begins_word ws (b ∷ bs) ≡ false
no_word_begins [] b bs h e = refl
no_word_begins ([] ∷ ws) b bs h e = absurd cc
no_word_begins ((x ∷ w) ∷ ws) b bs h e =
    let (small, more) = and_parts (is_small x) (all_begun ws) h in
    rw (unlettered x b small e, no_word_begins ws b bs more e) refl

pub no_type : (b : ℕ) (bs : List ℕ) → is_letter b ≡ false → begins_type (b ∷ bs) ≡ false
no_type b bs e = no_word_begins cast_words b bs refl e

-- none begins with `y`
pub no_type_y : (b : ℕ) (bs : List ℕ) → lower b ≡ 121 → begins_type (b ∷ bs) ≡ false
no_type_y b bs e = rw e refl

-- ---- the tokens that a letter begins

abbrev stops_found : Option (Kind × ℕ) → Bool
stops_found None = false
stops_found (Some x) = stops_cast x.0

two_by : (n m : ℕ) (t : Bool) → stops_found (cond t (Some (Word, m)) (Some (Keyword, n))) ≡ false
two_by n m true = refl
two_by n m false = refl

two_kinds : (o p : Option ℕ) → stops_found (longer Keyword o (longer Word p None)) ≡ false
two_kinds None None = refl
two_kinds None (Some m) = refl
two_kinds (Some n) None = refl
two_kinds (Some n) (Some m) = two_by n m (nat_lt n m)

scan_letter : (b : ℕ) (bs : List ℕ) → is_letter b ≡ true → scan V74 code (b ∷ bs) ≡ scan_by [] letter_rows (b ∷ bs)
scan_letter b bs h = older_scan b bs (letter_hash b h) ∙ letter_scan b bs h

plain_stops : (b : ℕ) (bs : List ℕ) → is_letter b ≡ true → nat_eq 98 (lower b) ≡ false → stops_found (scan V74 code (b ∷ bs)) ≡ false
plain_stops b bs h e =
    ap stops_found (scan_letter b bs h ∙ rows_are b bs e)
    ∙ two_kinds (cond (nat_eq 121 (lower b) && starts_word (codes "ield") bs) (add_to 5 (until_len From First (drop 4 bs))) None) (add_to 0 (word_len (b ∷ bs)))

-- a letter other than `b` begins a word
pub letter_kind : (b : ℕ) (bs : List ℕ) (kind : Kind) (n : ℕ) → IsLongest V74 code (b ∷ bs) kind n → is_letter b ≡ true → nat_eq 98 (lower b) ≡ false → stops_cast kind ≡ false
letter_kind b bs kind n l h e = sym (ap stops_found (scan_of V74 code (b ∷ bs) kind n l)) ∙ plain_stops b bs h e

-- so does `b` before a letter
pub b_rows : (b c : ℕ) (bs : List ℕ) → lower b ≡ 98 → nat_eq 39 (lower c) ≡ false → nat_eq 34 (lower c) ≡ false
    → nat_eq 60 (lower c) ≡ false → scan_by [] letter_rows (b ∷ c ∷ bs) ≡ longer Word
    (add_to 0 (word_len (b ∷ c ∷ bs))) None
b_rows b c bs e p q r = rw (e, p, q, r) refl

b_stops : (b c : ℕ) (bs : List ℕ) → is_letter b ≡ true → lower b ≡ 98 → nat_eq 39 (lower c) ≡ false
    → nat_eq 34 (lower c) ≡ false → nat_eq 60 (lower c) ≡ false → stops_found (scan V74 code (b ∷ c ∷ bs)) ≡ false
b_stops b c bs h e p q r = ap stops_found (scan_letter b (c ∷ bs) h ∙ b_rows b c bs e p q r) ∙ two_kinds None (add_to 0 (word_len (b ∷ c ∷ bs)))

b_second : (b c : ℕ) (bs : List ℕ) → lower b ≡ 98 → nat_eq 111 (lower c) ≡ false → nat_eq 105 (lower c) ≡ false → begins_type (b ∷ c ∷ bs) ≡ false
b_second b c bs e p q = rw (e, p, q) refl

apart : (x c : ℕ) → nat_eq x (lower c) ≡ true → nat_eq x 39 ≡ false → nat_eq x 34 ≡ false → nat_eq x 60 ≡ false
    → (nat_eq 39 (lower c) ≡ false) × ((nat_eq 34 (lower c) ≡ false) × (nat_eq 60 (lower c) ≡ false))
apart x c e p q r =
    let same : x ≡ lower c = eqb-true x (lower c) e in
    (subst (λ (y : ℕ). nat_eq 39 y ≡ false) same (mode_step 39 p), (subst (λ (y : ℕ). nat_eq 34 y ≡ false) same (mode_step 34 q), subst (λ (y : ℕ). nat_eq 60 y ≡ false) same (mode_step 60 r)))
  where
    mode_step : (k : ℕ) → nat_eq x k ≡ false → nat_eq k x ≡ false
    mode_step k h = grind (arith, nat_tests)

module _ (b : ℕ) (kind : Kind) (h : is_letter b ≡ true) (stops : stops_cast kind ≡ true) where
  clash_of : (bs : List ℕ) (n : ℕ) → IsLongest V74 code (b ∷ bs) kind n → stops_found (scan V74 code (b ∷ bs)) ≡ false → ⊥
  clash_of bs n l e = let clash : true ≡ false = sym stops ∙ sym (ap stops_found (scan_of V74 code (b ∷ bs) kind n l)) ∙ e in cc

  b_second_by : (c : ℕ) (bs : List ℕ) (n : ℕ) → lower b ≡ 98 → IsLongest V74 code (b ∷ c ∷ bs) kind n → (x y : Bool)
      → nat_eq 111 (lower c) ≡ x → nat_eq 105 (lower c) ≡ y → begins_type (b ∷ c ∷ bs) ≡ false
  b_second_by c bs n e l false false p q = b_second b c bs e p q
  b_second_by c bs n e l true y p q = let no = apart 111 c p refl refl refl in absurd (clash_of (c ∷ bs) n l (b_stops b c bs h e no.0 no.1.0 no.1.1))
  b_second_by c bs n e l false true p q = let no = apart 105 c q refl refl refl in absurd (clash_of (c ∷ bs) n l (b_stops b c bs h e no.0 no.1.0 no.1.1))

  no_type_b : (bs : List ℕ) (n : ℕ) → lower b ≡ 98 → IsLongest V74 code (b ∷ bs) kind n → begins_type (b ∷ bs) ≡ false
  no_type_b [] n e l = rw e refl
  no_type_b (c ∷ bs) n e l = b_second_by c bs n e l (nat_eq 111 (lower c)) (nat_eq 105 (lower c)) refl refl

  no_type_letter : (bs : List ℕ) (n : ℕ) → IsLongest V74 code (b ∷ bs) kind n → (x : Bool) → nat_eq 98 (lower b) ≡ x → begins_type (b ∷ bs) ≡ false
  no_type_letter bs n l true e = no_type_b bs n (sym (eqb-true 98 (lower b) e)) l
  no_type_letter bs n l false e = absurd (clash_of bs n l (plain_stops b bs h e))

-- no token that stops a cast begins with a type
pub no_type_stops : (b : ℕ) (bs : List ℕ) (kind : Kind) (n : ℕ) → stops_cast kind ≡ true → IsLongest V74 code (b ∷ bs) kind n → begins_type (b ∷ bs) ≡ false
no_type_stops b bs kind n stops l = by_case (is_letter b) refl
  where
    by_case : (x : Bool) → is_letter b ≡ x → begins_type (b ∷ bs) ≡ false
    by_case false e = no_type b bs e
    by_case true e = no_type_letter b kind e stops bs n l (nat_eq 98 (lower b)) refl

f_is : (b : ℕ) → nat_eq 102 (lower b) ≡ true → (is_letter b ≡ true) × (nat_eq 98 (lower b) ≡ false)
f_is b e = (small_letter 102 b refl e, subst (λ (x : ℕ). nat_eq 98 x ≡ false) (eqb-true 102 (lower b) e) refl)

-- nor with `from`
pub no_from_stops : (b : ℕ) (bs : List ℕ) (kind : Kind) (n : ℕ) → stops_cast kind ≡ true → IsLongest V74 code (b ∷ bs) kind n → word_alone (codes "from") (b ∷ bs) ≡ false
no_from_stops b bs kind n stops l = by_case (nat_eq 102 (lower b)) refl
  where
    by_case : (x : Bool) → nat_eq 102 (lower b) ≡ x → ((x && starts_word (codes "rom") bs) && no_label (drop 4 (b ∷ bs))) ≡ false
    by_case false e = refl
    by_case true e =
        let is = f_is b e in
        absurd (let clash : true ≡ false = sym stops ∙ letter_kind b bs kind n l is.0 is.1 in cc)

-- ---- white space

abbrev pub is_other : Kind → Bool
is_other kind = not (is_space_kind kind)

space_byte : (P : ℕ → Type 0) → P 32 → P 9 → P 10 → P 13 → (b : ℕ) → is_space b ≡ true → P b
space_byte P p q r s b h = by_case (nat_eq b 32) (nat_eq b 9) (nat_eq b 10) (nat_eq b 13) refl refl refl refl h
  where
    by_case : (w x y z : Bool) → nat_eq b 32 ≡ w → nat_eq b 9 ≡ x → nat_eq b 10 ≡ y → nat_eq b 13 ≡ z → ((w || x) || (y || z)) ≡ true → P b
    by_case true x y z e f g i h = subst P (sym (eqb-true b 32 e)) p
    by_case false true y z e f g i h = subst P (sym (eqb-true b 9 f)) q
    by_case false false true z e f g i h = subst P (sym (eqb-true b 10 g)) r
    by_case false false false true e f g i h = subst P (sym (eqb-true b 13 i)) s
    by_case false false false false e f g i h = absurd cc

-- a token of another kind begins with no white space
pub no_space_first : (b : ℕ) (a r : List ℕ) (kind : Kind) → is_space_kind kind ≡ false → IsLongest V74 code (b ∷ a ++ r) kind (suc (length a)) → is_space b ≡ true → ⊥
no_space_first b a r kind other l h =
    space_byte (λ (x : ℕ). IsLongest V74 code (x ∷ a ++ r) kind (suc (length a)) → ⊥)
    (λ k. let e = longest_meets is_other V74 code (32 ∷ a) r kind (ap not other) k in cc)
    (λ k. let e = longest_meets is_other V74 code (9 ∷ a) r kind (ap not other) k in cc)
    (λ k. let e = longest_meets is_other V74 code (10 ∷ a) r kind (ap not other) k in cc)
    (λ k. let e = longest_meets is_other V74 code (13 ∷ a) r kind (ap not other) k in cc)
    b h l
