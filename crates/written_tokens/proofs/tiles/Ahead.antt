-- Casts and `from` among the tiles of code that come first.
use Rattle.std.proofs.Common.{◌≡◌, ℕ, suc, Bool, true, false, cond, not, ◌&&◌, ◌||◌, nat_eq, List, [], ◌∷◌, ◌++◌, length, refl, sym, ap, ◌∙◌, subst, arith}
use Rattle.std.proofs.lemmas.Bool.{and_parts, eqb-true, not-true}
use Rattle.std.proofs.lemmas.Bool.Decides.{nat_tests}
use Rattle.php_tree.specs.declared.version.Version.TheVariants.{V74}
use Rattle.php_spellings.specs.declared.table.Kind.{Kind}
use Rattle.php_spellings.specs.declared.table.Kind.TheVariants.{Space, Word, Keyword}
use Rattle.php_spellings.specs.Bytes.{is_blank_byte, is_line_end, is_space, is_digit, is_letter, is_label_byte, lower, begins}
use Rattle.php_lexer.specs.Tails.{begins_type}
use Rattle.php_lexer.specs.Modes.{Mode, code, IsLongest}
use Rattle.php_relexing.specs.Tiles.{Tile, tile, joined}
use Rattle.php_relexing.specs.Spelled.{Steps}
use Rattle.php_relexing.specs.Labels.{all_label, is_label}
use Rattle.php_relexing.specs.Words.{ends_cast, goes_cast, begins_cast}
use Rattle.php_relexing.proofs.Bools.{and_false}
use Rattle.php_relexing.proofs.Labels.{words_are_labels}
use Rattle.php_relexing.proofs.Spaces.{all_space}
use Rattle.written_tokens.specs.tokens.Levels.{stack_of}
use Rattle.written_tokens.specs.tiles.ContinuesAs.{stops_cast, is_mark, is_put, ContinuesAs, ended, same, put, hash, brace, escaped}
use Rattle.written_tokens.specs.tiles.Edits.{is_uncast}
use Rattle.written_tokens.proofs.tiles.Bools.{out_of}
use Rattle.written_tokens.proofs.tiles.Behind.{space_all, word_behind, keyword_y, keyword_first}
use Rattle.written_tokens.proofs.tiles.Going.{escape_first}
use Rattle.written_tokens.proofs.tiles.Standing.{is_space_kind, is_word_kind, Stand, space, word, keyword, other, stand, mark_kind}
use Rattle.written_tokens.proofs.tiles.Letters.{all_letters, small_letter, type_same, type_letters, no_type, no_type_y, no_type_stops, no_space_first}
use Rattle.written_tokens.proofs.tiles.Stepping.{longest_in, steps_behind}

-- ---- tiles of code

-- Each tile is the longest token of code, up to the first one that can't stand in a cast.
abbrev pub Coded : List Tile → Type 0
Coded [] = Unit {0}
Coded (tile kind b a ∷ ts) = IsLongest V74 code (b ∷ a ++ joined ts) kind (suc (length a)) × (stops_cast kind ≡ false → Coded ts)

no_stop : {A : Type 0} (kind : Kind) → stops_cast kind ≡ true → stops_cast kind ≡ false → A
no_stop kind h e = absurd (let clash : true ≡ false = sym h ∙ e in cc)

coded_by : (below : List Mode) (depth : ℕ) (kind : Kind) (b : ℕ) (a : List ℕ) (ts : List Tile) → Stand kind
    → Steps V74 (stack_of code below depth) (tile kind b a ∷ ts) → stops_cast kind ≡ false
    → Steps V74 (stack_of code below depth) ts
coded_by below depth Space b a ts space h e = steps_behind (stack_of code below depth) (stack_of code below depth) Space b a ts refl h
coded_by below depth Word b a ts word h e = steps_behind (stack_of code below depth) (stack_of code below depth) Word b a ts refl h
coded_by below depth Keyword b a ts keyword h e = steps_behind (stack_of code below depth) (stack_of code below depth) Keyword b a ts refl h
coded_by below depth kind b a ts (other p q r) h e = no_stop kind p e

pub coded : (below : List Mode) (depth : ℕ) (ts : List Tile) → Steps V74 (stack_of code below depth) ts → Coded ts
coded below depth [] h = tt
coded below depth (tile kind b a ∷ ts) h =
    (longest_in (stack_of code below depth) kind b a ts h, λ e. coded below depth ts (coded_by below depth kind b a ts (stand kind) h e))

-- ---- casts

abbrev pub all_blank : List ℕ → Bool
all_blank [] = true
all_blank (b ∷ a) = is_blank_byte b && all_blank a

-- blanks, and then `)`
abbrev pub ends_ahead : List Tile → Bool
ends_ahead [] = false
ends_ahead (tile kind b a ∷ ts) = cond (is_space_kind kind) (all_blank (b ∷ a) && ends_ahead ts) (stops_cast kind && nat_eq b 41)

-- blanks, a type, blanks and `)`
abbrev pub cast_ahead : List Tile → Bool
cast_ahead [] = false
cast_ahead (tile kind b a ∷ ts) =
    cond (is_space_kind kind) (all_blank (b ∷ a) && cast_ahead ts) (begins_type (b ∷ a) && (is_word_kind kind && ends_ahead ts))

line_end_is : (b : ℕ) → is_space b ≡ true → is_blank_byte b ≡ false → (nat_eq b 41 ≡ false) × (is_letter b ≡ false)
line_end_is b h e = (grind (arith, nat_tests), grind (arith, nat_tests))

space_blank : (b : ℕ) → is_space b ≡ false → is_blank_byte b ≡ false
space_blank b h = by_case (is_blank_byte b) h
  where
    by_case : (x : Bool) → (x || is_line_end b) ≡ false → x ≡ false
    by_case true h = absurd cc
    by_case false h = refl

blank_ends : (b : ℕ) (bs : List ℕ) (t : Bool) → is_blank_byte b ≡ t → is_space b ≡ true → ends_cast (b ∷ bs) ≡ (t && ends_cast bs)
blank_ends b bs true e h = rw e refl
blank_ends b bs false e h = rw (e, (line_end_is b h e).0) refl

and_assoc : (x y z : Bool) → (x && (y && z)) ≡ ((x && y) && z)
and_assoc true y z = refl
and_assoc false y z = refl

blanks_end : (t x : List ℕ) → all_space t ≡ true → ends_cast (t ++ x) ≡ (all_blank t && ends_cast x)
blanks_end [] x h = refl
blanks_end (b ∷ t) x h =
    let (here, more) = and_parts (is_space b) (all_space t) h in
    blank_ends b (t ++ x) (is_blank_byte b) refl here
    ∙ ap (λ (y : Bool). is_blank_byte b && y) (blanks_end t x more)
    ∙ and_assoc (is_blank_byte b) (all_blank t) (ends_cast x)

blank_casts : (b : ℕ) (bs : List ℕ) (t : Bool) → is_blank_byte b ≡ t → is_space b ≡ true → begins_cast (b ∷ bs) ≡ (t && begins_cast bs)
blank_casts b bs true e h = rw e refl
blank_casts b bs false e h = rw (e, no_type b bs (line_end_is b h e).1) refl

blanks_cast : (t x : List ℕ) → all_space t ≡ true → begins_cast (t ++ x) ≡ (all_blank t && begins_cast x)
blanks_cast [] x h = refl
blanks_cast (b ∷ t) x h =
    let (here, more) = and_parts (is_space b) (all_space t) h in
    blank_casts b (t ++ x) (is_blank_byte b) refl here
    ∙ ap (λ (y : Bool). is_blank_byte b && y) (blanks_cast t x more)
    ∙ and_assoc (is_blank_byte b) (all_blank t) (begins_cast x)

-- a token of another kind than white space begins with no white space
pub not_space : (b : ℕ) (a r : List ℕ) (kind : Kind) → is_space_kind kind ≡ false → IsLongest V74 code (b ∷ a ++ r) kind (suc (length a)) → is_space b ≡ false
not_space b a r kind h l = by_case (is_space b) refl
  where
    by_case : (x : Bool) → is_space b ≡ x → x ≡ false
    by_case false e = refl
    by_case true e = absurd (no_space_first b a r kind h l e)

letter_round : (b : ℕ) → is_letter b ≡ true → nat_eq b 41 ≡ false
letter_round b h = grind (arith, nat_tests)

pub word_letter : (b : ℕ) (a r : List ℕ) → IsLongest V74 code (b ∷ a ++ r) Word (suc (length a)) → is_letter b ≡ true
word_letter b a r l = (and_parts (is_letter b) (all_label a) (words_are_labels V74 b a r l)).0

y_letter : (b : ℕ) → nat_eq 121 (lower b) ≡ true → nat_eq b 41 ≡ false
y_letter b e = letter_round b (small_letter 121 b refl e)

plain_end : (b : ℕ) (bs : List ℕ) → is_blank_byte b ≡ false → ends_cast (b ∷ bs) ≡ nat_eq b 41
plain_end b bs e = rw e refl

ends_by : (kind : Kind) (b : ℕ) (a : List ℕ) (ts : List Tile) → Stand kind
    → IsLongest V74 code (b ∷ a ++ joined ts) kind (suc (length a))
    → (stops_cast kind ≡ false → ends_cast (joined ts) ≡ ends_ahead ts)
    → ends_cast (b ∷ a ++ joined ts) ≡ ends_ahead (tile kind b a ∷ ts)
ends_by Space b a ts space l ih = blanks_end (b ∷ a) (joined ts) (space_all b a (joined ts) l) ∙ ap (λ (y : Bool). all_blank (b ∷ a) && y) (ih refl)
ends_by Word b a ts word l ih = plain_end b (a ++ joined ts) (space_blank b (not_space b a (joined ts) Word refl l)) ∙ letter_round b (word_letter b a (joined ts) l)
ends_by Keyword b a ts keyword l ih = plain_end b (a ++ joined ts) (space_blank b (not_space b a (joined ts) Keyword refl l)) ∙ y_letter b (keyword_y b a (joined ts) l)
ends_by kind b a ts (other p q r) l ih = plain_end b (a ++ joined ts) (space_blank b (not_space b a (joined ts) kind q l)) ∙ rw (q, p) refl

pub ends_is : (ts : List Tile) → Coded ts → ends_cast (joined ts) ≡ ends_ahead ts
ends_is [] h = refl
ends_is (tile kind b a ∷ ts) h = ends_by kind b a ts (stand kind) h.0 (λ e. ends_is ts (h.1 e))

letters_go : (t x : List ℕ) → all_letters t ≡ true → goes_cast (t ++ x) ≡ goes_cast x
letters_go [] x h = refl
letters_go (b ∷ t) x h =
    let (here, more) = and_parts (is_letter b) (all_letters t) h in
    rw here (letters_go t x more)

label_letter : (b : ℕ) → is_label_byte b ≡ false → is_letter b ≡ false
label_letter b h = by_case (is_letter b) (is_digit b) h
  where
    by_case : (x y : Bool) → (x || y) ≡ false → x ≡ false
    by_case true y h = absurd cc
    by_case false y h = refl

goes_ends : (x : List ℕ) → begins is_label_byte x ≡ false → goes_cast x ≡ ends_cast x
goes_ends [] h = refl
goes_ends (b ∷ x) h = rw (label_letter b h) refl

plain_cast : (b : ℕ) (bs : List ℕ) → is_blank_byte b ≡ false → begins_cast (b ∷ bs) ≡ (begins_type (b ∷ bs) && goes_cast bs)
plain_cast b bs e = rw e refl

word_cast : (b : ℕ) (a x : List ℕ) (t : Bool) → begins_type (b ∷ a) ≡ t → all_label (b ∷ a) ≡ true
    → begins is_label_byte x ≡ false → (begins_type (b ∷ a ++ x) && goes_cast (a ++ x)) ≡ (t && ends_cast x)
word_cast b a x false e h k = rw (type_same (b ∷ a) x k, e) refl
word_cast b a x true e h k =
    let letters = (and_parts (is_letter b) (all_letters a) (type_letters (b ∷ a) h e)).1 in
    rw (type_same (b ∷ a) x k, e) (letters_go a x letters ∙ goes_ends x k)

letter_label : (b : ℕ) (a : List ℕ) → is_label (b ∷ a) ≡ true → all_label (b ∷ a) ≡ true
letter_label b a h =
    let (here, more) = and_parts (is_letter b) (all_label a) h in
    rw (here, more) refl

no_type_cast : (b : ℕ) (bs : List ℕ) → is_blank_byte b ≡ false → begins_type (b ∷ bs) ≡ false → begins_cast (b ∷ bs) ≡ false
no_type_cast b bs e f = rw (e, f) refl

cast_by : (kind : Kind) (b : ℕ) (a : List ℕ) (ts : List Tile) → Stand kind
    → IsLongest V74 code (b ∷ a ++ joined ts) kind (suc (length a)) → (stops_cast kind ≡ false → Coded ts)
    → (stops_cast kind ≡ false → begins_cast (joined ts) ≡ cast_ahead ts)
    → begins_cast (b ∷ a ++ joined ts) ≡ cast_ahead (tile kind b a ∷ ts)
cast_by Space b a ts space l more ih = blanks_cast (b ∷ a) (joined ts) (space_all b a (joined ts) l) ∙ ap (λ (y : Bool). all_blank (b ∷ a) && y) (ih refl)
cast_by Word b a ts word l more ih =
    plain_cast b (a ++ joined ts) (space_blank b (not_space b a (joined ts) Word refl l))
    ∙ word_cast b a (joined ts) (begins_type (b ∷ a)) refl (letter_label b a (words_are_labels V74 b a (joined ts) l)) (word_behind b a (joined ts) l)
    ∙ ap (λ (y : Bool). begins_type (b ∷ a) && y) (ends_is ts (more refl))
cast_by Keyword b a ts keyword l more ih =
    no_type_cast b (a ++ joined ts) (space_blank b (not_space b a (joined ts) Keyword refl l)) (no_type_y b (a ++ joined ts) (keyword_first b a (joined ts) l))
    ∙ sym (and_false (begins_type (b ∷ a)))
cast_by kind b a ts (other p q r) l more ih =
    no_type_cast b (a ++ joined ts) (space_blank b (not_space b a (joined ts) kind q l)) (no_type_stops b (a ++ joined ts) kind (suc (length a)) p l)
    ∙ sym (rw (q, r) (and_false (begins_type (b ∷ a))))

pub cast_is : (ts : List Tile) → Coded ts → begins_cast (joined ts) ≡ cast_ahead ts
cast_is [] h = refl
cast_is (tile kind b a ∷ ts) h = cast_by kind b a ts (stand kind) h.0 h.1 (λ e. cast_is ts (h.1 e))

-- ---- what goes on makes no cast

and_same : (x y z : Bool) → (y ≡ false → z ≡ false) → (x && y) ≡ false → (x && z) ≡ false
and_same true y z f h = f h
and_same false y z f h = refl

apart_round : (c x : ℕ) → nat_eq c x ≡ true → nat_eq x 41 ≡ false → nat_eq c 41 ≡ false
apart_round c x e f = subst (λ (y : ℕ). nat_eq y 41 ≡ false) (sym (eqb-true c x e)) f

put_round : (m tight : Bool) (c : ℕ) → tight ≡ true → (m && is_put tight c) ≡ true → nat_eq c 41 ≡ false
put_round m tight c t h =
    out_of (nat_eq c 41 ≡ false) (nat_eq c 40) (nat_eq c 91) (nat_eq c 93) (nat_eq c 125) (nat_eq c 92) (nat_eq c 35) (not tight && nat_eq c 41)
    (λ e. apart_round c 40 e refl)
    (λ e. apart_round c 91 e refl)
    (λ e. apart_round c 93 e refl)
    (λ e. apart_round c 125 e refl)
    (λ e. apart_round c 92 e refl)
    (λ e. apart_round c 35 e refl)
    (λ e. absurd (let clash : (not true && nat_eq c 41) ≡ true = rw t at e in cc))
    (and_parts m (is_put tight c) h).1

mark_ends : (kind : Kind) (c : ℕ) (e : List ℕ) (us : List Tile) → is_mark kind ≡ true → nat_eq c 41 ≡ false → ends_ahead (tile kind c e ∷ us) ≡ false
mark_ends kind c e us m h = mark_kind (λ (k : Kind). ends_ahead (tile k c e ∷ us) ≡ false) h h kind m

still_tight : (tight : Bool) → tight ≡ true → (tight && not false) ≡ true
still_tight tight t = rw t refl

ends_same : (tight : Bool) (kind : Kind) (b : ℕ) (a : List ℕ) (ts us : List Tile) → Stand kind → tight ≡ true
    → ((tight && not (stops_cast kind)) ≡ true → ends_ahead ts ≡ false → ends_ahead us ≡ false)
    → ends_ahead (tile kind b a ∷ ts) ≡ false → ends_ahead (tile kind b a ∷ us) ≡ false
ends_same tight Space b a ts us space t ih h = and_same (all_blank (b ∷ a)) (ends_ahead ts) (ends_ahead us) (ih (still_tight tight t)) h
ends_same tight Word b a ts us word t ih h = refl
ends_same tight Keyword b a ts us keyword t ih h = refl
ends_same tight kind b a ts us (other p q r) t ih h = rw q (rw q at h)

pub ends_goes : {tight gap : Bool} {ts us : List Tile} → ContinuesAs tight gap ts us → tight ≡ true → ends_ahead ts ≡ false → ends_ahead us ≡ false
ends_goes ended t h = refl
ends_goes (same {tight = tight} {ts = ts} {us = us} kind b a g) t h = ends_same tight kind b a ts us (stand kind) t (ends_goes g) h
ends_goes (put {tight = tight} {us = us} kind c e p q) t h = mark_ends kind c e us (and_parts (is_mark kind) (is_put tight c) p).0 (put_round (is_mark kind) tight c t p)
ends_goes (hash a e) t h = refl
ends_goes (brace kind e) t h = refl
ends_goes (escaped b c a e d l) t h =
    subst (λ (x : List ℕ). begins (λ (y : ℕ). nat_eq y 41) (x ++ []) ≡ false) l (escape_first (λ (y : ℕ). nat_eq y 41) b a [] refl h)

mark_casts : (kind : Kind) (c : ℕ) (e : List ℕ) (us : List Tile) → is_mark kind ≡ true → cast_ahead (tile kind c e ∷ us) ≡ false
mark_casts kind c e us m = mark_kind (λ (k : Kind). cast_ahead (tile k c e ∷ us) ≡ false) (and_false (begins_type (c ∷ e))) (and_false (begins_type (c ∷ e))) kind m

casts_same : (tight : Bool) (kind : Kind) (b : ℕ) (a : List ℕ) (ts us : List Tile) → Stand kind → tight ≡ true
    → ((tight && not (stops_cast kind)) ≡ true → (ends_ahead ts ≡ false → ends_ahead us ≡ false)
    × (cast_ahead ts ≡ false → cast_ahead us ≡ false)) → cast_ahead (tile kind b a ∷ ts) ≡ false
    → cast_ahead (tile kind b a ∷ us) ≡ false
casts_same tight Space b a ts us space t ih h = and_same (all_blank (b ∷ a)) (cast_ahead ts) (cast_ahead us) (ih (still_tight tight t)).1 h
casts_same tight Word b a ts us word t ih h = and_same (begins_type (b ∷ a)) (ends_ahead ts) (ends_ahead us) (ih (still_tight tight t)).0 h
casts_same tight Keyword b a ts us keyword t ih h = and_false (begins_type (b ∷ a))
casts_same tight kind b a ts us (other p q r) t ih h = rw (q, r) (and_false (begins_type (b ∷ a)))

pub casts_go : {tight gap : Bool} {ts us : List Tile} → ContinuesAs tight gap ts us → tight ≡ true → cast_ahead ts ≡ false → cast_ahead us ≡ false
casts_go ended t h = refl
casts_go (same {tight = tight} {ts = ts} {us = us} kind b a g) t h =
    casts_same tight kind b a ts us (stand kind) t (λ e. (ends_goes g e, casts_go g e)) h
casts_go (put {tight = tight} {us = us} kind c e p q) t h = mark_casts kind c e us (and_parts (is_mark kind) (is_put tight c) p).0
casts_go (hash a e) t h = and_false (begins_type (35 ∷ e))
casts_go (brace kind e) t h = refl
casts_go (escaped b c a e d l) t h = and_false (begins_type (c ∷ e))

-- ---- no cast where the first tile that stops one doesn't begin with `)`

stop_round : (b : ℕ) → not (nat_eq b 41) ≡ true → nat_eq b 41 ≡ false
stop_round b h = not-true (nat_eq b 41) h

uncast_ends_by : (kind : Kind) (b : ℕ) (a : List ℕ) (ts rest : List Tile) → Stand kind
    → (is_uncast ts ≡ true → ends_ahead (ts ++ rest) ≡ false) → is_uncast (tile kind b a ∷ ts) ≡ true
    → ends_ahead (tile kind b a ∷ ts ++ rest) ≡ false
uncast_ends_by Space b a ts rest space ih h = rw (ih h) (and_false (all_blank (b ∷ a)))
uncast_ends_by Word b a ts rest word ih h = refl
uncast_ends_by Keyword b a ts rest keyword ih h = refl
uncast_ends_by kind b a ts rest (other p q r) ih h =
    let shut : not (nat_eq b 41) ≡ true = rw p at h in
    rw (q, stop_round b shut) (and_false (stops_cast kind))

uncast_ends : (ts rest : List Tile) → is_uncast ts ≡ true → ends_ahead (ts ++ rest) ≡ false
uncast_ends [] rest h = absurd cc
uncast_ends (tile kind b a ∷ ts) rest h = uncast_ends_by kind b a ts rest (stand kind) (uncast_ends ts rest) h

uncast_by : (kind : Kind) (b : ℕ) (a : List ℕ) (ts rest : List Tile) → Stand kind
    → (is_uncast ts ≡ true → cast_ahead (ts ++ rest) ≡ false) → is_uncast (tile kind b a ∷ ts) ≡ true
    → cast_ahead (tile kind b a ∷ ts ++ rest) ≡ false
uncast_by Space b a ts rest space ih h = rw (ih h) (and_false (all_blank (b ∷ a)))
uncast_by Word b a ts rest word ih h = rw (uncast_ends ts rest h) (and_false (begins_type (b ∷ a)))
uncast_by Keyword b a ts rest keyword ih h = and_false (begins_type (b ∷ a))
uncast_by kind b a ts rest (other p q r) ih h = rw (q, r) (and_false (begins_type (b ∷ a)))

pub uncast : (ts rest : List Tile) → is_uncast ts ≡ true → cast_ahead (ts ++ rest) ≡ false
uncast [] rest h = absurd cc
uncast (tile kind b a ∷ ts) rest h = uncast_by kind b a ts rest (stand kind) (uncast ts rest) h
