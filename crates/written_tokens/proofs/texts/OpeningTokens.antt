-- The tokens that open quoted texts, before the written bytes.
use Rattle.std.proofs.Common.{
  ◌≡◌,
  ℕ,
  suc,
  ◌+◌,
  Bool,
  true,
  false,
  not,
  ◌&&◌,
  ◌||◌,
  nat_eq,
  nat_lt,
  List,
  [],
  ◌∷◌,
  ◌++◌,
  length,
  codes,
  Option,
  Some,
  None,
  refl,
  sym,
  ap,
  ◌∙◌,
  subst,
  arith,
}
use Rattle.std.proofs.lemmas.Bool.{and_parts, eqb-true}
use Rattle.std.proofs.lemmas.Bool.Decides.{nat_tests}
use Rattle.php_tree.specs.declared.version.Version.TheVariants.{V74}
use Rattle.php_spellings.specs.declared.table.Kind.{Kind}
use Rattle.php_spellings.specs.declared.table.Kind.TheVariants.{Text, Quote, Backtick, Piece}
use Rattle.php_spellings.specs.declared.table.Mark.TheVariants.{Double, Back}
use Rattle.php_spellings.specs.declared.table.Follow.TheVariants.{Anything}
use Rattle.php_spellings.specs.declared.table.State.{State}
use Rattle.php_spellings.specs.declared.table.State.TheVariants.{First, Plain, Escaped}
use Rattle.php_spellings.specs.declared.table.Run.TheVariants.{Body}
use Rattle.php_spellings.specs.declared.table.Tail.TheVariants.{When}
use Rattle.php_spellings.specs.declared.table.Until.TheVariants.{Closed}
use Rattle.php_spellings.specs.Bytes.{is_empty, lower, begins_by}
use Rattle.php_lexer.specs.Heredocs.{led}
use Rattle.php_lexer.specs.Rules.{is_tail}
use Rattle.php_lexer.specs.Tails.{begins_part, in_piece, moved, is_run}
use Rattle.php_lexer.specs.Modes.{code, quoted, IsLongest}
use Rattle.php_lexer.specs.Scan.{scan, until_len, add_to, longer}
use Rattle.php_relexing.proofs.Closed.{double_to, bd_scan, kind_found}
use Rattle.php_relexing.proofs.Operators.{mark_same}
use Rattle.php_relexing.proofs.Picked.{longest_meets}
use Rattle.php_relexing.proofs.PieceLaws.{is_escaped, not_escaped}
use Rattle.php_relexing.proofs.Pieces.{state_behind, piece_of}
use Rattle.php_relexing.proofs.Quotes.{quotes_open}
use Rattle.php_relexing.proofs.Scanned.{found, scan_of, longest_of}
use Rattle.written_tokens.proofs.texts.Seams as seams
use Rattle.written_tokens.proofs.texts.Seams.{Seam, seam_feed}
use Rattle.written_tokens.proofs.texts.Stepping.{first}

-- ---- `"` before what is no text without parts

abbrev pub is_some : Option ℕ → Bool
is_some None = false
is_some (Some n) = true

none_is : (o : Option ℕ) → is_some o ≡ false → o ≡ None
none_is None h = refl
none_is (Some n) h = absurd cc

quote_to : Option ℕ → Option (Kind × ℕ)
quote_to o = longer Text (add_to 1 o) (Some (Quote, 1))

quote_scan : (bs : List ℕ) → scan V74 code (34 ∷ bs) ≡ quote_to (until_len Closed First bs)
unfolding quote_to
quote_scan bs = refl

quote_none : quote_to None ≡ found Quote 1
unfolding quote_to
quote_none = refl

quote_alone : (o : Option ℕ) → quote_to o ≡ found Quote 1 → is_some o ≡ false
unfolding quote_to
quote_alone None e = refl
quote_alone (Some n) e =
    let more : nat_lt (1 + n) 1 ≡ false = grind (arith, nat_tests) in
    let clash : Some Text ≡ Some Quote = ap kind_found (rw more at e) in
    absurd cc

binary_alone : (o : Option ℕ) → double_to o ≡ found Quote 2 → is_some o ≡ false
binary_alone None e = refl
binary_alone (Some n) e = let clash : Some Text ≡ Some Quote = ap kind_found e in absurd cc

abbrev pub Unclosed : List ℕ → Type 0
Unclosed bs = is_some (until_len Closed First bs) ≡ false

quote_of : (bs : List ℕ) → Unclosed bs → IsLongest V74 code (34 ∷ bs) Quote 1
quote_of bs h = longest_of V74 code (34 ∷ bs) Quote 1 (quote_scan bs ∙ ap quote_to (none_is (until_len Closed First bs) h) ∙ quote_none)

pub of_quote : (bs : List ℕ) → IsLongest V74 code (34 ∷ bs) Quote 1 → Unclosed bs
of_quote bs h = quote_alone (until_len Closed First bs) (sym (quote_scan bs) ∙ scan_of V74 code (34 ∷ bs) Quote 1 h)

binary_of : (b : ℕ) (bs : List ℕ) → lower b ≡ 98 → Unclosed bs → IsLongest V74 code (b ∷ 34 ∷ bs) Quote 2
binary_of b bs is h = longest_of V74 code (b ∷ 34 ∷ bs) Quote 2 (bd_scan V74 b bs is ∙ ap double_to (none_is (until_len Closed First bs) h))

of_binary : (b : ℕ) (bs : List ℕ) → lower b ≡ 98 → IsLongest V74 code (b ∷ 34 ∷ bs) Quote 2 → Unclosed bs
of_binary b bs is h = binary_alone (until_len Closed First bs) (sym (bd_scan V74 b bs is) ∙ scan_of V74 code (b ∷ 34 ∷ bs) Quote 2 h)

-- ---- a piece before `"` is a text without parts

not_two : (x y : Bool) → (not x && not y) ≡ true → (x ≡ false) × (y ≡ false)
not_two true y h = absurd cc
not_two false true h = absurd cc
not_two false false h = (refl, refl)

some_more : (o : Option ℕ) → is_some o ≡ true → is_some (add_to 1 o) ≡ true
some_more None h = absurd cc
some_more (Some n) h = refl

closed_end : (s : State) (u : List ℕ) → is_escaped s ≡ false → is_some (until_len Closed s (34 ∷ u)) ≡ true
closed_end First u h = refl
closed_end Plain u h = refl
closed_end Escaped u h = absurd cc

closed_over : (s : State) (x u : List ℕ) → is_run (Body Double) [] s x (34 ∷ u) ≡ true
    → is_escaped (state_behind Double s x) ≡ false → is_some (until_len Closed s (x ++ 34 ∷ u)) ≡ true
closed_over s [] u h e = closed_end s u e
closed_over First (b ∷ x) u h e =
    let (here, more) = and_parts (in_piece Double [] First b (x ++ 34 ∷ u)) (is_run (Body Double) [] (moved (Body Double) First b) x (34 ∷ u)) h in
    let is = not_two (nat_eq b 34) (begins_part b (x ++ 34 ∷ u)) here in
    rw (is.1, is.0) (some_more (until_len Closed (moved (Body Double) First b) (x ++ 34 ∷ u)) (closed_over (moved (Body Double) First b) x u more e))
closed_over Plain (b ∷ x) u h e =
    let (here, more) = and_parts (in_piece Double [] Plain b (x ++ 34 ∷ u)) (is_run (Body Double) [] (moved (Body Double) Plain b) x (34 ∷ u)) h in
    let is = not_two (nat_eq b 34) (begins_part b (x ++ 34 ∷ u)) here in
    rw (is.1, is.0) (some_more (until_len Closed (moved (Body Double) Plain b) (x ++ 34 ∷ u)) (closed_over (moved (Body Double) Plain b) x u more e))
closed_over Escaped (b ∷ x) u h e = some_more (until_len Closed (moved (Body Double) Escaped b) (x ++ 34 ∷ u)) (closed_over (moved (Body Double) Escaped b) x u h e)

first_plain : (bs : List ℕ) → until_len Closed First bs ≡ until_len Closed Plain bs
first_plain [] = refl
first_plain (b ∷ bs) = refl

closed_piece : (b : ℕ) (a u : List ℕ) → IsLongest V74 (quoted Double [] false) (b ∷ a ++ 34 ∷ u) Piece (suc (length a)) → is_some (until_len Closed First (b ∷ a ++ 34 ∷ u)) ≡ true
closed_piece b a u h =
    let is = piece_of V74 Double [] false (b ∷ a) (34 ∷ u) h in
    ap is_some (first_plain (b ∷ a ++ 34 ∷ u))
    ∙ closed_over Plain (b ∷ a) u is.run (not_escaped Double [] (state_behind Double Plain (b ∷ a)) 34 u is.stops)

pub no_quote : (b : ℕ) (a r : List ℕ) → IsLongest V74 (quoted Double [] false) (b ∷ a ++ r) Piece (suc (length a)) → Unclosed (b ∷ a ++ r) → begins_by 34 r ≡ false
no_quote b a [] h e = refl
no_quote b a (c ∷ u) h e = by_test (nat_eq c 34) refl
  where
    by_test : (t : Bool) → nat_eq c 34 ≡ t → t ≡ false
    by_test false p = refl
    by_test true p =
        let here : IsLongest V74 (quoted Double [] false) (b ∷ a ++ 34 ∷ u) Piece (suc (length a)) =
        subst (λ (x : ℕ). IsLongest V74 (quoted Double [] false) (b ∷ a ++ x ∷ u) Piece (suc (length a)))
        (eqb-true c 34 p) h in
        let clash : true ≡ false = sym (closed_piece b a u here) ∙ subst (λ (x : ℕ). Unclosed (b ∷ a ++ x ∷ u)) (eqb-true c 34 p) e in
        cc

-- what the text begins with is no text without parts in the written bytes either
unclosed : {t : Bool} {r s : List ℕ} → Seam Double [] false t r s → Unclosed r → Unclosed s
unclosed (seams.dollar c d r s p q) h = rw q refl
unclosed (seams.curly r s p q) h = rw q refl
unclosed (seams.curled r s) h = refl
unclosed (seams.closed r s k) h = absurd cc
unclosed (seams.label_ends b a r s here line ends) h = absurd cc
unclosed (seams.pieces b c a e r s k l even q f) h =
    of_quote (c ∷ e ++ s) (quotes_open.piece V74 V74 (c ∷ e) s (sym q ∙ no_quote b a r k h) l)

-- ---- the opening tokens

or_none : (x : Bool) → (x || false) ≡ true → x ≡ true
or_none true h = refl
or_none false h = absurd cc

empty_is : (a : List ℕ) → is_empty a ≡ true → a ≡ []
empty_is [] h = refl
empty_is (b ∷ a) h = absurd cc

-- `"`, maybe with `b` in front
pub data QuoteText : ℕ → List ℕ → Type 0 where
  plain : QuoteText 34 []
  binary : (b : ℕ) → lower b ≡ 98 → QuoteText b (34 ∷ [])

plain_case : (b : ℕ) (a : List ℕ) → (nat_eq 34 (lower b) && (is_empty a && true)) ≡ true → QuoteText b a
plain_case b a h =
    let (first, more) = and_parts (nat_eq 34 (lower b)) (is_empty a && true) h in
    subst (λ (x : ℕ). QuoteText x a) (sym (mark_same 34 b refl first))
    (subst (λ (u : List ℕ). QuoteText 34 u) (sym (empty_is a (and_parts (is_empty a) true more).0)) plain)

binary_case : (b : ℕ) (a r : List ℕ) → led lower (codes "b\"") (is_tail [] (When Anything)) (b ∷ a) r ≡ true → QuoteText b a
binary_case b [] r h = let (one, none) = and_parts (nat_eq 98 (lower b)) false h in absurd cc
binary_case b (c ∷ a) r h =
    let (one, more) = and_parts (nat_eq 98 (lower b)) (nat_eq 34 (lower c) && (is_empty a && true)) h in
    let (two, last) = and_parts (nat_eq 34 (lower c)) (is_empty a && true) more in
    subst (λ (x : ℕ). QuoteText b (x ∷ a)) (sym (mark_same 34 c refl two))
    (subst (λ (u : List ℕ). QuoteText b (34 ∷ u)) (sym (empty_is a (and_parts (is_empty a) true last).0)) (binary b (sym (eqb-true 98 (lower b) one))))

case_of : (b : ℕ) (a : List ℕ) (x y : Bool) → (x ≡ true → QuoteText b a) → (y ≡ true → QuoteText b a) → (x || (y || false)) ≡ true → QuoteText b a
case_of b a true y f g h = f refl
case_of b a false y f g h = g (or_none y h)

abbrev is_quote : Kind → Bool
is_quote Quote = true
is_quote _ = false

pub quote_text : (b : ℕ) (a r : List ℕ) → IsLongest V74 code (b ∷ a ++ r) Quote (suc (length a)) → QuoteText b a
quote_text b a r h =
    case_of b a (nat_eq 34 (lower b) && (is_empty a && true)) (led lower (codes "b\"") (is_tail [] (When Anything)) (b ∷ a) r)
    (plain_case b a) (binary_case b a r) (longest_meets is_quote V74 code (b ∷ a) r Quote refl h)

pub quote_by : (b : ℕ) (a r s : List ℕ) → QuoteText b a → (Unclosed r → Unclosed s)
    → IsLongest V74 code (b ∷ a ++ r) Quote (suc (length a)) → IsLongest V74 code (b ∷ a ++ s) Quote (suc (length a))
quote_by b a r s plain f h = quote_of s (f (of_quote r h))
quote_by b a r s (binary c is) f h = binary_of c s is (f (of_binary c r is h))

pub quote_stays : (b : ℕ) (a : List ℕ) (t : Bool) (r s : List ℕ) → Seam Double [] false t r s
    → IsLongest V74 code (b ∷ a ++ r) Quote (suc (length a)) → IsLongest V74 code (b ∷ a ++ s) Quote (suc (length a))
quote_stays b a t r s seam h = quote_by b a r s (quote_text b a r h) (unclosed seam) h

abbrev is_back : Kind → Bool
is_back Backtick = true
is_back _ = false

back_is : (s : List ℕ) → IsLongest V74 code (96 ∷ s) Backtick 1
back_is s = longest_of V74 code (96 ∷ s) Backtick 1 refl

pub back_stays : (b : ℕ) (a : List ℕ) (t : Bool) (r s : List ℕ) → Seam Back [] false t r s
    → IsLongest V74 code (b ∷ a ++ r) Backtick (suc (length a))
    → IsLongest V74 code (b ∷ a ++ s) Backtick (suc (length a))
back_stays b a t r s seam h =
    let (first, more) = and_parts (nat_eq 96 (lower b)) (is_empty a && true) (or_none _ (longest_meets is_back V74 code (b ∷ a) r Backtick refl h)) in
    subst (λ (x : ℕ). IsLongest V74 code (x ∷ a ++ s) Backtick (suc (length a))) (sym (mark_same 96 b refl first))
    (subst (λ (u : List ℕ). IsLongest V74 code (96 ∷ u ++ s) Backtick (suc (length u))) (sym (empty_is a (and_parts (is_empty a) true more).0)) (back_is s))
