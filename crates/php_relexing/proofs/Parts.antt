-- The tokens of the parts of quoted texts.
use Rattle.std.proofs.Common.{
  ◌≡◌,
  ℕ,
  suc,
  ◌+◌,
  Bool,
  true,
  false,
  not,
  ◌&&◌,
  ◌||◌,
  nat_eq,
  List,
  [],
  ◌∷◌,
  ◌++◌,
  length,
  codes,
  Option,
  Some,
  None,
  refl,
  sym,
  ap,
  ◌∙◌,
  subst,
  arith,
}
use Rattle.std.proofs.lemmas.Bool.{and_parts}
use Rattle.std.proofs.lemmas.Bool.Decides.{nat_tests}
use Rattle.php_tree.specs.declared.version.Version.{Version}
use Rattle.php_tree.specs.declared.version.Version.TheVariants.{V74, V83}
use Rattle.php_spellings.specs.declared.table.Kind.{Kind}
use Rattle.php_spellings.specs.declared.table.Kind.TheVariants.{Variable, Label, Op, Piece, CurlyOpen, DollarBrace, QuotedEnd}
use Rattle.php_spellings.specs.declared.table.Mark.{Mark}
use Rattle.php_spellings.specs.declared.table.Mark.TheVariants.{Double, Back, Here}
use Rattle.php_spellings.specs.declared.table.State.TheVariants.{First, Plain}
use Rattle.php_spellings.specs.declared.table.Run.TheVariants.{Labels}
use Rattle.php_spellings.specs.declared.table.Follow.TheVariants.{Anything, Dollar}
use Rattle.php_spellings.specs.declared.table.Tail.TheVariants.{When, SomeOf}
use Rattle.php_spellings.specs.Bytes.{is_letter, is_label_byte, is_empty, lower, begins, begins_by}
use Rattle.php_lexer.specs.Heredocs.{ends_heredoc}
use Rattle.php_lexer.specs.Tails.{begins_part, is_run}
use Rattle.php_lexer.specs.RulesQuoted.{from_line, end_rows}
use Rattle.php_lexer.specs.Modes.{quoted, offset, property, IsLongest}
use Rattle.php_lexer.specs.Scan.{scan, scan_by, behind, tail_len, run_len, some_len, add_to, longer}
use Rattle.php_relexing.specs.Labels.{all_label, is_label}
use Rattle.php_relexing.specs.Pieces.{is_labelled}
use Rattle.php_relexing.specs.Parts.{TextVariablesStay, BracesOpen, SimplePartsStay}
use Rattle.php_relexing.proofs.Bools.{and_false}
use Rattle.php_relexing.proofs.HeredocFronts.{Stopper, dollar_stops, brace_stops, stopper_ends}
use Rattle.php_relexing.proofs.Operators.{mark_same}
use Rattle.php_relexing.proofs.Picked.{longest_meets}
use Rattle.php_relexing.proofs.PieceRuns.{piece_len, no_end_line}
use Rattle.php_relexing.proofs.Scanned.{found, longest_of}

-- ---- labels

-- a label goes as far as its bytes
pub label_run : (label a s : List ℕ) → all_label a ≡ true → begins is_label_byte s ≡ false → run_len Labels label Plain (a ++ s) ≡ length a
label_run label [] [] h e = refl
label_run label [] (c ∷ s) h e = rw e refl
label_run label (b ∷ a) s h e =
    let (here, more) = and_parts (is_label_byte b) (all_label a) h in
    rw (here, label_run label a s more e) (omega arith)

pub plain_run : (text label rest : List ℕ) → is_run Labels label Plain text rest ≡ true → all_label text ≡ true
plain_run [] label rest h = refl
plain_run (b ∷ text) label rest h =
    let (here, more) = and_parts (is_label_byte b) (is_run Labels label Plain text rest) h in
    rw (here, plain_run text label rest more) refl

or_none : (x : Bool) → (x || false) ≡ true → x ≡ true
or_none true h = refl
or_none false h = absurd cc

-- ---- no other row begins with a part

no_end : (label : List ℕ) (c : ℕ) (bs : List ℕ) → is_label label ≡ true → Stopper c → scan_by label (end_rows Here true) (c ∷ bs) ≡ None
no_end [] c bs h is = absurd cc
no_end (l ∷ label) c bs h is =
    let (letter, more) = and_parts (is_letter l) (all_label label) h in
    let byte : is_label_byte l ≡ true = rw letter refl in
    rw (no_end_line (l ∷ label) (c ∷ bs) (stopper_ends label l c bs byte is)) refl

-- neither a piece nor the end of the text begins with a part
abbrev PartRows : Mark → List ℕ → Bool → List ℕ → Option (Kind × ℕ)
PartRows mark label fresh bs = longer Piece (add_to 0 (some_len (piece_len mark label (from_line fresh) bs))) (scan_by label (end_rows mark fresh) bs)

at_dollar : (mark : Mark) (label : List ℕ) (fresh : Bool) (bs : List ℕ) → is_labelled mark label ≡ true → begins_part 36 bs ≡ true → PartRows mark label fresh (36 ∷ bs) ≡ None
at_dollar Double label true bs h e = rw e refl
at_dollar Double label false bs h e = rw e refl
at_dollar Back label true bs h e = rw e refl
at_dollar Back label false bs h e = rw e refl
at_dollar Here label true bs h e = rw (e, and_false (not (ends_heredoc label (36 ∷ bs))), no_end label 36 bs h dollar_stops) refl
at_dollar Here label false bs h e = rw e refl

at_brace : (mark : Mark) (label : List ℕ) (fresh : Bool) (bs : List ℕ) → is_labelled mark label ≡ true → begins_by 36 bs ≡ true → PartRows mark label fresh (123 ∷ bs) ≡ None
at_brace Double label true bs h e = rw e refl
at_brace Double label false bs h e = rw e refl
at_brace Back label true bs h e = rw e refl
at_brace Back label false bs h e = rw e refl
at_brace Here label true bs h e = rw (e, and_false (not (ends_heredoc label (123 ∷ bs))), no_end label 123 bs h brace_stops) refl
at_brace Here label false bs h e = rw e refl

-- ---- what is scanned

front_rows : List ℕ → List ℕ → Option (Kind × ℕ) → Option (Kind × ℕ)
front_rows label bs o =
    longer Variable (behind lower (codes "$") (tail_len label (SomeOf Labels First)) bs)
    (longer CurlyOpen (behind lower (codes "{") (tail_len label (When Dollar)) bs)
    (longer DollarBrace (behind lower (codes "${") (tail_len label (When Anything)) bs) o))

by_rows : (v : Version) (mark : Mark) (label : List ℕ) (fresh : Bool) (bs : List ℕ) → scan v (quoted mark label fresh) bs ≡ front_rows label bs (PartRows mark label fresh bs)
unfolding front_rows
by_rows v mark label fresh bs = refl

no_brace : (c : ℕ) → is_letter c ≡ true → nat_eq 123 (lower c) ≡ false
no_brace c h = grind (arith, nat_tests)

counted : (n : ℕ) → add_to 1 (some_len (1 + n)) ≡ Some (suc (suc n))
counted n =
    let some : nat_eq (1 + n) 0 ≡ false = grind (arith, nat_tests) in
    let size : 1 + (1 + n) ≡ suc (suc n) = omega arith in
    rw (some, size) refl

variable_front : (label : List ℕ) (c : ℕ) (l s : List ℕ) → is_letter c ≡ true → all_label l ≡ true
    → begins is_label_byte s ≡ false → front_rows label (36 ∷ c ∷ l ++ s) None ≡ found Variable (suc (suc (length l)))
unfolding front_rows
variable_front label c l s h k e = rw (h, label_run label l s k e, counted (length l), no_brace c h) refl

variable_scan : (v : Version) (mark : Mark) (label : List ℕ) (fresh : Bool) (c : ℕ) (l s : List ℕ)
    → is_labelled mark label ≡ true → is_letter c ≡ true → all_label l ≡ true → begins is_label_byte s ≡ false
    → scan v (quoted mark label fresh) (36 ∷ c ∷ l ++ s) ≡ found Variable (suc (suc (length l)))
variable_scan v mark label fresh c l s m h k e =
    let part : begins_part 36 (c ∷ l ++ s) ≡ true = rw h refl in
    by_rows v mark label fresh (36 ∷ c ∷ l ++ s)
    ∙ ap (front_rows label (36 ∷ c ∷ l ++ s)) (at_dollar mark label fresh (c ∷ l ++ s) m part)
    ∙ variable_front label c l s h k e

curly_front : (label s : List ℕ) → begins_by 36 s ≡ true → front_rows label (123 ∷ s) None ≡ found CurlyOpen 1
unfolding front_rows
curly_front label s h = rw h refl

curly_scan : (v : Version) (mark : Mark) (label : List ℕ) (fresh : Bool) (s : List ℕ) → is_labelled mark label ≡ true
    → begins_by 36 s ≡ true → scan v (quoted mark label fresh) (123 ∷ s) ≡ found CurlyOpen 1
curly_scan v mark label fresh s m h =
    by_rows v mark label fresh (123 ∷ s) ∙ ap (front_rows label (123 ∷ s)) (at_brace mark label fresh s m h) ∙ curly_front label s h

-- ---- variables

abbrev is_variable_kind : Kind → Bool
is_variable_kind Variable = true
is_variable_kind _ = false

variable_meets : (v : Version) (mark : Mark) (label : List ℕ) (fresh : Bool) (b : ℕ) (a r : List ℕ)
    → IsLongest v (quoted mark label fresh) (b ∷ a ++ r) Variable (suc (length a))
    → (nat_eq 36 (lower b) && (not (is_empty a) && is_run Labels label First a r) || false) ≡ true
variable_meets v Double label true b a r h = longest_meets is_variable_kind v (quoted Double label true) (b ∷ a) r Variable refl h
variable_meets v Double label false b a r h = longest_meets is_variable_kind v (quoted Double label false) (b ∷ a) r Variable refl h
variable_meets v Back label true b a r h = longest_meets is_variable_kind v (quoted Back label true) (b ∷ a) r Variable refl h
variable_meets v Back label false b a r h = longest_meets is_variable_kind v (quoted Back label false) (b ∷ a) r Variable refl h
variable_meets v Here label true b a r h = longest_meets is_variable_kind v (quoted Here label true) (b ∷ a) r Variable refl h
variable_meets v Here label false b a r h = longest_meets is_variable_kind v (quoted Here label false) (b ∷ a) r Variable refl h

variable_by : (w : Version) (mark : Mark) (label : List ℕ) (fresh : Bool) (b : ℕ) (a r s : List ℕ)
    → is_labelled mark label ≡ true → begins is_label_byte s ≡ false → nat_eq 36 (lower b) ≡ true
    → (not (is_empty a) && is_run Labels label First a r) ≡ true
    → IsLongest w (quoted mark label fresh) (b ∷ a ++ s) Variable (suc (length a))
variable_by w mark label fresh b [] r s m e first h = absurd cc
variable_by w mark label fresh b (c ∷ l) r s m e first h =
    let (letter, more) = and_parts (is_letter c) (is_run Labels label Plain l r) h in
    let there = longest_of w (quoted mark label fresh) (36 ∷ c ∷ l ++ s) Variable (suc (suc (length l)))
    (variable_scan w mark label fresh c l s m letter (plain_run l label r more) e) in
    subst (λ (x : ℕ). IsLongest w (quoted mark label fresh) (x ∷ c ∷ l ++ s) Variable (suc (suc (length l)))) (sym (mark_same 36 b refl first)) there

pub text_variables_stay : TextVariablesStay
text_variables_stay v w mark label fresh b a r s m e h =
    let (first, more) = and_parts (nat_eq 36 (lower b)) (not (is_empty a) && is_run Labels label First a r) (or_none _ (variable_meets v mark label fresh b a r h)) in
    variable_by w mark label fresh b a r s m e first more

-- ---- braces and closing bytes

pub braces_open : BracesOpen
braces_open = record {
  curly = λ v mark label fresh s m h. longest_of v (quoted mark label fresh) (123 ∷ s) CurlyOpen 1 (curly_scan v mark label fresh s m h);
  double = double_closes;
  back = back_closes;
}
  where
    double_closes : (v : Version) (label : List ℕ) (fresh : Bool) (s : List ℕ) → IsLongest v (quoted Double label fresh) (34 ∷ s) QuotedEnd 1
    double_closes v label true s = longest_of v (quoted Double label true) (34 ∷ s) QuotedEnd 1 refl
    double_closes v label false s = longest_of v (quoted Double label false) (34 ∷ s) QuotedEnd 1 refl

    back_closes : (v : Version) (label : List ℕ) (fresh : Bool) (s : List ℕ) → IsLongest v (quoted Back label fresh) (96 ∷ s) QuotedEnd 1
    back_closes v label true s = longest_of v (quoted Back label true) (96 ∷ s) QuotedEnd 1 refl
    back_closes v label false s = longest_of v (quoted Back label false) (96 ∷ s) QuotedEnd 1 refl

-- ---- simple parts

abbrev is_label_kind : Kind → Bool
is_label_kind Label = true
is_label_kind _ = false

label_row : (n : ℕ) → add_to 0 (some_len (1 + n)) ≡ Some (suc n)
label_row n =
    let some : nat_eq (1 + n) 0 ≡ false = grind (arith, nat_tests) in
    let size : 0 + (1 + n) ≡ suc n = omega arith in
    rw (some, size) refl

no_arrow : (b : ℕ) → is_letter b ≡ true → (nat_eq 45 (lower b) ≡ false) × (nat_eq 63 (lower b) ≡ false)
no_arrow b h = (grind (arith, nat_tests), grind (arith, nat_tests))

label_scan : (w : Version) (b : ℕ) (a s : List ℕ) → is_letter b ≡ true → all_label a ≡ true
    → begins is_label_byte s ≡ false → scan w property (b ∷ a ++ s) ≡ found Label (suc (length a))
label_scan V74 b a s h k e = let no = no_arrow b h in rw (no.0, h, label_run [] a s k e, label_row (length a)) refl
label_scan V83 b a s h k e = let no = no_arrow b h in rw (no.0, no.1, h, label_run [] a s k e, label_row (length a)) refl

label_by : (w : Version) (b : ℕ) (a r s : List ℕ) → begins is_label_byte s ≡ false
    → (is_letter b && is_run Labels [] Plain a r || false) ≡ true
    → IsLongest w property (b ∷ a ++ s) Label (suc (length a))
label_by w b a r s e h =
    let (letter, more) = and_parts (is_letter b) (is_run Labels [] Plain a r) (or_none _ h) in
    longest_of w property (b ∷ a ++ s) Label (suc (length a)) (label_scan w b a s letter (plain_run a [] r more) e)

pub simple_parts_stay : SimplePartsStay
simple_parts_stay = record {
  opening = λ v s. longest_of v offset (91 ∷ s) Op 1 refl;
  ending = λ v s. longest_of v offset (93 ∷ s) Op 1 refl;
  minus = λ v s. longest_of v offset (45 ∷ s) Op 1 refl;
  arrow = arrows;
  label = labels;
}
  where
    arrows : (v : Version) (s : List ℕ) → IsLongest v property (45 ∷ 62 ∷ s) Op 2
    arrows V74 s = longest_of V74 property (45 ∷ 62 ∷ s) Op 2 refl
    arrows V83 s = longest_of V83 property (45 ∷ 62 ∷ s) Op 2 refl

    labels : (v w : Version) (b : ℕ) (a r s : List ℕ) → begins is_label_byte s ≡ false
        → IsLongest v property (b ∷ a ++ r) Label (suc (length a))
        → IsLongest w property (b ∷ a ++ s) Label (suc (length a))
    labels V74 w b a r s e h = label_by w b a r s e (longest_meets is_label_kind V74 property (b ∷ a) r Label refl h)
    labels V83 w b a r s e h = label_by w b a r s e (longest_meets is_label_kind V83 property (b ∷ a) r Label refl h)
