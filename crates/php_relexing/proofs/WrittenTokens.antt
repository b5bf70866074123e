-- The tokens that edits write.
use Rattle.std.proofs.Common.{
  ◌≡◌,
  ℕ,
  suc,
  ◌+◌,
  Bool,
  true,
  false,
  cond,
  not,
  ◌&&◌,
  ◌||◌,
  nat_eq,
  nat_lt,
  List,
  [],
  ◌∷◌,
  ◌++◌,
  length,
  codes,
  Option,
  Some,
  None,
  refl,
  ap,
  ◌∙◌,
  arith,
}
use Rattle.std.proofs.lemmas.Bool.{and_parts}
use Rattle.std.proofs.lemmas.Bool.Decides.{nat_tests}
use Rattle.php_tree.specs.declared.version.Version.{Version}
use Rattle.php_tree.specs.declared.version.Version.TheVariants.{V74, V83}
use Rattle.php_spellings.specs.declared.table.Kind.{Kind}
use Rattle.php_spellings.specs.declared.table.Kind.TheVariants.{Variable, Op, Cast, VarName}
use Rattle.php_spellings.specs.declared.table.State.TheVariants.{First, Plain}
use Rattle.php_spellings.specs.declared.table.Run.TheVariants.{Labels}
use Rattle.php_spellings.specs.Bytes.{is_letter, is_label_byte, is_empty, begins}
use Rattle.php_lexer.specs.Tails.{is_run}
use Rattle.php_lexer.specs.RulesCode.{code_rows}
use Rattle.php_lexer.specs.Modes.{code, named, IsLongest}
use Rattle.php_lexer.specs.Scan.{scan, scan_by, some_len, add_to, name_len, longer}
use Rattle.php_relexing.specs.Labels.{all_label, is_label}
use Rattle.php_relexing.specs.Written.{MarksAreTokens, NullIsWritten, VariablesAreTokens, is_var_name, NamedIsCode}
use Rattle.php_relexing.proofs.Labelled.{word_is}
use Rattle.php_relexing.proofs.Openings.{openings_are_uncast}
use Rattle.php_relexing.proofs.Parts.{label_run, plain_run}
use Rattle.php_relexing.proofs.Picked.{longest_meets}
use Rattle.php_relexing.proofs.Scanned.{found, scan_of, longest_of}
use Rattle.php_relexing.proofs.Written.{closing_is, square_is, end_square_is}

-- ---- marks

brace_is : (v : Version) (s : List ℕ) → IsLongest v code (123 ∷ s) Op 1
brace_is V74 s = longest_of V74 code (123 ∷ s) Op 1 refl
brace_is V83 s = longest_of V83 code (123 ∷ s) Op 1 refl

end_brace_is : (v : Version) (s : List ℕ) → IsLongest v code (125 ∷ s) Op 1
end_brace_is V74 s = longest_of V74 code (125 ∷ s) Op 1 refl
end_brace_is V83 s = longest_of V83 code (125 ∷ s) Op 1 refl

dollar_is : (v : Version) (s : List ℕ) → IsLongest v code (36 ∷ 123 ∷ s) Op 1
dollar_is V74 s = longest_of V74 code (36 ∷ 123 ∷ s) Op 1 refl
dollar_is V83 s = longest_of V83 code (36 ∷ 123 ∷ s) Op 1 refl

float_is : (v : Version) (s : List ℕ) → IsLongest v code (codes "(float)" ++ s) Cast 7
float_is V74 s = longest_of V74 code (codes "(float)" ++ s) Cast 7 refl
float_is V83 s = longest_of V83 code (codes "(float)" ++ s) Cast 7 refl

pub marks_are_tokens : MarksAreTokens
marks_are_tokens = record {
  closing = closing_is;
  square = square_is;
  end_square = end_square_is;
  brace = brace_is;
  end_brace = end_brace_is;
  dollar = dollar_is;
  float = float_is;
}

pub null_is_written : NullIsWritten
null_is_written = record {
  opening = λ v s. openings_are_uncast.opens v (codes "null)" ++ s) refl;
  null = λ v s. word_is v 110 (codes "ull") (41 ∷ s) refl refl refl refl refl;
}

-- ---- variables of code

counted : (n : ℕ) → add_to 1 (some_len (1 + n)) ≡ Some (suc (suc n))
counted n =
    let some : nat_eq (1 + n) 0 ≡ false = grind (arith, nat_tests) in
    let size : 1 + (1 + n) ≡ suc (suc n) = omega arith in
    rw (some, size) refl

more_than_one : (n : ℕ) → nat_lt (suc (suc n)) 1 ≡ false
more_than_one n = grind (arith, nat_tests)

variable_scan : (v : Version) (c : ℕ) (l s : List ℕ) → is_letter c ≡ true → all_label l ≡ true
    → begins is_label_byte s ≡ false → scan v code (36 ∷ c ∷ l ++ s) ≡ found Variable (suc (suc (length l)))
variable_scan V74 c l s h k e = rw (h, label_run [] l s k e, counted (length l), more_than_one (length l)) refl
variable_scan V83 c l s h k e = rw (h, label_run [] l s k e, counted (length l), more_than_one (length l)) refl

pub variables_are_tokens : VariablesAreTokens
variables_are_tokens v [] s h e = absurd cc
variables_are_tokens v (c ∷ l) s h e =
    let (letter, more) = and_parts (is_letter c) (all_label l) h in
    longest_of v code (36 ∷ c ∷ l ++ s) Variable (suc (suc (length l))) (variable_scan v c l s letter more e)

-- ---- directly behind `${`

or_none : (x : Bool) → (x || false) ≡ true → x ≡ true
or_none true h = refl
or_none false h = absurd cc

name_by : (t r : List ℕ) (other : Bool) → ((not (is_empty t) && is_run Labels [] First t r) && other || false) ≡ true → is_label t ≡ true
name_by [] r other h = absurd cc
name_by (b ∷ a) r other h =
    let run = (and_parts (is_letter b && is_run Labels [] Plain a r) other (or_none _ h)).0 in
    let (first, more) = and_parts (is_letter b) (is_run Labels [] Plain a r) run in
    rw (first, plain_run a [] r more) refl

names_are : (v : Version) (t r : List ℕ) → IsLongest v named (t ++ r) VarName (length t) → is_label t ≡ true
names_are V74 t r h = name_by t r _ (longest_meets is_var_name V74 named t r VarName refl h)
names_are V83 t r h = name_by t r _ (longest_meets is_var_name V83 named t r VarName refl h)

abbrev named_found : Option (Kind × ℕ) → Bool
named_found None = false
named_found (Some x) = is_var_name x.0

clash : {A : Type 0} (kind : Kind) (m n : ℕ) → is_var_name kind ≡ false → found VarName m ≡ found kind n → A
clash kind m n h e = let f : true ≡ is_var_name kind = ap named_found e in let g : true ≡ false = f ∙ h in absurd cc

longer_by : (n m : ℕ) (k kind : Kind) (i : ℕ) → is_var_name kind ≡ false → (t : Bool) → nat_lt n m ≡ t
    → cond t (found k m) (found VarName n) ≡ found kind i → found k m ≡ found kind i
longer_by n m k kind i h true p e = e
longer_by n m k kind i h false p e = clash kind n i h e

other_by : (o : Option ℕ) (x : Option (Kind × ℕ)) (kind : Kind) (i : ℕ) → is_var_name kind ≡ false → longer VarName o x ≡ found kind i → x ≡ found kind i
other_by None x kind i h e = e
other_by (Some n) None kind i h e = clash kind n i h e
other_by (Some n) (Some x) kind i h e = longer_by n x.1 x.0 kind i h (nat_lt n x.1) refl e

others_are : (v : Version) (bs : List ℕ) (kind : Kind) (n : ℕ) → is_var_name kind ≡ false → IsLongest v named bs kind n → IsLongest v code bs kind n
others_are v bs kind n h l = longest_of v code bs kind n (other_by (add_to 0 (name_len bs)) (scan_by [] (code_rows v) bs) kind n h (scan_of v named bs kind n l))

pub named_is_code : NamedIsCode
named_is_code = record { name = names_are; other = others_are }
