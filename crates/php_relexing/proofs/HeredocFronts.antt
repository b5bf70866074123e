-- Where a line may end a heredoc, before other bytes.
use Rattle.std.proofs.Common.{◌≡◌, ℕ, suc, ◌+◌, Bool, true, false, cond, ◌&&◌, nat_eq, List, [], ◌∷◌, ◌++◌, length, drop, refl, sym, ap, ◌∙◌, arith}
use Rattle.std.proofs.lemmas.Bool.{and_parts, eqb-true}
use Rattle.php_spellings.specs.Bytes.{is_blank_byte, is_label_byte, starts, blanks_len, skip_blanks}
use Rattle.php_lexer.specs.Heredocs.{no_label, begins_label, ends_heredoc}
use Rattle.php_relexing.specs.Labels.{all_label}

-- what is true of each of the texts that end a text
abbrev pub Ends : (List ℕ → Type 0) → List ℕ → Type 0
Ends P [] = Unit {0}
Ends P (b ∷ y) = P (b ∷ y) × (Ends P y)

pub each_end : (P : List ℕ → Type 0) → ((y : List ℕ) → P y) → (x : List ℕ) → Ends P x
each_end P f [] = tt
each_end P f (b ∷ y) = (f (b ∷ y), each_end P f y)

-- ---- blanks

pub skip_by : (b : ℕ) (bs : List ℕ) (t : Bool) → is_blank_byte b ≡ t → skip_blanks (b ∷ bs) ≡ cond t (skip_blanks bs) (b ∷ bs)
skip_by b bs true e = let one : 1 + blanks_len bs ≡ suc (blanks_len bs) = omega arith in rw (e, one) refl
skip_by b bs false e = rw e refl

-- ---- a byte that is no byte of a label stops one

-- neither a byte of a label nor a blank
pub record Stopper (c : ℕ) : Type 0 where
  pub label : is_label_byte c ≡ false
  pub blank : is_blank_byte c ≡ false

no_match : (l c : ℕ) → is_label_byte l ≡ true → is_label_byte c ≡ false → nat_eq l c ≡ false
no_match l c h e = by_test (nat_eq l c) refl
  where
    by_test : (t : Bool) → nat_eq l c ≡ t → t ≡ false
    by_test false p = refl
    by_test true p = let clash : true ≡ false = sym h ∙ ap is_label_byte (eqb-true l c p) ∙ e in absurd cc

module _ (c d : ℕ) (r s : List ℕ) (is_c : Stopper c) (is_d : Stopper d) where
  label_step : (l : ℕ) (ls : List ℕ) (y : ℕ) (x : List ℕ) → begins_label ls (x ++ c ∷ r) ≡ begins_label ls
      (x ++ d ∷ s) → (t : Bool) → ((t && starts ls (x ++ c ∷ r)) && no_label (drop (length ls) (x ++ c ∷ r))) ≡
      ((t && starts ls (x ++ d ∷ s)) && no_label (drop (length ls) (x ++ d ∷ s)))
  label_step l ls y x ih true = ih
  label_step l ls y x ih false = refl

  label_same : (ls : List ℕ) → all_label ls ≡ true → (x : List ℕ) → begins_label ls (x ++ c ∷ r) ≡ begins_label ls (x ++ d ∷ s)
  label_same [] h [] = rw (is_c.label, is_d.label) refl
  label_same [] h (y ∷ x) = refl
  label_same (l ∷ ls) h [] =
      let (here, more) = and_parts (is_label_byte l) (all_label ls) h in
      rw (no_match l c here is_c.label, no_match l d here is_d.label) refl
  label_same (l ∷ ls) h (y ∷ x) =
      let (here, more) = and_parts (is_label_byte l) (all_label ls) h in
      label_step l ls y x (label_same ls more x) (nat_eq l y)

  ends_by : (label : List ℕ) → all_label label ≡ true → (y : ℕ) (x : List ℕ)
      → ends_heredoc label (x ++ c ∷ r) ≡ ends_heredoc label (x ++ d ∷ s) → (t : Bool) → is_blank_byte y ≡ t
      → begins_label label (cond t (skip_blanks (x ++ c ∷ r)) (y ∷ x ++ c ∷ r)) ≡ begins_label label
      (cond t (skip_blanks (x ++ d ∷ s)) (y ∷ x ++ d ∷ s))
  ends_by label h y x ih true e = ih
  ends_by label h y x ih false e = label_same label h (y ∷ x)

  -- a line ends the heredoc as well before another such byte
  pub ends_same : (label : List ℕ) → all_label label ≡ true → (x : List ℕ) → ends_heredoc label (x ++ c ∷ r) ≡ ends_heredoc label (x ++ d ∷ s)
  ends_same label h [] =
      let old = skip_by c r false is_c.blank in
      let new = skip_by d s false is_d.blank in
      ap (begins_label label) old ∙ label_same label h [] ∙ sym (ap (begins_label label) new)
  ends_same label h (y ∷ x) =
      let old = skip_by y (x ++ c ∷ r) (is_blank_byte y) refl in
      let new = skip_by y (x ++ d ∷ s) (is_blank_byte y) refl in
      ap (begins_label label) old ∙ ends_by label h y x (ends_same label h x) (is_blank_byte y) refl ∙ sym (ap (begins_label label) new)

pub dollar_stops : Stopper 36
dollar_stops = record { label = refl; blank = refl }

pub brace_stops : Stopper 123
brace_stops = record { label = refl; blank = refl }

pub backslash_stops : Stopper 92
backslash_stops = record { label = refl; blank = refl }

-- no heredoc ends at such a byte
pub stopper_ends : (label : List ℕ) (l : ℕ) (c : ℕ) (s : List ℕ) → is_label_byte l ≡ true → Stopper c → ends_heredoc (l ∷ label) (c ∷ s) ≡ false
stopper_ends label l c s h is = ap (begins_label (l ∷ label)) (skip_by c s false is.blank) ∙ rw (no_match l c h is.label) refl
