-- Runs that are counted by the class of their bytes alone.
use Rattle.std.proofs.Common.{◌≡◌, ℕ, suc, ◌+◌, Bool, true, false, cond, ◌&&◌, nat_eq, List, [], ◌∷◌, take, drop, Option, Some, None, refl, sym, ap, ◌∙◌, arith, zero-add}
use Rattle.std.proofs.lemmas.Bool.{eqb-true, ne_eqb}
use Rattle.std.proofs.lemmas.Bool.Decides.{nat_tests}
use Rattle.std.specs.List.{prefix_len}
use Rattle.php_spellings.specs.declared.table.Kind.{Kind}
use Rattle.php_spellings.specs.declared.table.Kind.TheVariants.{Space, Word}
use Rattle.php_spellings.specs.declared.table.State.{State}
use Rattle.php_spellings.specs.declared.table.State.TheVariants.{First, Plain}
use Rattle.php_spellings.specs.declared.table.Run.TheVariants.{Spaces, Labels}
use Rattle.php_spellings.specs.Bytes.{is_space, is_letter, is_label_byte, label_len, lower, begins}
use Rattle.php_lexer.specs.Rules.{is_b, begins_text}
use Rattle.php_lexer.specs.RulesCode.{common_rows}
use Rattle.php_lexer.specs.Tails.{begins_type}
use Rattle.php_lexer.specs.Scan.{run_len, some_len, add_to, scan_by, word_len, longer}
use Rattle.php_lexer.proofs.Dispatch.{space_scan, plain_scan, lower_other}

-- ---- white space and labels

pub spaces_run : (label : List ℕ) (s : State) (bs : List ℕ) → prefix_len is_space bs ≡ run_len Spaces label s bs
spaces_run label s [] = refl
spaces_run label s (b ∷ bs) = ap (λ (n : ℕ). cond (is_space b) (1 + n) 0) (spaces_run label Plain bs)

pub labels_run : (label : List ℕ) (bs : List ℕ) → label_len bs ≡ run_len Labels label Plain bs
labels_run label [] = refl
labels_run label (b ∷ bs) = ap (λ (n : ℕ). cond (is_label_byte b) (1 + n) 0) (labels_run label bs)

by_letter : (label : List ℕ) (b : ℕ) (bs : List ℕ) (t : Bool) → is_letter b ≡ t → t ≡ true → label_len (b ∷ bs) ≡ run_len Labels label First (b ∷ bs)
by_letter label b bs true e h = rw e (ap (λ (n : ℕ). 1 + n) (labels_run label bs))
by_letter label b bs false e h = absurd cc

pub letter_run : (label : List ℕ) (bs : List ℕ) → begins is_letter bs ≡ true → label_len bs ≡ run_len Labels label First bs
letter_run label [] h = absurd cc
letter_run label (b ∷ bs) h = by_letter label b bs true h refl

pub no_letter_run : (label : List ℕ) (bs : List ℕ) → begins is_letter bs ≡ false → 0 ≡ run_len Labels label First bs
no_letter_run label [] h = refl
no_letter_run label (b ∷ bs) h = let e : is_letter b ≡ false = h in rw e refl

-- ---- the longest token that white space or a letter begins

one_more : (n : ℕ) → nat_eq (1 + n) 0 ≡ false
one_more n = grind (arith, nat_tests)

longer_some : (kind : Kind) (m n : ℕ) → n ≡ 1 + m → longer kind (add_to 0 (some_len n)) None ≡ Some (kind, n)
longer_some kind m n e = rw e (rw (one_more m) (ap (λ (k : ℕ). longer kind (Some k) None) (zero-add (1 + m))))

pub space_direct : (b : ℕ) (bs : List ℕ) → is_space b ≡ true → Some (Space, run_len Spaces [] First (b ∷ bs)) ≡ scan_by [] common_rows (b ∷ bs)
space_direct b bs h =
    let e : run_len Spaces [] First (b ∷ bs) ≡ 1 + run_len Spaces [] Plain bs = rw h refl in
    sym (space_scan b bs h ∙ longer_some Space (run_len Spaces [] Plain bs) (run_len Spaces [] First (b ∷ bs)) e)

cut_more : (n b : ℕ) (bs : List ℕ) → nat_eq (lower b) 98 ≡ false → is_b (take (1 + n) (b ∷ bs)) ≡ false
cut_more n b bs h = let e : 1 + n ≡ suc n = omega arith in rw e (rw h refl)

no_text : (x y : Bool) (o : Option ℕ) → x ≡ false → cond (x && y) None o ≡ o
no_text true y o e = absurd cc
no_text false y o e = refl

pub word_direct : (b : ℕ) (bs : List ℕ) → is_letter b ≡ true → nat_eq (lower b) 98 ≡ false
    → nat_eq (lower b) 121 ≡ false → Some (Word, run_len Labels [] First (b ∷ bs)) ≡ scan_by [] common_rows (b ∷ bs)
word_direct b bs h p q =
    let n = run_len Labels [] First (b ∷ bs) in
    let e : run_len Labels [] First (b ∷ bs) ≡ 1 + run_len Labels [] Plain bs = rw h refl in
    let alone : is_b (take n (b ∷ bs)) ≡ false = ap (λ (k : ℕ). is_b (take k (b ∷ bs))) e ∙ cut_more (run_len Labels [] Plain bs) b bs p in
    let len : word_len (b ∷ bs) ≡ some_len n = no_text (is_b (take n (b ∷ bs))) (begins_text (drop n (b ∷ bs))) (some_len n) alone in
    sym (plain_scan b bs h p q ∙ ap (λ (o : Option ℕ). longer Word (add_to 0 o) None) len ∙ longer_some Word (run_len Labels [] Plain bs) n e)

pub word_found : (b : ℕ) (bs bytes : List ℕ) (n : ℕ) → n ≡ run_len Labels [] First bytes → bytes ≡ b ∷ bs
    → is_letter b ≡ true → (lower b ≡ 98 → ⊥) → (lower b ≡ 121 → ⊥) → Some (Word, n) ≡ scan_by [] common_rows (b ∷ bs)
word_found b bs bytes n e w h p q =
    let count : n ≡ run_len Labels [] First (b ∷ bs) = e ∙ ap (λ (u : List ℕ). run_len Labels [] First u) w in
    ap (λ (k : ℕ). word_of k) count ∙ word_direct b bs h (ne_eqb (lower b) 98 p) (ne_eqb (lower b) 121 q)
  where
    word_of : ℕ → Option (Kind × ℕ)
    word_of k = Some (Word, k)

-- ---- casts

not_letter : (k b : ℕ) → is_letter k ≡ true → is_letter b ≡ false → nat_eq k (lower b) ≡ false
not_letter k b p q = by_case (nat_eq k (lower b)) refl
  where
    by_case : (t : Bool) → nat_eq k (lower b) ≡ t → t ≡ false
    by_case true e = let same : k ≡ b = eqb-true k (lower b) e ∙ lower_other b q in let clash : true ≡ false = sym p ∙ ap is_letter same ∙ q in absurd cc
    by_case false e = refl

pub no_type : (bs : List ℕ) → begins is_letter bs ≡ false → begins_type bs ≡ false
no_type [] h = refl
no_type (b ∷ bs) h =
    rw (
      not_letter 105 b refl h,
      not_letter 98 b refl h,
      not_letter 115 b refl h,
      not_letter 97 b refl h,
      not_letter 111 b refl h,
      not_letter 102 b refl h,
      not_letter 100 b refl h,
      not_letter 114 b refl h,
      not_letter 117 b refl h,
    ) refl
