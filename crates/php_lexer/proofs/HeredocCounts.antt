-- What is counted of the end of a heredoc and of a nowdoc is the longest.
use Rattle.std.proofs.Common.{
  ◌≡◌,
  ℕ,
  zero,
  suc,
  ◌+◌,
  ◌<◌,
  ◌≤◌,
  Bool,
  true,
  false,
  cond,
  ◌&&◌,
  List,
  [],
  ◌∷◌,
  length,
  take,
  drop,
  Option,
  Some,
  None,
  refl,
  sym,
  ap,
  ◌∙◌,
  subst,
  arith,
}
use Rattle.std.proofs.lemmas.List.{take-append-drop}
use Rattle.php_spellings.specs.Bytes.{as_it_is, is_blank_byte, is_line_end}
use Rattle.php_lexer.specs.Heredocs.{led, no_more, no_label, ends_heredoc, is_end_line, is_body, begins_nowdoc, nowdoc_label, nowdoc_head, is_nowdoc}
use Rattle.php_lexer.specs.Scan.{add_to, behind, nothing_if, last_label_len, end_line_len, body_len, nowdoc_len}
use Rattle.php_lexer.proofs.Counts.{Describes}
use Rattle.php_lexer.proofs.Behind.{describes_behind, describes_nothing}

-- a byte more before a front
shift : (f g : List ℕ → List ℕ → Bool) (b : ℕ) (bs : List ℕ) (o : Option ℕ) → (f [] (b ∷ bs) ≡ false)
    → ((m : ℕ) → f (b ∷ take m bs) (drop m bs) ≡ g (take m bs) (drop m bs)) → Describes g bs o
    → Describes f (b ∷ bs) (add_to 1 o)
shift f g b bs None z e d = none
  where
    none : (m : ℕ) → m ≤ length (b ∷ bs) → f (take m (b ∷ bs)) (drop m (b ∷ bs)) ≡ false
    none zero le = z
    none (suc m) le = e m ∙ d m (omega arith)
shift f g b bs (Some n) z e d = (let le = d.0 in omega arith, first (1 + n) (omega arith), more)
  where
    first : (k : ℕ) → k ≡ suc n → f (take k (b ∷ bs)) (drop k (b ∷ bs)) ≡ true
    first k p = rw p (e n ∙ d.1)

    more : (m : ℕ) → 1 + n < m → m ≤ length (b ∷ bs) → f (take m (b ∷ bs)) (drop m (b ∷ bs)) ≡ false
    more zero lt le = absurd (omega arith)
    more (suc m) lt le = e m ∙ d.2 m (omega arith) (omega arith)

-- the same at each front
pub same_fronts : (f g : List ℕ → List ℕ → Bool) (bs : List ℕ) (o : Option ℕ)
    → ((m : ℕ) → f (take m bs) (drop m bs) ≡ g (take m bs) (drop m bs)) → Describes g bs o → Describes f bs o
same_fronts f g bs None e d = λ m le. e m ∙ d m le
same_fronts f g bs (Some n) e d = (d.0, e n ∙ d.1, λ m lt le. e m ∙ d.2 m lt le)

-- ---- the closing line

line_step : (label : List ℕ) (b : ℕ) (bs : List ℕ) → Describes (is_end_line label) bs (end_line_len label bs)
    → (t : Bool) → is_blank_byte b ≡ t → Describes (is_end_line label) (b ∷ bs)
    (cond t (add_to 1 (end_line_len label bs)) (last_label_len label (b ∷ bs)))
line_step label b bs d true e = shift (is_end_line label) (is_end_line label) b bs (end_line_len label bs) refl (λ m. rw e refl) d
line_step [] b bs d false e = none
  where
    none : (m : ℕ) → m ≤ length (b ∷ bs) → is_end_line [] (take m (b ∷ bs)) (drop m (b ∷ bs)) ≡ false
    none zero le = refl
    none (suc m) le = rw e refl
line_step (a ∷ label) b bs d false e = same_fronts (is_end_line (a ∷ label))
    (led as_it_is (a ∷ label) (no_more no_label)) (b ∷ bs)
    (behind as_it_is (a ∷ label) (nothing_if no_label) (b ∷ bs)) same
    (describes_behind as_it_is (a ∷ label) (no_more no_label) (nothing_if no_label) (describes_nothing no_label)
    (b ∷ bs))
  where
    same : (m : ℕ) → is_end_line (a ∷ label) (take m (b ∷ bs)) (drop m (b ∷ bs)) ≡ led as_it_is (a ∷ label) (no_more no_label) (take m (b ∷ bs)) (drop m (b ∷ bs))
    same zero = refl
    same (suc m) = rw e refl

pub describes_end_line : (label bs : List ℕ) → Describes (is_end_line label) bs (end_line_len label bs)
describes_end_line label [] = front
  where
    front : (m : ℕ) → m ≤ 0 → is_end_line label (take m []) (drop m []) ≡ false
    front zero le = refl
    front (suc m) le = refl
describes_end_line label (b ∷ bs) = line_step label b bs (describes_end_line label bs) (is_blank_byte b) refl

-- ---- the body of a nowdoc

body_step : (label : List ℕ) (fresh : Bool) (b : ℕ) (bs : List ℕ)
    → Describes (is_body label (is_line_end b)) bs (body_len label (is_line_end b) bs) → (t : Bool)
    → (fresh && ends_heredoc label (b ∷ bs)) ≡ t → Describes (is_body label fresh) (b ∷ bs)
    (cond t (end_line_len label (b ∷ bs)) (add_to 1 (body_len label (is_line_end b) bs)))
body_step label fresh b bs d true e = same_fronts (is_body label fresh) (is_end_line label) (b ∷ bs) (end_line_len label (b ∷ bs)) same (describes_end_line label (b ∷ bs))
  where
    same : (m : ℕ) → is_body label fresh (take m (b ∷ bs)) (drop m (b ∷ bs)) ≡ is_end_line label (take m (b ∷ bs)) (drop m (b ∷ bs))
    same zero = refl
    same (suc m) = rw (take-append-drop m bs) (rw e refl)
body_step label fresh b bs d false e = shift (is_body label fresh) (is_body label (is_line_end b)) b bs
    (body_len label (is_line_end b) bs) refl (λ m. rw (take-append-drop m bs) (rw e refl)) d

pub describes_body : (label : List ℕ) (fresh : Bool) (bs : List ℕ) → Describes (is_body label fresh) bs (body_len label fresh bs)
describes_body label fresh [] = front
  where
    front : (m : ℕ) → m ≤ 0 → is_body label fresh (take m []) (drop m []) ≡ false
    front zero le = refl
    front (suc m) le = refl
describes_body label fresh (b ∷ bs) = body_step label fresh b bs (describes_body label (is_line_end b) bs) (fresh && ends_heredoc label (b ∷ bs)) refl

-- ---- whole nowdocs

add_zero : (o : Option ℕ) → o ≡ add_to 0 o
add_zero None = refl
add_zero (Some n) = ap Some (omega arith)

one_more : (h : ℕ) (o : Option ℕ) → add_to 1 (add_to h o) ≡ add_to (suc h) o
one_more h None = refl
one_more h (Some n) = ap Some (omega arith)

-- behind so many bytes that are not judged
ahead : (g : List ℕ → List ℕ → Bool) → ((rest : List ℕ) → g [] rest ≡ false) → (h : ℕ) (bs : List ℕ) (o : Option ℕ)
    → Describes g (drop h bs) o → Describes (λ t rest. g (drop h t) rest) bs (add_to h o)
ahead g z zero bs o d = subst (λ (x : Option ℕ). Describes g bs x) (add_zero o) d
ahead g z (suc h) [] None d = front
  where
    front : (m : ℕ) → m ≤ 0 → g (drop (suc h) (take m [])) (drop m []) ≡ false
    front zero le = z []
    front (suc m) le = absurd (omega arith)
ahead g z (suc h) [] (Some n) d = absurd (empty n d.0 d.1)
  where
    empty : (n : ℕ) → n ≤ 0 → g (take n []) (drop n []) ≡ true → ⊥
    empty zero le e = let c = sym e ∙ z [] in absurd cc
    empty (suc n) le e = absurd (omega arith)
ahead g z (suc h) (b ∷ bs) o d = subst (λ (x : Option ℕ). Describes (λ t rest. g (drop (suc h) t) rest) (b ∷ bs) x)
    (one_more h o) (shift (λ t rest. g (drop (suc h) t) rest) (λ t rest. g (drop h t) rest) b bs (add_to h o)
    (z (b ∷ bs)) (λ m. refl) (ahead g z h bs o d))

pub describes_nowdoc : (bs : List ℕ) → Describes is_nowdoc bs (nowdoc_len bs)
describes_nowdoc bs = by_test (begins_nowdoc bs) refl
  where
    by_test : (t : Bool) → begins_nowdoc bs ≡ t → Describes is_nowdoc bs (cond t (add_to (nowdoc_head bs) (body_len (nowdoc_label bs) false (drop (nowdoc_head bs) bs))) None)
    by_test true e = same_fronts is_nowdoc (λ t rest. is_body (nowdoc_label bs) false (drop (nowdoc_head bs) t) rest)
        bs (add_to (nowdoc_head bs) (body_len (nowdoc_label bs) false (drop (nowdoc_head bs) bs)))
        (λ m. rw (take-append-drop m bs) (rw e refl))
        (ahead (is_body (nowdoc_label bs) false) (λ rest. refl) (nowdoc_head bs) bs
        (body_len (nowdoc_label bs) false (drop (nowdoc_head bs) bs))
        (describes_body (nowdoc_label bs) false (drop (nowdoc_head bs) bs)))
    by_test false e = λ m le. rw (take-append-drop m bs) (rw e refl)
