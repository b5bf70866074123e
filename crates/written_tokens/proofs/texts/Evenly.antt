-- Bytes behind a variable or a label of a quoted text: what they can go on with is the same.
use Rattle.std.proofs.Common.{◌≡◌, ℕ, Bool, true, false, not, ◌&&◌, cond, nat_eq, List, [], ◌∷◌, ◌++◌, refl, sym, ap, ◌∙◌, subst, arith}
use Rattle.std.proofs.lemmas.Bool.{and_parts, eqb-true}
use Rattle.std.proofs.lemmas.Bool.Decides.{nat_tests}
use Rattle.php_tree.specs.declared.version.Version.TheVariants.{V74}
use Rattle.php_spellings.specs.Bytes.{is_line_end, is_letter, is_label_byte, begins, begins_by}
use Rattle.php_lexer.specs.Modes.{Mode, offset, property, stay, enter, begins_arrow, part_mode_step}
use Rattle.php_relexing.specs.Pieces.{ends_dollar, escape_last}
use Rattle.php_relexing.proofs.Bools.{and_false}

-- a byte that goes on neither a label nor an arrow, and opens no offset
pub record Dull (c : ℕ) : Type 0 where
  pub label : is_label_byte c ≡ false
  pub letter : is_letter c ≡ false
  pub square : nat_eq c 91 ≡ false
  pub dash : nat_eq c 45 ≡ false
  pub angle : nat_eq c 62 ≡ false

-- The same bytes come up to such ones.
pub data Even : List ℕ → List ℕ → Type 0 where
  dull : (c d : ℕ) (r s : List ℕ) → Dull c → Dull d → Even (c ∷ r) (d ∷ s)
  alike : {r s : List ℕ} (b : ℕ) → Even r s → Even (b ∷ r) (b ∷ s)

pub dull_dollar : Dull 36
dull_dollar = record { label = refl; letter = refl; square = refl; dash = refl; angle = refl }

pub dull_brace : Dull 123
dull_brace = record { label = refl; letter = refl; square = refl; dash = refl; angle = refl }

pub dull_backslash : Dull 92
dull_backslash = record { label = refl; letter = refl; square = refl; dash = refl; angle = refl }

pub dull_double : Dull 34
dull_double = record { label = refl; letter = refl; square = refl; dash = refl; angle = refl }

pub dull_back : Dull 96
dull_back = record { label = refl; letter = refl; square = refl; dash = refl; angle = refl }

line_label : (e : ℕ) → is_line_end e ≡ true → is_label_byte e ≡ false
line_label e h = grind (arith, nat_tests)

line_letter : (e : ℕ) → is_line_end e ≡ true → is_letter e ≡ false
line_letter e h = grind (arith, nat_tests)

line_other : (e x : ℕ) → is_line_end e ≡ true → is_line_end x ≡ false → nat_eq e x ≡ false
line_other e x h k = by_test (nat_eq e x) refl
  where
    by_test : (t : Bool) → nat_eq e x ≡ t → t ≡ false
    by_test false p = refl
    by_test true p = let clash : true ≡ false = sym h ∙ ap is_line_end (eqb-true e x p) ∙ k in absurd cc

pub dull_line : (e : ℕ) → is_line_end e ≡ true → Dull e
dull_line e h = record {
  label = line_label e h;
  letter = line_letter e h;
  square = line_other e 91 h refl;
  dash = line_other e 45 h refl;
  angle = line_other e 62 h refl;
}

-- ---- what follows from it

pub even_label : {r s : List ℕ} → Even r s → begins is_label_byte r ≡ begins is_label_byte s
even_label (dull c d r s p q) = p.label ∙ sym q.label
even_label (alike b e) = refl

even_letter : {r s : List ℕ} → Even r s → begins is_letter r ≡ begins is_letter s
even_letter (dull c d r s p q) = p.letter ∙ sym q.letter
even_letter (alike b e) = refl

even_square : {r s : List ℕ} → Even r s → begins_by 91 r ≡ begins_by 91 s
even_square (dull c d r s p q) = p.square ∙ sym q.square
even_square (alike b e) = refl

no_arrow : (c : ℕ) (r : List ℕ) → nat_eq c 45 ≡ false → begins_arrow (c ∷ r) ≡ false
no_arrow c [] h = refl
no_arrow c (d ∷ r) h = rw h refl

no_angle : (b c : ℕ) (r : List ℕ) → nat_eq c 62 ≡ false → begins_arrow (b ∷ c ∷ r) ≡ false
no_angle b c r h = rw (h, and_false (nat_eq b 45)) refl

even_behind : (b : ℕ) {r s : List ℕ} → Even r s → begins_arrow (b ∷ r) ≡ begins_arrow (b ∷ s)
even_behind b (dull c d r s p q) = no_angle b c r p.angle ∙ sym (no_angle b d s q.angle)
even_behind b (alike c e) = ap (λ (t : Bool). (nat_eq b 45 && nat_eq c 62) && t) (even_letter e)

even_arrow : {r s : List ℕ} → Even r s → begins_arrow r ≡ begins_arrow s
even_arrow (dull c d r s p q) = no_arrow c r p.dash ∙ sym (no_arrow d s q.dash)
even_arrow (alike b e) = even_behind b e

-- a variable leaves the same mode
pub even_mode_step : (m : Mode) (r s : List ℕ) → Even r s → part_mode_step V74 m r ≡ part_mode_step V74 m s
even_mode_step m r s e =
    ap (λ (t : Bool). cond t (enter offset m) (cond (begins_arrow r) (enter property m) (stay m))) (even_square e)
    ∙ ap (λ (t : Bool). cond (begins_by 91 s) (enter offset m) (cond t (enter property m) (stay m))) (even_arrow e)

-- ---- behind a text

pub even_front : (x : List ℕ) (r s : List ℕ) → Even r s → Even (x ++ r) (x ++ s)
even_front [] r s e = e
even_front (b ∷ x) r s e = alike b (even_front x r s e)

pub even_line : (x : List ℕ) (e : ℕ) (r s : List ℕ) → is_line_end e ≡ true → Even ((x ++ e ∷ []) ++ r) ((x ++ e ∷ []) ++ s)
even_line [] e r s h = dull e e r s (dull_line e h) (dull_line e h)
even_line (b ∷ x) e r s h = alike b (even_line x e r s h)

bare_dollar : (f : Bool) (b : ℕ) → (not f && nat_eq b 36) ≡ true → b ≡ 36
bare_dollar f b h = eqb-true b 36 (and_parts (not f) (nat_eq b 36) h).1

-- a backslash before a last `$`
pub even_escaped : (f : Bool) (b : ℕ) (a r s : List ℕ) → ends_dollar f (b ∷ a) ≡ true → Even (b ∷ a ++ r) (escape_last (b ∷ a) ++ s)
even_escaped f b [] r s h = dull b 92 r (b ∷ s) (subst Dull (sym (bare_dollar f b h)) dull_dollar) dull_backslash
even_escaped f b (c ∷ a) r s h = alike b (even_escaped (not f && nat_eq b 92) c a r s h)
