-- A token meets a row of its kind.
use Rattle.std.proofs.Common.{◌≡◌, ℕ, Bool, true, false, cond, ◌||◌, List, [], ◌∷◌, ◌++◌, length, drop, Option, Some, refl, sym, ap, ◌∙◌, subst}
use Rattle.std.proofs.Math.Seq.{take-append_seam, drop-append_seam}
use Rattle.php_tree.specs.declared.version.Version.{Version}
use Rattle.php_spellings.specs.declared.table.Kind.{Kind}
use Rattle.php_spellings.specs.declared.table.Tail.{Tail}
use Rattle.php_spellings.specs.Bytes.{lower}
use Rattle.php_lexer.specs.Heredocs.{led}
use Rattle.php_lexer.specs.Rules.{Row, rule, is_tail, kind_by}
use Rattle.php_lexer.specs.Modes.{Mode, rows_of, label_in, kind_of, IsLongest}

-- the rows of some kinds
abbrev pub picked : (Kind → Bool) → List Row → List Row
picked is [] = []
picked is (rule kind w tail ∷ rows) = cond (is kind) (rule kind w tail ∷ picked is rows) (picked is rows)

-- whether the text meets one of the rows
abbrev pub meets : List ℕ → List Row → List ℕ → List ℕ → Bool
meets label [] text rest = false
meets label (rule kind w tail ∷ rows) text rest = led lower w (is_tail label tail) text rest || meets label rows text rest

abbrev some_kind : Kind → Option Kind
some_kind k = Some k

kind_eq : (k j : Kind) → some_kind k ≡ some_kind j → k ≡ j
kind_eq k j e = cc

module _ (is : Kind → Bool) (label text rest : List ℕ) (k : Kind) (chosen : is k ≡ true) where
  here : (kind : Kind) (w : List ℕ) (tail : Tail) (rows : List Row)
      → led lower w (is_tail label tail) text rest ≡ true → (t : Bool) → is kind ≡ t → is kind ≡ true
      → meets label (cond t (rule kind w tail ∷ picked is rows) (picked is rows)) text rest ≡ true
  here kind w tail rows e true p q = rw e refl
  here kind w tail rows e false p q = let clash : true ≡ false = sym q ∙ p in absurd cc

  below : (kind : Kind) (w : List ℕ) (tail : Tail) (rows : List Row)
      → led lower w (is_tail label tail) text rest ≡ false → meets label (picked is rows) text rest ≡ true
      → (t : Bool) → meets label (cond t (rule kind w tail ∷ picked is rows) (picked is rows)) text rest ≡ true
  below kind w tail rows e h true = rw e h
  below kind w tail rows e h false = h

  by_row : (kind : Kind) (w : List ℕ) (tail : Tail) (rows : List Row)
      → (kind_by label rows text rest ≡ Some k → meets label (picked is rows) text rest ≡ true) → (t : Bool)
      → led lower w (is_tail label tail) text rest ≡ t → cond t (Some kind) (kind_by label rows text rest) ≡ Some k
      → meets label (picked is (rule kind w tail ∷ rows)) text rest ≡ true
  by_row kind w tail rows ih true e h = here kind w tail rows e (is kind) refl (ap is (kind_eq kind k h) ∙ chosen)
  by_row kind w tail rows ih false e h = below kind w tail rows e (ih h) (is kind)

  pub kind_meets : (rows : List Row) → kind_by label rows text rest ≡ Some k → meets label (picked is rows) text rest ≡ true
  kind_meets [] e = absurd cc
  kind_meets (rule kind w tail ∷ rows) e = by_row kind w tail rows (kind_meets rows) (led lower w (is_tail label tail) text rest) refl e

-- a token whose text is given
pub longest_meets : (is : Kind → Bool) (v : Version) (m : Mode) (t r : List ℕ) (kind : Kind) → is kind ≡ true
    → IsLongest v m (t ++ r) kind (length t) → meets (label_in m) (picked is (rows_of v m)) t r ≡ true
longest_meets is v m t r kind chosen h =
    kind_meets is (label_in m) t r kind chosen (rows_of v m)
    (subst (λ (u : List ℕ). kind_of v m t u ≡ Some kind) (drop-append_seam t r)
    (subst (λ (u : List ℕ). kind_of v m u (drop (length t) (t ++ r)) ≡ Some kind) (take-append_seam t r) h.is))
