-- A token with one byte more is none, and meets no row.
use Rattle.std.proofs.Common.{
  ◌≡◌,
  ℕ,
  suc,
  ◌+◌,
  ◌≤◌,
  Bool,
  true,
  false,
  cond,
  ◌||◌,
  List,
  [],
  ◌∷◌,
  ◌++◌,
  length,
  take,
  drop,
  Some,
  None,
  refl,
  sym,
  ap,
  ◌∙◌,
  subst,
  append_assoc,
  arith,
}
use Rattle.std.proofs.lemmas.List.{length-append}
use Rattle.std.proofs.Math.Seq.{take-append_seam, drop-append_seam}
use Rattle.php_tree.specs.declared.version.Version.TheVariants.{V74}
use Rattle.php_spellings.specs.declared.table.Kind.{Kind}
use Rattle.php_spellings.specs.declared.table.Tail.{Tail}
use Rattle.php_spellings.specs.Bytes.{lower}
use Rattle.php_lexer.specs.Heredocs.{led}
use Rattle.php_lexer.specs.Rules.{Row, rule, is_tail, kind_by}
use Rattle.php_lexer.specs.Modes.{Mode, code, kind_of, IsLongest}
use Rattle.php_relexing.proofs.Picked.{picked, meets}

pub longer_in : (m : Mode) (b c : ℕ) (a r : List ℕ) (kind : Kind) → IsLongest V74 m (b ∷ a ++ c ∷ r) kind (suc (length a)) → kind_of V74 m (b ∷ a ++ c ∷ []) r ≡ None
longer_in m b c a r kind h =
    let t : List ℕ = b ∷ a ++ c ∷ [] in
    let whole : b ∷ a ++ c ∷ r ≡ t ++ r = ap (λ (x : List ℕ). b ∷ x) (sym (append_assoc a (c ∷ []) r)) in
    let size : length (a ++ c ∷ []) ≡ length a + 1 = length-append a (c ∷ []) in
    let there : IsLongest V74 m (t ++ r) kind (suc (length a)) = subst (λ (x : List ℕ). IsLongest V74 m x kind (suc (length a))) whole h in
    let within : length t ≤ length (t ++ r) = let l = length-append t r in omega arith in
    let none : kind_of V74 m (take (length t) (t ++ r)) (drop (length t) (t ++ r)) ≡ None = there.longest (length t) (omega arith) within in
    subst (λ (x : List ℕ). kind_of V74 m t x ≡ None) (drop-append_seam t r)
    (subst (λ (x : List ℕ). kind_of V74 m x (drop (length t) (t ++ r)) ≡ None) (take-append_seam t r) none)

pub longer_none : (b c : ℕ) (a r : List ℕ) (kind : Kind) → IsLongest V74 code (b ∷ a ++ c ∷ r) kind (suc (length a)) → kind_of V74 code (b ∷ a ++ c ∷ []) r ≡ None
longer_none b c a r kind h = longer_in code b c a r kind h

-- a text that is no token meets no row
module _ (is : Kind → Bool) (t r : List ℕ) where
  none_by : (kind : Kind) (w : List ℕ) (tail : Tail) (rows : List Row)
      → (kind_by [] rows t r ≡ None → meets [] (picked is rows) t r ≡ false) → (x : Bool)
      → led lower w (is_tail [] tail) t r ≡ x → cond x (Some kind) (kind_by [] rows t r) ≡ None → (y : Bool)
      → meets [] (cond y (rule kind w tail ∷ picked is rows) (picked is rows)) t r ≡ false
  none_by kind w tail rows ih true e h y = absurd cc
  none_by kind w tail rows ih false e h true = rw e (ih h)
  none_by kind w tail rows ih false e h false = ih h

  pub none_meets : (rows : List Row) → kind_by [] rows t r ≡ None → meets [] (picked is rows) t r ≡ false
  none_meets [] h = refl
  none_meets (rule kind w tail ∷ rows) h = none_by kind w tail rows (none_meets rows) (led lower w (is_tail [] tail) t r) refl h (is kind)

pub or_none : (x : Bool) → (x || false) ≡ true → x ≡ true
or_none true h = refl
or_none false h = absurd cc

pub or_no : (x : Bool) → (x || false) ≡ false → x ≡ false
or_no true h = absurd cc
or_no false h = refl

pub opposite : {A : Type 0} (x : Bool) → x ≡ true → x ≡ false → A
opposite x p q = absurd (let clash : true ≡ false = sym p ∙ q in cc)
