-- Words that 8.3 refuses wherever they stand in a node, or before another token of it.
use Rattle.std.proofs.Common.{◌≡◌, ℕ, zero, suc, Bool, true, false, not, ◌&&◌, ◌||◌, if◌then◌else◌, inl, inr, [], refl, sym, ap, ◌∙◌}
use Rattle.std.proofs.lemmas.Bool.{or_from}
use Rattle.php_tree.specs.declared.token.Token.{Token}
use Rattle.php_tree.specs.declared.kind.NodeKind.{NodeKind}
use Rattle.php_tree.specs.Tree.{Forest, none, leaf, node}
use Rattle.php_tree.specs.Places.{behind, end_of}
use Rattle.php_terminals.specs.declared.terminal.Terminal.{Terminal}
use Rattle.php_terminals.specs.declared.terminal.Terminal.TheVariants as t
use Rattle.php_terminals.specs.Classify.{terminal}
use Rattle.syntax_upgrade.specs.NameHeads.{head_at}
use Rattle.syntax_upgrade.specs.ReservedName as own
use Rattle.syntax_upgrade.specs.ReservedName.{Standing, class_by, is_last, next, past, past_node, refused_tokens, refuses, refuses_last}
use Rattle.nothing_reported.proofs.WholeHeads.{skipped_zero}
use Rattle.rewritten_shapes.specs.RefusedWords as words
use Rattle.rewritten_shapes.specs.RefusedWords.{has, has_before, named}
use Rattle.nothing_reported.proofs.Fronts.{left, Sort, sort, front_token, front_is, alone_class, name_class, same_test, empty_if, alone_of}

-- ---- the same tests

pub same_keyword : (x : Terminal) → words.is_keyword_now x ≡ own.is_keyword_now x
same_keyword t.Match = refl
same_keyword t.Readonly = refl
same_keyword _ = refl

pub same_match : (x : Terminal) → words.is_match x ≡ own.is_match x
same_match t.Match = refl
same_match _ = refl

pub same_type : (x : Terminal) → words.is_type_now x ≡ own.is_type_now x
same_type t.MixedOrNever = refl
same_type _ = refl

-- a word alone isn't refused
pub word_none : (p : Terminal → Bool) (x : Token) (f : Forest) (b : Bool) → (is_last (head_at x f).more && b) ≡ false
    → (b ≡ false → p (terminal x) ≡ false) → p t.FullName ≡ p t.QualifiedName → p t.RelativeName ≡ p t.QualifiedName → p t.QualifiedName ≡ false
    → p (terminal (front_token x f)) ≡ false
word_none p x f b e h full relative qualified = go (sort x f)
  where
    go : Sort x (head_at x f) → p (terminal (front_token x f)) ≡ false
    go (inl s) = ap p (alone_class x f s.1) ∙ h (alone_of (head_at x f).more b e s.0)
    go (inr s) = name_class p x f s.2 full relative ∙ qualified

-- ---- anywhere in a node

module _ (kind : NodeKind) (which : Terminal → Bool) (full : which t.FullName ≡ which t.QualifiedName)
    (relative : which t.RelativeName ≡ which t.QualifiedName) (qualified : which t.QualifiedName ≡ false)
    (refused : (s : Standing) (x y : Terminal) → refuses kind s x y ≡ false → which x ≡ false) where
  has_none : (f : Forest) (m : ℕ) (s : Standing) (at : ℕ) → refused_tokens kind s m at f ≡ [] → has which (left m f) ≡ false
  has_none none m s at e = refl
  has_none (leaf x f) (suc m) s at e = has_none f m s (behind at x)
      (empty_if (is_last m && refuses_last kind s (terminal x) (next f)) at x
      (refused_tokens kind s m (behind at x) f) e).1
  has_none (leaf x f) zero s at e =
      let h = head_at x f in
      let p = empty_if (is_last h.more && refuses kind s (terminal x) (next f)) at x (refused_tokens kind (past s (class_by h.more (terminal x))) h.more (behind at x) f) e in
      ap (has which) (front_is x f)
      ∙ or_from (which (terminal (front_token x f))) (has which (left h.more f))
      (word_none which x f (refuses kind s (terminal x) (next f)) p.0 (refused s (terminal x) (next f)) full relative qualified)
      (has_none f h.more (past s (class_by h.more (terminal x))) (behind at x) p.1)
  has_none (node j b f) m s at e =
      ap (λ (g : Forest). has which (named g)) (sym (skipped_zero f)) ∙ has_none f zero (past_node s) (end_of at b) e

  pub none_anywhere : (c : Forest) (s : Standing) (at : ℕ) → refused_tokens kind s zero at c ≡ [] → has which (named c) ≡ false
  none_anywhere c s at e = ap (λ (g : Forest). has which (named g)) (sym (skipped_zero c)) ∙ has_none c zero s at e

-- ---- before another token

if_before : (b k r : Bool) → (b ≡ false → k ≡ false) → (b ≡ false → r ≡ false) → (if b then false else k || r) ≡ false
if_before true k r h g = refl
if_before false k r h g = or_from k r (h refl) (g refl)

and_not : (a b : Bool) → (a && not b) ≡ false → b ≡ false → a ≡ false
and_not a true e h = absurd cc
and_not true false e h = e
and_not false false e h = refl

module _ (kind : NodeKind) (end : Terminal → Bool) (full : end t.FullName ≡ end t.QualifiedName) (relative : end t.RelativeName ≡ end t.QualifiedName) (is_past : Standing → Bool)
    (refused : (s : Standing) (x y : Terminal) → refuses kind s x y ≡ (own.is_keyword_now x && not (is_past s)))
    (stays : (s : Standing) (x : Terminal) → is_past s ≡ false → end x ≡ false → is_past (past s x) ≡ false)
    (stays_node : (s : Standing) → is_past s ≡ false → is_past (past_node s) ≡ false) where
  before_none : (f : Forest) (m : ℕ) (s : Standing) (at : ℕ) → is_past s ≡ false → refused_tokens kind s m at f ≡ [] → has_before end (left m f) ≡ false
  before_none none m s at o e = refl
  before_none (leaf x f) (suc m) s at o e = before_none f m s (behind at x) o
      (empty_if (is_last m && refuses_last kind s (terminal x) (next f)) at x
      (refused_tokens kind s m (behind at x) f) e).1
  before_none (leaf x f) zero s at o e =
      let h = head_at x f in
      let k = class_by h.more (terminal x) in
      let p = empty_if (is_last h.more && refuses kind s (terminal x) (next f)) at x (refused_tokens kind (past s k) h.more (behind at x) f) e in
      ap (has_before end) (front_is x f)
      ∙ if_before (end (terminal (front_token x f))) (words.is_keyword_now (terminal (front_token x f))) (has_before end (left h.more f))
      (λ i. word_none words.is_keyword_now x f (refuses kind s (terminal x) (next f)) p.0
      (λ r. same_keyword (terminal x) ∙ and_not (own.is_keyword_now (terminal x)) (is_past s) (sym (refused s (terminal x) (next f)) ∙ r) o) refl refl refl)
      (λ i. before_none f h.more (past s k) (behind at x) (stays s k o (same_test end x f full relative ∙ i)) p.1)
  before_none (node j b f) m s at o e =
      ap (λ (g : Forest). has_before end (named g)) (sym (skipped_zero f)) ∙ before_none f zero (past_node s) (end_of at b) (stays_node s o) e

  pub none_before : (c : Forest) (s : Standing) (at : ℕ) → is_past s ≡ false → refused_tokens kind s zero at c ≡ [] → has_before end (named c) ≡ false
  none_before c s at o e = ap (λ (g : Forest). has_before end (named g)) (sym (skipped_zero c)) ∙ before_none c zero s at o e
