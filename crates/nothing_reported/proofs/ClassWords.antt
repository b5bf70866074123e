-- Words that 8.3 refuses as names of classes.
use Rattle.std.proofs.Common.{◌≡◌, ℕ, zero, suc, Bool, true, false, ◌&&◌, ◌||◌, if◌then◌else◌, [], refl, sym, ap, ◌∙◌}
use Rattle.std.proofs.lemmas.Bool.{or_from}
use Rattle.php_tree.specs.declared.kind.NodeKind.{NodeKind}
use Rattle.php_tree.specs.Tree.{Forest, none, leaf, node}
use Rattle.php_tree.specs.Places.{behind, end_of}
use Rattle.php_terminals.specs.declared.terminal.Terminal.{Terminal}
use Rattle.php_terminals.specs.declared.terminal.Terminal.TheVariants as t
use Rattle.php_terminals.specs.Classify.{terminal}
use Rattle.syntax_upgrade.specs.NameHeads.{head_at}
use Rattle.syntax_upgrade.specs.ReservedName as own
use Rattle.syntax_upgrade.specs.ReservedName.{Standing, at_first, class_by, is_last, next, past, past_node, refused_tokens, refuses, refuses_last}
use Rattle.nothing_reported.proofs.WholeHeads.{skipped_zero}
use Rattle.rewritten_shapes.specs.RefusedWords as words
use Rattle.rewritten_shapes.specs.RefusedWords.{in_class, named}
use Rattle.nothing_reported.proofs.Fronts.{left, front_token, front_is, same_test, empty_if}
use Rattle.nothing_reported.proofs.OwnWords.{same_keyword, same_type, word_none}

same_declares : (x : Terminal) → words.declares x ≡ own.declares x
same_declares t.Class = refl
same_declares t.Interface = refl
same_declares t.Trait = refl
same_declares _ = refl

-- whether a word is refused, where a name is declared or not
abbrev refused_word : Bool → Terminal → Bool
refused_word d x = if d then words.is_any_of_them x else words.is_keyword_now x

by_standing : (d k y : Bool) → (k || (d && y)) ≡ false → (if d then (k || y) else k) ≡ false
by_standing true k y e = e
by_standing false true y e = e
by_standing false false y e = refl

refused_is : (d : Bool) (x : Terminal) → (own.is_keyword_now x || (d && own.is_type_now x)) ≡ false → refused_word d x ≡ false
refused_is d x e =
    ap (λ (k : Bool). if d then (k || words.is_type_now x) else k) (same_keyword x)
    ∙ ap (λ (y : Bool). if d then (own.is_keyword_now x || y) else own.is_keyword_now x) (same_type x)
    ∙ by_standing d (own.is_keyword_now x) (own.is_type_now x) e

same_full : (d : Bool) → refused_word d t.FullName ≡ refused_word d t.QualifiedName
same_full true = refl
same_full false = refl

same_relative : (d : Bool) → refused_word d t.RelativeName ≡ refused_word d t.QualifiedName
same_relative true = refl
same_relative false = refl

no_name : (d : Bool) → refused_word d t.QualifiedName ≡ false
no_name true = refl
no_name false = refl

module _ (kind : NodeKind) (refused : (s : Standing) (x y : Terminal) → refuses kind s x y ≡ own.in_class s x) where
  class_none : (f : Forest) (m : ℕ) (s : Standing) (at : ℕ) → refused_tokens kind s m at f ≡ [] → in_class (words.declares s.before) (left m f) ≡ false
  class_none none m s at e = refl
  class_none (leaf x f) (suc m) s at e = class_none f m s (behind at x)
      (empty_if (is_last m && refuses_last kind s (terminal x) (next f)) at x
      (refused_tokens kind s m (behind at x) f) e).1
  class_none (leaf x f) zero s at e =
      let h = head_at x f in
      let k = class_by h.more (terminal x) in
      let d = words.declares s.before in
      let p = empty_if (is_last h.more && refuses kind s (terminal x) (next f)) at x (refused_tokens kind (past s k) h.more (behind at x) f) e in
      ap (in_class d) (front_is x f)
      ∙ or_from (refused_word d (terminal (front_token x f))) (in_class (words.declares (terminal (front_token x f))) (left h.more f))
      (word_none (refused_word d) x f (refuses kind s (terminal x) (next f)) p.0
      (λ r. refused_is d (terminal x)
      (ap (λ (b : Bool). own.is_keyword_now (terminal x) || (b && own.is_type_now (terminal x))) (same_declares s.before)
      ∙ sym (refused s (terminal x) (next f)) ∙ r))
      (same_full d) (same_relative d) (no_name d))
      (ap (λ (b : Bool). in_class b (left h.more f)) (sym (same_test words.declares x f refl refl))
      ∙ class_none f h.more (past s k) (behind at x) p.1)
  class_none (node j b f) m s at e =
      ap (λ (g : Forest). in_class false (named g)) (sym (skipped_zero f)) ∙ class_none f zero (past_node s) (end_of at b) e

  pub none_in_class : (c : Forest) (at : ℕ) → refused_tokens kind at_first zero at c ≡ [] → in_class false (named c) ≡ false
  none_in_class c at e = ap (λ (g : Forest). in_class false (named g)) (sym (skipped_zero c)) ∙ class_none c zero at_first at e
