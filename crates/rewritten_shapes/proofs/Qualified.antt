-- The class of a name whose first part is a label.
use Rattle.std.proofs.Common.{◌≡◌, ◌==◌, ℕ, Bool, true, false, not, cond, ◌&&◌, nat_eq, codes, List, [], ◌∷◌, ◌++◌, length, take, refl, sym, ap, ◌∙◌}
use Rattle.std.specs.Char.{to_ascii_lowercase}
use Rattle.std.specs.Str.{str_to_ascii_lowercase}
use Rattle.std.proofs.lemmas.Bool.{eqb-true, false_from_ne_true}
use Rattle.std.proofs.lemmas.Slice.Eq.{bytes_eq-Decides}
use Rattle.php_terminals.specs.declared.terminal.Terminal.TheVariants as t
use Rattle.php_terminals.specs.Classify.{name}
use Rattle.php_terminals.specs.Words.{front, is_word}
use Rattle.rewritten_shapes.specs.Laws.{has_no_root, is_label_text, is_namespace_word}
use Rattle.rewritten_shapes.proofs.OperatorWords.{low_word}
use Rattle.rewritten_shapes.proofs.Sides.{and_left, and_right}

-- whether a text begins with a word
abbrev begins : List ℕ → List ℕ → Bool
begins [] text = true
begins (a ∷ w) [] = false
begins (a ∷ w) (b ∷ bs) = nat_eq a (to_ascii_lowercase b) && begins w bs

begins_is : (w text : List ℕ) → is_word w (take (length w) text) ≡ begins w text
begins_is [] text = refl
begins_is (a ∷ w) [] = refl
begins_is (a ∷ w) (b ∷ bs) = ap (λ (x : Bool). nat_eq a (to_ascii_lowercase b) && x) (begins_is w bs)

-- whether no byte of a word is `\`
abbrev no_root : List ℕ → Bool
no_root [] = true
no_root (b ∷ bs) = not (nat_eq b 92) && no_root bs

not_both : (b : Bool) → b ≡ true → not b ≡ true → ⊥
not_both true e d = cc
not_both false e d = cc

-- only `\` is `\` in lower case
root_byte : (b : ℕ) → nat_eq 92 (to_ascii_lowercase b) ≡ true → 92 ≡ b
root_byte b e = one (low_word (codes "\\") (b ∷ []) refl (ap (λ (x : Bool). x && true) e))
  where
    one : b ∷ [] ≡ codes "\\" → 92 ≡ b
    one e = cc

-- a text that begins with a word and `\`, and with a label and `\`: the two are the same
same_front : (w l rest : List ℕ) → no_root w ≡ true → has_no_root l ≡ true → begins (w ++ 92 ∷ []) (l ++ 92 ∷ rest) ≡ true → str_to_ascii_lowercase l ≡ w
same_front [] [] rest p q e = refl
same_front [] (b ∷ l) rest p q e =
    absurd (let z : 92 ≡ b = root_byte b (and_left (nat_eq 92 (to_ascii_lowercase b)) true e) in
    not_both (b == 92) (ap (λ x. x == 92) (sym z)) (and_left (not (b == 92)) (has_no_root l) q))
same_front (a ∷ w) [] rest p q e = absurd (not_both (nat_eq a 92) (and_left (nat_eq a 92) _ e) (and_left (not (nat_eq a 92)) (no_root w) p))
same_front (a ∷ w) (b ∷ l) rest p q e =
    let h : a ≡ to_ascii_lowercase b = eqb-true a (to_ascii_lowercase b) (and_left (nat_eq a (to_ascii_lowercase b)) (begins (w ++ 92 ∷ []) (l ++ 92 ∷ rest)) e) in
    let r : str_to_ascii_lowercase l ≡ w = same_front w l rest (and_right (not (nat_eq a 92)) (no_root w) p)
    (and_right (not (b == 92)) (has_no_root l) q)
    (and_right (nat_eq a (to_ascii_lowercase b)) (begins (w ++ 92 ∷ []) (l ++ 92 ∷ rest)) e) in
    ap (λ (x : ℕ). x ∷ str_to_ascii_lowercase l) (sym h) ∙ ap (λ (x : List ℕ). a ∷ x) r

label_no_root : (l : List ℕ) → is_label_text l ≡ true → has_no_root l ≡ true
label_no_root [] e = absurd cc
label_no_root (b ∷ bs) e = e

not_full : (l rest : List ℕ) → is_label_text l ≡ true → is_word (codes "\\") (front 1 (l ++ 92 ∷ rest)) ≡ false
not_full [] rest e = absurd cc
not_full (b ∷ l) rest e = false_from_ne_true (is_word (codes "\\") (front 1 ((b ∷ l) ++ 92 ∷ rest))) (λ d.
    let z : 92 ≡ b = root_byte b (and_left (nat_eq 92 (to_ascii_lowercase b)) (begins [] (l ++ 92 ∷ rest)) (sym (begins_is (codes "\\") ((b ∷ l) ++ 92 ∷ rest)) ∙ d)) in
    not_both (b == 92) (ap (λ x. x == 92) (sym z)) (and_left (not (b == 92)) (has_no_root l) e))

differ : {b : Bool} → b ≡ false → b ≡ true → ⊥
differ e d = let z : false ≡ true = sym e ∙ d in cc

not_relative : (l rest : List ℕ) → is_label_text l ≡ true → is_namespace_word l ≡ false → is_word (codes "namespace\\") (front 10 (l ++ 92 ∷ rest)) ≡ false
not_relative l rest e n = false_from_ne_true (is_word (codes "namespace\\") (front 10 (l ++ 92 ∷ rest))) (λ d.
    differ n ((bytes_eq-Decides (str_to_ascii_lowercase l) (codes "namespace")).1
    (same_front (codes "namespace") l rest refl (label_no_root l e) (sym (begins_is (codes "namespace\\") (l ++ 92 ∷ rest)) ∙ d))))

pub qualified_is : (l rest : List ℕ) → is_label_text l ≡ true → is_namespace_word l ≡ false → name (l ++ 92 ∷ rest) ≡ t.QualifiedName
qualified_is l rest e n =
    ap (λ (b : Bool). cond b t.FullName (cond (is_word (codes "namespace\\") (front 10 (l ++ 92 ∷ rest))) t.RelativeName t.QualifiedName)) (not_full l rest e)
    ∙ ap (λ (b : Bool). cond b t.RelativeName t.QualifiedName) (not_relative l rest e n)
