-- The labels `enum`, told at the token behind each, are those that are told by what is ahead.
use Rattle.std.proofs.Common.{◌≡◌, ℕ, Bool, true, false, not, ◌&&◌, List, [], ◌∷◌, ◌++◌, Option, Some, None, refl, ap, sym, ◌∙◌, append_assoc, append-nil}
use Rattle.php_tree.specs.declared.token.Token.{Token}
use Rattle.php_tree.specs.Tree.{Forest, none, leaf, node, leaves, File, file_leaves}
use Rattle.php_tree.specs.Places.{behind, end_of}
use Rattle.php_terminals.specs.declared.terminal.Terminal.TheVariants as t
use Rattle.php_terminals.specs.Classify.{terminal}
use Rattle.syntax_upgrade.specs.Enums.{before_word, enums, is_enum, is_label, takes_label}
use Rattle.syntax_upgrade.specs.Found.{Report}
use Rattle.syntax_upgrade.specs.Labels.{Labels, is_word_behind, label_next, labels_in, may_be_enum, no_labels, place_if, told}
use Rattle.syntax_upgrade.specs.ReservedName.{refused_if}

-- behind some tokens, the first one's trivia beginning at a place
abbrev passed : ℕ → List Token → Labels → Labels
passed at [] s = s
passed at (x ∷ xs) s = passed (behind at x) xs (label_next at x s)

abbrev ends_of : (at : ℕ) (xs : List Token) → ℕ
ends_of at [] = at
ends_of at (x ∷ xs) = ends_of (behind at x) xs

passed-append : (at : ℕ) (xs ys : List Token) (s : Labels) → passed at (xs ++ ys) s ≡ passed (ends_of at xs) ys (passed at xs s)
passed-append at [] ys s = refl
passed-append at (x ∷ xs) ys s = passed-append (behind at x) xs ys (label_next at x s)

ends-append : (at : ℕ) (xs ys : List Token) → ends_of at (xs ++ ys) ≡ ends_of (ends_of at xs) ys
ends-append at [] ys = refl
ends-append at (x ∷ xs) ys = ends-append (behind at x) xs ys

ends-leaves : (at : ℕ) (f : Forest) → ends_of at (leaves f) ≡ end_of at f
ends-leaves at none = refl
ends-leaves at (leaf x f) = ends-leaves (behind at x) f
ends-leaves at (node k c f) =
    ends-append at (leaves c) (leaves f) ∙ ap (λ (n : ℕ). ends_of n (leaves f)) (ends-leaves at c) ∙ ends-leaves (end_of at c) f

passed-leaves : (at : ℕ) (f : Forest) (s : Labels) → labels_in at f s ≡ passed at (leaves f) s
passed-leaves at none s = refl
passed-leaves at (leaf x f) s = passed-leaves (behind at x) f (label_next at x s)
passed-leaves at (node k c f) s =
    passed-leaves (end_of at c) f (labels_in at c s)
    ∙ ap (λ (u : Labels). passed (end_of at c) (leaves f) u) (passed-leaves at c s)
    ∙ ap (λ (n : ℕ). passed n (leaves f) (passed at (leaves c) s)) (sym (ends-leaves at c))
    ∙ sym (passed-append at (leaves c) (leaves f) s)

-- the place that is held, reported where a word stands first behind it
abbrev if_word : Option (ℕ × ℕ) → List Token → List Report
if_word held xs = told (before_word xs) held

told_none : (b : Bool) → told b None ≡ []
told_none b = refl

no_word : (held : Option (ℕ × ℕ)) → told false held ≡ []
no_word None = refl
no_word (Some p) = refl

-- a label and a word behind it
both_told : (c w l : Bool) (at : ℕ) (x : Token) → told w (place_if c at x) ≡ refused_if (c && w) at x
both_told true true l at x = refl
both_told true false l at x = refl
both_told false w l at x = refl

swap : (a b w l : Bool) → (a && b && not l && w) ≡ (a && b && w && not l)
swap true true true true = refl
swap true true true false = refl
swap true true false true = refl
swap true true false false = refl
swap true false w l = refl
swap false b w l = refl

found_is : (xs : List Token) (at : ℕ) (s : Labels) → (passed at xs s).found ≡ s.found ++ (if_word s.held xs ++ enums s.before at xs)
found_is [] at s = sym (ap (λ (rs : List Report). s.found ++ (rs ++ [])) (no_word s.held) ∙ append-nil s.found)
found_is (x ∷ xs) at s =
    let told_now = told (is_word_behind x) s.held in
    let held = place_if (may_be_enum s.before x) at x in
    let later = enums (terminal x) (behind at x) xs in
    let one : if_word held xs ≡ refused_if (is_enum s.before x xs) at x =
    both_told (may_be_enum s.before x) (before_word xs) true at x
    ∙ ap (λ (b : Bool). refused_if b at x) (swap (is_label x.kind) _ (before_word xs) (takes_label s.before)) in
    found_is xs (behind at x) (label_next at x s)
    ∙ append_assoc s.found told_now (if_word held xs ++ later)
    ∙ ap (λ (rs : List Report). s.found ++ (told_now ++ (rs ++ later))) one

-- The labels of a file.
pub labels_are : (f : File) → (label_next (end_of 0 f.statements) f.end (labels_in 0 f.statements no_labels)).found ≡ enums t.End 0 (file_leaves f)
labels_are f =
    ap (λ (s : Labels). (label_next (end_of 0 f.statements) f.end s).found) (passed-leaves 0 f.statements no_labels)
    ∙ ap (λ (n : ℕ). (label_next n f.end (passed 0 (leaves f.statements) no_labels)).found) (sym (ends-leaves 0 f.statements))
    ∙ ap (λ (s : Labels). s.found) (sym (passed-append 0 (leaves f.statements) (f.end ∷ []) no_labels))
    ∙ found_is (file_leaves f) 0 no_labels
