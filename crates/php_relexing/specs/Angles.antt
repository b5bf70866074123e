-- Operators with `/` and `<`, and `?>`.
use Rattle.std.specs.Prelude.{◌≡◌, ℕ, suc, Bool, false, true, cond, not, ◌&&◌, ◌||◌, nat_eq, List, [], ◌∷◌, ◌++◌, length, drop}
use Rattle.php_tree.specs.declared.version.Version.{Version}
use Rattle.php_spellings.specs.declared.table.Kind.TheVariants.{Op, Close}
use Rattle.php_spellings.specs.Bytes.{is_line_end, is_empty, begins, begins_by}
use Rattle.php_lexer.specs.Modes.{code, IsLongest}

-- whether two texts are the same
abbrev pub is_text : List ℕ → List ℕ → Bool
is_text [] bs = is_empty bs
is_text (a ∷ w) [] = false
is_text (a ∷ w) (b ∷ bs) = nat_eq a b && is_text w bs

-- whether an operator that is `/` and this text ends before the bytes
abbrev pub slash_ends : List ℕ → List ℕ → Bool
slash_ends a bs = not (is_empty a) || not (begins (λ c. nat_eq c 42 || nat_eq c 47 || nat_eq c 61) bs)

abbrev pub SlashesStay : Type 0
SlashesStay =
    (v w : Version) (a r s : List ℕ) →
    slash_ends a s ≡ true →
    IsLongest v code (47 ∷ a ++ r) Op (suc (length a)) →
    IsLongest w code (47 ∷ a ++ s) Op (suc (length a))

-- whether an operator that is `<` and this text ends before the bytes; behind `<<` a heredoc may begin
abbrev pub less_ends : List ℕ → List ℕ → Bool
less_ends a bs =
    cond (is_empty a) (not (begins (λ c. nat_eq c 60 || nat_eq c 61 || nat_eq c 62) bs))
    (cond (is_text (60 ∷ []) a) (not (begins_by 61 bs) && (not (begins_by 60 bs) || begins_by 60 (drop 1 bs)))
    (cond (is_text (61 ∷ []) a) (not (begins_by 62 bs)) true))

abbrev pub AnglesStay : Type 0
AnglesStay =
    (v w : Version) (a r s : List ℕ) →
    less_ends a s ≡ true →
    IsLongest v code (60 ∷ a ++ r) Op (suc (length a)) →
    IsLongest w code (60 ∷ a ++ s) Op (suc (length a))

-- whether a closing tag that is `?>` and this text ends before the bytes
abbrev pub close_ends : List ℕ → List ℕ → Bool
close_ends a bs =
    cond (is_empty a) (not (begins is_line_end bs)) (cond (is_text (13 ∷ []) a) (not (begins_by 10 bs)) true)

abbrev pub ClosingTagsStay : Type 0
ClosingTagsStay =
    (v w : Version) (a r s : List ℕ) →
    close_ends a s ≡ true →
    IsLongest v code (63 ∷ 62 ∷ a ++ r) Close (suc (suc (length a))) →
    IsLongest w code (63 ∷ 62 ∷ a ++ s) Close (suc (suc (length a)))
