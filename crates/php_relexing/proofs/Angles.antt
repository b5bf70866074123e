-- Operators with `/` and `<`, and `?>`.
use Rattle.std.proofs.Common.{◌≡◌, ℕ, suc, Bool, true, false, not, ◌&&◌, ◌||◌, nat_eq, List, [], ◌∷◌, ◌++◌, length, inl, inr, refl, sym, ◌∙◌, subst}
use Rattle.std.proofs.lemmas.Bool.{eqb-true, not-true}
use Rattle.php_tree.specs.declared.version.Version.{Version}
use Rattle.php_tree.specs.declared.version.Version.TheVariants.{V74, V83}
use Rattle.php_spellings.specs.declared.table.Kind.TheVariants.{Op, Close}
use Rattle.php_spellings.specs.declared.table.Follow.TheVariants.{Anything, NoStar, NoNowdocAfterOne, NoNowdocAfterTwo}
use Rattle.php_spellings.specs.declared.table.Tail.TheVariants.{When}
use Rattle.php_spellings.specs.Bytes.{begins_by}
use Rattle.php_lexer.specs.Rules.{Row, rule}
use Rattle.php_lexer.specs.RulesCode.{code_rows}
use Rattle.php_lexer.specs.Modes.{code}
use Rattle.php_lexer.specs.Scan.{scan}
use Rattle.php_lexer.proofs.Dispatch.{other_head}
use Rattle.php_relexing.specs.Angles.{slash_ends, SlashesStay, less_ends, AnglesStay, close_ends, ClosingTagsStay}
use Rattle.php_relexing.proofs.Operators.{OneOf, one_of, is_op, is_close}
use Rattle.php_relexing.proofs.Picked.{picked, meets, longest_meets}
use Rattle.php_relexing.proofs.Scanned.{found, longest_of}

or_3 : (x y z : Bool) → not (x || y || z) ≡ true → (x ≡ false) × ((y ≡ false) × (z ≡ false))
or_3 true y z h = absurd cc
or_3 false true z h = absurd cc
or_3 false false true h = absurd cc
or_3 false false false h = (refl, (refl, refl))

-- ---- `/`

abbrev slash_rows : List Row
slash_rows = rule Op [] (When NoStar) ∷ rule Op (61 ∷ []) (When Anything) ∷ []

slash_meets : (v : Version) (a r : List ℕ) → meets [] (picked is_op (code_rows v)) (47 ∷ a) r ≡ meets [] slash_rows a r
slash_meets V74 a r = refl
slash_meets V83 a r = refl

slash_alone : (w : Version) (s : List ℕ) → slash_ends [] s ≡ true → scan w code (47 ∷ s) ≡ found Op 1
slash_alone V74 [] h = refl
slash_alone V83 [] h = refl
slash_alone V74 (c ∷ s) h =
    let is = or_3 (nat_eq c 42) (nat_eq c 47) (nat_eq c 61) h in
    rw (is.0, other_head 42 c refl is.0, other_head 47 c refl is.1.0, other_head 61 c refl is.1.1) refl
slash_alone V83 (c ∷ s) h =
    let is = or_3 (nat_eq c 42) (nat_eq c 47) (nat_eq c 61) h in
    rw (is.0, other_head 42 c refl is.0, other_head 47 c refl is.1.0, other_head 61 c refl is.1.1) refl

slash_assign : (w : Version) (s : List ℕ) → scan w code (47 ∷ 61 ∷ s) ≡ found Op 2
slash_assign V74 s = refl
slash_assign V83 s = refl

slash_by : (w : Version) (a s : List ℕ) → OneOf slash_rows a → slash_ends a s ≡ true → scan w code (47 ∷ a ++ s) ≡ found Op (suc (length a))
slash_by w a s (inl e) h = subst (λ (u : List ℕ). slash_ends u s ≡ true → scan w code (47 ∷ u ++ s) ≡ found Op (suc (length u))) (sym e) (slash_alone w s) h
slash_by w a s (inr (inl e)) h = subst (λ (u : List ℕ). scan w code (47 ∷ u ++ s) ≡ found Op (suc (length u))) (sym e) (slash_assign w s)
slash_by w a s (inr (inr e)) h = absurd e

pub slashes_stay : SlashesStay
slashes_stay v w a r s h l =
    let is = one_of slash_rows a r refl (sym (slash_meets v a r) ∙ longest_meets is_op v code (47 ∷ a) r Op refl l) in
    longest_of w code (47 ∷ a ++ s) Op (suc (length a)) (slash_by w a s is h)

-- ---- `<`

abbrev less_rows : List Row
less_rows =
    rule Op [] (When NoNowdocAfterOne)
    ∷ rule Op (60 ∷ []) (When NoNowdocAfterTwo)
    ∷ rule Op (61 ∷ []) (When Anything)
    ∷ rule Op (61 ∷ 62 ∷ []) (When Anything)
    ∷ rule Op (62 ∷ []) (When Anything)
    ∷ rule Op (60 ∷ 61 ∷ []) (When Anything)
    ∷ []

less_meets : (v : Version) (a r : List ℕ) → meets [] (picked is_op (code_rows v)) (60 ∷ a) r ≡ meets [] less_rows a r
less_meets V74 a r = refl
less_meets V83 a r = refl

less_alone : (w : Version) (s : List ℕ) → less_ends [] s ≡ true → scan w code (60 ∷ s) ≡ found Op 1
less_alone V74 [] h = refl
less_alone V83 [] h = refl
less_alone V74 (c ∷ s) h =
    let is = or_3 (nat_eq c 60) (nat_eq c 61) (nat_eq c 62) h in
    rw (other_head 60 c refl is.0, other_head 61 c refl is.1.0, other_head 62 c refl is.1.1) refl
less_alone V83 (c ∷ s) h =
    let is = or_3 (nat_eq c 60) (nat_eq c 61) (nat_eq c 62) h in
    rw (other_head 60 c refl is.0, other_head 61 c refl is.1.0, other_head 62 c refl is.1.1) refl

at_most : (w : Version) (s : List ℕ) → less_ends (61 ∷ []) s ≡ true → scan w code (60 ∷ 61 ∷ s) ≡ found Op 2
at_most V74 [] h = refl
at_most V83 [] h = refl
at_most V74 (c ∷ s) h = rw (other_head 62 c refl (not-true (nat_eq c 62) h)) refl
at_most V83 (c ∷ s) h = rw (other_head 62 c refl (not-true (nat_eq c 62) h)) refl

spaceship : (w : Version) (s : List ℕ) → scan w code (60 ∷ 61 ∷ 62 ∷ s) ≡ found Op 3
spaceship V74 s = refl
spaceship V83 s = refl

unequal : (w : Version) (s : List ℕ) → scan w code (60 ∷ 62 ∷ s) ≡ found Op 2
unequal V74 s = refl
unequal V83 s = refl

shift_assign : (w : Version) (s : List ℕ) → scan w code (60 ∷ 60 ∷ 61 ∷ s) ≡ found Op 3
shift_assign V74 s = refl
shift_assign V83 s = refl

shift_other : (w : Version) (c : ℕ) (s : List ℕ) → nat_eq c 61 ≡ false → nat_eq c 60 ≡ false → scan w code (60 ∷ 60 ∷ c ∷ s) ≡ found Op 2
shift_other V74 c s p q = rw (other_head 61 c refl p, other_head 60 c refl q) refl
shift_other V83 c s p q = rw (other_head 61 c refl p, other_head 60 c refl q) refl

shift_thrice : (w : Version) (s : List ℕ) → scan w code (60 ∷ 60 ∷ 60 ∷ 60 ∷ s) ≡ found Op 2
shift_thrice V74 s = refl
shift_thrice V83 s = refl

-- `<` once more, and a third time
fourth : (w : Version) (s : List ℕ) → begins_by 60 s ≡ true → scan w code (60 ∷ 60 ∷ 60 ∷ s) ≡ found Op 2
fourth w [] h = absurd cc
fourth w (d ∷ s) h = subst (λ (x : ℕ). scan w code (60 ∷ 60 ∷ 60 ∷ x ∷ s) ≡ found Op 2) (sym (eqb-true d 60 h)) (shift_thrice w s)

shift_by : (w : Version) (c : ℕ) (s : List ℕ) (x y : Bool) → nat_eq c 61 ≡ x → nat_eq c 60 ≡ y
    → (not x && (not y || begins_by 60 s)) ≡ true → scan w code (60 ∷ 60 ∷ c ∷ s) ≡ found Op 2
shift_by w c s true y p q h = absurd cc
shift_by w c s false true p q h = subst (λ (x : ℕ). scan w code (60 ∷ 60 ∷ x ∷ s) ≡ found Op 2) (sym (eqb-true c 60 q)) (fourth w s h)
shift_by w c s false false p q h = shift_other w c s p q

shift : (w : Version) (s : List ℕ) → less_ends (60 ∷ []) s ≡ true → scan w code (60 ∷ 60 ∷ s) ≡ found Op 2
shift V74 [] h = refl
shift V83 [] h = refl
shift w (c ∷ s) h = shift_by w c s (nat_eq c 61) (nat_eq c 60) refl refl h

less_by : (w : Version) (a s : List ℕ) → OneOf less_rows a → less_ends a s ≡ true → scan w code (60 ∷ a ++ s) ≡ found Op (suc (length a))
less_by w a s (inl e) h = subst (λ (u : List ℕ). less_ends u s ≡ true → scan w code (60 ∷ u ++ s) ≡ found Op (suc (length u))) (sym e) (less_alone w s) h
less_by w a s (inr (inl e)) h = subst (λ (u : List ℕ). less_ends u s ≡ true → scan w code (60 ∷ u ++ s) ≡ found Op (suc (length u))) (sym e) (shift w s) h
less_by w a s (inr (inr (inl e))) h = subst (λ (u : List ℕ). less_ends u s ≡ true → scan w code (60 ∷ u ++ s) ≡ found Op (suc (length u))) (sym e) (at_most w s) h
less_by w a s (inr (inr (inr (inl e)))) h = subst (λ (u : List ℕ). scan w code (60 ∷ u ++ s) ≡ found Op (suc (length u))) (sym e) (spaceship w s)
less_by w a s (inr (inr (inr (inr (inl e))))) h = subst (λ (u : List ℕ). scan w code (60 ∷ u ++ s) ≡ found Op (suc (length u))) (sym e) (unequal w s)
less_by w a s (inr (inr (inr (inr (inr (inl e)))))) h = subst (λ (u : List ℕ). scan w code (60 ∷ u ++ s) ≡ found Op (suc (length u))) (sym e) (shift_assign w s)
less_by w a s (inr (inr (inr (inr (inr (inr e)))))) h = absurd e

pub angles_stay : AnglesStay
angles_stay v w a r s h l =
    let is = one_of less_rows a r refl (sym (less_meets v a r) ∙ longest_meets is_op v code (60 ∷ a) r Op refl l) in
    longest_of w code (60 ∷ a ++ s) Op (suc (length a)) (less_by w a s is h)

-- ---- `?>`

abbrev close_rows : List Row
close_rows =
    rule Close [] (When Anything)
    ∷ rule Close (10 ∷ []) (When Anything)
    ∷ rule Close (13 ∷ []) (When Anything)
    ∷ rule Close (13 ∷ 10 ∷ []) (When Anything)
    ∷ []

close_meets : (v : Version) (a r : List ℕ) → meets [] (picked is_close (code_rows v)) (63 ∷ 62 ∷ a) r ≡ meets [] close_rows a r
close_meets V74 a r = refl
close_meets V83 a r = refl

or_2 : (x y : Bool) → not (x || y) ≡ true → (x ≡ false) × (y ≡ false)
or_2 true y h = absurd cc
or_2 false true h = absurd cc
or_2 false false h = (refl, refl)

close_alone : (w : Version) (s : List ℕ) → close_ends [] s ≡ true → scan w code (63 ∷ 62 ∷ s) ≡ found Close 2
close_alone V74 [] h = refl
close_alone V83 [] h = refl
close_alone V74 (c ∷ s) h = let is = or_2 (nat_eq c 10) (nat_eq c 13) h in rw (other_head 10 c refl is.0, other_head 13 c refl is.1) refl
close_alone V83 (c ∷ s) h = let is = or_2 (nat_eq c 10) (nat_eq c 13) h in rw (other_head 10 c refl is.0, other_head 13 c refl is.1) refl

close_return : (w : Version) (s : List ℕ) → close_ends (13 ∷ []) s ≡ true → scan w code (63 ∷ 62 ∷ 13 ∷ s) ≡ found Close 3
close_return V74 [] h = refl
close_return V83 [] h = refl
close_return V74 (c ∷ s) h = rw (other_head 10 c refl (not-true (nat_eq c 10) h)) refl
close_return V83 (c ∷ s) h = rw (other_head 10 c refl (not-true (nat_eq c 10) h)) refl

close_feed : (w : Version) (s : List ℕ) → scan w code (63 ∷ 62 ∷ 10 ∷ s) ≡ found Close 3
close_feed V74 s = refl
close_feed V83 s = refl

close_both : (w : Version) (s : List ℕ) → scan w code (63 ∷ 62 ∷ 13 ∷ 10 ∷ s) ≡ found Close 4
close_both V74 s = refl
close_both V83 s = refl

close_by : (w : Version) (a s : List ℕ) → OneOf close_rows a → close_ends a s ≡ true → scan w code (63 ∷ 62 ∷ a ++ s) ≡ found Close (suc (suc (length a)))
close_by w a s (inl e) h = subst (λ (u : List ℕ). close_ends u s ≡ true → scan w code (63 ∷ 62 ∷ u ++ s) ≡ found Close (suc (suc (length u)))) (sym e) (close_alone w s) h
close_by w a s (inr (inl e)) h = subst (λ (u : List ℕ). scan w code (63 ∷ 62 ∷ u ++ s) ≡ found Close (suc (suc (length u)))) (sym e) (close_feed w s)
close_by w a s (inr (inr (inl e))) h = subst (λ (u : List ℕ). close_ends u s ≡ true
    → scan w code (63 ∷ 62 ∷ u ++ s) ≡ found Close (suc (suc (length u)))) (sym e) (close_return w s) h
close_by w a s (inr (inr (inr (inl e)))) h = subst (λ (u : List ℕ). scan w code (63 ∷ 62 ∷ u ++ s) ≡ found Close (suc (suc (length u)))) (sym e) (close_both w s)
close_by w a s (inr (inr (inr (inr e)))) h = absurd e

pub closing_tags_stay : ClosingTagsStay
closing_tags_stay v w a r s h l =
    let is = one_of close_rows a r refl (sym (close_meets v a r) ∙ longest_meets is_close v code (63 ∷ 62 ∷ a) r Close refl l) in
    longest_of w code (63 ∷ 62 ∷ a ++ s) Close (suc (suc (length a))) (close_by w a s is h)
