-- Comments of one line end with the line.
use Rattle.std.proofs.Common.{◌≡◌, ℕ, suc, ◌+◌, Bool, true, false, cond, not, ◌&&◌, ◌||◌, nat_eq, nat_lt, List, [], ◌∷◌, ◌++◌, length, refl, sym, ap, ◌∙◌, arith}
use Rattle.std.proofs.lemmas.Bool.Decides.{nat_tests}
use Rattle.php_tree.specs.declared.version.Version.{Version}
use Rattle.php_tree.specs.declared.version.Version.TheVariants.{V74, V83}
use Rattle.php_spellings.specs.declared.table.Kind.TheVariants.{Comment}
use Rattle.php_spellings.specs.declared.table.State.{State}
use Rattle.php_spellings.specs.declared.table.State.TheVariants.{First, Plain}
use Rattle.php_spellings.specs.declared.table.Run.TheVariants.{Line, HashLine}
use Rattle.php_spellings.specs.Bytes.{is_line_end, begins_by}
use Rattle.php_lexer.specs.Tails.{in_line}
use Rattle.php_lexer.specs.Modes.{code, IsLongest}
use Rattle.php_lexer.specs.Scan.{scan, run_len}
use Rattle.php_lexer.proofs.Dispatch.{other_head}
use Rattle.php_relexing.specs.Comments.{stops_line, SlashCommentsStay, HashCommentsStay, SpacedCommentsStay}
use Rattle.php_relexing.proofs.Scanned.{found, found_length, scan_of, longest_of}

abbrev pub line_len : State → List ℕ → ℕ
line_len s bs = run_len Line [] s bs

-- ---- how far a line goes

stop_by : (b : ℕ) (bs : List ℕ) (x y : Bool) → is_line_end b ≡ x → (nat_eq b 63 && begins_by 62 bs) ≡ y → (x || y) ≡ true → (not x && not y) ≡ false
stop_by b bs true y p q h = refl
stop_by b bs false true p q h = refl
stop_by b bs false false p q h = absurd cc

pub no_line : (s : List ℕ) → stops_line s ≡ true → (st : State) → line_len st s ≡ 0
no_line [] h st = refl
no_line (b ∷ bs) h st = rw (stop_by b bs (is_line_end b) (nat_eq b 63 && begins_by 62 bs) refl refl h) refl

no_mark : (s : List ℕ) → stops_line s ≡ true → begins_by 62 s ≡ false
no_mark [] h = refl
no_mark (b ∷ bs) h = grind (arith, nat_tests)

in_by : (e m : Bool) (y : Bool) → (not e && not (m && y)) ≡ true → (not e && not (m && false)) ≡ true
in_by true m y h = absurd cc
in_by false true y h = refl
in_by false false y h = refl

last_in : (b : ℕ) (r s : List ℕ) → stops_line s ≡ true → in_line b r ≡ true → in_line b s ≡ true
last_in b r s stop h = rw (no_mark s stop) (in_by (is_line_end b) (nat_eq b 63) (begins_by 62 r) h)

next_in : (b : ℕ) (a r s : List ℕ) → stops_line s ≡ true → in_line b (a ++ r) ≡ true → in_line b (a ++ s) ≡ true
next_in b [] r s stop h = last_in b r s stop h
next_in b (c ∷ a) r s stop h = h

step_by : (x : Bool) (n m : ℕ) → cond x (1 + n) 0 ≡ suc m → (x ≡ true) × (n ≡ m)
step_by true n m e = (refl, omega arith)
step_by false n m e = absurd (omega arith)

-- a line goes as far before other bytes that it stops at
pub line_stays : (a r s : List ℕ) (st : State) → stops_line s ≡ true → line_len st (a ++ r) ≡ length a → line_len st (a ++ s) ≡ length a
line_stays [] r s st stop e = no_line s stop st
line_stays (b ∷ a) r s st stop e =
    let (goes, more) = step_by (in_line b (a ++ r)) (line_len Plain (a ++ r)) (length a) e in
    rw (next_in b a r s stop goes, line_stays a r s Plain stop more) (omega arith)

-- in a comment with `#` all bytes but the first are as in another one
hash_plain : (bs : List ℕ) → run_len HashLine [] Plain bs ≡ line_len Plain bs
hash_plain [] = refl
hash_plain (b ∷ bs) = rw (hash_plain bs) refl

hash_first : (bs : List ℕ) → begins_by 91 bs ≡ false → run_len HashLine [] First bs ≡ line_len First bs
hash_first [] h = refl
hash_first (b ∷ bs) h = rw (h, hash_plain bs) refl

-- ---- comments as they are scanned

not_less : (n : ℕ) → nat_lt (2 + n) 1 ≡ false
not_less n = grind (arith, nat_tests)

slash_scan : (v : Version) (bs : List ℕ) → scan v code (47 ∷ 47 ∷ bs) ≡ found Comment (2 + line_len First bs)
slash_scan V74 bs = rw (not_less (line_len First bs)) refl
slash_scan V83 bs = rw (not_less (line_len First bs)) refl

old_hash : (bs : List ℕ) → scan V74 code (35 ∷ bs) ≡ found Comment (1 + line_len First bs)
old_hash bs = refl

new_hash : (bs : List ℕ) → begins_by 91 bs ≡ false → scan V83 code (35 ∷ bs) ≡ found Comment (1 + run_len HashLine [] First bs)
new_hash [] h = refl
new_hash (b ∷ bs) h = let head = other_head 91 b refl h in rw head refl

-- ---- what stays

pub slash_comments_stay : SlashCommentsStay
slash_comments_stay v w a r s stop h =
    let old : 2 + line_len First (a ++ r) ≡ suc (suc (length a)) =
    found_length Comment Comment (2 + line_len First (a ++ r)) (suc (suc (length a)))
    (sym (slash_scan v (a ++ r)) ∙ scan_of v code (47 ∷ 47 ∷ a ++ r) Comment (suc (suc (length a))) h) in
    let new = line_stays a r s First stop (omega arith) in
    let size : 2 + line_len First (a ++ s) ≡ suc (suc (length a)) = omega arith in
    longest_of w code (47 ∷ 47 ∷ a ++ s) Comment (suc (suc (length a))) (slash_scan w (a ++ s) ∙ ap (found Comment) size)

hash_len : (a r s : List ℕ) → stops_line s ≡ true → IsLongest V74 code (35 ∷ a ++ r) Comment (suc (length a)) → line_len First (a ++ s) ≡ length a
hash_len a r s stop h =
    let old : 1 + line_len First (a ++ r) ≡ suc (length a) =
    found_length Comment Comment (1 + line_len First (a ++ r)) (suc (length a))
    (sym (old_hash (a ++ r)) ∙ scan_of V74 code (35 ∷ a ++ r) Comment (suc (length a)) h) in
    line_stays a r s First stop (omega arith)

no_bracket : (a s : List ℕ) → stops_line s ≡ true → begins_by 91 a ≡ false → begins_by 91 (a ++ s) ≡ false
no_bracket [] [] stop h = refl
no_bracket [] (b ∷ s) stop h = grind (arith, nat_tests)
no_bracket (b ∷ a) s stop h = h

pub hash_comments_stay : HashCommentsStay
hash_comments_stay a r s stop first h =
    let len = hash_len a r s stop h in
    let front = no_bracket a s stop first in
    let size : 1 + run_len HashLine [] First (a ++ s) ≡ suc (length a) = rw (hash_first (a ++ s) front, len) (omega arith) in
    longest_of V83 code (35 ∷ a ++ s) Comment (suc (length a)) (new_hash (a ++ s) front ∙ ap (found Comment) size)

first_plain : (bs : List ℕ) → line_len First bs ≡ line_len Plain bs
first_plain [] = refl
first_plain (b ∷ bs) = refl

pub spaced_comments_stay : SpacedCommentsStay
spaced_comments_stay a r s stop h =
    let len : line_len Plain (a ++ s) ≡ length a = sym (first_plain (a ++ s)) ∙ hash_len a r s stop h in
    let size : 1 + run_len HashLine [] First (32 ∷ a ++ s) ≡ suc (suc (length a)) = rw (hash_plain (a ++ s), len) (omega arith) in
    longest_of V83 code (35 ∷ 32 ∷ a ++ s) Comment (suc (suc (length a))) (new_hash (32 ∷ a ++ s) refl ∙ ap (found Comment) size)
