-- What white space, comments and tags consist of.
use Rattle.std.proofs.Common.{◌≡◌, ℕ, suc, ◌+◌, Bool, true, false, cond, not, ◌&&◌, ◌||◌, nat_eq, nat_lt, List, [], ◌∷◌, ◌++◌, length, inl, inr, refl, sym, ap, ◌∙◌, subst, arith}
use Rattle.std.proofs.lemmas.Bool.{and_parts, eqb-true}
use Rattle.std.proofs.lemmas.Bool.Decides.{nat_tests}
use Rattle.php_tree.specs.declared.version.Version.TheVariants.{V74}
use Rattle.php_spellings.specs.declared.table.Kind.{Kind}
use Rattle.php_spellings.specs.declared.table.Kind.TheVariants.{Space, Comment, Tag}
use Rattle.php_spellings.specs.declared.table.Mark.TheVariants.{Double, Back, Here}
use Rattle.php_spellings.specs.declared.table.State.{State}
use Rattle.php_spellings.specs.declared.table.State.TheVariants.{First, Plain}
use Rattle.php_spellings.specs.declared.table.Run.TheVariants.{Spaces, Line}
use Rattle.php_spellings.specs.declared.table.Until.TheVariants.{Block}
use Rattle.php_spellings.specs.declared.table.Tail.{Tail}
use Rattle.php_spellings.specs.declared.table.Tail.TheVariants.{When, AnyRun, UpTo}
use Rattle.php_spellings.specs.Bytes.{is_space, is_line_end, is_empty, lower, begins_by}
use Rattle.php_lexer.specs.Heredocs.{led, no_more}
use Rattle.php_lexer.specs.Tails.{in_line, is_run, is_until}
use Rattle.php_lexer.specs.Rules.{Row, rule, follows, is_tail}
use Rattle.php_lexer.specs.RulesCode.{html_rows}
use Rattle.php_lexer.specs.Modes.{Mode, html, code, named, quoted, offset, property, IsLongest}
use Rattle.php_lexer.specs.Scan.{scan, run_len}
use Rattle.php_relexing.specs.Comments.{stops_line}
use Rattle.php_relexing.proofs.WrittenTokens.{named_is_code}
use Rattle.php_relexing.proofs.Operators.{or_case, is_mark, mark_same}
use Rattle.php_relexing.proofs.Picked.{picked, meets, longest_meets}
use Rattle.php_relexing.proofs.Scanned.{found, found_length, scan_of}
use Rattle.written_tokens.specs.names.Named.{all_space}

or_none : (x : Bool) → (x || false) ≡ true → x ≡ true
or_none true h = refl
or_none false h = absurd cc

-- ---- white space

abbrev is_space_kind : Kind → Bool
is_space_kind Space = true
is_space_kind _ = false

space_run : (label text rest : List ℕ) (s : State) → is_run Spaces label s text rest ≡ true → all_space text ≡ true
space_run label [] rest s h = refl
space_run label (b ∷ text) rest s h =
    let (here, more) = and_parts (is_space b) (is_run Spaces label Plain text rest) h in
    rw (here, space_run label text rest Plain more) refl

spaces_of : (text rest : List ℕ) → ((not (is_empty text) && is_run Spaces [] First text rest) || false) ≡ true → all_space text ≡ true
spaces_of text rest h = space_run [] text rest First (and_parts (not (is_empty text)) (is_run Spaces [] First text rest) (or_none _ h)).1

pub space_text : (m : Mode) (b : ℕ) (a r : List ℕ) → IsLongest V74 m (b ∷ a ++ r) Space (suc (length a)) → all_space (b ∷ a) ≡ true
space_text html b a r h = absurd (let no = longest_meets is_space_kind V74 html (b ∷ a) r Space refl h in cc)
space_text code b a r h = spaces_of (b ∷ a) r (longest_meets is_space_kind V74 code (b ∷ a) r Space refl h)
space_text named b a r h = spaces_of (b ∷ a) r (longest_meets is_space_kind V74 named (b ∷ a) r Space refl h)
space_text (quoted Double label fresh) b a r h = absurd (let no = longest_meets is_space_kind V74 (quoted Double label fresh) (b ∷ a) r Space refl h in cc)
space_text (quoted Back label fresh) b a r h = absurd (let no = longest_meets is_space_kind V74 (quoted Back label fresh) (b ∷ a) r Space refl h in cc)
space_text (quoted Here label true) b a r h = absurd (let no = longest_meets is_space_kind V74 (quoted Here label true) (b ∷ a) r Space refl h in cc)
space_text (quoted Here label false) b a r h = absurd (let no = longest_meets is_space_kind V74 (quoted Here label false) (b ∷ a) r Space refl h in cc)
space_text offset b a r h = absurd (let no = longest_meets is_space_kind V74 offset (b ∷ a) r Space refl h in cc)
space_text property b a r h = absurd (let no = longest_meets is_space_kind V74 property (b ∷ a) r Space refl h in cc)

-- ---- tags

abbrev is_tag_kind : Kind → Bool
is_tag_kind Tag = true
is_tag_kind _ = false

-- neither `#` nor `/`
abbrev pub is_calm : ℕ → Bool
is_calm b = not (nat_eq b 35 || nat_eq b 47)

abbrev pub all_calm : List ℕ → Bool
all_calm [] = true
all_calm (b ∷ bs) = is_calm b && all_calm bs

calm_by : (x b : ℕ) → (s t : Bool) → nat_eq b 35 ≡ s → nat_eq b 47 ≡ t → is_calm x ≡ true → nat_eq x (lower b) ≡ true → (not (s || t)) ≡ true
calm_by x b true t p q c e =
    let is : b ≡ 35 = eqb-true b 35 p in
    let there : nat_eq x 35 ≡ true = subst (λ (y : ℕ). nat_eq x (lower y) ≡ true) is e in
    let same : x ≡ 35 = eqb-true x 35 there in
    absurd (let no : is_calm 35 ≡ true = subst (λ (y : ℕ). is_calm y ≡ true) same c in cc)
calm_by x b false true p q c e =
    let is : b ≡ 47 = eqb-true b 47 q in
    let there : nat_eq x 47 ≡ true = subst (λ (y : ℕ). nat_eq x (lower y) ≡ true) is e in
    let same : x ≡ 47 = eqb-true x 47 there in
    absurd (let no : is_calm 47 ≡ true = subst (λ (y : ℕ). is_calm y ≡ true) same c in cc)
calm_by x b false false p q c e = refl

calm_word : (p : List ℕ → Bool) (w text rest : List ℕ) → all_calm w ≡ true → led lower w (no_more p) text rest ≡ true → all_calm text ≡ true
calm_word p [] [] rest c h = refl
calm_word p [] (b ∷ text) rest c h = absurd cc
calm_word p (x ∷ w) [] rest c h = absurd cc
calm_word p (x ∷ w) (b ∷ text) rest c h =
    let (here, more) = and_parts (is_calm x) (all_calm w) c in
    let (first, others) = and_parts (nat_eq x (lower b)) (led lower w (no_more p) text rest) h in
    rw (calm_by x b (nat_eq b 35) (nat_eq b 47) refl refl here first, calm_word p w text rest more others) refl

abbrev is_when : Tail → Bool
is_when (When f) = true
is_when _ = false

calm_led : (w : List ℕ) (tail : Tail) (text rest : List ℕ) → is_when tail ≡ true → all_calm w ≡ true → led lower w (is_tail [] tail) text rest ≡ true → all_calm text ≡ true
calm_led w (When f) text rest t c h = calm_word (follows f) w text rest c h
calm_led w _ text rest t c h = absurd cc

abbrev calm_rows : List Row → Bool
calm_rows [] = true
calm_rows (rule kind w tail ∷ rows) = (is_when tail && all_calm w) && calm_rows rows

calm_meets : (rows : List Row) (text rest : List ℕ) → calm_rows rows ≡ true → meets [] rows text rest ≡ true → all_calm text ≡ true
calm_meets [] text rest c h = absurd cc
calm_meets (rule kind w tail ∷ rows) text rest c h =
    let (row, others) = and_parts (is_when tail && all_calm w) (calm_rows rows) c in
    let (plain, word) = and_parts (is_when tail) (all_calm w) row in
    elim (or_case (led lower w (is_tail [] tail) text rest) (meets [] rows text rest) h) [
      | inl here ↦ calm_led w tail text rest plain word here
      | inr more ↦ calm_meets rows text rest others more
    ]

pub tag_text : (m : Mode) (b : ℕ) (a r : List ℕ) → IsLongest V74 m (b ∷ a ++ r) Tag (suc (length a)) → all_calm (b ∷ a) ≡ true
tag_text html b a r h = calm_meets (picked is_tag_kind html_rows) (b ∷ a) r refl (longest_meets is_tag_kind V74 html (b ∷ a) r Tag refl h)
tag_text code b a r h = absurd (let no = longest_meets is_tag_kind V74 code (b ∷ a) r Tag refl h in cc)
tag_text named b a r h = absurd (let no = longest_meets is_tag_kind V74 named (b ∷ a) r Tag refl h in cc)
tag_text (quoted Double label fresh) b a r h = absurd (let no = longest_meets is_tag_kind V74 (quoted Double label fresh) (b ∷ a) r Tag refl h in cc)
tag_text (quoted Back label fresh) b a r h = absurd (let no = longest_meets is_tag_kind V74 (quoted Back label fresh) (b ∷ a) r Tag refl h in cc)
tag_text (quoted Here label true) b a r h = absurd (let no = longest_meets is_tag_kind V74 (quoted Here label true) (b ∷ a) r Tag refl h in cc)
tag_text (quoted Here label false) b a r h = absurd (let no = longest_meets is_tag_kind V74 (quoted Here label false) (b ∷ a) r Tag refl h in cc)
tag_text offset b a r h = absurd (let no = longest_meets is_tag_kind V74 offset (b ∷ a) r Tag refl h in cc)
tag_text property b a r h = absurd (let no = longest_meets is_tag_kind V74 property (b ∷ a) r Tag refl h in cc)

-- ---- comments

abbrev is_comment : Kind → Bool
is_comment Comment = true
is_comment _ = false

-- A comment: with `#` or `//` up to the end of a line, or between `/*` and `*/`.
pub data CommentText : ℕ → List ℕ → List ℕ → Type 0 where
  hash : {r : List ℕ} (a : List ℕ) → is_run Line [] First a r ≡ true → stops_line r ≡ true → CommentText 35 a r
  block : {r : List ℕ} (a : List ℕ) → is_until Block First a r ≡ true → CommentText 47 (42 ∷ a) r
  slash : {r : List ℕ} (a : List ℕ) → is_run Line [] First a r ≡ true → stops_line r ≡ true → CommentText 47 (47 ∷ a) r

stop_by : (e q m : Bool) → (not e && not (q && m)) ≡ false → (e || q && m) ≡ true
stop_by true q m h = refl
stop_by false true true h = refl
stop_by false true false h = absurd cc
stop_by false false m h = absurd cc

step_by : (x : Bool) (n m : ℕ) → cond x (1 + n) 0 ≡ suc m → n ≡ m
step_by true n m e = omega arith
step_by false n m e = absurd (omega arith)

none_by : (x : Bool) (n : ℕ) → cond x (1 + n) 0 ≡ 0 → x ≡ false
none_by true n e = absurd (omega arith)
none_by false n e = refl

line_stops : (a r : List ℕ) (st : State) → run_len Line [] st (a ++ r) ≡ length a → stops_line r ≡ true
line_stops [] [] st e = refl
line_stops [] (b ∷ r) st e = stop_by (is_line_end b) (nat_eq b 63) (begins_by 62 r) (none_by (in_line b r) (run_len Line [] Plain r) e)
line_stops (b ∷ a) r st e = line_stops a r Plain (step_by (in_line b (a ++ r)) (run_len Line [] Plain (a ++ r)) (length a) e)

hash_scan : (bs : List ℕ) → scan V74 code (35 ∷ bs) ≡ found Comment (1 + run_len Line [] First bs)
hash_scan bs = refl

not_less : (n : ℕ) → nat_lt (2 + n) 1 ≡ false
not_less n = grind (arith, nat_tests)

slash_scan : (bs : List ℕ) → scan V74 code (47 ∷ 47 ∷ bs) ≡ found Comment (2 + run_len Line [] First bs)
slash_scan bs = rw (not_less (run_len Line [] First bs)) refl

hash_stops : (a r : List ℕ) → IsLongest V74 code (35 ∷ a ++ r) Comment (suc (length a)) → stops_line r ≡ true
hash_stops a r h =
    let size : 1 + run_len Line [] First (a ++ r) ≡ suc (length a) =
    found_length Comment Comment (1 + run_len Line [] First (a ++ r)) (suc (length a))
    (sym (hash_scan (a ++ r)) ∙ scan_of V74 code (35 ∷ a ++ r) Comment (suc (length a)) h) in
    line_stops a r First (omega arith)

slash_stops : (a r : List ℕ) → IsLongest V74 code (47 ∷ 47 ∷ a ++ r) Comment (suc (suc (length a))) → stops_line r ≡ true
slash_stops a r h =
    let size : 2 + run_len Line [] First (a ++ r) ≡ suc (suc (length a)) =
    found_length Comment Comment (2 + run_len Line [] First (a ++ r)) (suc (suc (length a)))
    (sym (slash_scan (a ++ r)) ∙ scan_of V74 code (47 ∷ 47 ∷ a ++ r) Comment (suc (suc (length a))) h) in
    line_stops a r First (omega arith)

-- a text that begins with a byte
record Second (y : ℕ) (p : List ℕ → List ℕ → Bool) (a r : List ℕ) : Type 0 where
  more : List ℕ
  same : a ≡ y ∷ more
  holds : p more r ≡ true

second : (y : ℕ) (p : List ℕ → List ℕ → Bool) (a r : List ℕ) → is_mark y ≡ true → led lower (y ∷ []) p a r ≡ true → Second y p a r
second y p [] r mark h = absurd cc
second y p (c ∷ a) r mark h =
    let (here, more) = and_parts (nat_eq y (lower c)) (p a r) h in
    record { more = a; same = ap (λ (x : ℕ). x ∷ a) (mark_same y c mark here); holds = more }

abbrev Longest : ℕ → List ℕ → List ℕ → Type 0
Longest b a r = IsLongest V74 code (b ∷ a ++ r) Comment (suc (length a))

at_hash : (a r : List ℕ) → is_run Line [] First a r ≡ true → Longest 35 a r → CommentText 35 a r
at_hash a r run h = hash a run (hash_stops a r h)

at_block : (a r : List ℕ) → Second 42 (is_tail [] (UpTo Block)) a r → CommentText 47 a r
at_block a r s = subst (λ (x : List ℕ). CommentText 47 x r) (sym s.same) (block s.more s.holds)

at_slash : (a r : List ℕ) → Second 47 (is_tail [] (AnyRun Line)) a r → Longest 47 a r → CommentText 47 a r
at_slash a r s h =
    let there : Longest 47 (47 ∷ s.more) r = subst (λ (x : List ℕ). Longest 47 x r) s.same h in
    subst (λ (x : List ℕ). CommentText 47 x r) (sym s.same) (slash s.more s.holds (slash_stops s.more r there))

code_comment : (b : ℕ) (a r : List ℕ) → Longest b a r → CommentText b a r
code_comment b a r h =
    elim (or_case (led lower (35 ∷ []) (is_tail [] (AnyRun Line)) (b ∷ a) r) _ (longest_meets is_comment V74 code (b ∷ a) r Comment refl h)) [
      | inl one ↦
          let (first, run) = and_parts (nat_eq 35 (lower b)) (is_run Line [] First a r) one in
          subst (λ (x : ℕ). Longest x a r → CommentText x a r) (sym (mark_same 35 b refl first)) (at_hash a r run) h
      | inr two ↦ elim (or_case (led lower (47 ∷ 42 ∷ []) (is_tail [] (UpTo Block)) (b ∷ a) r) _ two) [
        | inl star ↦
            let (first, more) = and_parts (nat_eq 47 (lower b)) (led lower (42 ∷ []) (is_tail [] (UpTo Block)) a r) star in
            subst (λ (x : ℕ). CommentText x a r) (sym (mark_same 47 b refl first)) (at_block a r (second 42 (is_tail [] (UpTo Block)) a r refl more))
        | inr last ↦
            let (first, more) = and_parts (nat_eq 47 (lower b)) (led lower (47 ∷ []) (is_tail [] (AnyRun Line)) a r) (or_none _ last) in
            subst (λ (x : ℕ). Longest x a r → CommentText x a r) (sym (mark_same 47 b refl first)) (at_slash a r (second 47 (is_tail [] (AnyRun Line)) a r refl more)) h
      ]
    ]

pub comment_text : (m : Mode) (b : ℕ) (a r : List ℕ) → IsLongest V74 m (b ∷ a ++ r) Comment (suc (length a)) → CommentText b a r
comment_text html b a r h = absurd (let no = longest_meets is_comment V74 html (b ∷ a) r Comment refl h in cc)
comment_text code b a r h = code_comment b a r h
comment_text named b a r h = code_comment b a r (named_is_code.other V74 (b ∷ a ++ r) Comment (suc (length a)) refl h)
comment_text (quoted Double label fresh) b a r h = absurd (let no = longest_meets is_comment V74 (quoted Double label fresh) (b ∷ a) r Comment refl h in cc)
comment_text (quoted Back label fresh) b a r h = absurd (let no = longest_meets is_comment V74 (quoted Back label fresh) (b ∷ a) r Comment refl h in cc)
comment_text (quoted Here label true) b a r h = absurd (let no = longest_meets is_comment V74 (quoted Here label true) (b ∷ a) r Comment refl h in cc)
comment_text (quoted Here label false) b a r h = absurd (let no = longest_meets is_comment V74 (quoted Here label false) (b ∷ a) r Comment refl h in cc)
comment_text offset b a r h = absurd (let no = longest_meets is_comment V74 offset (b ∷ a) r Comment refl h in cc)
comment_text property b a r h = absurd (let no = longest_meets is_comment V74 property (b ∷ a) r Comment refl h in cc)

-- a tag begins with `<`
abbrev calm_first : List Row → Bool
calm_first [] = true
calm_first (rule kind [] tail ∷ rows) = false
calm_first (rule kind (x ∷ w) tail ∷ rows) = nat_eq x 60 && calm_first rows

mark_first : (rows : List Row) (b : ℕ) (a rest : List ℕ) → calm_first rows ≡ true → meets [] rows (b ∷ a) rest ≡ true → b ≡ 60
mark_first [] b a rest c h = absurd cc
mark_first (rule kind [] tail ∷ rows) b a rest c h = absurd cc
mark_first (rule kind (x ∷ w) tail ∷ rows) b a rest c h =
    let (here, others) = and_parts (nat_eq x 60) (calm_first rows) c in
    elim (or_case (led lower (x ∷ w) (is_tail [] tail) (b ∷ a) rest) (meets [] rows (b ∷ a) rest) h) [
      | inl first ↦ mark_same 60 b refl (subst (λ (y : ℕ). nat_eq y (lower b) ≡ true) (eqb-true x 60 here)
          (and_parts (nat_eq x (lower b)) (led lower w (is_tail [] tail) a rest) first).0)
      | inr more ↦ mark_first rows b a rest others more
    ]

pub tag_mark : (m : Mode) (b : ℕ) (a r : List ℕ) → IsLongest V74 m (b ∷ a ++ r) Tag (suc (length a)) → nat_eq b 63 ≡ false
tag_mark html b a r h = ap (λ (x : ℕ). nat_eq x 63) (mark_first (picked is_tag_kind html_rows) b a r refl (longest_meets is_tag_kind V74 html (b ∷ a) r Tag refl h))
tag_mark code b a r h = absurd (let no = longest_meets is_tag_kind V74 code (b ∷ a) r Tag refl h in cc)
tag_mark named b a r h = absurd (let no = longest_meets is_tag_kind V74 named (b ∷ a) r Tag refl h in cc)
tag_mark (quoted Double label fresh) b a r h = absurd (let no = longest_meets is_tag_kind V74 (quoted Double label fresh) (b ∷ a) r Tag refl h in cc)
tag_mark (quoted Back label fresh) b a r h = absurd (let no = longest_meets is_tag_kind V74 (quoted Back label fresh) (b ∷ a) r Tag refl h in cc)
tag_mark (quoted Here label true) b a r h = absurd (let no = longest_meets is_tag_kind V74 (quoted Here label true) (b ∷ a) r Tag refl h in cc)
tag_mark (quoted Here label false) b a r h = absurd (let no = longest_meets is_tag_kind V74 (quoted Here label false) (b ∷ a) r Tag refl h in cc)
tag_mark offset b a r h = absurd (let no = longest_meets is_tag_kind V74 offset (b ∷ a) r Tag refl h in cc)
tag_mark property b a r h = absurd (let no = longest_meets is_tag_kind V74 property (b ∷ a) r Tag refl h in cc)
