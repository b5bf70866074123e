-- Casts that become `(float)` and `(null)`, and comments with a space behind `#`.
use Rattle.std.proofs.Common.{◌≡◌, ℕ, suc, ◌+◌, Bool, true, false, List, [], ◌∷◌, ◌++◌, length, codes, refl, sym, ap, ◌∙◌, subst, append_assoc, arith}
use Rattle.std.proofs.lemmas.Bool.{and_parts}
use Rattle.php_tree.specs.declared.version.Version.TheVariants.{V74}
use Rattle.php_spellings.specs.declared.table.Kind.{Kind}
use Rattle.php_spellings.specs.declared.table.Kind.TheVariants.{Space, Comment, Tag, Variable, Word, Cast, Op}
use Rattle.php_spellings.specs.declared.table.State.TheVariants.{First, Plain}
use Rattle.php_spellings.specs.declared.table.Run.TheVariants.{Line}
use Rattle.php_lexer.specs.Scan.{scan, run_len}
use Rattle.php_lexer.specs.Modes.{Mode, code, IsLongest}
use Rattle.php_relexing.specs.Tiles.{Tile, tile, joined}
use Rattle.php_relexing.specs.Spelled.{Steps}
use Rattle.php_relexing.specs.Comments.{stops_line}
use Rattle.php_relexing.proofs.Comments.{line_stays}
use Rattle.php_relexing.proofs.Scanned.{found, found_length, scan_of, longest_of}
use Rattle.php_relexing.proofs.WrittenTokens.{marks_are_tokens, null_is_written}
use Rattle.written_tokens.specs.tokens.Levels.{stack_of}
use Rattle.written_tokens.specs.tiles.ContinuesAs.{is_trivia, ContinuesAs, put, hash}
use Rattle.written_tokens.specs.tiles.Edits.{all_trivia, HashCommentsBecome, CastsBecomeFloat, CastsBecomeNull}
use Rattle.written_tokens.proofs.tiles.AheadFrom.{code_continues}
use Rattle.written_tokens.proofs.tiles.Behind.{line_behind}
use Rattle.written_tokens.proofs.tiles.Braces.{token_or}
use Rattle.written_tokens.proofs.tiles.Standing.{trivia_kind}
use Rattle.written_tokens.proofs.tiles.Stepping.{stepped, longest_in, steps_behind}

-- ---- `(float)`

float_written : (b : ℕ) (a : List ℕ) (gap : Bool) (below over : List Mode) (depth deep : ℕ) (rest after : List Tile)
    → ContinuesAs false false rest after → Steps V74 (stack_of code below depth) (tile Cast b a ∷ rest)
    → Steps V74 (stack_of code over deep) after → Steps V74 (stack_of code over deep)
    (tile Cast 40 (codes "float)") ∷ after)
float_written b a gap below over depth deep rest after h s w =
    stepped (stack_of code over deep) (stack_of code over deep) Cast 40 (codes "float)") after (marks_are_tokens.float V74 (joined after)) refl w

pub casts_become_float : CastsBecomeFloat
casts_become_float b a = record {
  goes = λ tight gap rest after h. put Cast 40 (codes "float)") refl (token_or gap);
  source = λ below depth rest s. steps_behind (stack_of code below depth) (stack_of code below depth) Cast b a rest refl s;
  written = float_written b a;
}

-- ---- `(null)`

trivia_next : (below : List Mode) (depth : ℕ) (kind : Kind) (b : ℕ) (a : List ℕ) (rest : List Tile)
    → is_trivia kind ≡ true → Steps V74 (stack_of code below depth) (tile kind b a ∷ rest)
    → Steps V74 (stack_of code below depth) rest
trivia_next below depth kind b a rest h =
    trivia_kind (λ (k : Kind). Steps V74 (stack_of code below depth) (tile k b a ∷ rest) → Steps V74 (stack_of code below depth) rest)
    (λ s. steps_behind (stack_of code below depth) (stack_of code below depth) Space b a rest refl s)
    (λ s. steps_behind (stack_of code below depth) (stack_of code below depth) Comment b a rest refl s)
    (λ s. steps_behind (stack_of code below depth) (stack_of code below depth) Tag b a rest refl s)
    kind h

trivia_pass : (below : List Mode) (depth : ℕ) (gap rest : List Tile) → all_trivia gap ≡ true
    → Steps V74 (stack_of code below depth) (gap ++ rest) → Steps V74 (stack_of code below depth) rest
trivia_pass below depth [] rest h s = s
trivia_pass below depth (tile kind b a ∷ gap) rest h s =
    let (here, more) = and_parts (is_trivia kind) (all_trivia gap) h in
    trivia_pass below depth gap rest more (trivia_next below depth kind b a (gap ++ rest) here s)

null_source : (b c : ℕ) (a e : List ℕ) (gap : List Tile) → all_trivia gap ≡ true
    → (below : List Mode) (depth : ℕ) (rest : List Tile) → Steps V74 (stack_of code below depth)
    (tile Cast b a ∷ (gap ++ tile Variable c e ∷ []) ++ rest) → Steps V74 (stack_of code below depth) rest
null_source b c a e gap h below depth rest s =
    let behind = steps_behind (stack_of code below depth) (stack_of code below depth) Cast b a ((gap ++ tile Variable c e ∷ []) ++ rest) refl s in
    let regrouped = subst (λ (x : List Tile). Steps V74 (stack_of code below depth) x) (append_assoc gap (tile Variable c e ∷ []) rest) behind in
    steps_behind (stack_of code below depth) (stack_of code below depth) Variable c e rest refl (trivia_pass below depth gap (tile Variable c e ∷ rest) h regrouped)

null_steps : (over : List Mode) (deep : ℕ) (after : List Tile) → Steps V74 (stack_of code over deep) after
    → Steps V74 (stack_of code over deep) (tile Op 40 [] ∷ tile Word 110 (codes "ull") ∷ tile Op 41 [] ∷ after)
null_steps over deep after w =
    let last = stepped (stack_of code over deep) (stack_of code over deep) Op 41 [] after (marks_are_tokens.closing V74 (joined after)) refl w in
    let middle = stepped (stack_of code over deep) (stack_of code over deep) Word 110 (codes "ull") (tile Op 41 [] ∷ after) (null_is_written.null V74 (joined after)) refl last in
    stepped (stack_of code over deep) (stack_of code over deep) Op 40 []
    (tile Word 110 (codes "ull") ∷ tile Op 41 [] ∷ after) (null_is_written.opening V74 (joined after)) refl middle

pub casts_become_null : CastsBecomeNull
casts_become_null b c a e gap h = record {
  goes = λ tight before rest after g. put Op 40 [] refl (token_or before);
  source = null_source b c a e gap h;
  written = λ before below over depth deep rest after g s w. null_steps over deep after w;
}

-- ---- comments with `#`

first_plain : (bs : List ℕ) → run_len Line [] First bs ≡ run_len Line [] Plain bs
first_plain [] = refl
first_plain (b ∷ bs) = refl

hash_scan : (bs : List ℕ) → scan V74 code (35 ∷ bs) ≡ found Comment (1 + run_len Line [] First bs)
hash_scan bs = refl

hash_longest : (a r s : List ℕ) → stops_line s ≡ true → IsLongest V74 code (35 ∷ a ++ r) Comment (suc (length a))
    → IsLongest V74 code (35 ∷ 32 ∷ a ++ s) Comment (suc (suc (length a)))
hash_longest a r s stop h =
    let old : 1 + run_len Line [] First (a ++ r) ≡ suc (length a) =
    found_length Comment Comment (1 + run_len Line [] First (a ++ r)) (suc (length a))
    (sym (hash_scan (a ++ r)) ∙ scan_of V74 code (35 ∷ a ++ r) Comment (suc (length a)) h) in
    let new : run_len Line [] First (a ++ s) ≡ length a = line_stays a r s First stop (omega arith) in
    let plain : run_len Line [] Plain (a ++ s) ≡ length a = sym (first_plain (a ++ s)) ∙ new in
    let size : 1 + run_len Line [] First (32 ∷ a ++ s) ≡ suc (suc (length a)) = rw plain (omega arith) in
    longest_of V74 code (35 ∷ 32 ∷ a ++ s) Comment (suc (suc (length a))) (hash_scan (32 ∷ a ++ s) ∙ ap (found Comment) size)

hash_written : (a : List ℕ) (gap : Bool) (below over : List Mode) (depth deep : ℕ) (rest after : List Tile)
    → ContinuesAs false true rest after → Steps V74 (stack_of code below depth) (tile Comment 35 a ∷ rest)
    → Steps V74 (stack_of code over deep) after → Steps V74 (stack_of code over deep)
    (tile Comment 35 (32 ∷ a) ∷ after)
hash_written a gap below over depth deep rest after h s w =
    let l = longest_in (stack_of code below depth) Comment 35 a rest s in
    let behind = steps_behind (stack_of code below depth) (stack_of code below depth) Comment 35 a rest refl s in
    let so = code_continues below over depth deep rest after behind w in
    let stop = so.line false h (line_behind 35 a (joined rest) refl l) in
    stepped (stack_of code over deep) (stack_of code over deep) Comment 35 (32 ∷ a) after (hash_longest a (joined rest) (joined after) stop l) refl w

pub hash_comments_become : HashCommentsBecome
hash_comments_become a = record {
  goes = λ tight gap rest after h. hash a (32 ∷ a);
  source = λ below depth rest s. steps_behind (stack_of code below depth) (stack_of code below depth) Comment 35 a rest refl s;
  written = hash_written a;
}
