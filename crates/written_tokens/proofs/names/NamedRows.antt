-- A row whose names are edited stays a row of 7.4.
use Rattle.std.proofs.Common.{◌≡◌, ℕ, suc, Bool, true, false, not, ◌||◌, nat_eq, List, [], ◌∷◌, ◌++◌, length, refl, sym, ap, ◌∙◌, subst}
use Rattle.std.proofs.lemmas.Bool.{and_parts, eqb-true, not-true}
use Rattle.php_tree.specs.declared.version.Version.TheVariants.{V74}
use Rattle.php_spellings.specs.declared.table.Kind.{Kind}
use Rattle.php_spellings.specs.declared.table.Kind.TheVariants.{Space, Comment, Word, Text, Quote, Backtick, HeredocStart, Op, Piece}
use Rattle.php_spellings.specs.declared.table.Mark.{Mark}
use Rattle.php_spellings.specs.declared.table.Mark.TheVariants.{Double, Back, Here}
use Rattle.php_lexer.specs.Modes.{Mode, html, code, named, quoted, offset, property, ModeStep, mode_step_of, code_mode_step, label_of, ends_line, IsLongest}
use Rattle.php_lexer.specs.Lexed.{Stack, start, stepped_by}
use Rattle.php_relexing.specs.Tiles.{Tile, tile, joined}
use Rattle.php_relexing.specs.Spelled.{Steps}
use Rattle.php_relexing.specs.Labels.{all_label}
use Rattle.php_relexing.proofs.Picked.{longest_meets}
use Rattle.php_relexing.proofs.Scanned.{longest_of}
use Rattle.written_tokens.specs.tokens.Levels.{stack_of}
use Rattle.php_relexing.specs.Alike.{Alike}
use Rattle.written_tokens.specs.tokens.Stays.{operator_stays}
use Rattle.written_tokens.proofs.tokens.Stays.{code_stays}
use Rattle.written_tokens.specs.tiles.ContinuesAs.{is_trivia}
use Rattle.written_tokens.specs.tiles.CodeTokens.{is_plain, mode_opened}
use Rattle.written_tokens.proofs.tiles.CodeKept.{kept}
use Rattle.written_tokens.proofs.tiles.HtmlBehind.{never}
use Rattle.written_tokens.proofs.tiles.Stepping.{stepped, longest_in, steps_behind, html_mode_step}
use Rattle.written_tokens.proofs.texts.HeredocLines.{heredoc_lines_stay}
use Rattle.written_tokens.proofs.texts.Nowdocs.{nowdoc_text, text_stops, nowdocs_stay}
use Rattle.written_tokens.proofs.texts.OpeningTokens.{quote_text, quote_by}
use Rattle.written_tokens.specs.names.Named.{is_blank, all_blank, Named, none, same, spaced, closed, rooted, is_dollar_brace, none_dollar, NamedSteps}
use Rattle.written_tokens.proofs.names.Shared.{label_same}
use Rattle.written_tokens.proofs.names.QuotedRows.{is_piece, quoted_stays, offset_stays, property_stays, mode_step_same}
use Rattle.written_tokens.proofs.names.NamedFacts.{share_of, alike_of, goes_on, edit_first, front_of}
use Rattle.written_tokens.proofs.names.NamedOpenings.{html_new, is_edited, unedited, feed_same, unclosed_by}
use Rattle.written_tokens.proofs.names.NamedModes.{mode_ok, modes_ok, stack_ok, behind_ok}

-- ---- code

abbrev Old : Kind → ℕ → List ℕ → List Tile → Type 0
Old kind b a ts = IsLongest V74 code (b ∷ a ++ joined ts) kind (suc (length a))

abbrev back_in : (m : Mode) (kind : Kind) (b : ℕ) (a : List ℕ) (ts : List Tile) (below : List Mode) (depth : ℕ) → Stack
back_in m kind b a ts below depth = stepped_by (mode_step_of V74 m kind (b ∷ a) (joined ts)) (stack_of m below depth)

-- braces
brace_stays : (c : ℕ) (b : ℕ) (a r s : List ℕ) → nat_eq b c ≡ true → Alike r s → operator_stays c a s ≡ true
    → IsLongest V74 code (b ∷ a ++ r) Op (suc (length a)) → IsLongest V74 code (b ∷ a ++ s) Op (suc (length a))
brace_stays c b a r s e alike stays l =
    subst (λ (x : ℕ). IsLongest V74 code (x ∷ a ++ r) Op (suc (length a))
    → IsLongest V74 code (x ∷ a ++ s) Op (suc (length a))) (sym (eqb-true b c e))
    (code_stays Op c a r s alike stays) l

brace_by : (b : ℕ) (a r s : List ℕ) → Alike r s → not (nat_eq b 123 || nat_eq b 125) ≡ false
    → IsLongest V74 code (b ∷ a ++ r) Op (suc (length a)) → (x y : Bool) → nat_eq b 123 ≡ x → nat_eq b 125 ≡ y
    → IsLongest V74 code (b ∷ a ++ s) Op (suc (length a))
brace_by b a r s alike p l true y e f = brace_stays 123 b a r s e alike refl l
brace_by b a r s alike p l false true e f = brace_stays 125 b a r s f alike refl l
brace_by b a r s alike p l false false e f = absurd (let clash = rw (e, f) at p in cc)

code_other : (kind : Kind) (b : ℕ) (a : List ℕ) (ts us : List Tile) (below : List Mode) (depth : ℕ)
    → is_plain kind b a ≡ false → Named (is_trivia kind) ts us → Old kind b a ts
    → Steps V74 (stepped_by (code_mode_step kind (b ∷ a)) (stack_of code below depth)) ts
    → Steps V74 (stepped_by (code_mode_step kind (b ∷ a)) (stack_of code below depth)) us → Old kind b a us
code_other Quote b a ts us below depth p g l s w =
    quote_by b a (joined ts) (joined us) (quote_text b a (joined ts) l)
    (unclosed_by (code ∷ below) (suc depth) g (unedited Double [] false (code ∷ below) (suc depth) ts s) s w) l
code_other Backtick b a ts us below depth p g l s w = code_stays Backtick b a (joined ts) (joined us) (alike_of g) refl l
code_other HeredocStart b a ts us below depth p g l s w =
    heredoc_lines_stay b a (joined ts) (joined us) (feed_same (front_of g (unedited Here (label_of (b ∷ a)) true (code ∷ below) (suc depth) ts s))) l
code_other Text b a ts us below depth p g l s w =
    nowdocs_stay b a (joined ts) (joined us) p
    (ap not (sym (label_same (share_of g))) ∙ text_stops (nowdoc_text b a (joined ts) p l)) l
code_other Op b a ts us below depth p g l s w = brace_by b a (joined ts) (joined us) (alike_of g) p l (nat_eq b 123) (nat_eq b 125) refl refl
code_other _ b a ts us below depth p g l s w = absurd cc

code_by : (kind : Kind) (b : ℕ) (a : List ℕ) (ts us : List Tile) (below : List Mode) (depth : ℕ) (t : Bool)
    → is_plain kind b a ≡ t → Named (is_trivia kind) ts us → Old kind b a ts
    → Steps V74 (stepped_by (code_mode_step kind (b ∷ a)) (stack_of code below depth)) ts
    → Steps V74 (stepped_by (code_mode_step kind (b ∷ a)) (stack_of code below depth)) us → Old kind b a us
code_by kind b a ts us below depth true p g l s w = kept true (is_trivia kind) (joined ts) (joined us) (goes_on g) kind b a p (λ e. refl) (λ e. e) l
code_by kind b a ts us below depth false p g l s w = code_other kind b a ts us below depth p g l s w

-- a piece leaves the text open
piece_unedited : (mark : Mark) (label : List ℕ) (fresh : Bool) (kind : Kind) (b : ℕ) (a : List ℕ) (ts : List Tile)
    (below : List Mode) (depth : ℕ) → is_piece kind ≡ true → Steps V74
    (back_in (quoted mark label fresh) kind b a ts below depth) ts → edit_first ts ≡ false
piece_unedited mark label fresh Piece b a ts below depth e s = unedited mark label (ends_line (b ∷ a)) below depth ts s
piece_unedited mark label fresh _ b a ts below depth e s = absurd cc

-- ---- each tile

abbrev Stays : List Tile → List Tile → Type 0
Stays ts us = (k : Stack) → stack_ok k ≡ true → Steps V74 k ts → Steps V74 k us

same_in : (m : Mode) (below : List Mode) (depth : ℕ) (kind : Kind) (b : ℕ) (a : List ℕ) (ts us : List Tile)
    → stack_ok (stack_of m below depth) ≡ true → is_dollar_brace kind ≡ false → Named (is_trivia kind) ts us
    → Stays ts us → IsLongest V74 m (b ∷ a ++ joined us) kind (suc (length a))
    → Steps V74 (stack_of m below depth) (tile kind b a ∷ ts)
    → Steps V74 (stack_of m below depth) (tile kind b a ∷ us)
same_in m below depth kind b a ts us ok d g ih l s =
    let n : Stack = back_in m kind b a ts below depth in
    let more = ih n (behind_ok m below depth kind (b ∷ a) (joined ts) ok d) (steps_behind (stack_of m below depth) n kind b a ts refl s) in
    stepped (stack_of m below depth) n kind b a us l
    (ap (λ (t : ModeStep). stepped_by t (stack_of m below depth))
    (sym (mode_step_same m kind (b ∷ a) (joined ts) (joined us) (share_of g)))) more

same_step : (m : Mode) (below : List Mode) (depth : ℕ) (kind : Kind) (b : ℕ) (a : List ℕ) (ts us : List Tile)
    → stack_ok (stack_of m below depth) ≡ true → is_dollar_brace kind ≡ false → Named (is_trivia kind) ts us
    → Stays ts us → Steps V74 (stack_of m below depth) (tile kind b a ∷ ts)
    → Steps V74 (stack_of m below depth) (tile kind b a ∷ us)
same_step html below depth kind b a ts us ok d g ih s =
    let n : Stack = stack_of (mode_opened kind) below depth in
    let tail = steps_behind (stack_of html below depth) n kind b a ts (html_mode_step kind b a (joined ts) below depth) s in
    let fine : stack_ok n ≡ true = subst (λ (k : Stack). stack_ok k ≡ true)
    (html_mode_step kind b a (joined ts) below depth) (behind_ok html below depth kind (b ∷ a) (joined ts) ok d) in
    same_in html below depth kind b a ts us ok d g ih (html_new kind b a ts us below depth g (longest_in (stack_of html below depth) kind b a ts s) tail (ih n fine tail)) s
same_step code below depth kind b a ts us ok d g ih s =
    let n : Stack = back_in code kind b a ts below depth in
    let tail = steps_behind (stack_of code below depth) n kind b a ts refl s in
    let fine = behind_ok code below depth kind (b ∷ a) (joined ts) ok d in
    same_in code below depth kind b a ts us ok d g ih
    (code_by kind b a ts us below depth (is_plain kind b a) refl g
    (longest_in (stack_of code below depth) kind b a ts s) tail (ih n fine tail)) s
same_step named below depth kind b a ts us ok d g ih s = absurd cc
same_step (quoted mark label fresh) below depth kind b a ts us ok d g ih s =
    let old = longest_in (stack_of (quoted mark label fresh) below depth) kind b a ts s in
    let label_ok = (and_parts (all_label label) (modes_ok below) ok).0 in
    let tail = steps_behind (stack_of (quoted mark label fresh) below depth) (back_in (quoted mark label fresh) kind b a ts below depth) kind b a ts refl s in
    same_in (quoted mark label fresh) below depth kind b a ts us ok d g ih
    (quoted_stays mark label fresh label_ok kind b a (joined ts) (joined us) (share_of g) (λ e. front_of g (piece_unedited mark label fresh kind b a ts below depth e tail)) old) s
same_step offset below depth kind b a ts us ok d g ih s =
    same_in offset below depth kind b a ts us ok d g ih
    (offset_stays kind b a (joined ts) (joined us) (share_of g) (longest_in (stack_of offset below depth) kind b a ts s)) s
same_step property below depth kind b a ts us ok d g ih s =
    same_in property below depth kind b a ts us ok d g ih
    (property_stays kind b a (joined ts) (joined us) (share_of g) (longest_in (stack_of property below depth) kind b a ts s)) s

-- ---- the edits

pub no_op : (m : Mode) (r : List ℕ) → mode_ok m ≡ true → IsLongest V74 m (92 ∷ r) Op 1 → m ≡ code
no_op html r ok l = never Op 92 [] r refl l
no_op code r ok l = refl
no_op named r ok l = absurd cc
no_op (quoted Double label fresh) r ok l = absurd (let clash = longest_meets is_edited V74 (quoted Double label fresh) (92 ∷ []) r Op refl l in cc)
no_op (quoted Back label fresh) r ok l = absurd (let clash = longest_meets is_edited V74 (quoted Back label fresh) (92 ∷ []) r Op refl l in cc)
no_op (quoted Here label true) r ok l = absurd (let clash = longest_meets is_edited V74 (quoted Here label true) (92 ∷ []) r Op refl l in cc)
no_op (quoted Here label false) r ok l = absurd (let clash = longest_meets is_edited V74 (quoted Here label false) (92 ∷ []) r Op refl l in cc)
no_op offset r ok l = absurd (let clash = longest_meets is_edited V74 offset (92 ∷ []) r Op refl l in cc)
no_op property r ok l = absurd (let clash = longest_meets is_edited V74 property (92 ∷ []) r Op refl l in cc)

abbrev pub is_blank_kind : Kind → Bool
is_blank_kind Space = true
is_blank_kind Comment = true
is_blank_kind _ = false

pub no_blank : (m : Mode) (kind : Kind) (b : ℕ) (a r : List ℕ) → mode_ok m ≡ true → is_blank_kind kind ≡ true → IsLongest V74 m (b ∷ a ++ r) kind (suc (length a)) → m ≡ code
no_blank html kind b a r ok e l = absurd (let clash = longest_meets is_blank_kind V74 html (b ∷ a) r kind e l in cc)
no_blank code kind b a r ok e l = refl
no_blank named kind b a r ok e l = absurd cc
no_blank (quoted Double label fresh) kind b a r ok e l = absurd (let clash = longest_meets is_blank_kind V74 (quoted Double label fresh) (b ∷ a) r kind e l in cc)
no_blank (quoted Back label fresh) kind b a r ok e l = absurd (let clash = longest_meets is_blank_kind V74 (quoted Back label fresh) (b ∷ a) r kind e l in cc)
no_blank (quoted Here label true) kind b a r ok e l = absurd (let clash = longest_meets is_blank_kind V74 (quoted Here label true) (b ∷ a) r kind e l in cc)
no_blank (quoted Here label false) kind b a r ok e l = absurd (let clash = longest_meets is_blank_kind V74 (quoted Here label false) (b ∷ a) r kind e l in cc)
no_blank offset kind b a r ok e l = absurd (let clash = longest_meets is_blank_kind V74 offset (b ∷ a) r kind e l in cc)
no_blank property kind b a r ok e l = absurd (let clash = longest_meets is_blank_kind V74 property (b ∷ a) r kind e l in cc)

pub blank_mode_step : (kind : Kind) (b : ℕ) (a : List ℕ) (below : List Mode) (depth : ℕ) → is_blank_kind kind ≡ true
    → stepped_by (code_mode_step kind (b ∷ a)) (stack_of code below depth) ≡ stack_of code below depth
blank_mode_step Space b a below depth e = refl
blank_mode_step Comment b a below depth e = refl
blank_mode_step _ b a below depth e = absurd cc

blank_is : (kind : Kind) (b : ℕ) (a : List ℕ) → is_blank kind b a ≡ true → is_blank_kind kind ≡ true
blank_is Space b a h = refl
blank_is Comment b a h = refl
blank_is _ b a h = absurd cc

-- trivia leave code as it is
pub strip : (trivia ts : List Tile) (m : Mode) (below : List Mode) (depth : ℕ) → all_blank trivia ≡ true
    → mode_ok m ≡ true → Steps V74 (stack_of m below depth) (trivia ++ ts) → Steps V74 (stack_of m below depth) ts
strip [] ts m below depth f ok s = s
strip (tile kind b a ∷ trivia) ts m below depth f ok s =
    let (one, more) = and_parts (is_blank kind b a) (all_blank trivia) f in
    let blank = blank_is kind b a one in
    let is : m ≡ code = no_blank m kind b a (joined (trivia ++ ts)) ok blank (longest_in (stack_of m below depth) kind b a (trivia ++ ts) s) in
    let in_code : Steps V74 (stack_of code below depth) (tile kind b a ∷ (trivia ++ ts)) =
    subst (λ (n : Mode). Steps V74 (stack_of n below depth) (tile kind b a ∷ (trivia ++ ts))) is s in
    let behind = steps_behind (stack_of code below depth) (stack_of code below depth) kind b a (trivia ++ ts) (blank_mode_step kind b a below depth blank) in_code in
    subst (λ (n : Mode). Steps V74 (stack_of n below depth) ts) (sym is) (strip trivia ts code below depth more refl behind)

root_longest : (s : List ℕ) → IsLongest V74 code (92 ∷ s) Op 1
root_longest s = longest_of V74 code (92 ∷ s) Op 1 refl

space_longest : (s : List ℕ) → IsLongest V74 code (32 ∷ 92 ∷ s) Space 1
space_longest s = longest_of V74 code (32 ∷ 92 ∷ s) Space 1 refl

space_put : (m : Mode) (below : List Mode) (depth : ℕ) (us : List Tile) → mode_ok m ≡ true
    → Steps V74 (stack_of m below depth) (tile Op 92 [] ∷ us)
    → Steps V74 (stack_of m below depth) (tile Space 32 [] ∷ tile Op 92 [] ∷ us)
space_put m below depth us ok s =
    let is : m ≡ code = no_op m (joined us) ok (longest_in (stack_of m below depth) Op 92 [] us s) in
    let in_code : Steps V74 (stack_of code below depth) (tile Op 92 [] ∷ us) = subst (λ (n : Mode). Steps V74 (stack_of n below depth) (tile Op 92 [] ∷ us)) is s in
    subst (λ (n : Mode). Steps V74 (stack_of n below depth) (tile Space 32 [] ∷ tile Op 92 [] ∷ us)) (sym is)
    (stepped (stack_of code below depth) (stack_of code below depth) Space 32 [] (tile Op 92 [] ∷ us) (space_longest (joined us)) refl in_code)

root_put : (m : Mode) (below : List Mode) (depth : ℕ) (trivia : List Tile) (b : ℕ) (a : List ℕ) (ts us : List Tile)
    → all_blank trivia ≡ true → stack_ok (stack_of m below depth) ≡ true
    → Stays (tile Word b a ∷ ts) (tile Word b a ∷ us) → Steps V74 (stack_of m below depth)
    (tile Op 92 [] ∷ trivia ++ tile Word b a ∷ ts) → Steps V74 (stack_of m below depth)
    (tile Op 92 [] ∷ tile Word b a ∷ us)
root_put m below depth trivia b a ts us f ok ih s =
    let (top, others) = and_parts (mode_ok m) (modes_ok below) ok in
    let is : m ≡ code = no_op m (joined (trivia ++ tile Word b a ∷ ts)) top (longest_in (stack_of m below depth) Op 92 [] (trivia ++ tile Word b a ∷ ts) s) in
    let in_code : Steps V74 (stack_of code below depth) (tile Op 92 [] ∷ trivia ++ tile Word b a ∷ ts) =
    subst (λ (n : Mode). Steps V74 (stack_of n below depth) (tile Op 92 [] ∷ trivia ++ tile Word b a ∷ ts)) is s
    in
    let tail = steps_behind (stack_of code below depth) (stack_of code below depth) Op 92 [] (trivia ++ tile Word b a ∷ ts) refl in_code in
    let words = strip trivia (tile Word b a ∷ ts) code below depth f refl tail in
    let more = ih (stack_of code below depth) others words in
    subst (λ (n : Mode). Steps V74 (stack_of n below depth) (tile Op 92 [] ∷ tile Word b a ∷ us)) (sym is)
    (stepped (stack_of code below depth) (stack_of code below depth) Op 92 [] (tile Word b a ∷ us) (root_longest (joined (tile Word b a ∷ us))) refl more)

-- ---- the whole row

dollar_tail : (trivia ts : List Tile) → none_dollar (trivia ++ ts) ≡ true → none_dollar ts ≡ true
dollar_tail [] ts h = h
dollar_tail (tile kind b a ∷ trivia) ts h = dollar_tail trivia ts (and_parts (not (is_dollar_brace kind)) (none_dollar (trivia ++ ts)) h).1

named_stays : {gap : Bool} {ts us : List Tile} → Named gap ts us → none_dollar ts ≡ true → Stays ts us
named_stays none d k ok s = s
named_stays (same {ts = ts} {us = us} kind b a h) d k ok s =
    let (one, more) = and_parts (not (is_dollar_brace kind)) (none_dollar ts) d in
    same_step k.top k.below k.depth kind b a ts us ok (not-true (is_dollar_brace kind) one) h (named_stays h more) s
named_stays (spaced {ts = ts} {us = us} h) d k ok s =
    space_put k.top k.below k.depth us (and_parts (mode_ok k.top) (modes_ok k.below) ok).0 (named_stays h d k ok s)
named_stays (closed {ts = ts} {us = us} trivia f h) d k ok s =
    named_stays h (dollar_tail trivia (tile Op 92 [] ∷ ts) d) k ok
    (strip trivia (tile Op 92 [] ∷ ts) k.top k.below k.depth f (and_parts (mode_ok k.top) (modes_ok k.below) ok).0 s)
named_stays (rooted {ts = ts} {us = us} trivia b a f h) d k ok s =
    root_put k.top k.below k.depth trivia b a ts us f ok (named_stays h (dollar_tail trivia (tile Word b a ∷ ts) d)) s

pub named_steps : NamedSteps
named_steps gap ts us d h s = named_stays h d start refl s
