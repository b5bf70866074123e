use Rattle.std.proofs.Common.{◌≡◌, ◌≤◌, ◌-◌, ◌<◌, ℕ, length, map, slice_range, slice_index_or, arith, refl, ap, sym, ◌∙◌, subst, [], List}
use Rattle.std.proofs.lemmas.List.{length-map}
use Rattle.php_tree.specs.declared.token.TokenKind.TheVariants.{InlineHtml}
use Rattle.php_tree.specs.declared.token.Token.{Token}
use Rattle.php_tree.specs.Ids.{place_of}
use Rattle.php_terminals.specs.declared.mark.Mark.{Mark}
use Rattle.php_terminals.specs.declared.terminal.Terminal.TheVariants as t
use Rattle.php_terminals.specs.Marked.{token_at}
use Rattle.php_terminals.specs.Tokens.{tokens_in}
use Rattle.php_rows.proofs.RowReads.{range_none}
use Rattle.php_rows.proofs.TokensRead.{index_mark, index_token, index_any}
use Rattle.php_rows.proofs.Whole.{place_is}
use Rattle.php_rows.proofs.file.place_between.Goals as goal

abbrev no_mark : Mark
no_mark = record { kind = InlineHtml; class = t.InlineHtml; lead = 0; start = 0; end = 0 }

pub invariant_of-result-2 : goal.invariant_of-result-2
invariant_of-result-2 c =
    let ms = c.args.tokens.marks.now in
    let bytes = c.args.tokens.bytes.now in
    let m = slice_index_or ms c.args.first no_mark in
    let n = slice_index_or ms c.args.end no_mark in
    let i = index_mark bytes ms c.args.end no_mark c.requires.within c.args.tokens.marked in
    record { ordered = (place_is bytes ms c.args.first c.args.end m n no_mark (omega arith) c.requires.within i c.requires.placed refl refl).0 }

pub returns-then-first-end : goal.returns-then-first-end
returns-then-first-end c = λ next d e.
    let ms = c.args.tokens.marks.now in
    let bytes = c.args.tokens.bytes.now in
    let ts = tokens_in c.args.tokens in
    let m = slice_index_or ms c.args.first no_mark in
    let l = length-map ms (token_at bytes) in
    let w = c.requires.within in
    let none : slice_range ts c.args.first c.args.end ≡ [] = range_none c.args.first c.args.end ts (omega arith) in
    let is : next ≡ token_at bytes (slice_index_or ms c.args.end no_mark) = e
    ∙ index_any ts c.args.end d (token_at bytes no_mark) (omega arith) ∙ index_token bytes ms c.args.end no_mark w
    in
    let start : next.start ≡ m.start = ap (λ (x : Token). x.start) is ∙ ap (λ (k : ℕ). (slice_index_or ms k no_mark).start) (sym c.if-first-end.true) in
    ap (λ (k : ℕ). (k, k)) (sym start) ∙ ap (λ (us : List Token). place_of us next) (sym none)

pub returns : goal.returns
returns c = λ next d e.
    let ms = c.args.tokens.marks.now in
    let bytes = c.args.tokens.bytes.now in
    let ts = tokens_in c.args.tokens in
    let m = slice_index_or ms c.args.first no_mark in
    let n = slice_index_or ms c.args.end no_mark in
    let l = length-map ms (token_at bytes) in
    let w = c.requires.within in
    let i = index_mark bytes ms c.args.end no_mark c.requires.within c.args.tokens.marked in
    let is : next ≡ token_at bytes n = e ∙ index_any ts c.args.end d (token_at bytes no_mark) (omega arith) ∙ index_token bytes ms c.args.end no_mark w in
    sym (place_is bytes ms c.args.first c.args.end m n no_mark (omega arith) c.requires.within i c.requires.placed
    refl refl).1 ∙ ap (place_of (slice_range ts c.args.first c.args.end)) (sym is)
