use Rattle.std.proofs.Common.{rules, ◌≡◌, ◌<◌, ◌≤◌, ◌+◌, All, length, arith, slice_index_or, refl, ap, sym, ◌∙◌, ℕ, suc, ◌^◌, map}
use Rattle.std.proofs.lemmas.List.{length-map}
use Rattle.php_tree.specs.declared.token.TokenKind.TheVariants.{InlineHtml}
use Rattle.php_tree.specs.Tree.{leaf}
use Rattle.php_terminals.specs.declared.mark.Mark.{Mark}
use Rattle.php_terminals.specs.declared.terminal.Terminal.TheVariants as t
use Rattle.php_terminals.specs.Marked.{token_at}
use Rattle.php_terminals.specs.Tokens.{tokens_in}
use Rattle.php_rows.specs.Flatten.{read}
use Rattle.php_rows.specs.Reading.{IsBefore, IsLeaf, forest_in}
use Rattle.php_rows.proofs.Fitting.{before_end, fits_behind}
use Rattle.php_rows.proofs.RowReads.{leaf_first}
use Rattle.php_rows.proofs.TokensRead.{index_mark, token_read}
use Rattle.php_rows.proofs.parts.Parts.leaf.Goals as goal

abbrev no_mark : Mark
no_mark = record { kind = InlineHtml; class = t.InlineHtml; lead = 0; start = 0; end = 0 }

pub bounds-self-at : goal.bounds-self-at
bounds-self-at c =
    let p = c.args.self.now in
    let lt = before_end (length p.nodes.now) p.at p.end p.nodes.now p.nested c.requires in
    let w = p.within in
    omega arith

pub overflow_add-self : goal.overflow_add-self
overflow_add-self c =
    let p = c.args.self.now in
    let lt = before_end (length p.nodes.now) p.at p.end p.nodes.now p.nested c.requires in
    let s = p.small in
    omega arith

pub returns : goal.returns
returns c =
    let p = c.args.self.now in
    let ms = p.tokens.marks.now in
    let bytes = p.tokens.bytes.now in
    let before = before_end (length p.nodes.now) p.at p.end p.nodes.now p.nested c.requires in
    let w = p.within in
    let lt : p.at < length ms = omega arith in
    let m = slice_index_or ms p.at no_mark in
    let lt2 : p.at < length (tokens_in p.tokens) = let l = length-map ms (token_at bytes) in omega arith in
    let one : suc p.at ≡ p.at + 1 = omega arith in
    let read_on = leaf_first p.at p.end p.nodes.now (tokens_in p.tokens) (token_at bytes m) lt2 c.requires (token_read bytes ms p.at m no_mark lt refl) in
    record {
      mark = index_mark bytes ms p.at no_mark lt p.tokens.marked;
      parts = read_on ∙ ap (λ (n : ℕ). leaf (token_at bytes m) (read (length p.nodes.now) n p.end p.nodes.now (tokens_in p.tokens))) one;
      number = refl;
      tokens = refl;
    }
