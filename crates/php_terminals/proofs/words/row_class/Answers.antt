use Rattle.std.proofs.Common.{◌≡◌, true, false, get_or}
use Rattle.php_terminals.specs.Words.{is_word}
use Rattle.php_terminals.proofs.SlotLemmas.{no_row, row_is_class}
use Rattle.php_terminals.proofs.words.row_class.Goals as goal

pub returns-then-is_word : goal.returns-then-is_word
returns-then-is_word c =
    let value = c.as_bytes.ensures.value in
    let word = c.is_word.ensures in
    let test = c.if-is_word.true in
    let h : is_word (get_or c.args.rows.now c.args.place no_row).0.now c.args.text.now ≡ true = cc in
    row_is_class c.args.other c.args.rows.now c.args.place c.args.text.now c.requires true h

pub returns-else-is_word : goal.returns-else-is_word
returns-else-is_word c =
    let value = c.as_bytes.ensures.value in
    let word = c.is_word.ensures in
    let test = c.if-is_word.false in
    let h : is_word (get_or c.args.rows.now c.args.place no_row).0.now c.args.text.now ≡ false = cc in
    row_is_class c.args.other c.args.rows.now c.args.place c.args.text.now c.requires false h
