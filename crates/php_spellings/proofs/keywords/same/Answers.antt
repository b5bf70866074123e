use Rattle.std.proofs.Common.{◌≡◌, length, nat_eq, false, sym, ◌∙◌, arith}
use Rattle.std.proofs.lemmas.Bool.Decides.{nat_tests}
use Rattle.php_spellings.proofs.KeywordLemmas.{word_full, word_other}
use Rattle.php_spellings.proofs.keywords.same.Goals as goal

pub returns-then-word-text : goal.returns-then-word-text
returns-then-word-text c = c.starts_word.ensures ∙ sym (word_full c.args.word.now c.args.text.now c.if-word-text.true)

pub returns-else-word-text : goal.returns-else-word-text
returns-else-word-text c =
    let none = word_other c.args.word.now c.args.text.now (λ e. omega arith) in
    let differ : nat_eq (length c.args.word.now) (length c.args.text.now) ≡ false = grind (arith, nat_tests) in
    differ ∙ sym none
