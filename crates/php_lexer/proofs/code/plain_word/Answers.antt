use Rattle.php_lexer.proofs.RunLemmas.{word_found}
use Rattle.php_lexer.proofs.code.plain_word.Goals as goal

pub returns : goal.returns
returns c = word_found c.args.first c.args.rest.now c.args.bytes.now c.labels.result c.labels.ensures.count c.requires.whole c.requires.head c.requires.not_b c.requires.not_y
