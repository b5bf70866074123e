use Rattle.std.proofs.Common.{◌≡◌, ◌+◌, List, ◌∷◌, drop, sym, ap, ◌∙◌}
use Rattle.std.proofs.lemmas.List.{drop_more, drop_all}
use Rattle.php_tree.specs.declared.token.Token.{Token}
use Rattle.php_terminals.proofs.MarksMade.{joined_more, joined_ends, next_is}
use Rattle.php_terminals.proofs.marking.joined.Goals as goal

pub loop-token-preserved : goal.loop-token-preserved
loop-token-preserved c =
    joined_more c.loop-token.bytes.items c.add_bytes.new.bytes.items c.args.tokens.now
    (drop c.loop-token.token-index c.args.tokens.now) c.token-item.result
    (drop (c.loop-token.token-index + 1) c.args.tokens.now)
    (next_is c.args.tokens.now c.loop-token.token-index c.token-item.result c.loop-token-test.true
    c.token-item.is) c.in_ok-add_bytes.ensures c.loop-token.invariant

pub returns : goal.returns
returns c = joined_ends c.loop-token.bytes.items c.args.tokens.now (drop c.loop-token.token-index c.args.tokens.now)
    (drop_all c.loop-token.token-index c.args.tokens.now c.loop-token-test.false) c.loop-token.invariant
