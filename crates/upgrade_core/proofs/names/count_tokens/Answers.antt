use Rattle.std.proofs.Common.{ap, sym, ◌∙◌, length}
use Rattle.std.proofs.lemmas.List.{length-map}
use Rattle.php_terminals.specs.Marked.{token_at}
use Rattle.upgrade_core.proofs.NameLemmas.{tokens_counted}
use Rattle.upgrade_core.proofs.names.count_tokens.Goals as goal

pub returns : goal.returns
returns c =
    sym (length-map c.tokens.result.marks.now (token_at c.tokens.result.bytes.now)) ∙ ap length c.tokens.ensures.tokens
    ∙ length-map c.args.tree.now.marks.items (token_at c.args.tree.now.bytes.items) ∙ tokens_counted c.args.tree.now
