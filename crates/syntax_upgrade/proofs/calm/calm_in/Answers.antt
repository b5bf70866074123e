use Rattle.std.proofs.Common.{sym, ◌∙◌}
use Rattle.php_rows.specs.Reading.{bytes_of, forest_in}
use Rattle.php_terminals.specs.Tokens.{tokens_in}
use Rattle.syntax_upgrade.proofs.CalmTokens.{stays}
use Rattle.syntax_upgrade.proofs.calm.calm_in.Goals as goal

pub returns-in-Some : goal.returns-in-Some
returns-in-Some c =
    let p = c.args.parts in
    let ts = c.own_tokens-tokens.result in
    stays (bytes_of p) ts.bytes.now (tokens_in ts) c.args.kind (forest_in p) c.nodes-nodes.result.now c.in-Some.calm
    c.in-Some.ensures c.own_tokens-tokens.ensures.tokens c.own_tokens-tokens.ensures.bytes
    (sym c.is_calm_kind.ensures ∙ c.if-not-is_calm_kind.false)
    (sym c.are_calm_kinds.ensures ∙ c.if-not-are_calm_kinds.false)
    c.nodes-nodes.ensures
