use Rattle.std.proofs.Common.{Some, sym, ap, ◌∙◌}
use Rattle.php_terminals.specs.Tokens.{tokens_in}
use Rattle.syntax_upgrade.specs.Heads.{own_of, shown_if_any}
use Rattle.syntax_upgrade.specs.Words.{seen}
use Rattle.syntax_upgrade.proofs.Fronts.{first_alone}
use Rattle.syntax_upgrade.proofs.split_name.first.Goals as goal

pub returns-then-at-tokens : goal.returns-then-at-tokens
returns-then-at-tokens c = λ r f h.
    ap Some (c.alone.ensures r)
    ∙ sym (ap shown_if_any (first_alone (own_of r c.args.braces) (tokens_in c.args.tokens) c.args.at (seen c.word_of.result) f c.word_of.ensures))
