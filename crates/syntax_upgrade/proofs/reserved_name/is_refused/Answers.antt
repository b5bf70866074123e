use Rattle.std.proofs.Common.{Bool, ◌&&◌, sym, ap, ◌∙◌}
use Rattle.php_terminals.specs.Classify.{terminal}
use Rattle.php_rows.specs.Reading.{forest_in}
use Rattle.syntax_upgrade.specs.ReservedName.{is_doubtful, is_last, next}
use Rattle.syntax_upgrade.specs.TokenStandings.{standing_of}
use Rattle.syntax_upgrade.specs.Words.{seen}
use Rattle.syntax_upgrade.proofs.QuietNodes.{and_false, not_doubtful}
use Rattle.syntax_upgrade.proofs.reserved_name.is_refused.Goals as goal

pub returns-then-not-is_doubtful : goal.returns-then-not-is_doubtful
returns-then-not-is_doubtful c =
    let x = terminal (seen c.args.token) in
    sym
    (ap (λ (b : Bool). is_last c.args.more && b)
    (not_doubtful c.args.kind (standing_of c.args.standing) x (next (forest_in c.args.behind))
    (ap is_doubtful (sym c.args.token.classed) ∙ sym c.is_doubtful.ensures ∙ c.if-not-is_doubtful.true))
    ∙ and_false (is_last c.args.more))
