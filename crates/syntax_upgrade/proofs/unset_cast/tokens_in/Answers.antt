use Rattle.std.proofs.Common.{sym, ◌∙◌}
use Rattle.php_rows.specs.Reading.{forest_in}
use Rattle.syntax_upgrade.specs.Words.{seen}
use Rattle.syntax_upgrade.proofs.PartLemmas.{tokens_there}
use Rattle.syntax_upgrade.proofs.unset_cast.tokens_in.Goals as goal

pub returns-in-Some : goal.returns-in-Some
returns-in-Some c =
    let s = c.in-Some-Some in
    tokens_there (forest_in c.args.parts) (forest_in c.others-operand.result) (forest_in c.others.result) (seen s.cast) (seen c.in-Some.variable)
    (s.kind, forest_in s.inner) s.ensures c.others-operand.ensures s.ensures' c.others.ensures
    (sym c.has_none.ensures ∙ c.if-not-has_none.false) c.in-Some.ensures
