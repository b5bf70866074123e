use Rattle.std.proofs.Common.{◌≡◌, OnOk, subst, ap, ◌∙◌}
use Rattle.syntax_upgrade.specs.Steps.{recorded_next}
use Rattle.syntax_upgrade.specs.Words.{seen}
use Rattle.syntax_upgrade.specs.Writing.{kept_next}
use Rattle.syntax_upgrade.specs.Written.{Written}
use Rattle.syntax_upgrade.proofs.Stepping.{end_steps}
use Rattle.syntax_upgrade.proofs.whole.end_token.Goals as goal

pub returns : goal.returns
returns c =
    let t = seen c.args.token in
    subst (λ (x : Written). OnOk c.kept.result (c.kept.new.self ≡ x))
    (ap (recorded_next (kept_next t.text)) c.in_ok-trivia.ensures ∙ end_steps c.args.rules t c.args.writer.now)
    c.kept.ensures
