use Rattle.std.proofs.Common.{◌≡◌, OnOk, subst, ap, ◌∙◌}
use Rattle.syntax_upgrade.specs.Heads.{own_of}
use Rattle.syntax_upgrade.specs.Steps.{recorded_next}
use Rattle.syntax_upgrade.specs.Words.{seen}
use Rattle.syntax_upgrade.specs.Writing.{pieces_next}
use Rattle.syntax_upgrade.specs.Written.{Written}
use Rattle.syntax_upgrade.proofs.Stepping.{inner_steps}
use Rattle.syntax_upgrade.proofs.steps.inner.Goals as goal

pub returns : goal.returns
returns c = λ r.
    let b = c.args.braces in
    let t = seen c.args.token in
    subst (λ (x : Written). OnOk c.own_text.result (c.own_text.new.writer ≡ x))
    (ap (recorded_next (pieces_next (own_of r b t).text)) c.in_ok-deleted.ensures ∙ inner_steps r b t c.args.writer.now)
    c.own_text.ensures
