use Rattle.std.proofs.Common.{◌≡◌, OnOk, subst, ap, ◌∙◌}
use Rattle.tracked_changes.specs.Tokens.{retexted}
use Rattle.syntax_rules.specs.Together.{token_by}
use Rattle.syntax_upgrade.specs.NamesWalked.{Head}
use Rattle.syntax_upgrade.specs.Steps.{recorded_next}
use Rattle.syntax_upgrade.specs.Words.{seen}
use Rattle.syntax_upgrade.specs.Writing.{changed_next}
use Rattle.syntax_upgrade.specs.Written.{Written}
use Rattle.syntax_upgrade.proofs.Stepping.{replaced_steps}
use Rattle.syntax_upgrade.proofs.steps.replaced.Goals as goal

pub returns : goal.returns
returns c =
    let text = c.args.text.now in
    let t = seen c.args.token in
    let r = c.args.rules in
    let h : Head = record { more = 0; token = retexted c.args.kind text (token_by r t) } in
    subst (λ (x : Written). OnOk c.changed.result (c.changed.new.self ≡ x))
    (ap (recorded_next (changed_next text)) (c.in_ok-begin.ensures h (c.as_kind.ensures r text)) ∙ replaced_steps r c.args.kind text t c.args.writer.now)
    c.changed.ensures
