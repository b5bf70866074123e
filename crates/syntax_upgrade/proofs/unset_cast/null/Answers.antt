use Rattle.std.proofs.Common.{◌≡◌, OnOk, codes, subst, ap, ◌∙◌}
use Rattle.syntax_upgrade.specs.NamesWalked.{Head}
use Rattle.syntax_upgrade.specs.Steps.{recorded_next}
use Rattle.syntax_upgrade.specs.UnsetCast.{null_token}
use Rattle.syntax_upgrade.specs.Words.{seen}
use Rattle.syntax_upgrade.specs.Writing.{also_next, changed_next}
use Rattle.syntax_upgrade.specs.Written.{Written}
use Rattle.syntax_upgrade.proofs.Nulls.{null_shown}
use Rattle.syntax_upgrade.proofs.Stepping.{null_steps}
use Rattle.syntax_upgrade.proofs.unset_cast.null.Goals as goal

pub returns : goal.returns
returns c =
    let r = c.args.rules in
    let x = seen c.args.cast in
    let v = seen c.args.variable in
    let h : Head = record { more = 0; token = null_token r x v } in
    subst (λ (w : Written). OnOk c.also-2.result (c.also-2.new.self ≡ w))
    (ap (recorded_next (also_next (codes ")"))) (c.in_ok-also.ensures
    ∙ ap (recorded_next (also_next (codes "null"))) (c.in_ok-changed.ensures
    ∙ ap (recorded_next (changed_next (codes "("))) (c.in_ok-begin.ensures h (c.as_kind.ensures r (codes "(") ∙ null_shown r x v c.requires))))
    ∙ null_steps r x v c.args.writer.now)
    c.also-2.ensures
