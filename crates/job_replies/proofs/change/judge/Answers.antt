use Rattle.std.proofs.Common.{◌≡◌, List, IfSome, true, false, subst, sym, ◌∙◌}
use Rattle.std.specs.Option.{option_map}
use Rattle.job_core.specs.Jobs.{job_of}
use Rattle.job_replies.proofs.ReplyLemmas.{judge_shut}
use Rattle.job_replies.proofs.change.judge.Goals as goal

pub returns-in_ok-conflict-clause-told : goal.returns-in_ok-conflict-clause-told
returns-in_ok-conflict-clause-told g c =
    judge_shut c.args.owner.now c.args.job c.args.n c.args.judgement.now c.in_ok-conflict.field-0
    (g.K.Keeper.jobs c.args.keeper.now) (g.K.Keeper.jobs c.head.new.self) c.in-Some.head true
    (subst (λ o. IfSome (g.K.Keeper.jobs c.args.keeper.now) (λ js. o ≡ option_map (λ j. j.head) (job_of c.args.owner.now c.args.job js)))
    c.in-Some.is c.in_ok-head.ensures.told)
    c.in_ok-head.ensures.kept c.head.ensures.same c.if-head.true (sym c.has_report.ensures ∙ c.if-has_report.true)
    c.in_ok-conflict.ensures

pub returns-else-has_report-clause-told : goal.returns-else-has_report-clause-told
returns-else-has_report-clause-told g c =
    judge_shut c.args.owner.now c.args.job c.args.n c.args.judgement.now c.in_ok-missing.missing
    (g.K.Keeper.jobs c.args.keeper.now) (g.K.Keeper.jobs c.head.new.self) c.in-Some.head false
    (subst (λ o. IfSome (g.K.Keeper.jobs c.args.keeper.now) (λ js. o ≡ option_map (λ j. j.head) (job_of c.args.owner.now c.args.job js)))
    c.in-Some.is c.in_ok-head.ensures.told)
    c.in_ok-head.ensures.kept c.head.ensures.same c.if-head.true (sym c.has_report.ensures ∙ c.if-has_report.false)
    c.in_ok-missing.ensures
