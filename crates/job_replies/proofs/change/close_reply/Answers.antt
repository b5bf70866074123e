use Rattle.std.proofs.Common.{◌≡◌, List, IfSome, subst}
use Rattle.std.specs.Option.{option_map}
use Rattle.job_core.specs.Jobs.{job_of}
use Rattle.job_replies.proofs.ReplyLemmas.{close_missing}
use Rattle.job_replies.proofs.change.close_reply.Goals as goal

pub returns-in_default-clause-told : goal.returns-in_default-clause-told
returns-in_default-clause-told g c =
    close_missing c.args.owner.now c.args.job c.in_ok-missing.missing (g.K.Keeper.jobs c.args.keeper.now)
    (g.K.Keeper.jobs c.head.new.self)
    (subst (λ o. IfSome (g.K.Keeper.jobs c.args.keeper.now) (λ js. o ≡ option_map (λ j. j.head) (job_of c.args.owner.now c.args.job js)))
    c.in_default.is c.in_ok-head.ensures.told)
    c.head.ensures.same c.in_ok-missing.ensures
