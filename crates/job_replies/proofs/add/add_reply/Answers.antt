use Rattle.std.proofs.Common.{◌≡◌, None, subst}
use Rattle.job_replies.proofs.AddLemmas.{adds_none}
use Rattle.job_replies.specs.Received.{Receives}
use Rattle.job_replies.proofs.add.add_reply.Goals as goal

pub returns-in_ok-bad_body-in-None-clause-told : goal.returns-in_ok-bad_body-in-None-clause-told
returns-in_ok-bad_body-in-None-clause-told g c =
    adds_none c.args.owner c.args.key c.args.body.items g.W.Work.gives c.in_ok-bad_body-in-None.field-0
    (g.K.Keeper.jobs c.args.keeper.now)
    (subst (λ b. Receives b None) c.as_slice.ensures.value
    (subst (Receives c.as_slice.result.now) c.in-None.is c.in_ok-received.ensures))
    c.in_ok-bad_body-in-None.ensures
