use Rattle.std.proofs.Common.{◌≡◌, Ok, subst, ◌∙◌}
use Rattle.job_core.specs.Work.{made_work}
use Rattle.job_replies.proofs.AddLemmas.{works_made}
use Rattle.job_replies.proofs.add.work_on.Goals as goal

pub returns-in-Ok-clause-told : goal.returns-in-Ok-clause-told
returns-in-Ok-clause-told g c =
    works_made c.args.owner c.args.key c.args.body.items
    (g.W.Work.gives c.args.received.now.files.items c.args.received.now.settings) (g.K.Keeper.jobs c.args.keeper.now)
    (g.K.Keeper.jobs c.store.new.keeper) c.in-Ok.made c.store.result
    (subst (λ t. g.W.Work.gives c.args.received.now.files.items t (Ok (made_work c.in-Ok.made)))
    (c.as_bytes-settings.ensures.value ∙ c.as_str.ensures)
    (subst (λ fs. g.W.Work.gives fs c.as_bytes-settings.result.now (Ok (made_work c.in-Ok.made))) c.as_slice.ensures.value c.in-Ok.ensures))
    c.store.ensures.told
