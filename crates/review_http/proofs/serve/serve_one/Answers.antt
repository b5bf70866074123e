use Rattle.std.proofs.Common.{◌≡◌, Err, ap, sym, subst}
use Rattle.job_core.specs.declared.fault.KeepFault.TheVariants as keep
use Rattle.job_replies.specs.Said.{Is}
use Rattle.review_http.proofs.ServeLemmas.{lacking, refused, served}
use Rattle.review_http.specs.Replies.{refusal_said}
use Rattle.review_http.specs.Serves.{Answered, fault_said}
use Rattle.review_request.specs.Reading.{Reading}
use Rattle.review_http.proofs.serve.serve_one.Goals as goal
use Rattle.review_http.proofs.serve.serve_one.Goals.{in-Ok+in_ok-said-in-Ok, in-Err-Refused+in_ok-said-in-Err-Refused, in-Err-Memory+in_ok-said-in-Err-Memory}

pub returns-clause-serves : goal.returns-clause-serves
returns-clause-serves g c =
    elim c.match-read_request.branch [
      | in-Ok+in_ok-said-in-Ok w ↦
          served g.W.Work.gives (g.C.Conn.link c.args.conn.now) (g.C.Conn.link c.deliver.new.conn)
          (g.K.Keeper.faults c.args.keeper.now) (g.K.Keeper.faults c.match-read_request.keeper)
          (g.K.Keeper.jobs c.args.keeper.now) (g.K.Keeper.jobs c.match-read_request.keeper) c.deliver.result
          (g.C.Conn.link c.read_request.new.conn) w.in-Ok.request c.match-read_request.said w.in-Ok.ensures.reading
          (subst (λ k. Answered g.W.Work.gives w.in-Ok.request (g.K.Keeper.faults c.args.keeper.now) (g.K.Keeper.faults k)
          (g.K.Keeper.jobs c.args.keeper.now) (g.K.Keeper.jobs k) c.match-read_request.said) (sym w.keeper-is)
          (subst (Answered g.W.Work.gives w.in-Ok.request (g.K.Keeper.faults c.args.keeper.now) (g.K.Keeper.faults w.answered.new.keeper)
          (g.K.Keeper.jobs c.args.keeper.now) (g.K.Keeper.jobs w.answered.new.keeper)) (sym w.said-is) w.in_ok-said-in-Ok.ensures.answer))
          c.deliver.ensures.sent
      | in-Err-Refused+in_ok-said-in-Err-Refused w ↦
          refused g.W.Work.gives (g.C.Conn.link c.args.conn.now) (g.C.Conn.link c.deliver.new.conn)
          (g.K.Keeper.faults c.args.keeper.now) (g.K.Keeper.faults c.match-read_request.keeper)
          (g.K.Keeper.jobs c.args.keeper.now) (g.K.Keeper.jobs c.match-read_request.keeper) c.deliver.result
          (g.C.Conn.link c.read_request.new.conn) w.in-Err-Refused.refusal c.match-read_request.said
          (subst (λ s. Reading (g.C.Conn.link c.args.conn.now) (g.C.Conn.link c.read_request.new.conn) (Err s))
          w.in-Err-Refused.field-0-is w.in-Err-Refused.ensures.reading)
          (ap g.K.Keeper.faults w.keeper-is) (ap g.K.Keeper.jobs w.keeper-is)
          (subst (Is (refusal_said w.in-Err-Refused.refusal)) (sym w.said-is) w.in_ok-said-in-Err-Refused.ensures)
          c.deliver.ensures.sent
      | in-Err-Memory+in_ok-said-in-Err-Memory w ↦
          lacking g.W.Work.gives (g.C.Conn.link c.args.conn.now) (g.C.Conn.link c.deliver.new.conn)
          (g.K.Keeper.faults c.args.keeper.now) (g.K.Keeper.faults c.match-read_request.keeper)
          (g.K.Keeper.jobs c.args.keeper.now) (g.K.Keeper.jobs c.match-read_request.keeper) c.deliver.result
          (g.C.Conn.link c.read_request.new.conn) c.match-read_request.said
          (subst (λ s. Reading (g.C.Conn.link c.args.conn.now) (g.C.Conn.link c.read_request.new.conn) (Err s))
          w.in-Err-Memory.field-0-is w.in-Err-Memory.ensures.reading)
          (ap g.K.Keeper.faults w.keeper-is) (ap g.K.Keeper.jobs w.keeper-is)
          (subst (Is (fault_said keep.Memory)) (sym w.said-is) w.in_ok-said-in-Err-Memory.ensures)
          c.deliver.ensures.sent
    ]
