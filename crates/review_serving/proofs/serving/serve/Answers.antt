use Rattle.std.proofs.Common.{rules, ◌≡◌, ◌≤◌, ◌∙◌, refl, arith}
use Rattle.review_serving.specs.Turns.{HasServed, IsAnswered, IsTurn}
use Rattle.review_serving.specs.Turns as spec
use Rattle.review_serving.proofs.TurnLemmas.{served_none, served_more, served_so_far, served_since, byte_is, byte_small, cause_from, cause_none}
use Rattle.review_serving.proofs.serving.serve.Goals as goal

pub returns-in-Err-clause-turns : goal.returns-in-Err-clause-turns
returns-in-Err-clause-turns g c = (0, 0, omega arith, served_none _ _ _ c.args.service.now c.args.keeper.now c.in-Err.ensures.same)

pub loop-turn-init : goal.loop-turn-init
loop-turn-init g c = (served_none _ _ _ c.args.service.now c.args.keeper.now refl, refl, omega arith)

pub overflow_add-faults : goal.overflow_add-faults
overflow_add-faults g c =
    let small : c.from-faults.result ≤ 1 = rw c.from-faults.ensures (byte_small c.in-Ok.failed) in
    let few : c.loop-turn.faults ≤ c.loop-turn._turn = c.loop-turn.invariant.2 in
    let lt = c.loop-turn-test.true in
    let fits = c.ranges.connections.fits in
    omega arith

pub returns-in-Err-answer_next-clause-turns : goal.returns-in-Err-answer_next-clause-turns
returns-in-Err-answer_next-clause-turns g c =
    let few : c.loop-turn._turn ≤ c.args.connections =
    let lt = c.loop-turn-test.true in omega arith in
    served_so_far _ c.args.connections c.loop-turn._turn c.loop-turn.faults c.in-Err-answer_next.fault
    (g.L.Listener.given c.args.listener.now) (g.L.Listener.given c.loop-turn.listener) (g.L.Listener.given c.answer_next.new.listener)
    c.args.service.now c.loop-turn.service c.answer_next.new.service c.args.keeper.now c.loop-turn.keeper c.answer_next.new.keeper
    (served_since _ c.loop-turn._turn c.loop-turn.faults (g.L.Listener.given c.args.listener.now) (g.L.Listener.given c.open.new.self)
    (g.L.Listener.given c.loop-turn.listener) c.args.service.now c.loop-turn.service c.args.keeper.now c.loop-turn.keeper
    c.open.ensures.same c.loop-turn.invariant.0)
    c.in-Err-answer_next.ensures.turn few

pub returns-in-Err-answer_next-clause-cause : goal.returns-in-Err-answer_next-clause-cause
returns-in-Err-answer_next-clause-cause g c =
    let calm : g.L.Listener.faults c.open.new.self ≡ g.L.Listener.faults c.args.listener.now = c.in_default.ensures.cause.ok in
    cause_from (g.L.Listener.faults c.args.listener.now) (g.L.Listener.faults c.loop-turn.listener)
    (g.L.Listener.faults c.answer_next.new.listener) c.in-Err-answer_next.fault (c.loop-turn.invariant.1 ∙ calm)
    c.in-Err-answer_next.ensures.cause

pub loop-turn-preserved : goal.loop-turn-preserved
loop-turn-preserved g c =
    let byte : c.from-faults.result ≡ spec.one_if c.in-Ok.failed = c.from-faults.ensures ∙ byte_is c.in-Ok.failed in
    let small : c.from-faults.result ≤ 1 = rw c.from-faults.ensures (byte_small c.in-Ok.failed) in
    let few : c.loop-turn.faults ≤ c.loop-turn._turn = c.loop-turn.invariant.2 in
    let calm : g.L.Listener.faults c.answer_next.new.listener ≡ g.L.Listener.faults c.loop-turn.listener = c.in-Ok.ensures.cause.ok in (
      rw byte (served_more _ c.loop-turn._turn c.loop-turn.faults c.in-Ok.failed (g.L.Listener.given c.open.new.self)
          (g.L.Listener.given c.loop-turn.listener) (g.L.Listener.given c.answer_next.new.listener)
          c.args.service.now c.loop-turn.service c.answer_next.new.service c.args.keeper.now c.loop-turn.keeper c.answer_next.new.keeper
          c.loop-turn.invariant.0 c.in-Ok.ensures.turn),
      calm ∙ c.loop-turn.invariant.1,
      omega arith,
    )

pub returns-clause-turns : goal.returns-clause-turns
returns-clause-turns g c =
    let ended : c.loop-turn._turn ≡ c.args.connections = search (rules, arith) in
    rw (← ended) (served_since _ c.loop-turn._turn c.loop-turn.faults (g.L.Listener.given c.args.listener.now) (g.L.Listener.given c.open.new.self)
    (g.L.Listener.given c.loop-turn.listener) c.args.service.now c.loop-turn.service c.args.keeper.now c.loop-turn.keeper
    c.open.ensures.same c.loop-turn.invariant.0)

pub returns-clause-cause : goal.returns-clause-cause
returns-clause-cause g c =
    let calm : g.L.Listener.faults c.open.new.self ≡ g.L.Listener.faults c.args.listener.now = c.in_default.ensures.cause.ok in
    cause_none (g.L.Listener.faults c.args.listener.now) (g.L.Listener.faults c.loop-turn.listener) c.loop-turn.faults
    (c.loop-turn.invariant.1 ∙ calm)
