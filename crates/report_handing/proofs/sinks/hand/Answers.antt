use Rattle.std.proofs.Common.{◌≡◌, ◌<◌, map, length, false, rules, refl, sym, ap, subst, ◌∙◌, arith}
use Rattle.report_handing.specs.Sinks.{took}
use Rattle.report_handing.proofs.SinkLemmas.{took_more, took_all, as_many, read_at, read_same, open_at, cause_there, took_length}
use Rattle.report_handing.proofs.sinks.hand.Goals as goal

pub give-requires : goal.give-requires
give-requires g c =
    let below : c.loop-at.at < length c.loop-at.sinks = search rules in
    let many = as_many g.S.Slot.closed c.loop-at.sinks (map g.S.Slot.closed c.args.sinks.now) c.loop-at.invariant.1 in
    read_at g.S.Slot.closed c.loop-at.sinks c.loop-at.at c.index-sinks-at.result false (map g.S.Slot.closed c.args.sinks.now)
    c.loop-at.invariant.1 below
    ∙ open_at c.loop-at.at (map g.S.Slot.closed c.args.sinks.now) false c.requires (subst (λ n. c.loop-at.at < n) many below)

pub returns-in-Err : goal.returns-in-Err
returns-in-Err g c =
    let below : c.loop-at.at < length c.loop-at.sinks = search rules in
    let many = as_many g.S.Slot.reports c.loop-at.sinks (took c.loop-at.at c.args.report.now (map g.S.Slot.reports c.args.sinks.now)) c.loop-at.invariant.0
    ∙ took_length c.loop-at.at c.args.report.now (map g.S.Slot.reports c.args.sinks.now) in
    let was =
    read_at g.S.Slot.closed c.loop-at.sinks c.loop-at.at c.index-sinks-at.result false (map g.S.Slot.closed c.args.sinks.now)
    c.loop-at.invariant.1 below
    ∙ open_at c.loop-at.at (map g.S.Slot.closed c.args.sinks.now) false c.requires
    (subst (λ n. c.loop-at.at < n) (as_many g.S.Slot.closed c.loop-at.sinks (map g.S.Slot.closed c.args.sinks.now) c.loop-at.invariant.1) below) in (
      subst (λ n. c.loop-at.at < n) many below,
      read_same g.S.Slot.reports c.loop-at.sinks c.loop-at.at c.give.new.self c.index-sinks-at.result c.in-Err.ensures.reports.err ∙ c.loop-at.invariant.0,
      read_same g.S.Slot.closed c.loop-at.sinks c.loop-at.at c.give.new.self c.index-sinks-at.result (c.in-Err.ensures.unfinished ∙ sym was) ∙ c.loop-at.invariant.1,
      cause_there g.S.Slot.failures c.loop-at.sinks c.loop-at.at c.give.new.self c.index-sinks-at.result
          (map g.S.Slot.failures c.args.sinks.now) c.in-Err.fault c.loop-at.invariant.2 below c.in-Err.ensures.cause,
    )

pub loop-at-preserved : goal.loop-at-preserved
loop-at-preserved g c =
    let below : c.loop-at.at < length c.loop-at.sinks = search rules in
    let was =
    read_at g.S.Slot.closed c.loop-at.sinks c.loop-at.at c.index-sinks-at.result false (map g.S.Slot.closed c.args.sinks.now)
    c.loop-at.invariant.1 below
    ∙ open_at c.loop-at.at (map g.S.Slot.closed c.args.sinks.now) false c.requires
    (subst (λ n. c.loop-at.at < n) (as_many g.S.Slot.closed c.loop-at.sinks (map g.S.Slot.closed c.args.sinks.now) c.loop-at.invariant.1) below) in (
      took_more g.S.Slot.reports c.loop-at.sinks c.loop-at.at c.args.report.now c.give.new.self
          c.index-sinks-at.result (map g.S.Slot.reports c.args.sinks.now) c.loop-at.invariant.0 below
          c.in_default.ensures.reports.ok,
      read_same g.S.Slot.closed c.loop-at.sinks c.loop-at.at c.give.new.self c.index-sinks-at.result (c.in_default.ensures.unfinished ∙ sym was) ∙ c.loop-at.invariant.1,
      read_same g.S.Slot.failures c.loop-at.sinks c.loop-at.at c.give.new.self c.index-sinks-at.result c.in_default.ensures.cause.ok ∙ c.loop-at.invariant.2,
    )

pub returns : goal.returns
returns g c =
    let ended : c.loop-at.at ≡ length c.loop-at.sinks = search (rules, arith) in
    let many = as_many g.S.Slot.reports c.loop-at.sinks (took c.loop-at.at c.args.report.now (map g.S.Slot.reports c.args.sinks.now)) c.loop-at.invariant.0
    ∙ took_length c.loop-at.at c.args.report.now (map g.S.Slot.reports c.args.sinks.now) in (
      c.loop-at.invariant.0 ∙ ap (λ n. took n c.args.report.now (map g.S.Slot.reports c.args.sinks.now)) (ended ∙ many)
          ∙ took_all c.args.report.now (map g.S.Slot.reports c.args.sinks.now),
      c.loop-at.invariant.1,
      c.loop-at.invariant.2,
    )
