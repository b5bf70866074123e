use Rattle.std.proofs.Common.{◌≡◌, ◌<◌, map, length, false, rules, refl, sym, ap, subst, ◌∙◌, arith}
use Rattle.report_handing.specs.Sinks.{closed}
use Rattle.report_handing.proofs.SinkLemmas.{closed_more, closed_all, closed_length, as_many, read_at, read_same, still_open, cause_there}
use Rattle.report_handing.proofs.sinks.finish.Goals as goal

pub close-requires : goal.close-requires
close-requires g c =
    let below : c.loop-at.at < length c.loop-at.sinks = search rules in
    let many = as_many g.S.Slot.closed c.loop-at.sinks (closed c.loop-at.at (map g.S.Slot.closed c.args.sinks.now)) c.loop-at.invariant.1
    ∙ closed_length c.loop-at.at (map g.S.Slot.closed c.args.sinks.now) in
    read_at g.S.Slot.closed c.loop-at.sinks c.loop-at.at c.index-sinks-at.result false (closed c.loop-at.at (map g.S.Slot.closed c.args.sinks.now))
    c.loop-at.invariant.1 below
    ∙ still_open c.loop-at.at (map g.S.Slot.closed c.args.sinks.now) false c.requires (subst (λ n. c.loop-at.at < n) many below)

pub returns-in-Err : goal.returns-in-Err
returns-in-Err g c =
    let below : c.loop-at.at < length c.loop-at.sinks = search rules in
    let many = as_many g.S.Slot.closed c.loop-at.sinks (closed c.loop-at.at (map g.S.Slot.closed c.args.sinks.now)) c.loop-at.invariant.1
    ∙ closed_length c.loop-at.at (map g.S.Slot.closed c.args.sinks.now) in
    let was =
    read_at g.S.Slot.closed c.loop-at.sinks c.loop-at.at c.index-sinks-at.result false (closed c.loop-at.at (map g.S.Slot.closed c.args.sinks.now))
    c.loop-at.invariant.1 below
    ∙ still_open c.loop-at.at (map g.S.Slot.closed c.args.sinks.now) false c.requires (subst (λ n. c.loop-at.at < n) many below) in (
      subst (λ n. c.loop-at.at < n) (as_many g.S.Slot.reports c.loop-at.sinks (map g.S.Slot.reports c.args.sinks.now) c.loop-at.invariant.0) below,
      read_same g.S.Slot.reports c.loop-at.sinks c.loop-at.at c.close.new.self c.index-sinks-at.result c.in-Err.ensures.reports ∙ c.loop-at.invariant.0,
      read_same g.S.Slot.closed c.loop-at.sinks c.loop-at.at c.close.new.self c.index-sinks-at.result (c.in-Err.ensures.finished ∙ sym was) ∙ c.loop-at.invariant.1,
      cause_there g.S.Slot.failures c.loop-at.sinks c.loop-at.at c.close.new.self c.index-sinks-at.result
          (map g.S.Slot.failures c.args.sinks.now) c.in-Err.fault c.loop-at.invariant.2 below c.in-Err.ensures.cause,
    )

pub loop-at-preserved : goal.loop-at-preserved
loop-at-preserved g c =
    let below : c.loop-at.at < length c.loop-at.sinks = search rules in
    let many = as_many g.S.Slot.closed c.loop-at.sinks (closed c.loop-at.at (map g.S.Slot.closed c.args.sinks.now)) c.loop-at.invariant.1
    ∙ closed_length c.loop-at.at (map g.S.Slot.closed c.args.sinks.now) in (
      read_same g.S.Slot.reports c.loop-at.sinks c.loop-at.at c.close.new.self c.index-sinks-at.result c.in_default.ensures.reports ∙ c.loop-at.invariant.0,
      closed_more g.S.Slot.closed c.loop-at.sinks c.loop-at.at c.close.new.self (map g.S.Slot.closed c.args.sinks.now) c.loop-at.invariant.1
          (subst (λ n. c.loop-at.at < n) many below) c.in_default.ensures.finished,
      read_same g.S.Slot.failures c.loop-at.sinks c.loop-at.at c.close.new.self c.index-sinks-at.result c.in_default.ensures.cause.ok ∙ c.loop-at.invariant.2,
    )

pub returns : goal.returns
returns g c =
    let ended : c.loop-at.at ≡ length c.loop-at.sinks = search (rules, arith) in
    let many = as_many g.S.Slot.closed c.loop-at.sinks (closed c.loop-at.at (map g.S.Slot.closed c.args.sinks.now)) c.loop-at.invariant.1
    ∙ closed_length c.loop-at.at (map g.S.Slot.closed c.args.sinks.now) in (
      c.loop-at.invariant.0,
      c.loop-at.invariant.1 ∙ ap (λ n. closed n (map g.S.Slot.closed c.args.sinks.now)) (ended ∙ many) ∙ closed_all (map g.S.Slot.closed c.args.sinks.now),
      c.loop-at.invariant.2,
    )
