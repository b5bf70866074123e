use Rattle.std.proofs.Common.{◌∙◌, ◌-◌, sym, refl, length}
use Rattle.std.proofs.lemmas.Option.{slice_get_past, slice_get_read}
use Rattle.node_facts.specs.Flat.{start}
use Rattle.resolved_names.proofs.ReadLemmas.{at_next, ranged_none}
use Rattle.resolved_names.proofs.ranges.node_at.Goals as goal

pub returns-in_err-node : goal.returns-in_err-node
returns-in_err-node c =
    let ns = c.args.nodes.now in
    c.from_residual.ensures ∙ sym (ranged_none start ns c.args.number (slice_get_past ns c.args.number c.in_err-node.ensures.lookup.3))

pub returns : goal.returns
returns c =
    let ns = c.args.nodes.now in
    let n = c.args.number in
    let h = c.in_ok-node.ensures.lookup in
    let g = c.in_ok-before.ensures.lookup in
    sym (at_next ns n c.in_ok-before.before.now c.in_ok-node.field-0.now c.if-number-eq0.false
    (slice_get_read ns (length ns) (n - 1) c.in_ok-before.before.now refl g.3.0 g.1)
    (slice_get_read ns (length ns) n c.in_ok-node.field-0.now refl h.3.0 h.1))
