use Rattle.scalar_types.proofs.order.labels_among.Goals as goal

pub returns : goal.returns
returns c = rw (← c.as_slice.ensures.labels, ← c.as_slice-2.ensures.labels) c.is_subset.ensures
