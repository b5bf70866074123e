use Rattle.scalar_types.proofs.order.classes_among.Goals as goal

pub returns : goal.returns
returns c = rw (← c.as_slice.ensures.classes, ← c.as_slice-2.ensures.classes) c.is_subset.ensures
