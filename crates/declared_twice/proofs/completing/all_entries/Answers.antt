use Rattle.declared_twice.proofs.completing.all_entries.Goals as goal

pub completed-requires-clause-within : goal.completed-requires-clause-within
completed-requires-clause-within c = c.requires.within c.in-Some.entries c.in-Some.is
