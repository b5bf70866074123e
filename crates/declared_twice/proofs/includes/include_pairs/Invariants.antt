use Rattle.std.proofs.Common.{take}
use Rattle.program_names.specs.Entries.{paths_of}
use Rattle.declared_twice.specs.Includes.{ArePairs}
use Rattle.declared_twice.proofs.AskedLemmas.{AskedIn}
use Rattle.declared_twice.proofs.includes.include_pairs.Given as goal

abbrev pub invariant-loop-one : goal.invariant-loop-one
invariant-loop-one l = ArePairs l.pairs.items (AskedIn (paths_of l.program.files.items) (take l.one-index l.told))
