use Rattle.program_names.specs.Whole.{files_of}
use Rattle.program_points.proofs.NumberLemmas.{Done}
use Rattle.program_points.proofs.points.Points.of.Given as goal

abbrev pub invariant-loop-file : goal.invariant-loop-file
invariant-loop-file l = Done (files_of l.program) l.file l.points
