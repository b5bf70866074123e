use Rattle.std.proofs.Common.{◌≡◌, length}
use Rattle.scope_names.specs.Words.{last_part}
use Rattle.file_declarations.proofs.WordLemmas.{IsLast}
use Rattle.file_declarations.proofs.words.last_part.Given as goal

abbrev pub invariant-loop-left : goal.invariant-loop-left
invariant-loop-left l = IsLast l.last l.left (last_part l.fn.name)

abbrev pub decreases-loop-left : goal.decreases-loop-left
decreases-loop-left l = length l.left
