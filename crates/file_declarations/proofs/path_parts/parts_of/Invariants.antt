use Rattle.std.proofs.Common.{◌≡◌, ◌≤◌, ◌-◌, ◌++◌, [], length, take}
use Rattle.node_names.specs.Facts.{parts_from}
use Rattle.node_names.specs.Seen.{texts_of}
use Rattle.file_declarations.proofs.WordLemmas.{Cutting}
use Rattle.file_declarations.proofs.path_parts.parts_of.Given as goal

abbrev pub invariant-bytes : goal.invariant-bytes
invariant-bytes l = Cutting (texts_of l.parts.items) l.start l.left (parts_from [] l.fn.path)

abbrev pub decreases-bytes : goal.decreases-bytes
decreases-bytes l = length l.left
