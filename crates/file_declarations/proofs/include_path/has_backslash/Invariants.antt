use Rattle.std.proofs.Common.{◌≡◌, length}
use Rattle.node_names.specs.Facts.{has_byte}
use Rattle.file_declarations.proofs.include_path.has_backslash.Given as goal

abbrev pub invariant-loop-left : goal.invariant-loop-left
invariant-loop-left l = has_byte 92 l.left ≡ has_byte 92 l.fn.text

abbrev pub decreases-loop-left : goal.decreases-loop-left
decreases-loop-left l = length l.left
