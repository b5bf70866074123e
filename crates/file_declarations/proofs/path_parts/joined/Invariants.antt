use Rattle.std.proofs.Common.{◌≡◌, ◌++◌, drop}
use Rattle.node_names.specs.Facts.{joined_path}
use Rattle.node_names.specs.Seen.{texts_of}
use Rattle.file_declarations.proofs.WordLemmas.{joined_tail}
use Rattle.file_declarations.proofs.path_parts.joined.Given as goal

abbrev pub invariant-loop-part : goal.invariant-loop-part
invariant-loop-part l = l.path.items ++ joined_tail (texts_of (drop l.part-index l.behind)) ≡ joined_path (texts_of l.fn.parts)
