use Rattle.std.proofs.Common.{◌≡◌, drop}
use Rattle.node_names.specs.Facts.{resolved}
use Rattle.node_names.specs.Seen.{texts_of}
use Rattle.file_declarations.proofs.path_parts.resolved.Given as goal

abbrev pub invariant-loop-part : goal.invariant-loop-part
invariant-loop-part l =
    resolved (texts_of l.folders.items) (texts_of (drop l.part-index l.parts)) ≡ resolved (texts_of l.fn.folders.items) (texts_of l.parts)
