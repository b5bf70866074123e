use Rattle.std.proofs.Common.{◌≡◌, length}
use Rattle.node_names.specs.Seen.{texts_of}
use Rattle.scope_names.specs.Words.{has_word}
use Rattle.file_declarations.proofs.words.has_word.Given as goal

abbrev pub invariant-loop-left : goal.invariant-loop-left
invariant-loop-left l = has_word l.text (texts_of l.left) ≡ has_word l.text (texts_of l.words)

abbrev pub decreases-loop-left : goal.decreases-loop-left
decreases-loop-left l = length l.left
