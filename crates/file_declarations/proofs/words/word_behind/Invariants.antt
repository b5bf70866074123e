use Rattle.std.proofs.Common.{◌≡◌, length}
use Rattle.node_names.specs.Seen.{texts_of}
use Rattle.scope_names.specs.Words.{word_behind}
use Rattle.file_declarations.proofs.words.word_behind.Given as goal

abbrev pub invariant-loop-left : goal.invariant-loop-left
invariant-loop-left l = word_behind l.keyword (texts_of l.left) ≡ word_behind l.keyword (texts_of l.fn.words)

abbrev pub decreases-loop-left : goal.decreases-loop-left
decreases-loop-left l = length l.left
