use Rattle.std.proofs.Common.{◌≡◌, ◌++◌, drop}
use Rattle.node_names.specs.Compared.{names_of}
use Rattle.node_names.specs.Seen.{texts_of}
use Rattle.node_names.proofs.comparing.member_names.Given as goal

abbrev pub invariant-loop-word : goal.invariant-loop-word
invariant-loop-word l =
    l.names.items ++ names_of l.sort (texts_of (drop l.word-index l.words)) ≡ names_of l.sort (texts_of l.words)
