use Rattle.std.proofs.Common.{◌≡◌, ◌++◌, drop}
use Rattle.node_names.specs.Seen.{texts_of}
use Rattle.node_names.specs.Uses.{class_uses}
use Rattle.node_facts.specs.Seen.{uses_in}
use Rattle.node_facts.specs.Standing.{site_of}
use Rattle.node_facts.proofs.class_uses.class_uses.Given as goal

abbrev pub invariant-loop-word : goal.invariant-loop-word
invariant-loop-word l =
    uses_in l.uses.items ++ class_uses (site_of l.scene) (texts_of (drop l.word-index l.words))
    ≡ uses_in l.fn.uses.items ++ class_uses (site_of l.scene) (texts_of l.words)
