use Rattle.std.proofs.Common.{◌≡◌, ◌++◌, drop}
use Rattle.std.specs.Prelude.{map}
use Rattle.node_names.specs.Compared.{compared}
use Rattle.node_facts.proofs.class_uses.use_of.Given as goal

abbrev pub invariant-loop-full : goal.invariant-loop-full
invariant-loop-full l = l.texts.items ++ map (compared l.sort) (drop l.full-index l.fulls) ≡ map (compared l.sort) l.fulls
