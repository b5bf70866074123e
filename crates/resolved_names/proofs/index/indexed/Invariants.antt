use Rattle.std.proofs.Common.{◌≡◌, ℕ, ◌++◌, drop}
use Rattle.std.specs.Prelude.{Vec}
use Rattle.std.specs.declared.alloc.Global.{Global}
use Rattle.resolved_names.specs.Index.{kept, keyed, declared_in}
use Rattle.resolved_names.proofs.index.indexed.Given as goal

abbrev pub invariant-loop-one : goal.invariant-loop-one
invariant-loop-one l =
    (k : Vec ℕ Global) → kept l.index.entries k.items ++ keyed k.items (declared_in (drop l.one-index l.told)) ≡ keyed k.items (declared_in l.told)
