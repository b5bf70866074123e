use Rattle.std.proofs.Common.{◌≡◌, take, map}
use Rattle.std.specs.Prelude.{option_map}
use Rattle.declared_twice.specs.Keys.{key_of, lent, lent_key}
use Rattle.declared_twice.proofs.keys.next_same.Given as goal

abbrev pub invariant-loop-declaration : goal.invariant-loop-declaration
invariant-loop-declaration l = map (option_map lent_key) l.keys.items ≡ map key_of (lent (take l.declaration-index l.declared))
