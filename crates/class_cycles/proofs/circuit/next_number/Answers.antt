use Rattle.std.proofs.Common.{ℕ, subst}
use Rattle.std.specs.Prelude.{Option}
use Rattle.class_cycles.specs.Back.{IsOnward}
use Rattle.class_cycles.proofs.circuit.next_number.Goals as goal

pub unreachable-requires : goal.unreachable-requires
unreachable-requires c =
    let l = c.requires.leads in
    subst (λ (o : Option ℕ). IsOnward c.args.pairs.now c.args.taken.now c.args.end c.args.number o) c.in-None.is c.in_ok-next.ensures l.0 l.1 l.2
