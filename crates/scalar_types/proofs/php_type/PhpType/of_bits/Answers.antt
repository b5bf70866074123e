use Rattle.std.proofs.Common.{subst, sym}
use Rattle.scalar_types.specs.Terms.{IsWellFormed}
use Rattle.scalar_types.proofs.DepthLemmas.{IsWellFormed-of_bits}
use Rattle.scalar_types.proofs.php_type.PhpType.of_bits.Goals as goal

pub returns-clause-well_formed : goal.returns-clause-well_formed
returns-clause-well_formed c =
    subst IsWellFormed (sym c.plain_of.ensures) (IsWellFormed-of_bits c.args.bits c.requires.eleven_bits c.requires.no_array)
