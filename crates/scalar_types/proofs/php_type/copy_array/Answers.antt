use Rattle.std.proofs.Common.{refl}
use Rattle.scalar_types.proofs.TermLemmas.{term-array}
use Rattle.scalar_types.proofs.php_type.copy_array.Goals as goal

pub returns : goal.returns
returns c = term-array _ _ _ _ _ _ _ _ _ c.in_ok-new.ensures.ok refl c.in_ok-classes.ensures
