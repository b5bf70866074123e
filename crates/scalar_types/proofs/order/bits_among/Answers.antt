use Rattle.std.proofs.Common.{eq-eqb}
use Rattle.std.proofs.lemmas.Bool.{eqb-true}
use Rattle.scalar_types.proofs.BitLemmas.{BitsAmong-from_and, and-from_BitsAmong}
use Rattle.scalar_types.proofs.order.bits_among.Goals as goal

pub returns : goal.returns
returns c = (λ h. BitsAmong-from_and c.args.a c.args.b (eqb-true _ _ h), λ h. eq-eqb _ _ (and-from_BitsAmong c.args.a c.args.b h))
