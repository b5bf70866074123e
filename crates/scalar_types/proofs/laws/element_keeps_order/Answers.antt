use Rattle.scalar_types.proofs.DepthLemmas.{element-Below, Below-nothing}
use Rattle.scalar_types.proofs.laws.element_keeps_order.Goals as goal

pub returns : goal.returns
returns c = record { element = element-Below; least = Below-nothing }
