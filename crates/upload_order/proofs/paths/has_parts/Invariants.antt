use Rattle.std.proofs.Common.{◌≡◌, drop}
use Rattle.upload_order.specs.Paths.{has_parts}
use Rattle.upload_order.specs.declared.paths.Part.TheVariants.{Empty}
use Rattle.upload_order.proofs.paths.has_parts.Given as goal

abbrev pub invariant-loop-byte : goal.invariant-loop-byte
invariant-loop-byte l = has_parts l.part (drop l.byte-index l.path) ≡ has_parts Empty l.path
