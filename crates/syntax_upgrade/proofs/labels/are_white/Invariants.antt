use Rattle.std.proofs.Common.{◌≡◌, drop}
use Rattle.syntax_upgrade.specs.Enums.{are_white}
use Rattle.syntax_upgrade.proofs.labels.are_white.Given as goal

abbrev pub invariant-loop-byte : goal.invariant-loop-byte
invariant-loop-byte l = are_white l.bytes ≡ are_white (drop l.byte-index l.bytes)
