use Rattle.std.proofs.Common.{◌≡◌, drop, false}
use Rattle.syntax_upgrade.proofs.Bare.{bare_behind}
use Rattle.syntax_upgrade.proofs.dollar_brace.ends_bare.Given as goal

abbrev pub invariant-loop-byte : goal.invariant-loop-byte
invariant-loop-byte l = bare_behind l.is_bare l.is_escaped (drop l.byte-index l.text) ≡ bare_behind false false l.text
