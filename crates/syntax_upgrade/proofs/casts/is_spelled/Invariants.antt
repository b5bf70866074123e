use Rattle.std.proofs.Common.{◌≡◌, drop}
use Rattle.std.specs.Str.{bytes_eq}
use Rattle.syntax_rules.specs.Casts.{bare}
use Rattle.syntax_upgrade.proofs.casts.is_spelled.Given as goal

abbrev pub invariant-loop-byte : goal.invariant-loop-byte
invariant-loop-byte l = bytes_eq (bare l.text) l.fn.word ≡ bytes_eq (bare (drop l.byte-index l.text)) l.left
