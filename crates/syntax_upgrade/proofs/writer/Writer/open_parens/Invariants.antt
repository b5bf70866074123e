use Rattle.std.proofs.Common.{◌≡◌}
use Rattle.syntax_upgrade.specs.Written.{opens_next}
use Rattle.syntax_upgrade.proofs.writer.Writer.open_parens.Given as goal

abbrev pub invariant-loop-self : goal.invariant-loop-self
invariant-loop-self l = record {
  left : opens_next l.self-inside.parens l.self-inside.recorder ≡ opens_next l.fn.self.parens l.fn.self.recorded;
  behind : l.self-inside.behind_keyword ≡ l.fn.self.behind;
}

abbrev pub decreases-loop-self : goal.decreases-loop-self
decreases-loop-self l = l.self-inside.parens
