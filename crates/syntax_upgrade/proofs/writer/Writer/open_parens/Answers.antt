use Rattle.syntax_upgrade.proofs.Opening.{opens_one}
use Rattle.std.proofs.Common.{◌∙◌}
use Rattle.syntax_upgrade.proofs.writer.Writer.open_parens.Goals as goal

pub loop-self-preserved : goal.loop-self-preserved
loop-self-preserved c = record {
  left =
      rw c.in_ok-changed.ensures
      (opens_one c.loop-self.self-inside.parens c.loop-self.self-inside.recorder c.loop-self-test.true
      ∙ c.loop-self.invariant.left);
  behind = c.loop-self.invariant.behind;
}
