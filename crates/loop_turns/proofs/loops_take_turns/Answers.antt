use Rattle.loop_turns.proofs.Passes.{loops_take_turns}
use Rattle.loop_turns.proofs.loops_take_turns.Goals as goal

pub returns : goal.returns
returns c = loops_take_turns
