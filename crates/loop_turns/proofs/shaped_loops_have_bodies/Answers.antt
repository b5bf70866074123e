use Rattle.loop_turns.proofs.Bodies.{shaped_loops_have_bodies}
use Rattle.loop_turns.proofs.shaped_loops_have_bodies.Goals as goal

pub returns : goal.returns
returns c = shaped_loops_have_bodies
