use Rattle.loop_turns.proofs.Turns.{turns_never_rise}
use Rattle.loop_turns.proofs.turns_never_rise.Goals as goal

pub returns : goal.returns
returns c = turns_never_rise
