use Rattle.program_points.proofs.FollowingLemmas.{edges_follow}
use Rattle.program_points.proofs.following.edges_follow.Goals as goal

pub returns : goal.returns
returns c = edges_follow
