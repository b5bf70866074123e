use Rattle.syntax_rules.proofs.HashCommentKeeps.{hash_comment_is_written}
use Rattle.syntax_rules.proofs.hash_comment.hash_comment_is_written.Goals as goal

pub returns : goal.returns
returns c = hash_comment_is_written
