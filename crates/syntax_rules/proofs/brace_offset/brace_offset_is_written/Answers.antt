use Rattle.syntax_rules.proofs.BraceOffsetKeeps.{brace_offset_is_written}
use Rattle.syntax_rules.proofs.brace_offset.brace_offset_is_written.Goals as goal

pub returns : goal.returns
returns c = brace_offset_is_written
