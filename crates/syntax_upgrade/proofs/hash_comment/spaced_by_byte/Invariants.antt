use Rattle.std.proofs.Common.{◌≡◌, drop}
use Rattle.syntax_rules.specs.HashComment.{outside, spaced}
use Rattle.syntax_upgrade.specs.Standings.{standing_of}
use Rattle.syntax_upgrade.specs.Writing.{pieces_next}
use Rattle.syntax_upgrade.proofs.hash_comment.spaced_by_byte.Given as goal

abbrev pub invariant-loop-byte : goal.invariant-loop-byte
invariant-loop-byte l = record {
  rest : l.rest ≡ drop l.byte-index l.lead;
  left : pieces_next (spaced (standing_of l.standing) l.rest) l.recorder ≡ pieces_next (spaced outside l.fn.lead) l.fn.recorder;
}
