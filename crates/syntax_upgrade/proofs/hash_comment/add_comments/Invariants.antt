use Rattle.std.proofs.Common.{◌≡◌, ◌++◌, drop, map}
use Rattle.syntax_rules.specs.HashComment.{outside}
use Rattle.syntax_upgrade.specs.Found.{found_of}
use Rattle.syntax_upgrade.specs.OffPlaces.{comments}
use Rattle.syntax_upgrade.specs.Standings.{standing_of}
use Rattle.syntax_upgrade.proofs.hash_comment.add_comments.Given as goal

abbrev pub invariant-loop-byte : goal.invariant-loop-byte
invariant-loop-byte l = record {
  rest : l.rest ≡ drop l.byte-index l.lead;
  left : map found_of l.out.items ++ comments (standing_of l.standing) l.place l.rest ≡ map found_of l.fn.out.items ++ comments outside l.fn.at l.fn.lead;
}
