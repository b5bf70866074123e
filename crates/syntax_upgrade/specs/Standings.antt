-- The code's standings are those of comments.
use Rattle.syntax_upgrade.specs.declared.hash_comment.Standing.TheVariants as code
use Rattle.syntax_upgrade.specs.declared.hash_comment.Standing as declared
use Rattle.syntax_rules.specs.HashComment.{Standing, outside, opening, block, closing, line}

abbrev pub standing_of : declared.Standing → Standing
standing_of code.Outside = outside
standing_of code.Opening = opening
standing_of code.Block = block
standing_of code.Closing = closing
standing_of code.Line = line
