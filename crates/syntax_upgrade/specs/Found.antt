-- What is reported, as contracts see it.
use Rattle.std.specs.Prelude.{ℕ, ◌+◌, ◌*◌, ◌^◌, List, [], ◌∷◌, length}
use Rattle.io_ports.specs.declared.report.Weight.{Weight}
use Rattle.io_ports.specs.declared.report.Weight.TheVariants.{Compile}
use Rattle.rule_tables.specs.declared.cause.Cause.{Cause}
use Rattle.rule_tables.specs.declared.rule.RuleId.{RuleId}
use Rattle.rule_tables.specs.declared.cause.Cause.TheVariants.{Off, Always}
use Rattle.rule_tables.specs.Rules.{number_of, undecided_weight_of, weight_of}
use Rattle.php_tree.specs.declared.token.Token.{Token}
use Rattle.php_tree.specs.Tree.{Forest, leaves}
use Rattle.php_tree.specs.Places.{behind, end_of}
use Rattle.syntax_upgrade.specs.declared.found.Found.{Found}

-- A place that stays as it is: its first byte, the byte behind its last one, the number of its rule or of its form, why it
-- stays, and what that weighs.
pub record Report : Type 0 where
  pub start : ℕ
  pub end : ℕ
  pub code : ℕ
  pub cause : Cause
  pub weight : Weight

-- what the code found
abbrev pub found_of : Found → Report
found_of x = record { start = x.span.start; end = x.span.end; code = x.code; cause = x.cause; weight = x.weight }

-- an undecided place of a rule
abbrev pub undecided : RuleId → Cause → ℕ → ℕ → Report
undecided rule cause start end = record {
  start = start;
  end = end;
  code = number_of rule;
  cause = cause;
  weight = undecided_weight_of rule;
}

-- a place of a rule that is off
abbrev pub off : RuleId → ℕ → ℕ → Report
off rule start end = record { start = start; end = end; code = number_of rule; cause = Off; weight = weight_of rule }

-- a form, by its number, of which nothing is claimed where it stands in a file
abbrev pub outside : ℕ → ℕ → ℕ → Report
outside form start end = record { start = start; end = end; code = form; cause = Always; weight = Compile }

-- where the text of the first of some tokens begins, whose trivia begin at a place
abbrev pub text_start : ℕ → List Token → ℕ
text_start at [] = at
text_start at (x ∷ xs) = at + length x.lead

-- such a form whose place is a node with these parts, from its first text on
abbrev pub outside_parts : ℕ → ℕ → Forest → List Report
outside_parts form at f = outside form (text_start at (leaves f)) (end_of at f) ∷ []

-- the text of a token whose trivia begin at a place
abbrev pub at_token : RuleId → Cause → ℕ → Token → Report
at_token rule cause at t = undecided rule cause (at + length t.lead) (behind at t)

-- A number by which reports are in order of start, then end, then code: each end is below 2^32, and each code below 2^16.
abbrev pub order_of : Found → ℕ
order_of x = x.span.start * 2 ^ 32 * 2 ^ 16 + x.span.end * 2 ^ 16 + x.code
