-- The labels `enum` that 8.1 reads as a keyword, told at the token behind each.
use Rattle.std.specs.Prelude.{ℕ, ◌+◌, Bool, not, ◌&&◌, if◌then◌else◌, List, [], ◌∷◌, ◌++◌, length, codes, Option, Some, None}
use Rattle.rule_tables.specs.declared.cause.Cause.TheVariants.{Always}
use Rattle.rule_tables.specs.declared.rule.RuleId.TheVariants as rule
use Rattle.php_tree.specs.declared.token.Token.{Token}
use Rattle.php_tree.specs.Tree.{Forest, none, leaf, node}
use Rattle.php_tree.specs.Places.{behind, end_of}
use Rattle.php_terminals.specs.declared.terminal.Terminal.{Terminal}
use Rattle.php_terminals.specs.declared.terminal.Terminal.TheVariants as t
use Rattle.php_terminals.specs.Classify.{terminal, is_word_token}
use Rattle.php_terminals.specs.Words.{is_word}
use Rattle.syntax_upgrade.specs.Enums.{is_heading, is_label, is_white, takes_label}
use Rattle.syntax_upgrade.specs.Found.{Report, undecided}

-- The class of the last token, its place where it is a label `enum` that may be a keyword, and what is reported.
pub record Labels : Type 0 where
  pub before : Terminal
  pub held : Option (ℕ × ℕ)
  pub found : List Report

-- whether a token is a word behind white space and no comment
abbrev pub is_word_behind : Token → Bool
is_word_behind x = is_white x.lead && is_word_token x && not (is_heading (terminal x))

-- whether a token is a label `enum` behind one of a class
abbrev pub may_be_enum : Terminal → Token → Bool
may_be_enum before x = is_label x.kind && is_word (codes "enum") x.text && not (takes_label before)

-- the place that is held, reported where it is wanted
abbrev pub told : Bool → Option (ℕ × ℕ) → List Report
told wanted None = []
told wanted (Some p) = if wanted then undecided rule.ReservedName Always p.0 p.1 ∷ [] else []

-- the place of a token whose trivia begin at a place, where it is wanted
abbrev pub place_if : Bool → ℕ → Token → Option (ℕ × ℕ)
place_if wanted at x = if wanted then Some (at + length x.lead, behind at x) else None

-- behind a token whose trivia begin at a place
abbrev pub label_next : ℕ → Token → Labels → Labels
label_next at x s = record {
  before = terminal x;
  held = place_if (may_be_enum s.before x) at x;
  found = s.found ++ told (is_word_behind x) s.held;
}

-- behind parts that begin at a place
abbrev pub labels_in : ℕ → Forest → Labels → Labels
labels_in at none s = s
labels_in at (leaf x f) s = labels_in (behind at x) f (label_next at x s)
labels_in at (node k c f) s = labels_in (end_of at c) f (labels_in at c s)

-- the front of a file
abbrev pub no_labels : Labels
no_labels = record { before = t.End; held = None; found = [] }
