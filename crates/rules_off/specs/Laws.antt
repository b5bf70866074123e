-- Where no place of a rule that is off is reported, what is written is what all rules together write.
use Rattle.std.specs.Prelude.{◌≡◌, ℕ, Bool, true, false, ◌||◌, List, [], codes}
use Rattle.php_tree.specs.declared.kind.NodeKind.TheVariants as kind
use Rattle.php_tree.specs.declared.token.TokenKind.TheVariants as token
use Rattle.php_tree.specs.declared.version.Version.TheVariants.{V74}
use Rattle.php_tree.specs.Tree.{Forest, none, leaf, node, Tree, File, file_printed}
use Rattle.php_reading.specs.Reading.{Reads}
use Rattle.syntax_rules.specs.declared.rules.Rules.{Rules}
use Rattle.syntax_rules.specs.BraceOffset.{is_brace_offset}
use Rattle.syntax_rules.specs.HashComment.{hash_comment}
use Rattle.syntax_rules.specs.Quotable.{is_loose}
use Rattle.syntax_rules.specs.RealCast.{is_real_cast}
use Rattle.syntax_rules.specs.Rewritten.{edits, edits_by, rewritten, rewritten_by}
use Rattle.syntax_rules.specs.Together.{every_rule, is_quoted}
use Rattle.syntax_rules.specs.Written.{op, word, word_behind}
use Rattle.syntax_upgrade.specs.OffPlaces.{off_reports}

-- No token among the parts themselves can be one with a name behind it.
abbrev pub HoldNoName : Forest → Type 0
HoldNoName none = Unit {0}
HoldNoName (leaf x f) = (is_loose (hash_comment x) ≡ true) × HoldNoName f
HoldNoName (node k c f) = HoldNoName f

-- whether a rule may write the tokens of a node anew: an offset in braces, a cast `(real)` or a quoted text
abbrev pub is_worded : Tree → Bool
is_worded n = is_brace_offset n.0 || (is_real_cast n || is_quoted n.0)

-- No token of such a node itself is part of a name, as in the 7.4 grammar.
abbrev pub NamesAreAside : Forest → Type 0
NamesAreAside none = Unit {0}
NamesAreAside (leaf x f) = NamesAreAside f
NamesAreAside (node k c f) = (is_worded (k, c) ≡ true → HoldNoName c) × NamesAreAside c × NamesAreAside f

-- every rule but the one on comments
abbrev pub uncommented : Rules
uncommented = record every_rule { hash_comments = false }

-- `"${\` and then a label behind a comment `#[`, as no grammar has it
abbrev pub odd : File
odd = record {
  statements = node kind.Quoted
      (word token.DollarBrace (codes "${") (op (codes "\\") (word_behind (codes "#[\n") token.Label (codes "A") none))) none;
  end = record { kind = token.End; lead = []; text = []; start = 0 };
}

-- Rules that are off and report no place leave nothing out: all rules together make the same edits, and the same file.
pub record RulesOff : Type 0 where
  pub same_edits : (r : Rules) (f : File) → NamesAreAside f.statements → off_reports r f ≡ [] → edits_by r f ≡ edits f
  pub same_file : (r : Rules) (f : File) → NamesAreAside f.statements → off_reports r f ≡ [] → rewritten_by r f ≡ rewritten f
  -- so it is of all that 7.4 reads
  pub aside : (bytes : List ℕ) (f : File) → Reads V74 bytes f → NamesAreAside f.statements
  -- Of other files it need not be so: the comment has no place, as though it were deleted with the trivia inside a name.
  pub silent : off_reports uncommented odd ≡ []
  pub left_out : file_printed (rewritten_by uncommented odd) ≡ codes "{$\\#[\nA"
  pub by_all : file_printed (rewritten odd) ≡ codes "{$\\# [\nA"
