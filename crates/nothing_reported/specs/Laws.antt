-- Files in which the rules on syntax report nothing that stops compiling.
use Rattle.std.specs.Prelude.{◌≡◌, ℕ, zero, false, List, []}
use Rattle.php_tree.specs.declared.kind.NodeKind.TheVariants.{Block}
use Rattle.php_tree.specs.declared.version.Version.TheVariants.{V74}
use Rattle.php_tree.specs.Tree.{Forest, none, leaf, node, File}
use Rattle.php_reading.specs.Reading.{Reads}
use Rattle.syntax_rules.specs.SplitName.{is_name}
use Rattle.syntax_upgrade.specs.Reports.{reports, reports_in}
use Rattle.syntax_upgrade.specs.ReservedName.{at_first}
use Rattle.rewritten_shapes.specs.Laws.{AreSpelled, NoneReported}
use Rattle.rewritten_shapes.specs.paired.Traits.{PlainTraits}
use Rattle.written_tokens.specs.tokens.Written.{NoNullsafeText}

-- No token is a whole name with `\`, as none of a 7.4 source is.
abbrev pub HasNoName : Forest → Type 0
HasNoName none = Unit {0}
HasNoName (leaf x f) = (is_name x.kind ≡ false) × HasNoName f
HasNoName (node k c f) = HasNoName c × HasNoName f

-- Where nothing is reported, no node is one that 8.3 refuses, and no form stands in the file of which nothing is claimed.
pub record NothingReported : Type 0 where
  -- by the reports of the statements, the labels `enum` let be
  pub by_words : (f : File) → AreSpelled f.statements → HasNoName f.statements →
      reports_in Block at_first zero 0 f.statements ≡ [] → NoneReported f.statements
  -- by the reports of a file that 7.4 reads
  pub by_reports : (bytes : List ℕ) (f : File) → Reads V74 bytes f → reports f ≡ [] → NoneReported f.statements
  -- no quoted text has `?->` and a letter directly behind a simple variable
  pub no_nullsafe : (f : File) → reports f ≡ [] → NoNullsafeText f
  -- there is no use of traits, so all are plain
  pub no_traits : (f : File) → reports f ≡ [] → PlainTraits f.statements
