-- The first line of a heredoc, also with `b` in front, and nowdocs.
use Rattle.std.specs.Prelude.{◌≡◌, ℕ, suc, true, false, List, [], ◌∷◌, ◌++◌, length}
use Rattle.php_tree.specs.declared.version.Version.TheVariants.{V74}
use Rattle.php_spellings.specs.declared.table.Kind.TheVariants.{Text, HeredocStart}
use Rattle.php_spellings.specs.Bytes.{begins_by}
use Rattle.php_lexer.specs.Heredocs.{no_label}
use Rattle.php_lexer.specs.Modes.{code, IsLongest}
use Rattle.php_relexing.specs.Tiles.{tile}
use Rattle.written_tokens.specs.tokens.Stays.{in_quotes}
use Rattle.written_tokens.specs.tiles.IsRewrittenTo.{IsRewrittenTo}

-- The first line of a heredoc stays where a line feed follows as in the source.
abbrev pub HeredocLinesStay : Type 0
HeredocLinesStay =
    (b : ℕ) (a r s : List ℕ) →
    begins_by 10 r ≡ begins_by 10 s →
    IsLongest V74 code (b ∷ a ++ r) HeredocStart (suc (length a)) →
    IsLongest V74 code (b ∷ a ++ s) HeredocStart (suc (length a))

-- A nowdoc, which is no text in quotes, stays where no byte of a label follows.
abbrev pub NowdocsStay : Type 0
NowdocsStay =
    (b : ℕ) (a r s : List ℕ) →
    in_quotes b a ≡ false →
    no_label s ≡ true →
    IsLongest V74 code (b ∷ a ++ r) Text (suc (length a)) →
    IsLongest V74 code (b ∷ a ++ s) Text (suc (length a))

-- It is kept as it is.
abbrev pub NowdocsBecome : Type 0
NowdocsBecome =
    (b : ℕ) (a : List ℕ) →
    in_quotes b a ≡ false →
    IsRewrittenTo false true code code (tile Text b a ∷ []) (tile Text b a ∷ [])
