-- Tokens in order whose row 8.3 takes as 7.4 does.
use Rattle.std.specs.Prelude.{◌≡◌, Bool, true, ◌&&◌, List, [], ◌∷◌}
use Rattle.php_tree.specs.declared.version.Version.TheVariants.{V74}
use Rattle.php_lexer.specs.Lexed.{Lexeme, start}
use Rattle.php_relexing.specs.Tiles.{Tile}
use Rattle.php_relexing.specs.Spelled.{Steps, spelled}
use Rattle.written_tokens.specs.tokens.Names.{all_common}
use Rattle.written_tokens.specs.tokens.Whole.{all_apart}
use Rattle.written_tokens.specs.names.Neighbours.{is_labelled, is_parted, is_safe}
use Rattle.written_tokens.specs.names.Leads.{none_hash}
use Rattle.written_tokens.specs.names.Named.{none_dollar}

-- whether all neighbours are so
abbrev pub are_apart : List Lexeme → Bool
are_apart [] = true
are_apart (t ∷ []) = true
are_apart (t ∷ u ∷ ts) = (is_safe t u && is_labelled t u && is_parted t u) && are_apart (u ∷ ts)

-- The row of such tokens, without `${` and comments that begin `#[`, is taken by 8.3 as by 7.4, with names apart from other
-- words.
abbrev pub RowsAreCommon : Type 0
RowsAreCommon =
    (us : List Tile) →
    Steps V74 start us →
    none_dollar us ≡ true →
    none_hash us ≡ true →
    are_apart (spelled [] us) ≡ true →
    (all_common us ≡ true) × (all_apart us ≡ true)
