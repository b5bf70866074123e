-- Brackets that edits put round tokens of code.
use Rattle.std.specs.Prelude.{◌≡◌, ℕ, false, List, [], ◌∷◌, ◌++◌}
use Rattle.php_tree.specs.declared.version.Version.{Version}
use Rattle.php_spellings.specs.declared.table.Kind.TheVariants.{Op}
use Rattle.php_lexer.specs.Modes.{Mode, code}
use Rattle.php_relexing.specs.Tiles.{Tile, tile, joined}
use Rattle.php_relexing.specs.Words.{begins_cast}
use Rattle.written_tokens.specs.tokens.Levels.{Level}

-- Levels join.
abbrev pub LevelsJoin : Type 0
LevelsJoin =
    (v : Version) (rest : List ℕ) (m n p : Mode) (ts us : List Tile) →
    Level v (joined us ++ rest) m ts n →
    Level v rest n us p →
    Level v rest m (ts ++ us) p

-- Tokens of code that are a level before `]` are one between `[` and `]`.
abbrev pub SquaresStandRound : Type 0
SquaresStandRound =
    (v : Version) (rest : List ℕ) (n : Mode) (ts us : List Tile) →
    Level v (93 ∷ joined us ++ rest) code ts code →
    Level v rest code us n →
    Level v rest code (tile Op 91 [] ∷ ts ++ tile Op 93 [] ∷ us) n

-- Those that are a level before `)` are one between `(` and `)`, where they don't make a cast of it.
abbrev pub RoundsStandRound : Type 0
RoundsStandRound =
    (v : Version) (rest : List ℕ) (n : Mode) (ts us : List Tile) →
    begins_cast (joined (ts ++ tile Op 41 [] ∷ us) ++ rest) ≡ false →
    Level v (41 ∷ joined us ++ rest) code ts code →
    Level v rest code us n →
    Level v rest code (tile Op 40 [] ∷ ts ++ tile Op 41 [] ∷ us) n
