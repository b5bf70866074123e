-- Tiles in a row that leave the modes below as they are: what they open they close, in pairs.
use Rattle.std.specs.Prelude.{◌≡◌, ℕ, suc, Bool, true, false, List, [], ◌∷◌, ◌++◌, length}
use Rattle.php_tree.specs.declared.version.Version.{Version}
use Rattle.php_spellings.specs.declared.table.Kind.{Kind}
use Rattle.php_lexer.specs.Modes.{Mode, html, code, named, quoted, offset, property, stay, enter, leave, mode_step_of, IsLongest}
use Rattle.php_lexer.specs.Lexed.{Stack}
use Rattle.php_relexing.specs.Tiles.{Tile, tile, joined}
use Rattle.php_relexing.specs.Passes.{Pass}

abbrev pub is_quoted : Mode → Bool
is_quoted html = false
is_quoted code = false
is_quoted named = false
is_quoted (quoted mark label fresh) = true
is_quoted offset = false
is_quoted property = false

-- A tile before others and these bytes is the longest of a mode.
abbrev pub Comes : Version → List ℕ → Mode → Tile → List Tile → Type 0
Comes v rest m (tile kind b a) ts = IsLongest v m (b ∷ a ++ (joined ts ++ rest)) kind (suc (length a))

-- From one mode to another, before these bytes: a tile changes the mode, or opens what a later one closes.
pub data Level : Version → List ℕ → Mode → List Tile → Mode → Type 0 where
  none : {v : Version} {rest : List ℕ} {m : Mode} → Level v rest m [] m
  flat :
      {v : Version} {rest : List ℕ} {m n : Mode} (to : Mode) (kind : Kind) (b : ℕ) (a : List ℕ) (ts : List Tile) →
      Comes v rest m (tile kind b a) ts →
      mode_step_of v m kind (b ∷ a) (joined ts ++ rest) ≡ stay to →
      Level v rest to ts n →
      Level v rest m (tile kind b a ∷ ts) n
  deep :
      {v : Version} {rest : List ℕ} {m n : Mode} (up under low : Mode) (kind : Kind) (b : ℕ) (a : List ℕ) (ts : List Tile)
      (k : Kind) (c : ℕ) (e : List ℕ) (us : List Tile) →
      Comes v rest m (tile kind b a) (ts ++ tile k c e ∷ us) →
      mode_step_of v m kind (b ∷ a) (joined (ts ++ tile k c e ∷ us) ++ rest) ≡ enter up under →
      Level v (joined (tile k c e ∷ us) ++ rest) up ts low →
      Comes v rest low (tile k c e) us →
      mode_step_of v low k (c ∷ e) (joined us ++ rest) ≡ leave →
      is_quoted up ≡ is_quoted low →
      Level v rest under us n →
      Level v rest m (tile kind b a ∷ ts ++ tile k c e ∷ us) n

-- a mode on others, where some quoted texts are open
abbrev pub stack_of : Mode → List Mode → ℕ → Stack
stack_of top below depth = record { top = top; below = below; depth = depth }

-- Such tiles pass over any modes, which they leave as they are.
abbrev pub LevelsPass : Type 0
LevelsPass =
    (v : Version) (rest : List ℕ) (m n : Mode) (ts : List Tile) →
    Level v rest m ts n →
    (below : List Mode) (depth : ℕ) →
    Pass v rest (stack_of m below depth) ts (stack_of n below depth)
