-- Tiles in a row, from one stack of modes to another.
use Rattle.std.specs.Prelude.{◌≡◌, ℕ, suc, Bool, false, ◌&&◌, List, [], ◌∷◌, ◌++◌, length, drop}
use Rattle.php_tree.specs.declared.version.Version.{Version}
use Rattle.php_tree.specs.declared.version.Version.TheVariants.{V74, V83}
use Rattle.php_spellings.specs.declared.table.Kind.{Kind}
use Rattle.php_spellings.specs.Bytes.{begins_by}
use Rattle.php_lexer.specs.Modes.{Mode, IsLongest, mode_step_of, begins_arrow}
use Rattle.php_lexer.specs.Lexed.{Stack, after, stepped_by}
use Rattle.php_relexing.specs.Tiles.{Tile, tile, joined}
use Rattle.php_relexing.specs.Spelled.{Steps}

-- Before the bytes behind them, each tile is the longest of the mode that those before leave; the stack behind them.
pub data Pass : Version → List ℕ → Stack → List Tile → Stack → Type 0 where
  nothing : {v : Version} {rest : List ℕ} {stack : Stack} → Pass v rest stack [] stack
  then :
      {v : Version} {rest : List ℕ} {stack end : Stack} (kind : Kind) (b : ℕ) (a : List ℕ) (ts : List Tile) →
      IsLongest v stack.top (b ∷ a ++ (joined ts ++ rest)) kind (suc (length a)) →
      Pass v rest (stepped_by (mode_step_of v stack.top kind (b ∷ a) (joined ts ++ rest)) stack) ts end →
      Pass v rest stack (tile kind b a ∷ ts) end

-- Passes join; one to the end of the bytes, outside any quoted text, is the steps of its tiles; what a tile does to the
-- stack is told by its text and what follows it.
pub record PassesJoin : Type 0 where
  pub join : (v : Version) (rest : List ℕ) (k m n : Stack) (ts us : List Tile) → Pass v (joined us ++ rest) k ts m → Pass v rest m us n → Pass v rest k (ts ++ us) n
  pub steps : (v : Version) (k n : Stack) (ts : List Tile) → n.depth ≡ 0 → Pass v [] k ts n → Steps v k ts
  pub mode_steps : (v : Version) (k : Stack) (kind : Kind) (b : ℕ) (a rest : List ℕ) → after v k kind (suc (length a)) (b ∷ a ++ rest) ≡ stepped_by (mode_step_of v k.top kind (b ∷ a) rest) k

-- whether `?->` and a label begin here, a simple property in 8.3 alone
abbrev pub begins_nullsafe : List ℕ → Bool
begins_nullsafe bs = begins_by 63 bs && begins_arrow (drop 1 bs)

-- A token does the same to the stack in 8.3 where no `?->` and a label follow.
abbrev pub ModeStepsAgree : Type 0
ModeStepsAgree =
    (mode : Mode) (kind : Kind) (text rest : List ℕ) →
    begins_nullsafe rest ≡ false →
    mode_step_of V74 mode kind text rest ≡ mode_step_of V83 mode kind text rest
