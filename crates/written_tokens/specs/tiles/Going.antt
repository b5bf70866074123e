-- What goes on as the source does, and what it leaves of the tokens before it.
use Rattle.std.specs.Prelude.{◌≡◌, ℕ, Bool, true, false, not, ◌&&◌, ◌||◌, List, [], ◌∷◌, ◌++◌}
use Rattle.php_tree.specs.declared.version.Version.TheVariants.{V74}
use Rattle.php_spellings.specs.Bytes.{begins}
use Rattle.php_lexer.specs.Modes.{Mode, code}
use Rattle.php_relexing.specs.Tiles.{Tile, tile, joined}
use Rattle.php_relexing.specs.Spelled.{Steps}
use Rattle.php_relexing.specs.Alike.{Alike}
use Rattle.php_relexing.specs.Comments.{stops_line}
use Rattle.php_relexing.specs.Words.{begins_from, begins_cast}
use Rattle.written_tokens.specs.tokens.Levels.{stack_of}
use Rattle.written_tokens.specs.tiles.ContinuesAs.{stops_cast, ContinuesAs}
use Rattle.written_tokens.specs.tiles.IsRewrittenTo.{gap_behind}

-- whether a tile that can't stand in a cast is among them
abbrev pub any_stops : List Tile → Bool
any_stops [] = false
any_stops (tile kind b a ∷ ts) = stops_cast kind || any_stops ts

-- Each row goes on as itself, and behind a common front; what goes on where more is asked of it goes on where less is.
pub record RowsGoOn : Type 0 where
  pub itself : (tight gap : Bool) (ts : List Tile) → ContinuesAs tight gap ts ts
  pub front : (tight gap : Bool) (ts rest after : List Tile) → ContinuesAs (tight && not (any_stops ts)) (gap_behind gap ts) rest after → ContinuesAs tight gap (ts ++ rest) (ts ++ after)
  pub loose : (tight gap : Bool) (ts us : List Tile) → ContinuesAs true gap ts us → ContinuesAs tight gap ts us
  pub gapless : (tight gap : Bool) (ts us : List Tile) → ContinuesAs tight true ts us → ContinuesAs tight gap ts us

-- The bytes of what goes on so go on alike.
abbrev pub ContinuingIsAlike : Type 0
ContinuingIsAlike = (tight gap : Bool) (ts us : List Tile) → ContinuesAs tight gap ts us → Alike (joined ts) (joined us)

-- whether a class has none of the bytes that edits put in
abbrev pub puts_none : (ℕ → Bool) → Bool
puts_none p = not (p 35 || p 40 || p 41 || p 91 || p 92 || p 93 || p 123 || p 125)

-- Where no byte of such a class comes next in the source, none comes next in what goes on as it does.
abbrev pub FrontsStay : Type 0
FrontsStay =
    (p : ℕ → Bool) (tight gap : Bool) (ts us : List Tile) →
    puts_none p ≡ true →
    ContinuesAs tight gap ts us →
    begins p (joined ts) ≡ false →
    begins p (joined us) ≡ false

-- In code, what goes on so leaves `yield` before no `from`, `(` before no cast, and the end of a line comment.
pub record ContinuesInCode (ts us : List Tile) : Type 0 where
  pub from : (tight gap : Bool) → ContinuesAs tight gap ts us → begins_from (joined ts) ≡ false → begins_from (joined us) ≡ false
  pub cast : (gap : Bool) → ContinuesAs true gap ts us → begins_cast (joined ts) ≡ false → begins_cast (joined us) ≡ false
  pub line : (tight : Bool) → ContinuesAs tight true ts us → stops_line (joined ts) ≡ true → stops_line (joined us) ≡ true

abbrev pub CodeContinues : Type 0
CodeContinues =
    (below over : List Mode) (depth deep : ℕ) (ts us : List Tile) →
    Steps V74 (stack_of code below depth) ts →
    Steps V74 (stack_of code over deep) us →
    ContinuesInCode ts us
