-- Tokens and trivia of the source that become others once it is edited.
use Rattle.std.specs.Prelude.{ℕ, Bool, true, false, not, ◌&&◌, ◌||◌, List, [], ◌∷◌, ◌++◌}
use Rattle.php_tree.specs.declared.version.Version.TheVariants.{V74}
use Rattle.php_lexer.specs.Modes.{Mode}
use Rattle.php_relexing.specs.Tiles.{Tile, tile}
use Rattle.php_relexing.specs.Spelled.{Steps}
use Rattle.written_tokens.specs.tokens.Levels.{stack_of}
use Rattle.written_tokens.specs.tiles.ContinuesAs.{is_trivia, ContinuesAs}

-- whether trivia stand directly behind the tiles, by whether they stand before them
abbrev pub gap_behind : Bool → List Tile → Bool
gap_behind gap [] = gap
gap_behind gap (tile kind b a ∷ ts) = gap_behind (is_trivia kind) ts

-- From one mode to another, whatever the modes below them are: `ts` of the source become `us`, before any tiles that go on
-- so. `needs` tells that these must be tight, `stops` that something in `ts` can't stand in a cast, so that whatever comes
-- before them is tight.
pub record IsRewrittenTo (needs stops : Bool) (m n : Mode) (ts us : List Tile) : Type 0 where
  -- the written tiles go on as the source's do
  pub goes :
      (tight gap : Bool) (rest after : List Tile) →
      ContinuesAs (tight && not stops) (gap_behind gap ts) rest after →
      ContinuesAs tight gap (ts ++ rest) (us ++ after)
  -- the source's tiles lead from the one mode to the other
  pub source :
      (below : List Mode) (depth : ℕ) (rest : List Tile) →
      Steps V74 (stack_of m below depth) (ts ++ rest) →
      Steps V74 (stack_of n below depth) rest
  -- so do the written ones
  pub written :
      (gap : Bool) (below over : List Mode) (depth deep : ℕ) (rest after : List Tile) →
      ContinuesAs needs (gap_behind gap ts) rest after →
      Steps V74 (stack_of m below depth) (ts ++ rest) →
      Steps V74 (stack_of n over deep) after →
      Steps V74 (stack_of m over deep) (us ++ after)

-- Such rows join: what the first needs tight, the second stops.
abbrev pub RewritingsJoin : Type 0
RewritingsJoin =
    (needs stops need stop : Bool) (m n p : Mode) (ts us ts' us' : List Tile) →
    IsRewrittenTo needs stops m n ts us →
    IsRewrittenTo need stop n p ts' us' →
    IsRewrittenTo (need || (needs && not stop)) (stops || stop) m p (ts ++ ts') (us ++ us')

-- Nothing becomes nothing; of a row that becomes another one, less may be said: not that it stops, or that it needs more.
pub record IsRewrittenLoosely : Type 0 where
  pub nothing : (m : Mode) → IsRewrittenTo false false m m [] []
  pub unstopped : (needs stops : Bool) (m n : Mode) (ts us : List Tile) → IsRewrittenTo needs true m n ts us → IsRewrittenTo needs stops m n ts us
  pub needless : (needs stops : Bool) (m n : Mode) (ts us : List Tile) → IsRewrittenTo false stops m n ts us → IsRewrittenTo needs stops m n ts us
