-- A nowdoc is kept as it is.
use Rattle.std.proofs.Common.{◌≡◌, ℕ, Bool, true, false, ◌&&◌, List, [], ◌∷◌}
use Rattle.php_tree.specs.declared.version.Version.TheVariants.{V74}
use Rattle.php_spellings.specs.declared.table.Kind.TheVariants.{Text}
use Rattle.php_lexer.specs.Modes.{Mode, code}
use Rattle.php_relexing.specs.Tiles.{Tile, tile, joined}
use Rattle.php_relexing.specs.Spelled.{Steps}
use Rattle.written_tokens.specs.tokens.Levels.{stack_of}
use Rattle.written_tokens.specs.tokens.Stays.{in_quotes}
use Rattle.written_tokens.specs.tiles.ContinuesAs.{ContinuesAs, same}
use Rattle.written_tokens.specs.tiles.IsRewrittenTo.{IsRewrittenTo}
use Rattle.written_tokens.specs.texts.Heredocs.{NowdocsBecome}
use Rattle.written_tokens.proofs.texts.Fronts.{goes_no_label}
use Rattle.written_tokens.proofs.texts.Nowdocs.{nowdoc_text, text_stops, nowdocs_stay}
use Rattle.written_tokens.proofs.texts.Stepping.{first, step_by}

module _ (b : ℕ) (a : List ℕ) (unquoted : in_quotes b a ≡ false) where
  goes : (tight gap : Bool) (rest after : List Tile) → ContinuesAs (tight && false) false rest after → ContinuesAs tight gap (tile Text b a ∷ rest) (tile Text b a ∷ after)
  goes tight gap rest after g = same Text b a g

  source : (below : List Mode) (depth : ℕ) (rest : List Tile) → Steps V74 (stack_of code below depth) (tile Text b a ∷ rest) → Steps V74 (stack_of code below depth) rest
  source below depth rest h = (first (stack_of code below depth) Text b a rest h).more

  written : (gap : Bool) (below over : List Mode) (depth deep : ℕ) (rest after : List Tile)
      → ContinuesAs false false rest after → Steps V74 (stack_of code below depth) (tile Text b a ∷ rest)
      → Steps V74 (stack_of code over deep) after → Steps V74 (stack_of code over deep) (tile Text b a ∷ after)
  written gap below over depth deep rest after g h more =
      let at = (first (stack_of code below depth) Text b a rest h).longest in
      let stops = goes_no_label g (text_stops (nowdoc_text b a (joined rest) unquoted at)) in
      step_by (stack_of code over deep) Text b a after (nowdocs_stay b a (joined rest) (joined after) unquoted stops at) more

  become : IsRewrittenTo false true code code (tile Text b a ∷ []) (tile Text b a ∷ [])
  become = record { goes = goes; source = source; written = written }

pub nowdocs_become : NowdocsBecome
nowdocs_become b a unquoted = become b a unquoted
