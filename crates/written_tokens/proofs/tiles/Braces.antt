-- Braces round a row of code, that stay or become brackets.
use Rattle.std.proofs.Common.{◌≡◌, ℕ, Bool, true, false, not, ◌&&◌, ◌||◌, List, [], ◌∷◌, ◌++◌, refl, sym, ap, subst, append_assoc}
use Rattle.php_tree.specs.declared.version.Version.TheVariants.{V74}
use Rattle.php_spellings.specs.declared.table.Kind.TheVariants.{Op}
use Rattle.php_lexer.specs.Modes.{Mode, code}
use Rattle.php_relexing.specs.Tiles.{Tile, tile, joined}
use Rattle.php_relexing.specs.Spelled.{Steps}
use Rattle.php_relexing.proofs.WrittenTokens.{marks_are_tokens}
use Rattle.written_tokens.specs.tokens.Levels.{stack_of}
use Rattle.written_tokens.specs.tiles.ContinuesAs.{ContinuesAs, same, put}
use Rattle.written_tokens.specs.tiles.IsRewrittenTo.{gap_behind, IsRewrittenTo}
use Rattle.written_tokens.specs.tiles.Edits.{between, BracesBecome, BracesAreSquared}
use Rattle.written_tokens.proofs.tiles.Going.{tighter}
use Rattle.written_tokens.proofs.tiles.Joins.{gap_append}
use Rattle.written_tokens.proofs.tiles.Stepping.{stepped, steps_behind}

-- a row between two tiles, before others
pub between_before : (b c : ℕ) (ts rest : List Tile) → between b c ts ++ rest ≡ tile Op b [] ∷ ts ++ tile Op c [] ∷ rest
between_before b c ts rest = ap (λ (x : List Tile). tile Op b [] ∷ x) (append_assoc ts (tile Op c [] ∷ []) rest)

pub no_gap : (gap : Bool) (b c : ℕ) (ts : List Tile) → gap_behind gap (between b c ts) ≡ false
no_gap gap b c ts = gap_append false ts (tile Op c [] ∷ [])

pub both_false : (t : Bool) → (t && false) ≡ false
both_false true = refl
both_false false = refl

pub token_or : (gap : Bool) → (not gap || true) ≡ true
token_or true = refl
token_or false = refl

module _ (needs stops : Bool) (ts us : List Tile) (f : IsRewrittenTo needs stops code code ts us) where
  -- the source between braces
  inner_source : (below : List Mode) (depth : ℕ) (rest : List Tile)
      → Steps V74 (stack_of code below depth) (tile Op 123 [] ∷ ts ++ tile Op 125 [] ∷ rest)
      → Steps V74 (stack_of code (code ∷ below) depth) (ts ++ tile Op 125 [] ∷ rest)
  inner_source below depth rest h =
      steps_behind (stack_of code below depth) (stack_of code (code ∷ below) depth) Op 123 [] (ts ++ tile Op 125 [] ∷ rest) refl h

  source_so : (below : List Mode) (depth : ℕ) (rest : List Tile) → Steps V74 (stack_of code below depth) (between 123 125 ts ++ rest) → Steps V74 (stack_of code below depth) rest
  source_so below depth rest h =
      let whole = subst (λ (x : List Tile). Steps V74 (stack_of code below depth) x) (between_before 123 125 ts rest) h in
      steps_behind (stack_of code (code ∷ below) depth) (stack_of code below depth) Op 125 [] rest refl
      (f.source (code ∷ below) depth (tile Op 125 [] ∷ rest) (inner_source below depth rest whole))

  -- ---- braces that stay

  goes_kept : (tight gap : Bool) (rest after : List Tile) → ContinuesAs (tight && not true)
      (gap_behind gap (between 123 125 ts)) rest after → ContinuesAs tight gap (between 123 125 ts ++ rest)
      (between 123 125 us ++ after)
  goes_kept tight gap rest after h =
      let last : ContinuesAs false false rest after =
      tighter (tight && not true) false (λ e. absurd cc) (subst (λ (x : Bool). ContinuesAs (tight && not true) x rest after) (no_gap gap 123 125 ts) h) in
      let close : ContinuesAs ((tight && not true) && not stops) (gap_behind false ts) (tile Op 125 [] ∷ rest) (tile Op 125 [] ∷ after) =
      same Op 125 [] (subst (λ (x : Bool). ContinuesAs x false rest after) (sym (both_false ((tight && not true) && not stops))) last) in
      subst (λ (x : List Tile). ContinuesAs tight gap x (between 123 125 us ++ after)) (sym (between_before 123 125 ts rest))
      (subst (λ (x : List Tile). ContinuesAs tight gap (tile Op 123 [] ∷ ts ++ tile Op 125 [] ∷ rest) x) (sym (between_before 123 125 us after))
      (same Op 123 [] (f.goes (tight && not true) false (tile Op 125 [] ∷ rest) (tile Op 125 [] ∷ after) close)))

  written_kept : (gap : Bool) (below over : List Mode) (depth deep : ℕ) (rest after : List Tile)
      → ContinuesAs false (gap_behind gap (between 123 125 ts)) rest after
      → Steps V74 (stack_of code below depth) (between 123 125 ts ++ rest) → Steps V74 (stack_of code over deep) after
      → Steps V74 (stack_of code over deep) (between 123 125 us ++ after)
  written_kept gap below over depth deep rest after h s w =
      let whole = subst (λ (x : List Tile). Steps V74 (stack_of code below depth) x) (between_before 123 125 ts rest) s in
      let last : ContinuesAs false false rest after = subst (λ (x : Bool). ContinuesAs false x rest after) (no_gap gap 123 125 ts) h in
      let close : ContinuesAs needs (gap_behind false ts) (tile Op 125 [] ∷ rest) (tile Op 125 [] ∷ after) =
      same Op 125 [] (subst (λ (x : Bool). ContinuesAs x false rest after) (sym (both_false needs)) last) in
      let shut : Steps V74 (stack_of code (code ∷ over) deep) (tile Op 125 [] ∷ after) =
      stepped (stack_of code (code ∷ over) deep) (stack_of code over deep) Op 125 [] after (marks_are_tokens.end_brace V74 (joined after)) refl w in
      let inner : Steps V74 (stack_of code (code ∷ over) deep) (us ++ tile Op 125 [] ∷ after) =
      f.written false (code ∷ below) (code ∷ over) depth deep (tile Op 125 [] ∷ rest) (tile Op 125 [] ∷ after) close (inner_source below depth rest whole) shut in
      subst (λ (x : List Tile). Steps V74 (stack_of code over deep) x) (sym (between_before 123 125 us after))
      (stepped (stack_of code over deep) (stack_of code (code ∷ over) deep) Op 123 [] (us ++ tile Op 125 [] ∷ after)
      (marks_are_tokens.brace V74 (joined (us ++ tile Op 125 [] ∷ after))) refl inner)

  kept : IsRewrittenTo false true code code (between 123 125 ts) (between 123 125 us)
  kept = record { goes = goes_kept; source = source_so; written = written_kept }

  -- ---- braces that become brackets

  goes_squared : (tight gap : Bool) (rest after : List Tile)
      → ContinuesAs (tight && not true) (gap_behind gap (between 123 125 ts)) rest after
      → ContinuesAs tight gap (between 123 125 ts ++ rest) (between 91 93 us ++ after)
  goes_squared tight gap rest after h = put Op 91 [] refl (token_or gap)

  written_squared : (gap : Bool) (below over : List Mode) (depth deep : ℕ) (rest after : List Tile)
      → ContinuesAs false (gap_behind gap (between 123 125 ts)) rest after
      → Steps V74 (stack_of code below depth) (between 123 125 ts ++ rest) → Steps V74 (stack_of code over deep) after
      → Steps V74 (stack_of code over deep) (between 91 93 us ++ after)
  written_squared gap below over depth deep rest after h s w =
      let whole = subst (λ (x : List Tile). Steps V74 (stack_of code below depth) x) (between_before 123 125 ts rest) s in
      let close : ContinuesAs needs (gap_behind false ts) (tile Op 125 [] ∷ rest) (tile Op 93 [] ∷ after) = put Op 93 [] refl (token_or (gap_behind false ts)) in
      let shut : Steps V74 (stack_of code over deep) (tile Op 93 [] ∷ after) =
      stepped (stack_of code over deep) (stack_of code over deep) Op 93 [] after (marks_are_tokens.end_square V74 (joined after)) refl w in
      let inner : Steps V74 (stack_of code over deep) (us ++ tile Op 93 [] ∷ after) =
      f.written false (code ∷ below) over depth deep (tile Op 125 [] ∷ rest) (tile Op 93 [] ∷ after) close (inner_source below depth rest whole) shut in
      subst (λ (x : List Tile). Steps V74 (stack_of code over deep) x) (sym (between_before 91 93 us after))
      (stepped (stack_of code over deep) (stack_of code over deep) Op 91 [] (us ++ tile Op 93 [] ∷ after)
      (marks_are_tokens.square V74 (joined (us ++ tile Op 93 [] ∷ after))) refl inner)

  squared : IsRewrittenTo false true code code (between 123 125 ts) (between 91 93 us)
  squared = record { goes = goes_squared; source = source_so; written = written_squared }

pub braces_become : BracesBecome
braces_become needs stops ts us f = kept needs stops ts us f

pub braces_are_squared : BracesAreSquared
braces_are_squared needs stops ts us f = squared needs stops ts us f
