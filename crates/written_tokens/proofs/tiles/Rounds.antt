-- Parentheses that stay round a row of code, or come in round it.
use Rattle.std.proofs.Common.{◌≡◌, ℕ, Bool, true, false, not, ◌&&◌, ◌||◌, List, [], ◌∷◌, ◌++◌, refl, sym, ◌∙◌, subst}
use Rattle.std.proofs.lemmas.Bool.{or_right}
use Rattle.php_tree.specs.declared.version.Version.TheVariants.{V74}
use Rattle.php_spellings.specs.declared.table.Kind.TheVariants.{Op}
use Rattle.php_lexer.specs.Modes.{Mode, code}
use Rattle.php_relexing.specs.Tiles.{Tile, tile, joined}
use Rattle.php_relexing.specs.Spelled.{Steps}
use Rattle.php_relexing.specs.Words.{begins_cast}
use Rattle.php_relexing.proofs.Openings.{openings_are_uncast}
use Rattle.php_relexing.proofs.WrittenTokens.{marks_are_tokens}
use Rattle.written_tokens.specs.tokens.Levels.{stack_of}
use Rattle.written_tokens.specs.tiles.ContinuesAs.{begins_token, ContinuesAs, same, put}
use Rattle.written_tokens.specs.tiles.IsRewrittenTo.{gap_behind, IsRewrittenTo}
use Rattle.written_tokens.specs.tiles.Edits.{between, is_uncast, RoundsBecome, RoundsComeIn}
use Rattle.written_tokens.proofs.tiles.Ahead.{coded, cast_is, uncast}
use Rattle.written_tokens.proofs.tiles.AheadFrom.{code_continues}
use Rattle.written_tokens.proofs.tiles.Braces.{between_before, no_gap, both_false}
use Rattle.written_tokens.proofs.tiles.Going.{tighter}
use Rattle.written_tokens.proofs.tiles.Standing.{begins_is}
use Rattle.written_tokens.proofs.tiles.Stepping.{stepped, longest_in, steps_behind}

-- `(` before what begins no cast
opening : (over : List Mode) (deep : ℕ) (us : List Tile) → begins_cast (joined us) ≡ false
    → Steps V74 (stack_of code over deep) us → Steps V74 (stack_of code over deep) (tile Op 40 [] ∷ us)
opening over deep us h w =
    stepped (stack_of code over deep) (stack_of code over deep) Op 40 [] us (openings_are_uncast.opens V74 (joined us) h) refl w

closing : (over : List Mode) (deep : ℕ) (after : List Tile) → Steps V74 (stack_of code over deep) after → Steps V74 (stack_of code over deep) (tile Op 41 [] ∷ after)
closing over deep after w =
    stepped (stack_of code over deep) (stack_of code over deep) Op 41 [] after (marks_are_tokens.closing V74 (joined after)) refl w

module _ (needs stops : Bool) (ts us : List Tile) (f : IsRewrittenTo needs stops code code ts us) where
  inner_source : (below : List Mode) (depth : ℕ) (rest : List Tile)
      → Steps V74 (stack_of code below depth) (tile Op 40 [] ∷ ts ++ tile Op 41 [] ∷ rest)
      → Steps V74 (stack_of code below depth) (ts ++ tile Op 41 [] ∷ rest)
  inner_source below depth rest h = steps_behind (stack_of code below depth) (stack_of code below depth) Op 40 [] (ts ++ tile Op 41 [] ∷ rest) refl h

  source_so : (below : List Mode) (depth : ℕ) (rest : List Tile) → Steps V74 (stack_of code below depth) (between 40 41 ts ++ rest) → Steps V74 (stack_of code below depth) rest
  source_so below depth rest h =
      let whole = subst (λ (x : List Tile). Steps V74 (stack_of code below depth) x) (between_before 40 41 ts rest) h in
      steps_behind (stack_of code below depth) (stack_of code below depth) Op 41 [] rest refl
      (f.source below depth (tile Op 41 [] ∷ rest) (inner_source below depth rest whole))

  close_so : (x gap : Bool) (rest after : List Tile) → ContinuesAs false false rest after → ContinuesAs x gap (tile Op 41 [] ∷ rest) (tile Op 41 [] ∷ after)
  close_so x gap rest after h = same Op 41 [] (subst (λ (t : Bool). ContinuesAs t false rest after) (sym (both_false x)) h)

  goes_so : (tight gap : Bool) (rest after : List Tile) → ContinuesAs (tight && not true) (gap_behind gap (between 40 41 ts))
      rest after → ContinuesAs tight gap (between 40 41 ts ++ rest) (between 40 41 us ++ after)
  goes_so tight gap rest after h =
      let last : ContinuesAs false false rest after =
      tighter (tight && not true) false (λ e. absurd cc) (subst (λ (x : Bool). ContinuesAs (tight && not true) x rest after) (no_gap gap 40 41 ts) h) in
      subst (λ (x : List Tile). ContinuesAs tight gap x (between 40 41 us ++ after)) (sym (between_before 40 41 ts rest))
      (subst (λ (x : List Tile). ContinuesAs tight gap (tile Op 40 [] ∷ ts ++ tile Op 41 [] ∷ rest) x) (sym (between_before 40 41 us after))
      (same Op 40 []
      (f.goes (tight && not true) false (tile Op 41 [] ∷ rest) (tile Op 41 [] ∷ after) (close_so ((tight && not true) && not stops) (gap_behind false ts) rest after last))))

  written_so : (gap : Bool) (below over : List Mode) (depth deep : ℕ) (rest after : List Tile)
      → ContinuesAs false (gap_behind gap (between 40 41 ts)) rest after
      → Steps V74 (stack_of code below depth) (between 40 41 ts ++ rest) → Steps V74 (stack_of code over deep) after
      → Steps V74 (stack_of code over deep) (between 40 41 us ++ after)
  written_so gap below over depth deep rest after h s w =
      let whole = subst (λ (x : List Tile). Steps V74 (stack_of code below depth) x) (between_before 40 41 ts rest) s in
      let last : ContinuesAs false false rest after = subst (λ (x : Bool). ContinuesAs false x rest after) (no_gap gap 40 41 ts) h in
      let old = inner_source below depth rest whole in
      let inner : Steps V74 (stack_of code over deep) (us ++ tile Op 41 [] ∷ after) =
      f.written false below over depth deep (tile Op 41 [] ∷ rest) (tile Op 41 [] ∷ after) (close_so needs (gap_behind false ts) rest after last) old (closing over deep after w) in
      let uncast_old = openings_are_uncast.none V74 (joined (ts ++ tile Op 41 [] ∷ rest)) (longest_in (stack_of code below depth) Op 40 [] (ts ++ tile Op 41 [] ∷ rest) whole) in
      let on : ContinuesAs true false (ts ++ tile Op 41 [] ∷ rest) (us ++ tile Op 41 [] ∷ after) =
      f.goes true false (tile Op 41 [] ∷ rest) (tile Op 41 [] ∷ after) (close_so (true && not stops) (gap_behind false ts) rest after last) in
      let so = code_continues below over depth deep (ts ++ tile Op 41 [] ∷ rest) (us ++ tile Op 41 [] ∷ after) old inner in
      subst (λ (x : List Tile). Steps V74 (stack_of code over deep) x) (sym (between_before 40 41 us after))
      (opening over deep (us ++ tile Op 41 [] ∷ after) (so.cast false on uncast_old) inner)

  kept : IsRewrittenTo false true code code (between 40 41 ts) (between 40 41 us)
  kept = record { goes = goes_so; source = source_so; written = written_so }

pub rounds_become : RoundsBecome
rounds_become needs stops ts us f = kept needs stops ts us f

-- ---- parentheses that come in

begins_more : (ts rest : List Tile) → begins_token ts ≡ true → begins_token (ts ++ rest) ≡ true
begins_more [] rest h = absurd cc
begins_more (tile kind b a ∷ ts) rest h = begins_is kind b a (ts ++ rest) ∙ sym (begins_is kind b a ts) ∙ h

ends_token : (gap : Bool) (ts : List Tile) → begins_token ts ≡ true → gap_behind true ts ≡ false → gap_behind gap ts ≡ false
ends_token gap [] h k = absurd cc
ends_token gap (tile kind b a ∷ ts) h k = k

gapless_put : (gap : Bool) (ts : List Tile) → gap ≡ false → (not gap || begins_token ts) ≡ true
gapless_put gap ts e = rw e refl

module _ (ts us : List Tile) (first : begins_token ts ≡ true) (last : gap_behind true ts ≡ false) (safe : is_uncast ts ≡ true) (f : IsRewrittenTo false true code code ts us) where
  goes_in : (tight gap : Bool) (rest after : List Tile) → ContinuesAs (tight && not true) (gap_behind gap ts) rest after → ContinuesAs tight gap (ts ++ rest) (between 40 41 us ++ after)
  goes_in tight gap rest after h = put Op 40 [] refl (or_right (not gap) (begins_token (ts ++ rest)) (begins_more ts rest first))

  written_in : (gap : Bool) (below over : List Mode) (depth deep : ℕ) (rest after : List Tile)
      → ContinuesAs false (gap_behind gap ts) rest after → Steps V74 (stack_of code below depth) (ts ++ rest)
      → Steps V74 (stack_of code over deep) after → Steps V74 (stack_of code over deep) (between 40 41 us ++ after)
  written_in gap below over depth deep rest after h s w =
      let close : ContinuesAs false (gap_behind gap ts) rest (tile Op 41 [] ∷ after) = put Op 41 [] refl (gapless_put (gap_behind gap ts) rest (ends_token gap ts first last)) in
      let inner : Steps V74 (stack_of code over deep) (us ++ tile Op 41 [] ∷ after) =
      f.written gap below over depth deep rest (tile Op 41 [] ∷ after) close s (closing over deep after w) in
      let uncast_old : begins_cast (joined (ts ++ rest)) ≡ false = cast_is (ts ++ rest) (coded below depth (ts ++ rest) s) ∙ uncast ts rest safe in
      let on : ContinuesAs true gap (ts ++ rest) (us ++ tile Op 41 [] ∷ after) = f.goes true gap rest (tile Op 41 [] ∷ after) close in
      let so = code_continues below over depth deep (ts ++ rest) (us ++ tile Op 41 [] ∷ after) s inner in
      subst (λ (x : List Tile). Steps V74 (stack_of code over deep) x) (sym (between_before 40 41 us after))
      (opening over deep (us ++ tile Op 41 [] ∷ after) (so.cast gap on uncast_old) inner)

  come_in : IsRewrittenTo false true code code ts (between 40 41 us)
  come_in = record { goes = goes_in; source = f.source; written = written_in }

pub rounds_come_in : RoundsComeIn
rounds_come_in ts us first last safe f = come_in ts us first last safe f
