-- Rows that become others join.
use Rattle.std.proofs.Common.{◌≡◌, ℕ, Bool, true, false, not, ◌&&◌, ◌||◌, List, [], ◌∷◌, ◌++◌, refl, sym, subst, append_assoc}
use Rattle.std.proofs.lemmas.Bool.{or_left, or_right}
use Rattle.php_tree.specs.declared.version.Version.TheVariants.{V74}
use Rattle.php_lexer.specs.Modes.{Mode}
use Rattle.php_relexing.specs.Tiles.{Tile, tile}
use Rattle.php_relexing.specs.Spelled.{Steps}
use Rattle.written_tokens.specs.tokens.Levels.{stack_of}
use Rattle.written_tokens.specs.tiles.ContinuesAs.{is_trivia, ContinuesAs}
use Rattle.written_tokens.specs.tiles.IsRewrittenTo.{gap_behind, IsRewrittenTo, RewritingsJoin, IsRewrittenLoosely}
use Rattle.written_tokens.proofs.tiles.Bools.{and_true, and_not_or, never}
use Rattle.written_tokens.proofs.tiles.Going.{tighter}

pub gap_append : (gap : Bool) (ts us : List Tile) → gap_behind gap (ts ++ us) ≡ gap_behind (gap_behind gap ts) us
gap_append gap [] us = refl
gap_append gap (tile kind b a ∷ ts) us = gap_append (is_trivia kind) ts us

module _ (needs stops need stop : Bool) (m n p : Mode) (ts us ts' us' : List Tile) (f : IsRewrittenTo needs stops m n ts us) (g : IsRewrittenTo need stop n p ts' us') where
  goes_so : (tight gap : Bool) (rest after : List Tile) → ContinuesAs (tight && not (stops || stop))
      (gap_behind gap (ts ++ ts')) rest after → ContinuesAs tight gap ((ts ++ ts') ++ rest) ((us ++ us') ++ after)
  goes_so tight gap rest after h =
      let there : ContinuesAs ((tight && not stops) && not stop) (gap_behind (gap_behind gap ts) ts') rest after =
      subst (λ (x : Bool). ContinuesAs x (gap_behind (gap_behind gap ts) ts') rest after) (and_not_or tight stops stop)
      (subst (λ (x : Bool). ContinuesAs (tight && not (stops || stop)) x rest after) (gap_append gap ts ts') h) in
      subst (λ (x : List Tile). ContinuesAs tight gap x ((us ++ us') ++ after)) (sym (append_assoc ts ts' rest))
      (subst (λ (x : List Tile). ContinuesAs tight gap (ts ++ (ts' ++ rest)) x) (sym (append_assoc us us' after))
      (f.goes tight gap (ts' ++ rest) (us' ++ after) (g.goes (tight && not stops) (gap_behind gap ts) rest after there)))

  source_so : (below : List Mode) (depth : ℕ) (rest : List Tile) → Steps V74 (stack_of m below depth) ((ts ++ ts') ++ rest) → Steps V74 (stack_of p below depth) rest
  source_so below depth rest h =
      g.source below depth rest
      (f.source below depth (ts' ++ rest) (subst (λ (x : List Tile). Steps V74 (stack_of m below depth) x) (append_assoc ts ts' rest) h))

  written_so : (gap : Bool) (below over : List Mode) (depth deep : ℕ) (rest after : List Tile)
      → ContinuesAs (need || (needs && not stop)) (gap_behind gap (ts ++ ts')) rest after
      → Steps V74 (stack_of m below depth) ((ts ++ ts') ++ rest) → Steps V74 (stack_of p over deep) after
      → Steps V74 (stack_of m over deep) ((us ++ us') ++ after)
  written_so gap below over depth deep rest after h s w =
      let there : ContinuesAs (need || (needs && not stop)) (gap_behind (gap_behind gap ts) ts') rest after =
      subst (λ (x : Bool). ContinuesAs (need || (needs && not stop)) x rest after) (gap_append gap ts ts') h in
      let whole : Steps V74 (stack_of m below depth) (ts ++ (ts' ++ rest)) =
      subst (λ (x : List Tile). Steps V74 (stack_of m below depth) x) (append_assoc ts ts' rest) s in
      let inner : Steps V74 (stack_of n over deep) (us' ++ after) =
      g.written (gap_behind gap ts) below over depth deep rest after
      (tighter (need || (needs && not stop)) need (λ e. or_left need (needs && not stop) e) there)
      (f.source below depth (ts' ++ rest) whole) w in
      subst (λ (x : List Tile). Steps V74 (stack_of m over deep) x) (sym (append_assoc us us' after))
      (f.written gap below over depth deep (ts' ++ rest) (us' ++ after)
      (g.goes needs (gap_behind gap ts) rest after
      (tighter (need || (needs && not stop)) (needs && not stop) (λ e. or_right need (needs && not stop) e) there))
      whole inner)

  joined_so : IsRewrittenTo (need || (needs && not stop)) (stops || stop) m p (ts ++ ts') (us ++ us')
  joined_so = record { goes = goes_so; source = source_so; written = written_so }

pub becomes_join : RewritingsJoin
becomes_join needs stops need stop m n p ts us ts' us' f g = joined_so needs stops need stop m n p ts us ts' us' f g

-- ---- where less is known

nothing : (m : Mode) → IsRewrittenTo false false m m [] []
nothing m = record {
  goes = λ tight gap rest after h. subst (λ (x : Bool). ContinuesAs x gap rest after) (and_true tight) h;
  source = λ below depth rest h. h;
  written = λ gap below over depth deep rest after h s w. w;
}

unstopped : (needs stops : Bool) (m n : Mode) (ts us : List Tile) → IsRewrittenTo needs true m n ts us → IsRewrittenTo needs stops m n ts us
unstopped needs stops m n ts us f = record {
  goes = λ tight gap rest after h. f.goes tight gap rest after (tighter (tight && not stops) (tight && not true) (λ e. never tight (tight && not stops) e) h);
  source = f.source;
  written = f.written;
}

needless : (needs stops : Bool) (m n : Mode) (ts us : List Tile) → IsRewrittenTo false stops m n ts us → IsRewrittenTo needs stops m n ts us
needless needs stops m n ts us f = record {
  goes = f.goes;
  source = f.source;
  written = λ gap below over depth deep rest after h s w. f.written gap below over depth deep rest after (tighter needs false (λ e. absurd cc) h) s w;
}

pub becomes_loosely : IsRewrittenLoosely
becomes_loosely = record { nothing = nothing; unstopped = unstopped; needless = needless }
