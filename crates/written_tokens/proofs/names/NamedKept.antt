-- What is true of each tile of a row stays so once its names are edited.
use Rattle.std.proofs.Common.{◌≡◌, ℕ, Bool, true, List, [], ◌∷◌, ◌++◌, refl}
use Rattle.std.proofs.lemmas.Bool.{and_parts}
use Rattle.php_spellings.specs.declared.table.Kind.{Kind}
use Rattle.php_spellings.specs.declared.table.Kind.TheVariants.{Space, Word, Op}
use Rattle.php_relexing.specs.Tiles.{Tile, tile}
use Rattle.written_tokens.specs.names.Named.{Named, none, same, spaced, closed, rooted, all_tiles, NamedKeeps}

module _ (p : Kind → ℕ → List ℕ → Bool) (blank : p Space 32 [] ≡ true) where
  behind : (trivia ts : List Tile) → all_tiles p (trivia ++ ts) ≡ true → all_tiles p ts ≡ true
  behind [] ts h = h
  behind (tile kind b a ∷ trivia) ts h = behind trivia ts (and_parts (p kind b a) (all_tiles p (trivia ++ ts)) h).1

  kept : {gap : Bool} {ts us : List Tile} → Named gap ts us → all_tiles p ts ≡ true → all_tiles p us ≡ true
  kept none h = refl
  kept (same {ts = ts} kind b a g) h =
      let (one, more) = and_parts (p kind b a) (all_tiles p ts) h in
      rw (one, kept g more) refl
  kept (spaced g) h = rw (blank, kept g h) refl
  kept (closed {ts = ts} trivia f g) h = kept g (behind trivia (tile Op 92 [] ∷ ts) h)
  kept (rooted {ts = ts} trivia b a f g) h =
      let (one, more) = and_parts (p Op 92 []) (all_tiles p (trivia ++ tile Word b a ∷ ts)) h in
      rw (one, kept g (behind trivia (tile Word b a ∷ ts) more)) refl

pub named_keeps : NamedKeeps
named_keeps p gap ts us h blank k = kept p blank h k
