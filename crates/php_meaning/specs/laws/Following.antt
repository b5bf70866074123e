-- One run that does what another one does, wherever that one is not outside.
use Rattle.std.specs.Prelude.{◌≡◌}
use Rattle.php_meaning.specs.runs.World.{End, World}
use Rattle.php_meaning.specs.runs.Script.{Out}
use Rattle.php_meaning.specs.runs.Run.{Result, Done, Over}
use Rattle.php_meaning.specs.laws.Laws.{IsInside}

-- equal but for what was told
pub record Same (w u : World) : Type 0 where
  pub store : u.store ≡ w.store
  pub echo : u.echo ≡ w.echo
  pub turns : u.turns ≡ w.turns

-- the second comes to the same
abbrev pub DoneAlike : Out → World → Result → Type 0
DoneAlike o w (Done p u) = (p ≡ o) × Same w u
DoneAlike o w (Over e u) = ⊥

-- the second is over in the same way
abbrev pub OverAlike : End → World → Result → Type 0
OverAlike e w (Done p u) = ⊥
OverAlike e w (Over d u) = (d ≡ e) × Same w u

-- where the first is not outside, the second does the same
abbrev pub Follows : Result → Result → Type 0
Follows (Done o w) r = DoneAlike o w r
Follows (Over e w) r = IsInside e → OverAlike e w r

pub record Alike (m n : World → Result) : Type 0 where
  pub follows : (w u : World) → Same w u → Follows (m w) (n u)
