-- States of names in order: which lets more come.
use Rattle.std.proofs.Common.{◌≡◌, Bool, true, false, not, ◌||◌, refl, ap, ◌∙◌}
use Rattle.php_tree.specs.Tree.{Forest, none, leaf, node}
use Rattle.rewritten_shapes.specs.paired.Names.{
  Part,
  State,
  bad,
  blank,
  calm,
  edge,
  edged,
  failed,
  key,
  keyed,
  label,
  mark,
  other,
  root,
  rooted,
  rooted_key,
  run,
  space,
  step,
  worded,
}
use Rattle.rewritten_shapes.proofs.paired.States.{all_are, all_states, implied}

-- whether whatever may come in the second state may come in the first
abbrev pub is_below : State → State → Bool
is_below _ failed = true
is_below calm _ = true
is_below keyed keyed = true
is_below rooted rooted = true
is_below rooted rooted_key = true
is_below rooted_key rooted_key = true
is_below worded worded = true
is_below worded edged = true
is_below edged edged = true
is_below _ _ = false

-- a test of all states in order
abbrev pub all_below : (State → State → Bool) → Bool
all_below p = all_states (λ u. all_states (λ s. not (is_below u s) || p u s))

pub by_below : (p : State → State → Bool) → all_below p ≡ true → (u s : State) → is_below u s ≡ true → p u s ≡ true
by_below p e u s h =
    implied (is_below u s) (p u s) (all_are (λ s. not (is_below u s) || p u s) (all_are (λ u. all_states (λ s. not (is_below u s) || p u s)) e u) s) h

pub below_failed : (u : State) → is_below u failed ≡ true
below_failed u = all_are (λ u. is_below u failed) refl u

pub below_same : (u : State) → is_below u u ≡ true
below_same u = all_are (λ u. is_below u u) refl u

pub below_trans : (u s v : State) → is_below u s ≡ true → is_below s v ≡ true → is_below u v ≡ true
below_trans u s v e h =
    implied (is_below s v) (is_below u v) (all_are (λ v. not (is_below s v) || is_below u v)
    (by_below (λ u s. all_states (λ v. not (is_below s v) || is_below u v)) refl u s e) v) h

pub edge_above : (s : State) → is_below s (edge s) ≡ true
edge_above s = all_are (λ s. is_below s (edge s)) refl s

pub edge_twice : (s : State) → edge (edge s) ≡ edge s
edge_twice failed = refl
edge_twice calm = refl
edge_twice keyed = refl
edge_twice rooted = refl
edge_twice rooted_key = refl
edge_twice worded = refl
edge_twice edged = refl

pub edge_below : (u s : State) → is_below u s ≡ true → is_below (edge u) (edge s) ≡ true
edge_below u s e = by_below (λ u s. is_below (edge u) (edge s)) refl u s e

pub step_below : (u s : State) (p : Part) → is_below u s ≡ true → is_below (step u p) (step s p) ≡ true
step_below u s root e = by_below (λ u s. is_below (step u root) (step s root)) refl u s e
step_below u s label e = by_below (λ u s. is_below (step u label) (step s label)) refl u s e
step_below u s space e = by_below (λ u s. is_below (step u space) (step s space)) refl u s e
step_below u s key e = by_below (λ u s. is_below (step u key) (step s key)) refl u s e
step_below u s mark e = by_below (λ u s. is_below (step u mark) (step s mark)) refl u s e
step_below u s blank e = by_below (λ u s. is_below (step u blank) (step s blank)) refl u s e
step_below u s other e = by_below (λ u s. is_below (step u other) (step s other)) refl u s e
step_below u s bad e = by_below (λ u s. is_below (step u bad) (step s bad)) refl u s e

pub run_failed : (f : Forest) → run failed f ≡ failed
run_failed none = refl
run_failed (leaf x f) = run_failed f
run_failed (node j c f) = ap (λ (s : State). run (edge s) f) (run_failed c) ∙ run_failed f
