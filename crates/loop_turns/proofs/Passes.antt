-- At the node of a loop no pass comes without a turn.
use Rattle.std.specs.Prelude.{◌≡◌, ℕ, zero, suc, ◌+◌, ◌≤◌, ◌<◌, List, ◌++◌, ◌∷◌, Bool, true, false, ◌&&◌, ◌||◌, IsTrue, nat_lt, refl}
use Rattle.std.proofs.Common.{ap, sym, subst, ◌∙◌, arith}
use Rattle.std.proofs.lemmas.Bool.{ltb-true, lt-ltb}
use Rattle.php_tree.specs.declared.kind.NodeKind.{NodeKind}
use Rattle.php_tree.specs.declared.kind.NodeKind.TheVariants as kind
use Rattle.php_tree.specs.Tree.{Forest}
use Rattle.scope_names.specs.Form.{form}
use Rattle.scope_names.specs.Sites.{Site, within}
use Rattle.php_meaning.specs.names.Tables.{Tables}
use Rattle.php_meaning.specs.Cause.{NoRule}
use Rattle.php_meaning.specs.runs.World.{Outside, World}
use Rattle.php_meaning.specs.runs.Script.{Out, Mode, Kid, Again, There, File, Script, Give, Stop, Finish, Look, Put, Echo, Turn, Ask, Run}
use Rattle.php_meaning.specs.Rules.{rule}
use Rattle.php_meaning.specs.runs.Run.{Mark, Result, Done, Over, then_do, with_turn, play, Entry, FileStart, DeclarationStart, place_in, going, repeated, step, is_newer}
use Rattle.loop_turns.specs.Laws.{HasNoMore, NeverRises, is_loop, statement_at, has_body, LoopsTakeTurns}
use Rattle.loop_turns.proofs.Turns.{repeated_rises, pass_rises, step_rises, HasLess, statement_less}
use Rattle.loop_turns.proofs.Scripts.{is_read, is_pass, Safe, BodyTakes, passes_safe, first_safe}

-- ---- turns

-- fewer turns are left than `n`, where one was taken; or not more
abbrev Below : Bool → ℕ → ℕ → Type 0
Below true n a = a < n
Below false n a = a ≤ n

below_true : (b : Bool) (n a : ℕ) → IsTrue b → Below b n a → a < n
below_true true n a e q = q
below_true false n a e q = absurd cc

below_more : (b z : Bool) (n a c : ℕ) → Below b n a → c ≤ a → (IsTrue z → c < a) → Below (b || z) n c
below_more true z n a c q r f = let g : a < n = q in omega (arith, g, r)
below_more false true n a c q r f = let g : a ≤ n = q in let i : c < a = f refl in omega (arith, g, i)
below_more false false n a c q r f = let g : a ≤ n = q in omega (arith, g, r)

below_less : (b : Bool) (n a c : ℕ) → Below b n a → c ≤ a → Below b n c
below_less true n a c q r = let g : a < n = q in omega (arith, g, r)
below_less false n a c q r = let g : a ≤ n = q in omega (arith, g, r)

below_turn : (b : Bool) (n a m : ℕ) → Below b n a → a ≡ suc m → m < n
below_turn true n a m q e = let g : a < n = q in omega (arith, g, e)
below_turn false n a m q e = let g : a ≤ n = q in omega (arith, g, e)

back_of : (a b : Bool) → IsTrue (a && b) → IsTrue b
back_of true b h = h
back_of false b h = absurd cc

then_same : (r : Result) (f g : Out → World → Result) → ((o : Out) (u : World) → r ≡ Done o u → f o u ≡ g o u) → then_do r f ≡ then_do r g
then_same (Done o u) f g h = h o u refl
then_same (Over e u) f g h = refl

turn_same : (w : World) (n : ℕ) (f g : World → Result) → w.turns ≡ n → ((m : ℕ) → w.turns ≡ suc m → f (record w { turns = m }) ≡ g (record w { turns = m }))
    → with_turn w n f ≡ with_turn w n g
turn_same w zero f g e h = refl
turn_same w (suc n) f g e h = h n e

body_takes : (c : Forest) (k : NodeKind) → IsTrue (is_loop k) → IsTrue (has_body k c) → BodyTakes (λ i. statement_at i c) k (form c)
body_takes c kind.While l h = h
body_takes c kind.DoWhile l h = h
body_takes c kind.For l h = h
body_takes c kind.Foreach l h = h
body_takes c k l h = absurd cc

-- ---- passes

module _ (v : Bool) (t : Tables) (marks : List Mark) (lower : Entry → World → Result) (h : (e : Entry) → NeverRises (lower e))
    (s : Site) (k : NodeKind) (c : Forest) (l : IsTrue (is_loop k)) (has : IsTrue (has_body k c)) (id : ℕ) where
  abbrev p : ℕ → Bool
  p i = statement_at i c

  abbrev kid : ℕ → Mode → World → Result
  kid = step v t marks lower (within k c s) c (suc id)

  kid_rises : (i : ℕ) (m : Mode) → NeverRises (kid i m)
  kid_rises i m = step_rises v t marks lower h (within k c s) c (suc id) i m

  kid_less : (i : ℕ) (m : Mode) (w : World) → IsTrue (is_read m && p i) → HasLess w.turns (kid i m w)
  kid_less i m w e = statement_less v t marks lower h (within k c s) c (suc id) i m (back_of (is_read m) (p i) e) w

  -- two ways to go on that do the same where fewer turns are left
  module _ (x y : Mode → World → Result) (rises : (m : Mode) → NeverRises (y m)) where
    abbrev Agree : ℕ → Type 0
    Agree n = (m : Mode) → IsTrue (is_pass m) → (u : World) → u.turns < n → x m u ≡ y m u

    abbrev by_x : (Out → Script) → Out → World → Result
    by_x j o u = play v (place_in s id) (going lower kid x) (j o) u

    abbrev by_y : (Out → Script) → Out → World → Result
    by_y j o u = play v (place_in s id) (going lower kid y) (j o) u

    play_same : (n : ℕ) → Agree n → (b : Bool) (sc : Script) → Safe p b sc → (w : World) → Below b n w.turns
        → play v (place_in s id) (going lower kid x) sc w ≡ play v (place_in s id) (going lower kid y) sc w
    play_same n a b (Give o) f w q = refl
    play_same n a b (Stop cause) f w q = refl
    play_same n a b (Finish status) f w q = refl
    play_same n a b (Look j) f w q = play_same n a b (j w.store) (f w.store) w q
    play_same n a b (Put st j) f w q = play_same n a b j f (record w { store = st }) q
    play_same n a b (Echo bytes j) f w q = play_same n a b j f (record w { echo = w.echo ++ bytes }) q
    play_same n a b (Turn j) f w q =
        turn_same w w.turns (λ u. play v (place_in s id) (going lower kid x) j u) (λ u. play v (place_in s id) (going lower kid y) j u) refl
        (λ m e. play_same n a true j f (record w { turns = m }) (below_turn b n w.turns m q e))
    play_same n a b (Ask point j) f w q = play_same n a b (j v) (f v) (record w { asked = record { place = place_in s id; point = point } ∷ w.asked }) q
    play_same n a b (Run (Kid i m) j) f w q =
        then_same (kid i m w) (by_x j) (by_y j) (λ o u e. play_same n a (b || (is_read m && p i)) (j o) (f.1 o) u
        (below_more b (is_read m && p i) n w.turns u.turns q (subst (HasNoMore w.turns) e (kid_rises i m w)) (λ z. subst (HasLess w.turns) e (kid_less i m w z))))
    play_same n a b (Run (Again m) j) f w q =
        ap (λ r. then_do r (by_x j)) (a m f.0.1 w (below_true b n w.turns f.0.0 q))
        ∙ then_same (y m w) (by_x j) (by_y j) (λ o u e. play_same n a b (j o) (f.1 o) u (below_less b n w.turns u.turns q (subst (HasNoMore w.turns) e (rises m w))))
    play_same n a b (Run (There d m) j) f w q =
        then_same (lower (DeclarationStart d m) w) (by_x j) (by_y j) (λ o u e. play_same n a b (j o) (f.1 o) u
        (below_less b n w.turns u.turns q (subst (HasNoMore w.turns) e (h (DeclarationStart d m) w))))
    play_same n a b (Run (File path) j) f w q =
        then_same (lower (FileStart path) w) (by_x j) (by_y j) (λ o u e. play_same n a b (j o) (f.1 o) u
        (below_less b n w.turns u.turns q (subst (HasNoMore w.turns) e (h (FileStart path) w))))

  abbrev pass : (Mode → World → Result) → Mode → World → Result
  pass again m u = play v (place_in s id) (going lower kid again) (rule t s k m (form c)) u

  pass_same : (x y : Mode → World → Result) → ((m : Mode) → NeverRises (y m)) → (m : Mode) → IsTrue (is_pass m) → (u : World)
      → ((j : Mode) → IsTrue (is_pass j) → (a : World) → a.turns < u.turns → x j a ≡ y j a) → pass x m u ≡ pass y m u
  pass_same x y rises m e u a =
      play_same x y rises u.turns a false (rule t s k m (form c)) (passes_safe p t s (form c) k l (body_takes c k l has) m e) u (omega arith)

  -- where no turn was taken, any end that gives no turns
  abbrev stops : Mode → World → Result
  stops m w = Over (Outside (place_in s id) NoRule) w

  stops_rises : (n left : ℕ) (m : Mode) → NeverRises (repeated 1 stops pass n left m)
  stops_rises n left m = repeated_rises 1 stops (λ i u. tt) pass (pass_rises v t marks lower h s k c id kid kid_rises) n left m

  module _ (cut : Mode → World → Result) where
    abbrev Alike : ℕ → ℕ → ℕ → Type 0
    Alike n left bound = (m : Mode) → IsTrue (is_pass m) → (u : World) → u.turns < bound
        → repeated 1 cut pass n left m u ≡ repeated 1 stops pass n left m u

    -- a pass with fewer turns left than at the last one comes after a turn
    later : (n left : ℕ) → Alike n left n
    later zero left m e u q = absurd (none q)
      where
        none : u.turns < 0 → ⊥
        none r = omega (arith, r)
    later (suc n) zero m e u q =
        let taken : nat_lt u.turns (suc n) ≡ true = lt-ltb u.turns (suc n) q in
        ap (λ b. elim b as (λ r. Result) [ true ↦ pass (repeated 1 cut pass n 1) m u | false ↦ cut m u ]) taken
        ∙ pass_same (repeated 1 cut pass n 1) (repeated 1 stops pass n 1) (stops_rises n 1) m e u (λ j i a r. later n 1 j i a (omega (arith, q, r)))
        ∙ sym (ap (λ b. elim b as (λ r. Result) [ true ↦ pass (repeated 1 stops pass n 1) m u | false ↦ stops m u ]) taken)
    later (suc n) (suc left) m e u q =
        let taken : nat_lt u.turns (suc n) ≡ true = lt-ltb u.turns (suc n) q in
        ap (λ b. elim b as (λ r. Result) [ true ↦ pass (repeated 1 cut pass n 1) m u | false ↦ pass (repeated 1 cut pass (suc n) left) m u ]) taken
        ∙ pass_same (repeated 1 cut pass n 1) (repeated 1 stops pass n 1) (stops_rises n 1) m e u (λ j i a r. later n 1 j i a (omega (arith, q, r)))
        ∙ sym (ap (λ b. elim b as (λ r. Result) [ true ↦ pass (repeated 1 stops pass n 1) m u | false ↦ pass (repeated 1 stops pass (suc n) left) m u ]) taken)

    -- the first further pass, with a turn taken or not
    first : (n : ℕ) (m : Mode) → IsTrue (is_pass m) → (u : World) → u.turns ≤ n → repeated 1 cut pass n 1 m u ≡ repeated 1 stops pass n 1 m u
    first zero m e u q =
        pass_same (repeated 1 cut pass zero zero) (repeated 1 stops pass zero zero) (stops_rises zero zero) m e u (λ j i a r. later zero zero j i a (omega (arith, q, r)))
    first (suc n) m e u q = by_turn (nat_lt u.turns (suc n)) refl
      where
        by_turn : (b : Bool) → nat_lt u.turns (suc n) ≡ b
            → elim b as (λ r. Result) [ true ↦ pass (repeated 1 cut pass n 1) m u | false ↦ pass (repeated 1 cut pass (suc n) zero) m u ]
            ≡ elim b as (λ r. Result) [ true ↦ pass (repeated 1 stops pass n 1) m u | false ↦ pass (repeated 1 stops pass (suc n) zero) m u ]
        by_turn true d =
            let less : u.turns < suc n = ltb-true u.turns (suc n) d in
            pass_same (repeated 1 cut pass n 1) (repeated 1 stops pass n 1) (stops_rises n 1) m e u (λ j i a r. later n 1 j i a (omega (arith, less, r)))
        by_turn false d =
            pass_same (repeated 1 cut pass (suc n) zero) (repeated 1 stops pass (suc n) zero) (stops_rises (suc n) zero) m e u
            (λ j i a r. later (suc n) zero j i a (omega (arith, q, r)))

    whole : (m : Mode) (w : World) → pass (repeated 1 cut pass w.turns 1) m w ≡ pass (repeated 1 stops pass w.turns 1) m w
    whole m w =
        play_same (repeated 1 cut pass w.turns 1) (repeated 1 stops pass w.turns 1) (stops_rises w.turns 1) (suc w.turns)
        (λ j i u r. first w.turns j i u (omega (arith, r)))
        true (rule t s k m (form c)) (first_safe p t s (form c) k l (body_takes c k l has) m) w (omega arith)

pub loops_take_turns : LoopsTakeTurns
loops_take_turns v t marks lower h s k c l has id m w cut = whole (is_newer v) t marks lower h s k c l has id cut m w
