-- Where a run goes on past its bound, it had to take a turn and none was left.
use Rattle.std.specs.Prelude.{◌≡◌, ℕ, zero, suc, ◌+◌, List, ◌++◌, ◌∷◌, Bool, true, false, ◌&&◌, nat_eq, nat_lt, refl, Option, Some, None}
use Rattle.php_tree.specs.declared.kind.NodeKind.{NodeKind}
use Rattle.php_tree.specs.Tree.{Forest, none, leaf, node, count}
use Rattle.scope_names.specs.Slot.{Declared}
use Rattle.scope_names.specs.Form.{form, kids}
use Rattle.scope_names.specs.Sites.{Site, file_site, is_declaration, within, beside}
use Rattle.php_meaning.specs.names.Tables.{Tables, tables_of}
use Rattle.php_meaning.specs.Cause.{NoRule}
use Rattle.php_meaning.specs.runs.World.{Bytes, Place, Going, Ended, Threw, Outside, Before, World}
use Rattle.php_meaning.specs.runs.Script.{
  Return,
  Throw,
  Break,
  Continue,
  Out,
  Val,
  Fresh,
  At,
  Jump,
  Mode,
  Target,
  Kid,
  Again,
  There,
  File,
  Script,
  Give,
  Stop,
  Finish,
  Look,
  Put,
  Echo,
  Turn,
  Ask,
  Run,
}
use Rattle.php_meaning.specs.Rules.{rule, file_script}
use Rattle.php_meaning.specs.runs.Kinds.{is_statement}
use Rattle.php_meaning.specs.runs.Run.{
  begun,
  Program,
  Mark,
  file_at,
  is_stopped,
  is_refused,
  Result,
  Done,
  Over,
  then_do,
  with_turn,
  play,
  Entry,
  FileStart,
  DeclarationStart,
  place_in,
  place_of_file,
  told,
  left,
  starting,
  unless_stopped,
  going,
  repeated,
  passes,
  at_node,
  step,
  run_file,
  declared_in,
  run_declared,
  unless_refused,
  start,
  value_count,
  enter,
  first_world,
  and_start,
  start_all,
  is_newer,
}
use Rattle.php_meaning.specs.laws.Laws.{IsSpent, GoingTookAllTurns}

abbrev Spends : (World → Result) → Type 0
Spends m = (w : World) → IsSpent (m w)

then_spent : (r : Result) (k : Out → World → Result) → IsSpent r → ((o : Out) → Spends (k o)) → IsSpent (then_do r k)
then_spent (Done o w) k e h = h o w
then_spent (Over Going w) k e h = e
then_spent (Over (Ended status) w) k e h = tt
then_spent (Over (Threw class) w) k e h = tt
then_spent (Over (Outside place cause) w) k e h = tt

turn_spent : (w : World) (n : ℕ) (k : World → Result) → w.turns ≡ n → Spends k → IsSpent (with_turn w n k)
turn_spent w zero k e h = e
turn_spent w (suc n) k e h = h (record w { turns = n })

starting_spent : (b : Bool) (k : World → Result) → Spends k → Spends (λ w. starting b w k)
starting_spent true k h = λ w. turn_spent w w.turns k refl h
starting_spent false k h = h

module _ (v : Bool) (here : Place) (go : Target → World → Result) (h : (t : Target) → Spends (go t)) where
  play_spent : (s : Script) → Spends (play v here go s)
  play_spent (Give o) w = tt
  play_spent (Stop c) w = tt
  play_spent (Finish status) w = tt
  play_spent (Look k) w = play_spent (k w.store) w
  play_spent (Put s k) w = play_spent k (record w { store = s })
  play_spent (Echo bytes k) w = play_spent k (record w { echo = w.echo ++ bytes })
  play_spent (Turn k) w = turn_spent w w.turns (λ u. play v here go k u) refl (λ u. play_spent k u)
  play_spent (Ask point k) w = play_spent (k v) (record w { asked = record { place = here; point = point } ∷ w.asked })
  play_spent (Run t k) w = then_spent (go t w) (λ o u. play v here go (k o) u) (h t w) (λ o u. play_spent (k o) u)

-- ---- nodes

left_spent : (s : Site) (id : ℕ) (m : Mode) (r : Result) → IsSpent r → IsSpent (left s id m r)
left_spent s id m (Done o w) e = tt
left_spent s id m (Over x w) e = e

told_spent : (stop : Bool) (s : Site) (id : ℕ) (i : Mode) (m : World → Result) → Spends m
    → Spends (λ u. unless_stopped stop (place_in s id) u (left s id i (m (told s id Before None u))))
told_spent true s id i m h = λ w. tt
told_spent false s id i m h = λ w. left_spent s id i (m (told s id Before None w)) (h (told s id Before None w))

either_spent : (b : Bool) (f g : World → Result) → Spends f → Spends g → Spends (λ w. elim b [ true ↦ f w | false ↦ g w ])
either_spent true f g p q = p
either_spent false f g p q = q

-- what runs itself again
module _ {A : Type 0} (free : ℕ) (out : A → World → Result) (h' : (a : A) → Spends (out a)) (f : (A → World → Result) → A → World → Result)
    (h : (x : A → World → Result) → ((a : A) → Spends (x a)) → (a : A) → Spends (f x a)) where
  repeated_spent : (n left : ℕ) (a : A) → Spends (repeated free out f n left a)
  repeated_spent zero zero a = h' a
  repeated_spent zero (suc left) a = h (repeated free out f zero left) (repeated_spent zero left) a
  repeated_spent (suc n) zero a =
      λ w. either_spent (nat_lt w.turns (suc n)) (f (repeated free out f n free) a) (out a) (h (repeated free out f n free) (repeated_spent n free) a) (h' a) w
  repeated_spent (suc n) (suc left) a =
      λ w. either_spent (nat_lt w.turns (suc n)) (f (repeated free out f n free) a) (f (repeated free out f (suc n) left) a)
      (h (repeated free out f n free) (repeated_spent n free) a) (h (repeated free out f (suc n) left) (repeated_spent (suc n) left) a) w

module _ (v : Bool) (t : Tables) (marks : List Mark) (lower : Entry → World → Result) (h : (e : Entry) → Spends (lower e)) where
  going_spent : (kid : ℕ → Mode → World → Result) → ((i : ℕ) (m : Mode) → Spends (kid i m))
      → (again : Mode → World → Result) → ((m : Mode) → Spends (again m)) → (x : Target) → Spends (going lower kid again x)
  going_spent kid g again a (Kid i m) = g i m
  going_spent kid g again a (Again m) = a m
  going_spent kid g again a (There b m) = h (DeclarationStart b m)
  going_spent kid g again a (File path) = h (FileStart path)

  node_spent : (s : Site) (k : NodeKind) (c : Forest) (id : ℕ) (kid : ℕ → Mode → World → Result)
      → ((i : ℕ) (m : Mode) → Spends (kid i m)) → (m : Mode) → Spends (at_node v t lower s k c id kid m)
  node_spent s k c id kid g m =
      let pass : (Mode → World → Result) → Mode → World → Result =
      λ again n u. play v (place_in s id) (going lower kid again) (rule t s k n (form c)) u in
      let one : (x : Mode → World → Result) → ((n : Mode) → Spends (x n)) → (n : Mode) → Spends (pass x n) =
      λ again b n. play_spent v (place_in s id) (going lower kid again) (going_spent kid g again b) (rule t s k n (form c)) in
      λ w. one (passes (place_in s id) pass w.turns) (repeated_spent 1 _ (λ i u. tt) pass one w.turns 1) m w

  step_spent : (s : Site) (f : Forest) (id i : ℕ) (m : Mode) → Spends (step v t marks lower s f id i m)
  step_spent s none id i m = λ w. tt
  step_spent s (leaf u f) id i m = step_spent s f id i m
  step_spent s (node k c f) id zero m =
      let kid : ℕ → Mode → World → Result = step v t marks lower (within k c s) c (suc id) in
      starting_spent (is_statement k) _
      (told_spent (is_stopped marks s.file id) s id m (at_node v t lower s k c id kid m)
      (node_spent s k c id kid (λ j n. step_spent (within k c s) c (suc id) j n) m))
  step_spent s (node k c f) id (suc i) m = step_spent (beside k c s) f (suc (id + count c)) i m

  file_spent : (path : Bytes) (o : Option Forest) → Spends (run_file v t marks lower path o)
  file_spent path None = λ w. tt
  file_spent path (Some f) =
      let kid : ℕ → Mode → World → Result = step v t marks lower (file_site path) f 0 in
      let again : Mode → World → Result = λ m u. Over (Outside (place_of_file path) NoRule) u in
      play_spent v (place_of_file path) (going lower kid again) (going_spent kid (λ j n. step_spent (file_site path) f 0 j n) again (λ m w. tt))
      (file_script t path (kids (form f)))

  declared_spent : (s : Site) (f : Forest) (id n : ℕ) (m : Mode) (x : World → Result) → Spends x → Spends (declared_in v t marks lower s f id n m x)
  declared_spent s none id n m x g = g
  declared_spent s (leaf u f) id n m x g = declared_spent s f id n m x g
  declared_spent s (node k c f) id n m x g =
      let kid : ℕ → Mode → World → Result = step v t marks lower (within k c s) c (suc id) in
      either_spent (is_declaration k && nat_eq s.number n) _ _
      (node_spent s k c id kid (λ j i. step_spent (within k c s) c (suc id) j i) m)
      (declared_spent (within k c s) c (suc id) n m _ (declared_spent (beside k c s) f (suc (id + count c)) n m x g))

  declaration_spent : (b : Declared) (m : Mode) (o : Option Forest) → Spends (run_declared v t marks lower b m o)
  declaration_spent b m None = λ w. tt
  declaration_spent b m (Some f) = declared_spent (file_site b.file) f 0 b.number m _ (λ w. tt)

-- ---- files and declarations

refused_spent : (b : Bool) (path : Bytes) (m : World → Result) → Spends m → Spends (λ w. unless_refused b path w (m (begun path w)))
refused_spent true path m h = λ w. tt
refused_spent false path m h = λ w. h (begun path w)

start_spent : (v : Bool) (t : Tables) (p : Program) (marks : List Mark) (lower : Entry → World → Result) → ((e : Entry) → Spends (lower e))
    → (e : Entry) → Spends (start v t p marks lower e)
start_spent v t p marks lower h (FileStart path) =
    refused_spent (is_refused marks path) path (run_file v t marks lower path (file_at p.files path)) (file_spent v t marks lower h path (file_at p.files path))
start_spent v t p marks lower h (DeclarationStart b m) = declaration_spent v t marks lower h b m (file_at p.files b.file)

enter_spent : (v : Bool) (t : Tables) (p : Program) (marks : List Mark) (n : ℕ) (e : Entry) → Spends (enter v t p marks n e)
enter_spent v t p marks n e =
    repeated_spent (value_count t) _ (λ d w. tt) (start v t p marks) (start_spent v t p marks) n (value_count t) e

-- ---- whole runs

and_start_spent : (path : Bytes) (k : World → Result) → Spends k → (o : Out) → Spends (and_start path k o)
and_start_spent path k h (Val x) = h
and_start_spent path k h (Fresh x) = h
and_start_spent path k h (At c) = h
and_start_spent path k h (Jump (Return x)) = h
and_start_spent path k h (Jump (Throw n)) = λ w. tt
and_start_spent path k h (Jump (Break n)) = λ w. tt
and_start_spent path k h (Jump (Continue n)) = λ w. tt

start_all_spent : (k : Bytes → World → Result) → ((path : Bytes) → Spends (k path)) → (first : Option Bytes) (entry : Bytes) → Spends (start_all k first entry)
start_all_spent k h None entry = h entry
start_all_spent k h (Some path) entry = λ w. then_spent (k path w) (and_start path (k entry)) (h path w) (and_start_spent path (k entry) (h entry))

pub going_took_all_turns : GoingTookAllTurns
going_took_all_turns v p marks entry input n =
    let t : Tables = tables_of p.files in
    start_all_spent (λ path. start (is_newer v) t p marks (enter (is_newer v) t p marks n) (FileStart path))
    (λ path. start_spent (is_newer v) t p marks (enter (is_newer v) t p marks n) (enter_spent (is_newer v) t p marks n) (FileStart path))
    p.prepend entry (first_world input n)
