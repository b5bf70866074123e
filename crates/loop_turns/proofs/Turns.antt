-- No run has more turns left than it had, and a statement that came to an end took one.
use Rattle.std.specs.Prelude.{◌≡◌, ℕ, zero, suc, ◌+◌, ◌≤◌, ◌<◌, List, ◌++◌, ◌∷◌, Bool, true, false, ◌&&◌, nat_eq, nat_lt, refl, Option, Some, None, IsTrue}
use Rattle.std.proofs.Common.{arith}
use Rattle.php_tree.specs.declared.kind.NodeKind.{NodeKind}
use Rattle.php_tree.specs.Tree.{Forest, none, leaf, node, count}
use Rattle.scope_names.specs.Slot.{Declared}
use Rattle.scope_names.specs.Form.{form, kids}
use Rattle.scope_names.specs.Sites.{Site, file_site, is_declaration, within, beside}
use Rattle.php_meaning.specs.names.Tables.{Tables, tables_of}
use Rattle.php_meaning.specs.Cause.{NoRule}
use Rattle.php_meaning.specs.runs.World.{Bytes, Place, Outside, Before, World}
use Rattle.php_meaning.specs.runs.Script.{Out, Mode, Target, Kid, Again, There, File, Script, Give, Stop, Finish, Look, Put, Echo, Turn, Ask, Run}
use Rattle.php_meaning.specs.Rules.{rule, file_script}
use Rattle.php_meaning.specs.runs.Kinds.{is_statement}
use Rattle.php_meaning.specs.runs.Run.{
  begun,
  Program,
  Mark,
  file_at,
  is_stopped,
  is_refused,
  Result,
  Done,
  Over,
  then_do,
  with_turn,
  play,
  Entry,
  FileStart,
  DeclarationStart,
  place_in,
  place_of_file,
  told,
  left,
  starting,
  unless_stopped,
  going,
  repeated,
  passes,
  at_node,
  step,
  run_file,
  declared_in,
  run_declared,
  unless_refused,
  start,
  value_count,
  is_newer,
}
use Rattle.loop_turns.specs.Laws.{HasNoMore, NeverRises, TurnsNeverRise, statement_at}

weaker : (a b : ℕ) (r : Result) → a ≤ b → HasNoMore a r → HasNoMore b r
weaker a b (Done o w) p h = let q : w.turns ≤ a = h in omega (arith, p, q)
weaker a b (Over e w) p h = tt

pub then_rises : (n : ℕ) (r : Result) (k : Out → World → Result) → HasNoMore n r → ((o : Out) → NeverRises (k o)) → HasNoMore n (then_do r k)
then_rises n (Done o w) k h g = weaker w.turns n (k o w) h (g o w)
then_rises n (Over e w) k h g = tt

turn_rises : (w : World) (n : ℕ) (k : World → Result) → w.turns ≡ n → NeverRises k → HasNoMore w.turns (with_turn w n k)
turn_rises w zero k e h = tt
turn_rises w (suc n) k e h = weaker n w.turns (k (record w { turns = n })) (omega (arith, e)) (h (record w { turns = n }))

starting_rises : (b : Bool) (k : World → Result) → NeverRises k → NeverRises (λ w. starting b w k)
starting_rises true k h = λ w. turn_rises w w.turns k refl h
starting_rises false k h = h

module _ (v : Bool) (here : Place) (go : Target → World → Result) (h : (t : Target) → NeverRises (go t)) where
  pub play_rises : (s : Script) → NeverRises (play v here go s)
  play_rises (Give o) w = omega arith
  play_rises (Stop c) w = tt
  play_rises (Finish status) w = tt
  play_rises (Look k) w = play_rises (k w.store) w
  play_rises (Put s k) w = play_rises k (record w { store = s })
  play_rises (Echo bytes k) w = play_rises k (record w { echo = w.echo ++ bytes })
  play_rises (Turn k) w = turn_rises w w.turns (λ u. play v here go k u) refl (λ u. play_rises k u)
  play_rises (Ask point k) w = play_rises (k v) (record w { asked = record { place = here; point = point } ∷ w.asked })
  play_rises (Run t k) w = then_rises w.turns (go t w) (λ o u. play v here go (k o) u) (h t w) (λ o u. play_rises (k o) u)

-- ---- nodes

left_rises : (n : ℕ) (s : Site) (id : ℕ) (m : Mode) (r : Result) → HasNoMore n r → HasNoMore n (left s id m r)
left_rises n s id m (Done o w) h = h
left_rises n s id m (Over x w) h = tt

told_rises : (stop : Bool) (s : Site) (id : ℕ) (i : Mode) (m : World → Result) → NeverRises m
    → NeverRises (λ u. unless_stopped stop (place_in s id) u (left s id i (m (told s id Before None u))))
told_rises true s id i m h = λ w. tt
told_rises false s id i m h = λ w. left_rises w.turns s id i (m (told s id Before None w)) (h (told s id Before None w))

either_rises : (b : Bool) (f g : World → Result) → NeverRises f → NeverRises g → NeverRises (λ w. elim b [ true ↦ f w | false ↦ g w ])
either_rises true f g p q = p
either_rises false f g p q = q

-- what runs itself again
module _ {A : Type 0} (free : ℕ) (out : A → World → Result) (h' : (a : A) → NeverRises (out a)) (f : (A → World → Result) → A → World → Result)
    (h : (x : A → World → Result) → ((a : A) → NeverRises (x a)) → (a : A) → NeverRises (f x a)) where
  pub repeated_rises : (n left : ℕ) (a : A) → NeverRises (repeated free out f n left a)
  repeated_rises zero zero a = h' a
  repeated_rises zero (suc left) a = h (repeated free out f zero left) (repeated_rises zero left) a
  repeated_rises (suc n) zero a =
      λ w. either_rises (nat_lt w.turns (suc n)) (f (repeated free out f n free) a) (out a) (h (repeated free out f n free) (repeated_rises n free) a) (h' a) w
  repeated_rises (suc n) (suc left) a =
      λ w. either_rises (nat_lt w.turns (suc n)) (f (repeated free out f n free) a) (f (repeated free out f (suc n) left) a)
      (h (repeated free out f n free) (repeated_rises n free) a) (h (repeated free out f (suc n) left) (repeated_rises (suc n) left) a) w

module _ (v : Bool) (t : Tables) (marks : List Mark) (lower : Entry → World → Result) (h : (e : Entry) → NeverRises (lower e)) where
  pub going_rises : (kid : ℕ → Mode → World → Result) → ((i : ℕ) (m : Mode) → NeverRises (kid i m))
      → (again : Mode → World → Result) → ((m : Mode) → NeverRises (again m)) → (x : Target) → NeverRises (going lower kid again x)
  going_rises kid g again a (Kid i m) = g i m
  going_rises kid g again a (Again m) = a m
  going_rises kid g again a (There b m) = h (DeclarationStart b m)
  going_rises kid g again a (File path) = h (FileStart path)

  pub pass_rises : (s : Site) (k : NodeKind) (c : Forest) (id : ℕ) (kid : ℕ → Mode → World → Result)
      → ((i : ℕ) (m : Mode) → NeverRises (kid i m)) → (x : Mode → World → Result) → ((n : Mode) → NeverRises (x n)) → (n : Mode)
      → NeverRises (λ u. play v (place_in s id) (going lower kid x) (rule t s k n (form c)) u)
  pass_rises s k c id kid g x b n = play_rises v (place_in s id) (going lower kid x) (going_rises kid g x b) (rule t s k n (form c))

  node_rises : (s : Site) (k : NodeKind) (c : Forest) (id : ℕ) (kid : ℕ → Mode → World → Result)
      → ((i : ℕ) (m : Mode) → NeverRises (kid i m)) → (m : Mode) → NeverRises (at_node v t lower s k c id kid m)
  node_rises s k c id kid g m =
      let pass : (Mode → World → Result) → Mode → World → Result =
      λ again n u. play v (place_in s id) (going lower kid again) (rule t s k n (form c)) u in
      λ w. pass_rises s k c id kid g (passes (place_in s id) pass w.turns) (repeated_rises 1 _ (λ i u. tt) pass (pass_rises s k c id kid g) w.turns 1) m w

  pub step_rises : (s : Site) (f : Forest) (id i : ℕ) (m : Mode) → NeverRises (step v t marks lower s f id i m)
  step_rises s none id i m = λ w. tt
  step_rises s (leaf u f) id i m = step_rises s f id i m
  step_rises s (node k c f) id zero m =
      let kid : ℕ → Mode → World → Result = step v t marks lower (within k c s) c (suc id) in
      starting_rises (is_statement k) _
      (told_rises (is_stopped marks s.file id) s id m (at_node v t lower s k c id kid m)
      (node_rises s k c id kid (λ j n. step_rises (within k c s) c (suc id) j n) m))
  step_rises s (node k c f) id (suc i) m = step_rises (beside k c s) f (suc (id + count c)) i m

  file_rises : (path : Bytes) (o : Option Forest) → NeverRises (run_file v t marks lower path o)
  file_rises path None = λ w. tt
  file_rises path (Some f) =
      let kid : ℕ → Mode → World → Result = step v t marks lower (file_site path) f 0 in
      let again : Mode → World → Result = λ m u. Over (Outside (place_of_file path) NoRule) u in
      play_rises v (place_of_file path) (going lower kid again) (going_rises kid (λ j n. step_rises (file_site path) f 0 j n) again (λ m w. tt))
      (file_script t path (kids (form f)))

  declared_rises : (s : Site) (f : Forest) (id n : ℕ) (m : Mode) (x : World → Result) → NeverRises x → NeverRises (declared_in v t marks lower s f id n m x)
  declared_rises s none id n m x g = g
  declared_rises s (leaf u f) id n m x g = declared_rises s f id n m x g
  declared_rises s (node k c f) id n m x g =
      let kid : ℕ → Mode → World → Result = step v t marks lower (within k c s) c (suc id) in
      either_rises (is_declaration k && nat_eq s.number n) _ _
      (node_rises s k c id kid (λ j i. step_rises (within k c s) c (suc id) j i) m)
      (declared_rises (within k c s) c (suc id) n m _ (declared_rises (beside k c s) f (suc (id + count c)) n m x g))

  declaration_rises : (b : Declared) (m : Mode) (o : Option Forest) → NeverRises (run_declared v t marks lower b m o)
  declaration_rises b m None = λ w. tt
  declaration_rises b m (Some f) = declared_rises (file_site b.file) f 0 b.number m _ (λ w. tt)

-- ---- files and declarations

refused_rises : (b : Bool) (path : Bytes) (m : World → Result) → NeverRises m → NeverRises (λ w. unless_refused b path w (m (begun path w)))
refused_rises true path m h = λ w. tt
refused_rises false path m h = λ w. h (begun path w)

start_rises : (v : Bool) (t : Tables) (p : Program) (marks : List Mark) (lower : Entry → World → Result) → ((e : Entry) → NeverRises (lower e))
    → (e : Entry) → NeverRises (start v t p marks lower e)
start_rises v t p marks lower h (FileStart path) =
    refused_rises (is_refused marks path) path (run_file v t marks lower path (file_at p.files path)) (file_rises v t marks lower h path (file_at p.files path))
start_rises v t p marks lower h (DeclarationStart b m) = declaration_rises v t marks lower h b m (file_at p.files b.file)

pub turns_never_rise : TurnsNeverRise
turns_never_rise v p marks n e =
    let t : Tables = tables_of p.files in
    repeated_rises (value_count t) _ (λ d w. tt) (start (is_newer v) t p marks) (start_rises (is_newer v) t p marks) n (value_count t) e

-- ---- statements

-- fewer turns are left than so many
abbrev pub HasLess : ℕ → Result → Type 0
HasLess n (Done o w) = w.turns < n
HasLess n (Over e w) = Unit {0}

fewer : (a b : ℕ) (r : Result) → a < b → HasNoMore a r → HasLess b r
fewer a b (Done o w) p h = let q : w.turns ≤ a = h in omega (arith, p, q)
fewer a b (Over e w) p h = tt

turn_less : (w : World) (n : ℕ) (k : World → Result) → w.turns ≡ n → NeverRises k → HasLess w.turns (with_turn w n k)
turn_less w zero k e h = tt
turn_less w (suc n) k e h = fewer n w.turns (k (record w { turns = n })) (omega (arith, e)) (h (record w { turns = n }))

starting_less : (b : Bool) → IsTrue b → (k : World → Result) → NeverRises k → (w : World) → HasLess w.turns (starting b w k)
starting_less true e k h w = turn_less w w.turns k refl h
starting_less false e k h w = absurd cc

module _ (v : Bool) (t : Tables) (marks : List Mark) (lower : Entry → World → Result) (h : (e : Entry) → NeverRises (lower e)) where
  pub statement_less : (s : Site) (f : Forest) (id i : ℕ) (m : Mode) → IsTrue (statement_at i f) → (w : World) → HasLess w.turns (step v t marks lower s f id i m w)
  statement_less s none id i m e w = absurd cc
  statement_less s (leaf u f) id i m e w = statement_less s f id i m e w
  statement_less s (node k c f) id zero m e w =
      let kid : ℕ → Mode → World → Result = step v t marks lower (within k c s) c (suc id) in
      starting_less (is_statement k) e _
      (told_rises (is_stopped marks s.file id) s id m (at_node v t lower s k c id kid m)
      (node_rises v t marks lower h s k c id kid (λ j n. step_rises v t marks lower h (within k c s) c (suc id) j n) m)) w
  statement_less s (node k c f) id (suc i) m e w = statement_less (beside k c s) f (suc (id + count c)) i m e w
