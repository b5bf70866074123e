-- Runs of programs whose nodes never ask.
use Rattle.std.proofs.Common.{◌≡◌, ℕ, zero, suc, ◌+◌, Bool, true, false, not, ◌&&◌, IsTrue, cond, codes, List, [], ◌∷◌, ◌++◌, All, Option, Some, None, refl, ◌∙◌, arith}
use Rattle.std.specs.Prelude.{nat_eq, nat_lt, is_some}
use Rattle.std.specs.Str.{bytes_eq}
use Rattle.php_tree.specs.declared.kind.NodeKind.{NodeKind}
use Rattle.php_tree.specs.declared.kind.NodeKind.TheVariants as kind
use Rattle.php_tree.specs.declared.version.Version.TheVariants.{V74}
use Rattle.php_tree.specs.Tree.{Forest, none, leaf, node, count}
use Rattle.scope_names.specs.Slot.{Declared}
use Rattle.scope_names.specs.Form.{Form, form, kids, texts}
use Rattle.scope_names.specs.Sites.{Site, file_site, is_declaration, within, beside}
use Rattle.php_meaning.specs.names.Tables.{Tables, tables_of}
use Rattle.php_meaning.specs.values.Value.{Value}
use Rattle.php_meaning.specs.Cause.{NoRule, Outcome, Gives, Outside, Came, Returns, Throws, outcome_map}
use Rattle.php_meaning.specs.values.Convert.{to_text, to_truth}
use Rattle.php_meaning.specs.runs.World as End
use Rattle.php_meaning.specs.runs.World.{Store, Asked, Bytes, Place, Before, World}
use Rattle.php_meaning.specs.runs.Script.{
  Return,
  Throw,
  Break,
  Continue,
  Out,
  Val,
  Fresh,
  At,
  Jump,
  Mode,
  Read,
  Quiet,
  Write,
  Target,
  Kid,
  Again,
  There,
  File,
  Script,
  Give,
  Stop,
  Finish,
  Look,
  Put,
  Echo,
  Turn,
  Ask,
  Run,
  value_then,
  given,
  comes,
  Top,
  Name,
  Unchanged,
  Early,
  Found,
  FoundQuietly,
  Placed,
  Location,
  location_then,
}
use Rattle.php_meaning.specs.values.Arithmetic.{joined}
use Rattle.php_meaning.specs.expressions.Operators.{of_values, binary}
use Rattle.php_meaning.specs.literals.Literals.{constant_named, name_of}
use Rattle.php_meaning.specs.literals.TextLiterals.{text_literal}
use Rattle.php_meaning.specs.classes.Declaring.{is_compiled_file, is_bound_file}
use Rattle.php_meaning.specs.Rules.{
  first_text,
  run_all,
  declare_early,
  is_early,
  file_script,
  echo_all,
  choices,
  constant,
  ternary,
  short_ternary,
  reading,
  reading_quietly,
  locating,
  running,
  rule,
  at_top,
  run_top,
  is_unfit,
  held_again,
  evaluating_early,
  finding,
  finding_quietly,
  placing,
}
use Rattle.php_meaning.specs.runs.Kinds.{is_statement}
use Rattle.php_meaning.specs.runs.Run.{
  begun,
  Program,
  Mark,
  file_at,
  is_stopped,
  is_refused,
  Result,
  Done,
  Over,
  then_do,
  with_turn,
  play,
  Entry,
  FileStart,
  DeclarationStart,
  place_in,
  place_of_file,
  told,
  left,
  starting,
  unless_stopped,
  going,
  repeated,
  passes,
  at_node,
  step,
  run_file,
  declared_in,
  run_declared,
  unless_refused,
  start,
  value_count,
  place_of_entry,
  enter,
  first_world,
  and_start,
  start_all,
  is_newer,
}
use Rattle.php_meaning.specs.laws.Asking.{may_ask, asks_nothing, AsksNowhere, InsideIsCovered}
use Rattle.php_meaning.proofs.Unasked.{asked_in, answer_asked}

-- ---- scripts

-- no step of the script asks
abbrev NeverAsks : Script → Type 0
NeverAsks (Give o) = Unit {0}
NeverAsks (Stop c) = Unit {0}
NeverAsks (Finish status) = Unit {0}
NeverAsks (Look k) = (s : Store) → NeverAsks (k s)
NeverAsks (Put s k) = NeverAsks k
NeverAsks (Echo bytes k) = NeverAsks k
NeverAsks (Turn k) = NeverAsks k
NeverAsks (Ask point k) = ⊥
NeverAsks (Run t k) = (o : Out) → NeverAsks (k o)

value_then_never : (k : Value → Script) → ((v : Value) → NeverAsks (k v)) → (o : Out) → NeverAsks (value_then k o)
value_then_never k h (Val v) = h v
value_then_never k h (Fresh v) = h v
value_then_never k h (At l) = tt
value_then_never k h (Jump w) = tt

given_never : {A : Type 0} (r : Outcome A) (k : A → Script) → ((a : A) → NeverAsks (k a)) → NeverAsks (given r k)
given_never (Gives a) k h = h a
given_never (Outside c) k h = tt

cond_never : (b : Bool) (s t : Script) → NeverAsks s → NeverAsks t → NeverAsks (cond b s t)
cond_never true s t h g = h
cond_never false s t h g = g

comes_never : (c : Came) → NeverAsks (comes c)
comes_never (Returns v) = tt
comes_never (Throws c) = λ s. tt

run_all_never : (i n : ℕ) → NeverAsks (run_all i n)
run_all_never i zero = tt
run_all_never i (suc n) = value_then_never _ (λ v. run_all_never (suc i) n)

run_top_never : (i n : ℕ) → NeverAsks (run_top i n)
run_top_never i zero = tt
run_top_never i (suc n) = value_then_never _ (λ v. run_top_never (suc i) n)

declare_early_never : (t : Tables) (path : Bytes) (ds : Tables) (k : Script) → NeverAsks k → NeverAsks (declare_early t path ds k)
declare_early_never t path [] k h = h
declare_early_never t path (d ∷ ds) k h =
    cond_never (is_early d && bytes_eq d.at.file path) _ _
    (λ s. cond_never (is_unfit t s d) _ _ tt (λ u. declare_early_never t path ds k h))
    (declare_early_never t path ds k h)

file_script_never : (t : Tables) (path : Bytes) (n : ℕ) → NeverAsks (file_script t path n)
file_script_never t path n =
    cond_never (is_compiled_file t path t) _ _
    (λ s. cond_never (is_bound_file t s path) _ _ (declare_early_never t path t (run_top 0 n) (run_top_never 0 n)) tt) tt

echo_all_never : (i n : ℕ) → NeverAsks (echo_all i n)
echo_all_never i zero = tt
echo_all_never i (suc n) = value_then_never _ (λ v. given_never (to_text v) _ (λ bytes. echo_all_never (suc i) n))

constant_never : (t : Tables) (s : Site) (name : Bytes) (o : Option Value) → IsTrue (not (not (is_some o))) → NeverAsks (constant t s name o)
constant_never t s name (Some v) h = tt
constant_never t s name None h = cc

ternary_never : (n : ℕ) → NeverAsks (ternary n)
ternary_never zero = tt
ternary_never (suc zero) = tt
ternary_never (suc (suc zero)) = tt
ternary_never (suc (suc (suc zero))) = value_then_never _ (λ v. cond_never (to_truth v) _ _ (λ o. tt) (λ o. tt))
ternary_never (suc (suc (suc (suc n)))) = tt

short_ternary_never : NeverAsks short_ternary
short_ternary_never = value_then_never _ (λ v. cond_never (to_truth v) _ _ tt (λ o. tt))

choices_never : (i n : ℕ) → NeverAsks (choices i n)
choices_never i zero = tt
choices_never i (suc zero) = λ o. tt
choices_never i (suc (suc n)) = value_then_never _ (λ v. cond_never (to_truth v) _ _ (λ o. tt) (choices_never (suc (suc i)) n))

-- `.` joins texts
dot_never : (b : Bool) (rest : Script) → IsTrue b → NeverAsks (cond b (binary (Some (of_values joined))) rest)
dot_never true rest h =
    value_then_never _ (λ a. value_then_never _ (λ c. value_then_never _ (λ u. given_never (outcome_map Returns (joined a c)) comes comes_never)))
dot_never false rest h = cc

is_dot : (b : Bool) → IsTrue (not (not b)) → IsTrue b
is_dot true h = refl
is_dot false h = cc

reading_never : (t : Tables) (s : Site) (k : NodeKind) (f : Form) → IsTrue (not (may_ask k (texts f))) → NeverAsks (reading t s k f)
reading_never t s kind.Block f h = run_all_never 0 (kids f)
reading_never t s kind.Empty f h = tt
reading_never t s kind.Html f h = tt
reading_never t s kind.ExprStmt f h = value_then_never _ (λ v. tt)
reading_never t s kind.Echo f h = echo_all_never 0 (kids f)
reading_never t s kind.If f h = choices_never 0 (kids f)
reading_never t s kind.Number f h = tt
reading_never t s kind.Text f h = given_never (text_literal (first_text (texts f))) _ (λ bytes. tt)
reading_never t s kind.Constant f h = constant_never t s (name_of (texts f)) (constant_named (texts f)) h
reading_never t s kind.Binary f h = dot_never (bytes_eq (codes ".") (first_text (texts f))) _ (is_dot _ h)
reading_never t s kind.Paren f h = tt
reading_never t s kind.Ternary f h = ternary_never (kids f)
reading_never t s kind.ShortTernary f h = short_ternary_never
reading_never t s k f h = cc

quietly_never : (t : Tables) (s : Site) (k : NodeKind) (f : Form) → IsTrue (not (may_ask k (texts f))) → NeverAsks (reading_quietly t s k f)
quietly_never t s kind.Variable f h = cc
quietly_never t s kind.Offset f h = cc
quietly_never t s kind.BraceOffset f h = cc
quietly_never t s kind.Prop f h = cc
quietly_never t s kind.StaticProp f h = cc
quietly_never t s k f h = reading_never t s k f h

locating_never : (t : Tables) (s : Site) (k : NodeKind) (f : Form) → IsTrue (not (may_ask k (texts f))) → NeverAsks (locating t s k f)
locating_never t s kind.Variable f h = cc
locating_never t s kind.Offset f h = cc
locating_never t s kind.BraceOffset f h = cc
locating_never t s kind.Prop f h = cc
locating_never t s kind.StaticProp f h = cc
locating_never t s k f h = tt

running_never : (t : Tables) (s : Site) (k : NodeKind) (m : Mode) (f : Form) → IsTrue (not (may_ask k (texts f))) → NeverAsks (running t s k m f)
running_never t s kind.Variable m f h = cc
running_never t s kind.Constant Name f h = tt
running_never t s kind.Prop m f h = cc
running_never t s kind.Offset m f h = cc
running_never t s kind.BraceOffset m f h = cc
running_never t s kind.While m f h = cc
running_never t s kind.DoWhile m f h = cc
running_never t s kind.For m f h = cc
running_never t s kind.Foreach m f h = cc
running_never t s kind.Case m f h = cc
running_never t s kind.TypeName m f h = cc
running_never t s kind.Item m f h = cc
running_never t s kind.Args m f h = cc
running_never t s kind.Function m f h = cc
running_never t s kind.Method m f h = cc
running_never t s kind.Param m f h = cc
running_never t s kind.Property m f h = cc
running_never t s kind.ClassConst m f h = cc
running_never t s k m f h = tt

top_never : (t : Tables) (s : Site) (k : NodeKind) (f : Form) → IsTrue (not (may_ask k (texts f))) → NeverAsks (at_top t s k f)
top_never t s kind.Const f h = cc
top_never t s kind.Namespace f h = cc
top_never t s kind.Use f h = cc
top_never t s kind.Declare f h = cc
top_never t s k f h = reading_never t s k f h

unchanged_never : (k : NodeKind) (v : Value) (f : Form) → IsTrue (not (may_ask k (texts f))) → NeverAsks (held_again k v f)
unchanged_never kind.Variable v f h = cc
unchanged_never kind.Cast v f h = cc
unchanged_never kind.Float v f h = tt
unchanged_never kind.List v f h = tt
unchanged_never kind.Closure v f h = tt
unchanged_never kind.Arrow v f h = tt
unchanged_never kind.EvalTest v f h = tt
unchanged_never kind.Yield v f h = tt
unchanged_never k v f h = tt

early_never : (t : Tables) (s : Site) (k : NodeKind) (f : Form) → IsTrue (not (may_ask k (texts f))) → NeverAsks (evaluating_early t s k f)
early_never t s kind.Variable f h = cc
early_never t s kind.StaticProp f h = cc
early_never t s kind.Offset f h = cc
early_never t s kind.BraceOffset f h = cc
early_never t s kind.Prop f h = cc
early_never t s k f h = reading_never t s k f h

finding_never : (t : Tables) (s : Site) (k : NodeKind) (l : Location) (f : Form) → IsTrue (not (may_ask k (texts f))) → NeverAsks (finding t s k l f)
finding_never t s kind.Variable l f h = cc
finding_never t s kind.StaticProp l f h = cc
finding_never t s kind.Offset l f h = cc
finding_never t s kind.BraceOffset l f h = cc
finding_never t s kind.Prop l f h = cc
finding_never t s k l f h = tt

found_quietly_never : (t : Tables) (s : Site) (k : NodeKind) (l : Location) (f : Form) → IsTrue (not (may_ask k (texts f))) → NeverAsks (finding_quietly t s k l f)
found_quietly_never t s kind.Variable l f h = cc
found_quietly_never t s kind.StaticProp l f h = cc
found_quietly_never t s kind.Offset l f h = cc
found_quietly_never t s kind.BraceOffset l f h = cc
found_quietly_never t s kind.Prop l f h = cc
found_quietly_never t s k l f h = tt

placing_never : (t : Tables) (s : Site) (k : NodeKind) (l : Location) (f : Form) → IsTrue (not (may_ask k (texts f))) → NeverAsks (placing t s k l f)
placing_never t s kind.Variable l f h = cc
placing_never t s kind.StaticProp l f h = cc
placing_never t s kind.Offset l f h = cc
placing_never t s kind.BraceOffset l f h = cc
placing_never t s kind.Prop l f h = cc
placing_never t s k l f h = tt

rule_never : (t : Tables) (s : Site) (k : NodeKind) (m : Mode) (f : Form) → IsTrue (not (may_ask k (texts f))) → NeverAsks (rule t s k m f)
rule_never t s kind.Paren m f h = λ o. tt
rule_never t s k Read f h = reading_never t s k f h
rule_never t s k Top f h = top_never t s k f h
rule_never t s k (Unchanged v) f h = unchanged_never k v f h
rule_never t s k Early f h = early_never t s k f h
rule_never t s k (Found l) f h = finding_never t s k l f h
rule_never t s k (FoundQuietly l) f h = found_quietly_never t s k l f h
rule_never t s k (Placed l) f h = placing_never t s k l f h
rule_never t s k Quiet f h = quietly_never t s k f h
rule_never t s k Write f h = locating_never t s k f h
rule_never t s k m f h = running_never t s k m f h

-- ---- runs

-- what is run adds nothing to what was asked
abbrev Silent : (World → Result) → Type 0
Silent m = (w : World) → asked_in (m w) ≡ w.asked

then_quiet : (old : List Asked) (r : Result) (k : Out → World → Result) → asked_in r ≡ old → ((o : Out) → Silent (k o)) → asked_in (then_do r k) ≡ old
then_quiet old (Done o w) k e h = h o w ∙ e
then_quiet old (Over x w) k e h = e

turn_quiet : (w : World) (n : ℕ) (k : World → Result) → Silent k → asked_in (with_turn w n k) ≡ w.asked
turn_quiet w zero k h = refl
turn_quiet w (suc n) k h = h (record w { turns = n })

starting_quiet : (b : Bool) (k : World → Result) → Silent k → Silent (λ w. starting b w k)
starting_quiet true k h = λ w. turn_quiet w w.turns k h
starting_quiet false k h = h

module _ (v : Bool) (here : Place) (go : Target → World → Result) (h : (t : Target) → Silent (go t)) where
  play_quiet : (s : Script) → NeverAsks s → Silent (play v here go s)
  play_quiet (Give o) a w = refl
  play_quiet (Stop c) a w = refl
  play_quiet (Finish status) a w = refl
  play_quiet (Look k) a w = play_quiet (k w.store) (a w.store) w
  play_quiet (Put s k) a w = play_quiet k a (record w { store = s })
  play_quiet (Echo bytes k) a w = play_quiet k a (record w { echo = w.echo ++ bytes })
  play_quiet (Turn k) a w = turn_quiet w w.turns (λ u. play v here go k u) (λ u. play_quiet k a u)
  play_quiet (Ask point k) a w = absurd a
  play_quiet (Run t k) a w = then_quiet w.asked (go t w) (λ o u. play v here go (k o) u) (h t w) (λ o u. play_quiet (k o) (a o) u)

left_quiet : (s : Site) (id : ℕ) (m : Mode) (r : Result) → asked_in (left s id m r) ≡ asked_in r
left_quiet s id m (Done o w) = refl
left_quiet s id m (Over e w) = refl

told_quiet : (stop : Bool) (s : Site) (id : ℕ) (i : Mode) (m : World → Result) → Silent m
    → Silent (λ u. unless_stopped stop (place_in s id) u (left s id i (m (told s id Before None u))))
told_quiet true s id i m h = λ w. refl
told_quiet false s id i m h = λ w. left_quiet s id i (m (told s id Before None w)) ∙ h (told s id Before None w)

front_of : (a b : Bool) → IsTrue (a && b) → IsTrue a
front_of true b h = refl
front_of false b h = cc

back_of : (a b : Bool) → IsTrue (a && b) → IsTrue b
back_of true b h = h
back_of false b h = cc

either_quiet : (b : Bool) (f g : World → Result) → Silent f → Silent g → Silent (λ w. elim b [ true ↦ f w | false ↦ g w ])
either_quiet true f g p q = p
either_quiet false f g p q = q

-- what runs itself again
module _ {A : Type 0} (free : ℕ) (out : A → World → Result) (h' : (a : A) → Silent (out a)) (f : (A → World → Result) → A → World → Result)
    (h : (x : A → World → Result) → ((a : A) → Silent (x a)) → (a : A) → Silent (f x a)) where
  repeated_quiet : (n left : ℕ) (a : A) → Silent (repeated free out f n left a)
  repeated_quiet zero zero a = h' a
  repeated_quiet zero (suc left) a = h (repeated free out f zero left) (repeated_quiet zero left) a
  repeated_quiet (suc n) zero a =
      λ w. either_quiet (nat_lt w.turns (suc n)) (f (repeated free out f n free) a) (out a) (h (repeated free out f n free) (repeated_quiet n free) a) (h' a) w
  repeated_quiet (suc n) (suc left) a =
      λ w. either_quiet (nat_lt w.turns (suc n)) (f (repeated free out f n free) a) (f (repeated free out f (suc n) left) a)
      (h (repeated free out f n free) (repeated_quiet n free) a) (h (repeated free out f (suc n) left) (repeated_quiet (suc n) left) a) w

module _ (v : Bool) (t : Tables) (marks : List Mark) (lower : Entry → World → Result) (h : (e : Entry) → Silent (lower e)) where
  going_quiet : (kid : ℕ → Mode → World → Result) → ((i : ℕ) (m : Mode) → Silent (kid i m))
      → (again : Mode → World → Result) → ((m : Mode) → Silent (again m)) → (x : Target) → Silent (going lower kid again x)
  going_quiet kid g again a (Kid i m) = g i m
  going_quiet kid g again a (Again m) = a m
  going_quiet kid g again a (There b m) = h (DeclarationStart b m)
  going_quiet kid g again a (File path) = h (FileStart path)

  node_quiet : (s : Site) (k : NodeKind) (c : Forest) (id : ℕ) (kid : ℕ → Mode → World → Result) → IsTrue (not (may_ask k (texts (form c))))
      → ((i : ℕ) (m : Mode) → Silent (kid i m)) → (m : Mode) → Silent (at_node v t lower s k c id kid m)
  node_quiet s k c id kid a g m =
      let pass : (Mode → World → Result) → Mode → World → Result =
      λ again n u. play v (place_in s id) (going lower kid again) (rule t s k n (form c)) u in
      let one : (x : Mode → World → Result) → ((n : Mode) → Silent (x n)) → (n : Mode) → Silent (pass x n) =
      λ again b n. play_quiet v (place_in s id) (going lower kid again) (going_quiet kid g again b) (rule t s k n (form c)) (rule_never t s k n (form c) a) in
      λ w. one (passes (place_in s id) pass w.turns) (repeated_quiet 1 _ (λ i u. refl) pass one w.turns 1) m w

  step_quiet : (s : Site) (f : Forest) → IsTrue (asks_nothing f) → (id i : ℕ) (m : Mode) → Silent (step v t marks lower s f id i m)
  step_quiet s none a id i m = λ w. refl
  step_quiet s (leaf u f) a id i m = step_quiet s f a id i m
  step_quiet s (node k c f) a id zero m =
      let inside : IsTrue (asks_nothing c) = front_of (asks_nothing c) (asks_nothing f) (back_of (not (may_ask k (texts (form c)))) _ a) in
      let kid : ℕ → Mode → World → Result = step v t marks lower (within k c s) c (suc id) in
      starting_quiet (is_statement k) _
      (told_quiet (is_stopped marks s.file id) s id m (at_node v t lower s k c id kid m)
      (node_quiet s k c id kid (front_of _ _ a) (λ j n. step_quiet (within k c s) c inside (suc id) j n) m))
  step_quiet s (node k c f) a id (suc i) m =
      step_quiet (beside k c s) f (back_of (asks_nothing c) (asks_nothing f) (back_of (not (may_ask k (texts (form c)))) _ a)) (suc (id + count c)) i m

  file_quiet : (path : Bytes) (f : Forest) → IsTrue (asks_nothing f) → Silent (run_file v t marks lower path (Some f))
  file_quiet path f a =
      let kid : ℕ → Mode → World → Result = step v t marks lower (file_site path) f 0 in
      let again : Mode → World → Result = λ m u. Over (End.Outside (place_of_file path) NoRule) u in
      play_quiet v (place_of_file path) (going lower kid again)
      (going_quiet kid (λ j n. step_quiet (file_site path) f a 0 j n) again (λ m w. refl)) (file_script t path (kids (form f)))
      (file_script_never t path (kids (form f)))

  found_quiet : (path : Bytes) (fs : List (Bytes × Forest)) → All (λ f. IsTrue (asks_nothing f.1)) fs → Silent (run_file v t marks lower path (file_at fs path))
  found_quiet path [] a = λ w. refl
  found_quiet path (f ∷ fs) a =
      elim (bytes_eq f.0 path) as (λ b. Silent (run_file v t marks lower path (cond b (Some f.1) (file_at fs path))))
      [ true ↦ file_quiet path f.1 (a 0 f (omega arith)) | false ↦ found_quiet path fs (λ k d below. a (suc k) d (omega (arith, below))) ]

  declared_quiet : (s : Site) (f : Forest) → IsTrue (asks_nothing f) → (id n : ℕ) (m : Mode) (x : World → Result) → Silent x
      → Silent (declared_in v t marks lower s f id n m x)
  declared_quiet s none a id n m x g = g
  declared_quiet s (leaf u f) a id n m x g = declared_quiet s f a id n m x g
  declared_quiet s (node k c f) a id n m x g =
      let rest : IsTrue (asks_nothing c && asks_nothing f) = back_of (not (may_ask k (texts (form c)))) _ a in
      let inside : IsTrue (asks_nothing c) = front_of (asks_nothing c) (asks_nothing f) rest in
      let kid : ℕ → Mode → World → Result = step v t marks lower (within k c s) c (suc id) in
      either_quiet (is_declaration k && nat_eq s.number n) _ _
      (node_quiet s k c id kid (front_of _ _ a) (λ j i. step_quiet (within k c s) c inside (suc id) j i) m)
      (declared_quiet (within k c s) c inside (suc id) n m _
      (declared_quiet (beside k c s) f (back_of (asks_nothing c) (asks_nothing f) rest) (suc (id + count c)) n m x g))

  declaration_quiet : (b : Declared) (m : Mode) (path : Bytes) (fs : List (Bytes × Forest)) → All (λ f. IsTrue (asks_nothing f.1)) fs
      → Silent (run_declared v t marks lower b m (file_at fs path))
  declaration_quiet b m path [] a = λ w. refl
  declaration_quiet b m path (f ∷ fs) a =
      elim (bytes_eq f.0 path) as (λ c. Silent (run_declared v t marks lower b m (cond c (Some f.1) (file_at fs path)))) [
        | true ↦ declared_quiet (file_site b.file) f.1 (a 0 f (omega arith)) 0 b.number m _ (λ w. refl)
        | false ↦ declaration_quiet b m path fs (λ k d below. a (suc k) d (omega (arith, below)))
      ]

refused_quiet : (b : Bool) (path : Bytes) (m : World → Result) → Silent m → Silent (λ w. unless_refused b path w (m (begun path w)))
refused_quiet true path m h = λ w. refl
refused_quiet false path m h = λ w. h (begun path w)

start_quiet : (v : Bool) (t : Tables) (p : Program) (marks : List Mark) → All (λ f. IsTrue (asks_nothing f.1)) p.files
    → (lower : Entry → World → Result) → ((e : Entry) → Silent (lower e)) → (e : Entry) → Silent (start v t p marks lower e)
start_quiet v t p marks a lower h (FileStart path) =
    refused_quiet (is_refused marks path) path (run_file v t marks lower path (file_at p.files path)) (found_quiet v t marks lower h path p.files a)
start_quiet v t p marks a lower h (DeclarationStart b m) = declaration_quiet v t marks lower h b m b.file p.files a

enter_quiet : (v : Bool) (t : Tables) (p : Program) (marks : List Mark) → All (λ f. IsTrue (asks_nothing f.1)) p.files → (n : ℕ) (e : Entry) → Silent (enter v t p marks n e)
enter_quiet v t p marks a n e =
    repeated_quiet (value_count t) _ (λ d w. refl) (start v t p marks) (start_quiet v t p marks a) n (value_count t) e

and_start_quiet : (path : Bytes) (k : World → Result) → Silent k → (o : Out) → Silent (and_start path k o)
and_start_quiet path k h (Val x) = h
and_start_quiet path k h (Fresh x) = h
and_start_quiet path k h (At c) = h
and_start_quiet path k h (Jump (Return x)) = h
and_start_quiet path k h (Jump (Throw n)) = λ w. refl
and_start_quiet path k h (Jump (Break n)) = λ w. refl
and_start_quiet path k h (Jump (Continue n)) = λ w. refl

start_all_quiet : (k : Bytes → World → Result) → ((path : Bytes) → Silent (k path)) → (first : Option Bytes) (entry : Bytes) → Silent (start_all k first entry)
start_all_quiet k h None entry = h entry
start_all_quiet k h (Some path) entry =
    λ w. then_quiet w.asked (k path w) (and_start path (k entry)) (h path w) (and_start_quiet path (k entry) (h entry))

pub asks_nowhere : AsksNowhere
asks_nowhere v p marks entry input n a =
    let t : Tables = tables_of p.files in
    let starts : Bytes → World → Result = λ path. start (is_newer v) t p marks (enter (is_newer v) t p marks n) (FileStart path) in
    answer_asked entry (start_all starts p.prepend entry (first_world input n))
    ∙ start_all_quiet starts (λ path. start_quiet (is_newer v) t p marks a (enter (is_newer v) t p marks n)
    (enter_quiet (is_newer v) t p marks a n) (FileStart path)) p.prepend entry (first_world input n)

pub inside_is_covered : InsideIsCovered
inside_is_covered source written marks a keeps entry input n i =
    keeps entry input n (record { inside = i; unasked = asks_nowhere V74 source marks entry input n a })
