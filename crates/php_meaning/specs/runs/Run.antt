-- Runs: a script is played, a node is entered, a file is started.
use Rattle.std.specs.Prelude.{ℕ, zero, suc, ◌+◌, pos, Bool, true, false, ◌&&◌, ◌||◌, nat_eq, nat_lt, cond, List, [], ◌∷◌, ◌++◌, length, codes, Option, Some, None}
use Rattle.std.specs.Str.{bytes_eq}
use Rattle.php_tree.specs.declared.version.Version.{Version}
use Rattle.php_tree.specs.declared.version.Version.TheVariants.{V74, V83}
use Rattle.php_tree.specs.declared.kind.NodeKind.{NodeKind}
use Rattle.php_tree.specs.Tree.{Forest, none, leaf, node, count}
use Rattle.scope_names.specs.Slot.{Declared, Slot, FileVariable}
use Rattle.scope_names.specs.Form.{form, kids}
use Rattle.scope_names.specs.Sites.{Site, file_site, is_declaration, within, beside}
use Rattle.php_meaning.specs.names.Tables.{Tables, tables_of}
use Rattle.php_meaning.specs.values.Value.{Value, Null, Int, Cell}
use Rattle.php_meaning.specs.values.Value as entries
use Rattle.php_meaning.specs.values.Cells.{is_same_cell}
use Rattle.php_meaning.specs.values.Arrays.{array}
use Rattle.php_meaning.specs.expressions.Assigning.{size}
use Rattle.php_meaning.specs.runs.Input.{Input, no_items, sent_array, texts_array}
use Rattle.php_meaning.specs.Cause.{NoRule, Call, StopMark, CompileMark}
use Rattle.php_meaning.specs.runs.World.{
  Bytes,
  Object,
  Frame,
  Store,
  Place,
  End,
  Going,
  Ended,
  Threw,
  Outside,
  Moment,
  Before,
  After,
  Returned,
  Thrown,
  Broken,
  Continued,
  Visit,
  Asked,
  World,
}
use Rattle.php_meaning.specs.runs.Script.{
  Return,
  Throw,
  Break,
  Continue,
  Out,
  Val,
  Fresh,
  At,
  Jump,
  Mode,
  Read,
  Quiet,
  Early,
  Found,
  FoundQuietly,
  Target,
  Kid,
  Again,
  There,
  File,
  Script,
  Give,
  Stop,
  Finish,
  Look,
  Put,
  Echo,
  Turn,
  Ask,
  Run,
}
use Rattle.php_meaning.specs.Rules.{rule, file_script}
use Rattle.php_meaning.specs.runs.Kinds.{is_statement}

-- ---- programs, marks and input

-- files by path, and the file that is started before each entry, if any
pub record Program : Type 0 where
  pub files : List (Bytes × Forest)
  pub prepend : Option Bytes

-- a node whose evaluation leaves the claim, or a file whose start does
pub data Mark : Type 0 where
  StopAt : Bytes → ℕ → Mark
  CompileOf : Bytes → Mark

-- what an observer learns of a run
pub record Answer : Type 0 where
  pub echo : Bytes
  pub end : End
  pub asked : List Asked
  pub visits : List Visit

-- the statements of a path
abbrev pub file_at : List (Bytes × Forest) → Bytes → Option Forest
file_at [] path = None
file_at (f ∷ fs) path = cond (bytes_eq f.0 path) (Some f.1) (file_at fs path)

abbrev pub stops_at : Mark → Bytes → ℕ → Bool
stops_at (StopAt file id) path n = bytes_eq file path && nat_eq id n
stops_at (CompileOf file) path n = false

abbrev pub stops_file : Mark → Bytes → Bool
stops_file (StopAt file id) path = false
stops_file (CompileOf file) path = bytes_eq file path

abbrev pub is_stopped : List Mark → Bytes → ℕ → Bool
is_stopped [] path n = false
is_stopped (m ∷ ms) path n = stops_at m path n || is_stopped ms path n

abbrev pub is_refused : List Mark → Bytes → Bool
is_refused [] path = false
is_refused (m ∷ ms) path = stops_file m path || is_refused ms path

-- ---- scripts

-- a script or a node came to something, or the run is over
pub data Result : Type 0 where
  Done : Out → World → Result
  Over : End → World → Result

abbrev pub then_do : Result → (Out → World → Result) → Result
then_do (Done o w) k = k o w
then_do (Over e w) k = Over e w

-- one turn less, or the run goes on past its bound
abbrev pub with_turn : World → ℕ → (World → Result) → Result
with_turn w zero k = Over Going w
with_turn w (suc n) k = k (record w { turns = n })

-- A script is played at a place: `is_new` is the version, and `go` runs children, passes and bodies.
abbrev pub play : Bool → Place → (Target → World → Result) → Script → World → Result
play is_new here go (Give o) w = Done o w
play is_new here go (Stop c) w = Over (Outside here c) w
play is_new here go (Finish status) w = Over (Ended status) w
play is_new here go (Look k) w = play is_new here go (k w.store) w
play is_new here go (Put s k) w = play is_new here go k (record w { store = s })
play is_new here go (Echo bytes k) w = play is_new here go k (record w { echo = w.echo ++ bytes })
play is_new here go (Turn k) w = with_turn w w.turns (λ u. play is_new here go k u)
play is_new here go (Ask point k) w = play is_new here go (k is_new) (record w { asked = record { place = here; point = point } ∷ w.asked })
play is_new here go (Run t k) w = then_do (go t w) (λ o u. play is_new here go (k o) u)

-- ---- nodes

-- what is started: a file, or a declaration's body or value
pub data Entry : Type 0 where
  FileStart : Bytes → Entry
  DeclarationStart : Declared → Mode → Entry

abbrev pub place_in : Site → ℕ → Place
place_in s id = record { file = s.file; node = Some id }

abbrev pub place_of_file : Bytes → Place
place_of_file path = record { file = path; node = None }

-- a visit is told
abbrev pub told : Site → ℕ → Moment → Option Value → World → World
told s id m v w = record w { visits = record { place = place_in s id; body = s.body; moment = m; value = v; store = w.store } ∷ w.visits }

-- the value that a visit tells: only where the node was evaluated for its value
abbrev pub value_of : Mode → Out → Option Value
value_of Read (Val v) = Some v
value_of Read (Fresh v) = Some v
value_of Quiet (Val v) = Some v
value_of Quiet (Fresh v) = Some v
value_of (Found l) (Val v) = Some v
value_of (FoundQuietly l) (Val v) = Some v
value_of Early (Val v) = Some v
value_of Early (Fresh v) = Some v
value_of m o = None

abbrev pub moment_of : Out → Moment
moment_of (Val v) = After
moment_of (Fresh v) = After
moment_of (At l) = After
moment_of (Jump (Return v)) = Returned
moment_of (Jump (Throw o)) = Thrown
moment_of (Jump (Break n)) = Broken
moment_of (Jump (Continue n)) = Continued

-- the end of a node's evaluation is told
abbrev pub left : Site → ℕ → Mode → Result → Result
left s id m (Done o w) = Done o (told s id (moment_of o) (value_of m o) w)
left s id m (Over e w) = Over e w

-- a statement takes a turn before it starts
abbrev pub starting : Bool → World → (World → Result) → Result
starting true w k = with_turn w w.turns k
starting false w k = k w

-- a marked node stops the run
abbrev pub unless_stopped : Bool → Place → World → Result → Result
unless_stopped true here w r = Over (Outside here StopMark) w
unless_stopped false here w r = r

-- what a script at a node runs
abbrev pub going : (Entry → World → Result) → (ℕ → Mode → World → Result) → (Mode → World → Result) → Target → World → Result
going lower kid again (Kid i m) w = kid i m w
going lower kid again (Again m) w = again m w
going lower kid again (There b m) w = lower (DeclarationStart b m) w
going lower kid again (File path) w = lower (FileStart path) w

-- What may run itself again: each time after a turn, where fewer than `n` are left, or without one, at most `free` times
-- in a row. What goes on past that without a turn is `out`. So a run can't go on for ever, and no run that takes its turns is
-- cut off.
abbrev pub repeated : {A : Type 0} → ℕ → (A → World → Result) → ((A → World → Result) → A → World → Result) → ℕ → ℕ → A → World → Result
repeated free out f zero zero a w = out a w
repeated free out f zero (suc left) a w = f (repeated free out f zero left) a w
repeated free out f (suc n) zero a w = elim (nat_lt w.turns (suc n)) [
  | true ↦ f (repeated free out f n free) a w
  | false ↦ out a w
]
repeated free out f (suc n) (suc left) a w = elim (nat_lt w.turns (suc n)) [
  | true ↦ f (repeated free out f n free) a w
  | false ↦ f (repeated free out f (suc n) left) a w
]

-- A node's further passes: each comes after a turn, but for the first one over the entries of an array.
abbrev pub passes : Place → ((Mode → World → Result) → Mode → World → Result) → ℕ → Mode → World → Result
passes here pass n = repeated 1 (λ m w. Over (Outside here NoRule) w) pass n 1

-- A node is played: `kid` evaluates its children.
abbrev pub at_node : Bool → Tables → (Entry → World → Result) → Site → NodeKind → Forest → ℕ → (ℕ → Mode → World → Result) → Mode → World → Result
at_node is_new t lower s k c id kid m w =
    let pass : (Mode → World → Result) → Mode → World → Result =
    λ again n u. play is_new (place_in s id) (going lower kid again) (rule t s k n (form c)) u in
    pass (passes (place_in s id) pass w.turns) m w

-- The child node with an index among these parts, whose first node has the number `id`, is evaluated.
abbrev pub step : Bool → Tables → List Mark → (Entry → World → Result) → Site → Forest → ℕ → ℕ → Mode → World → Result
step is_new t marks lower s none id i m w = Over (Outside (place_of_file s.file) NoRule) w
step is_new t marks lower s (leaf u f) id i m w = step is_new t marks lower s f id i m w
step is_new t marks lower s (node k c f) id zero m w =
    starting (is_statement k) w (λ u. unless_stopped (is_stopped marks s.file id) (place_in s id) u
    (left s id m (at_node is_new t lower s k c id (step is_new t marks lower (within k c s) c (suc id)) m (told s id Before None u))))
step is_new t marks lower s (node k c f) id (suc i) m w = step is_new t marks lower (beside k c s) f (suc (id + count c)) i m w

-- ---- files and declarations

-- the statements of a file, one after another
abbrev pub run_file : Bool → Tables → List Mark → (Entry → World → Result) → Bytes → Option Forest → World → Result
run_file is_new t marks lower path None w = Over (Outside (place_of_file path) NoRule) w
run_file is_new t marks lower path (Some f) w =
    play is_new (place_of_file path)
    (going lower (step is_new t marks lower (file_site path) f 0) (λ m u. Over (Outside (place_of_file path) NoRule) u))
    (file_script t path (kids (form f))) w

-- The declaration with a number is played, in a mode: in parts that begin at a site and with the node `id`.
abbrev pub declared_in : Bool → Tables → List Mark → (Entry → World → Result) → Site → Forest → ℕ → ℕ → Mode → (World → Result) → World → Result
declared_in is_new t marks lower s none id n m missing w = missing w
declared_in is_new t marks lower s (leaf u f) id n m missing w = declared_in is_new t marks lower s f id n m missing w
declared_in is_new t marks lower s (node k c f) id n m missing w =
    elim (is_declaration k && nat_eq s.number n) [
      | true ↦ at_node is_new t lower s k c id (step is_new t marks lower (within k c s) c (suc id)) m w
      | false ↦
          declared_in is_new t marks lower (within k c s) c (suc id) n m
          (λ u. declared_in is_new t marks lower (beside k c s) f (suc (id + count c)) n m missing u) w
    ]

abbrev pub run_declared : Bool → Tables → List Mark → (Entry → World → Result) → Declared → Mode → Option Forest → World → Result
run_declared is_new t marks lower b m None w = Over (Outside (place_of_file b.file) NoRule) w
run_declared is_new t marks lower b m (Some f) w =
    declared_in is_new t marks lower (file_site b.file) f 0 b.number m (λ u. Over (Outside (place_of_file b.file) NoRule) u) w

abbrev pub unless_refused : Bool → Bytes → World → Result → Result
unless_refused true path w r = Over (Outside (place_of_file path) CompileMark) w
unless_refused false path w r = r

-- the file counts as started
abbrev pub begun : Bytes → World → World
begun path w = record w { store = record w.store { started = path ∷ w.store.started } }

abbrev pub start : Bool → Tables → Program → List Mark → (Entry → World → Result) → Entry → World → Result
start is_new t p marks lower (FileStart path) w =
    unless_refused (is_refused marks path) path w (run_file is_new t marks lower path (file_at p.files path) (begun path w))
start is_new t p marks lower (DeclarationStart b m) w = run_declared is_new t marks lower b m (file_at p.files b.file) w

-- how many values the declarations of a program write down, at most
abbrev pub value_count : Tables → ℕ
value_count [] = zero
value_count (d ∷ ds) = kids d.form + value_count ds

abbrev pub place_of_entry : Entry → Place
place_of_entry (FileStart path) = place_of_file path
place_of_entry (DeclarationStart d m) = place_of_file d.file

-- A file or a declaration is started inside another one, once a turn was taken there; but for the values that declarations
-- write down: more of these in a row than there are come back to one that is being found.
abbrev pub enter : Bool → Tables → Program → List Mark → ℕ → Entry → World → Result
enter is_new t p marks n =
    repeated (value_count t) (λ e w. Over (Outside (place_of_entry e) Call) w) (start is_new t p marks) n (value_count t)

-- ---- whole runs

-- the cells of the file-level variables that are there from the start
abbrev pub slot_numbered : ℕ → Slot
slot_numbered zero = FileVariable (codes "_GET")
slot_numbered (suc zero) = FileVariable (codes "_POST")
slot_numbered (suc (suc zero)) = FileVariable (codes "argv")
slot_numbered n = FileVariable (codes "argc")

abbrev pub cell_numbered : ℕ → Cell
cell_numbered n = record { number = n; slot = slot_numbered n }

abbrev pub first_values : Input → Cell → Value
first_values input c =
    cond (is_same_cell c (cell_numbered 0)) (array (sent_array no_items input.get))
    (cond (is_same_cell c (cell_numbered 1)) (array (sent_array no_items input.post))
    (cond (is_same_cell c (cell_numbered 2)) (array (texts_array no_items 0 input.argv))
    (cond (is_same_cell c (cell_numbered 3)) (Int (pos (length input.argv))) Null)))

abbrev pub first_frame : Frame
first_frame = record {
  body = None;
  variables = [];
  this = None;
  class = None;
  copy = None;
  arguments = entries.none;
  item = None;
}

abbrev pub first_store : Input → Store
first_store input = record {
  held = first_values input;
  made = 4;
  serials = size (array (sent_array no_items input.get)) + (size (array (sent_array no_items input.post)) + size (array (texts_array no_items 0 input.argv)));
  globals = (codes "_GET", cell_numbered 0) ∷ (codes "_POST", cell_numbered 1) ∷ (codes "argv", cell_numbered 2)
      ∷ (codes "argc", cell_numbered 3) ∷ [];
  here = first_frame;
  waiting = [];
  statics = [];
  objects = [];
  constants = [];
  any_case = [];
  declared = [];
  started = [];
  strict = [];
  lent = [];
  walked = [];
}

abbrev pub first_world : Input → ℕ → World
first_world input n = record { store = first_store input; echo = []; turns = n; visits = []; asked = [] }

-- the class of an object
abbrev pub class_of : List Object → ℕ → Bytes
class_of [] n = []
class_of (o ∷ os) zero = o.class
class_of (o ∷ os) (suc n) = class_of os n

-- what a file's end is to the run: a value and a return end the file, an exception goes on
abbrev pub end_of_file : Bytes → Out → World → End
end_of_file path (Val v) w = Ended (pos 0)
end_of_file path (Fresh v) w = Ended (pos 0)
end_of_file path (At l) w = Ended (pos 0)
end_of_file path (Jump (Return v)) w = Ended (pos 0)
end_of_file path (Jump (Throw o)) w = Threw (class_of w.store.objects o)
end_of_file path (Jump (Break n)) w = Outside (place_of_file path) NoRule
end_of_file path (Jump (Continue n)) w = Outside (place_of_file path) NoRule

abbrev pub answer_of : End → World → Answer
answer_of e w = record { echo = w.echo; end = e; asked = w.asked; visits = w.visits }

abbrev pub answer : Bytes → Result → Answer
answer path (Done o w) = answer_of (end_of_file path o w) w
answer path (Over e w) = answer_of e w

-- The next file is started where this one came to its end. An exception goes on; nothing is broken off or gone on with
-- past a file.
abbrev pub and_start : Bytes → (World → Result) → Out → World → Result
and_start path next (Val v) w = next w
and_start path next (Fresh v) w = next w
and_start path next (At l) w = next w
and_start path next (Jump (Return v)) w = next w
and_start path next (Jump (Throw o)) w = Done (Jump (Throw o)) w
and_start path next (Jump (Break n)) w = Over (Outside (place_of_file path) NoRule) w
and_start path next (Jump (Continue n)) w = Over (Outside (place_of_file path) NoRule) w

-- the file that comes before each entry, if any, and then the entry
abbrev pub start_all : (Bytes → World → Result) → Option Bytes → Bytes → World → Result
start_all run None entry w = run entry w
start_all run (Some path) entry w = then_do (run path w) (and_start path (run entry))

-- what a program comes to from an entry, with marks, on an input, within a number of turns
abbrev pub result_of : Bool → Program → List Mark → Bytes → Input → ℕ → Result
result_of is_new p marks entry input n =
    let t : Tables = tables_of p.files in
    start_all (λ path. start is_new t p marks (enter is_new t p marks n) (FileStart path)) p.prepend entry (first_world input n)

abbrev pub run_of : Bool → Program → List Mark → Bytes → Input → ℕ → Answer
run_of is_new p marks entry input n = answer entry (result_of is_new p marks entry input n)

abbrev pub is_newer : Version → Bool
is_newer V74 = false
is_newer V83 = true

abbrev pub run : Version → Program → List Mark → Bytes → Input → ℕ → Answer
run v = run_of (is_newer v)
