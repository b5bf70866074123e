-- What is done to a store: cells are made and written, variables found and bound, and the holders of a cell counted.
use Rattle.std.specs.Prelude.{ℕ, zero, suc, Bool, true, false, ◌&&◌, ◌||◌, if◌then◌else◌, nat_eq, nat_lt, List, [], ◌∷◌, ◌++◌, codes, is_none, Option, Some, None}
use Rattle.std.specs.Str.{bytes_eq, str_to_ascii_lowercase}
use Rattle.scope_names.specs.Slot.{Declared, Slot, FileVariable, BodyVariable, StaticProperty}
use Rattle.php_meaning.specs.values.Value.{Value, Null, Truth, Int, Text, Object, Arr, Cell, Entries, none, own, shared}
use Rattle.php_meaning.specs.values.Cells.{Cells, is_same_cell, is_among}
use Rattle.php_meaning.specs.literals.Literals.{found}
use Rattle.php_meaning.specs.runs.World.{Bytes, Member, Frame, Store}
use Rattle.php_meaning.specs.runs.World as world

-- ---- cells

-- the store with another value in a cell
abbrev pub with_value : Cell → Value → Store → Store
with_value c v s = record s { held = λ d. elim (is_same_cell d c) [ true ↦ v | false ↦ s.held d ] }

-- the next cell
abbrev pub next_cell : Slot → Store → Cell
next_cell slot s = record { number = s.made; slot = slot }

-- the store with the next cell, which holds this value from the start
abbrev pub with_cell : Slot → Value → Store → Store
with_cell slot v s = with_value (next_cell slot s) v (record s { made = suc s.made })

-- ---- variables

-- whether a variable is the file's in every body
abbrev pub is_everywhere : Bytes → Bool
is_everywhere name = bytes_eq name (codes "_GET") || bytes_eq name (codes "_POST")

-- the slot of a variable of the code in a body, or of a file's own code
abbrev pub variable_slot : Option Declared → Bytes → Slot
variable_slot None name = FileVariable name
variable_slot (Some body) name = if is_everywhere name then FileVariable name else BodyVariable body name

-- whether a variable is one of the file level: each is where no body of a function runs
abbrev pub is_global : Bytes → Store → Bool
is_global name s = is_everywhere name || is_none s.here.body

-- the cell of a variable
abbrev pub variable_cell : Bytes → Store → Option Cell
variable_cell name s = found (if is_global name s then s.globals else s.here.variables) name

-- the value of a variable, or null where there is none
abbrev pub held_or_null : Store → Option Cell → Value
held_or_null s None = Null
held_or_null s (Some c) = s.held c

-- variables without one
abbrev pub without_name : Bytes → List (Bytes × Cell) → List (Bytes × Cell)
without_name name [] = []
without_name name (v ∷ vs) = if bytes_eq v.0 name then vs else v ∷ without_name name vs

-- variables with one bound to a cell
abbrev pub with_name : Bytes → Cell → List (Bytes × Cell) → List (Bytes × Cell)
with_name name c vs = (name, c) ∷ without_name name vs

-- the store with other variables in the place where one is
abbrev pub changing : Bytes → (List (Bytes × Cell) → List (Bytes × Cell)) → Store → Store
changing name change s =
    if is_global name s then record s { globals = change s.globals }
    else record s { here = record s.here { variables = change s.here.variables } }

-- the store with a variable bound to a cell
abbrev pub with_variable : Bytes → Cell → Store → Store
with_variable name c s = changing name (with_name name c) s

-- the store without a variable
abbrev pub without_variable : Bytes → Store → Store
without_variable name s = changing name (without_name name) s

-- ---- static properties

-- whether two names are one without case
abbrev pub same_name : Bytes → Bytes → Bool
same_name a b = bytes_eq (str_to_ascii_lowercase a) (str_to_ascii_lowercase b)

-- the cell of a static property
abbrev pub static_property_cell : List (Slot × Option Bytes × Cell) → Bytes → Bytes → Option Cell
static_property_cell [] class name = None
static_property_cell ((StaticProperty n, Some c, cell) ∷ cs) class name =
    if bytes_eq n name && same_name c class then Some cell else static_property_cell cs class name
static_property_cell (c ∷ cs) class name = static_property_cell cs class name

-- the store with a cell for a static property of a class
abbrev pub with_static : Bytes → Bytes → Cell → Store → Store
with_static class name c s = record s { statics = (StaticProperty name, Some class, c) ∷ s.statics }

-- the store without the cell of a static property
abbrev pub without_static_cell : List (Slot × Option Bytes × Cell) → Bytes → Bytes → List (Slot × Option Bytes × Cell)
without_static_cell [] class name = []
without_static_cell ((StaticProperty n, Some c, cell) ∷ cs) class name =
    if bytes_eq n name && same_name c class then cs else (StaticProperty n, Some c, cell) ∷ without_static_cell cs class name
without_static_cell (c ∷ cs) class name = c ∷ without_static_cell cs class name

abbrev pub without_static : Bytes → Bytes → Store → Store
without_static class name s = record s { statics = without_static_cell s.statics class name }

-- ---- objects and their properties

abbrev pub same_owner : Option Bytes → Option Bytes → Bool
same_owner None None = true
same_owner (Some a) (Some b) = same_name a b
same_owner a b = false

abbrev pub property_cell : List (Member × Cell) → Member → Option Cell
property_cell [] m = None
property_cell (p ∷ ps) m = if bytes_eq p.0.name m.name && same_owner p.0.owner m.owner then Some p.1 else property_cell ps m

-- an object by its number
abbrev pub object_at : List world.Object → ℕ → world.Object
object_at [] n = record { class = []; properties = [] }
object_at (o ∷ os) zero = o
object_at (o ∷ os) (suc n) = object_at os n

abbrev pub changed_object : List world.Object → ℕ → (world.Object → world.Object) → List world.Object
changed_object [] n f = []
changed_object (o ∷ os) zero f = f o ∷ os
changed_object (o ∷ os) (suc n) f = o ∷ changed_object os n f

-- an object with a new property
abbrev pub with_property : ℕ → Member → Cell → Store → Store
with_property n m c s =
    record s { objects = changed_object s.objects n (λ o. record o { properties = o.properties ++ (m, c) ∷ [] }) }

-- properties without one
abbrev pub without_member : Member → List (Member × Cell) → List (Member × Cell)
without_member m [] = []
without_member m (p ∷ ps) =
    if bytes_eq p.0.name m.name && same_owner p.0.owner m.owner then ps else p ∷ without_member m ps

abbrev pub without_property : ℕ → Member → Store → Store
without_property n m s =
    record s { objects = changed_object s.objects n (λ o. record o { properties = without_member m o.properties }) }

-- the property of an object
abbrev pub cell_of : ℕ → Member → Store → Option Cell
cell_of n m s = property_cell (object_at s.objects n).properties m

-- an object with a value in a property, which is made where there is none
abbrev pub with_made : ℕ → Member → Slot → Value → Store → Store
with_made n m slot v s = elim (cell_of n m s) [
  | Some c ↦ with_value c v s
  | None ↦ with_property n m (next_cell slot s) (with_cell slot v s)
]

-- ---- holders

-- the cells that lie in a value, one for each place
abbrev mutual
  pub cells_in : Value → List Cell
  cells_in Null = []
  cells_in (Truth b) = []
  cells_in (Int i) = []
  cells_in (Text t) = []
  cells_in (Object n) = []
  cells_in (Arr largest next es) = cells_among es

  pub cells_among : Entries → List Cell
  cells_among none = []
  cells_among (own k n v rest) = cells_in v ++ cells_among rest
  cells_among (shared k n c rest) = c ∷ cells_among rest

abbrev pub named_cells : {A : Type 0} → List (A × Cell) → List Cell
named_cells [] = []
named_cells (v ∷ vs) = v.1 ∷ named_cells vs

abbrev pub frame_cells : List Frame → List Cell
frame_cells [] = []
frame_cells (f ∷ fs) = named_cells f.variables ++ frame_cells fs

abbrev pub static_cells : List (Slot × Option Bytes × Cell) → List Cell
static_cells [] = []
static_cells (c ∷ cs) = c.2 ∷ static_cells cs

abbrev pub object_cells : List world.Object → List Cell
object_cells [] = []
object_cells (o ∷ os) = named_cells o.properties ++ object_cells os

-- these cells and those, each once
abbrev pub added_cells : List Cell → List Cell → List Cell
added_cells seen [] = seen
added_cells seen (c ∷ cs) = if is_among c seen then added_cells seen cs else added_cells (c ∷ seen) cs

abbrev pub cells_held : Store → List Cell → List Cell
cells_held s [] = []
cells_held s (c ∷ cs) = cells_in (s.held c) ++ cells_held s cs

-- The cells that something outside of arrays holds, one for each holder. A loop by reference holds the cell that it walks
-- over, and the cells in its array: copying that array would make 7.4 begin it again, and 8.3 go on.
abbrev pub roots : Store → List Cell
roots s =
    named_cells s.globals ++ named_cells s.here.variables ++ frame_cells s.waiting ++ static_cells s.statics ++ object_cells s.objects
    ++ s.lent ++ s.walked ++ cells_held s s.walked

-- the cells that are reached from these in at most so many steps
abbrev pub reached : ℕ → Store → List Cell → List Cell
reached zero s cs = cs
reached (suc n) s cs = reached n s (added_cells cs (cells_held s cs))

abbrev pub times_among : Cell → List Cell → ℕ
times_among c [] = zero
times_among c (d ∷ ds) = if is_same_cell c d then suc (times_among c ds) else times_among c ds

-- How many holders a cell has, of those that can be reached.
abbrev pub holders : Store → Cell → ℕ
holders s c = times_among c (roots s ++ cells_held s (reached s.made s (added_cells [] (roots s))))

-- cells without one of them
abbrev pub without_cell : Cell → List Cell → List Cell
without_cell c [] = []
without_cell c (d ∷ ds) = if is_same_cell c d then ds else d ∷ without_cell c ds

-- the store where something that is not stored yet refers to a cell, or no more to those of entries
abbrev pub lending : Cell → Store → Store
lending c s = record s { lent = c ∷ s.lent }

abbrev pub without_shared : Entries → List Cell → List Cell
without_shared none cs = cs
without_shared (own k n v rest) cs = without_shared rest cs
without_shared (shared k n c rest) cs = without_shared rest (without_cell c cs)

abbrev pub given_back : Entries → Store → Store
given_back es s = record s { lent = without_shared es s.lent }

-- the store where a loop by reference walks over the array in a cell, or no more
abbrev pub walking : Cell → Store → Store
walking c s = record s { walked = c ∷ s.walked }

abbrev pub walked_over : Cell → Store → Store
walked_over c s = record s { walked = without_cell c s.walked }

-- what the store tells of cells
abbrev pub cells_of : Store → Cells
cells_of s = record { value_in = s.held; has_one_holder = λ c. nat_lt (holders s c) 2; count = s.made }
