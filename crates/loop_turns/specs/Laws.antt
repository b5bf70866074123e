-- That each pass of a loop takes a turn: what the meaning says of passes that take none counts in no tree of the grammar.
use Rattle.std.specs.Prelude.{◌≡◌, ℕ, zero, suc, ◌-◌, ◌≤◌, Bool, true, false, not, ◌&&◌, ◌||◌, IsTrue, List, codes}
use Rattle.php_tree.specs.declared.kind.NodeKind.{NodeKind}
use Rattle.php_tree.specs.declared.kind.NodeKind.TheVariants as kind
use Rattle.php_tree.specs.declared.version.Version.{Version}
use Rattle.php_tree.specs.Tree.{File, Forest, none, leaf, node}
use Rattle.scope_names.specs.Form.{form, kids, texts}
use Rattle.scope_names.specs.Words.{has_word}
use Rattle.scope_names.specs.Sites.{Site, within}
use Rattle.php_shapes.specs.Shapes.{Shape}
use Rattle.php_meaning.specs.names.Tables.{Tables, tables_of}
use Rattle.php_meaning.specs.runs.World.{World}
use Rattle.php_meaning.specs.runs.Script.{Mode}
use Rattle.php_meaning.specs.Rules.{rule}
use Rattle.php_meaning.specs.runs.Kinds.{is_statement}
use Rattle.php_meaning.specs.runs.Run.{Program, Mark, Result, Done, Over, play, Entry, place_in, going, repeated, at_node, step, enter, is_newer}

-- ---- turns

-- no more turns are left than so many
abbrev pub HasNoMore : ℕ → Result → Type 0
HasNoMore n (Done o w) = w.turns ≤ n
HasNoMore n (Over e w) = Unit {0}

abbrev pub NeverRises : (World → Result) → Type 0
NeverRises m = (w : World) → HasNoMore w.turns (m w)

-- what a run starts, a file or a declaration, leaves no more turns than there were
abbrev pub TurnsNeverRise : Type 0
TurnsNeverRise =
    (v : Version) (p : Program) (marks : List Mark) (n : ℕ) (e : Entry)
    → NeverRises (enter (is_newer v) (tables_of p.files) p marks n e)

-- ---- loops

abbrev pub is_loop : NodeKind → Bool
is_loop kind.While = true
is_loop kind.DoWhile = true
is_loop kind.For = true
is_loop kind.Foreach = true
is_loop k = false

-- whether the child node with an index is a statement
abbrev pub statement_at : ℕ → Forest → Bool
statement_at i none = false
statement_at i (leaf t f) = statement_at i f
statement_at zero (node k c f) = is_statement k
statement_at (suc i) (node k c f) = statement_at i f

-- whether the body of a loop is a statement, the first child of a `do` and the last one of the others; or stands behind a colon
abbrev pub has_body : NodeKind → Forest → Bool
has_body kind.DoWhile c = statement_at 0 c
has_body k c = has_word (codes ":") (texts (form c)) || statement_at (kids (form c) - 1) c

-- a node, where a further pass that comes without a turn does `cut`
abbrev pub node_cut_by : (Mode → World → Result) → Bool → Tables → (Entry → World → Result) → Site → NodeKind → Forest → ℕ → (ℕ → Mode → World → Result) → Mode → World → Result
node_cut_by cut is_new t lower s k c id kid m w =
    let pass : (Mode → World → Result) → Mode → World → Result =
    λ again n u. play is_new (place_in s id) (going lower kid again) (rule t s k n (form c)) u in
    pass (repeated 1 cut pass w.turns 1) m w

-- At a loop with such a body no pass comes without a turn: whatever it would do, the node does the same.
abbrev pub LoopsTakeTurns : Type 0
LoopsTakeTurns =
    (v : Version) (t : Tables) (marks : List Mark) (lower : Entry → World → Result) → ((e : Entry) → NeverRises (lower e))
    → (s : Site) (k : NodeKind) (c : Forest) → IsTrue (is_loop k) → IsTrue (has_body k c)
    → (id : ℕ) (m : Mode) (w : World) (cut : Mode → World → Result)
    → node_cut_by cut (is_newer v) t lower s k c id (step (is_newer v) t marks lower (within k c s) c (suc id)) m w
    ≡ at_node (is_newer v) t lower s k c id (step (is_newer v) t marks lower (within k c s) c (suc id)) m w

-- each loop, at any depth
abbrev pub loops_have_bodies : Forest → Bool
loops_have_bodies none = true
loops_have_bodies (leaf t f) = loops_have_bodies f
loops_have_bodies (node k c f) = (not (is_loop k) || has_body k c) && (loops_have_bodies c && loops_have_bodies f)

abbrev pub ShapedLoopsHaveBodies : Type 0
ShapedLoopsHaveBodies = (v : Version) (f : File) → Shape v f → IsTrue (loops_have_bodies f.statements)
