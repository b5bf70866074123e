-- Where the last statement of parts ends: an `else` behind it belongs to a nearer node.
use Rattle.std.proofs.Common.{◌≡◌, Bool, true, false, not, ◌&&◌, ◌||◌, List, ◌∷◌, inl, inr, refl, sym}
use Rattle.std.proofs.lemmas.Bool.{or_left, or_right, and_parts}
use Rattle.php_tree.specs.declared.kind.NodeKind.{NodeKind}
use Rattle.php_tree.specs.declared.token.Token.{Token}
use Rattle.php_tree.specs.declared.version.Version.{Version}
use Rattle.php_tree.specs.Tree.{Forest, Tree, none, leaf, node, ◌+++◌}
use Rattle.php_terminals.specs.declared.terminal.Terminal.{Terminal}
use Rattle.php_terminals.specs.Classify.{terminal}
use Rattle.php_terminals.specs.Ahead.{first_of}
use Rattle.php_shapes.specs.Forms.{form}
use Rattle.php_shapes.specs.Nearest.{arrows_are_nearest, elses_are_nearest, ends_in_if, goes_on_if, is_open_if}
use Rattle.php_shapes.specs.Shapes.{Fits, IsNode, is_node}
use Rattle.php_shapes.proofs.ReadClasses.{or_is}
use Rattle.php_shapes.proofs.ReadEnds.{closes_statement, EndsStatement}
use Rattle.php_shapes.proofs.ReadMatch.{false_true, Last}

-- what may follow a statement
abbrev pub follows_statement : Terminal → Bool
follows_statement c = closes_statement c || goes_on_if c

pub shaped : (v : Version) (j : NodeKind) (c : Forest) → IsNode v j c → Fits v (form v j) c
shaped v j c (is_node x near e) = x

pub elses_nearest : (v : Version) (j : NodeKind) (c : Forest) → IsNode v j c → elses_are_nearest false c ≡ true
elses_nearest v j c (is_node x near e) = (and_parts (elses_are_nearest false c) (arrows_are_nearest false c) near).0

pub right_false : (a b : Bool) → (a || b) ≡ false → b ≡ false
right_false true b h = absurd (false_true (sym h))
right_false false b h = h

pub follows : (x : Tree) (c : Terminal) → EndsStatement x c → follows_statement c ≡ true
follows x c e = elim e [ inl h ↦ or_left (closes_statement c) (goes_on_if c) h | inr h ↦ or_right (closes_statement c) (goes_on_if c) h.0 ]

-- the last part ends before what closes a statement
pub last_closed : (f : Forest) (rest : List Token) → closes_statement (first_of rest) ≡ true → Last f rest
last_closed none rest h = tt
last_closed (leaf x f) rest h = last_closed f rest h
last_closed (node j b none) rest h = inl h
last_closed (node j b (leaf x f)) rest h = last_closed f rest h
last_closed (node j b (node i a f)) rest h = last_closed (node i a f) rest h

-- the last part ends before an `else` where it has no `if` that could take it
last_by : (before : Bool) (f : Forest) (rest : List Token) → goes_on_if (first_of rest) ≡ true → ends_in_if before f ≡ false → Last f rest
last_by before none rest g e = tt
last_by before (leaf x f) rest g e = last_by false f rest g e
last_by before (node j b none) rest g e = inr (g, e)
last_by before (node j b (leaf x f)) rest g e = last_by false f rest g e
last_by before (node j b (node i a f)) rest g e = last_by (is_open_if j b || ends_in_if false b) (node i a f) rest g e

-- a statement ends where its last part does
pub last_of : (j : NodeKind) (c : Forest) (rest : List Token) → EndsStatement (j, c) (first_of rest) → Last c rest
last_of j c rest e = elim e [ inl h ↦ last_closed c rest h | inr h ↦ last_by false c rest h.0 (right_false (is_open_if j c) (ends_in_if false c) h.1) ]

not_both : (a b c : Bool) → (not (a && b) && c) ≡ true → b ≡ true → a ≡ false
not_both true true c h e = absurd (false_true h)
not_both true false c h e = absurd (false_true e)
not_both false b c h e = refl

-- the last part ends before the token that follows it
pub last_near : (before : Bool) (g : Forest) (x : Token) (k : Forest) (us : List Token)
    → elses_are_nearest before (g +++ leaf x k) ≡ true → follows_statement (terminal x) ≡ true → Last g (x ∷ us)
last_near before none x k us e h = tt
last_near before (leaf y g) x k us e h = last_near false g x k us ((and_parts (not (before && goes_on_if (terminal y))) (elses_are_nearest false (g +++ leaf x k)) e).1) h
last_near before (node j b none) x k us e h = elim (or_is (closes_statement (terminal x)) (goes_on_if (terminal x)) h) [
  | inl o ↦ inl o
  | inr o ↦ inr (o, not_both (is_open_if j b || ends_in_if false b) (goes_on_if (terminal x)) (elses_are_nearest false k) e o)
]
last_near before (node j b (leaf y g)) x k us e h = last_near (is_open_if j b || ends_in_if false b) (leaf y g) x k us e h
last_near before (node j b (node i a g)) x k us e h = last_near (is_open_if j b || ends_in_if false b) (node i a g) x k us e h

-- what stands behind parts, with whether they end in an open `if`
pub nearest_right : (before : Bool) (g k : Forest) → elses_are_nearest before (g +++ k) ≡ true → (after : Bool) × (elses_are_nearest after k ≡ true)
nearest_right before none k e = (before, e)
nearest_right before (leaf y g) k e = nearest_right false g k ((and_parts (not (before && goes_on_if (terminal y))) (elses_are_nearest false (g +++ k)) e).1)
nearest_right before (node j b g) k e = nearest_right (is_open_if j b || ends_in_if false b) g k e

last_more : (j : NodeKind) (b f : Forest) (rest : List Token) → Last (node j b f) rest → Last f rest
last_more j b none rest h = tt
last_more j b (leaf x f) rest h = h
last_more j b (node i a f) rest h = h

-- the last of what stands behind parts
pub last_behind : (g k : Forest) (rest : List Token) → Last (g +++ k) rest → Last k rest
last_behind none k rest l = l
last_behind (leaf x g) k rest l = last_behind g k rest l
last_behind (node j b g) k rest l = last_behind g k rest (last_more j b (g +++ k) rest l)
