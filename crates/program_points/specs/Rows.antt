-- The edges of each kind of node, in the order of evaluation (PHP manual, "Control Structures", "Operators", "Exceptions";
-- `docs/POINTS.md` has the table with the reasons).
use Rattle.std.specs.Prelude.{ℕ, zero, suc, Bool, ◌||◌, if◌then◌else◌, codes, List, [], ◌∷◌, ◌++◌, Option, Some, None, unwrap_or}
use Rattle.program_points.specs.declared.point.Point.{Point}
use Rattle.program_points.specs.declared.point.Point.TheVariants.{Before, After}
use Rattle.program_points.specs.declared.file_edge.FileEdge.{FileEdge}
use Rattle.program_points.specs.declared.frame.Again.{Again}
use Rattle.program_points.specs.declared.frame.Again.TheVariants.{Nowhere, To, Either}
use Rattle.program_points.specs.declared.frame.Frame.{Frame}
use Rattle.program_points.specs.declared.frame.Frame.TheVariants.{Loop, Finally}
use Rattle.program_points.specs.declared.case.Case.{Case}
use Rattle.program_points.specs.declared.case.Entry.{Entry}
use Rattle.program_points.specs.Pieces.{Pieces, end, word, expr, stmt, other, exprs, stmts, steps, up_to, behind, has_word, is_case}

-- evaluation may step from one point to another by what a node does
abbrev pub Edge : Type 0
Edge = FileEdge

-- one edge, by what a node does
abbrev pub edge : ℕ → Point → Point → List Edge
edge n from to = record { from = from; to = to; node = n } ∷ []

-- from a point through nodes, one after another, to a point
abbrev pub chain : ℕ → Point → List ℕ → Point → List Edge
chain n from [] to = edge n from to
chain n from (a ∷ more) to = edge n from (Before a) ++ chain n (After a) more to

-- the same without going on behind the last one
abbrev pub run : ℕ → Point → List ℕ → List Edge
run n from [] = []
run n from (a ∷ more) = edge n from (Before a) ++ run n (After a) more

-- the point before the first of some nodes, or else this one
abbrev pub first_or : List ℕ → Point → Point
first_or [] to = to
first_or (a ∷ more) to = Before a

-- the point behind the last of some nodes, or else this one
abbrev pub last_or : List ℕ → Point → Point
last_or [] from = from
last_or (a ∷ more) from = last_or more (After a)

-- the first of some nodes, if there is one
abbrev pub head_of : List ℕ → Option ℕ
head_of [] = None
head_of (a ∷ more) = Some a

-- ---- expressions

-- from left to right
abbrev pub in_order : ℕ → List ℕ → List Edge
in_order n more = chain n (Before n) more (After n)

-- the second only if the first asks for it
abbrev pub maybe_second : ℕ → List ℕ → List Edge
maybe_second n (a ∷ b ∷ []) =
    edge n (Before n) (Before a) ++ edge n (After a) (Before b) ++ edge n (After a) (After n) ++ edge n (After b) (After n)
maybe_second n more = in_order n more

-- the second or the third, by the first
abbrev pub one_of_two : ℕ → List ℕ → List Edge
one_of_two n (a ∷ b ∷ c ∷ []) =
    edge n (Before n) (Before a) ++ edge n (After a) (Before b) ++ edge n (After b) (After n)
    ++ edge n (After a) (Before c) ++ edge n (After c) (After n)
one_of_two n more = in_order n more

-- up to the first that isn't there
abbrev pub until_missing : ℕ → Point → List ℕ → List Edge
until_missing n from [] = []
until_missing n from (a ∷ more) = edge n from (Before a) ++ edge n (After a) (After n) ++ until_missing n (After a) more

-- the operators whose right side may be left out
abbrev pub is_short : Pieces → Bool
is_short ps =
    has_word (codes "&&") ps || has_word (codes "||") ps || has_word (codes "and") ps || has_word (codes "or") ps
    || has_word (codes "??") ps || has_word (codes "??=") ps

-- an operator with its two sides
abbrev pub by_operator : ℕ → Pieces → List Edge
by_operator n ps = if is_short ps then maybe_second n (steps ps) else in_order n (steps ps)

-- ---- branches

-- a condition and what stands behind it, up to the next `elseif` or `else`
abbrev pub first_branch : Pieces → Pieces
first_branch ps = up_to (codes "else") (up_to (codes "elseif") ps)

-- Conditions in turn, each with its statements. The first number bounds how many there are.
abbrev pub branches : ℕ → ℕ → Point → Pieces → List Edge
branches zero n from ps = []
branches (suc m) n from ps = elim (exprs (first_branch ps)) [
  | [] ↦ []
  | c ∷ cs ↦
      edge n from (Before c) ++ chain n (After c) (stmts (first_branch ps)) (After n)
      ++ (if has_word (codes "elseif") ps then branches m n (After c) (behind (codes "elseif") ps)
      else chain n (After c) (stmts (behind (codes "else") ps)) (After n))
]

-- how many pieces there are
abbrev pub size : Pieces → ℕ
size end = 0
size (word t ps) = suc (size ps)
size (expr n ps) = suc (size ps)
size (stmt n ps) = suc (size ps)
size (other k n inner ps) = suc (size ps)

-- ---- loops

-- the condition, then the statements, and again
abbrev pub while_loop : ℕ → List ℕ → List ℕ → List Edge
while_loop n cs ss = chain n (Before n) (cs ++ ss) (first_or (cs ++ ss) (Before n)) ++ edge n (last_or cs (Before n)) (After n)

-- the statements, then the condition, and again
abbrev pub do_loop : ℕ → List ℕ → List ℕ → List Edge
do_loop n ss cs = chain n (Before n) (ss ++ cs) (first_or (ss ++ cs) (Before n)) ++ edge n (last_or cs (Before n)) (After n)

-- the way on from a test, where there is one
abbrev pub exit_of : ℕ → List ℕ → List Edge
exit_of n [] = []
exit_of n (c ∷ cs) = edge n (last_or cs (After c)) (After n)

-- first ones; then conditions, statements and steps, and again; without anything to repeat, nothing goes on
abbrev pub for_loop : ℕ → List ℕ → List ℕ → List ℕ → List ℕ → List Edge
for_loop n is [] [] [] = run n (Before n) is
for_loop n is cs ss ts = chain n (Before n) (is ++ cs ++ ss ++ ts) (first_or (cs ++ ss ++ ts) (After n)) ++ exit_of n cs

-- the three parts of a `for`: what stands before its first semicolon, before its second, and before its bracket
abbrev pub for_of : ℕ → Pieces → List Edge
for_of n ps =
    let rest = behind (codes ";") ps in
    for_loop n (exprs (up_to (codes ";") ps)) (exprs (up_to (codes ";") rest)) (stmts ps) (exprs (behind (codes ";") rest))

-- what a `foreach` does in each pass: its targets, the value's first, and its statements
abbrev pub passes : Pieces → List ℕ
passes ps =
    let targets = behind (codes "as") ps in
    (if has_word (codes "=>") targets
    then exprs (behind (codes "=>") targets) ++ exprs (up_to (codes "=>") targets)
    else exprs targets) ++ stmts ps

-- the subject, and then each pass
abbrev pub foreach_loop : ℕ → List ℕ → List ℕ → List Edge
foreach_loop n ss [] = in_order n ss
foreach_loop n ss (a ∷ more) =
    chain n (Before n) (ss ++ a ∷ more) (Before a) ++ edge n (last_or ss (Before n)) (After n)
    ++ edge n (last_or more (After a)) (After n)

-- what stands before `as` is the subject
abbrev pub foreach_of : ℕ → Pieces → List Edge
foreach_of n ps = foreach_loop n (exprs (up_to (codes "as") ps)) (passes ps)

-- ---- switch

-- a case by its pieces: its value, none for a default, and the first of its statements
abbrev pub case_of : Pieces → Case
case_of inner = record { value = head_of (exprs inner); first = head_of (stmts inner) }

-- the cases, in order
abbrev pub cases : Pieces → List Case
cases end = []
cases (word t ps) = cases ps
cases (expr n ps) = cases ps
cases (stmt n ps) = cases ps
cases (other k n inner ps) = if is_case k then case_of inner ∷ cases ps else cases ps

-- the statements of each, in order
abbrev pub all_statements : Pieces → List ℕ
all_statements end = []
all_statements (word t ps) = all_statements ps
all_statements (expr n ps) = all_statements ps
all_statements (stmt n ps) = all_statements ps
all_statements (other k n inner ps) = if is_case k then stmts inner ++ all_statements ps else all_statements ps

-- the point before a node, if there is one, or else this one
abbrev pub before_or : Option ℕ → Point → Point
before_or None to = to
before_or (Some n) to = Before n

-- where evaluation goes on from the front of some cases
abbrev pub start_of : List Case → Point → Point
start_of [] to = to
start_of (c ∷ cs) to = before_or c.first (start_of cs to)

-- the cases with where each goes on from its front
abbrev pub entries : List Case → Point → List Entry
entries [] to = []
entries (c ∷ cs) to = record { value = c.value; start = start_of (c ∷ cs) to } ∷ entries cs to

-- the values in turn, each with the step to its statements
abbrev pub tests : ℕ → Point → List Entry → List Edge
tests n from [] = []
tests n from (e ∷ es) = elim e.value [
  | None ↦ tests n from es
  | Some v ↦ edge n from (Before v) ++ edge n (After v) e.start ++ tests n (After v) es
]

-- the point at which no value was the subject's
abbrev pub untested : Point → List Entry → Point
untested from [] = from
untested from (e ∷ es) = elim e.value [ None ↦ untested from es | Some v ↦ untested (After v) es ]

-- where the default starts, if there is one
abbrev pub first_default : List Entry → Option Point
first_default [] = None
first_default (e ∷ es) = elim e.value [ None ↦ Some e.start | Some v ↦ first_default es ]

-- where that goes: to the default, or behind the switch
abbrev pub default_start : List Entry → Point → Point
default_start es to = unwrap_or (first_default es) to

-- from the first on, each statement goes on to the next
abbrev pub falls : ℕ → List ℕ → Point → List Edge
falls n [] to = []
falls n (a ∷ more) to = chain n (After a) more to

-- the subject; the values in turn; where none was equal, the default; and the statements, one after another
abbrev pub switch_of : ℕ → Pieces → List Edge
switch_of n ps =
    let from = last_or (exprs ps) (Before n) in
    let es = entries (cases ps) (After n) in
    run n (Before n) (exprs ps) ++ tests n from es ++ edge n (untested from es) (default_start es (After n))
    ++ falls n (all_statements ps) (After n)

-- ---- functions

-- from a default through the further ones to the body, if it begins with something
abbrev pub from_default : ℕ → ℕ → List ℕ → List ℕ → List Edge
from_default n d ds [] = run n (After d) ds
from_default n d ds (b ∷ bs) = chain n (After d) ds (Before b)

-- the defaults in turn, and then the body
abbrev pub then_body : ℕ → List ℕ → List ℕ → List Edge
then_body n [] body = []
then_body n (d ∷ ds) body = from_default n d ds body

-- ---- jumps

-- the points of `continue`
abbrev pub ways : Again → List Point
ways Nowhere = []
ways (To p) = p ∷ []
ways (Either p q) = p ∷ q ∷ []

-- the points at which a jump that aims at a loop goes on
abbrev pub landing : Bool → Point → Again → List Point
landing is_break out again = if is_break then out ∷ [] else ways again

-- the points at which a jump over so many loops goes on, the innermost of what is around it first
abbrev pub jump : Bool → ℕ → List Frame → List Point
jump is_break n [] = []
jump is_break n (Finally b ∷ fs) = Before b ∷ []
jump is_break zero (Loop out again ∷ fs) = landing is_break out again
jump is_break (suc zero) (Loop out again ∷ fs) = landing is_break out again
jump is_break (suc (suc n)) (Loop out again ∷ fs) = jump is_break (suc n) fs

-- from a point to each of some
abbrev pub to_each : ℕ → Point → List Point → List Edge
to_each n from [] = []
to_each n from (p ∷ ps) = edge n from p ++ to_each n from ps

-- ---- try

abbrev pub try_body : Pieces → List ℕ
try_body ps = stmts (up_to (codes "finally") (up_to (codes "catch") ps))

abbrev pub catches : Pieces → List ℕ
catches ps = stmts (up_to (codes "finally") (behind (codes "catch") ps))

abbrev pub finally_of : Pieces → List ℕ
finally_of ps = stmts (behind (codes "finally") ps)

-- each part goes on to the last one, and that one behind the statement
abbrev pub ends : ℕ → List ℕ → Point → List Edge
ends n [] to = []
ends n (a ∷ more) to = edge n (After a) to ++ ends n more to

-- from the last part, where there is one, to where jumps out of the others go on
abbrev pub leave : ℕ → List ℕ → List Point → List Edge
leave n [] out = []
leave n (b ∷ bs) out = to_each n (After b) out

-- the body; its ends and those of the `catch` parts; the last part's end, and the jumps out of the others
abbrev pub try_of : ℕ → Pieces → List Point → List Edge
try_of n ps leaving =
    run n (Before n) (try_body ps) ++ ends n (try_body ps) (first_or (finally_of ps) (After n))
    ++ ends n (catches ps) (first_or (finally_of ps) (After n))
    ++ ends n (finally_of ps) (After n) ++ leave n (finally_of ps) leaving
