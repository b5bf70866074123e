-- Which edges the nodes of a file have: those of their rows, and from each point of a part of a `try` to its later parts.
use Rattle.std.specs.Prelude.{ℕ, suc, ◌+◌, ◌-◌, Bool, true, false, ◌||◌, nat_eq, nat_le, if◌then◌else◌, codes, List, [], ◌∷◌, ◌++◌, map, Option, Some, None}
use Rattle.php_tree.specs.declared.kind.NodeKind.{NodeKind}
use Rattle.php_tree.specs.declared.kind.NodeKind.TheVariants as kind
use Rattle.php_tree.specs.Tree.{Forest, none, leaf, node, count}
use Rattle.program_points.specs.declared.point.Point.{Point}
use Rattle.program_points.specs.declared.point.Point.TheVariants.{Before, After}
use Rattle.program_points.specs.declared.flow.Flow.{Flow}
use Rattle.program_points.specs.declared.flow.Flow.TheVariants as flow
use Rattle.program_points.specs.declared.frame.Again.{Again}
use Rattle.program_points.specs.declared.frame.Again.TheVariants.{Nowhere, To, Either}
use Rattle.program_points.specs.declared.frame.Frame.{Frame}
use Rattle.program_points.specs.declared.frame.Frame.TheVariants.{Loop, Finally}
use Rattle.program_points.specs.declared.frame.Handler.{Handler}
use Rattle.program_points.specs.Flows.{flow_of}
use Rattle.program_points.specs.Levels.{level}
use Rattle.program_points.specs.Pieces.{Pieces, pieces, exprs, stmts, steps, up_to, behind, is_word, has_points, defaults}
use Rattle.program_points.specs.Rows.{Edge, edge, run, first_or, in_order, one_of_two, maybe_second, until_missing, by_operator, branches, size}
use Rattle.program_points.specs.Rows.{while_loop, do_loop, for_of, foreach_of, passes, switch_of, then_body, head_of, jump, to_each, try_body, catches, finally_of, try_of}

-- ---- what is around

-- what a jump may lead to, and where a thrown value may go on, the innermost first
pub record Around : Type 0 where
  pub frames : List Frame
  pub handlers : List Handler

-- nothing, at the start of a body
abbrev pub nothing : Around
nothing = record { frames = []; handlers = [] }

-- where `continue` goes on in a `for`
abbrev pub for_again : Pieces → Again
for_again ps =
    let rest = behind (codes ";") ps in
    let all = exprs (behind (codes ";") rest) ++ exprs (up_to (codes ";") rest) ++ stmts ps in
    elim (head_of all) [ None ↦ Nowhere | Some a ↦ To (Before a) ]

-- where it does in a `foreach`: at the next pass, or behind the statement
abbrev pub foreach_again : ℕ → Pieces → Again
foreach_again n ps = elim (head_of (passes ps)) [ None ↦ To (After n) | Some a ↦ Either (Before a) (After n) ]

-- the loop or switch that a node is to the jumps inside it
abbrev pub loop_of : Flow → ℕ → Pieces → Option Frame
loop_of flow.While n ps = Some (Loop (After n) (To (first_or (exprs ps) (Before n))))
loop_of flow.DoWhile n ps = Some (Loop (After n) (To (first_or (exprs ps) (Before n))))
loop_of flow.For n ps = Some (Loop (After n) (for_again ps))
loop_of flow.Foreach n ps = Some (Loop (After n) (foreach_again n ps))
loop_of flow.Switch n ps = Some (Loop (After n) (To (After n)))
loop_of w n ps = None

-- whether a number is among others
abbrev pub is_among : ℕ → List ℕ → Bool
is_among n [] = false
is_among n (m ∷ ms) = nat_eq n m || is_among n ms

-- the numbers behind one
abbrev pub later : ℕ → List ℕ → List ℕ
later n [] = []
later n (m ∷ ms) = if nat_eq n m then ms else later n ms

-- parts of a `try` with a number, as later ones
abbrev pub handlers_of : ℕ → List ℕ → List Handler
handlers_of n starts = map (λ s. record { of = n; start = s }) starts

-- jumps go through the last part, if there is one
abbrev pub through_finally : List ℕ → List Frame → List Frame
through_finally [] fs = fs
through_finally (b ∷ bs) fs = Finally b ∷ fs

-- what is around a part of a `try` that has a last part and such later ones
abbrev pub before_parts : ℕ → List ℕ → List ℕ → Around → Around
before_parts n parts last a = record {
  frames = through_finally last a.frames;
  handlers = handlers_of n (parts ++ last) ++ a.handlers;
}

-- what is around one of its parts, by its body, its `catch` parts and its last part
abbrev pub in_parts : ℕ → List ℕ → List ℕ → List ℕ → Around → ℕ → Around
in_parts n body caught last a m =
    if is_among m body then before_parts n caught last a
    else (if is_among m caught then before_parts n (later m caught) last a else a)

-- the same by its pieces
abbrev pub in_part : ℕ → Pieces → Around → ℕ → Around
in_part n ps a m = in_parts n (try_body ps) (catches ps) (finally_of ps) a m

-- what runs elsewhere than where it stands
abbrev pub is_elsewhere : NodeKind → Bool
is_elsewhere kind.Function = true
is_elsewhere kind.Method = true
is_elsewhere kind.Closure = true
is_elsewhere kind.Arrow = true
is_elsewhere kind.Class = true
is_elsewhere kind.Interface = true
is_elsewhere kind.Trait = true
is_elsewhere kind.Property = true
is_elsewhere kind.ClassConst = true
is_elsewhere k = false

-- whether the parts of a node have different things around them
abbrev pub is_try : NodeKind → Bool
is_try kind.Try = true
is_try k = false

-- in a loop, if this is one
abbrev pub in_loop : Option Frame → Around → Around
in_loop None a = a
in_loop (Some f) a = record a { frames = f ∷ a.frames }

-- what is around a node inside another one, by its number
abbrev pub inside : NodeKind → ℕ → Pieces → Around → ℕ → Around
inside k n ps a m =
    if is_elsewhere k then nothing
    else (if is_try k then in_part n ps a m else in_loop (loop_of (flow_of k) n ps) a)

-- ---- jumps out of a `try`

-- a jump over more loops than are around it here: whether it is a `break`, and over how many further ones
pub record Leaving : Type 0 where
  pub is_break : Bool
  pub level : ℕ

-- a jump of a level, in so many loops
abbrev pub beyond : Bool → ℕ → ℕ → List Leaving
beyond is_break depth n = if nat_le n depth then [] else record { is_break = is_break; level = n - depth } ∷ []

-- what no jump leads out of
abbrev pub is_body : NodeKind → Bool
is_body kind.Function = true
is_body kind.Class = true
is_body kind.Interface = true
is_body kind.Trait = true
is_body kind.Closure = true
is_body kind.Arrow = true
is_body kind.New = true
is_body k = false

-- what a jump counts
abbrev pub is_loop : NodeKind → Bool
is_loop kind.While = true
is_loop kind.DoWhile = true
is_loop kind.For = true
is_loop kind.Foreach = true
is_loop kind.Switch = true
is_loop k = false

-- in how many loops the parts of a node are
abbrev pub loops_within : NodeKind → ℕ → ℕ
loops_within k d = if is_loop k then suc d else d

-- whether a jump is a `break`, if a node is a jump
abbrev pub jump_of : NodeKind → Option Bool
jump_of kind.Break = Some true
jump_of kind.Continue = Some false
jump_of k = None

-- what a node itself is as a jump out, inside so many loops
abbrev pub leaves_by : NodeKind → ℕ → Forest → List Leaving
leaves_by k depth c = elim (jump_of k) [ None ↦ [] | Some is_break ↦ beyond is_break depth (level c) ]

-- the jumps out of a forest, inside so many loops
abbrev pub leaving : ℕ → Forest → List Leaving
leaving d none = []
leaving d (leaf t f) = leaving d f
leaving d (node k c f) =
    (if is_body k then [] else leaves_by k d c ++ leaving (loops_within k d) c) ++ leaving d f

-- the parts of a `try` before its last one
abbrev pub before_finally : Forest → Forest
before_finally none = none
before_finally (leaf t f) = if is_word (codes "finally") t.text then none else leaf t (before_finally f)
before_finally (node k c f) = node k c (before_finally f)

-- where each of some jumps out goes on
abbrev pub targets : List Frame → List Leaving → List Point
targets fs [] = []
targets fs (l ∷ ls) = jump l.is_break l.level fs ++ targets fs ls

-- ---- the edges of a node

-- initial values are evaluated once, and later left out
abbrev pub statics_of : ℕ → List ℕ → List Edge
statics_of n [] = in_order n []
statics_of n (a ∷ more) = in_order n (a ∷ more) ++ edge n (Before n) (After n)

-- a declaration, with what its parameters and its body begin with
abbrev pub declared : ℕ → List ℕ → List ℕ → List Edge
declared n ds body = edge n (Before n) (After n) ++ then_body n ds body

-- the edges of a node's own by how evaluation runs through it, its number, its parts and its pieces
abbrev pub by_flow : Flow → ℕ → Forest → Pieces → List Frame → List Edge
by_flow flow.InOrder n c ps fs = in_order n (steps ps)
by_flow flow.Ends n c ps fs = run n (Before n) (steps ps)
by_flow flow.Nowhere n c ps fs = []
by_flow flow.Alone n c ps fs = in_order n []
by_flow flow.Branches n c ps fs = branches (size ps) n (Before n) ps
by_flow flow.While n c ps fs = while_loop n (exprs ps) (stmts ps)
by_flow flow.DoWhile n c ps fs = do_loop n (stmts ps) (exprs ps)
by_flow flow.For n c ps fs = for_of n ps
by_flow flow.Foreach n c ps fs = foreach_of n ps
by_flow flow.Switch n c ps fs = switch_of n ps
by_flow flow.Try n c ps fs = try_of n ps (targets fs (leaving 0 (before_finally c)))
by_flow flow.Break n c ps fs = to_each n (Before n) (jump true (level c) fs)
by_flow flow.Continue n c ps fs = to_each n (Before n) (jump false (level c) fs)
by_flow flow.Statics n c ps fs = statics_of n (exprs ps)
by_flow flow.Function n c ps fs = declared n (defaults ps) (stmts ps)
by_flow flow.Arrow n c ps fs = declared n (defaults ps) (exprs ps)
by_flow flow.Method n c ps fs = then_body n (defaults ps) (stmts ps)
by_flow flow.Ternary n c ps fs = one_of_two n (exprs ps)
by_flow flow.Second n c ps fs = maybe_second n (exprs ps)
by_flow flow.Isset n c ps fs = until_missing n (Before n) (exprs ps)
by_flow flow.Operator n c ps fs = by_operator n ps

-- the same by its kind
abbrev pub own : NodeKind → ℕ → Forest → Pieces → Around → List Edge
own k n c ps a = by_flow (flow_of k) n c ps a.frames

-- from both points of a node to each later part of the statements around it
abbrev pub handled : ℕ → List Handler → List Edge
handled n [] = []
handled n (h ∷ hs) = edge h.of (Before n) (Before h.start) ++ edge h.of (After n) (Before h.start) ++ handled n hs

-- the edges of a node: its own, and to the later parts around it
abbrev pub row : NodeKind → ℕ → Forest → Around → List Edge
row k n c a = own k n c (pieces (suc n) c) a ++ (if has_points k then handled n a.handlers else [])

-- ---- files

-- the edges of a forest, whose first node has a number: node by node in preorder, each with what is around it
abbrev pub edges : (ℕ → Around) → ℕ → Forest → List Edge
edges around n none = []
edges around n (leaf t f) = edges around n f
edges around n (node k c f) =
    row k n c (around n) ++ edges (inside k n (pieces (suc n) c) (around n)) (suc n) c ++ edges around (suc n + count c) f

-- from a statement of a file to the next, whose step it is, and so on
abbrev pub between_behind : ℕ → List ℕ → List Edge
between_behind a [] = []
between_behind a (b ∷ bs) = edge b (After a) (Before b) ++ between_behind b bs

-- between the statements of a file
abbrev pub between : List ℕ → List Edge
between [] = []
between (a ∷ bs) = between_behind a bs

-- the edges of a file
abbrev pub file_edges : Forest → List Edge
file_edges f = between (stmts (pieces 0 f)) ++ edges (λ n. nothing) 0 f
