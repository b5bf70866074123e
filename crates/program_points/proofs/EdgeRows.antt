-- Edges of small files, worked out by hand. Numbers of nodes are in preorder.
use Rattle.std.proofs.Common.{◌≡◌, ℕ, List, [], ◌∷◌, Option, Some, None, codes, refl}
use Rattle.php_tree.specs.declared.kind.NodeKind.TheVariants as kind
use Rattle.php_tree.specs.declared.token.TokenKind.TheVariants as token
use Rattle.php_tree.specs.Tree.{Forest, none, leaf, node}
use Rattle.program_points.specs.declared.point.Point.{Point}
use Rattle.program_points.specs.declared.point.Point.TheVariants.{Before, After}
use Rattle.program_points.specs.Rows.{Edge}
use Rattle.program_points.specs.Edges.{file_edges}
use Rattle.program_points.specs.declared.numbers.NodePoints.{NodePoints}
use Rattle.program_points.specs.Numbers.{numbers}

-- a token with this text
abbrev t : List ℕ → Forest → Forest
t text f = leaf (record { kind = token.Op; lead = []; text = text; start = 0 }) f

abbrev step : ℕ → Point → Point → Edge
step n from to = record { from = from; to = to; node = n }

-- $a = 1; (ExprStmt 0, Assign 1, Variable 2, Number 3)
abbrev assign : Forest → Forest
assign f =
    node kind.ExprStmt
    (node kind.Assign (node kind.Variable (t (codes "$a") none) (t (codes "=") (node kind.Number (t (codes "1") none) none))) (t (codes ";") none))
    f

assignment :
    file_edges (assign none)
    ≡ step 0 (Before 0) (Before 1) ∷ step 0 (After 1) (After 0)
    ∷ step 1 (Before 1) (Before 2) ∷ step 1 (After 2) (Before 3) ∷ step 1 (After 3) (After 1)
    ∷ step 2 (Before 2) (After 2) ∷ step 3 (Before 3) (After 3) ∷ []
assignment = refl

-- ; ; (Empty 0, Empty 1)
abbrev empty : Forest → Forest
empty f = node kind.Empty (t (codes ";") none) f

two_statements :
    file_edges (empty (empty none)) ≡ step 1 (After 0) (Before 1) ∷ step 0 (Before 0) (After 0) ∷ step 1 (Before 1) (After 1) ∷ []
two_statements = refl

abbrev one : Forest → Forest
one f = node kind.Number (t (codes "1") none) f

-- 1 && 1; (ExprStmt 0, Binary 1, Number 2, Number 3)
and_may_stop :
    file_edges (node kind.ExprStmt (node kind.Binary (one (t (codes "AND") (one none))) (t (codes ";") none)) none)
    ≡ step 0 (Before 0) (Before 1) ∷ step 0 (After 1) (After 0)
    ∷ step 1 (Before 1) (Before 2) ∷ step 1 (After 2) (Before 3) ∷ step 1 (After 2) (After 1) ∷ step 1 (After 3) (After 1)
    ∷ step 2 (Before 2) (After 2) ∷ step 3 (Before 3) (After 3) ∷ []
and_may_stop = refl

-- while (1) break; (While 0, Number 1, Break 2)
while_and_break :
    file_edges (node kind.While (t (codes "while") (t (codes "(") (one (t (codes ")") (node kind.Break (t (codes "break") (t (codes ";") none)) none))))) none)
    ≡ step 0 (Before 0) (Before 1) ∷ step 0 (After 1) (Before 2) ∷ step 0 (After 2) (Before 1) ∷ step 0 (After 1) (After 0)
    ∷ step 1 (Before 1) (After 1) ∷ step 2 (Before 2) (After 0) ∷ []
while_and_break = refl

-- if (1) ; elseif (1) ; else ; (If 0, Number 1, Empty 2, Number 3, Empty 4, Empty 5)
if_elseif_else :
    file_edges
    (node kind.If
    (t (codes "if") (t (codes "(") (one (t (codes ")") (empty (t (codes "elseif") (t (codes "(") (one (t (codes ")") (empty (t (codes "else") (empty none)))))))))))) none)
    ≡ step 0 (Before 0) (Before 1) ∷ step 0 (After 1) (Before 2) ∷ step 0 (After 2) (After 0)
    ∷ step 0 (After 1) (Before 3) ∷ step 0 (After 3) (Before 4) ∷ step 0 (After 4) (After 0)
    ∷ step 0 (After 3) (Before 5) ∷ step 0 (After 5) (After 0)
    ∷ step 1 (Before 1) (After 1) ∷ step 2 (Before 2) (After 2) ∷ step 3 (Before 3) (After 3) ∷ step 4 (Before 4) (After 4)
    ∷ step 5 (Before 5) (After 5) ∷ []
if_elseif_else = refl

-- for (;;) ; (For 0, Empty 1)
endless_for :
    file_edges (node kind.For (t (codes "for") (t (codes "(") (t (codes ";") (t (codes ";") (t (codes ")") (empty none)))))) none)
    ≡ step 0 (Before 0) (Before 1) ∷ step 0 (After 1) (Before 1) ∷ step 1 (Before 1) (After 1) ∷ []
endless_for = refl

abbrev a_variable : Forest → Forest
a_variable f = node kind.Variable (t (codes "$a") none) f

-- foreach ($a as $a => $a) ; (Foreach 0, subject 1, key 2, value 3, Empty 4): the value is written first
foreach_with_key :
    file_edges (node kind.Foreach (t (codes "foreach") (t (codes "(") (a_variable (t (codes "as") (a_variable (t (codes "=>") (a_variable (t (codes ")") (empty none))))))))) none)
    ≡ step 0 (Before 0) (Before 1) ∷ step 0 (After 1) (Before 3) ∷ step 0 (After 3) (Before 2) ∷ step 0 (After 2) (Before 4)
    ∷ step 0 (After 4) (Before 3) ∷ step 0 (After 1) (After 0) ∷ step 0 (After 4) (After 0)
    ∷ step 1 (Before 1) (After 1) ∷ step 2 (Before 2) (After 2) ∷ step 3 (Before 3) (After 3) ∷ step 4 (Before 4) (After 4) ∷ []
foreach_with_key = refl

abbrev block : Forest → Forest → Forest
block inner f = node kind.Block (t (codes "{") inner) f

-- while (1) { try { break; } catch (A $e) { } finally { } }
-- (While 0, Number 1, Block 2, Try 3, Block 4, Break 5, Block 6, Block 7): `break` goes through the last part
break_through_finally :
    file_edges
    (node kind.While
    (t (codes "while") (one (block
    (node kind.Try (t (codes "try") (block (node kind.Break (t (codes "break") (t (codes ";") none)) none)
    (t (codes "catch") (block none (t (codes "finally") (block none none)))))) none)
    none)))
    none)
    ≡ step 0 (Before 0) (Before 1) ∷ step 0 (After 1) (Before 2) ∷ step 0 (After 2) (Before 1) ∷ step 0 (After 1) (After 0)
    ∷ step 1 (Before 1) (After 1)
    ∷ step 2 (Before 2) (Before 3) ∷ step 2 (After 3) (After 2)
    ∷ step 3 (Before 3) (Before 4) ∷ step 3 (After 4) (Before 7) ∷ step 3 (After 6) (Before 7) ∷ step 3 (After 7) (After 3) ∷ step 3 (After 7) (After 0)
    ∷ step 4 (Before 4) (Before 5) ∷ step 4 (After 5) (After 4)
    ∷ step 3 (Before 4) (Before 6) ∷ step 3 (After 4) (Before 6) ∷ step 3 (Before 4) (Before 7) ∷ step 3 (After 4) (Before 7)
    ∷ step 5 (Before 5) (Before 7)
    ∷ step 3 (Before 5) (Before 6) ∷ step 3 (After 5) (Before 6) ∷ step 3 (Before 5) (Before 7) ∷ step 3 (After 5) (Before 7)
    ∷ step 6 (Before 6) (After 6) ∷ step 3 (Before 6) (Before 7) ∷ step 3 (After 6) (Before 7)
    ∷ step 7 (Before 7) (After 7) ∷ []
break_through_finally = refl

-- switch (1) { case 1: ; default: ; } (Switch 0, Number 1, Case 2, Number 3, Empty 4, Case 5, Empty 6)
switch_falls_through :
    file_edges
    (node kind.Switch
    (t (codes "switch") (one (t (codes "{") (node kind.Case (t (codes "case") (one (t (codes ":") (empty none))))
    (node kind.Case (t (codes "default") (t (codes ":") (empty none))) (t (codes "}") none))))))
    none)
    ≡ step 0 (Before 0) (Before 1) ∷ step 0 (After 1) (Before 3) ∷ step 0 (After 3) (Before 4) ∷ step 0 (After 3) (Before 6)
    ∷ step 0 (After 4) (Before 6) ∷ step 0 (After 6) (After 0)
    ∷ step 1 (Before 1) (After 1) ∷ step 3 (Before 3) (After 3) ∷ step 4 (Before 4) (After 4) ∷ step 6 (Before 6) (After 6) ∷ []
switch_falls_through = refl

-- function f($a = 1) { return 1; } (Function 0, Param 1, Number 2, Block 3, Return 4, Number 5)
function_with_default :
    file_edges
    (node kind.Function
    (t (codes "function") (t (codes "f") (t (codes "(") (node kind.Param (t (codes "$a") (t (codes "=") (one none)))
    (t (codes ")") (block (node kind.Return (t (codes "return") (one (t (codes ";") none))) none) none))))))
    none)
    ≡ step 0 (Before 0) (After 0) ∷ step 0 (After 2) (Before 3) ∷ step 2 (Before 2) (After 2)
    ∷ step 3 (Before 3) (Before 4) ∷ step 3 (After 4) (After 3) ∷ step 4 (Before 4) (Before 5) ∷ step 5 (Before 5) (After 5) ∷ []
function_with_default = refl

-- while (1) while (1) break 2; (While 0, Number 1, While 2, Number 3, Break 4)
break_over_two :
    file_edges
    (node kind.While
    (t (codes "while") (one (node kind.While (t (codes "while") (one (node kind.Break (t (codes "break") (t (codes "2") (t (codes ";") none))) none))) none)))
    none)
    ≡ step 0 (Before 0) (Before 1) ∷ step 0 (After 1) (Before 2) ∷ step 0 (After 2) (Before 1) ∷ step 0 (After 1) (After 0)
    ∷ step 1 (Before 1) (After 1)
    ∷ step 2 (Before 2) (Before 3) ∷ step 2 (After 3) (Before 4) ∷ step 2 (After 4) (Before 3) ∷ step 2 (After 3) (After 2)
    ∷ step 3 (Before 3) (After 3) ∷ step 4 (Before 4) (After 0) ∷ []
break_over_two = refl

abbrev points : ℕ → ℕ → Option NodePoints
points before after = Some (record { before = before; after = after })

-- function f($a = 1) { return 1; }: its parameter has no points
parameters_are_no_points :
    numbers 10
    ((kind.Function, none) ∷ (kind.Param, none) ∷ (kind.Number, none) ∷ (kind.Block, none) ∷ (kind.Return, none) ∷ (kind.Number, none) ∷ [])
    ≡ points 10 11 ∷ None ∷ points 12 13 ∷ points 14 15 ∷ points 16 17 ∷ points 18 19 ∷ []
parameters_are_no_points = refl
