-- The levels of operators (PHP manual, "Operator Precedence"; RFC "Change the precedence of the concatenation operator"):
-- 1 is the tightest, 24 the loosest. The only place that has them.
use Rattle.std.specs.Prelude.{ℕ, Bool, true, false, cond, List, [], ◌∷◌}
use Rattle.php_tree.specs.declared.kind.NodeKind.{NodeKind}
use Rattle.php_tree.specs.declared.kind.NodeKind.TheVariants as k
use Rattle.php_tree.specs.declared.version.Version.{Version}
use Rattle.php_tree.specs.declared.version.Version.TheVariants.{V74, V83}
use Rattle.php_tree.specs.Tree.{Tree, none, leaf, node}
use Rattle.php_terminals.specs.declared.terminal.Terminal.{Terminal}
use Rattle.php_terminals.specs.declared.terminal.Terminal.TheVariants as t
use Rattle.php_forms.specs.declared.item.Sort.TheVariants.{Operand}
use Rattle.php_forms.specs.declared.item.Item.{Item}
use Rattle.php_forms.specs.declared.item.Item.TheVariants.{Word, Node}
use Rattle.php_terminals.specs.Classify.{terminal}

-- the level of `.`: 7.4 has it with `+` and `-`, 8.3 behind the shifts
abbrev pub dot_level : Version → ℕ
dot_level V74 = 7
dot_level V83 = 9

-- the level of an operator between two operands, or 0 where it is none
abbrev pub binary_level : Version → Terminal → ℕ
binary_level v t.Power = 2
binary_level v t.Factor = 6
binary_level v t.Plus = 7
binary_level v t.Minus = 7
binary_level v t.Shift = 8
binary_level v t.Order = 10
binary_level v t.Equality = 11
binary_level v t.Ampersand = 12
binary_level v t.Caret = 13
binary_level v t.Bar = 14
binary_level v t.BooleanAnd = 15
binary_level v t.BooleanOr = 16
binary_level v t.Coalesce = 17
binary_level v t.And = 21
binary_level v t.Xor = 22
binary_level v t.Or = 23
binary_level v t.Dot = dot_level v
binary_level v _ = 0

-- the loosest level of the left operand: that of the operator where it groups to the left, else a tighter one
abbrev pub left_limit : Version → Terminal → ℕ
left_limit v t.Power = 1
left_limit v t.Factor = 6
left_limit v t.Plus = 7
left_limit v t.Minus = 7
left_limit v t.Shift = 8
left_limit v t.Order = 9
left_limit v t.Equality = 10
left_limit v t.Ampersand = 12
left_limit v t.Caret = 13
left_limit v t.Bar = 14
left_limit v t.BooleanAnd = 15
left_limit v t.BooleanOr = 16
left_limit v t.Coalesce = 16
left_limit v t.And = 21
left_limit v t.Xor = 22
left_limit v t.Or = 23
left_limit v t.Dot = dot_level v
left_limit v _ = 0

-- an operator with a right operand of a level
abbrev pub with_right : ℕ → List Item
with_right level = Word t.BinaryOperator ∷ Node (Operand level) ∷ []

abbrev pub dot_items : Version → List Item
dot_items V74 = with_right 6
dot_items V83 = with_right 8

-- the operator and its right operand: as loose as the operator where it groups to the right, else tighter
abbrev pub binary_items : Version → Terminal → List Item
binary_items v t.Power = with_right 2
binary_items v t.Factor = with_right 5
binary_items v t.Plus = with_right 6
binary_items v t.Minus = with_right 6
binary_items v t.Shift = with_right 7
binary_items v t.Order = with_right 9
binary_items v t.Equality = with_right 10
binary_items v t.Ampersand = with_right 11
binary_items v t.Caret = with_right 12
binary_items v t.Bar = with_right 13
binary_items v t.BooleanAnd = with_right 14
binary_items v t.BooleanOr = with_right 15
binary_items v t.Coalesce = with_right 17
binary_items v t.And = with_right 20
binary_items v t.Xor = with_right 21
binary_items v t.Or = with_right 22
binary_items v t.Dot = dot_items v
binary_items v _ = []

-- the class of the first part, where that is a token
abbrev pub first_leaf : Tree → Terminal
first_leaf (k, none) = t.End
first_leaf (k, leaf x f) = terminal x
first_leaf (k, node j c f) = t.End

-- the class of the second part, where that is a token behind a node
abbrev pub middle_leaf : Tree → Terminal
middle_leaf (k, none) = t.End
middle_leaf (k, leaf x f) = t.End
middle_leaf (k, node j c none) = t.End
middle_leaf (k, node j c (leaf x f)) = terminal x
middle_leaf (k, node j c (node i b f)) = t.End

-- whether a node is one token
abbrev pub is_alone : Tree → Bool
is_alone (k, none) = false
is_alone (k, leaf x none) = true
is_alone (k, leaf x (leaf y f)) = false
is_alone (k, leaf x (node j c f)) = false
is_alone (k, node j c f) = false

-- the level of a prefix; `++` and `--` bind as tight as a variable
abbrev pub prefix_level : Terminal → ℕ
prefix_level t.Clone = 1
prefix_level t.Plus = 3
prefix_level t.Minus = 3
prefix_level t.Tight = 3
prefix_level t.Not = 5
prefix_level _ = 0

abbrev pub level_by : Version → NodeKind → Tree → ℕ
level_by v k.Binary x = binary_level v (middle_leaf x)
level_by v k.Prefix x = prefix_level (first_leaf x)
level_by v k.Cast x = 3
level_by v k.InstanceOf x = 4
level_by v k.Ternary x = 18
level_by v k.ShortTernary x = 18
level_by v k.Assign x = 19
level_by v k.AssignRef x = 19
level_by v k.CompoundAssign x = 19
level_by v k.Print x = 20
level_by v k.Yield x = cond (is_alone x) 25 20
level_by v k.Include x = 24
level_by v k.Arrow x = 24
level_by v _ x = 0

-- the level of an expression: that of its outermost operator, or 0; a bare `yield` is looser than all, so that it is no
-- left operand
abbrev pub level : Version → Tree → ℕ
level v x = level_by v x.0 x
