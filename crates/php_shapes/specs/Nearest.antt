-- What belongs to the nearest node that could take it: an `else` or `elseif` to the nearest `if` (PHP language
-- specification, "The if Statement"), and a `=>` to the nearest `yield` (PHP manual, "Generator syntax").
use Rattle.std.specs.Prelude.{Bool, true, false, not, ◌&&◌, ◌||◌}
use Rattle.php_tree.specs.declared.kind.NodeKind.{NodeKind}
use Rattle.php_tree.specs.declared.kind.NodeKind.TheVariants as k
use Rattle.php_tree.specs.Tree.{Forest, none, leaf, node}
use Rattle.php_terminals.specs.declared.terminal.Terminal.{Terminal}
use Rattle.php_terminals.specs.declared.terminal.Terminal.TheVariants as t
use Rattle.php_terminals.specs.Classify.{terminal}

-- `else`
abbrev pub is_else : Terminal → Bool
is_else t.Else = true
is_else _ = false

-- `else` or `elseif`
abbrev pub goes_on_if : Terminal → Bool
goes_on_if t.Else = true
goes_on_if t.ElseIf = true
goes_on_if _ = false

-- `yield`
abbrev pub is_yield : Terminal → Bool
is_yield t.Yield = true
is_yield _ = false

-- `=>`
abbrev pub is_to : Terminal → Bool
is_to t.DoubleArrow = true
is_to _ = false

-- whether an `else` is among parts
abbrev pub has_else : Forest → Bool
has_else none = false
has_else (leaf x f) = is_else (terminal x) || has_else f
has_else (node j b f) = has_else f

-- whether a node is an `if` without an `else`
abbrev pub is_open_if : NodeKind → Forest → Bool
is_open_if k.If c = not (has_else c)
is_open_if _ c = false

-- whether parts are `yield` and a value alone
abbrev pub is_value_alone : Forest → Bool
is_value_alone (leaf x (node j b none)) = is_yield (terminal x)
is_value_alone _ = false

-- whether a node is a `yield` with a value and no `=>`
abbrev pub is_open_yield : NodeKind → Forest → Bool
is_open_yield k.Yield c = is_value_alone c
is_open_yield _ c = false

-- whether parts end in an `if` that could take an `else`; where there are none, whether what stands before does
abbrev pub ends_in_if : Bool → Forest → Bool
ends_in_if before none = before
ends_in_if before (leaf x f) = ends_in_if false f
ends_in_if before (node j b f) = ends_in_if (is_open_if j b || ends_in_if false b) f

-- whether parts end in a `yield` that could take a `=>`; where there are none, whether what stands before does
abbrev pub ends_in_yield : Bool → Forest → Bool
ends_in_yield before none = before
ends_in_yield before (leaf x f) = ends_in_yield false f
ends_in_yield before (node j b f) = ends_in_yield (is_open_yield j b || ends_in_yield false b) f

-- Whether no `else` or `elseif` stands directly behind a part that ends in an `if` that could take it; `before` where what
-- stands before does.
abbrev pub elses_are_nearest : Bool → Forest → Bool
elses_are_nearest before none = true
elses_are_nearest before (leaf x f) = not (before && goes_on_if (terminal x)) && elses_are_nearest false f
elses_are_nearest before (node j b f) = elses_are_nearest (is_open_if j b || ends_in_if false b) f

-- Whether no `=>` stands directly behind a part that ends in a `yield` that could take it; `before` where what stands
-- before does.
abbrev pub arrows_are_nearest : Bool → Forest → Bool
arrows_are_nearest before none = true
arrows_are_nearest before (leaf x f) = not (before && is_to (terminal x)) && arrows_are_nearest false f
arrows_are_nearest before (node j b f) = arrows_are_nearest (is_open_yield j b || ends_in_yield false b) f

-- whether each of these belongs to the nearest
abbrev pub is_nearest : Forest → Bool
is_nearest f = elses_are_nearest false f && arrows_are_nearest false f
