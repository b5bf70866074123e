-- How evaluation runs through a node, by its kind: which row of the table of edges it has.
use Rattle.std.specs.Prelude.{if◌then◌else◌}
use Rattle.php_tree.specs.declared.kind.NodeKind.{NodeKind}
use Rattle.php_tree.specs.declared.kind.NodeKind.TheVariants as kind
use Rattle.program_points.specs.declared.flow.Flow.{Flow}
use Rattle.program_points.specs.declared.flow.Flow.TheVariants as flow
use Rattle.program_points.specs.Pieces.{has_points}

-- the row of a kind; other statements and expressions have their parts in order
abbrev pub flow_of : NodeKind → Flow
flow_of kind.If = flow.Branches
flow_of kind.IfAlt = flow.Branches
flow_of kind.While = flow.While
flow_of kind.DoWhile = flow.DoWhile
flow_of kind.For = flow.For
flow_of kind.Foreach = flow.Foreach
flow_of kind.Switch = flow.Switch
flow_of kind.Try = flow.Try
flow_of kind.Break = flow.Break
flow_of kind.Continue = flow.Continue
flow_of kind.Return = flow.Ends
flow_of kind.Throw = flow.Ends
flow_of kind.Exit = flow.Ends
flow_of kind.Goto = flow.Nowhere
flow_of kind.Statics = flow.Statics
flow_of kind.Function = flow.Function
flow_of kind.Closure = flow.Function
flow_of kind.Arrow = flow.Arrow
flow_of kind.Method = flow.Method
flow_of kind.Class = flow.Alone
flow_of kind.Interface = flow.Alone
flow_of kind.Trait = flow.Alone
flow_of kind.Ternary = flow.Ternary
flow_of kind.ShortTernary = flow.Second
flow_of kind.Isset = flow.Isset
flow_of kind.Binary = flow.Operator
flow_of kind.CompoundAssign = flow.Operator
flow_of k = if has_points k then flow.InOrder else flow.Nowhere
