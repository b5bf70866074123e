use Rattle.std.proofs.Common.{◌≡◌, ◌≤◌, ◌<◌, ◌+◌, ℕ, length, ◌-◌, ◌*◌, ◌^◌, drop}
use Rattle.php_terminals.specs.Tokens.{tokens_in}
use Rattle.php_exprs.specs.Built.{behind}
use Rattle.php_exprs.specs.Parsed.{Repeated, Walked}
use Rattle.php_exprs.proofs.engine.+engine.Given as goal

-- a node, its growth, the items of its form and the groups in them: each leads only to those below
abbrev pub decreases-node : goal.decreases-node
decreases-node l = l.limit * (16 * 2 ^ 66) + 1

abbrev pub decreases-grow : goal.decreases-grow
decreases-grow l = l.limit * (16 * 2 ^ 66) + 8 * 2 ^ 66 + (1502 - l.closed.deep)

abbrev pub decreases-items : goal.decreases-items
decreases-items l = l.limit * (16 * 2 ^ 66) + l.nesting * 2 ^ 66 + 3

abbrev pub decreases-inner : goal.decreases-inner
decreases-inner l = l.limit * (16 * 2 ^ 66) + l.nesting * 2 ^ 66

abbrev pub decreases-repeats : goal.decreases-repeats
decreases-repeats l = l.limit * (16 * 2 ^ 66) + l.nesting * 2 ^ 66 + 1

abbrev pub invariant-repeats-loop-form : goal.invariant-repeats-loop-form
invariant-repeats-loop-form l = Repeated l.version (tokens_in l.tokens) l.limit l.nesting l.group (l.fn.row, l.fn.reach) (l.row, l.reach)

abbrev pub decreases-repeats-loop-form : goal.decreases-repeats-loop-form
decreases-repeats-loop-form l = length (behind (tokens_in l.tokens) l.row)

abbrev pub decreases-one_item : goal.decreases-one_item
decreases-one_item l = l.limit * (16 * 2 ^ 66) + l.nesting * 2 ^ 66 + 2

abbrev pub invariant-items-loop-item : goal.invariant-items-loop-item
invariant-items-loop-item l = Walked l.version (tokens_in l.tokens) l.limit l.nesting l.form (drop l.item-index l.form) (l.fn.row, l.fn.reach) (l.row, l.reach)
