use Rattle.std.proofs.Common.{◌≡◌, slice_range}
use Rattle.php_terminals.specs.Marked.{token_at}
use Rattle.php_rows.proofs.Leaves.{marks_between, range_map}
use Rattle.php_rows.proofs.views.between.Goals as goal

pub invariant_of-result : goal.invariant_of-result
invariant_of-result c = record {
  marked = marks_between c.args.tokens.bytes.now c.args.tokens.marks.now c.args.from c.args.to c.requires.within c.requires.order c.args.tokens.marked;
}

pub returns-clause-tokens : goal.returns-clause-tokens
returns-clause-tokens c = range_map (token_at c.args.tokens.bytes.now) c.args.tokens.marks.now c.args.from c.args.to
