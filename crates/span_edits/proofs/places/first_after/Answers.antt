-- The ends of edits that lie apart rise, so the edits are parted by the test.
use Rattle.std.proofs.Common.{nat_le, rules}
use Rattle.std.proofs.lemmas.List.Sorted.{IsPartitionedBy-leb, IsPartitionPoint-from_clause}
use Rattle.span_edits.specs.declared.edit.Edit.{Edit}
use Rattle.span_edits.proofs.PlaceLemmas.{ends-rise, IsFirstAfter-from_parted}
use Rattle.span_edits.proofs.places.first_after.Goals as goal

pub returns : goal.returns
returns c =
    let parted = IsPartitionPoint-from_clause (λ (e : Edit). nat_le e.span.end c.args.place) c.args.edits.now c.partition_point.result c.partition_point.ensures.partitioned
    (IsPartitionedBy-leb (λ (e : Edit). e.span.end) c.args.edits.now c.args.place (ends-rise 0 c.requires.0 c.args.edits.now c.requires.1))
    (λ a r f h. search rules) in
    IsFirstAfter-from_parted c.args.place c.requires.0 c.args.edits.now c.partition_point.result c.partition_point.ensures.bound parted.0 parted.1
