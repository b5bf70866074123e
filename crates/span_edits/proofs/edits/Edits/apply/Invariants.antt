use Rattle.std.proofs.Common.{◌≡◌, ◌+◌, ◌++◌, drop, length}
use Rattle.span_edits.specs.EditList.{AreApart}
use Rattle.span_edits.specs.Splice.{spliced, spliced_from}
use Rattle.span_edits.proofs.edits.Edits.apply.Given as goal

abbrev pub invariant-loop-edit : goal.invariant-loop-edit
invariant-loop-edit l = record {
  apart : AreApart l.at (drop l.edit-index l.edit-items) l.self.len;
  left : l.at + length l.rest ≡ l.self.len;
  made : l.out.items ++ spliced_from l.at l.rest (drop l.edit-index l.edit-items) ≡ spliced l.fn.source l.self.edits;
}
