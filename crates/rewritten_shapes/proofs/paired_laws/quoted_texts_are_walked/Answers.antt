use Rattle.rewritten_shapes.proofs.paired.Quotable.{quoted_texts_are_walked}
use Rattle.rewritten_shapes.proofs.paired_laws.quoted_texts_are_walked.Goals as goal

pub returns : goal.returns
returns c = quoted_texts_are_walked
