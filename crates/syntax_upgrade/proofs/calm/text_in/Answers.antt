use Rattle.std.proofs.Common.{ℕ, List, slice_range, ap, ◌∙◌}
use Rattle.syntax_upgrade.proofs.calm.text_in.Goals as goal

pub between-requires-clause-order : goal.between-requires-clause-order
between-requires-clause-order c = c.requires.order

pub between-requires-clause-within : goal.between-requires-clause-within
between-requires-clause-within c = rw c.bytes-bytes.ensures c.requires.within

pub returns : goal.returns
returns c =
    c.between.ensures
    ∙ ap (λ (bs : List ℕ). slice_range bs c.args.calm.start c.args.calm.last.end) c.bytes-bytes.ensures
    ∙ c.requires.text
