-- Files with rows have the tokens of 8.3 once they are rewritten.
use Rattle.written_tokens.proofs.tokens.Parts.{parts_are_written}
use Rattle.written_reading.specs.Parted.{RowsAreLexed}

pub rows_are_lexed : RowsAreLexed
rows_are_lexed bytes f read r = parts_are_written bytes f r.row read r.within r.texts r.stay r.steps r.common r.apart r.same
