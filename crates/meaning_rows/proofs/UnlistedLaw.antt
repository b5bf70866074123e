-- Values that a row doesn't list.
use Rattle.std.proofs.Common.{refl}
use Rattle.meaning_rows.specs.Unlisted.{UnlistedAreOutside}

pub unlisted : UnlistedAreOutside
unlisted b cells vs e = rw e refl
