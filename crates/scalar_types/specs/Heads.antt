-- The heads of packed forms: this project's own.
use Rattle.std.specs.Prelude.{ℕ, ◌+◌, ◌*◌}
use Rattle.scalar_types.specs.Terms.{Facts, flag_count}

-- the head of a known type: its eleven bits at places 0 to 10, `neg` at 11 and `text_keys` at 12
abbrev pub head_of : Facts → ℕ
head_of f = f.bits + 2048 * flag_count f.neg + 4096 * flag_count f.text_keys
