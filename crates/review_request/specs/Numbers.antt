-- Numbers of a request, in decimal digits.
use Rattle.std.specs.Prelude.{ℕ, ◌&&◌, ◌==◌, Bool, List, length, Option, None, Some, not, nat_le, if◌then◌else◌, slice_index}
use Rattle.std.specs.Char.{is_ascii_digit}
use Rattle.std.specs.List.{list_all}
use Rattle.std.specs.Str.Parse.{digits_value}

-- from one to so many decimal digits
abbrev pub are_digits : ℕ → List ℕ → Bool
are_digits most text = nat_le 1 (length text) && nat_le (length text) most && list_all is_ascii_digit text

-- the number of 1 to 10 decimal digits
abbrev pub number_of : List ℕ → Option ℕ
number_of text = if are_digits 10 text then Some (digits_value 10 text) else None

-- the number of 1 to 9 decimal digits, of which the first isn't 0
abbrev pub path_number : List ℕ → Option ℕ
path_number text =
    if are_digits 9 text && not (slice_index text 0 == 48) then Some (digits_value 10 text) else None
