-- The table of builtins decides which arguments have a meaning.
use Rattle.std.specs.Prelude.{◌≡◌, false, List}
use Rattle.builtin_tables.specs.declared.builtin.Builtin.{Builtin}
use Rattle.builtin_tables.specs.Builtins.{row_of}
use Rattle.php_meaning.specs.values.Value.{Value}
use Rattle.php_meaning.specs.Cause.{Call, Outside}
use Rattle.php_meaning.specs.Differences.{Alike}
use Rattle.php_meaning.specs.values.Cells.{Cells}
use Rattle.php_meaning.specs.builtins.Arguments.{takes}
use Rattle.php_meaning.specs.builtins.Answers.{answer}

-- a builtin answers nothing to values that its row doesn't list, in either version
abbrev pub UnlistedAreOutside : Type 0
UnlistedAreOutside =
    (b : Builtin) (cells : Cells) (vs : List Value) → takes cells (row_of b) vs ≡ false → answer b cells vs ≡ Alike (Outside Call)
