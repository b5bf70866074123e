use Rattle.std.proofs.Common.{◌≡◌, ◌≤◌, drop}
use Rattle.php_spellings.specs.Words.{greatest_int, value_from}
use Rattle.php_spellings.proofs.numbers.fits.Given as goal

abbrev pub invariant-loop-byte : goal.invariant-loop-byte
invariant-loop-byte l = record {
  so_far : value_from l.base 0 l.digits ≡ value_from l.base l.value (drop l.byte-index l.digits);
  within : l.value ≤ greatest_int;
}
