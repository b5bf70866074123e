use Rattle.std.proofs.Common.{◌≡◌, ◌≤◌, ◌++◌, length, take}
use Rattle.scope_names.specs.Words.{split}
use Rattle.file_declarations.proofs.words.split.Given as goal

abbrev pub invariant-loop-left : goal.invariant-loop-left
invariant-loop-left l = record {
  whole : l.fn.name ≡ take l.count l.fn.name ++ l.left;
  within : l.count ≤ length l.fn.name;
  first : (split l.fn.name).0 ≡ take l.count l.fn.name ++ (split l.left).0;
  behind : (split l.fn.name).1 ≡ (split l.left).1;
}

abbrev pub decreases-loop-left : goal.decreases-loop-left
decreases-loop-left l = length l.left
