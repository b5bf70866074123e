use Rattle.std.proofs.Common.{◌≡◌, ◌++◌, ◌-◌}
use Rattle.scope_names.specs.Numbers.{counted}
use Rattle.declared_twice.proofs.completing.every_file.Given as goal

abbrev pub invariant-loop-file : goal.invariant-loop-file
invariant-loop-file l = l.files.items ++ counted l.file (l.count - l.file) ≡ counted 0 l.count
