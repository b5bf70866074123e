use Rattle.std.proofs.Common.{◌≡◌, ◌≤◌, length, take}
use Rattle.scope_names.specs.Sites.{alias_of}
use Rattle.file_declarations.specs.Imported.{last_first, sort_of}
use Rattle.file_declarations.proofs.class_name.alias_of.Given as goal

abbrev pub invariant-loop-left : goal.invariant-loop-left
invariant-loop-left l = record {
  within : l.left ≤ length l.imports;
  same : alias_of (last_first (take l.left l.imports)) (sort_of l.sort) l.name ≡ alias_of (last_first l.imports) (sort_of l.sort) l.name;
}

abbrev pub decreases-loop-left : goal.decreases-loop-left
decreases-loop-left l = l.left
