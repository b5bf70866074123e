use Rattle.std.proofs.Common.{◌≡◌, ◌++◌, map, drop}
use Rattle.node_names.specs.Seen.{texts_of}
use Rattle.scope_names.specs.Imports.{imports_behind}
use Rattle.scope_names.specs.Words.{between_ends}
use Rattle.file_declarations.specs.Imported.{import_of, sort_of}
use Rattle.file_declarations.proofs.WordLemmas.{group_before}
use Rattle.file_declarations.proofs.importing.imports_behind.Given as goal

abbrev pub invariant-loop-word : goal.invariant-loop-word
invariant-loop-word l =
    map import_of l.imports.items
    ++ imports_behind (sort_of l.sort) l.before (group_before (texts_of l.group.items) (between_ends (texts_of (drop l.word-index l.words))))
    ≡ imports_behind (sort_of l.sort) l.before (between_ends (texts_of l.words))
