use Rattle.graph_search.specs.Graph.{graph_of}
use Rattle.program_names.specs.Entries.{paths_of}
use Rattle.program_names.specs.Table.{table_of}
use Rattle.declared_twice.proofs.EntryLemmas.{SoFar}
use Rattle.declared_twice.proofs.completing.complete.Given as goal

abbrev pub invariant-loop-file : goal.invariant-loop-file
invariant-loop-file l =
    SoFar (paths_of l.program.files.items) (table_of l.program.files.items) (graph_of l.next) l.fn.entries.items l.file l.entries.items l.marks.items
