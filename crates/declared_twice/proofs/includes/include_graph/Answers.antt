use Rattle.std.proofs.Common.{ℕ, List, sym, subst, ◌∙◌}
use Rattle.graph_search.specs.Graph.{IsGraph, graph_of}
use Rattle.program_names.specs.Entries.{paths_of}
use Rattle.program_names.specs.Table.{table_of, Includes}
use Rattle.declared_twice.specs.Includes.{ArePairs, IsGraphOf}
use Rattle.declared_twice.proofs.EntryLemmas.{graph_of_pairs, pairs_below, length_table}
use Rattle.declared_twice.proofs.includes.include_graph.Goals as goal

pub edges-requires : goal.edges-requires
edges-requires c =
    let fs = c.args.program.now.files.items in
    pairs_below (paths_of fs) (table_of fs) c.as_slice.result.now c.file_count.result (c.file_count.ensures ∙ sym (length_table fs))
    (subst (λ (ps : List (ℕ × ℕ)). ArePairs ps (Includes (paths_of fs) (table_of fs))) (sym c.as_slice.ensures.value) c.in_ok-pairs.ensures)

pub returns : goal.returns
returns c =
    let fs = c.args.program.now.files.items in
    let g = graph_of c.in_ok-next.next.items in
    subst (λ (n : ℕ). IsGraphOf n (Includes (paths_of fs) (table_of fs)) g) (c.file_count.ensures ∙ sym (length_table fs))
    (graph_of_pairs c.file_count.result (Includes (paths_of fs) (table_of fs)) c.in_ok-pairs.pairs.items g c.in_ok-pairs.ensures
    (subst (λ (ps : List (ℕ × ℕ)). IsGraph c.file_count.result ps g) c.as_slice.ensures.value c.in_ok-next.ensures))
