use Rattle.std.proofs.Common.{ℕ, List, sym, subst, ◌∙◌}
use Rattle.graph_search.specs.Graph.{graph_of}
use Rattle.program_names.specs.Entries.{paths_of}
use Rattle.program_names.specs.Table.{table_of}
use Rattle.declared_twice.specs.Includes.{ArePairs}
use Rattle.declared_twice.specs.Runs.{Leads}
use Rattle.declared_twice.proofs.RunLemmas.{pairs_run, pairs_within, runs_are}
use Rattle.declared_twice.proofs.running.run_graphs.Goals as goal

pub both_ways-requires : goal.both_ways-requires
both_ways-requires c =
    let fs = c.args.program.now.files.items in
    let es = c.args.entries.now in
    let p = c.args.prepend in
    let h = subst (λ (ps : List (ℕ × ℕ)). ArePairs ps (Leads (paths_of fs) (table_of fs) es p)) (sym (c.as_slice.ensures.value ∙ c.in_ok-add_starts.ensures))
    (pairs_run (paths_of fs) (table_of fs) es p c.in_ok-pairs.pairs.items c.in_ok-pairs.ensures) in
    pairs_within fs es p c.as_slice.result.now c.file_count.result c.file_count.ensures c.requires.entries c.requires.prepend h

pub returns : goal.returns
returns c =
    let fs = c.args.program.now.files.items in
    let es = c.args.entries.now in
    let p = c.args.prepend in
    let h = subst (λ (ps : List (ℕ × ℕ)). ArePairs ps (Leads (paths_of fs) (table_of fs) es p)) (sym (c.as_slice.ensures.value ∙ c.in_ok-add_starts.ensures))
    (pairs_run (paths_of fs) (table_of fs) es p c.in_ok-pairs.pairs.items c.in_ok-pairs.ensures) in
    runs_are fs es p c.as_slice.result.now c.file_count.result (graph_of c.in_ok-runs.runs.next.items) (graph_of c.in_ok-runs.runs.before.items)
    c.file_count.ensures c.requires.entries c.requires.prepend h c.in_ok-runs.ensures
