use Rattle.std.proofs.Common.{◌≡◌, ℕ, List, length, sym, ap, subst, ◌∙◌, Option}
use Rattle.std.specs.Borrow.{Bor}
use Rattle.file_declarations.specs.declared.declaration.Declaration.{Declaration}
use Rattle.file_declarations.specs.declared.told.Told.{Told}
use Rattle.graph_search.specs.Graph.{graph_of}
use Rattle.program_names.specs.Table.{all_declared, table_of}
use Rattle.declared_twice.specs.Keys.{AreInFiles, AreNext, ClashAt, HasNoNext, declared_in, lent}
use Rattle.declared_twice.specs.FirstTwice.{IsFirstOf}
use Rattle.declared_twice.proofs.ClashLemmas.{first_twice_is, in_files_of, none_without_next, of_all}
use Rattle.declared_twice.proofs.EntryLemmas.{length_table}
use Rattle.declared_twice.proofs.clash.first_clash.Goals as goal

pub returns-then-not-has_next : goal.returns-then-not-has_next
returns-then-not-has_next c =
    let fs = c.args.program.now.files.items in
    let all : lent c.in_ok-all.all.items ≡ all_declared (table_of fs) = c.in_ok-all.ensures ∙ ap (λ (ts : List Told). declared_in ts) c.requires.told ∙ of_all (table_of fs) in
    none_without_next fs c.args.entries.now c.args.prepend (lent c.in_ok-all.all.items) c.in_ok-later.later.items all
    (subst (λ (ds : List (Bor Declaration)). AreNext (lent ds) c.in_ok-later.later.items) c.as_slice.ensures.value c.in_ok-later.ensures)
    (subst (λ (ns : List (Option ℕ)). HasNoNext ns) c.as_slice-2.ensures.value (c.has_next.ensures c.if-not-has_next.true))

pub first_twice-requires-clause-files : goal.first_twice-requires-clause-files
first_twice-requires-clause-files c =
    let fs = c.args.program.now.files.items in
    let all : lent c.in_ok-all.all.items ≡ all_declared (table_of fs) = c.in_ok-all.ensures ∙ ap (λ (ts : List Told). declared_in ts) c.requires.told ∙ of_all (table_of fs) in
    let size : length (table_of fs) ≡ length (graph_of c.in_ok-graph.graph.next.items) = length_table fs ∙ sym c.in_ok-graph.ensures.graph.size in
    subst (λ (ds : List (Bor Declaration)). AreInFiles (length (graph_of c.in_ok-graph.graph.next.items)) (lent ds)) (sym c.as_slice-3.ensures.value)
    (subst (λ (ds : List Declaration). AreInFiles (length (graph_of c.in_ok-graph.graph.next.items)) ds) (sym all)
    (subst (λ (n : ℕ). AreInFiles n (all_declared (table_of fs))) size (in_files_of (table_of fs))))

pub returns : goal.returns
returns c =
    let fs = c.args.program.now.files.items in
    let g = graph_of c.in_ok-graph.graph.next.items in
    let all : lent c.in_ok-all.all.items ≡ all_declared (table_of fs) = c.in_ok-all.ensures ∙ ap (λ (ts : List Told). declared_in ts) c.requires.told ∙ of_all (table_of fs) in
    first_twice_is fs c.args.entries.now c.args.prepend g (lent c.in_ok-all.all.items) c.in_ok-twice.twice c.requires.prepend c.requires.entries c.in_ok-graph.ensures.graph all
    (subst (λ (ds : List (Bor Declaration)). IsFirstOf (lent ds) (ClashAt (lent ds) g c.args.entries.now) c.in_ok-twice.twice) c.as_slice-3.ensures.value c.in_ok-twice.ensures)
