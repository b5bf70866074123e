use Rattle.std.proofs.Common.{◌≡◌, ◌<◌, ◌≤◌, ℕ, ◌+◌, true, false, List, length, sym, subst, ◌∙◌, arith}
use Rattle.std.specs.Prelude.{Vec}
use Rattle.std.specs.declared.alloc.Global.{Global}
use Rattle.std.proofs.lemmas.List.{length-map}
use Rattle.graph_search.specs.Graph.{graph_of}
use Rattle.graph_search.specs.Marks.{AreBelow}
use Rattle.program_names.specs.Entries.{paths_of}
use Rattle.program_names.specs.Table.{table_of}
use Rattle.declared_twice.specs.Marked.{Marked}
use Rattle.declared_twice.proofs.MarkedLemmas.{mark_read}
use Rattle.declared_twice.proofs.EntryLemmas.{SoFar, so_far_first, so_far_reached, so_far_added, so_far_last, includes_within, same_length, length_paths, length_table}
use Rattle.declared_twice.proofs.completing.complete.Goals as goal

pub marks_of-requires-clause-within : goal.marks_of-requires-clause-within
marks_of-requires-clause-within c =
    let fs = c.args.program.now.files.items in
    includes_within (paths_of fs) (table_of fs) (graph_of c.args.next.now) (same_length fs) c.requires.graph

pub marks_of-requires-clause-below : goal.marks_of-requires-clause-below
marks_of-requires-clause-below c =
    let fs = c.args.program.now.files.items in
    let size : length fs ≡ length c.args.next.now = sym (length_table fs) ∙ sym c.requires.graph.size ∙ length-map c.args.next.now (λ (v : Vec ℕ Global). v.items) in
    subst (λ (es : List ℕ). AreBelow es (length c.args.next.now)) (sym c.as_slice.ensures.value)
    (subst (λ (n : ℕ). AreBelow c.args.entries.items n) size c.requires.within)

pub loop-file-init : goal.loop-file-init
loop-file-init c =
    let fs = c.args.program.now.files.items in
    let g = graph_of c.args.next.now in
    so_far_first (paths_of fs) (table_of fs) g c.args.entries.items c.in_ok-marks.marks.items
    (subst (λ (n : ℕ). AreBelow c.args.entries.items n) (sym (length_table fs)) c.requires.within)
    (subst (λ (es : List ℕ). Marked g es c.in_ok-marks.marks.items) c.as_slice.ensures.value c.in_ok-marks.ensures)

pub index-requires : goal.index-requires
index-requires c =
    let fs = c.args.program.now.files.items in
    omega (arith, c.loop-file-test.true, c.file_count-file-end.ensures, length_table fs, c.requires.graph.size, c.loop-file.invariant.marks.size)

pub mark_from-requires-clause-within : goal.mark_from-requires-clause-within
mark_from-requires-clause-within c =
    let fs = c.args.program.now.files.items in
    includes_within (paths_of fs) (table_of fs) (graph_of c.args.next.now) (same_length fs) c.requires.graph

pub mark_from-requires-clause-start : goal.mark_from-requires-clause-start
mark_from-requires-clause-start c =
    let fs = c.args.program.now.files.items in
    omega (arith, c.loop-file-test.true, c.file_count-file-end.ensures, length_table fs, c.requires.graph.size, length-map c.args.next.now (λ (v : Vec ℕ Global). v.items))

pub mark_from-requires-clause-closed : goal.mark_from-requires-clause-closed
mark_from-requires-clause-closed c = c.loop-file.invariant.marks.closed

pub loop-file-preserved-then-index : goal.loop-file-preserved-then-index
loop-file-preserved-then-index c =
    let fs = c.args.program.now.files.items in
    let within : c.loop-file.file < length (paths_of fs) = omega (arith, c.loop-file-test.true, c.file_count-file-end.ensures, length_paths fs) in
    let inside : c.loop-file.file < length c.loop-file.marks.items = omega (arith, within, same_length fs, c.requires.graph.size, c.loop-file.invariant.marks.size) in
    so_far_reached (paths_of fs) (table_of fs) (graph_of c.args.next.now) c.args.entries.items c.loop-file.file
    c.loop-file.entries.items c.loop-file.marks.items (same_length fs) c.requires.graph
    within (mark_read c.loop-file.marks.items c.loop-file.file c.index.result.now true inside c.index.ensures c.if-index.true) c.loop-file.invariant

pub loop-file-preserved : goal.loop-file-preserved
loop-file-preserved c =
    let fs = c.args.program.now.files.items in
    let g = graph_of c.args.next.now in
    let f = c.loop-file.file in
    let within : f < length (paths_of fs) = omega (arith, c.loop-file-test.true, c.file_count-file-end.ensures, length_paths fs) in
    let inside : f < length c.loop-file.marks.items = omega (arith, within, same_length fs, c.requires.graph.size, c.loop-file.invariant.marks.size) in
    subst (λ (es : List ℕ). SoFar (paths_of fs) (table_of fs) g c.args.entries.items (f + 1) es c.mark_from.new.marked.items) (sym c.in_ok-push.ensures.items)
    (so_far_added (paths_of fs) (table_of fs) g c.args.entries.items f c.loop-file.entries.items
    c.loop-file.marks.items c.mark_from.new.marked.items (same_length fs) c.requires.graph
    within (mark_read c.loop-file.marks.items f c.index.result.now false inside c.index.ensures c.if-index.false) c.in_ok-mark_from.ensures c.loop-file.invariant)

pub returns : goal.returns
returns c =
    let fs = c.args.program.now.files.items in
    let past : length (paths_of fs) ≤ c.loop-file.file = omega (arith, c.loop-file-test.false, c.file_count-file-end.ensures, length_paths fs) in
    record {
      completes = so_far_last (paths_of fs) (table_of fs) (graph_of c.args.next.now) c.args.entries.items
          c.loop-file.file c.loop-file.entries.items c.loop-file.marks.items past c.loop-file.invariant;
      within = subst (λ (n : ℕ). AreBelow c.loop-file.entries.items n) (length_table fs) c.loop-file.invariant.within;
    }
