use Rattle.std.proofs.Common.{ℕ, List, subst}
use Rattle.program_names.specs.Table.{table_of}
use Rattle.program_names.specs.Whole.{files_of}
use Rattle.program_names.proofs.PathLemmas.{once}
use Rattle.resolved_names.specs.Index.{declared_in}
use Rattle.resolved_names.specs.NodeReads.{AreFiles}
use Rattle.resolved_names.proofs.NamesLemmas.{names_are}
use Rattle.resolved_names.proofs.resolve.built.Goals as goal

pub returns-clause-names : goal.returns-clause-names
returns-clause-names c =
    let p = c.args.program.now in
    let fs = files_of p in
    let all = c.in_ok-all.all in
    names_are (record { index = c.in_ok-index.index; files = all.files; slots = all.slots; entries = c.args.asked.files; prepend = c.args.asked.prepend })
    fs c.args.told.now c.in_ok-others.others.items c.requires
    (subst (λ (os : List (List ℕ)). AreFiles c.in_ok-index.index.entries (declared_in c.args.told.now) os all.files.items (table_of fs))
    c.as_slice.ensures.value c.in_ok-all.ensures.names)
    (c.in_ok-others.ensures.others (table_of fs) c.requires)
    (once fs p.ascending)
    c.in_ok-all.ensures.slots
