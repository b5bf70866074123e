use Rattle.std.proofs.lemmas.Result.{err_from_is_err_and}
use Rattle.std.specs.Prelude.{option_copied}
use Rattle.program_names.specs.Entries.{paths_of}
use Rattle.declared_twice.proofs.AskingLemmas.{answered, fault_of_list, fault_of_prepend, listed_below}
use Rattle.declared_twice.proofs.asking.entry_files.Goals as goal

pub returns-in_err-first : goal.returns-in_err-first
returns-in_err-first c =
    let p = err_from_is_err_and c.from_residual.result c.from_residual.ensures.1 in
    rw (p.1, p.2)
    (fault_of_list (paths_of c.args.program.now.files.items) (option_copied c.args.listed) (option_copied c.args.prepend) c.in_err-first.field-0.0 c.in_err-first.ensures)

pub returns-in_err-before : goal.returns-in_err-before
returns-in_err-before c =
    let p = err_from_is_err_and c.from_residual-in_err-before.result c.from_residual-in_err-before.ensures.1 in
    rw (p.1, p.2)
    (fault_of_prepend (paths_of c.args.program.now.files.items) (option_copied c.args.listed)
    (option_copied c.args.prepend) c.in_ok-first.first c.in_err-before.field-0.0 c.in_ok-first.ensures
    c.in_err-before.ensures)

pub all_entries-requires-clause-within : goal.all_entries-requires-clause-within
all_entries-requires-clause-within c = listed_below c.args.program.now.files.items (option_copied c.args.listed) c.in_ok-first.first c.in_ok-first.ensures

pub returns : goal.returns
returns c =
    answered c.args.program.now.files.items (option_copied c.args.listed) (option_copied c.args.prepend) c.in_ok-first.first
    (record { files = c.in_ok-files.files; prepend = c.in_ok-before.before }) c.in_ok-first.ensures c.in_ok-before.ensures c.in_ok-files.ensures
