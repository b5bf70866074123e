use Rattle.std.specs.Prelude.{option_copied}
use Rattle.program_names.specs.Whole.{files_of}
use Rattle.resolved_names.proofs.ResolveLemmas.{unrefused_is}
use Rattle.resolved_names.proofs.resolve.checked_told.Goals as goal

pub returns-clause-unrefused : goal.returns-clause-unrefused
returns-clause-unrefused c =
    unrefused_is (files_of c.args.program.now) (option_copied c.args.entries) (option_copied c.args.prepend) c.in_ok-asked.asked
    c.in_ok-asked.ensures c.in_ok-check_entries.ensures.0 c.in_ok-check_entries.ensures.1
