use Rattle.std.specs.Prelude.{option_copied}
use Rattle.program_names.specs.Whole.{files_of}
use Rattle.resolved_names.proofs.ResolveLemmas.{resolved_is}
use Rattle.resolved_names.proofs.resolve.resolved_told.Goals as goal

pub returns-clause-resolved : goal.returns-clause-resolved
returns-clause-resolved c =
    resolved_is (files_of c.args.program.now) (option_copied c.args.entries) (option_copied c.args.prepend) c.in_ok-asked.asked c.in_ok-names.names
    c.in_ok-asked.ensures c.in_ok-check_entries.ensures.0 c.in_ok-check_entries.ensures.1
    c.in_ok-names.ensures.entries c.in_ok-names.ensures.prepend c.in_ok-names.ensures.names
