use Rattle.std.proofs.Common.{ℕ, List, sym, subst}
use Rattle.program_names.specs.Entries.{paths_of}
use Rattle.program_names.specs.Table.{table_of}
use Rattle.program_names.specs.Whole.{files_of}
use Rattle.resolved_names.specs.Refusals.{IsClash}
use Rattle.resolved_names.proofs.ClashLemmas.{clash_named}
use Rattle.resolved_names.proofs.resolve.check_once.Goals as goal

pub returns-in-Ok : goal.returns-in-Ok
returns-in-Ok c =
    let fs = files_of c.args.program.now in
    let twice = c.in-Ok-Some.twice in
    let h = rw c.in-Ok-Some.field-0-is at c.in-Ok-Some.ensures in
    subst (λ (name : List ℕ). IsClash (paths_of fs) (table_of fs) c.args.entries.now c.args.prepend name twice.first.now.at twice.second.now.at)
    (sym c.in-Ok.ensures) (clash_named fs c.args.entries.now c.args.prepend twice h)
