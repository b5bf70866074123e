use Rattle.std.proofs.Common.{ℕ, List, subst}
use Rattle.std.specs.Prelude.{Contains, MatchResult, option_copied}
use Rattle.program_names.specs.Entries.{paths_of}
use Rattle.program_names.specs.Table.{table_of}
use Rattle.program_names.specs.Whole.{files_of}
use Rattle.resolved_names.specs.Resolved.{HasNoCycle, IsDeclaredOnce, IsLaterFault, IsNamesFault}
use Rattle.resolved_names.proofs.ResolveLemmas.{later_is, match_then}
use Rattle.resolved_names.proofs.resolve.check_entries.Goals as goal

pub returns : goal.returns
returns c =
    let fs = files_of c.args.program.now in
    let e = c.args.asked.now in
    let listed = option_copied c.args.listed in
    let prepend = option_copied c.args.prepend in
    match_then c.check_names.result
    (λ _. IsDeclaredOnce (paths_of fs) (table_of fs) e.files.items e.prepend × HasNoCycle (table_of fs))
    (λ _. IsDeclaredOnce (paths_of fs) (table_of fs) e.files.items e.prepend × HasNoCycle (table_of fs))
    (λ f. IsLaterFault (paths_of fs) (table_of fs) e.files.items e.prepend f)
    (λ f. IsNamesFault (paths_of fs) (table_of fs) listed prepend f)
    (λ x k. k) (λ f k. later_is fs listed prepend e f c.requires.asked k)
    (subst (λ (xs : List ℕ). MatchResult c.check_names.result
    (λ _. IsDeclaredOnce (paths_of fs) (table_of fs) xs e.prepend × HasNoCycle (table_of fs))
    (λ f. IsLaterFault (paths_of fs) (table_of fs) xs e.prepend f)) c.as_slice.ensures.value c.check_names.ensures)

pub check_names-requires-clause-entries : goal.check_names-requires-clause-entries
check_names-requires-clause-entries c =
    λ b m. c.requires.asked.within b (subst (λ (l : List ℕ). Contains l b) c.as_slice.ensures.value m)
