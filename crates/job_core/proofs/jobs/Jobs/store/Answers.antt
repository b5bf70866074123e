use Rattle.std.proofs.Common.{◌≡◌, ◌+◌, ◌<◌, List, [], ◌∷◌, ◌++◌, None, Some, refl, ap, sym, subst, ◌∙◌, find, length}
use Rattle.std.specs.Str.{bytes_eq}
use Rattle.job_core.specs.Job.{StoredJob, stored}
use Rattle.job_core.specs.Jobs.{jobs_of, SameJobs, IsKept}
use Rattle.job_core.specs.JobsMap.{all_jobs, IsJobsMap}
use Rattle.job_core.proofs.JobsMapLemmas.{found, jobs_of-none, jobs_of-found, IsKept-all_jobs, attempts-job, kept-attempt, first-job}
use Rattle.job_core.proofs.jobs.Jobs.store.Goals as goal

pub add-requires-clause-new_key : goal.add-requires-clause-new_key
add-requires-clause-new_key c =
    let had = subst (λ q. jobs_of q c.args.self.now ≡ c.in-Some.jobs.now) c.as_str.ensures
    (jobs_of-found c.as_str.result.now c.self.inside.owners.entries c.args.self.now c.self.view_is
    c.self.invariant c.in-Some.jobs.now (sym c.in-Some.ensures.value)) in
    subst (λ js. find (λ (j : StoredJob). bytes_eq c.args.job.key j.key) js ≡ None) had c.requires.next.new_key

pub add-requires-clause-room : goal.add-requires-clause-room
add-requires-clause-room c =
    let had = subst (λ q. jobs_of q c.args.self.now ≡ c.in-Some.jobs.now) c.as_str.ensures
    (jobs_of-found c.as_str.result.now c.self.inside.owners.entries c.args.self.now c.self.view_is
    c.self.invariant c.in-Some.jobs.now (sym c.in-Some.ensures.value)) in
    subst (λ (js : List StoredJob). length js < 10000) had c.requires.next.room

pub add-requires-clause-number : goal.add-requires-clause-number
add-requires-clause-number c =
    let had = subst (λ q. jobs_of q c.args.self.now ≡ c.in-Some.jobs.now) c.as_str.ensures
    (jobs_of-found c.as_str.result.now c.self.inside.owners.entries c.args.self.now c.self.view_is
    c.self.invariant c.in-Some.jobs.now (sym c.in-Some.ensures.value)) in
    subst (λ (js : List StoredJob). c.args.job.head.job ≡ length js + 1) had c.requires.next.number

pub invariant_of-self : goal.invariant_of-self
invariant_of-self c =
    (attempts-job c.add.result c.self.inside.owners (c.get_mut.follows.lender c.add.new.self) c.args.self.now
    c.self.view_is c.self.invariant c.as_str.result.now c.in-Some.jobs.now c.add.new.self (stored c.args.job)
    (sym c.as_str.ensures) (sym c.in-Some.ensures.value) c.add.ensures.ok c.add.ensures.kept c.add.ensures.err
    (c.get_mut.follows.holds c.add.new.self)).map

pub returns-in-Some-clause-ok : goal.returns-in-Some-clause-ok
returns-in-Some-clause-ok c =
    (attempts-job c.add.result c.self.inside.owners (c.get_mut.follows.lender c.add.new.self) c.args.self.now
    c.self.view_is c.self.invariant c.as_str.result.now c.in-Some.jobs.now c.add.new.self (stored c.args.job)
    (sym c.as_str.ensures) (sym c.in-Some.ensures.value) c.add.ensures.ok c.add.ensures.kept c.add.ensures.err
    (c.get_mut.follows.holds c.add.new.self)).ok

pub returns-in-Some-clause-kept : goal.returns-in-Some-clause-kept
returns-in-Some-clause-kept c =
    kept-attempt c.add.result (c.get_mut.follows.lender c.add.new.self).entries
    (attempts-job c.add.result c.self.inside.owners (c.get_mut.follows.lender c.add.new.self) c.args.self.now
    c.self.view_is c.self.invariant c.as_str.result.now c.in-Some.jobs.now c.add.new.self (stored c.args.job)
    (sym c.as_str.ensures) (sym c.in-Some.ensures.value) c.add.ensures.ok c.add.ensures.kept c.add.ensures.err
    (c.get_mut.follows.holds c.add.new.self)).map

pub returns-in-Some-clause-err : goal.returns-in-Some-clause-err
returns-in-Some-clause-err c =
    (attempts-job c.add.result c.self.inside.owners (c.get_mut.follows.lender c.add.new.self) c.args.self.now
    c.self.view_is c.self.invariant c.as_str.result.now c.in-Some.jobs.now c.add.new.self (stored c.args.job)
    (sym c.as_str.ensures) (sym c.in-Some.ensures.value) c.add.ensures.ok c.add.ensures.kept c.add.ensures.err
    (c.get_mut.follows.holds c.add.new.self)).err

pub add-requires-2-clause-number : goal.add-requires-2-clause-number
add-requires-2-clause-number c =
    let none = subst (λ q. jobs_of q c.args.self.now ≡ []) c.as_str.ensures
    (jobs_of-none c.as_str.result.now c.self.inside.owners.entries c.args.self.now c.self.view_is c.self.invariant
    (sym c.in_default.ensures.value)) in
    subst (λ (js : List StoredJob). c.args.job.head.job ≡ length js + 1) (none ∙ sym c.new-jobs.ensures) c.requires.next.number

pub invariant_of-self-2 : goal.invariant_of-self-2
invariant_of-self-2 c =
    let map = subst (λ m. IsJobsMap m.entries) (sym c.get_mut.follows.holds-at-none) c.self.invariant in
    let view = subst (λ m. all_jobs m.entries ≡ c.args.self.now) (sym c.get_mut.follows.holds-at-none) c.self.view_is in
    let none = subst (λ m. found c.args.job.owner m.entries ≡ None) (sym c.get_mut.follows.holds-at-none)
    (subst (λ q. found q c.self.inside.owners.entries ≡ None) c.as_str.ensures (sym c.in_default.ensures.value))
    in
    (first-job c.get_mut.follows.lender-at-none c.insert.new.self c.args.self.now view map c.args.job.owner
    c.in_ok-owner.owner c.add-2.new.self (stored c.args.job) (c.in_ok-owner.ensures.ok ∙ c.as_str-2.ensures) refl
    none (c.in_ok-add.ensures.ok ∙ ap (λ js. js ++ stored c.args.job ∷ []) c.new-jobs.ensures)
    c.in_ok-add.ensures.kept c.in_ok-insert.ensures.entries c.in_ok-insert.ensures.updates
    c.in_ok-insert.ensures.unique).map

pub returns-clause-ok : goal.returns-clause-ok
returns-clause-ok c =
    let map = subst (λ m. IsJobsMap m.entries) (sym c.get_mut.follows.holds-at-none) c.self.invariant in
    let view = subst (λ m. all_jobs m.entries ≡ c.args.self.now) (sym c.get_mut.follows.holds-at-none) c.self.view_is in
    let none = subst (λ m. found c.args.job.owner m.entries ≡ None) (sym c.get_mut.follows.holds-at-none)
    (subst (λ q. found q c.self.inside.owners.entries ≡ None) c.as_str.ensures (sym c.in_default.ensures.value))
    in
    (first-job c.get_mut.follows.lender-at-none c.insert.new.self c.args.self.now view map c.args.job.owner
    c.in_ok-owner.owner c.add-2.new.self (stored c.args.job) (c.in_ok-owner.ensures.ok ∙ c.as_str-2.ensures) refl
    none (c.in_ok-add.ensures.ok ∙ ap (λ js. js ++ stored c.args.job ∷ []) c.new-jobs.ensures)
    c.in_ok-add.ensures.kept c.in_ok-insert.ensures.entries c.in_ok-insert.ensures.updates
    c.in_ok-insert.ensures.unique).same

pub returns-clause-kept : goal.returns-clause-kept
returns-clause-kept c =
    let map = subst (λ m. IsJobsMap m.entries) (sym c.get_mut.follows.holds-at-none) c.self.invariant in
    let view = subst (λ m. all_jobs m.entries ≡ c.args.self.now) (sym c.get_mut.follows.holds-at-none) c.self.view_is in
    let none = subst (λ m. found c.args.job.owner m.entries ≡ None) (sym c.get_mut.follows.holds-at-none)
    (subst (λ q. found q c.self.inside.owners.entries ≡ None) c.as_str.ensures (sym c.in_default.ensures.value))
    in
    IsKept-all_jobs c.insert.new.self.entries
    (first-job c.get_mut.follows.lender-at-none c.insert.new.self c.args.self.now view map c.args.job.owner
    c.in_ok-owner.owner c.add-2.new.self (stored c.args.job) (c.in_ok-owner.ensures.ok ∙ c.as_str-2.ensures) refl
    none (c.in_ok-add.ensures.ok ∙ ap (λ js. js ++ stored c.args.job ∷ []) c.new-jobs.ensures)
    c.in_ok-add.ensures.kept c.in_ok-insert.ensures.entries c.in_ok-insert.ensures.updates
    c.in_ok-insert.ensures.unique).map
