use Rattle.std.proofs.Common.{ℕ, ◌+◌, ◌-◌, List, ◌∷◌, ◌++◌, [], sym, ap, ◌∙◌}
use Rattle.std.proofs.lemmas.List.{append_assoc}
use Rattle.scope_names.specs.Numbers.{counted}
use Rattle.declared_twice.proofs.EntryLemmas.{counted_more}
use Rattle.declared_twice.proofs.completing.every_file.Goals as goal

pub loop-file-preserved : goal.loop-file-preserved
loop-file-preserved c =
    let f = c.loop-file.file in
    let n = c.args.count in
    let rest = counted (f + 1) (n - (f + 1)) in
    ap (λ (fs : List ℕ). fs ++ rest) c.in_ok-push.ensures.items
    ∙ append_assoc c.loop-file.files.items (f ∷ []) rest
    ∙ sym (ap (λ (fs : List ℕ). c.loop-file.files.items ++ fs) (counted_more f n c.loop-file-test.true))
    ∙ c.loop-file.invariant
