use Rattle.std.specs.Prelude.{map, IfOk}
use Rattle.std.proofs.Common.{rules, ◌≡◌, ℕ, List, subst}
use Rattle.node_facts.specs.Flat.{facts_in, slots_listed}
use Rattle.node_facts.specs.Seen.{slots_in}
use Rattle.node_facts.proofs.whole.file_facts.Goals as goal

pub returns-clause-listed : goal.returns-clause-listed
returns-clause-listed c =
    let same : c.as_bytes.result.now ≡ c.args.path.now = search rules in
    subst (λ (p : List ℕ). IfOk c.walked.result (λ x. map (slots_in p) x.listed.items ≡ slots_listed (facts_in p x))) same c.walked.ensures.listed
