use Rattle.std.proofs.Common.{◌≡◌, List, [], ◌∷◌, ◌++◌, ap, subst, ◌∙◌}
use Rattle.php_tree.specs.Tree.{alone}
use Rattle.php_rows.specs.Reading.{forest_in, weight}
use Rattle.scope_names.specs.Form.{form}
use Rattle.scope_names.specs.Sites.{names_beside, names_within}
use Rattle.node_names.specs.Slots.{Standing}
use Rattle.file_declarations.specs.declared.import.Import.{Import}
use Rattle.file_declarations.specs.Imported.{IsLonger}
use Rattle.file_declarations.specs.Standing.{site_at as slim_at, space_or}
use Rattle.node_facts.specs.declared.counts.Counts.{Counts}
use Rattle.node_facts.specs.Opened.{names_in}
use Rattle.node_facts.specs.Named.{named, named_at}
use Rattle.node_facts.specs.Past.{past, entered}
use Rattle.node_facts.specs.Flat.{facts_in}
use Rattle.node_facts.specs.Standing.{standing_at, site_at, stands_by}
use Rattle.node_facts.proofs.Walking.{holds_child, node_step, stands_inside, past_inner, among_is}
use Rattle.node_facts.proofs.walk.+walk.Goals as goal

pub walk_parts-parts-preserved : goal.walk_parts-parts-preserved
walk_parts-parts-preserved t c =
    let h = rw c.in-Some-Child.field-0-is at c.in-Some-Child.ensures in
    let spot = c.args.spot in
    let own = c.parts.standing.own in
    let from = c.parts.standing.from in
    let is = c.parts.imports.items in
    let n = c.parts.counts in
    let k = c.in-Some-Child.kind in
    let g = forest_in c.in-Some-Child.inside in
    let walked = c.in_ok-walk_node-in-Some-Child.ensures in
    let passed = c.in_ok-standing-in-Some-Child.ensures in
    record {
      whole = walked.whole;
      held = holds_child spot c.args.imports.now.items (weight (forest_in c.args.parts))
          (facts_in spot.path.now c.args.facts.now ++ named (standing_at spot c.args.imports.now.items c.args.counts.now) (forest_in c.args.parts))
          (past (forest_in c.args.parts) c.args.counts.now)
          (facts_in spot.path.now c.parts.facts) (facts_in spot.path.now c.walk_node.new.facts)
          own c.in_ok-standing-in-Some-Child.standing.own from c.in_ok-standing-in-Some-Child.standing.from is c.pass.new.known.items
          n c.walk_node.new.counts (forest_in c.parts.left) (forest_in c.next.new.self) k g
          h.parts
          (walked.told ∙ ap (λ (p : Standing). facts_in spot.path.now c.parts.facts ++ named p (alone (k, g)))
          (among_is spot own c.space_of.result.now from is n c.space_of.ensures))
          walked.counts
          (subst (λ (js : List Import). IsLonger js c.pass.new.known.items) walked.imports passed.grew)
          passed.from
          (subst (λ (js : List Import). slim_at spot.path.now
          (space_or spot.space.now c.in_ok-standing-in-Some-Child.standing.own)
          c.in_ok-standing-in-Some-Child.standing.from c.pass.new.known.items
          ≡ names_beside k (form g) (slim_at spot.path.now (space_or spot.space.now own) from js)) walked.imports (passed.site spot.path.now spot.space.now))
          c.parts.invariant.held;
    }

pub walk_node-returns-clause-told : goal.walk_node-returns-clause-told
walk_node-returns-clause-told t c =
    let spot = c.args.spot in
    let is = c.args.imports.now.items in
    let n = c.args.counts.now in
    let k = c.args.kind in
    let g = forest_in c.args.parts in
    let within = c.inner-within.result in
    let o = c.in_ok-opened.opened in
    let inside = c.in_ok-inside.inside in
    node_step spot.path.now within.path.now c.args.facts.now c.visit.new.facts c.walk_parts.new.facts
    (standing_at spot is n) (standing_at within is inside) k g
    c.inner-within.ensures.path
    (subst (λ (js : List Import). facts_in spot.path.now c.visit.new.facts ≡ facts_in spot.path.now c.args.facts.now ++ named_at k g (standing_at spot js n) ∷ [])
    c.as_slice.ensures.value c.in_ok-opened.ensures.told)
    c.in_ok-walk_parts.ensures.told
    (ap (λ (m : Counts). standing_at within is m) c.in_ok-inside.ensures
    ∙ subst (λ (js : List Import). standing_at within js (entered k n) ≡ stands_by o k (standing_at spot js n)) c.as_slice-2.ensures.value c.inner-within.ensures.standing
    ∙ stands_inside o k g (standing_at spot is n)
    (subst (λ (js : List Import). names_in o (site_at spot js n.number) ≡ names_within k (form g)
    (site_at spot js n.number)) c.as_slice.ensures.value c.in_ok-opened.ensures.opened))

pub walk_node-returns-clause-counts : goal.walk_node-returns-clause-counts
walk_node-returns-clause-counts t c =
    let g = forest_in c.args.parts in
    c.in_ok-walk_parts.ensures.counts ∙ ap (λ (m : Counts). past g m) c.in_ok-inside.ensures ∙ past_inner c.args.kind g c.args.counts.now
