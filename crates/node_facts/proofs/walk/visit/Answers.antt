use Rattle.std.proofs.Common.{◌≡◌, ◌∙◌, ap, subst}
use Rattle.php_rows.specs.Reading.{forest_in}
use Rattle.scope_names.specs.Form.{Form, form}
use Rattle.scope_names.specs.Sites.{names_within}
use Rattle.node_names.specs.Seen.{form_of}
use Rattle.node_names.specs.Slots.{Standing}
use Rattle.node_facts.specs.Opened.{names_in}
use Rattle.node_facts.specs.Standing.{site_of, standing_at, standing_of}
use Rattle.node_facts.proofs.KindRows.{within_is}
use Rattle.node_facts.proofs.Walking.{told_added}
use Rattle.node_facts.proofs.walk.visit.Goals as goal

pub returns-clause-told : goal.returns-clause-told
returns-clause-told c =
    told_added c.args.spot.path.now c.scene_at-scene.result.spot.path.now c.args.facts.now c.add_fact.new.facts
    c.args.kind (form_of c.as_slice.result.now) (forest_in c.args.parts)
    (standing_at c.args.spot c.args.imports.now c.args.counts) (standing_of c.scene_at-scene.result)
    c.scene_at-scene.ensures.path
    c.in_ok-add_fact.ensures.told
    (ap (λ ps. form_of ps) c.as_slice.ensures.value ∙ c.in_ok-form.ensures)
    c.scene_at-scene.ensures.standing

pub returns-clause-opened : goal.returns-clause-opened
returns-clause-opened c =
    let k = c.args.kind in
    let s = site_of c.scene_at-scene.result in
    subst (λ (p : Standing). names_in c.in_ok-opened.opened p.site ≡ names_within k (form (forest_in c.args.parts)) p.site)
    c.scene_at-scene.ensures.standing
    (c.in_ok-opened.ensures
    ∙ ap (λ (f : Form). names_within k f s) (ap (λ ps. form_of ps) c.as_slice-2.ensures.value ∙ c.in_ok-form.ensures)
    ∙ within_is k (form (forest_in c.args.parts)) s)
