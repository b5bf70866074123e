use Rattle.php_rows.specs.Reading.{forest_in}
use Rattle.node_names.specs.Seen.{form_of}
use Rattle.node_facts.specs.declared.facts.FileFacts.{FileFacts}
use Rattle.node_facts.specs.Dispatch.{named_by}
use Rattle.node_facts.specs.Standing.{standing_of}
use Rattle.node_facts.proofs.FlatLemmas.{facts_added, whole_added, added}
use Rattle.node_facts.proofs.fact.add_fact.Goals as goal

pub returns-clause-told : goal.returns-clause-told
returns-clause-told c =
    let new : FileFacts = record { nodes = c.push.new.self; declares = c.add_declared.new.names; uses = c.add_uses.new.uses; slots = c.add_slot.new.slots; listed = c.add_listed.new.slots } in
    let n = named_by c.args.kind (form_of c.args.form.now) (forest_in c.args.parts) (standing_of c.args.scene) in
    facts_added c.args.scene.spot.path.now c.args.facts.now new n c.requires
    (added c.args.scene.spot.path.now c.args.facts.now new n c.in_ok-ends.ends
    c.in_ok-add_declared.ensures c.in_ok-add_uses.ensures c.in_ok-add_slot.ensures c.in_ok-add_listed.ensures c.in_ok-push.ensures.items c.in_ok-ends.ensures)

pub returns-clause-whole : goal.returns-clause-whole
returns-clause-whole c =
    let new : FileFacts = record { nodes = c.push.new.self; declares = c.add_declared.new.names; uses = c.add_uses.new.uses; slots = c.add_slot.new.slots; listed = c.add_listed.new.slots } in
    let n = named_by c.args.kind (form_of c.args.form.now) (forest_in c.args.parts) (standing_of c.args.scene) in
    whole_added c.args.scene.spot.path.now c.args.facts.now new n c.requires
    (added c.args.scene.spot.path.now c.args.facts.now new n c.in_ok-ends.ends
    c.in_ok-add_declared.ensures c.in_ok-add_uses.ensures c.in_ok-add_slot.ensures c.in_ok-add_listed.ensures c.in_ok-push.ensures.items c.in_ok-ends.ensures)
