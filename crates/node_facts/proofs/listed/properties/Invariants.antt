use Rattle.std.proofs.Common.{◌≡◌, ◌++◌, drop, if◌then◌else◌}
use Rattle.std.specs.Prelude.{map}
use Rattle.node_names.specs.Seen.{texts_of}
use Rattle.node_names.specs.Slots.{twice, static_property, instance_property}
use Rattle.node_facts.specs.Seen.{slots_in}
use Rattle.node_facts.proofs.listed.properties.Given as goal

abbrev pub invariant-loop-name : goal.invariant-loop-name
invariant-loop-name l =
    map (slots_in l.scene.spot.path.now) l.slots.items
    ++ map (λ name. twice (if l.is_static then static_property name else instance_property name)) (texts_of (drop l.name-index l.words))
    ≡ map (slots_in l.scene.spot.path.now) l.fn.slots.items ++ map (λ name. twice (if l.is_static then static_property name else instance_property name)) (texts_of l.words)
