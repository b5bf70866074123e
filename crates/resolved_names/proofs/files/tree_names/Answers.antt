use Rattle.std.proofs.Common.{List, ap, ◌∙◌}
use Rattle.php_rows.specs.File.{file_in}
use Rattle.node_names.specs.Facts.{file_facts}
use Rattle.node_facts.specs.Flat.{slots_listed, slots_named}
use Rattle.node_facts.specs.Named.{Named}
use Rattle.slot_numbers.specs.Numbered.{keys_of}
use Rattle.slot_numbers.proofs.GrowLemmas.{keeps_both}
use Rattle.slot_numbers.proofs.NumberLemmas.{numbered_later}
use Rattle.resolved_names.proofs.FilesLemmas.{only_of}
use Rattle.resolved_names.proofs.files.tree_names.Goals as goal

pub returns-clause-slots : goal.returns-clause-slots
returns-clause-slots c = record {
  facts = c.in_ok-facts.facts;
  told = c.in_ok-facts.ensures.told;
  slots = numbered_later (keys_of c.slot_numbers.new.numbers) (keys_of c.listed_numbers.new.numbers) c.args.number
      c.in_ok-facts.facts.slots.items c.in_ok-slots.slots.items c.in_ok-listed.ensures.keeps c.in_ok-slots.ensures.numbered;
  listed = c.in_ok-listed.ensures.numbered;
}

pub returns-clause-keeps : goal.returns-clause-keeps
returns-clause-keeps c =
    keeps_both (keys_of c.args.numbers.now) (keys_of c.slot_numbers.new.numbers) (keys_of c.listed_numbers.new.numbers)
    c.in_ok-slots.ensures.keeps c.in_ok-listed.ensures.keeps

pub returns-clause-only : goal.returns-clause-only
returns-clause-only c =
    let h = c.in_ok-facts.ensures in
    only_of c.args.number c.args.file.now.0 c.in_ok-facts.facts (file_facts c.args.file.now.0 (file_in c.args.file.now.1).statements)
    (keys_of c.args.numbers.now) (keys_of c.slot_numbers.new.numbers) (keys_of c.listed_numbers.new.numbers)
    (h.slots ∙ ap (λ (ns : List Named). slots_named ns) h.told) (h.listed ∙ ap (λ (ns : List Named). slots_listed ns) h.told)
    c.in_ok-slots.ensures.only c.in_ok-listed.ensures.only
