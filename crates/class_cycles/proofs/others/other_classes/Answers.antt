use Rattle.std.proofs.Common.{ℕ, List, subst}
use Rattle.class_cycles.specs.Names.{AreOnce}
use Rattle.class_cycles.proofs.OtherLemmas.{others_once}
use Rattle.class_cycles.proofs.others.other_classes.Goals as goal

pub returns-clause-others : goal.returns-clause-others
returns-clause-others c =
    others_once c.args.told.now c.in_ok-others.others.items
    (subst (λ (ns : List (List ℕ)). AreOnce ns c.in_ok-others.others.items) c.in_ok-other_names.ensures c.in_ok-others.ensures)
