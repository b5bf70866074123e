use Rattle.std.proofs.lemmas.List.Filters.{dedup_is}
use Rattle.class_cycles.proofs.NameLemmas.{sorted_once}
use Rattle.class_cycles.proofs.once.sort_once.Goals as goal

pub returns : goal.returns
returns c =
    sorted_once c.args.names.now.items c.sort_unstable.new.self.items c.dedup.new.self.items c.sort_unstable.ensures.permutation c.sort_unstable.ensures.sorted
    (dedup_is _ _ _ c.dedup.ensures.filtered)
