use Rattle.std.proofs.Common.{ℕ, Bool, false, List, length, sym, subst, ap, ◌∙◌}
use Rattle.std.proofs.lemmas.List.{length-replicate}
use Rattle.graph_search.specs.Graph.{ArePairsBelow}
use Rattle.class_cycles.specs.Circuits.{Pairs, AreWithin}
use Rattle.class_cycles.proofs.BackLemmas.{turned_below}
use Rattle.class_cycles.proofs.levels.levels_of.Goals as goal

pub turned-requires : goal.turned-requires
turned-requires c =
    subst (λ (n : ℕ). AreWithin n c.args.pairs.now)
    (sym (ap (λ (ms : List Bool). length ms) (c.as_slice.ensures.value
    ∙ c.in_ok-untaken.ensures.items_if_clones_equal (λ y e. e)) ∙ length-replicate c.args.count false)) c.requires

pub edges-requires : goal.edges-requires
edges-requires c = λ a b k. (c.requires a b k).0

pub edges-requires-2 : goal.edges-requires-2
edges-requires-2 c =
    subst (λ (qs : Pairs). ArePairsBelow c.args.count qs) (sym c.as_slice-2.ensures.value)
    (turned_below c.args.count c.args.pairs.now c.as_slice.result.now c.in_ok-back.back.items c.requires c.in_ok-back.ensures)
