use Rattle.std.specs.Prelude.{map}
use Rattle.std.proofs.Common.{sym, ap, subst, ◌∙◌, List, [], ◌∷◌, Some}
use Rattle.slot_numbers.specs.Growing.{HasOnly, Keeps}
use Rattle.slot_numbers.specs.Keys.{Key, seen}
use Rattle.slot_numbers.proofs.SeenLemmas.{Raw, put_keeps, put_only, same_seen, seen_at}
use Rattle.slot_numbers.proofs.key.place.Goals as goal

pub returns-clause-stored : goal.returns-clause-stored
returns-clause-stored c =
    let h = c.in_ok-place.ensures.stored in
    seen_at c.insert_full.new.self.keys c.in_ok-place.place h.0 h.1 ∙ ap (λ (k : Key). Some k) (sym (same_seen c.args.key h.0 h.2))

pub returns-clause-keeps : goal.returns-clause-keeps
returns-clause-keeps c =
    subst (λ (xs : List Raw). Keeps (map seen c.args.keys.now.keys) (map seen xs)) (sym c.in_ok-place.ensures.keys)
    (put_keeps c.args.keys.now.keys c.args.key)

pub returns-clause-only : goal.returns-clause-only
returns-clause-only c =
    subst (λ (xs : List Raw). HasOnly (map seen c.args.keys.now.keys) (seen c.args.key ∷ []) (map seen xs)) (sym c.in_ok-place.ensures.keys)
    (put_only c.args.keys.now.keys c.args.key)
