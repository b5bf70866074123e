use Rattle.std.proofs.Common.{subst, ◌≡◌, ℕ, map, slice_get, Some, sym, ap, ◌∙◌}
use Rattle.std.proofs.lemmas.Result.{IfOk-weaker}
use Rattle.scalar_types.specs.Terms.{term, facts_of}
use Rattle.scalar_types.specs.Rows.{rows}
use Rattle.scalar_types.specs.Pool.{IsKnownWith, Grows, Content}
use Rattle.scalar_types.proofs.PoolLemmas.{KeepsEach-trans, IsPool-lists, types_differ, Stored, IsPool-stored, number-stored, Grows-stored, stands-stored}
use Rattle.scalar_types.proofs.pool.Pool.intern_parts.Goals as goal

pub invariant_of-self : goal.invariant_of-self
invariant_of-self c = IsPool-lists _ _ _ _ c.self.invariant c.position_of.ensures.kept c.position_of.ensures.differ

pub returns-in_err-shared-clause-types_differ : goal.returns-in_err-shared-clause-types_differ
returns-in_err-shared-clause-types_differ c = types_differ _ c.self.invariant

pub invariant_of-self-in_err-classes : goal.invariant_of-self-in_err-classes
invariant_of-self-in_err-classes c =
    IsPool-lists _ _ _ _ c.self.invariant (KeepsEach-trans _ _ _ c.position_of.ensures.kept c.position_of-2.ensures.kept) c.position_of-2.ensures.differ

pub returns-in_err-classes-clause-types_differ : goal.returns-in_err-classes-clause-types_differ
returns-in_err-classes-clause-types_differ c = types_differ _ c.self.invariant

-- the known type is stored
stored : (c : goal.After-store) → Stored (map term c.self.inside.types.items) (map term c.store.new.types.items) c.self.inside.packed.keys c.store.new.packed.keys
    (rows c.self.inside.lists.keys) (rows c.position_of-2.new.lists.keys) (facts_of c.args.p.now) (term c.args.a.now)
    (record { head = c.head_of.result; element = c.args.element; shared = c.in_ok-shared.shared; classes = c.in_ok-classes.classes })
stored c = record {
  before = c.self.invariant;
  kept = KeepsEach-trans _ _ _ c.position_of.ensures.kept c.position_of-2.ensures.kept;
  lists_differ = c.position_of-2.ensures.differ;
  facts = record {
    head = c.head_of.ensures;
    shared = c.position_of-2.ensures.kept.each _ _ (c.in_ok-shared.ensures.found ∙ ap Some c.as_slice.ensures.labels);
    classes = c.in_ok-classes.ensures.found ∙ ap Some c.as_slice-2.ensures.classes;
  };
  known = subst (λ v. IsKnownWith v.types (facts_of c.args.p.now) c.args.element.0 (term c.args.a.now)) (sym c.self.view_is) c.requires.element;
  well_formed = c.requires.well_formed;
  adds = c.store.ensures.adds;
  differ = c.store.ensures.differ;
}

pub invariant_of-self-2 : goal.invariant_of-self-2
invariant_of-self-2 c = IsPool-stored _ _ _ _ _ _ _ _ _ (stored c)

pub returns-clause-number : goal.returns-clause-number
returns-clause-number c =
    IfOk-weaker c.store.result _ _ (λ id e. number-stored _ _ _ _ _ _ _ _ _ (stored c) id.0 e) c.store.ensures.found

pub returns-clause-grows : goal.returns-clause-grows
returns-clause-grows c =
    subst (λ (v : Content). Grows v (record {
      types = map term c.store.new.types.items;
      packed =
          c.store.new.packed.keys;
      lists = rows c.position_of-2.new.lists.keys;
    })) c.self.view_is
    (Grows-stored _ _ _ _ _ _ _ _ _ (stored c))

pub returns-clause-stands : goal.returns-clause-stands
returns-clause-stands c =
    subst (λ (v : Content). (k : ℕ) → slice_get v.types k ≡ Some (term c.args.a.now) → map term c.store.new.types.items ≡ v.types) c.self.view_is
    (stands-stored _ _ _ _ _ _ _ _ _ (stored c))

pub returns-clause-types_differ : goal.returns-clause-types_differ
returns-clause-types_differ c = types_differ _ (IsPool-stored _ _ _ _ _ _ _ _ _ (stored c))
