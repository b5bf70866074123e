use Rattle.std.proofs.Common.{subst, slice_get, Some, sym, ap, ◌∙◌}
use Rattle.scalar_types.specs.Pool.{IsPool}
use Rattle.scalar_types.specs.Terms.{term, facts_of}
use Rattle.scalar_types.proofs.TermLemmas.{term-Any, term-known}
use Rattle.scalar_types.proofs.PoolLemmas.{types_differ, element_there}
use Rattle.scalar_types.proofs.pool.Pool.+intern.Goals as goal

pub returns-in-Any-clause-number : goal.returns-in-Any-clause-number
returns-in-Any-clause-number t c =
    let pool = subst IsPool c.self.view_is c.self.invariant in
    pool.any_first ∙ ap Some (sym (term-Any c.args.a.now c.in-Any.is))

pub returns-in-Any-clause-types_differ : goal.returns-in-Any-clause-types_differ
returns-in-Any-clause-types_differ t c = types_differ _ (subst IsPool c.self.view_is c.self.invariant)

pub returns-in_err-element-in-Some-clause-stands :
    goal.returns-in_err-element-in-Some-clause-stands
returns-in_err-element-in-Some-clause-stands t c = λ k there.
    let pool = subst IsPool c.self.view_is c.self.invariant in
    let a = term-known c.args.a.now c.in-Known.p c.in-Some.e c.in-Known.is c.in-Some.is in
    let e = element_there _ pool k (facts_of c.in-Known.p) (term c.in-Some.e.value) (there ∙ ap Some a) in
    c.intern.ensures.stands e.0 (e.1 ∙ ap (λ x. Some (term x)) (sym c.deref.ensures))

pub returns-in_ok-element-in-Some-clause-stands : goal.returns-in_ok-element-in-Some-clause-stands
returns-in_ok-element-in-Some-clause-stands t c = λ k there.
    let pool = subst IsPool c.self.view_is c.self.invariant in
    let a = term-known c.args.a.now c.in-Known.p c.in-Some.e c.in-Known.is c.in-Some.is in
    let e = element_there _ pool k (facts_of c.in-Known.p) (term c.in-Some.e.value) (there ∙ ap Some a) in
    let same = c.intern.ensures.stands e.0 (e.1 ∙ ap (λ x. Some (term x)) (sym c.deref.ensures)) in
    c.intern_parts-in-Some.ensures.stands k (ap (λ l. slice_get l k) same ∙ there) ∙ same
