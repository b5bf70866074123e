-- The first refused entry of a table whose keys ascend is the one at the least key.
use Rattle.std.proofs.Common.{◌≡◌, Err, sym, ap, ◌∙◌}
use Rattle.std.specs.Map.Iter.{deref_pair}
use Rattle.std.proofs.lemmas.Map.Iter.{rest_more, rest_all}
use Rattle.std.proofs.lemmas.Result.{err_from_is_err_and}
use Rattle.rule_tables.specs.KeyTable.{rule_fault}
use Rattle.rule_tables.proofs.FirstRefused.{first-passed, failed-least, passed-least}
use Rattle.rule_tables.proofs.checks.check_rules.Goals as goal

pub loop-name-preserved : goal.loop-name-preserved
loop-name-preserved c =
    let more = rest_more deref_pair c.loop-name.name-iterator c.next.new.self c.next.result (c.in-Some.name, c.in-Some.switch) c.in-Some.is c.next.ensures.steps in
    sym (first-passed rule_fault c.loop-name.name-iterator c.next.new.self (c.in-Some.name.now, c.in-Some.switch.now)
    more (rw c.as_str.ensures.value at c.in_ok-check_rule.ensures))
    ∙ c.loop-name.invariant

pub returns-in_err-check_rule : goal.returns-in_err-check_rule
returns-in_err-check_rule c = λ free.
    let more = rest_more deref_pair c.loop-name.name-iterator c.next.new.self c.next.result (c.in-Some.name, c.in-Some.switch) c.in-Some.is c.next.ensures.steps in
    let exit = err_from_is_err_and c.from_residual.result c.from_residual.ensures.1 in
    let answer : c.from_residual.result ≡ Err c.in_err-check_rule.field-0.0 = exit.1 ∙ ap Err exit.2 in
    let found = c.in_err-check_rule.ensures (λ m. free (answer ∙ m)) in
    answer
    ∙ failed-least rule_fault c.args.rules.now.entries c.loop-name.name-iterator c.next.new.self
    (c.in-Some.name.now, c.in-Some.switch.now) c.in_err-check_rule.field-0.0 c.loop-name.invariant more
    c.into_iter-name-iterator.ensures.into_iter_gives.5 (rw c.as_str.ensures.value at found)

pub returns : goal.returns
returns c = λ free.
    passed-least rule_fault c.args.rules.now.entries c.loop-name.name-iterator c.loop-name.invariant
    (rest_all deref_pair c.loop-name.name-iterator c.next.new.self c.next.result c.in-None.is c.next.ensures.steps)
    c.into_iter-name-iterator.ensures.into_iter_gives.5
