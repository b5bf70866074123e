-- The first refused entry of a table whose keys ascend is the one at the least key.
use Rattle.std.proofs.Common.{◌≡◌, Err, sym, ap, ◌∙◌}
use Rattle.std.specs.Map.Iter.{deref_pair}
use Rattle.std.proofs.lemmas.Map.Iter.{rest_more, rest_all}
use Rattle.std.proofs.lemmas.Result.{err_from_is_err_and}
use Rattle.rule_tables.specs.KeyTable.{key_fault}
use Rattle.rule_tables.proofs.FirstRefused.{first-passed, failed-least, passed-least}
use Rattle.rule_tables.proofs.checks.check_keys.Goals as goal

pub loop-key-preserved : goal.loop-key-preserved
loop-key-preserved c =
    let more = rest_more deref_pair c.loop-key.key-iterator c.next.new.self c.next.result (c.in-Some.key, c.in-Some.value) c.in-Some.is c.next.ensures.steps in
    sym (first-passed key_fault c.loop-key.key-iterator c.next.new.self (c.in-Some.key.now, c.in-Some.value.now) more (rw c.as_str.ensures.value at c.in_ok-check_key.ensures))
    ∙ c.loop-key.invariant

pub returns-in_err-check_key : goal.returns-in_err-check_key
returns-in_err-check_key c = λ free.
    let more = rest_more deref_pair c.loop-key.key-iterator c.next.new.self c.next.result (c.in-Some.key, c.in-Some.value) c.in-Some.is c.next.ensures.steps in
    let exit = err_from_is_err_and c.from_residual.result c.from_residual.ensures.1 in
    let answer : c.from_residual.result ≡ Err c.in_err-check_key.field-0.0 = exit.1 ∙ ap Err exit.2 in
    let found = c.in_err-check_key.ensures (λ m. free (answer ∙ m)) in
    answer
    ∙ failed-least key_fault c.args.document.now.entries c.loop-key.key-iterator c.next.new.self
    (c.in-Some.key.now, c.in-Some.value.now) c.in_err-check_key.field-0.0 c.loop-key.invariant more
    c.into_iter-key-iterator.ensures.into_iter_gives.5 (rw c.as_str.ensures.value at found)

pub returns : goal.returns
returns c = λ free.
    passed-least key_fault c.args.document.now.entries c.loop-key.key-iterator c.loop-key.invariant
    (rest_all deref_pair c.loop-key.key-iterator c.next.new.self c.next.result c.in-None.is c.next.ensures.steps)
    c.into_iter-key-iterator.ensures.into_iter_gives.5
