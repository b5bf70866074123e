-- The parser says what document the bytes are, and the checks what is refused in it.
use Rattle.std.proofs.Common.{◌≡◌, Err, ap, ◌∙◌}
use Rattle.std.proofs.lemmas.Result.{err_from_is_err_and}
use Rattle.toml.specs.View.{table_view}
use Rattle.rule_tables.proofs.Outcomes.{outcome-no_text, outcome-refused, outcome-free, same-settings}
use Rattle.rule_tables.proofs.settings.Settings.parse.Goals as goal

pub returns-in-Err : goal.returns-in-Err
returns-in-Err c = record { answer = λ free. outcome-no_text c.args.bytes.now c.in-Err.ensures.cases.0 }

pub returns-in_err-check_keys : goal.returns-in_err-check_keys
returns-in_err-check_keys c = record {
  answer = λ free.
      let exit = err_from_is_err_and c.from_residual.result c.from_residual.ensures.1 in
      let answer : c.from_residual.result ≡ Err c.in_err-check_keys.field-0.0 = exit.1 ∙ ap Err exit.2 in
      answer
      ∙ outcome-refused c.args.bytes.now c.in-Ok.text.now (table_view c.in-Ok-table_from_str.document) c.in_err-check_keys.field-0.0 c.in-Ok.ensures.cases.0 c.in-Ok.ensures.cases.1
      c.in-Ok-table_from_str.ensures.ok (c.in_err-check_keys.ensures (λ m. free (answer ∙ ap Err (let same = m in cc))));
}

pub returns : goal.returns
returns c = record {
  answer = λ free.
      outcome-free c.args.bytes.now c.in-Ok.text.now (table_view c.in-Ok-table_from_str.document) _
      c.in-Ok.ensures.cases.0 c.in-Ok.ensures.cases.1 c.in-Ok-table_from_str.ensures.ok
      (c.in_ok-check_keys.ensures (λ m. cc))
      (same-settings _ _ _ _ _ _ c.in_ok-off.ensures c.in_ok-entries.ensures c.in_ok-prepend.ensures);
}
