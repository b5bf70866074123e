use Rattle.std.proofs.Common.{ℕ, List, ap, ◌∙◌}
use Rattle.php_terminals.specs.Marked.{token_at}
use Rattle.php_rows.specs.File.{file_in}
use Rattle.php_rows.specs.Reading.{forest_in}
use Rattle.syntax_upgrade.specs.Words.{seen}
use Rattle.syntax_upgrade.proofs.FileSteps.{file_steps, label_steps, off_steps}
use Rattle.syntax_upgrade.proofs.whole.walk_file.Goals as goal

pub returns-clause-written : goal.returns-clause-written
returns-clause-written c =
    file_steps c.args.rules (file_in c.args.tree.now) (forest_in c.statements.result) (seen c.word_at-last.result)
    c.new.result c.walk_parts.new.walk.writer c.end_token.new.writer c.statements.ensures.parts
    (c.word_at-last.ensures ∙ ap (λ (bs : List ℕ). token_at bs c.end.result) c.bytes.ensures ∙ c.end.ensures.end)
    c.new.ensures c.in_ok-place.ensures.written c.in_ok-end_token.ensures

pub returns-clause-labels : goal.returns-clause-labels
returns-clause-labels c =
    label_steps (file_in c.args.tree.now) (forest_in c.statements.result) (seen c.word_at-last.result) c.in_ok-place.place
    c.new-3.result c.walk_parts.new.walk.labels c.step.new.self c.statements.ensures.parts
    (c.word_at-last.ensures ∙ ap (λ (bs : List ℕ). token_at bs c.end.result) c.bytes.ensures ∙ c.end.ensures.end)
    c.new-3.ensures c.in_ok-place.ensures.end c.in_ok-place.ensures.labels c.in_ok-step.ensures

pub returns-clause-off : goal.returns-clause-off
returns-clause-off c =
    off_steps c.args.rules (file_in c.args.tree.now) (forest_in c.statements.result) (seen c.word_at-last.result) c.in_ok-place.place
    c.new-4.result c.walk_parts.new.walk.off c.trivia.new.self c.statements.ensures.parts
    (c.word_at-last.ensures ∙ ap (λ (bs : List ℕ). token_at bs c.end.result) c.bytes.ensures ∙ c.end.ensures.end)
    c.new-4.ensures c.in_ok-place.ensures.end c.in_ok-place.ensures.off c.in_ok-trivia.ensures
