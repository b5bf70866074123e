use Rattle.php_lexer.proofs.lexer.stepped.Goals as goal

pub returns : goal.returns
returns c = record {
  mode_step = c.mode_step_of-mode_step.result;
  seen = c.mode_step_of-mode_step.ensures;
  after = c.in_ok-behind.ensures;
  noted = c.in_ok-note.ensures;
}
