use Rattle.written_tokens.proofs.texts.HeredocLines.{heredoc_lines_stay}
use Rattle.written_tokens.proofs.text_laws.heredoc_lines_stay.Goals as goal

pub returns : goal.returns
returns c = heredoc_lines_stay
