use Rattle.php_meaning.proofs.Rows.{braces_echo}
use Rattle.php_meaning.proofs.runs.braces_in_text_echo.Goals as goal

pub returns : goal.returns
returns c = braces_echo
