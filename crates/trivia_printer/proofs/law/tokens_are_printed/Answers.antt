use Rattle.trivia_printer.proofs.Printed.{file_tokens}
use Rattle.trivia_printer.proofs.law.tokens_are_printed.Goals as goal

pub returns : goal.returns
returns c = file_tokens
