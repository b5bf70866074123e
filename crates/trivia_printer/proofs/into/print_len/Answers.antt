use Rattle.std.proofs.Common.{ℕ, ◌+◌, List, length, ap, ◌∙◌}
use Rattle.php_tree.specs.declared.token.Token.{Token}
use Rattle.php_tree.specs.Whole.{file}
use Rattle.trivia_printer.proofs.Printed.{end_length}
use Rattle.trivia_printer.proofs.into.print_len.Goals as goal

pub returns : goal.returns
returns c =
    ap (λ (t : Token). t.start + length c.as_slice.result.now) c.end.ensures
    ∙ ap (λ (bytes : List ℕ). (file c.args.tree.now).end.start + length bytes) (c.as_slice.ensures ∙ ap (λ (t : Token). t.text) c.end-2.ensures)
    ∙ end_length (file c.args.tree.now) c.args.tree.now.placed
