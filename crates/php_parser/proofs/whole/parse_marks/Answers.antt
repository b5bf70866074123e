use Rattle.std.proofs.Common.{◌≡◌, map, sym, subst, ◌∙◌}
use Rattle.php_tree.specs.Tree.{File}
use Rattle.php_terminals.specs.Marked.{token_at}
use Rattle.php_terminals.specs.Tokens.{tokens_in}
use Rattle.php_exprs.proofs.Exprs.{tokens_are}
use Rattle.php_parser.specs.Files.{ReadsFile}
use Rattle.php_parser.proofs.Files.{whole_for}
use Rattle.php_parser.proofs.whole.parse_marks.Goals as goal

pub returns-clause-found : goal.returns-clause-found
returns-clause-found c =
    let ts = map (token_at c.args.bytes.items) c.args.marks.items in
    let e = tokens_are c.new.result c.args.bytes.items c.args.marks.items (c.new.ensures.bytes ∙ c.as_slice.ensures.value) (c.new.ensures.marks ∙ c.as_slice-2.ensures.value) in
    let w = whole_for c.args.version (tokens_in c.new.result) ts c.in_ok-row.row c.in_ok-row.deep e c.in_ok-row.ensures.found in
    subst (λ (f : File). ReadsFile c.args.version ts f) (sym (c.new-2.ensures.file w.0.statements w.0.end w.1.1)) w.1.0
