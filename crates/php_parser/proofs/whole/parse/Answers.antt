use Rattle.std.proofs.Common.{◌≡◌, List, map, sym, ap, subst, ◌∙◌}
use Rattle.std.proofs.lemmas.Result.{err_from_is_err_and}
use Rattle.php_tree.specs.declared.token.Token.{Token}
use Rattle.php_tree.specs.Tree.{File}
use Rattle.php_terminals.specs.Marked.{in_place, token_at}
use Rattle.php_terminals.proofs.MarksMade.{placed_is}
use Rattle.php_rows.specs.File.{file_in}
use Rattle.php_parser.specs.Files.{ReadsFile}
use Rattle.php_parser.proofs.Files.{placed_for, reads_for, tree_answers}
use Rattle.php_parser.proofs.Nodes.{nodes_of_walk}
use Rattle.php_parser.proofs.whole.parse.Goals as goal

pub parse_marks-requires-clause-placed : goal.parse_marks-requires-clause-placed
parse_marks-requires-clause-placed c =
    let ts = c.args.tokens.items in
    let is = c.in_ok-bytes.ensures.tokens ∙ ap (in_place 0) c.as_slice.ensures.value ∙ placed_is 0 ts c.requires in
    placed_for ts (map (token_at c.in_ok-bytes.bytes.items) c.in_ok-bytes.marks.items) (sym is) c.requires

pub returns-in_err-tree-clause-only : goal.returns-in_err-tree-clause-only
returns-in_err-tree-clause-only c f q =
    let p = err_from_is_err_and c.from_residual-in_err-tree.result c.from_residual-in_err-tree.ensures.1 in
    let ts = c.args.tokens.items in
    let is = c.in_ok-bytes.ensures.tokens ∙ ap (in_place 0) c.as_slice.ensures.value ∙ placed_is 0 ts c.requires in
    let us = map (token_at c.in_ok-bytes.bytes.items) c.in_ok-bytes.marks.items in
    rw (p.1, p.2) (tree_answers c.in_err-tree.field-0.0 f (c.in_err-tree.ensures.only f (reads_for c.args.version us ts f is q)))

pub file_with-requires-clause-leaves : goal.file_with-requires-clause-leaves
file_with-requires-clause-leaves c =
    let ts = c.args.tokens.items in
    let is = c.in_ok-bytes.ensures.tokens ∙ ap (in_place 0) c.as_slice.ensures.value ∙ placed_is 0 ts c.requires in
    c.as_slice-2.ensures.value ∙ sym is ∙ c.in_ok-tree.ensures.found.text

pub file_with-requires-clause-nodes : goal.file_with-requires-clause-nodes
file_with-requires-clause-nodes c = nodes_of_walk c.args.version c.in_ok-tree.ensures.found.walks

pub returns-clause-found : goal.returns-clause-found
returns-clause-found c =
    let ts = c.args.tokens.items in
    let is = c.in_ok-bytes.ensures.tokens ∙ ap (in_place 0) c.as_slice.ensures.value ∙ placed_is 0 ts c.requires in
    let reads = subst (λ (xs : List Token). ReadsFile c.args.version xs (file_in c.in_ok-tree.tree)) is c.in_ok-tree.ensures.found in
    subst (λ (f : File). ReadsFile c.args.version ts f) (sym c.in_ok-file_with.ensures.file) reads

pub returns-clause-only : goal.returns-clause-only
returns-clause-only c f q =
    let ts = c.args.tokens.items in
    let is = c.in_ok-bytes.ensures.tokens ∙ ap (in_place 0) c.as_slice.ensures.value ∙ placed_is 0 ts c.requires in
    let us = map (token_at c.in_ok-bytes.bytes.items) c.in_ok-bytes.marks.items in
    c.in_ok-file_with.ensures.file ∙ c.in_ok-tree.ensures.only f (reads_for c.args.version us ts f is q)
