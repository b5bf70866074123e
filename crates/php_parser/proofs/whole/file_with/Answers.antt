use Rattle.std.proofs.Common.{◌≡◌, ◌+◌, ◌-◌, ◌<◌, ◌^◌, [], ◌∷◌, ◌++◌, List, length, refl, sym, ap, subst, ◌∙◌, arith}
use Rattle.php_tree.specs.declared.token.Token.{Token}
use Rattle.php_tree.specs.Tree.{Forest, File, count, leaves, nodes_forest}
use Rattle.php_rows.specs.File.{file_in, tokens_of}
use Rattle.php_rows.specs.Nodes.{with_tokens}
use Rattle.php_rows.proofs.Fitting.{count_read}
use Rattle.php_parser.proofs.Files.{file_of, front_is, last_is, placed_for, same_file, statements_are}
use Rattle.php_parser.proofs.whole.file_with.Goals as goal

pub new-requires-clause-few : goal.new-requires-clause-few
new-requires-clause-few c =
    let r = c.args.tree.now in
    let f = file_in r in
    let front = c.split_at.result.0.now in
    let st = statements_are f front (nodes_forest c.in_ok-statements.statements)
    (front_is c.args.tokens.now front (length c.args.tokens.now - 1) f c.requires.leaves refl
    c.split_at.ensures.front) (c.in_ok-statements.ensures
    ∙ ap (λ (g : Forest). with_tokens g front) c.statements.ensures.parts) in
    let many = ap count st ∙ count_read (length r.nodes.items) 0 (length r.marks.items - 1) r.nodes.items (tokens_of r) r.nested in
    let few = r.few in
    omega arith

pub new-requires-clause-placed : goal.new-requires-clause-placed
new-requires-clause-placed c =
    let f = file_in c.args.tree.now in
    let ts = c.args.tokens.now in
    let front = c.split_at.result.0.now in
    let st = statements_are f front (nodes_forest c.in_ok-statements.statements)
    (front_is ts front (length ts - 1) f c.requires.leaves refl c.split_at.ensures.front)
    (c.in_ok-statements.ensures ∙ ap (λ (g : Forest). with_tokens g front) c.statements.ensures.parts) in
    let end = c.in_ok-end.ensures ∙ last_is ts (length ts - 1) f c.index-tokens-last.result c.requires.leaves refl c.index-tokens-last.is in
    let whole = c.requires.leaves ∙ ap (λ (g : Forest). leaves g ++ f.end ∷ []) (sym st)
    ∙ ap (λ (t : Token). leaves (nodes_forest c.in_ok-statements.statements) ++ t ∷ []) (sym end) in
    placed_for ts _ whole c.requires.placed

pub returns-clause-file : goal.returns-clause-file
returns-clause-file c =
    let f = file_in c.args.tree.now in
    let ts = c.args.tokens.now in
    let front = c.split_at.result.0.now in
    let st = statements_are f front (nodes_forest c.in_ok-statements.statements)
    (front_is ts front (length ts - 1) f c.requires.leaves refl c.split_at.ensures.front)
    (c.in_ok-statements.ensures ∙ ap (λ (g : Forest). with_tokens g front) c.statements.ensures.parts) in
    let end = c.in_ok-end.ensures ∙ last_is ts (length ts - 1) f c.index-tokens-last.result c.requires.leaves refl c.index-tokens-last.is in
    same_file f _ _ (c.new.ensures.statements ∙ st) (c.new.ensures.end ∙ end)
