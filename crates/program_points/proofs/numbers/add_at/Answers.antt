use Rattle.std.proofs.Common.{◌≡◌, rules, Option, Some, ap, ◌∙◌, ◌++◌, option_to_list}
use Rattle.php_tree.specs.Tree.{Tree}
use Rattle.php_tree.specs.Ids.{node_at}
use Rattle.php_rows.specs.File.{file_in}
use Rattle.php_rows.specs.Reading.{forest_in}
use Rattle.program_points.specs.Numbers.{numbers, behind_all}
use Rattle.program_points.proofs.numbers.add_at.Goals as goal

pub returns-in_ok-behind-in-Some-clause-numbers : goal.returns-in_ok-behind-in-Some-clause-numbers
returns-in_ok-behind-in-Some-clause-numbers c =
    let e : Some (c.in-Some.kind, forest_in c.in-Some.field-0-1) ≡ node_at (file_in c.args.tree.now) c.args.id = search (rules, c.in-Some.ensures.node) in
    c.in_ok-behind-in-Some.ensures.numbers (forest_in c.in-Some.field-0-1)
    ∙ ap (λ (o : Option Tree). c.args.numbers.now.items ++ numbers c.args.first (option_to_list o)) e

pub returns-in_ok-behind-in-Some-clause-behind : goal.returns-in_ok-behind-in-Some-clause-behind
returns-in_ok-behind-in-Some-clause-behind c =
    let e : Some (c.in-Some.kind, forest_in c.in-Some.field-0-1) ≡ node_at (file_in c.args.tree.now) c.args.id = search (rules, c.in-Some.ensures.node) in
    c.in_ok-behind-in-Some.ensures.behind (forest_in c.in-Some.field-0-1)
    ∙ ap (λ (o : Option Tree). behind_all c.args.first (option_to_list o)) e
