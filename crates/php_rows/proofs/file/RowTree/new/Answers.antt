use Rattle.std.proofs.Common.{rules, ◌≡◌, ◌≤◌, ◌-◌, ◌<◌, length, map, arith, ap, sym, ◌∙◌}
use Rattle.std.proofs.lemmas.List.{length-map}
use Rattle.php_tree.specs.Tree.{depth}
use Rattle.php_tree.proofs.Placed.{placed_test}
use Rattle.php_terminals.specs.Marked.{token_at}
use Rattle.php_rows.proofs.Whole.{whole_all, whole_ends, whole_some, same_file}
use Rattle.php_rows.proofs.file.RowTree.new.Goals as goal

pub invariant_of-result : goal.invariant_of-result
invariant_of-result c =
    let bytes = c.args.bytes.items in
    let ms = c.args.marks.items in
    let f = c.requires.whole.0 in
    let last = c.requires.whole.1.0 in
    let w = c.requires.whole.1.1 in
    let e = ap (λ v. v.items) c.into_nodes.ensures in
    let a = whole_all bytes ms c.args.row c.into_nodes.result.items c.args.deep f last e w in
    let s = whole_some (map (token_at bytes) ms) c.args.row c.args.deep f last w in
    let m = length-map ms (token_at bytes) in
    let n = ap length e in
    let few = c.requires.few in
    record {
      marked = c.requires.marked;
      ended = omega arith;
      small = c.requires.small;
      placed = placed_test 0 (map (token_at bytes) ms) c.requires.placed;
      few = omega arith;
      nested = a.0;
      deep_is = w.deep ∙ ap depth (sym a.1);
    }

pub returns-clause-file : goal.returns-clause-file
returns-clause-file c = λ f last w.
    let bytes = c.args.bytes.items in
    let ms = c.args.marks.items in
    let e = ap (λ v. v.items) c.into_nodes.ensures in
    let a = whole_all bytes ms c.args.row c.into_nodes.result.items c.args.deep f last e w in
    same_file _ f _ last a.1 (whole_ends bytes ms c.args.row c.args.deep f last w)
