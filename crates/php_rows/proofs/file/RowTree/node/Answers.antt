use Rattle.std.proofs.Common.{◌≡◌, ◌≤◌, ◌-◌, ◌<◌, ◌+◌, suc, ◌∷◌, drop, length, map, arith, refl, ap, sym, ◌∙◌, subst, List, ◌^◌}
use Rattle.std.proofs.lemmas.List.{length-map}
use Rattle.php_tree.specs.declared.token.Token.{Token}
use Rattle.php_tree.specs.Tree.{Tree}
use Rattle.php_terminals.specs.Marked.{token_at}
use Rattle.php_terminals.specs.Tokens.{tokens_in}
use Rattle.php_rows.specs.declared.flat.Flat.{Flat}
use Rattle.php_rows.specs.File.{file_in, tokens_of}
use Rattle.php_rows.specs.Flatten.{read}
use Rattle.php_rows.proofs.Whole.{NodeFound, node_found, no_node, same_length}
use Rattle.php_rows.proofs.file.RowTree.node.Goals as goal

pub returns-then-id-nodes-clause-node : goal.returns-then-id-nodes-clause-node
returns-then-id-nodes-clause-node c =
    let r = c.args.self.now in
    let l = ap length c.as_slice-nodes.ensures.value in
    sym (no_node r.nodes.items (length r.marks.items - 1) (tokens_of r) c.args.id r.nested (omega arith))

pub parts_at-requires : goal.parts_at-requires
parts_at-requires c =
    let r = c.args.self.now in
    let ns = r.nodes.items in
    let x = c.at.result.0 in
    let xs = c.at.result.1.now in
    let o = node_found ns xs (length r.marks.items - 1) (tokens_of r) (file_in r).end c.args.id x r.nested
    (ap (drop c.args.id) (sym c.as_slice-nodes.ensures.value) ∙ c.at.ensures) in
    let m = same_length c.tokens.result.bytes.now r.bytes.items c.tokens.result.marks.now r.marks.items c.tokens.ensures.tokens in
    let late = o.late in
    let n = o.numbers in
    let few = r.few in
    let ended = r.ended in
    record {
      few = o.few;
      nested = o.nested;
      within = omega arith;
      numbers = omega arith;
    }

pub returns-clause-node : goal.returns-clause-node
returns-clause-node c =
    let r = c.args.self.now in
    let ns = r.nodes.items in
    let x = c.at.result.0 in
    let xs = c.at.result.1.now in
    let o = node_found ns xs (length r.marks.items - 1) (tokens_of r) (file_in r).end c.args.id x r.nested
    (ap (drop c.args.id) (sym c.as_slice-nodes.ensures.value) ∙ c.at.ensures) in
    rw (c.parts_at.ensures.parts, c.tokens.ensures.tokens) (sym o.node)
