use Rattle.std.proofs.Common.{◌≡◌, ◌≤◌, ◌+◌, ◌-◌, ◌^◌, ℕ, suc, true, List, ◌∷◌, length, take, drop, refl, sym, ap, ◌∙◌, subst, arith}
use Rattle.php_terminals.specs.Tokens.{tokens_in}
use Rattle.php_rows.specs.declared.flat.Flat.{Flat}
use Rattle.php_rows.proofs.LastNode.{some_node, last_node, inner_few, inner_fits, inner_within, inner_read}
use Rattle.php_rows.proofs.row.Row.inner.Goals as goal

pub at-requires : goal.at-requires
at-requires c =
    let i = c.requires.1.1.1.1 in
    let s = some_node c.requires.0 c.args.self.now c.args.from c.requires.1.0 c.requires.1.1.0 i.grew i.place in
    let e = ap length c.nodes.ensures in
    omega arith

pub parts_at-requires : goal.parts_at-requires
parts_at-requires c =
    let i = c.requires.1.1.1.1 in
    let before = c.requires.0 in
    let k = c.requires.1.0 in
    let f = c.requires.1.1.0 in
    let x = c.at.result.0 in
    let xs = c.at.result.1.now in
    let l = last_node before c.args.self.now c.args.from k f x xs i.grew i.place (ap (drop c.args.from) (sym c.nodes.ensures) ∙ c.at.ensures) in
    record {
      few = inner_few before.at k f x xs l.0 l.1;
      nested = inner_fits before.at k f x xs l.0 l.1;
      within = inner_within before c.args.self.now c.args.from k f x (length c.args.tokens.marks.now) i.grew l.0 i.within;
      numbers = omega arith;
    }

pub returns : goal.returns
returns c = λ before k f rest i.
    let x = c.at.result.0 in
    let xs = c.at.result.1.now in
    let l = last_node before c.args.self.now c.args.from k f x xs i.grew i.place (ap (drop c.args.from) (sym c.nodes.ensures) ∙ c.at.ensures) in
    c.parts_at.ensures.parts ∙ inner_read before.at k f x xs (tokens_in c.args.tokens) rest l.0 l.1 i.text
