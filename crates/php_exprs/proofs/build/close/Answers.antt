use Rattle.std.proofs.Common.{◌≡◌, ◌+◌, ℕ, refl, sym, ap, ◌∙◌, arith}
use Rattle.php_tree.specs.declared.kind.NodeKind.{NodeKind}
use Rattle.php_tree.specs.Tree.{Forest, Tree}
use Rattle.php_terminals.specs.Indents.{is_misindented}
use Rattle.php_terminals.specs.Tokens.{tokens_in}
use Rattle.php_grammar.specs.Edges.{edge, edge_from}
use Rattle.php_exprs.specs.Built.{behind}
use Rattle.php_exprs.proofs.Grown.{inner_of, opened_below}
use Rattle.php_exprs.proofs.build.close.Goals as goal

pub close-requires : goal.close-requires
close-requires c = opened_below c.requires.ready.0 c.args.row.now c.args.from c.requires.ready.1.0 c.requires.ready.1.1.opened

pub inner-parts-requires : goal.inner-parts-requires
inner-parts-requires c =
    let r = c.requires.ready in
    let f = r.1.0 in (
      r.0,
      (
        c.args.kind,
        (
          f,
          (
            behind (tokens_in c.args.tokens) c.args.row.now,
            inner_of c.args.version c.args.tokens r.0 c.args.row.now c.close.new.self c.args.from c.args.reach c.args.kind
                f r.1.1 c.close.ensures.at (c.in_ok-close.ensures.grew r.0 f r.1.1.opened),
          ),
        ),
      ),
    )

pub edge-own-requires : goal.edge-own-requires
edge-own-requires c =
    let r = c.requires.ready in
    let f = r.1.0 in
    let i = inner_of c.args.version c.args.tokens r.0 c.args.row.now c.close.new.self c.args.from c.args.reach
    c.args.kind f r.1.1 c.close.ensures.at (c.in_ok-close.ensures.grew r.0 f r.1.1.opened) in
    r.1.1.edge ∙ ap (edge_from c.args.version 0) (sym (c.inner-parts.ensures r.0 c.args.kind f (behind (tokens_in c.args.tokens) c.args.row.now) i))
