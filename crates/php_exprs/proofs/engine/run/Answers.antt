use Rattle.std.proofs.Common.{◌≡◌, ◌≤◌, ◌<◌, length, take, refl, ap, arith}
use Rattle.php_tree.specs.declared.token.Token.{Token}
use Rattle.std.proofs.Common.{List}
use Rattle.php_terminals.specs.Tokens.{tokens_in}
use Rattle.php_exprs.specs.Built.{behind}
use Rattle.php_exprs.proofs.Grown.{taken}
use Rattle.php_exprs.proofs.Steps.{run_short, run_done}
use Rattle.php_exprs.proofs.engine.run.Goals as goal

pub returns-then-count-len : goal.returns-then-count-len
returns-then-count-len c = λ v limit.
    let e = ap (λ (ts : List Token). length ts) c.rest.ensures.rest in
    let n = c.len.ensures in
    run_short c.args.count (behind (tokens_in c.args.tokens) c.args.row.now) (omega arith)

pub returns-then-count-gt0 : goal.returns-then-count-gt0
returns-then-count-gt0 c = λ v limit.
    let e = ap (λ (ts : List Token). length ts) c.rest.ensures.rest in
    let n = c.len.ensures in
    let le : c.args.count ≤ length (behind (tokens_in c.args.tokens) c.args.row.now) = omega arith in
    run_done v (tokens_in c.args.tokens) (c.args.row.now, c.args.reach.now) (c.leaves.new.self, c.leaf.new.self)
    c.args.count limit le c.requires (c.in_ok-leaves.ensures.grew
    (take c.args.count (behind (tokens_in c.args.tokens) c.args.row.now))
    (taken c.args.count (behind (tokens_in c.args.tokens) c.args.row.now) le)) c.in_ok-leaves.ensures.at
    c.leaf.ensures.deep (λ h. c.leaf.ensures.edge) (λ h. absurd (omega arith))

pub returns-else-count-gt0 : goal.returns-else-count-gt0
returns-else-count-gt0 c = λ v limit.
    let e = ap (λ (ts : List Token). length ts) c.rest.ensures.rest in
    let n = c.len.ensures in
    let le : c.args.count ≤ length (behind (tokens_in c.args.tokens) c.args.row.now) = omega arith in
    run_done v (tokens_in c.args.tokens) (c.args.row.now, c.args.reach.now) (c.leaves.new.self, c.args.reach.now)
    c.args.count limit le c.requires (c.in_ok-leaves.ensures.grew
    (take c.args.count (behind (tokens_in c.args.tokens) c.args.row.now))
    (taken c.args.count (behind (tokens_in c.args.tokens) c.args.row.now) le)) c.in_ok-leaves.ensures.at refl
    (λ h. absurd (omega arith)) (λ h. refl)
