use Rattle.std.proofs.Common.{◌≡◌, ◌<◌, ◌≤◌, ◌+◌, ℕ, List, [], length, Ok, Err, refl, sym, ap, ◌∙◌, subst, arith}
use Rattle.std.proofs.lemmas.Grind.{common_steps}
use Rattle.std.proofs.lemmas.Result.{err_from_is_err_and}
use Rattle.php_terminals.specs.Tokens.{tokens_in}
use Rattle.php_forms.specs.declared.item.Group.TheVariants.{Statements}
use Rattle.php_forms.specs.declared.item.Sort.TheVariants.{Statement}
use Rattle.php_grammar.specs.Tables.{php, parts}
use Rattle.php_exprs.specs.Built.{State, behind}
use Rattle.php_exprs.specs.Parsing.{Read}
use Rattle.php_tree.specs.declared.token.Token.{Token}
use Rattle.php_tree.specs.Tree.{Forest}
use Rattle.php_exprs.specs.Parsed.{Extends, inner_at, node_at}
use Rattle.php_exprs.proofs.Steps.{child_extends, child_fails, repeated_first, repeated_ends, repeated_breaks, repeated_on, stays_none}
use Rattle.php_exprs.proofs.StatementLemmas.{one_statement}
use Rattle.php_exprs.proofs.statements.statements.Goals as goal

pub repeats-init : goal.repeats-init
repeats-init c = repeated_first c.args.version (tokens_in c.args.tokens) c.args.limit 7 Statements (c.args.row.now, c.args.reach.now) c.requires.within

pub returns-then-is_empty : goal.returns-then-is_empty
returns-then-is_empty c =
    let e : parts c.args.version Statements (tokens_in c.rest.result) ≡ [] = grind (arith, common_steps) in
    repeated_ends c.args.version (tokens_in c.args.tokens) c.args.limit 7 Statements (c.args.row.now, c.args.reach.now)
    (c.repeats.row, c.repeats.reach) (ap (parts c.args.version Statements) (sym c.rest.ensures.rest) ∙ e)
    c.repeats.invariant

pub returns-in_err-closed : goal.returns-in_err-closed
returns-in_err-closed c =
    let p = err_from_is_err_and c.from_residual.result c.from_residual.ensures.1 in
    let all = tokens_in c.args.tokens in
    let mid : State = (c.repeats.row, c.repeats.reach) in
    let new : State = (c.node.new.row, c.repeats.reach) in
    let some : 0 < length (parts c.args.version Statements (tokens_in c.rest.result)) = grind (arith, common_steps) in
    let has = subst (λ (ts : List Token). 0 < length (parts c.args.version Statements ts)) c.rest.ensures.rest some in
    let ts = behind all c.repeats.row in
    let x = subst (λ (o : Read Forest). Extends (Err c.in_err-closed.field-0.0) c.args.version all mid new
    c.args.limit o) (sym (one_statement c.args.version c.args.limit ts has))
    (child_fails c.args.version all c.in_err-closed.field-0.0 mid new c.args.limit
    (node_at (php c.args.version) c.args.limit Statement ts) c.in_err-closed.ensures) in
    rw (p.1, p.2) (repeated_breaks c.args.version all c.args.limit 7 Statements (c.args.row.now, c.args.reach.now) mid new c.in_err-closed.field-0.0 has x c.repeats.invariant)

pub returns-then-at-before : goal.returns-then-at-before
returns-then-at-before c =
    let all = tokens_in c.args.tokens in
    let mid : State = (c.repeats.row, c.repeats.reach) in
    let new : State = (c.node.new.row, c.child.new.self) in
    let some : 0 < length (parts c.args.version Statements (tokens_in c.rest.result)) = grind (arith, common_steps) in
    let has = subst (λ (ts : List Token). 0 < length (parts c.args.version Statements ts)) c.rest.ensures.rest some in
    let ts = behind all c.repeats.row in
    let x = subst (λ (o : Read Forest). Extends (Ok tt) c.args.version all mid new c.args.limit o)
    (sym (one_statement c.args.version c.args.limit ts has))
    (child_extends c.args.version all c.in_ok-closed.closed mid new c.args.limit
    (node_at (php c.args.version) c.args.limit Statement ts) c.in_ok-closed.ensures c.child.ensures.deep
    c.child.ensures.edge) in
    stays_none c.args.version all c.args.limit 7 Statements (c.args.row.now, c.args.reach.now) mid new _ has refl x (omega arith) c.repeats.invariant

pub repeats-preserved : goal.repeats-preserved
repeats-preserved c =
    let all = tokens_in c.args.tokens in
    let mid : State = (c.repeats.row, c.repeats.reach) in
    let new : State = (c.node.new.row, c.child.new.self) in
    let some : 0 < length (parts c.args.version Statements (tokens_in c.rest.result)) = grind (arith, common_steps) in
    let has = subst (λ (ts : List Token). 0 < length (parts c.args.version Statements ts)) c.rest.ensures.rest some in
    let ts = behind all c.repeats.row in
    let x = subst (λ (o : Read Forest). Extends (Ok tt) c.args.version all mid new c.args.limit o)
    (sym (one_statement c.args.version c.args.limit ts has))
    (child_extends c.args.version all c.in_ok-closed.closed mid new c.args.limit
    (node_at (php c.args.version) c.args.limit Statement ts) c.in_ok-closed.ensures c.child.ensures.deep
    c.child.ensures.edge) in
    repeated_on c.args.version all c.args.limit 7 Statements (c.args.row.now, c.args.reach.now) mid new has x (omega arith) c.repeats.invariant
