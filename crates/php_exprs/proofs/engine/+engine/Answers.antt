use Rattle.std.proofs.Common.{
  ◌≡◌,
  ℕ,
  ◌+◌,
  ◌-◌,
  ◌<◌,
  ◌≤◌,
  max,
  List,
  [],
  ◌∷◌,
  drop,
  get_or,
  Option,
  Some,
  None,
  Ok,
  Err,
  length,
  refl,
  sym,
  ap,
  ◌∙◌,
  subst,
  arith,
  rules,
  drop-cons,
  add-one,
}
use Rattle.std.proofs.lemmas.Grind.{common_steps}
use Rattle.std.proofs.lemmas.Result.{err_from_is_err_and}
use Rattle.php_tree.specs.Tree.{depth, Forest, Tree, node, none}
use Rattle.php_terminals.specs.Tokens.{tokens_in}
use Rattle.php_terminals.specs.Ahead.{spanned}
use Rattle.php_grammar.specs.Tables.{php, parts, form}
use Rattle.php_exprs.specs.Built.{State, behind}
use Rattle.php_exprs.specs.Parsed.{item_at, run_read, inner_at, node_at, Extends, Walked}
use Rattle.php_tree.specs.declared.token.Token.{Token}
use Rattle.php_tree.specs.declared.version.Version.{Version}
use Rattle.php_forms.specs.declared.item.Sort.{Sort}
use Rattle.php_forms.specs.Grammar.{Form}
use Rattle.php_exprs.specs.declared.build.Closed.{Closed}
use Rattle.php_forms.specs.declared.item.Item.{Item}
use Rattle.php_exprs.proofs.Steps.{
  child_extends,
  child_fails,
  walked_first,
  walked_more,
  walked_fails,
  walked_ends,
  repeated_first,
  repeated_ends,
  inner_none,
  inner_is,
  node_none,
  node_no_form,
  node_fails,
  node_grows,
  opened_ready,
  extends_ready,
  grow_ends,
  grow_deep,
  grow_fails,
  grow_goes,
  extends_deep,
  extends_high,
  extends_within,
  drop_past,
  stays_none,
  repeated_breaks,
  repeated_on,
  fewer,
  tail_with,
}
use Rattle.php_exprs.proofs.Grown.{closed_node}
use Rattle.php_exprs.proofs.engine.+engine.Goals as goal

first_deep : (d a b : ℕ) → a ≡ 0 → b ≡ max a d → b ≡ d
first_deep d a b z e = omega arith

tail_here : (v : Version) (s : Sort) (c : Closed) (ts us : List Token) (r : Option Form) → us ≡ ts → tail_with v s c us ≡ r → tail_with v s c ts ≡ r
tail_here v s c ts us r e h = subst (λ (xs : List Token). tail_with v s c xs ≡ r) e h

-- ---- items

pub items-loop-item-init : goal.items-loop-item-init
items-loop-item-init t c = walked_first c.args.version (tokens_in c.args.tokens) c.args.limit c.args.nesting c.args.form.now (c.args.row.now, c.args.reach.now) c.requires.within

pub items-returns-in_err-one_item : goal.items-returns-in_err-one_item
items-returns-in_err-one_item t c =
    let p = err_from_is_err_and c.from_residual.result c.from_residual.ensures.1 in
    let form = c.args.form.now in
    let i = c.loop-item.item-index in
    let all = tokens_in c.args.tokens in
    let old : State = (c.args.row.now, c.args.reach.now) in
    let mid : State = (c.loop-item.row, c.loop-item.reach) in
    let here : drop i form ≡ get_or form i _ ∷ drop (i + 1) form = rw add-one (drop-cons form i _ c.loop-item-test.true) in
    rw (p.1, p.2) (walked_fails c.args.version all c.args.limit c.args.nesting form (drop (i + 1) form) _ old mid
    (c.one_item.new.row, c.one_item.new.reach) c.in_err-one_item.field-0.0 c.in_err-one_item.ensures
    (subst (λ (is : List Item). Walked c.args.version all c.args.limit c.args.nesting form is old mid) here
    c.loop-item.invariant))

pub items-loop-item-preserved : goal.items-loop-item-preserved
items-loop-item-preserved t c =
    let form = c.args.form.now in
    let i = c.loop-item.item-index in
    let all = tokens_in c.args.tokens in
    let old : State = (c.args.row.now, c.args.reach.now) in
    let mid : State = (c.loop-item.row, c.loop-item.reach) in
    let here : drop i form ≡ get_or form i _ ∷ drop (i + 1) form = rw add-one (drop-cons form i _ c.loop-item-test.true) in
    walked_more c.args.version all c.args.limit c.args.nesting form (drop (i + 1) form) _ old mid
    (c.one_item.new.row, c.one_item.new.reach) _ refl c.in_ok-one_item.ensures
    (subst (λ (is : List Item). Walked c.args.version all c.args.limit c.args.nesting form is old mid) here
    c.loop-item.invariant)

pub items-returns : goal.items-returns
items-returns t c =
    let all = tokens_in c.args.tokens in
    let old : State = (c.args.row.now, c.args.reach.now) in
    let mid : State = (c.loop-item.row, c.loop-item.reach) in
    let done : drop c.loop-item.item-index c.args.form.now ≡ [] = drop_past c.args.form.now c.loop-item.item-index c.loop-item-test.false in
    walked_ends c.args.version all c.args.limit c.args.nesting c.args.form.now old mid
    (subst (λ (is : List Item). Walked c.args.version all c.args.limit c.args.nesting c.args.form.now is old mid)
    done c.loop-item.invariant)

pub one_item-returns-in-Word : goal.one_item-returns-in-Word
unfolding item_at
one_item-returns-in-Word t c = rw c.in-Word.is (c.word.ensures c.args.limit)

pub one_item-returns-in-Part : goal.one_item-returns-in-Part
unfolding item_at
one_item-returns-in-Part t c =
    let all = tokens_in c.args.tokens in
    let is = c.parts_of-form.ensures ∙ ap (parts c.args.version c.in-Part.group) c.rest.ensures.rest in
    rw c.in-Part.is (subst (λ (js : List Item). Extends c.inner.result c.args.version all
    (c.args.row.now, c.args.reach.now) (c.inner.new.row, c.inner.new.reach) c.args.limit
    (inner_at (php c.args.version) c.args.limit c.args.nesting js (behind all c.args.row.now))) is
    c.inner.ensures)

pub one_item-returns-in-Repeats : goal.one_item-returns-in-Repeats
unfolding item_at
one_item-returns-in-Repeats t c = rw c.in-Repeats.is c.repeats.ensures

pub one_item-returns-in-Span : goal.one_item-returns-in-Span
unfolding item_at run_read
one_item-returns-in-Span t c =
    let all = tokens_in c.args.tokens in
    let is = c.spanned.ensures ∙ ap (spanned 0) c.rest-in-Span.ensures.rest in
    rw c.in-Span.is (subst (λ (n : ℕ). Extends c.run.result c.args.version all (c.args.row.now, c.args.reach.now)
    (c.run.new.row, c.run.new.reach) c.args.limit (run_read n (behind all c.args.row.now))) is
    (c.run.ensures c.args.version c.args.limit))

pub one_item-returns-in_err-closed-in-Node : goal.one_item-returns-in_err-closed-in-Node
unfolding item_at
one_item-returns-in_err-closed-in-Node t c =
    let p = err_from_is_err_and c.from_residual.result c.from_residual.ensures.1 in
    rw (p.1, p.2, c.in-Node.is) (child_fails c.args.version (tokens_in c.args.tokens)
    c.in_err-closed-in-Node.field-0.0 (c.args.row.now, c.args.reach.now) (c.node.new.row, c.args.reach.now)
    c.args.limit _ c.in_err-closed-in-Node.ensures)

pub one_item-returns-in_ok-closed-in-Node : goal.one_item-returns-in_ok-closed-in-Node
unfolding item_at
one_item-returns-in_ok-closed-in-Node t c =
    rw c.in-Node.is (child_extends c.args.version (tokens_in c.args.tokens) c.in_ok-closed-in-Node.closed
    (c.args.row.now, c.args.reach.now) (c.node.new.row, c.child.new.self) c.args.limit _
    c.in_ok-closed-in-Node.ensures c.child.ensures.deep c.child.ensures.edge)

-- ---- groups

pub inner-returns-then-nesting-eq0 : goal.inner-returns-then-nesting-eq0
inner-returns-then-nesting-eq0 t c = inner_none (php c.args.version) c.args.limit c.args.nesting c.args.form.now (behind (tokens_in c.args.tokens) c.args.row.now) (omega arith)

pub inner-returns : goal.inner-returns
inner-returns t c = rw (inner_is (php c.args.version) c.args.limit c.args.nesting (c.args.nesting - 1) c.args.form.now
    (behind (tokens_in c.args.tokens) c.args.row.now) (omega arith)) c.items.ensures

pub repeats-loop-form-init : goal.repeats-loop-form-init
repeats-loop-form-init t c = repeated_first c.args.version (tokens_in c.args.tokens) c.args.limit c.args.nesting c.args.group (c.args.row.now, c.args.reach.now) c.requires.within

pub repeats-returns-then-is_empty : goal.repeats-returns-then-is_empty
repeats-returns-then-is_empty t c =
    let e : parts c.args.version c.args.group (tokens_in c.rest.result) ≡ [] = grind (arith, common_steps) in
    repeated_ends c.args.version (tokens_in c.args.tokens) c.args.limit c.args.nesting c.args.group
    (c.args.row.now, c.args.reach.now) (c.loop-form.row, c.loop-form.reach)
    (ap (parts c.args.version c.args.group) (sym c.rest.ensures.rest) ∙ e) c.loop-form.invariant

pub repeats-returns-in_err-inner : goal.repeats-returns-in_err-inner
repeats-returns-in_err-inner t c =
    let p = err_from_is_err_and c.from_residual.result c.from_residual.ensures.1 in
    let all = tokens_in c.args.tokens in
    let mid : State = (c.loop-form.row, c.loop-form.reach) in
    let new : State = (c.inner.new.row, c.inner.new.reach) in
    let some : 0 < length (parts c.args.version c.args.group (tokens_in c.rest.result)) = grind (arith, common_steps) in
    let has = subst (λ (ts : List Token). 0 < length (parts c.args.version c.args.group ts)) c.rest.ensures.rest some in
    let is = c.parts_of-form.ensures ∙ ap (parts c.args.version c.args.group) c.rest.ensures.rest in
    let x = subst (λ (js : List Item). Extends (Err c.in_err-inner.field-0.0) c.args.version all mid new c.args.limit
    (inner_at (php c.args.version) c.args.limit c.args.nesting js (behind all c.loop-form.row))) is
    c.in_err-inner.ensures in
    rw (p.1, p.2) (repeated_breaks c.args.version all c.args.limit c.args.nesting c.args.group
    (c.args.row.now, c.args.reach.now) mid new c.in_err-inner.field-0.0 has x c.loop-form.invariant)

pub repeats-returns-then-at-before : goal.repeats-returns-then-at-before
repeats-returns-then-at-before t c =
    let all = tokens_in c.args.tokens in
    let mid : State = (c.loop-form.row, c.loop-form.reach) in
    let new : State = (c.inner.new.row, c.inner.new.reach) in
    let some : 0 < length (parts c.args.version c.args.group (tokens_in c.rest.result)) = grind (arith, common_steps) in
    let has = subst (λ (ts : List Token). 0 < length (parts c.args.version c.args.group ts)) c.rest.ensures.rest some in
    let is = c.parts_of-form.ensures ∙ ap (parts c.args.version c.args.group) c.rest.ensures.rest in
    let x = subst (λ (js : List Item). Extends (Ok tt) c.args.version all mid new c.args.limit
    (inner_at (php c.args.version) c.args.limit c.args.nesting js (behind all c.loop-form.row))) is
    c.in_ok-inner.ensures in
    stays_none c.args.version all c.args.limit c.args.nesting c.args.group (c.args.row.now, c.args.reach.now) mid new _ has refl x (omega arith) c.loop-form.invariant

pub repeats-loop-form-preserved : goal.repeats-loop-form-preserved
repeats-loop-form-preserved t c =
    let all = tokens_in c.args.tokens in
    let mid : State = (c.loop-form.row, c.loop-form.reach) in
    let new : State = (c.inner.new.row, c.inner.new.reach) in
    let some : 0 < length (parts c.args.version c.args.group (tokens_in c.rest.result)) = grind (arith, common_steps) in
    let has = subst (λ (ts : List Token). 0 < length (parts c.args.version c.args.group ts)) c.rest.ensures.rest some in
    let is = c.parts_of-form.ensures ∙ ap (parts c.args.version c.args.group) c.rest.ensures.rest in
    let x = subst (λ (js : List Item). Extends (Ok tt) c.args.version all mid new c.args.limit
    (inner_at (php c.args.version) c.args.limit c.args.nesting js (behind all c.loop-form.row))) is
    c.in_ok-inner.ensures in
    repeated_on c.args.version all c.args.limit c.args.nesting c.args.group (c.args.row.now, c.args.reach.now) mid new has x (omega arith) c.loop-form.invariant

-- ---- nodes

pub node-returns-then-limit-eq0 : goal.node-returns-then-limit-eq0
node-returns-then-limit-eq0 t c = node_none (php c.args.version) c.args.limit c.args.sort (behind (tokens_in c.args.tokens) c.args.row.now) (omega arith)

pub node-returns-in-None : goal.node-returns-in-None
node-returns-in-None t c = node_no_form (php c.args.version) c.args.limit (c.args.limit - 1) c.args.sort
    (behind (tokens_in c.args.tokens) c.args.row.now) (omega arith)
    (ap (form c.args.version c.args.sort) (sym c.rest.ensures.rest) ∙ sym c.in-None.ensures)

pub node-returns-in_err-items-in-Some : goal.node-returns-in_err-items-in-Some
node-returns-in_err-items-in-Some t c =
    let p = err_from_is_err_and c.from_residual-in_err-items-in-Some.result c.from_residual-in_err-items-in-Some.ensures.1 in
    let is = ap (form c.args.version c.args.sort) (sym c.rest.ensures.rest) ∙ sym c.in-Some.ensures in
    rw (p.1, p.2) (node_fails c.args.version (tokens_in c.args.tokens) c.args.limit (c.args.limit - 1) c.args.sort
    c.args.row.now c.open.new.self c.items.new.row c.in-Some.kind c.in-Some.form.now
    (c.open.new.self, c.new-reach.result) (c.items.new.row, c.items.new.reach) c.in_err-items-in-Some.field-0.0
    (omega arith) is c.open.ensures.at c.in_err-items-in-Some.ensures)

pub node-returns-in_ok-closed-in-Some : goal.node-returns-in_ok-closed-in-Some
node-returns-in_ok-closed-in-Some t c =
    let is = ap (form c.args.version c.args.sort) (sym c.rest.ensures.rest) ∙ sym c.in-Some.ensures in
    let first = c.args.row.now in
    node_grows c.args.version (tokens_in c.args.tokens) c.args.limit (c.args.limit - 1) c.args.sort first
    c.in-Some.kind c.in-Some.form.now (c.open.new.self, c.new-reach.result) (c.items.new.row, c.items.new.reach)
    c.close.new.row c.grow.new.row c.in_ok-from-in-Some.from c.in_ok-closed-in-Some.closed c.grow.result _
    (omega arith) is c.in_ok-from-in-Some.ensures.opened c.open.ensures.at c.new-reach.ensures.deep
    c.new-reach.ensures.edge refl c.in_ok-items-in-Some.ensures
    (λ f r. c.in_ok-closed-in-Some.ensures.grew first f r) (λ f r. c.in_ok-closed-in-Some.ensures.closed first f r) c.close.ensures.at
    (λ x m pl a i e. c.grow.ensures first x m pl a i e)

pub grow-returns-in-None : goal.grow-returns-in-None
grow-returns-in-None t c = λ before x fuel pl a i enough.
    grow_ends c.args.version (tokens_in c.args.tokens) c.args.limit fuel c.args.sort before c.args.row.now
    c.args.closed x a i (tail_here c.args.version c.args.sort c.args.closed _ _ _ c.rest.ensures.rest
    (sym c.in-None.ensures)) c.requires.low

pub grow-returns-then-closed-limit : goal.grow-returns-then-closed-limit
grow-returns-then-closed-limit t c = λ before x fuel pl a i enough.
    grow_deep c.args.version c.args.limit fuel c.args.sort c.args.closed x
    (behind (tokens_in c.args.tokens) c.args.row.now) (c.in-Some.kind, c.in-Some.form.now) i
    (tail_here c.args.version c.args.sort c.args.closed _ _ _ c.rest.ensures.rest (sym c.in-Some.ensures))
    c.if-closed-limit.true

pub grow-returns-in_err-items-in-Some : goal.grow-returns-in_err-items-in-Some
grow-returns-in_err-items-in-Some t c = λ before x fuel pl a i enough.
    let p = err_from_is_err_and c.from_residual-in_err-items-in-Some.result c.from_residual-in_err-items-in-Some.ensures.1 in
    let is = tail_here c.args.version c.args.sort c.args.closed _ _ _ c.rest.ensures.rest (sym c.in-Some.ensures) in
    rw (p.1, p.2) (grow_fails c.args.version (tokens_in c.args.tokens) c.args.limit fuel c.args.sort before
    c.args.row.now c.items.new.row c.args.closed x c.in-Some.kind c.in-Some.form.now
    (c.wrap.new.self, c.child.new.self) (c.items.new.row, c.items.new.reach) c.in_err-items-in-Some.field-0.0 i is
    c.if-closed-limit.false c.wrap.ensures.at c.in_err-items-in-Some.ensures)

pub grow-returns-in_ok-grown-in-Some : goal.grow-returns-in_ok-grown-in-Some
grow-returns-in_ok-grown-in-Some t c = λ before x fuel pl a i enough.
    let is = tail_here c.args.version c.args.sort c.args.closed _ _ _ c.rest.ensures.rest (sym c.in-Some.ensures) in
    let z = c.new-reach.ensures.deep in
    let opened = c.in_ok-wrap-in-Some.ensures.wrapped before x.0 x.1 pl a.grew in
    grow_goes c.args.version (tokens_in c.args.tokens) c.args.limit fuel c.args.sort before c.args.row.now
    c.args.closed x c.in-Some.kind c.in-Some.form.now (c.wrap.new.self, c.child.new.self)
    (c.items.new.row, c.items.new.reach) c.close.new.row c.grow.new.row c.args.from c.in_ok-grown-in-Some.grown
    c.grow.result _ pl a i is c.if-closed-limit.false
    opened c.wrap.ensures.at (first_deep c.args.closed.deep c.new-reach.result.deep c.child.new.self.deep z
    c.child.ensures.deep) c.child.ensures.edge refl c.in_ok-items-in-Some.ensures
    (λ f r. c.in_ok-grown-in-Some.ensures.grew before f r) (λ f r. c.in_ok-grown-in-Some.ensures.closed before f r) c.close.ensures.at
    (λ u m q b j e. c.grow.ensures before u m q b j e) enough

-- ---- a node that is closed, and grows

pub node-close-requires-clause-ready : goal.node-close-requires-clause-ready
node-close-requires-clause-ready t c = (
  c.args.row.now,
  opened_ready c.args.version (tokens_in c.args.tokens) c.args.row.now
      (c.open.new.self, c.new-reach.result) (c.items.new.row, c.items.new.reach) c.in_ok-from-in-Some.from
      (c.args.limit - 1) _ c.in_ok-from-in-Some.ensures.opened c.open.ensures.at c.new-reach.ensures.deep
      c.new-reach.ensures.edge c.in_ok-items-in-Some.ensures,
)

pub node-grow-requires : goal.node-grow-requires
node-grow-requires t c =
    let all = tokens_in c.args.tokens in
    let first = c.args.row.now in
    let opened = c.in_ok-from-in-Some.ensures.opened in
    let zero = c.new-reach.ensures.deep in
    let r = opened_ready c.args.version all first (c.open.new.self, c.new-reach.result)
    (c.items.new.row, c.items.new.reach) c.in_ok-from-in-Some.from (c.args.limit - 1) _ opened c.open.ensures.at
    c.new-reach.ensures.deep c.new-reach.ensures.edge c.in_ok-items-in-Some.ensures in
    let low = extends_deep c.args.version all (c.open.new.self, c.new-reach.result)
    (c.items.new.row, c.items.new.reach) (c.args.limit - 1) _ c.in_ok-items-in-Some.ensures (omega arith) in
    let deep = c.in_ok-closed-in-Some.ensures.deep in
    let added = closed_node c.args.version all first c.items.new.row c.close.new.row c.in_ok-from-in-Some.from
    c.items.new.reach c.in-Some.kind r.0 r.1 c.close.ensures.at
    (c.in_ok-closed-in-Some.ensures.grew first r.0 r.1) in
    (omega arith, (omega arith, (omega arith, (first, ((c.in-Some.kind, r.0), opened.place, added, c.in_ok-closed-in-Some.ensures.closed first r.0 r.1)))))

pub grow-close-requires-clause-ready : goal.grow-close-requires-clause-ready
grow-close-requires-clause-ready t c =
    let n = c.requires.node in
    let opened = c.in_ok-wrap-in-Some.ensures.wrapped n.0 n.1.0.0 n.1.0.1 n.1.1 n.1.2.grew in (
      n.0,
      extends_ready c.args.version (tokens_in c.args.tokens) n.0 c.args.row.now
          (c.wrap.new.self, c.child.new.self) (c.items.new.row, c.items.new.reach) c.args.from c.args.limit
          c.args.closed n.1.0 _ n.1.2 n.1.3 opened c.wrap.ensures.at
          (first_deep c.args.closed.deep c.new-reach.result.deep c.child.new.self.deep c.new-reach.ensures.deep
          c.child.ensures.deep) c.child.ensures.edge c.in_ok-items-in-Some.ensures,
    )

pub grow-close-requires-clause-low : goal.grow-close-requires-clause-low
grow-close-requires-clause-low t c =
    let first = first_deep c.args.closed.deep c.new-reach.result.deep c.child.new.self.deep c.new-reach.ensures.deep c.child.ensures.deep in
    let low = extends_deep c.args.version (tokens_in c.args.tokens) (c.wrap.new.self, c.child.new.self)
    (c.items.new.row, c.items.new.reach) c.args.limit _ c.in_ok-items-in-Some.ensures (omega arith) in
    omega arith

pub grow-grow-requires : goal.grow-grow-requires
grow-grow-requires t c =
    let n = c.requires.node in
    let all = tokens_in c.args.tokens in
    let first = first_deep c.args.closed.deep c.new-reach.result.deep c.child.new.self.deep c.new-reach.ensures.deep c.child.ensures.deep in
    let opened = c.in_ok-wrap-in-Some.ensures.wrapped n.0 n.1.0.0 n.1.0.1 n.1.1 n.1.2.grew in
    let r = extends_ready c.args.version all n.0 c.args.row.now (c.wrap.new.self, c.child.new.self)
    (c.items.new.row, c.items.new.reach) c.args.from c.args.limit c.args.closed n.1.0 _ n.1.2 n.1.3 opened
    c.wrap.ensures.at first c.child.ensures.edge c.in_ok-items-in-Some.ensures in
    let low = extends_deep c.args.version all (c.wrap.new.self, c.child.new.self) (c.items.new.row, c.items.new.reach) c.args.limit _ c.in_ok-items-in-Some.ensures (omega arith) in
    let high = extends_high c.args.version all (c.wrap.new.self, c.child.new.self) (c.items.new.row, c.items.new.reach) c.args.limit _ c.in_ok-items-in-Some.ensures in
    let deep = c.in_ok-grown-in-Some.ensures.deep in
    let added = closed_node c.args.version all n.0 c.items.new.row c.close.new.row c.args.from c.items.new.reach
    c.in-Some.kind r.0 r.1 c.close.ensures.at (c.in_ok-grown-in-Some.ensures.grew n.0 r.0 r.1) in
    (omega arith, (omega arith, (omega arith, (n.0, ((c.in-Some.kind, r.0), n.1.1, added, c.in_ok-grown-in-Some.ensures.closed n.0 r.0 r.1)))))
