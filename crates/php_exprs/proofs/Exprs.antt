-- Expressions of tokens that stand elsewhere.
use Rattle.std.proofs.Common.{
  ◌≡◌,
  ℕ,
  zero,
  suc,
  ◌+◌,
  ◌-◌,
  ◌<◌,
  ◌≤◌,
  List,
  [],
  ◌∷◌,
  ◌++◌,
  length,
  take,
  drop,
  map,
  Option,
  Some,
  None,
  Result,
  Ok,
  Err,
  slice_range,
  refl,
  sym,
  ap,
  ◌∙◌,
  subst,
  arith,
}
use Rattle.std.proofs.lemmas.List.{append-nil, drop_all, drop-take, length-append, length-drop, length-map, take-map}
use Rattle.std.specs.List.{drop-map}
use Rattle.php_tree.specs.declared.kind.NodeKind.{NodeKind}
use Rattle.php_tree.specs.declared.token.Token.{Token}
use Rattle.php_tree.specs.declared.version.Version.{Version}
use Rattle.php_tree.specs.Tree.{Forest, Tree, none, leaf, node, leaves, depth}
use Rattle.php_terminals.specs.declared.mark.Mark.{Mark}
use Rattle.php_terminals.specs.declared.tokens.Tokens.{Tokens}
use Rattle.php_terminals.specs.Tokens.{tokens_in}
use Rattle.php_terminals.specs.Marked.{placeless, all_placeless, token_at}
use Rattle.php_forms.specs.declared.item.Sort.{Sort}
use Rattle.php_grammar.specs.Tables.{php}
use Rattle.php_grammar.proofs.Ranks.{rank, php_ranked}
use Rattle.php_grammar.proofs.Placeless.{forest_placeless, tree_placeless}
use Rattle.php_rows.specs.Flatten.{tokens}
use Rattle.php_rows.specs.Nodes.{with_tokens}
use Rattle.php_rows.proofs.Pushed.{with_own}
use Rattle.php_exprs.specs.Parsing.{Read, parse}
use Rattle.php_forms.specs.declared.item.Sort.TheVariants.{Operand}
use Rattle.php_rows.specs.declared.row.Row.{Row}
use Rattle.php_rows.specs.Rows.{IsInner}
use Rattle.php_exprs.specs.declared.build.Closed.{Closed}
use Rattle.php_exprs.specs.declared.fault.ParseFault.{ParseFault}
use Rattle.php_exprs.specs.declared.fault.ParseFault.TheVariants.{NotInGrammar, Memory}
use Rattle.php_exprs.specs.Built.{behind}
use Rattle.php_exprs.specs.Expr.{IsExpression, IsNone}
use Rattle.php_exprs.specs.Reading.{Answers, Reads, ReadsNode}
use Rattle.php_exprs.proofs.Grown.{marks_many}
use Rattle.php_exprs.proofs.Forests.{some_is}
use Rattle.php_exprs.proofs.Placed.{tree_read, parse_p}
use Rattle.php_exprs.proofs.Sound.{parse_sound}
use Rattle.php_exprs.proofs.Complete.{parse_complete}

count_p : (f : Forest) → tokens (forest_placeless f) ≡ tokens f
count_p none = refl
count_p (leaf t f) = ap suc (count_p f)
count_p (node k c f) = length-append (leaves (forest_placeless c)) (leaves (forest_placeless f)) ∙ rw (count_p c, count_p f) (sym (length-append (leaves c) (leaves f)))

abbrev leaf_of : Token → Forest → Forest
leaf_of t f = leaf t f

leaf_parts : (t u : Token) (f g : Forest) → leaf_of t f ≡ leaf_of u g → f ≡ g
leaf_parts t u f g e = cc

abbrev node_of : NodeKind → Forest → Forest → Forest
node_of k c f = node k c f

node_parts : (j k : NodeKind) (b c f g : Forest) → node_of j b f ≡ node_of k c g → (j ≡ k) × (b ≡ c) × (f ≡ g)
node_parts j k b c f g e = (cc, cc, cc)

-- forests of one shape
same_with : (f g : Forest) (ts : List Token) → forest_placeless f ≡ forest_placeless g → with_tokens f ts ≡ with_tokens g ts
same_with none none ts e = refl
same_with none (leaf t g) ts e = absurd cc
same_with none (node k c g) ts e = absurd cc
same_with (leaf t f) none ts e = absurd cc
same_with (leaf t f) (leaf u g) [] e = refl
same_with (leaf t f) (leaf u g) (x ∷ ts) e = ap (leaf x) (same_with f g ts (leaf_parts (placeless t) (placeless u) (forest_placeless f) (forest_placeless g) e))
same_with (leaf t f) (node k c g) ts e = absurd cc
same_with (node j b f) none ts e = absurd cc
same_with (node j b f) (leaf u g) ts e = absurd cc
same_with (node j b f) (node k c g) ts e =
    let p = node_parts j k (forest_placeless b) (forest_placeless c) (forest_placeless f) (forest_placeless g) e in
    let n : tokens b ≡ tokens c = sym (count_p b) ∙ ap tokens p.1 ∙ count_p c in
    ap (λ (x : NodeKind). node x (with_tokens b (take (tokens b) ts)) (with_tokens f (drop (tokens b) ts))) p.0
    ∙ ap (λ (m : ℕ). node k (with_tokens b (take m ts)) (with_tokens f (drop m ts))) n
    ∙ ap (λ (h : Forest). node k h (with_tokens f (drop (tokens c) ts))) (same_with b c (take (tokens c) ts) p.1)
    ∙ ap (λ (h : Forest). node k (with_tokens c (take (tokens c) ts)) h) (same_with f g (drop (tokens c) ts) p.2)

none_left : (ts : List Token) → all_placeless ts ≡ [] → ts ≡ []
none_left [] e = refl
none_left (t ∷ ts) e = absurd cc

-- what was read, where what was read of other tokens is known
read_alike : (r : Read Tree) (x : Tree) → tree_read r ≡ Some (tree_placeless x, []) → (y : Tree) × ((r ≡ Some (y, [])) × (tree_placeless y ≡ tree_placeless x))
read_alike None x e = absurd cc
read_alike (Some y) x e =
    let same = some_is (tree_placeless y.0, all_placeless y.1) (tree_placeless x, []) e in
    (y.0, (ap (λ (us : List Token). read y.0 us) (none_left y.1 (ap (λ (z : Tree × List Token). z.1) same)), ap (λ (z : Tree × List Token). z.0) same))
  where
    read : Tree → List Token → Read Tree
    read t us = Some (t, us)

abbrev with_leaves : Tree → List Token → Tree
with_leaves x ts = (x.0, with_tokens x.1 ts)

-- the tree of tokens that stand elsewhere, with these tokens
pub placed_tree : (v : Version) (s : Sort) (d : ℕ) (ts us : List Token) (x : Tree)
    → all_placeless ts ≡ all_placeless us → Reads v s d us x [] → Reads v s d ts (with_leaves x ts) []
placed_tree v s d ts us x e r =
    let c = parse_complete (php v) 7 rank (php_ranked v) d s x.0 x.1 [] r.spells.0 r.spells.1 r.low in
    let there : parse (php v) 7 d s us ≡ Some (x, []) = ap (parse (php v) 7 d s) r.text ∙ c in
    let here : tree_read (parse (php v) 7 d s ts) ≡ Some (tree_placeless x, []) =
    sym (parse_p v 7 d s ts) ∙ ap (parse (php v) 7 d s) e ∙ parse_p v 7 d s us ∙ ap tree_read there in
    let y = read_alike (parse (php v) 7 d s ts) x here in
    let p = parse_sound (php v) 7 d s ts (y.0, []) y.1.0 in
    let text : ts ≡ leaves y.0.1 = p.text ∙ append-nil (leaves y.0.1) in
    let parts : y.0.1 ≡ with_tokens x.1 ts = sym (with_own y.0.1) ∙ ap (with_tokens y.0.1) (sym text) ∙ same_with y.0.1 x.1 ts (ap (λ (z : Tree). z.1) y.1.1) in
    let kind : y.0.0 ≡ x.0 = ap (λ (z : Tree). z.0) y.1.1 in
    let is : y.0 ≡ with_leaves x ts = ap (λ (k : NodeKind). with_kind k y.0.1) kind ∙ ap (with_kind x.0) parts in
    subst (λ (z : Tree). Reads v s d ts z []) is (record { spells = p.spells; text = p.text; low = p.low })
  where
    with_kind : NodeKind → Forest → Tree
    with_kind k f = (k, f)

-- ---- the tokens at some places

pub tokens_are : (r : Tokens) (bytes : List ℕ) (ms : List Mark) → r.bytes.now ≡ bytes → r.marks.now ≡ ms → tokens_in r ≡ map (token_at bytes) ms
tokens_are r bytes ms e p = ap (λ (b : List ℕ). map (token_at b) r.marks.now) e ∙ ap (map (token_at bytes)) p

-- ---- parts of some tokens

between_is : (a b : ℕ) (ts : List Token) → a ≤ b → drop a (take b ts) ≡ take (b - a) (drop a ts)
between_is a b ts le = let e : b ≡ a + (b - a) = omega arith in ap (λ (n : ℕ). drop a (take n ts)) e ∙ drop-take a (b - a) ts

pub front_same : (ts us : List Token) (a b : ℕ) → a ≤ b → all_placeless us ≡ all_placeless ts → all_placeless (take (b - a) (drop a ts)) ≡ all_placeless (drop a (take b us))
front_same ts us a b le e =
    sym (take-map placeless (b - a) (drop a ts)) ∙ ap (take (b - a)) (sym (drop-map placeless a ts)) ∙ ap (λ (xs : List Token). take (b - a) (drop a xs)) (sym e)
    ∙ ap (take (b - a)) (drop-map placeless a us) ∙ take-map placeless (b - a) (drop a us) ∙ ap all_placeless (sym (between_is a b us le))

-- ---- all of the tokens as one expression

abbrev expression : Sort
expression = Operand 24

whole_reads : (v : Version) (d : ℕ) (us : List Token) (old new : Row) (c : Closed) (t : Tree) → old.at ≡ 0
    → ReadsNode v expression d us old new c t → length us ≤ new.at → Reads v expression d us t []
whole_reads v d us old new c t z r le =
    let here : behind us old ≡ us = ap (λ (n : ℕ). drop n us) z in
    let rest : behind us new ≡ [] = drop_all new.at us le in
    subst (λ (xs : List Token). Reads v expression d xs t []) here (subst (λ (xs : List Token). Reads v expression d (behind us old) t xs) rest r.reads)

pub whole_found : (v : Version) (d : ℕ) (ts us : List Token) (old new : Row) (c : Closed) (t x : Tree) (f : Forest)
    → old.at ≡ 0 → ReadsNode v expression d us old new c t → length us ≤ new.at → all_placeless ts ≡ all_placeless us
    → x ≡ (c.kind, with_tokens f ts) → f ≡ t.1 → IsExpression v d ts x
whole_found v d ts us old new c t x f z r le e is parts =
    let p = placed_tree v expression d ts us t e (whole_reads v d us old new c t z r le) in
    let same : x ≡ with_leaves t ts = is ∙ ap (λ (k : NodeKind). with_kind k (with_tokens f ts)) r.told.kind ∙ ap (λ (g : Forest). with_kind t.0 (with_tokens g ts)) parts in
    subst (λ (y : Tree). IsExpression v d ts y) (sym same) p
  where
    with_kind : NodeKind → Forest → Tree
    with_kind k g = (k, g)

pub whole_count : (v : Version) (d : ℕ) (ts us : List Token) (old new : Row) (c : Closed) (t : Tree) (f : Forest)
    → old.at ≡ 0 → ReadsNode v expression d us old new c t → length us ≤ new.at → all_placeless ts ≡ all_placeless us
    → f ≡ t.1 → length ts ≡ tokens f
whole_count v d ts us old new c t f z r le e parts =
    let q = whole_reads v d us old new c t z r le in
    sym (length-map ts placeless) ∙ ap (λ (xs : List Token). length xs) e ∙ length-map us placeless
    ∙ ap (λ (xs : List Token). length xs) (q.text ∙ append-nil (leaves t.1)) ∙ ap tokens (sym parts)

pub whole_inner : (v : Version) (d : ℕ) (all : Tokens) (old new : Row) (c : Closed) (t : Tree) → old.nodes.items ≡ []
    → ReadsNode v expression d (tokens_in all) old new c t → IsInner old 0 new all t.0 t.1
    (behind (tokens_in all) new)
whole_inner v d all old new c t n r =
    let w = r.added.within in
    let m = marks_many all in
    record { grew = r.added.grew; place = ap length n; text = r.added.text; within = omega arith }

pub whole_none : (v : Version) (d : ℕ) (ts us : List Token) (old new : Row) (c : Closed) → old.at ≡ 0
    → new.at < length us → all_placeless ts ≡ all_placeless us
    → ((t : Tree) (rest : List Token) → Reads v expression d (behind us old) t rest
    → Answers (Ok c) us old new t rest) → IsNone v d ts
whole_none v d ts us old new c z lt e only t p =
    let q = placed_tree v expression d us ts t (sym e) p in
    let here : us ≡ behind us old = ap (λ (n : ℕ). drop n us) (sym z) in
    let a = only (with_leaves t us) [] (subst (λ (xs : List Token). Reads v expression d xs (with_leaves t us) []) here q) in
    let l = ap length a.1 in
    let m = length-drop new.at us in
    omega arith

pub whole_fails : (v : Version) (d : ℕ) (ts us : List Token) (old new : Row) (e : ParseFault) → old.at ≡ 0
    → e ≡ NotInGrammar → all_placeless ts ≡ all_placeless us
    → ((t : Tree) (rest : List Token) → Reads v expression d (behind us old) t rest
    → Answers (Err e) us old new t rest) → IsNone v d ts
whole_fails v d ts us old new e z is same only t p =
    let q = placed_tree v expression d us ts t (sym same) p in
    let here : us ≡ behind us old = ap (λ (n : ℕ). drop n us) (sym z) in
    let a = only (with_leaves t us) [] (subst (λ (xs : List Token). Reads v expression d xs (with_leaves t us) []) here q) in
    subst (λ (f : ParseFault). Answers (Err f) us old new (with_leaves t us) []) is a
