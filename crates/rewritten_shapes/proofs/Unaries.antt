-- Prefixes, `yield` and ternaries.
use Rattle.std.proofs.Common.{◌≡◌, ℕ, ◌≤◌, max, Bool, true, false, cond, ◌&&◌, inl, nat_le, [], ◌∷◌, ◌++◌, if◌then◌else◌, Option, refl, sym, ap, ◌∙◌, subst, arith}
use Rattle.std.proofs.lemmas.Bool.{le-leb, leb-true, and_from}
use Rattle.php_tree.specs.declared.kind.NodeKind.{NodeKind}
use Rattle.php_tree.specs.declared.kind.NodeKind.TheVariants as k
use Rattle.php_tree.specs.declared.kind.NodeKind.TheVariants.{Prefix, ShortTernary, Ternary, Yield}
use Rattle.php_tree.specs.declared.token.Token.{Token}
use Rattle.php_tree.specs.declared.version.Version.TheVariants.{V74, V83}
use Rattle.php_tree.specs.Tree.{Forest, Tree, none, leaf, node, ◌+++◌}
use Rattle.php_terminals.specs.declared.terminal.Terminal.{Terminal}
use Rattle.php_terminals.specs.declared.terminal.Terminal.TheVariants as t
use Rattle.php_terminals.specs.Classify.{terminal}
use Rattle.php_grammar.specs.Accepts.{accepts}
use Rattle.php_grammar.specs.Bases.{is_short_ternary}
use Rattle.php_grammar.specs.Edges.{edge, edge_from}
use Rattle.php_grammar.specs.Levels.{level, prefix_level, is_alone}
use Rattle.php_shapes.specs.Nearest.{is_nearest, is_value_alone, is_yield}
use Rattle.php_shapes.specs.Notation.{Rule, word, place, ◌~◌, ◌|||◌, expr}
use Rattle.php_shapes.specs.Operators.{prefix, yield, ternary, short_ternary}
use Rattle.php_shapes.specs.Places.{Place, Left, LeftShort, Operand, Target, is_expression, may_stand}
use Rattle.php_shapes.specs.Shapes.{Fits, IsNode, is_nothing, is_both, is_first, is_node, is_place, is_second, is_word}
use Rattle.tracked_changes.specs.patches.Patches.{InParens}
use Rattle.syntax_rules.specs.Around.{Around, within}
use Rattle.syntax_rules.specs.DotPrecedence.{around_dot, is_dot}
use Rattle.syntax_rules.specs.HashComment.{hash_comment}
use Rattle.syntax_rules.specs.NestedTernary as nested
use Rattle.syntax_rules.specs.Rewritten as all
use Rattle.rewritten_shapes.proofs.Calm.{shown_is}
use Rattle.rewritten_shapes.proofs.Flat.{flat_fits}
use Rattle.rewritten_shapes.proofs.Kept.{AllGood, Good, Kept, becomes_same, edge_is, edges_below, is_ternary, kept, kept_join, parts_like, settled_like}
use Rattle.rewritten_shapes.proofs.Like.{Below, below_same, like_nearest, like_node}
use Rattle.rewritten_shapes.proofs.Operands.{EndsIn, dot_node, dots_by, ternaries_by}
use Rattle.rewritten_shapes.proofs.Same.{lines_fine}
use Rattle.rewritten_shapes.proofs.Shown.{changed_tree, in_paren, new_parts, new_tree, new_tree_is, shown_token, wrapped}
use Rattle.rewritten_shapes.proofs.Sides.{and_left, and_right}
use Rattle.rewritten_shapes.proofs.Simple.{simple_tree}
use Rattle.rewritten_shapes.proofs.Wrapped.{paren_edge, wrapped_good}

-- ---- a token before an operand

pub record One (c : Forest) (op : Terminal) (p : Place) : Type 0 where
  pub x : Token
  pub i : NodeKind
  pub e : Forest
  pub same : c ≡ leaf x (node i e none)
  pub takes : accepts V74 op x ≡ true
  pub stands : may_stand V74 p (i, e) ≡ true
  pub shaped : IsNode V74 i e

pub one : (op : Terminal) (p : Place) (c : Forest) → Fits V74 (word op ~ place p) c → One c op p
one op p c (is_both (is_word {x} u) (is_place {k = i} {c = e} m n) w) = record { x = x; i = i; e = e; same = w; takes = u; stands = m; shaped = n }

-- the parts of such a node
abbrev pub single : Token → NodeKind → Forest → Forest
single x i e = leaf x (node i e none)

-- a node of a tight level, with a token that stays tight
pub single_good : (k : NodeKind) (x y : Token) (i : NodeKind) (e : Forest) (z : Tree) (r : ℕ)
    → level V74 (k, single x i e) ≤ 5 → level V83 (k, single y z.0 z.1) ≡ level V74 (k, single x i e)
    → Good i e z → IsNode V74 i e → may_stand V74 (Operand r) (i, e) ≡ true → r ≤ 5
    → EndsIn k (single x i e) (single y z.0 z.1) i e z r
single_good k x y i e z r low same g n m tight = record {
  old = edge_is V74 k (single x i e) ∙ ap (max (level V74 (k, single x i e))) (sym (edge_is V74 i e));
  new = edge_is V83 k (single y z.0 z.1) ∙ ap (max (level V83 (k, single y z.0 z.1))) (sym (edge_is V83 z.0 z.1));
  stands = m;
  as_dot = dot_node i e n;
  loose = inl (omega arith);
  tight = inl (omega arith);
  same = λ u. omega (arith, same);
  low = λ u. omega (arith, same, low);
}

prefix_low : (x : Terminal) → nat_le (prefix_level x) 5 ≡ true
prefix_low t.Clone = refl
prefix_low t.Plus = refl
prefix_low t.Minus = refl
prefix_low t.Tight = refl
prefix_low t.Not = refl
prefix_low _ = refl

-- ---- prefixes

abbrev PrefixGood : Forest → Type 0
PrefixGood c = Good Prefix c (Prefix, new_parts (within Prefix c) true c)

prefix_at : (x : Token) (i : NodeKind) (e : Forest) → Kept (prefix) (single x i e) (new_parts (within Prefix (single x i e)) true (single x i e)) → is_nearest (single x i e) ≡ true
    → (is_dot (Prefix, single x i e) ≡ false → edge V74 (Prefix, single x i e) ≤ 8
    → edge V83 (Prefix, new_parts (within Prefix (single x i e)) true (single x i e)) ≤ edge V74
    (Prefix, single x i e))
    → (edge V74 (Prefix, single x i e) ≤ 18 → edge V83 (Prefix, new_parts (within Prefix (single x i e)) true (single x i e)) ≤ 17)
    → PrefixGood (single x i e)
prefix_at x i e p near dots ternaries =
    let c = single x i e in
    let b = new_parts (within Prefix c) true c in
    let same : level V83 (Prefix, b) ≡ level V74 (Prefix, c) = ap (λ (y : Token). prefix_level (terminal y)) (shown_is x) in
    let levels : Below (level V83 (Prefix, b)) (level V74 (Prefix, c)) = subst (λ (n : ℕ). Below n (level V74 (Prefix, c))) (sym same) (below_same (level V74 (Prefix, c))) in
    record {
      shaped = is_node p.fits (like_nearest c b p.like near) (lines_fine Prefix b refl);
      like = parts_like Prefix c b (λ u. u) levels p.like;
      becomes = becomes_same Prefix;
      levels = levels;
      dot_level = λ u. omega (arith, same);
      dots = λ u w h. dots w h;
      ternaries = λ u w h. ternaries h;
    }

prefix_operand : (op : Terminal) (r : ℕ) (c : Forest) → r ≤ 5 → Fits V74 (word op ~ place (Operand r)) c → AllGood c
    → Kept prefix c (new_parts (within Prefix c) true c) → is_nearest c ≡ true → PrefixGood c
prefix_operand op r c tight f w p near =
    let y = one op (Operand r) c f in
    let u = subst AllGood y.same w in
    let z = new_tree (within Prefix (single y.x y.i y.e) false) y.i y.e in
    let g : Good y.i y.e z = u.0 (within Prefix (single y.x y.i y.e) false) y.shaped in
    let low : level V74 (Prefix, single y.x y.i y.e) ≤ 5 = leb-true (prefix_level (terminal y.x)) 5 (prefix_low (terminal y.x)) in
    let same : level V83 (Prefix, single (shown_token (hash_comment y.x)) z.0 z.1) ≡ level V74
    (Prefix, single y.x y.i y.e) = ap (λ (y : Token). prefix_level (terminal y)) (shown_is y.x) in
    let ends = single_good Prefix y.x (shown_token (hash_comment y.x)) y.i y.e z r low same g y.shaped y.stands tight in
    let b = single (shown_token (hash_comment y.x)) z.0 z.1 in
    subst PrefixGood (sym y.same)
    (prefix_at y.x y.i y.e (subst (λ (c : Forest). Kept prefix c (new_parts (within Prefix c) true c)) y.same p) (ap is_nearest (sym y.same) ∙ near)
    (λ n h. dots_by Prefix (single y.x y.i y.e) b y.i y.e z r ends g n h) (λ h. ternaries_by Prefix (single y.x y.i y.e) b y.i y.e z r ends g h))

prefix_step : (c : Forest) → Fits V74 (word t.Step ~ place Target) c
    → Kept (word t.Step ~ place Target) c (new_parts (within Prefix c) true c)
    → Kept prefix c (new_parts (within Prefix c) true c) → is_nearest c ≡ true → PrefixGood c
prefix_step c f q p near =
    let y = one t.Step Target c f in
    let d = single y.x y.i y.e in
    let b = new_parts (within Prefix d) true d in
    let flat : edge_from V83 0 b ≡ 0 = subst (λ (c : Forest). edge_from V83 0 (new_parts (within Prefix c) true c) ≡ 0) y.same (flat_fits q.fits refl) in
    let low : level V74 (Prefix, d) ≤ 5 = leb-true (prefix_level (terminal y.x)) 5 (prefix_low (terminal y.x)) in
    let same : level V83 (Prefix, b) ≡ level V74 (Prefix, d) = ap (λ (y : Token). prefix_level (terminal y)) (shown_is y.x) in
    let new : edge V83 (Prefix, b) ≡ max (level V83 (Prefix, b)) (edge_from V83 0 b) = edge_is V83 Prefix b in
    let old : edge V74 (Prefix, d) ≡ max (level V74 (Prefix, d)) (edge_from V74 0 d) = edge_is V74 Prefix d in
    subst PrefixGood (sym y.same)
    (prefix_at y.x y.i y.e (subst (λ (c : Forest). Kept prefix c (new_parts (within Prefix c) true c)) y.same p) (ap is_nearest (sym y.same) ∙ near)
    (λ n h. omega (arith, flat, same, new, old)) (λ h. omega (arith, flat, same, new, low)))

prefix_fits : (c : Forest) → Fits V74 prefix c → AllGood c → Kept prefix c (new_parts (within Prefix c) true c) → is_nearest c ≡ true → PrefixGood c
prefix_fits c (is_first f) w p near = prefix_operand t.Clone 1 c (omega arith) f w p near
prefix_fits c (is_second (is_first f)) w p near = prefix_operand t.SignOrTight 3 c (omega arith) f w p near
prefix_fits c (is_second (is_second (is_first f))) w p near = prefix_operand t.Not 5 c (omega arith) f w p near
prefix_fits c (is_second (is_second (is_second f))) w p near = prefix_step c f (kept f refl w (within Prefix c) true) p near

pub good_prefix : (a : Option Around) (c : Forest) → AllGood c → IsNode V74 Prefix c → Good Prefix c (new_tree a Prefix c)
good_prefix a c w (is_node f near fine) = subst (Good Prefix c) (sym (simple_tree a Prefix c refl)) (prefix_fits c f w (kept f refl w (within Prefix c) true) near)

-- ---- `yield`

abbrev YieldGood : Forest → Type 0
YieldGood c = Good Yield c (Yield, new_parts (within Yield c) true c)

-- `yield` alone, or with a value that is alone, stays so
record Alone (c : Forest) : Type 0 where
  level : is_alone (Yield, new_parts (within Yield c) true c) ≡ is_alone (Yield, c)
  value : is_value_alone (new_parts (within Yield c) true c) ≡ true → is_value_alone c ≡ true

alone_level : (b : Bool) → 20 ≤ cond b 25 20
alone_level true = omega arith
alone_level false = omega arith

yield_good : (c : Forest) → Kept yield c (new_parts (within Yield c) true c) → is_nearest c ≡ true → Alone c → YieldGood c
yield_good c p near al =
    let b = new_parts (within Yield c) true c in
    let same : level V83 (Yield, b) ≡ level V74 (Yield, c) = ap (λ (y : Bool). cond y 25 20) al.level in
    let high : 20 ≤ level V74 (Yield, c) = alone_level (is_alone (Yield, c)) in
    let levels : Below (level V83 (Yield, b)) (level V74 (Yield, c)) = subst (λ (n : ℕ). Below n (level V74 (Yield, c))) (sym same) (below_same (level V74 (Yield, c))) in
    let old : edge V74 (Yield, c) ≡ max (level V74 (Yield, c)) (edge_from V74 0 c) = edge_is V74 Yield c in
    record {
      shaped = is_node p.fits (like_nearest c b p.like near) (lines_fine Yield b refl);
      like = parts_like Yield c b al.value levels p.like;
      becomes = becomes_same Yield;
      levels = levels;
      dot_level = λ u. omega (arith, same);
      dots = λ u w h. absurd (omega (arith, high, old, h));
      ternaries = λ u w h. absurd (omega (arith, high, old, h));
    }

yield_word : (c : Forest) (x : Token) → c ≡ leaf x none → Alone c
yield_word c x e = subst Alone (sym e) (record { level = refl; value = λ u. absurd cc })

yield_one : (x : Token) (i : NodeKind) (e : Forest) → Alone (single x i e)
yield_one x i e = record { level = refl; value = λ u. ap (λ (y : Token). is_yield (terminal y)) (sym (shown_is x)) ∙ u }

yield_two : (x : Token) (i : NodeKind) (e : Forest) (y : Token) (j : NodeKind) (d : Forest) → Alone (leaf x (node i e (leaf y (node j d none))))
yield_two x i e y j d = record { level = refl; value = λ u. absurd cc }

yield_alone : (c : Forest) → Fits V74 yield c → Alone c
yield_alone c (is_first (is_word {x} p)) = yield_word (leaf x none) x refl
yield_alone c (is_second (is_first (is_both (is_word {x} p) (is_both (is_place {k = i} {c = e} m n) (is_first is_nothing) w) v))) =
    subst Alone (sym (v ∙ ap (leaf x) w)) (yield_one x i e)
yield_alone c (is_second (is_first (is_both (is_word {x} p) (is_both (is_place {k = i} {c = e} m n)
    (is_second (is_both (is_word {x = y} q) (is_place {k = j} {c = d} m2 n2) u)) w) v))) =
    subst Alone (sym (v ∙ ap (leaf x) (w ∙ ap (node i e) u))) (yield_two x i e y j d)
yield_alone c (is_second (is_second (is_both (is_word {x} p) (is_place {k = i} {c = e} m n) w))) = subst Alone (sym w) (yield_one x i e)

pub good_yield : (a : Option Around) (c : Forest) → AllGood c → IsNode V74 Yield c → Good Yield c (new_tree a Yield c)
good_yield a c w (is_node f near fine) = subst (Good Yield c) (sym (simple_tree a Yield c refl)) (yield_good c (kept f refl w (within Yield c) true) near (yield_alone c f))

-- ---- ternaries

nested_paren : (o : NodeKind) (c : Forest) (j : NodeKind) (d : Forest) → nested.nests o j ≡ true → (y : Tree) × (new_tree (within o c true) j d ≡ in_paren y)
nested_paren o c j d e =
    let a = within o c true in (
      wrapped (around_dot a (j, d)) (changed_tree j d),
      new_tree_is a j d
          ∙ ap (λ (b : Bool). wrapped ((if b then InParens ∷ [] else []) ++ around_dot a (j, d)) (changed_tree j d)) e,
    )

-- a left operand that is no ternary, or in parentheses
left_once : (n : ℕ) (j : NodeKind) (d : Forest) (x : Tree) → Good j d x → is_ternary j ≡ false → may_stand V74 (Left 18) (j, d) ≡ true → may_stand V83 (Left 17) x ≡ true
left_once n j d x g e m =
    let at = and_left (is_expression j) (nat_le (edge V74 (j, d)) 18) m in
    let old : edge V74 (j, d) ≤ 18 = leb-true (edge V74 (j, d)) 18 (and_right (is_expression j) (nat_le (edge V74 (j, d)) 18) m) in
    and_from (is_expression x.0) (nat_le (edge V83 x) 17) (g.becomes.expression at) (le-leb (edge V83 x) 17 (g.ternaries at e old))

left_paren : (j : NodeKind) (d : Forest) (x y : Tree) → Good j d x → x ≡ in_paren y → may_stand V83 (Left 17) x ≡ true
left_paren j d x y g e = subst (λ (z : Tree). may_stand V83 (Left 17) z ≡ true) (sym e) (le-leb (edge V83 (in_paren y)) 17 (omega (arith, paren_edge y)))

left_ternary : (c : Forest) (j : NodeKind) (d : Forest) → Good j d (new_tree (within Ternary c true) j d)
    → may_stand V74 (Left 18) (j, d) ≡ true → may_stand V83 (Left 17) (new_tree (within Ternary c true) j d) ≡ true
left_ternary c k.Ternary d g m = let y = nested_paren Ternary c Ternary d refl in left_paren Ternary d (new_tree (within Ternary c true) Ternary d) y.0 g y.1
left_ternary c k.ShortTernary d g m = let y = nested_paren Ternary c ShortTernary d refl in left_paren ShortTernary d (new_tree (within Ternary c true) ShortTernary d) y.0 g y.1
left_ternary c j d g m = left_once 17 j d (new_tree (within Ternary c true) j d) g refl m

-- what follows the left operand
abbrev ternary_tail : Rule
ternary_tail = word t.Question ~ expr ~ word t.Colon ~ place (Operand 17)

abbrev short_tail : Rule
short_tail = word t.Question ~ word t.Colon ~ place (Operand 17)

ternary_kept : (c : Forest) → Fits V74 (ternary V74) c → AllGood c → Kept (ternary V83) c (new_parts (within Ternary c) true c)
ternary_kept c (is_both {h = h} (is_place {k = j} {c = d} m n) y e) w =
    let u = subst AllGood e w in
    let g = u.0 (within Ternary c true) n in
    let x = new_tree (within Ternary c true) j d in
    kept_join (within Ternary c) true (place (Left 18)) ternary_tail (place (Left 17)) ternary_tail c (node j d none) h e (is_place m n) y refl
    (record { fits = is_place (left_ternary c j d g m) g.shaped; like = like_node j d x.0 x.1 g.like })
    (kept y refl u.2 (within Ternary c) false)

-- a `?:` left of another stays without parentheses
short_tree : (c d : Forest) → new_tree (within ShortTernary c true) ShortTernary d ≡ changed_tree ShortTernary d
short_tree c d = new_tree_is (within ShortTernary c true) ShortTernary d

short_stands : (c d : Forest) → Good ShortTernary d (new_tree (within ShortTernary c true) ShortTernary d)
    → edge V74 (ShortTernary, d) ≤ 18 → may_stand V83 LeftShort (new_tree (within ShortTernary c true) ShortTernary d)
    ≡ true
short_stands c d g h =
    let x = new_tree (within ShortTernary c true) ShortTernary d in
    let b = (edges_below ShortTernary d x g.like).loose in
    subst (λ (z : Tree). (is_short_ternary z.0 && nat_le (edge V83 z) 18) ≡ true) (sym (short_tree c d))
    (le-leb (edge V83 (changed_tree ShortTernary d)) 18 (omega (arith, h, b, ap (edge V83) (short_tree c d))))

abbrev Shorter : Forest → NodeKind → Forest → Type 0
Shorter c j d = Fits V83 (place (Left 17) ||| place LeftShort) (node (new_tree (within ShortTernary c true) j d).0 (new_tree (within ShortTernary c true) j d).1 none)

left_shorter : (c : Forest) (j : NodeKind) (d : Forest) → Good j d (new_tree (within ShortTernary c true) j d) → may_stand V74 (Left 18) (j, d) ≡ true → Shorter c j d
left_shorter c k.Ternary d g m = let y = nested_paren ShortTernary c Ternary d refl
    in is_first (is_place (left_paren Ternary d (new_tree (within ShortTernary c true) Ternary d) y.0 g y.1) g.shaped)
left_shorter c k.ShortTernary d g m = is_second (is_place (short_stands c d g (leb-true (edge V74 (ShortTernary, d)) 18 m)) g.shaped)
left_shorter c j d g m = is_first (is_place (left_once 17 j d (new_tree (within ShortTernary c true) j d) g refl m) g.shaped)

again_shorter : (c : Forest) (j : NodeKind) (d : Forest) → Good j d (new_tree (within ShortTernary c true) j d) → may_stand V74 LeftShort (j, d) ≡ true → Shorter c j d
again_shorter c k.ShortTernary d g m = is_second (is_place (short_stands c d g (leb-true (edge V74 (ShortTernary, d)) 18 m)) g.shaped)
again_shorter c _ d g m = absurd cc

short_join : (c h : Forest) (j : NodeKind) (d : Forest) → c ≡ node j d none +++ h
    → Fits V74 (place (Left 18) ||| place LeftShort) (node j d none) → Fits V74 short_tail h
    → AllGood (node j d none +++ h)
    → Good j d (new_tree (within ShortTernary c true) j d) → Shorter c j d → Kept (short_ternary V83) c (new_parts (within ShortTernary c) true c)
short_join c h j d e f y u g p =
    let x = new_tree (within ShortTernary c true) j d in
    kept_join (within ShortTernary c) true (place (Left 18) ||| place LeftShort) short_tail (place (Left 17) ||| place LeftShort) short_tail c (node j d none) h e f y refl
    (record { fits = p; like = like_node j d x.0 x.1 g.like })
    (kept y refl u.2 (within ShortTernary c) false)

short_kept : (c : Forest) → Fits V74 (short_ternary V74) c → AllGood c → Kept (short_ternary V83) c (new_parts (within ShortTernary c) true c)
short_kept c (is_both {h = h} (is_first (is_place {k = j} {c = d} m n)) y e) w =
    let u = subst AllGood e w in
    let g = u.0 (within ShortTernary c true) n in
    short_join c h j d e (is_first (is_place m n)) y u g (left_shorter c j d g m)
short_kept c (is_both {h = h} (is_second (is_place {k = j} {c = d} m n)) y e) w =
    let u = subst AllGood e w in
    let g = u.0 (within ShortTernary c true) n in
    short_join c h j d e (is_second (is_place m n)) y u g (again_shorter c j d g m)

-- a ternary without parentheses
pub plain_ternary : (c : Forest) → Kept (ternary V83) c (new_parts (within Ternary c) true c) → is_nearest c ≡ true → Good Ternary c (changed_tree Ternary c)
plain_ternary c p near =
    let b = new_parts (within Ternary c) true c in
    let old : edge V74 (Ternary, c) ≡ max 18 (edge_from V74 0 c) = edge_is V74 Ternary c in
    record {
      shaped = is_node p.fits (like_nearest c b p.like near) (lines_fine Ternary b refl);
      like = settled_like Ternary c b refl p.like;
      becomes = becomes_same Ternary;
      levels = below_same 18;
      dot_level = λ u. omega arith;
      dots = λ u w h. absurd (omega (arith, old, h));
      ternaries = λ u w h. absurd cc;
    }

pub plain_short : (c : Forest) → Kept (short_ternary V83) c (new_parts (within ShortTernary c) true c) → is_nearest c ≡ true → Good ShortTernary c (changed_tree ShortTernary c)
plain_short c p near =
    let b = new_parts (within ShortTernary c) true c in
    let old : edge V74 (ShortTernary, c) ≡ max 18 (edge_from V74 0 c) = edge_is V74 ShortTernary c in
    record {
      shaped = is_node p.fits (like_nearest c b p.like near) (lines_fine ShortTernary b refl);
      like = settled_like ShortTernary c b refl p.like;
      becomes = becomes_same ShortTernary;
      levels = below_same 18;
      dot_level = λ u. omega arith;
      dots = λ u w h. absurd (omega (arith, old, h));
      ternaries = λ u w h. absurd cc;
    }

pub good_ternary : (a : Option Around) (c : Forest) → AllGood c → IsNode V74 Ternary c → Good Ternary c (new_tree a Ternary c)
good_ternary a c w (is_node f near fine) =
    subst (Good Ternary c) (sym (new_tree_is a Ternary c))
    (wrapped_good Ternary c (all.wrapping a (Ternary, c)) (changed_tree Ternary c) refl
    (plain_ternary c (ternary_kept c f w) near))

pub good_short : (a : Option Around) (c : Forest) → AllGood c → IsNode V74 ShortTernary c → Good ShortTernary c (new_tree a ShortTernary c)
good_short a c w (is_node f near fine) =
    subst (Good ShortTernary c) (sym (new_tree_is a ShortTernary c))
    (wrapped_good ShortTernary c (all.wrapping a (ShortTernary, c)) (changed_tree ShortTernary c) refl
    (plain_short c (short_kept c f w) near))
