-- Parts keep the shape of a rule that is the same in both versions.
use Rattle.std.proofs.Common.{◌≡◌, ℕ, ◌<◌, ◌≤◌, max, Bool, true, false, not, ◌&&◌, ◌||◌, ◌⊎◌, inl, inr, nat_le, nat_lt, Option, refl, sym, ap, ◌∙◌, subst, arith}
use Rattle.std.proofs.lemmas.Bool.{le-leb, leb-true, ltb-true, and_from}
use Rattle.php_tree.specs.declared.kind.NodeKind.{NodeKind}
use Rattle.php_tree.specs.declared.kind.NodeKind.TheVariants as k
use Rattle.php_tree.specs.declared.kind.NodeKind.TheVariants.{Paren}
use Rattle.php_tree.specs.declared.token.Token.{Token}
use Rattle.php_tree.specs.declared.version.Version.{Version}
use Rattle.php_tree.specs.declared.version.Version.TheVariants.{V74, V83}
use Rattle.php_tree.specs.Tree.{Forest, Tree, none, leaf, node, ◌+++◌}
use Rattle.php_terminals.specs.declared.terminal.Terminal.{Terminal}
use Rattle.php_terminals.specs.Classify.{terminal}
use Rattle.php_grammar.specs.Accepts.{accepts}
use Rattle.php_grammar.specs.Bases.{is_callee, is_class_base, is_list, is_member_base, is_offset_base, is_target, is_variable, is_variable_expression}
use Rattle.php_grammar.specs.Edges.{edge, edge_from}
use Rattle.php_grammar.specs.Levels.{level}
use Rattle.php_shapes.specs.Nearest.{ends_in_if, ends_in_yield, is_nearest, is_open_if, is_open_yield}
use Rattle.php_shapes.specs.Notation.{Rule, nothing, word, kind, place, inside, ◌~◌, ◌|||◌, many, tokens}
use Rattle.php_shapes.specs.Places.{
  Place,
  Statement,
  Member,
  Operand,
  Left,
  LeftShort,
  OffsetBase,
  MemberBase,
  ClassBase,
  Callee,
  Target,
  TargetOrList,
  ClassName,
  Embedded,
  begins_with_class_name,
  begins_with_variable,
  is_class_name,
  is_expression,
  is_member,
  is_postfixed,
  is_prefix,
  is_statement,
  may_stand,
}
use Rattle.php_shapes.specs.Shapes.{Fits, IsNode, is_nothing, is_word, is_kind, is_place, is_inside, is_both, is_first, is_second, no_more, once_more, is_tokens}
use Rattle.syntax_rules.specs.Around.{Around, within}
use Rattle.syntax_rules.specs.DotPrecedence.{is_dot}
use Rattle.syntax_rules.specs.HashComment.{hash_comment}
use Rattle.rewritten_shapes.proofs.Calm.{is_steady, shown_is, steady_shown}
use Rattle.rewritten_shapes.proofs.Like.{Below, Like, NodeLike, below_max, below_same, like_join, like_leaf, like_nearest, like_node, like_none}
use Rattle.rewritten_shapes.proofs.Shown.{new_parts, new_tree, shown_token}
use Rattle.rewritten_shapes.proofs.Sides.{and_left, and_right, apart_parts, are_apart, stay_apart, still_first}
use Rattle.rewritten_shapes.proofs.Simple.{is_simple, simple_tree}

-- ---- kinds

-- What the new kind of a node may be: it may stand wherever the kind may.
pub record Becomes (k j : NodeKind) : Type 0 where
  pub statement : is_statement k ≡ true → is_statement j ≡ true
  pub member : is_member k ≡ true → is_member j ≡ true
  pub expression : is_expression k ≡ true → is_expression j ≡ true
  pub prefix : is_prefix k ≡ true → (is_prefix j ≡ true) ⊎ (j ≡ Paren)
  pub offset_base : is_offset_base k ≡ true → is_offset_base j ≡ true
  pub member_base : is_member_base k ≡ true → is_member_base j ≡ true
  pub class_base : is_class_base k ≡ true → is_class_base j ≡ true
  pub callee : is_callee k ≡ true → is_callee j ≡ true
  pub target : is_target k ≡ true → is_target j ≡ true
  pub list : is_list k ≡ true → is_list j ≡ true
  pub variable_expression : is_variable_expression k ≡ true → is_variable_expression j ≡ true

pub becomes_same : (k : NodeKind) → Becomes k k
becomes_same k = record {
  statement = λ e. e;
  member = λ e. e;
  expression = λ e. e;
  prefix = λ e. inl e;
  offset_base = λ e. e;
  member_base = λ e. e;
  class_base = λ e. e;
  callee = λ e. e;
  target = λ e. e;
  list = λ e. e;
  variable_expression = λ e. e;
}

pub becomes_offset : Becomes k.BraceOffset k.Offset
becomes_offset = record {
  statement = λ e. cc;
  member = λ e. cc;
  expression = λ e. refl;
  prefix = λ e. absurd cc;
  offset_base = λ e. refl;
  member_base = λ e. refl;
  class_base = λ e. refl;
  callee = λ e. refl;
  target = λ e. refl;
  list = λ e. cc;
  variable_expression = λ e. refl;
}

-- an expression that stands before nothing
abbrev pub is_bare : NodeKind → Bool
is_bare k.Binary = true
is_bare k.Ternary = true
is_bare k.ShortTernary = true
is_bare k.Cast = true
is_bare _ = false

bare_statement : (k : NodeKind) → is_bare k ≡ true → is_statement k ≡ true → ⊥
bare_statement k.Binary e d = cc
bare_statement k.Ternary e d = cc
bare_statement k.ShortTernary e d = cc
bare_statement k.Cast e d = cc
bare_statement _ e d = cc

bare_member : (k : NodeKind) → is_bare k ≡ true → is_member k ≡ true → ⊥
bare_member k.Binary e d = cc
bare_member k.Ternary e d = cc
bare_member k.ShortTernary e d = cc
bare_member k.Cast e d = cc
bare_member _ e d = cc

bare_list : (k : NodeKind) → is_bare k ≡ true → is_list k ≡ true → ⊥
bare_list k.Binary e d = cc
bare_list k.Ternary e d = cc
bare_list k.ShortTernary e d = cc
bare_list k.Cast e d = cc
bare_list _ e d = cc

bare_target : (k : NodeKind) → is_bare k ≡ true → is_target k ≡ true → ⊥
bare_target k.Binary e d = cc
bare_target k.Ternary e d = cc
bare_target k.ShortTernary e d = cc
bare_target k.Cast e d = cc
bare_target _ e d = cc

bare_variable : (k : NodeKind) → is_bare k ≡ true → is_variable_expression k ≡ true → ⊥
bare_variable k.Binary e d = cc
bare_variable k.Ternary e d = cc
bare_variable k.ShortTernary e d = cc
bare_variable k.Cast e d = cc
bare_variable _ e d = cc

pub becomes_paren : (k : NodeKind) → is_bare k ≡ true → Becomes k Paren
becomes_paren k e = record {
  statement = λ d. absurd (bare_statement k e d);
  member = λ d. absurd (bare_member k e d);
  expression = λ d. refl;
  prefix = λ d. inr refl;
  offset_base = λ d. refl;
  member_base = λ d. refl;
  class_base = λ d. refl;
  callee = λ d. refl;
  target = λ d. absurd (bare_target k e d);
  list = λ d. absurd (bare_list k e d);
  variable_expression = λ d. absurd (bare_variable k e d);
}

-- ---- nodes

abbrev pub is_ternary : NodeKind → Bool
is_ternary k.Ternary = true
is_ternary k.ShortTernary = true
is_ternary _ = false

-- What a node becomes: it has the shape, and may stand where the node may.
pub record Good (k : NodeKind) (c : Forest) (x : Tree) : Type 0 where
  pub shaped : IsNode V83 x.0 x.1
  pub like : NodeLike k c x.0 x.1
  pub becomes : Becomes k x.0
  pub levels : Below (level V83 x) (level V74 (k, c))
  pub dot_level : is_dot (k, c) ≡ false → level V83 x ≤ level V74 (k, c)
  -- where it is no `.`, and no ternary, its edge stays tight
  pub dots : is_expression k ≡ true → is_dot (k, c) ≡ false → edge V74 (k, c) ≤ 8 → edge V83 x ≤ edge V74 (k, c)
  pub ternaries : is_expression k ≡ true → is_ternary k ≡ false → edge V74 (k, c) ≤ 18 → edge V83 x ≤ 17

-- each node in some parts becomes a good one, wherever it stands
abbrev pub AllGood : Forest → Type 0
AllGood none = Unit {0}
AllGood (leaf x f) = AllGood f
AllGood (node k c f) = ((a : Option Around) → IsNode V74 k c → Good k c (new_tree a k c)) × AllGood c × AllGood f

pub good_front : (g h : Forest) → AllGood (g +++ h) → AllGood g
good_front none h p = tt
good_front (leaf x g) h p = good_front g h p
good_front (node k c g) h p = (p.0, p.1, good_front g h p.2)

pub good_rest : (g h : Forest) → AllGood (g +++ h) → AllGood h
good_rest none h p = p
good_rest (leaf x g) h p = good_rest g h p
good_rest (node k c g) h p = good_rest g h p.2

pub edge_is : (v : Version) (k : NodeKind) (c : Forest) → edge v (k, c) ≡ max (level v (k, c)) (edge_from v 0 c)
unfolding edge
edge_is v k c = refl

-- ---- places

-- a limit that `.` doesn't cross
abbrev pub steady_limit : ℕ → Bool
steady_limit n = nat_lt n 7 || nat_le 9 n

abbrev pub steady_place : Place → Bool
steady_place (Operand n) = steady_limit n
steady_place (Left n) = steady_limit n
steady_place LeftShort = false
steady_place _ = true

within_limit : (n new old : ℕ) → Below new old → steady_limit n ≡ true → nat_le old n ≡ true → nat_le new n ≡ true
within_limit n new old b e h = go (nat_lt n 7) refl
  where
    go : (x : Bool) → nat_lt n 7 ≡ x → nat_le new n ≡ true
    go true d =
        let lt : n < 7 = ltb-true n 7 d in
        let le : old ≤ n = leb-true old n h in
        let t : new ≤ old = b.tight (omega arith) in
        le-leb new n (omega arith)
    go false d =
        let ge : 9 ≤ n = leb-true 9 n (ap (λ (y : Bool). y || nat_le 9 n) (sym d) ∙ e) in
        let le : old ≤ n = leb-true old n h in
        le-leb new n (omega (arith, b.loose))

operand_by : (l p l' p' : Bool) → (l ≡ true → l' ≡ true) → (p ≡ true → (p' ≡ true) ⊎ (l' ≡ true)) → (l || p) ≡ true → (l' || p') ≡ true
operand_by l p true p' f g e = refl
operand_by true p false p' f g e = absurd (let z : false ≡ true = f refl in cc)
operand_by false true false p' f g e = elim (g refl) [ inl d ↦ d | inr d ↦ absurd cc ]
operand_by false false false p' f g e = cc

or_else : (a b c d : Bool) → (a ≡ true → c ≡ true) → (b ≡ true → d ≡ true) → (a || b) ≡ true → (c || d) ≡ true
or_else true b true d f g e = refl
or_else true b false d f g e = absurd (let z : false ≡ true = f refl in cc)
or_else false b true d f g e = refl
or_else false b false d f g e = g e

paren_level : (n : ℕ) (x : Tree) → x.0 ≡ Paren → nat_le (level V83 x) n ≡ true
paren_level n (k, c) e = ap (λ (j : NodeKind). nat_le (level V83 (j, c)) n) e ∙ le-leb 0 n (omega arith)

both_map : (a b c d : Bool) → (a ≡ true → c ≡ true) → (b ≡ true → d ≡ true) → (a && b) ≡ true → (c && d) ≡ true
both_map a b c d f g e = and_from c d (f (and_left a b e)) (g (and_right a b e))

pub edges_below : (k : NodeKind) (c : Forest) (x : Tree) → NodeLike k c x.0 x.1 → Below (edge V83 x) (edge V74 (k, c))
edges_below k c x g =
    subst (λ (n : ℕ). Below n (edge V74 (k, c))) (sym (edge_is V83 x.0 x.1))
    (subst (Below (max (level V83 (x.0, x.1)) (edge_from V83 0 x.1))) (sym (edge_is V74 k c)) g.edges)

-- a good node may stand where the node may
pub good_stands : (p : Place) (k : NodeKind) (c : Forest) (x : Tree) → Good k c x → steady_place p ≡ true → may_stand V74 p (k, c) ≡ true → may_stand V83 p x ≡ true
good_stands Statement k c x g e m = g.becomes.statement m
good_stands Member k c x g e m = g.becomes.member m
good_stands (Operand n) k c x g e m =
    both_map (is_expression k) (nat_le (level V74 (k, c)) n || is_prefix k) (is_expression x.0) (nat_le (level V83 x) n || is_prefix x.0) g.becomes.expression
    (operand_by (nat_le (level V74 (k, c)) n) (is_prefix k) (nat_le (level V83 x) n) (is_prefix x.0)
    (within_limit n (level V83 x) (level V74 (k, c)) g.levels e)
    (λ d. elim (g.becomes.prefix d) [ inl z ↦ inl z | inr z ↦ inr (paren_level n x z) ]))
    m
good_stands (Left n) k c x g e m =
    both_map (is_expression k) (nat_le (edge V74 (k, c)) n) (is_expression x.0) (nat_le (edge V83 x) n) g.becomes.expression
    (within_limit n (edge V83 x) (edge V74 (k, c)) (edges_below k c x g.like) e) m
good_stands LeftShort k c x g e m = absurd cc
good_stands OffsetBase k c x g e m = g.becomes.offset_base m
good_stands MemberBase k c x g e m = g.becomes.member_base m
good_stands ClassBase k c x g e m = g.becomes.class_base m
good_stands Callee k c x g e m = g.becomes.callee m
good_stands Target k c x g e m = g.becomes.target m
good_stands TargetOrList k c x g e m = or_else (is_target k) (is_list k) (is_target x.0) (is_list x.0) g.becomes.target g.becomes.list m
good_stands ClassName k c x g e m = g.like.begins m
good_stands Embedded k c x g e m =
    both_map (is_variable_expression k) (begins_with_variable (node k c none)) (is_variable_expression x.0) (begins_with_variable (node x.0 x.1 none))
    g.becomes.variable_expression g.like.leads m

-- ---- levels

-- whether the kind alone tells the level of a node
abbrev pub is_settled : NodeKind → Bool
is_settled k.Binary = false
is_settled k.Prefix = false
is_settled k.Yield = false
is_settled _ = true

pub settled_level : (k : NodeKind) (c b : Forest) → is_settled k ≡ true → level V83 (k, b) ≡ level V74 (k, c)
settled_level k.Binary c b e = cc
settled_level k.Prefix c b e = cc
settled_level k.Yield c b e = cc
settled_level _ c b e = refl

if_like : (k : NodeKind) (c b : Forest) → Like c b → is_open_if k b ≡ true → is_open_if k c ≡ true
if_like k.If c b l e = ap not (sym l.same_else) ∙ e
if_like _ c b l e = e

yield_like : (k : NodeKind) (c b : Forest) → is_settled k ≡ true → is_open_yield k b ≡ true → is_open_yield k c ≡ true
yield_like k.Yield c b d e = cc
yield_like _ c b d e = e

-- a node whose parts are alike is alike
pub parts_like : (k : NodeKind) (c b : Forest) → (is_open_yield k b ≡ true → is_open_yield k c ≡ true) → Below (level V83 (k, b)) (level V74 (k, c)) → Like c b → NodeLike k c k b
parts_like k c b y e l = record {
  ifs = or_else (is_open_if k b) (ends_in_if false b) (is_open_if k c) (ends_in_if false c) (if_like k c b l) (l.ifs false false (λ z. z));
  yields = or_else (is_open_yield k b) (ends_in_yield false b) (is_open_yield k c) (ends_in_yield false c) y (l.yields false false (λ z. z));
  edges = below_max (level V83 (k, b)) (level V74 (k, c)) (edge_from V83 0 b) (edge_from V74 0 c) e (l.edges 0 0 (below_same 0));
  begins = both_map (is_class_name k) (begins_with_class_name c) (is_class_name k) (begins_with_class_name b) (λ z. z) l.begins;
  leads = or_else (is_variable k) (is_postfixed k && begins_with_variable c) (is_variable k) (is_postfixed k && begins_with_variable b) (λ z. z)
      (both_map (is_postfixed k) (begins_with_variable c) (is_postfixed k) (begins_with_variable b) (λ z. z) l.leads);
}

pub settled_like : (k : NodeKind) (c b : Forest) → is_settled k ≡ true → Like c b → NodeLike k c k b
settled_like k c b e l =
    parts_like k c b (yield_like k c b e)
    (subst (λ (n : ℕ). Below n (level V74 (k, c))) (sym (settled_level k c b e)) (below_same (level V74 (k, c)))) l

-- ---- rules that are the same in both versions

abbrev pub steady : Rule → Bool
steady nothing = true
steady (word c) = is_steady c
steady (kind k) = is_simple k
steady (place p) = steady_place p
steady (inside k r) = is_simple k && (is_settled k && steady r)
steady (r ~ s) = stay_apart r s && (steady r && steady s)
steady (r ||| s) = steady r && steady s
steady (many r) = stay_apart r r && steady r
steady tokens = false

-- new parts that have the shape, and belong where they did
pub record Kept (r : Rule) (f g : Forest) : Type 0 where
  pub fits : Fits V83 r g
  pub like : Like f g

kept_word : (asked : Terminal) (x : Token) → is_steady asked ≡ true → accepts V74 asked x ≡ true → Kept (word asked) (leaf x none) (leaf (shown_token (hash_comment x)) none)
kept_word asked x e p = record { fits = is_word (steady_shown asked x e p); like = like_leaf x (shown_token (hash_comment x)) (ap terminal (shown_is x)) }

pub kept_both : (r s r2 s2 : Rule) (f g h i j : Forest) → f ≡ g +++ h → Kept r2 g i → Kept s2 h j → Kept (r2 ~ s2) f (i +++ j)
kept_both r s r2 s2 f g h i j d p q = record { fits = is_both p.fits q.fits refl; like = subst (λ (z : Forest). Like z (i +++ j)) (sym d) (like_join g h i j p.like q.like) }

kept_node : (a : Bool → Option Around) (b : Bool) (j : NodeKind) (c : Forest) → is_simple j ≡ true → IsNode V74 j c
    → ((z : Option Around) → IsNode V74 j c → Good j c (new_tree z j c))
    → Kept (kind j) (node j c none) (new_parts a b (node j c none))
kept_node a b j c e n g =
    let good = g (a b) n in
    let same : new_tree (a b) j c ≡ (j, new_parts (within j c) true c) = simple_tree (a b) j c e in
    let here : Good j c (j, new_parts (within j c) true c) = subst (Good j c) same good in
    subst (λ (x : Tree). Kept (kind j) (node j c none) (node x.0 x.1 none)) (sym same)
    (record { fits = is_kind here.shaped; like = like_node j c j (new_parts (within j c) true c) here.like })

kept_place : (a : Bool → Option Around) (b : Bool) (p : Place) (j : NodeKind) (c : Forest) → steady_place p ≡ true
    → may_stand V74 p (j, c) ≡ true → IsNode V74 j c
    → ((z : Option Around) → IsNode V74 j c → Good j c (new_tree z j c))
    → Kept (place p) (node j c none) (new_parts a b (node j c none))
kept_place a b p j c e m n g =
    let good = g (a b) n in
    record {
      fits = is_place (good_stands p j c (new_tree (a b) j c) good e m) good.shaped;
      like = like_node j c (new_tree (a b) j c).0 (new_tree (a b) j c).1 good.like;
    }

kept_inside : (a : Bool → Option Around) (b : Bool) (j : NodeKind) (r : Rule) (c : Forest) → is_simple j ≡ true
    → is_settled j ≡ true → is_nearest c ≡ true → Kept r c (new_parts (within j c) true c)
    → Kept (inside j r) (node j c none) (new_parts a b (node j c none))
kept_inside a b j r c e d near p =
    subst (λ (x : Tree). Kept (inside j r) (node j c none) (node x.0 x.1 none)) (sym (simple_tree (a b) j c e))
    (record {
      fits = is_inside p.fits (like_nearest c (new_parts (within j c) true c) p.like near);
      like = like_node j c j (new_parts (within j c) true c) (settled_like j c (new_parts (within j c) true c) d p.like);
    })

-- the new parts of two rules
pub kept_join : (a : Bool → Option Around) (b : Bool) (r s r2 s2 : Rule) (f g h : Forest) → f ≡ g +++ h → Fits V74 r g
    → Fits V74 s h → stay_apart r s ≡ true → Kept r2 g (new_parts a b g) → Kept s2 h (new_parts a (still_first b g) h)
    → Kept (r2 ~ s2) f (new_parts a b f)
kept_join a b r s r2 s2 f g h d x y e p q =
    let same : new_parts a b f ≡ new_parts a b g +++ new_parts a (still_first b g) h = ap (new_parts a b) d ∙ apart_parts a b g h (are_apart x y e) in
    subst (Kept (r2 ~ s2) f) (sym same) (kept_both r s r2 s2 f g h (new_parts a b g) (new_parts a (still_first b g) h) d p q)

pub kept_many : (a : Bool → Option Around) (b : Bool) (r r2 : Rule) (f g h : Forest) → f ≡ g +++ h → Fits V74 r g
    → Fits V74 (many r) h → stay_apart r r ≡ true → Kept r2 g (new_parts a b g)
    → Kept (many r2) h (new_parts a (still_first b g) h) → Kept (many r2) f (new_parts a b f)
kept_many a b r r2 f g h d x y e p q =
    let same : new_parts a b f ≡ new_parts a b g +++ new_parts a (still_first b g) h = ap (new_parts a b) d ∙ apart_parts a b g h (are_apart x y e) in
    subst (Kept (many r2) f) (sym same)
    (record {
      fits = once_more p.fits q.fits refl;
      like = subst (λ (z : Forest). Like z (new_parts a b g +++ new_parts a (still_first b g) h)) (sym d)
          (like_join g h (new_parts a b g) (new_parts a (still_first b g) h) p.like q.like);
    })

pub kept_first : (r s : Rule) (f g : Forest) → Kept r f g → Kept (r ||| s) f g
kept_first r s f g p = record { fits = is_first p.fits; like = p.like }

pub kept_second : (r s : Rule) (f g : Forest) → Kept s f g → Kept (r ||| s) f g
kept_second r s f g p = record { fits = is_second p.fits; like = p.like }

pub kept : {r : Rule} {f : Forest} → Fits V74 r f → steady r ≡ true → AllGood f → (a : Bool → Option Around) (b : Bool) → Kept r f (new_parts a b f)
kept is_nothing e w a b = record { fits = is_nothing; like = like_none }
kept (is_word {c} {x} p) e w a b = kept_word c x e p
kept (is_kind {k} {c} n) e w a b = kept_node a b k c e n w.0
kept (is_place {p} {k} {c} m n) e w a b = kept_place a b p k c e m n w.0
kept (is_inside {k} {r} {c} x near) e w a b =
    kept_inside a b k r c (and_left (is_simple k) (is_settled k && steady r) e)
    (and_left (is_settled k) (steady r) (and_right (is_simple k) (is_settled k && steady r) e)) near
    (kept x (and_right (is_settled k) (steady r) (and_right (is_simple k) (is_settled k && steady r) e)) w.1 (within k c) true)
kept (is_both {r} {s} {f} {g} {h} x y d) e w a b =
    let z = subst AllGood d w in
    let apart = and_left (stay_apart r s) (steady r && steady s) e in
    let both = and_right (stay_apart r s) (steady r && steady s) e in
    kept_join a b r s r s f g h d x y apart (kept x (and_left (steady r) (steady s) both) (good_front g h z) a b)
    (kept y (and_right (steady r) (steady s) both) (good_rest g h z) a (still_first b g))
kept (is_first {r} {s} {f} x) e w a b = kept_first r s f (new_parts a b f) (kept x (and_left (steady r) (steady s) e) w a b)
kept (is_second {r} {s} {f} x) e w a b = kept_second r s f (new_parts a b f) (kept x (and_right (steady r) (steady s) e) w a b)
kept no_more e w a b = record { fits = no_more; like = like_none }
kept (once_more {r} {f} {g} {h} x y d) e w a b =
    let z = subst AllGood d w in
    kept_many a b r r f g h d x y (and_left (stay_apart r r) (steady r) e)
    (kept x (and_right (stay_apart r r) (steady r) e) (good_front g h z) a b)
    (kept y e (good_rest g h z) a (still_first b g))
kept (is_tokens p) e w a b = cc
