-- Operators between two operands: where 8.3 has another place for an operand, it stands in parentheses.
use Rattle.std.proofs.Common.{
  ◌≡◌,
  ℕ,
  ◌≤◌,
  max,
  Bool,
  true,
  false,
  ◌&&◌,
  ◌||◌,
  ◌⊎◌,
  inl,
  inr,
  if◌then◌else◌,
  nat_le,
  codes,
  List,
  [],
  ◌∷◌,
  ◌++◌,
  Some,
  refl,
  sym,
  ap,
  ◌∙◌,
  subst,
  arith,
}
use Rattle.std.specs.Str.{bytes_eq}
use Rattle.std.proofs.lemmas.Bool.{le-leb, leb-true, and_from}
use Rattle.std.proofs.lemmas.Slice.Eq.{bytes_eq-Decides}
use Rattle.php_tree.specs.declared.kind.NodeKind.{NodeKind}
use Rattle.php_tree.specs.declared.kind.NodeKind.TheVariants as k
use Rattle.php_tree.specs.declared.kind.NodeKind.TheVariants.{Paren, Binary}
use Rattle.php_tree.specs.declared.token.Token.{Token}
use Rattle.php_tree.specs.declared.version.Version.TheVariants.{V74, V83}
use Rattle.php_tree.specs.Tree.{Forest, Tree, none, leaf, node}
use Rattle.php_terminals.specs.declared.terminal.Terminal.{Terminal}
use Rattle.php_terminals.specs.declared.terminal.Terminal.TheVariants as t
use Rattle.php_terminals.specs.Classify.{terminal}
use Rattle.php_grammar.specs.Accepts.{accepts, same_class}
use Rattle.php_grammar.specs.Edges.{edge}
use Rattle.php_grammar.specs.Levels.{binary_level, level}
use Rattle.php_shapes.specs.Nearest.{is_nearest}
use Rattle.php_shapes.specs.Notation.{word, place, ◌~◌}
use Rattle.php_shapes.specs.Operators.{binary}
use Rattle.php_shapes.specs.Places.{Left, Operand, is_expression, is_prefix, may_stand}
use Rattle.php_shapes.specs.Shapes.{Fits, IsNode, is_both, is_first, is_node, is_place, is_second, is_word}
use Rattle.tracked_changes.specs.patches.Patches.{Wrapping, InParens}
use Rattle.syntax_rules.specs.Around.{Around, kind_if_first, operator_of}
use Rattle.syntax_rules.specs.DotPrecedence.{is_dot, is_regrouped, takes_apart}
use Rattle.syntax_rules.specs.HashComment.{hash_comment}
use Rattle.syntax_rules.specs.NestedTernary as nested
use Rattle.rewritten_shapes.proofs.Calm.{shown_is}
use Rattle.rewritten_shapes.proofs.Kept.{Good, Kept, becomes_same, edge_is, edges_below, good_stands, is_ternary, kept, parts_like}
use Rattle.rewritten_shapes.proofs.Like.{Below, Like, like_join, like_leaf, like_nearest, like_node}
use Rattle.rewritten_shapes.proofs.OperatorWords.{dot_level_is}
use Rattle.rewritten_shapes.proofs.Same.{lines_fine}
use Rattle.rewritten_shapes.proofs.Shown.{changed_tree, in_paren, new_tree, new_tree_is, shown_token, wrapped}
use Rattle.rewritten_shapes.proofs.Sides.{and_left, and_right}
use Rattle.rewritten_shapes.proofs.Wrapped.{paren_edge}

-- ---- a last operand

-- a node that ends in an operand
pub record EndsIn (k : NodeKind) (c b : Forest) (i : NodeKind) (e : Forest) (z : Tree) (r : ℕ) : Type 0 where
  pub old : edge V74 (k, c) ≡ max (level V74 (k, c)) (edge V74 (i, e))
  pub new : edge V83 (k, b) ≡ max (level V83 (k, b)) (edge V83 z)
  pub stands : may_stand V74 (Operand r) (i, e) ≡ true
  -- where the operand is a `.`
  pub as_dot : is_dot (i, e) ≡ true → (level V74 (i, e) ≡ 7) × (is_prefix i ≡ false)
  -- it is too loose for the place, or the node is looser, or it stands in parentheses
  pub loose : (r ≤ 6) ⊎ ((9 ≤ level V74 (k, c)) ⊎ (is_dot (i, e) ≡ true → edge V83 z ≡ 0))
  -- a ternary is too loose for the place, or the node is looser
  pub tight : (r ≤ 17) ⊎ (19 ≤ level V74 (k, c))
  pub same : is_dot (k, c) ≡ false → level V83 (k, b) ≤ level V74 (k, c)
  pub low : level V74 (k, c) ≤ 18 → level V83 (k, b) ≤ 17

operand_level : (n r : ℕ) (x p : Bool) → p ≡ false → (x && (nat_le n r || p)) ≡ true → n ≤ r
operand_level n r true p d e = go (nat_le n r) refl
  where
    go : (b : Bool) → nat_le n r ≡ b → n ≤ r
    go true q = leb-true n r q
    go false q = absurd (let z : false ≡ true = sym (ap (λ (y : Bool). y || p) q ∙ d) ∙ e in cc)
operand_level n r false p d e = absurd cc

ternary_level : (i : NodeKind) (e : Forest) → is_ternary i ≡ true → (level V74 (i, e) ≡ 18) × (is_prefix i ≡ false)
ternary_level k.Ternary e d = (refl, refl)
ternary_level k.ShortTernary e d = (refl, refl)
ternary_level _ e d = absurd cc

pub dots_by : (k : NodeKind) (c b : Forest) (i : NodeKind) (e : Forest) (z : Tree) (r : ℕ) → EndsIn k c b i e z r
    → Good i e z → is_dot (k, c) ≡ false → edge V74 (k, c) ≤ 8 → edge V83 (k, b) ≤ edge V74 (k, c)
dots_by k c b i e z r p g nd h = go (is_dot (i, e)) refl
  where
    at : is_expression i ≡ true
    at = and_left (is_expression i) (nat_le (level V74 (i, e)) r || is_prefix i) p.stands

    go : (d : Bool) → is_dot (i, e) ≡ d → edge V83 (k, b) ≤ edge V74 (k, c)
    go false d =
        let a = g.dots at d (omega (arith, p.old, h)) in
        omega (arith, p.old, p.new, p.same nd, a)
    go true d =
        let y = p.as_dot d in
        let l : level V74 (i, e) ≤ r = operand_level (level V74 (i, e)) r (is_expression i) (is_prefix i) y.1 p.stands in
        elim p.loose [
          | inl u ↦ absurd (omega (arith, u, l, y.0))
          | inr w ↦ elim w [
            | inl u ↦ absurd (omega (arith, u, p.old, h))
            | inr u ↦ omega (arith, u d, p.old, p.new, p.same nd)
          ]
        ]

pub ternaries_by : (k : NodeKind) (c b : Forest) (i : NodeKind) (e : Forest) (z : Tree) (r : ℕ) → EndsIn k c b i e z r → Good i e z → edge V74 (k, c) ≤ 18 → edge V83 (k, b) ≤ 17
ternaries_by k c b i e z r p g h = go (is_ternary i) refl
  where
    at : is_expression i ≡ true
    at = and_left (is_expression i) (nat_le (level V74 (i, e)) r || is_prefix i) p.stands

    go : (d : Bool) → is_ternary i ≡ d → edge V83 (k, b) ≤ 17
    go false d =
        let a = g.ternaries at d (omega (arith, p.old, h)) in
        let l = p.low (omega (arith, p.old, h)) in
        omega (arith, p.new, a, l)
    go true d =
        let y = ternary_level i e d in
        let l : level V74 (i, e) ≤ r = operand_level (level V74 (i, e)) r (is_expression i) (is_prefix i) y.1 p.stands in
        elim p.tight [
          | inl u ↦ absurd (omega (arith, u, l, y.0))
          | inr u ↦ absurd (omega (arith, u, p.old, h))
        ]

-- ---- classes of operators

own_power : (own : Terminal) → same_class t.Power own ≡ true → own ≡ t.Power
own_power t.Power e = refl
own_power _ e = absurd cc

own_factor : (own : Terminal) → same_class t.Factor own ≡ true → own ≡ t.Factor
own_factor t.Factor e = refl
own_factor _ e = absurd cc

own_plus : (own : Terminal) → same_class t.Plus own ≡ true → own ≡ t.Plus
own_plus t.Plus e = refl
own_plus _ e = absurd cc

own_minus : (own : Terminal) → same_class t.Minus own ≡ true → own ≡ t.Minus
own_minus t.Minus e = refl
own_minus _ e = absurd cc

own_shift : (own : Terminal) → same_class t.Shift own ≡ true → own ≡ t.Shift
own_shift t.Shift e = refl
own_shift _ e = absurd cc

own_dot : (own : Terminal) → same_class t.Dot own ≡ true → own ≡ t.Dot
own_dot t.Dot e = refl
own_dot _ e = absurd cc

own_order : (own : Terminal) → same_class t.Order own ≡ true → own ≡ t.Order
own_order t.Order e = refl
own_order _ e = absurd cc

own_equality : (own : Terminal) → same_class t.Equality own ≡ true → own ≡ t.Equality
own_equality t.Equality e = refl
own_equality _ e = absurd cc

own_ampersand : (own : Terminal) → same_class t.Ampersand own ≡ true → own ≡ t.Ampersand
own_ampersand t.Ampersand e = refl
own_ampersand _ e = absurd cc

own_caret : (own : Terminal) → same_class t.Caret own ≡ true → own ≡ t.Caret
own_caret t.Caret e = refl
own_caret _ e = absurd cc

own_bar : (own : Terminal) → same_class t.Bar own ≡ true → own ≡ t.Bar
own_bar t.Bar e = refl
own_bar _ e = absurd cc

own_booleanand : (own : Terminal) → same_class t.BooleanAnd own ≡ true → own ≡ t.BooleanAnd
own_booleanand t.BooleanAnd e = refl
own_booleanand _ e = absurd cc

own_booleanor : (own : Terminal) → same_class t.BooleanOr own ≡ true → own ≡ t.BooleanOr
own_booleanor t.BooleanOr e = refl
own_booleanor _ e = absurd cc

own_coalesce : (own : Terminal) → same_class t.Coalesce own ≡ true → own ≡ t.Coalesce
own_coalesce t.Coalesce e = refl
own_coalesce _ e = absurd cc

own_and : (own : Terminal) → same_class t.And own ≡ true → own ≡ t.And
own_and t.And e = refl
own_and _ e = absurd cc

own_xor : (own : Terminal) → same_class t.Xor own ≡ true → own ≡ t.Xor
own_xor t.Xor e = refl
own_xor _ e = absurd cc

own_or : (own : Terminal) → same_class t.Or own ≡ true → own ≡ t.Or
own_or t.Or e = refl
own_or _ e = absurd cc

-- ---- two operands

-- parts with an operator between two operands
pub record Two (c : Forest) (l : ℕ) (op : Terminal) (r : ℕ) : Type 0 where
  pub j : NodeKind
  pub d : Forest
  pub x : Token
  pub i : NodeKind
  pub e : Forest
  pub same : c ≡ node j d (leaf x (node i e none))
  pub left : may_stand V74 (Left l) (j, d) ≡ true
  pub left_node : IsNode V74 j d
  pub takes : accepts V74 op x ≡ true
  pub right : may_stand V74 (Operand r) (i, e) ≡ true
  pub right_node : IsNode V74 i e

pub two : (l r : ℕ) (op : Terminal) (c : Forest) → Fits V74 (place (Left l) ~ (word op ~ place (Operand r))) c → Two c l op r
two l r op c (is_both (is_place {k = j} {c = d} m n) (is_both (is_word {x} p) (is_place {k = i} {c = e} q o) w) v) = record {
  j = j;
  d = d;
  x = x;
  i = i;
  e = e;
  same = v ∙ ap (node j d) w;
  left = m;
  left_node = n;
  takes = p;
  right = q;
  right_node = o;
}

dot_binary : (i : NodeKind) (e : Forest) → is_dot (i, e) ≡ true → i ≡ Binary
dot_binary k.Binary e d = refl
dot_binary _ e d = absurd cc

-- the level of an operator by its class
pub record Level (op : Terminal) (old new : ℕ) : Type 0 where
  pub takes : (x : Token) → accepts V74 op x ≡ true → same_class op (terminal x) ≡ true
  pub before : (own : Terminal) → same_class op own ≡ true → binary_level V74 own ≡ old
  pub after : (own : Terminal) → same_class op own ≡ true → binary_level V83 own ≡ new

pub level_power : Level t.Power 2 2
level_power = record { takes = λ x e. e; before = λ own e. ap (binary_level V74) (own_power own e); after = λ own e. ap (binary_level V83) (own_power own e) }

pub level_factor : Level t.Factor 6 6
level_factor = record { takes = λ x e. e; before = λ own e. ap (binary_level V74) (own_factor own e); after = λ own e. ap (binary_level V83) (own_factor own e) }

pub level_plus : Level t.Plus 7 7
level_plus = record { takes = λ x e. e; before = λ own e. ap (binary_level V74) (own_plus own e); after = λ own e. ap (binary_level V83) (own_plus own e) }

pub level_minus : Level t.Minus 7 7
level_minus = record { takes = λ x e. e; before = λ own e. ap (binary_level V74) (own_minus own e); after = λ own e. ap (binary_level V83) (own_minus own e) }

pub level_shift : Level t.Shift 8 8
level_shift = record { takes = λ x e. e; before = λ own e. ap (binary_level V74) (own_shift own e); after = λ own e. ap (binary_level V83) (own_shift own e) }

pub level_dot : Level t.Dot 7 9
level_dot = record { takes = λ x e. e; before = λ own e. ap (binary_level V74) (own_dot own e); after = λ own e. ap (binary_level V83) (own_dot own e) }

pub level_order : Level t.Order 10 10
level_order = record { takes = λ x e. e; before = λ own e. ap (binary_level V74) (own_order own e); after = λ own e. ap (binary_level V83) (own_order own e) }

pub level_equality : Level t.Equality 11 11
level_equality = record { takes = λ x e. e; before = λ own e. ap (binary_level V74) (own_equality own e); after = λ own e. ap (binary_level V83) (own_equality own e) }

pub level_ampersand : Level t.Ampersand 12 12
level_ampersand = record { takes = λ x e. e; before = λ own e. ap (binary_level V74) (own_ampersand own e); after = λ own e. ap (binary_level V83) (own_ampersand own e) }

pub level_caret : Level t.Caret 13 13
level_caret = record { takes = λ x e. e; before = λ own e. ap (binary_level V74) (own_caret own e); after = λ own e. ap (binary_level V83) (own_caret own e) }

pub level_bar : Level t.Bar 14 14
level_bar = record { takes = λ x e. e; before = λ own e. ap (binary_level V74) (own_bar own e); after = λ own e. ap (binary_level V83) (own_bar own e) }

pub level_booleanand : Level t.BooleanAnd 15 15
level_booleanand = record { takes = λ x e. e; before = λ own e. ap (binary_level V74) (own_booleanand own e); after = λ own e. ap (binary_level V83) (own_booleanand own e) }

pub level_booleanor : Level t.BooleanOr 16 16
level_booleanor = record { takes = λ x e. e; before = λ own e. ap (binary_level V74) (own_booleanor own e); after = λ own e. ap (binary_level V83) (own_booleanor own e) }

pub level_coalesce : Level t.Coalesce 17 17
level_coalesce = record { takes = λ x e. e; before = λ own e. ap (binary_level V74) (own_coalesce own e); after = λ own e. ap (binary_level V83) (own_coalesce own e) }

pub level_and : Level t.And 21 21
level_and = record { takes = λ x e. e; before = λ own e. ap (binary_level V74) (own_and own e); after = λ own e. ap (binary_level V83) (own_and own e) }

pub level_xor : Level t.Xor 22 22
level_xor = record { takes = λ x e. e; before = λ own e. ap (binary_level V74) (own_xor own e); after = λ own e. ap (binary_level V83) (own_xor own e) }

pub level_or : Level t.Or 23 23
level_or = record { takes = λ x e. e; before = λ own e. ap (binary_level V74) (own_or own e); after = λ own e. ap (binary_level V83) (own_or own e) }

dot_two : (l r : ℕ) (op : Terminal) (old new : ℕ) (c : Forest) → 1 ≤ old → Level op old new
    → Fits V74 (place (Left l) ~ (word op ~ place (Operand r))) c → is_dot (Binary, c) ≡ true
    → level V74 (Binary, c) ≡ 7
dot_two l r op old new c h v f d =
    let y = two l r op c f in
    let text : y.x.text ≡ codes "." = (bytes_eq-Decides y.x.text (codes ".")).0 (ap (λ (f : Forest). bytes_eq (operator_of f) (codes ".")) (sym y.same) ∙ d) in
    let own = v.before (terminal y.x) (v.takes y.x y.takes) in
    let same : level V74 (Binary, c) ≡ binary_level V74 (terminal y.x) = ap (λ (f : Forest). level V74 (Binary, f)) y.same in
    elim (dot_level_is y.x text) [
      | inl z ↦ absurd (omega (arith, z, own, h))
      | inr z ↦ same ∙ z
    ]

-- the level of a node `.`
dot_fits : (c : Forest) → Fits V74 (binary V74) c → is_dot (Binary, c) ≡ true → level V74 (Binary, c) ≡ 7
dot_fits c (is_first p) d = dot_two 1 2 t.Power 2 2 c (omega arith) level_power p d
dot_fits c (is_second (is_first p)) d = dot_two 6 5 t.Factor 6 6 c (omega arith) level_factor p d
dot_fits c (is_second (is_second (is_first p))) d = dot_two 7 6 t.Plus 7 7 c (omega arith) level_plus p d
dot_fits c (is_second (is_second (is_second (is_first p)))) d = dot_two 7 6 t.Minus 7 7 c (omega arith) level_minus p d
dot_fits c (is_second (is_second (is_second (is_second (is_first p))))) d = dot_two 8 7 t.Shift 8 8 c (omega arith) level_shift p d
dot_fits c (is_second (is_second (is_second (is_second (is_second (is_first p)))))) d = dot_two 7 6 t.Dot 7 9 c (omega arith) level_dot p d
dot_fits c (is_second (is_second (is_second (is_second (is_second (is_second (is_first p))))))) d = dot_two 9 9 t.Order 10 10 c (omega arith) level_order p d
dot_fits c (is_second (is_second (is_second (is_second (is_second (is_second (is_second (is_first p)))))))) d = dot_two 10 10 t.Equality 11 11 c (omega arith) level_equality p d
dot_fits c (is_second (is_second (is_second (is_second (is_second
    (is_second (is_second (is_second (is_first p))))))))) d =
    dot_two 12 11 t.Ampersand 12 12 c (omega arith) level_ampersand p d
dot_fits c (is_second (is_second (is_second (is_second (is_second
    (is_second (is_second (is_second (is_second (is_first p)))))))))) d =
    dot_two 13 12 t.Caret 13 13 c (omega arith) level_caret p d
dot_fits c (is_second (is_second (is_second (is_second (is_second
    (is_second (is_second (is_second (is_second (is_second (is_first p))))))))))) d =
    dot_two 14 13 t.Bar 14 14 c (omega arith) level_bar p d
dot_fits c (is_second (is_second (is_second (is_second (is_second
    (is_second (is_second (is_second (is_second (is_second (is_second (is_first p)))))))))))) d =
    dot_two 15 14 t.BooleanAnd 15 15 c (omega arith) level_booleanand p d
dot_fits c (is_second (is_second (is_second (is_second (is_second
    (is_second (is_second (is_second (is_second (is_second (is_second (is_second (is_first p))))))))))))) d =
    dot_two 16 15 t.BooleanOr 16 16 c (omega arith) level_booleanor p d
dot_fits c (is_second (is_second (is_second (is_second (is_second
    (is_second (is_second (is_second (is_second (is_second (is_second (is_second (is_second (is_first p))))))))))))))
    d = dot_two 16 17 t.Coalesce 17 17 c (omega arith) level_coalesce p d
dot_fits c (is_second (is_second (is_second (is_second (is_second
    (is_second (is_second (is_second (is_second (is_second (is_second
    (is_second (is_second (is_second (is_first p))))))))))))))) d =
    dot_two 21 20 t.And 21 21 c (omega arith) level_and p d
dot_fits c (is_second (is_second (is_second (is_second (is_second
    (is_second (is_second (is_second (is_second (is_second (is_second
    (is_second (is_second (is_second (is_second (is_first p)))))))))))))))) d =
    dot_two 22 21 t.Xor 22 22 c (omega arith) level_xor p d
dot_fits c (is_second (is_second (is_second (is_second (is_second
    (is_second (is_second (is_second (is_second (is_second (is_second
    (is_second (is_second (is_second (is_second (is_second (p))))))))))))))))) d =
    dot_two 23 22 t.Or 23 23 c (omega arith) level_or p d

pub dot_node : (i : NodeKind) (e : Forest) → IsNode V74 i e → is_dot (i, e) ≡ true → (level V74 (i, e) ≡ 7) × (is_prefix i ≡ false)
dot_node k.Binary e (is_node f near fine) d = (dot_fits e f d, refl)
dot_node _ e n d = absurd cc

-- ---- operands in parentheses

wrapped_last : (ws : List Wrapping) (x : Tree) → (y : Tree) × (wrapped (ws ++ InParens ∷ []) x ≡ in_paren y)
wrapped_last [] x = (x, refl)
wrapped_last (InParens ∷ ws) x = (wrapped (ws ++ InParens ∷ []) x, refl)

pub dot_wrapped : (a : Around) (j : NodeKind) (d : Forest) → is_dot (j, d) ≡ true → takes_apart a ≡ true → (y : Tree) × (new_tree (Some a) j d ≡ in_paren y)
dot_wrapped a j d e h =
    let on : is_regrouped (Some a) (j, d) ≡ true = and_from (is_dot (j, d)) (takes_apart a) e h in
    let ws = nested.around (kind_if_first (Some a)) j in
    let z = wrapped_last ws (changed_tree j d) in
    (z.0, new_tree_is (Some a) j d ∙ ap (λ (b : Bool). wrapped (ws ++ (if b then InParens ∷ [] else [])) (changed_tree j d)) on ∙ z.1)

pub dot_edge : (a : Around) (j : NodeKind) (d : Forest) → is_dot (j, d) ≡ true → takes_apart a ≡ true → edge V83 (new_tree (Some a) j d) ≡ 0
dot_edge a j d e h = let y = dot_wrapped a j d e h in ap (edge V83) y.1 ∙ paren_edge y.0

dot_level : (a : Around) (j : NodeKind) (d : Forest) → is_dot (j, d) ≡ true → takes_apart a ≡ true → level V83 (new_tree (Some a) j d) ≡ 0
dot_level a j d e h = let y = dot_wrapped a j d e h in ap (level V83) y.1

-- a left operand that 8.3 would take apart
pub left_tight : (n : ℕ) (a : Around) (j : NodeKind) (d : Forest) → n ≤ 8 → takes_apart a ≡ true
    → Good j d (new_tree (Some a) j d) → may_stand V74 (Left n) (j, d) ≡ true
    → may_stand V83 (Left n) (new_tree (Some a) j d) ≡ true
left_tight n a j d low h g m =
    and_from (is_expression x.0) (nat_le (edge V83 x) n) (g.becomes.expression at) (le-leb (edge V83 x) n (go (is_dot (j, d)) refl))
  where
    x : Tree
    x = new_tree (Some a) j d

    at : is_expression j ≡ true
    at = and_left (is_expression j) (nat_le (edge V74 (j, d)) n) m

    old : edge V74 (j, d) ≤ n
    old = leb-true (edge V74 (j, d)) n (and_right (is_expression j) (nat_le (edge V74 (j, d)) n) m)

    go : (b : Bool) → is_dot (j, d) ≡ b → edge V83 (new_tree (Some a) j d) ≤ n
    go true e = omega (arith, dot_edge a j d e h)
    go false e = omega (arith, g.dots at e (omega (arith, old, low)), old)

-- a left operand of `.`
pub left_dot : (j : NodeKind) (d : Forest) (x : Tree) → Good j d x → may_stand V74 (Left 7) (j, d) ≡ true → may_stand V83 (Left 9) x ≡ true
left_dot j d x g m =
    let old : edge V74 (j, d) ≤ 7 = leb-true (edge V74 (j, d)) 7 (and_right (is_expression j) (nat_le (edge V74 (j, d)) 7) m) in
    let new = (edges_below j d x g.like).loose in
    and_from (is_expression x.0) (nat_le (edge V83 x) 9)
    (g.becomes.expression (and_left (is_expression j) (nat_le (edge V74 (j, d)) 7) m))
    (le-leb (edge V83 x) 9 (omega (arith, old, new)))

-- a right operand of a shift
pub right_tight : (a : Around) (j : NodeKind) (d : Forest) → takes_apart a ≡ true → Good j d (new_tree (Some a) j d)
    → may_stand V74 (Operand 7) (j, d) ≡ true → may_stand V83 (Operand 7) (new_tree (Some a) j d) ≡ true
right_tight a j d h g m =
    and_from (is_expression x.0) (nat_le (level V83 x) 7 || is_prefix x.0) (g.becomes.expression at) (go (is_dot (j, d)) refl)
  where
    x : Tree
    x = new_tree (Some a) j d

    at : is_expression j ≡ true
    at = and_left (is_expression j) (nat_le (level V74 (j, d)) 7 || is_prefix j) m

    paren : (y : Tree) → y.0 ≡ Paren → (nat_le (level V83 y) 7 || is_prefix y.0) ≡ true
    paren y e = ap (λ (i : NodeKind). nat_le (level V83 (i, y.1)) 7 || is_prefix i) e

    or_true : (p : Bool) → p ≡ true → (q : Bool) → (q || p) ≡ true
    or_true p e true = refl
    or_true p e false = e

    by : (p q : Bool) → nat_le (level V74 (j, d)) 7 ≡ p → is_prefix j ≡ q → (p || q) ≡ true → level V83 x ≤ level V74 (j, d) → (nat_le (level V83 x) 7 || is_prefix x.0) ≡ true
    by true q e w z l =
        let o : level V74 (j, d) ≤ 7 = leb-true (level V74 (j, d)) 7 e in
        ap (λ (y : Bool). y || is_prefix x.0) (le-leb (level V83 x) 7 (omega (arith, o, l)))
    by false true e w z l = elim (g.becomes.prefix w) [ inl u ↦ or_true (is_prefix x.0) u (nat_le (level V83 x) 7) | inr u ↦ paren x u ]
    by false false e w z l = absurd cc

    go : (b : Bool) → is_dot (j, d) ≡ b → (nat_le (level V83 x) 7 || is_prefix x.0) ≡ true
    go true e = ap (λ (y : Bool). y || is_prefix x.0) (le-leb (level V83 x) 7 (omega (arith, dot_level a j d e h)))
    go false e = by (nat_le (level V74 (j, d)) 7) (is_prefix j) refl refl (and_right (is_expression j) (nat_le (level V74 (j, d)) 7 || is_prefix j) m) (g.dot_level e)

-- a right operand of `.`
pub right_dot : (j : NodeKind) (d : Forest) (x : Tree) → Good j d x → may_stand V74 (Operand 6) (j, d) ≡ true → may_stand V83 (Operand 8) x ≡ true
right_dot j d x g m = wider (good_stands (Operand 6) j d x g refl m)
  where
    more : (n : ℕ) (q : Bool) → (nat_le n 6 || q) ≡ true → (nat_le n 8 || q) ≡ true
    more n q e = go (nat_le n 6) refl e
      where
        go : (b : Bool) → nat_le n 6 ≡ b → (b || q) ≡ true → (nat_le n 8 || q) ≡ true
        go true w z = let o : n ≤ 6 = leb-true n 6 w in ap (λ (y : Bool). y || q) (le-leb n 8 (omega (arith, o)))
        go false w z = last (nat_le n 8) z
          where
            last : (y : Bool) → q ≡ true → (y || q) ≡ true
            last true z = refl
            last false z = z

    wider : may_stand V83 (Operand 6) x ≡ true → may_stand V83 (Operand 8) x ≡ true
    wider m = and_from (is_expression x.0) (nat_le (level V83 x) 8 || is_prefix x.0)
        (and_left (is_expression x.0) (nat_le (level V83 x) 6 || is_prefix x.0) m)
        (more (level V83 x) (is_prefix x.0) (and_right (is_expression x.0) (nat_le (level V83 x) 6 || is_prefix x.0)
        m))

-- ---- nodes of two operands

-- the parts of a node of two operands
abbrev pub pair : NodeKind → Forest → Token → NodeKind → Forest → Forest
pair j d x i e = node j d (leaf x (node i e none))

pub pair_kept : (j : NodeKind) (d : Forest) (x : Token) (i : NodeKind) (e : Forest) (y z : Tree) (l r : ℕ)
    (op : Terminal) → Good j d y → Good i e z → accepts V83 op (shown_token (hash_comment x)) ≡ true
    → may_stand V83 (Left l) y ≡ true → may_stand V83 (Operand r) z ≡ true
    → Kept (place (Left l) ~ (word op ~ place (Operand r))) (pair j d x i e)
    (pair y.0 y.1 (shown_token (hash_comment x)) z.0 z.1)
pair_kept j d x i e y z l r op g h p m n = record {
  fits = is_both (is_place m g.shaped) (is_both (is_word p) (is_place n h.shaped) refl) refl;
  like = like_join (node j d none) (leaf x (node i e none)) (node y.0 y.1 none) (leaf (shown_token (hash_comment x)) (node z.0 z.1 none))
      (like_node j d y.0 y.1 g.like)
      (like_join (leaf x none) (node i e none) (leaf (shown_token (hash_comment x)) none) (node z.0 z.1 none)
      (like_leaf x (shown_token (hash_comment x)) (ap terminal (shown_is x))) (like_node i e z.0 z.1 h.like));
}

no_yield : (c b : Forest) → Like c b → Like c b
no_yield c b l = l

pub pair_good : (j : NodeKind) (d : Forest) (x : Token) (i : NodeKind) (e : Forest) (y z : Tree) (r old new : ℕ) (op : Terminal)
    → Level op old new → accepts V74 op x ≡ true → Good i e z → IsNode V74 i e → may_stand V74 (Operand r) (i, e) ≡ true
    → Kept (binary V83) (pair j d x i e) (pair y.0 y.1 (shown_token (hash_comment x)) z.0 z.1) → is_nearest (pair j d x i e) ≡ true
    → (r ≤ 6) ⊎ ((9 ≤ old) ⊎ (is_dot (i, e) ≡ true → edge V83 z ≡ 0)) → (r ≤ 17) ⊎ (19 ≤ old)
    → (bytes_eq x.text (codes ".") ≡ false → new ≤ old) → (old ≤ 18 → new ≤ 17) → Below new old
    → Good Binary (pair j d x i e) (Binary, pair y.0 y.1 (shown_token (hash_comment x)) z.0 z.1)
pair_good j d x i e y z r old new op v p g n m kept near loose tight same low below = record {
  shaped = is_node kept.fits (like_nearest c b kept.like near) (lines_fine Binary b refl);
  like = parts_like Binary c b (λ u. u) levels kept.like;
  becomes = becomes_same Binary;
  levels = levels;
  dot_level = λ u. omega (arith, was, is, same u);
  dots = λ u w h. dots_by Binary c b i e z r ends g w h;
  ternaries = λ u w h. ternaries_by Binary c b i e z r ends g h;
}
  where
    c : Forest
    c = pair j d x i e

    b : Forest
    b = pair y.0 y.1 (shown_token (hash_comment x)) z.0 z.1

    own : same_class op (terminal x) ≡ true
    own = v.takes x p

    was : level V74 (Binary, pair j d x i e) ≡ old
    was = v.before (terminal x) own

    is : level V83 (Binary, pair y.0 y.1 (shown_token (hash_comment x)) z.0 z.1) ≡ new
    is = ap (λ (u : Token). binary_level V83 (terminal u)) (shown_is x) ∙ v.after (terminal x) own

    levels : Below (level V83 (Binary, pair y.0 y.1 (shown_token (hash_comment x)) z.0 z.1)) (level V74 (Binary, pair j d x i e))
    levels = subst (λ (u : ℕ). Below u (level V74 (Binary, pair j d x i e))) (sym is) (subst (Below new) (sym was) below)

    ends : EndsIn Binary (pair j d x i e) (pair y.0 y.1 (shown_token (hash_comment x)) z.0 z.1) i e z r
    ends = record {
      old = edge_is V74 Binary (pair j d x i e) ∙ ap (max (level V74 (Binary, pair j d x i e))) (sym (edge_is V74 i e));
      new = edge_is V83 Binary (pair y.0 y.1 (shown_token (hash_comment x)) z.0 z.1)
          ∙ ap (max (level V83 (Binary, pair y.0 y.1 (shown_token (hash_comment x)) z.0 z.1)))
          (sym (edge_is V83 z.0 z.1));
      stands = m;
      as_dot = dot_node i e n;
      loose = elim loose [ inl u ↦ inl u | inr u ↦ inr (elim u [ inl w ↦ inl (omega (arith, was, w)) | inr w ↦ inr w ]) ];
      tight = elim tight [ inl u ↦ inl u | inr u ↦ inr (omega (arith, was, u)) ];
      same = λ u. omega (arith, was, is, same u);
      low = λ u. omega (arith, is, low (omega (arith, was, u)));
    }
