-- What new parts have of the parts that they stand for: nothing more belongs elsewhere, and edges are at most as loose, but for
-- that of `.`.
use Rattle.std.proofs.Common.{◌≡◌, ℕ, ◌<◌, ◌≤◌, max, Bool, true, false, not, ◌&&◌, ◌||◌, refl, sym, ap, ◌∙◌, subst, arith}
use Rattle.std.proofs.lemmas.Bool.{and_from}
use Rattle.php_tree.specs.declared.kind.NodeKind.{NodeKind}
use Rattle.php_tree.specs.declared.token.Token.{Token}
use Rattle.php_tree.specs.declared.version.Version.{Version}
use Rattle.php_tree.specs.declared.version.Version.TheVariants.{V74, V83}
use Rattle.php_tree.specs.Tree.{Forest, none, leaf, node, ◌+++◌}
use Rattle.php_terminals.specs.declared.terminal.Terminal.{Terminal}
use Rattle.php_terminals.specs.Classify.{terminal}
use Rattle.php_grammar.specs.Edges.{edge_from}
use Rattle.php_grammar.specs.Levels.{level}
use Rattle.php_shapes.specs.Nearest.{arrows_are_nearest, elses_are_nearest, ends_in_if, ends_in_yield, goes_on_if, has_else, is_else, is_nearest, is_open_if, is_open_yield, is_to}
use Rattle.php_shapes.specs.Places.{begins_with_class_name, begins_with_variable, is_class_name}
use Rattle.rewritten_shapes.proofs.Sides.{and_left, and_right}

-- A level or an edge is at most as loose as before; one from 7 on may become that of `.`.
pub record Below (new old : ℕ) : Type 0 where
  pub tight : old < 7 → new ≤ old
  pub loose : new ≤ max old 9

pub below_same : (n : ℕ) → Below n n
below_same n = record { tight = λ h. omega arith; loose = omega arith }

pub below_zero : (n : ℕ) → Below 0 n
below_zero n = record { tight = λ h. omega arith; loose = omega arith }

pub below_max : (a b c d : ℕ) → Below a b → Below c d → Below (max a c) (max b d)
below_max a b c d p q = record { tight = λ h. omega (arith, p.tight, q.tight); loose = omega (arith, p.loose, q.loose) }

-- the same of parts
pub record Like (f g : Forest) : Type 0 where
  pub elses : (b d : Bool) → (d ≡ true → b ≡ true) → elses_are_nearest b f ≡ true → elses_are_nearest d g ≡ true
  pub ifs : (b d : Bool) → (d ≡ true → b ≡ true) → ends_in_if d g ≡ true → ends_in_if b f ≡ true
  pub arrows : (b d : Bool) → (d ≡ true → b ≡ true) → arrows_are_nearest b f ≡ true → arrows_are_nearest d g ≡ true
  pub yields : (b d : Bool) → (d ≡ true → b ≡ true) → ends_in_yield d g ≡ true → ends_in_yield b f ≡ true
  pub same_else : has_else g ≡ has_else f
  pub edges : (e d : ℕ) → Below d e → Below (edge_from V83 d g) (edge_from V74 e f)
  pub begins : begins_with_class_name f ≡ true → begins_with_class_name g ≡ true
  pub leads : begins_with_variable f ≡ true → begins_with_variable g ≡ true
  pub is_some : g ≡ none → f ≡ none
  pub is_empty : f ≡ none → g ≡ none

-- the same of a node
pub record NodeLike (k : NodeKind) (c : Forest) (j : NodeKind) (b : Forest) : Type 0 where
  pub ifs : (is_open_if j b || ends_in_if false b) ≡ true → (is_open_if k c || ends_in_if false c) ≡ true
  pub yields : (is_open_yield j b || ends_in_yield false b) ≡ true → (is_open_yield k c || ends_in_yield false c) ≡ true
  pub edges : Below (max (level V83 (j, b)) (edge_from V83 0 b)) (max (level V74 (k, c)) (edge_from V74 0 c))
  pub begins : (is_class_name k && begins_with_class_name c) ≡ true → (is_class_name j && begins_with_class_name b) ≡ true
  pub leads : begins_with_variable (node k c none) ≡ true → begins_with_variable (node j b none) ≡ true

pub like_none : Like none none
like_none = record {
  elses = λ b d p e. refl;
  ifs = λ b d p e. p e;
  arrows = λ b d p e. refl;
  yields = λ b d p e. p e;
  same_else = refl;
  edges = λ e d p. p;
  begins = λ e. refl;
  leads = λ e. e;
  is_some = λ e. refl;
  is_empty = λ e. refl;
}

weaker : (b d x : Bool) → (d ≡ true → b ≡ true) → (not (b && x) && true) ≡ true → (not (d && x) && true) ≡ true
weaker b false x p e = refl
weaker true true x p e = e
weaker false true x p e = absurd (let z : false ≡ true = p refl in cc)

pub like_leaf : (x y : Token) → terminal y ≡ terminal x → Like (leaf x none) (leaf y none)
like_leaf x y same = record {
  elses = λ b d p e. ap (λ (z : Terminal). not (d && goes_on_if z) && true) same ∙ weaker b d (goes_on_if (terminal x)) p e;
  ifs = λ b d p e. e;
  arrows = λ b d p e. ap (λ (z : Terminal). not (d && is_to z) && true) same ∙ weaker b d (is_to (terminal x)) p e;
  yields = λ b d p e. e;
  same_else = ap (λ (z : Terminal). is_else z || false) same;
  edges = λ e d p. below_same 0;
  begins = λ e. refl;
  leads = λ e. e;
  is_some = λ e. absurd cc;
  is_empty = λ e. absurd cc;
}

pub like_node : (k : NodeKind) (c : Forest) (j : NodeKind) (b : Forest) → NodeLike k c j b → Like (node k c none) (node j b none)
like_node k c j b n = record {
  elses = λ x y p e. refl;
  ifs = λ x y p e. n.ifs e;
  arrows = λ x y p e. refl;
  yields = λ x y p e. n.yields e;
  same_else = refl;
  edges = λ e d p. n.edges;
  begins = n.begins;
  leads = n.leads;
  is_some = λ e. absurd cc;
  is_empty = λ e. absurd cc;
}

-- ---- parts beside each other

and_assoc : (a b c : Bool) → (a && (b && c)) ≡ ((a && b) && c)
and_assoc true b c = refl
and_assoc false b c = refl

ifs_join : (b : Bool) (g h : Forest) → ends_in_if b (g +++ h) ≡ ends_in_if (ends_in_if b g) h
ifs_join b none h = refl
ifs_join b (leaf x g) h = ifs_join false g h
ifs_join b (node j c g) h = ifs_join (is_open_if j c || ends_in_if false c) g h

yields_join : (b : Bool) (g h : Forest) → ends_in_yield b (g +++ h) ≡ ends_in_yield (ends_in_yield b g) h
yields_join b none h = refl
yields_join b (leaf x g) h = yields_join false g h
yields_join b (node j c g) h = yields_join (is_open_yield j c || ends_in_yield false c) g h

elses_join : (b : Bool) (g h : Forest) → elses_are_nearest b (g +++ h) ≡ (elses_are_nearest b g && elses_are_nearest (ends_in_if b g) h)
elses_join b none h = refl
elses_join b (leaf x g) h =
    ap (λ (y : Bool). not (b && goes_on_if (terminal x)) && y) (elses_join false g h)
    ∙ and_assoc (not (b && goes_on_if (terminal x))) (elses_are_nearest false g) (elses_are_nearest (ends_in_if false g) h)
elses_join b (node j c g) h = elses_join (is_open_if j c || ends_in_if false c) g h

arrows_join : (b : Bool) (g h : Forest) → arrows_are_nearest b (g +++ h) ≡ (arrows_are_nearest b g && arrows_are_nearest (ends_in_yield b g) h)
arrows_join b none h = refl
arrows_join b (leaf x g) h =
    ap (λ (y : Bool). not (b && is_to (terminal x)) && y) (arrows_join false g h)
    ∙ and_assoc (not (b && is_to (terminal x))) (arrows_are_nearest false g) (arrows_are_nearest (ends_in_yield false g) h)
arrows_join b (node j c g) h = arrows_join (is_open_yield j c || ends_in_yield false c) g h

or_assoc : (a b c : Bool) → (a || (b || c)) ≡ ((a || b) || c)
or_assoc true b c = refl
or_assoc false b c = refl

pub else_join : (g h : Forest) → has_else (g +++ h) ≡ (has_else g || has_else h)
else_join none h = refl
else_join (leaf x g) h = ap (λ (y : Bool). is_else (terminal x) || y) (else_join g h) ∙ or_assoc (is_else (terminal x)) (has_else g) (has_else h)
else_join (node j b g) h = else_join g h

pub edges_join : (v : Version) (e : ℕ) (g h : Forest) → edge_from v e (g +++ h) ≡ edge_from v (edge_from v e g) h
edges_join v e none h = refl
edges_join v e (leaf x g) h = edges_join v 0 g h
edges_join v e (node j b g) h = edges_join v (max (level v (j, b)) (edge_from v 0 b)) g h

join_none : (g h : Forest) → g +++ h ≡ none → (g ≡ none) × (h ≡ none)
join_none none h e = (refl, e)
join_none (leaf x g) h e = absurd cc
join_none (node k c g) h e = absurd cc

begins_with : (g h : Forest) → (g ≡ none → ⊥) → begins_with_class_name (g +++ h) ≡ begins_with_class_name g
begins_with none h n = absurd (n refl)
begins_with (leaf x g) h n = refl
begins_with (node k c g) h n = refl

begins_by : (g h i j : Forest) → Like g i → Like h j → begins_with_class_name (g +++ h) ≡ true → begins_with_class_name (i +++ j) ≡ true
begins_by none h i j p q e = ap (λ (x : Forest). begins_with_class_name (x +++ j)) (p.is_empty refl) ∙ q.begins e
begins_by (leaf x g) h i j p q e = begins_with i j (λ z. some_leaf x g (p.is_some z)) ∙ p.begins e
  where
    some_leaf : (x : Token) (g : Forest) → leaf x g ≡ none → ⊥
    some_leaf x g e = cc
begins_by (node k c g) h i j p q e = begins_with i j (λ z. some_node k c g (p.is_some z)) ∙ p.begins e
  where
    some_node : (k : NodeKind) (c g : Forest) → node k c g ≡ none → ⊥
    some_node k c g e = cc

leads_with : (g h : Forest) → begins_with_variable g ≡ true → begins_with_variable (g +++ h) ≡ true
leads_with none h e = absurd cc
leads_with (leaf x g) h e = absurd cc
leads_with (node k c g) h e = e

leads_by : (g h i j : Forest) → Like g i → Like h j → begins_with_variable (g +++ h) ≡ true → begins_with_variable (i +++ j) ≡ true
leads_by none h i j p q e = ap (λ (x : Forest). begins_with_variable (x +++ j)) (p.is_empty refl) ∙ q.leads e
leads_by (leaf x g) h i j p q e = absurd cc
leads_by (node k c g) h i j p q e = leads_with i j (p.leads e)

both_none : (g h : Forest) → g ≡ none → h ≡ none → g +++ h ≡ none
both_none g h e d = ap (λ (x : Forest). x +++ h) e ∙ d

pub like_join : (g h i j : Forest) → Like g i → Like h j → Like (g +++ h) (i +++ j)
like_join g h i j p q = record {
  elses = λ b d w e.
      let s = sym (elses_join b g h) ∙ e in
      elses_join d i j
      ∙ and_from (elses_are_nearest d i) (elses_are_nearest (ends_in_if d i) j)
      (p.elses b d w (and_left (elses_are_nearest b g) (elses_are_nearest (ends_in_if b g) h) s))
      (q.elses (ends_in_if b g) (ends_in_if d i) (p.ifs b d w) (and_right (elses_are_nearest b g) (elses_are_nearest (ends_in_if b g) h) s));
  ifs = λ b d w e. ifs_join b g h ∙ q.ifs (ends_in_if b g) (ends_in_if d i) (p.ifs b d w) (sym (ifs_join d i j) ∙ e);
  arrows = λ b d w e.
      let s = sym (arrows_join b g h) ∙ e in
      arrows_join d i j
      ∙ and_from (arrows_are_nearest d i) (arrows_are_nearest (ends_in_yield d i) j)
      (p.arrows b d w (and_left (arrows_are_nearest b g) (arrows_are_nearest (ends_in_yield b g) h) s))
      (q.arrows (ends_in_yield b g) (ends_in_yield d i) (p.yields b d w) (and_right (arrows_are_nearest b g) (arrows_are_nearest (ends_in_yield b g) h) s));
  yields = λ b d w e. yields_join b g h ∙ q.yields (ends_in_yield b g) (ends_in_yield d i) (p.yields b d w) (sym (yields_join d i j) ∙ e);
  same_else = else_join i j ∙ rw (p.same_else, q.same_else) (sym (else_join g h));
  edges = λ e d w.
      subst (λ (n : ℕ). Below n (edge_from V74 e (g +++ h))) (sym (edges_join V83 d i j))
      (subst (Below (edge_from V83 (edge_from V83 d i) j)) (sym (edges_join V74 e g h))
      (q.edges (edge_from V74 e g) (edge_from V83 d i) (p.edges e d w)));
  begins = begins_by g h i j p q;
  leads = leads_by g h i j p q;
  is_some = λ e. let z = join_none i j e in both_none g h (p.is_some z.0) (q.is_some z.1);
  is_empty = λ e. let z = join_none g h e in both_none i j (p.is_empty z.0) (q.is_empty z.1);
}

-- what stands nearest stays so
pub like_nearest : (f g : Forest) → Like f g → is_nearest f ≡ true → is_nearest g ≡ true
like_nearest f g p e =
    and_from (elses_are_nearest false g) (arrows_are_nearest false g)
    (p.elses false false (λ z. z) (and_left (elses_are_nearest false f) (arrows_are_nearest false f) e))
    (p.arrows false false (λ z. z) (and_right (elses_are_nearest false f) (arrows_are_nearest false f) e))
