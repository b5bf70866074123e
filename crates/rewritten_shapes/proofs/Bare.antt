-- Shapes don't look at trivia and places.
use Rattle.std.proofs.Common.{◌≡◌, ℕ, ◌+◌, ◌-◌, max, Bool, true, false, not, cond, ◌&&◌, ◌||◌, nat_le, List, [], refl, sym, ap, ◌∙◌, subst}
use Rattle.php_tree.specs.declared.kind.NodeKind.{NodeKind}
use Rattle.php_tree.specs.declared.kind.NodeKind.TheVariants as k
use Rattle.php_tree.specs.declared.token.Token.{Token}
use Rattle.php_tree.specs.declared.version.Version.{Version}
use Rattle.php_tree.specs.Places.{placed, behind, end_of}
use Rattle.php_tree.specs.Tree.{Forest, none, leaf, node, ◌+++◌}
use Rattle.php_terminals.specs.declared.terminal.Terminal.{Terminal}
use Rattle.php_terminals.specs.declared.terminal.Terminal.TheVariants as t
use Rattle.php_terminals.specs.Classify.{terminal}
use Rattle.php_terminals.specs.Indents.{
  fresh_behind,
  is_misindented,
  last_text,
  leaf_fits,
  literal_fits,
  node_fits,
  parts_fit,
  quoted_fits,
  heredoc_fits,
  is_heredoc,
  margin,
  is_uniform,
  misindented_by,
}
use Rattle.php_grammar.specs.Accepts.{accepts}
use Rattle.php_grammar.specs.Bases.{is_short_ternary, is_variable, is_variable_expression}
use Rattle.php_grammar.specs.Edges.{edge, edge_from}
use Rattle.php_grammar.specs.Levels.{level, binary_level, first_leaf, is_alone, middle_leaf, prefix_level}
use Rattle.php_shapes.specs.Nearest.{
  arrows_are_nearest,
  elses_are_nearest,
  ends_in_if,
  ends_in_yield,
  goes_on_if,
  has_else,
  is_else,
  is_nearest,
  is_open_if,
  is_open_yield,
  is_to,
  is_value_alone,
}
use Rattle.php_shapes.specs.Notation.{Rule, nothing, word, kind, place, inside, many}
use Rattle.php_shapes.specs.Places.{
  Place,
  Statement,
  Member,
  Operand,
  Left,
  LeftShort,
  OffsetBase,
  MemberBase,
  ClassBase,
  Callee,
  Target,
  TargetOrList,
  ClassName,
  Embedded,
  begins_with_class_name,
  begins_with_variable,
  is_class_name,
  is_expression,
  is_postfixed,
  is_prefix,
  may_stand,
}
use Rattle.php_shapes.specs.Shapes.{
  Fits,
  IsNode,
  is_balanced,
  is_nothing,
  is_word,
  is_kind,
  is_place,
  is_inside,
  is_both,
  is_first,
  is_second,
  no_more,
  once_more,
  is_tokens,
  is_node,
}

-- a token without trivia and place
abbrev pub bare_token : Token → Token
bare_token x = record { kind = x.kind; lead = []; text = x.text; start = 0 }

abbrev pub bare : Forest → Forest
bare none = none
bare (leaf x f) = leaf (bare_token x) (bare f)
bare (node k c f) = node k (bare c) (bare f)

pub bare_placed : (at : ℕ) (f : Forest) → bare (placed at f) ≡ bare f
bare_placed at none = refl
bare_placed at (leaf x f) = ap (leaf (bare_token x)) (bare_placed (behind at x) f)
bare_placed at (node k c f) = rw (bare_placed at c, bare_placed (end_of at c) f) refl

-- ---- what is looked at

pub bare_accepts : (v : Version) (c : Terminal) (x : Token) → accepts v c x ≡ accepts v c (bare_token x)
bare_accepts v t.AnyLabel x = refl
bare_accepts v t.FreeLabel x = refl
bare_accepts v t.FunctionLabel x = refl
bare_accepts v t.ClassLabel x = refl
bare_accepts v t.NameToken x = refl
bare_accepts v t.CalledName x = refl
bare_accepts v t.NamespaceToken x = refl
bare_accepts v t.ImportedName x = refl
bare_accepts v t.ImportedClass x = refl
bare_accepts v t.GroupedName x = refl
bare_accepts v t.GroupedClass x = refl
bare_accepts v t.AttributeName x = refl
bare_accepts v t.AnyWord x = refl
bare_accepts v t.ConstantWord x = refl
bare_accepts v t.Modifier x = refl
bare_accepts v t.BinaryOperator x = refl
bare_accepts v t.SignOrTight x = refl
bare_accepts v _ x = refl

bare_has_else : (f : Forest) → has_else f ≡ has_else (bare f)
bare_has_else none = refl
bare_has_else (leaf x f) = ap (λ (b : Bool). is_else (terminal x) || b) (bare_has_else f)
bare_has_else (node k c f) = bare_has_else f

bare_open_if : (k : NodeKind) (c : Forest) → is_open_if k c ≡ is_open_if k (bare c)
bare_open_if k.If c = ap not (bare_has_else c)
bare_open_if _ c = refl

bare_value_alone : (f : Forest) → is_value_alone f ≡ is_value_alone (bare f)
bare_value_alone none = refl
bare_value_alone (leaf x none) = refl
bare_value_alone (leaf x (leaf y f)) = refl
bare_value_alone (leaf x (node k c none)) = refl
bare_value_alone (leaf x (node k c (leaf y f))) = refl
bare_value_alone (leaf x (node k c (node j b f))) = refl
bare_value_alone (node k c f) = refl

bare_open_yield : (k : NodeKind) (c : Forest) → is_open_yield k c ≡ is_open_yield k (bare c)
bare_open_yield k.Yield c = bare_value_alone c
bare_open_yield _ c = refl

bare_ends_in_if : (b : Bool) (f : Forest) → ends_in_if b f ≡ ends_in_if b (bare f)
bare_ends_in_if b none = refl
bare_ends_in_if b (leaf x f) = bare_ends_in_if false f
bare_ends_in_if b (node j c f) =
    bare_ends_in_if (is_open_if j c || ends_in_if false c) f
    ∙ rw (bare_open_if j c, bare_ends_in_if false c) refl

bare_ends_in_yield : (b : Bool) (f : Forest) → ends_in_yield b f ≡ ends_in_yield b (bare f)
bare_ends_in_yield b none = refl
bare_ends_in_yield b (leaf x f) = bare_ends_in_yield false f
bare_ends_in_yield b (node j c f) =
    bare_ends_in_yield (is_open_yield j c || ends_in_yield false c) f
    ∙ rw (bare_open_yield j c, bare_ends_in_yield false c) refl

bare_elses : (b : Bool) (f : Forest) → elses_are_nearest b f ≡ elses_are_nearest b (bare f)
bare_elses b none = refl
bare_elses b (leaf x f) = ap (λ (y : Bool). not (b && goes_on_if (terminal x)) && y) (bare_elses false f)
bare_elses b (node j c f) =
    bare_elses (is_open_if j c || ends_in_if false c) f ∙ rw (bare_open_if j c, bare_ends_in_if false c) refl

bare_arrows : (b : Bool) (f : Forest) → arrows_are_nearest b f ≡ arrows_are_nearest b (bare f)
bare_arrows b none = refl
bare_arrows b (leaf x f) = ap (λ (y : Bool). not (b && is_to (terminal x)) && y) (bare_arrows false f)
bare_arrows b (node j c f) =
    bare_arrows (is_open_yield j c || ends_in_yield false c) f ∙ rw (bare_open_yield j c, bare_ends_in_yield false c) refl

bare_nearest : (f : Forest) → is_nearest f ≡ is_nearest (bare f)
bare_nearest f = rw (bare_elses false f, bare_arrows false f) refl

bare_last_text : (text : List ℕ) (f : Forest) → last_text text f ≡ last_text text (bare f)
bare_last_text text none = refl
bare_last_text text (leaf x f) = bare_last_text x.text f
bare_last_text text (node k c f) = bare_last_text text f

bare_leaf_fits : (indent : List ℕ) (fresh : Bool) (x : Token) → leaf_fits indent fresh x ≡ leaf_fits indent fresh (bare_token x)
unfolding leaf_fits
bare_leaf_fits indent fresh x = refl

bare_fresh : (fresh : Bool) (x : Token) → fresh_behind fresh x ≡ fresh_behind fresh (bare_token x)
unfolding fresh_behind
bare_fresh fresh x = refl

bare_parts_fit : (indent : List ℕ) (fresh : Bool) (f : Forest) → parts_fit indent fresh f ≡ parts_fit indent fresh (bare f)
bare_parts_fit indent fresh none = refl
bare_parts_fit indent fresh (leaf x f) =
    ap (λ (y : Bool). leaf_fits indent fresh x && y) (bare_parts_fit indent (fresh_behind fresh x) f)
    ∙ rw (bare_leaf_fits indent fresh x, bare_fresh fresh x) refl
bare_parts_fit indent fresh (node k c f) = ap (λ (y : Bool). node_fits indent fresh && y) (bare_parts_fit indent false f)

bare_heredoc : (f : Forest) → heredoc_fits f ≡ heredoc_fits (bare f)
bare_heredoc f = ap (λ (y : Bool). is_uniform (margin (last_text [] f)) && y) (bare_parts_fit (margin (last_text [] f)) true f) ∙ rw (bare_last_text [] f) refl

bare_quoted : (f : Forest) → quoted_fits f ≡ quoted_fits (bare f)
bare_quoted none = refl
bare_quoted (leaf x f) = ap (λ (y : Bool). not (is_heredoc x) || y) (bare_heredoc f)
bare_quoted (node k c f) = refl

bare_literal : (f : Forest) → literal_fits f ≡ literal_fits (bare f)
bare_literal none = refl
bare_literal (leaf x f) = refl
bare_literal (node k c f) = refl

bare_misindented_by : (k : NodeKind) (c : Forest) → misindented_by k c ≡ misindented_by k (bare c)
bare_misindented_by k.Quoted c = ap not (bare_quoted c)
bare_misindented_by k.Text c = ap not (bare_literal c)
bare_misindented_by _ c = refl

pub bare_misindented : (k : NodeKind) (c : Forest) → is_misindented (k, c) ≡ is_misindented (k, bare c)
unfolding is_misindented
bare_misindented k c = bare_misindented_by k c

pub bare_balanced : (n : ℕ) (f : Forest) → is_balanced n f ≡ is_balanced n (bare f)
bare_balanced n none = refl
bare_balanced n (leaf x f) = rw (bare_balanced (n + 1) f, bare_balanced (n - 1) f, bare_balanced n f) refl
bare_balanced n (node k c f) = refl

bare_first : (k : NodeKind) (c : Forest) → first_leaf (k, c) ≡ first_leaf (k, bare c)
bare_first k none = refl
bare_first k (leaf x f) = refl
bare_first k (node j b f) = refl

bare_middle : (k : NodeKind) (c : Forest) → middle_leaf (k, c) ≡ middle_leaf (k, bare c)
bare_middle k none = refl
bare_middle k (leaf x f) = refl
bare_middle k (node j b none) = refl
bare_middle k (node j b (leaf x f)) = refl
bare_middle k (node j b (node i d f)) = refl

bare_alone : (k : NodeKind) (c : Forest) → is_alone (k, c) ≡ is_alone (k, bare c)
bare_alone k none = refl
bare_alone k (leaf x none) = refl
bare_alone k (leaf x (leaf y f)) = refl
bare_alone k (leaf x (node j b f)) = refl
bare_alone k (node j b f) = refl

bare_level : (v : Version) (k : NodeKind) (c : Forest) → level v (k, c) ≡ level v (k, bare c)
bare_level v k.Binary c = ap (binary_level v) (bare_middle k.Binary c)
bare_level v k.Prefix c = ap prefix_level (bare_first k.Prefix c)
bare_level v k.Yield c = ap (λ (b : Bool). cond b 25 20) (bare_alone k.Yield c)
bare_level v _ c = refl

bare_edge_from : (v : Version) (e : ℕ) (f : Forest) → edge_from v e f ≡ edge_from v e (bare f)
bare_edge_from v e none = refl
bare_edge_from v e (leaf x f) = bare_edge_from v 0 f
bare_edge_from v e (node k c f) =
    bare_edge_from v (max (level v (k, c)) (edge_from v 0 c)) f
    ∙ ap (λ (n : ℕ). edge_from v (max n (edge_from v 0 c)) (bare f)) (bare_level v k c)
    ∙ ap (λ (n : ℕ). edge_from v (max (level v (k, bare c)) n) (bare f)) (bare_edge_from v 0 c)

bare_edge : (v : Version) (k : NodeKind) (c : Forest) → edge v (k, c) ≡ edge v (k, bare c)
unfolding edge
bare_edge v k c = ap (λ (n : ℕ). max n (edge_from v 0 c)) (bare_level v k c) ∙ ap (max (level v (k, bare c))) (bare_edge_from v 0 c)

bare_begins : (f : Forest) → begins_with_class_name f ≡ begins_with_class_name (bare f)
bare_begins none = refl
bare_begins (leaf x f) = refl
bare_begins (node j b f) = ap (λ (y : Bool). is_class_name j && y) (bare_begins b)

bare_leads : (f : Forest) → begins_with_variable f ≡ begins_with_variable (bare f)
bare_leads none = refl
bare_leads (leaf x f) = refl
bare_leads (node j b f) = ap (λ (y : Bool). is_variable j || is_postfixed j && y) (bare_leads b)

bare_stands : (v : Version) (p : Place) (k : NodeKind) (c : Forest) → may_stand v p (k, c) ≡ may_stand v p (k, bare c)
bare_stands v Statement k c = refl
bare_stands v Member k c = refl
bare_stands v (Operand n) k c = ap (λ (m : ℕ). is_expression k && (nat_le m n || is_prefix k)) (bare_level v k c)
bare_stands v (Left n) k c = ap (λ (m : ℕ). is_expression k && nat_le m n) (bare_edge v k c)
bare_stands v LeftShort k c = ap (λ (m : ℕ). is_short_ternary k && nat_le m 18) (bare_edge v k c)
bare_stands v OffsetBase k c = refl
bare_stands v MemberBase k c = refl
bare_stands v ClassBase k c = refl
bare_stands v Callee k c = refl
bare_stands v Target k c = refl
bare_stands v TargetOrList k c = refl
bare_stands v ClassName k c = ap (λ (y : Bool). is_class_name k && y) (bare_begins c)
bare_stands v Embedded k c = ap (λ (y : Bool). is_variable_expression k && y) (bare_leads (node k c none))

-- ---- shapes

nothing_is : (g : Forest) → none ≡ bare g → g ≡ none
nothing_is none e = refl
nothing_is (leaf x g) e = absurd cc
nothing_is (node k c g) e = absurd cc

-- parts in two
record Split (g h f : Forest) : Type 0 where
  front : Forest
  rest : Forest
  both : f ≡ front +++ rest
  first : g ≡ bare front
  second : h ≡ bare rest

split : (g h f : Forest) → g +++ h ≡ bare f → Split g h f
split none h f e = record { front = none; rest = f; both = refl; first = refl; second = e }
split (leaf x g) h none e = absurd cc
split (leaf x g) h (node k c f) e = absurd cc
split (leaf x g) h (leaf y f) e =
    let s = split g h f cc in
    let a : x ≡ bare_token y = cc in
    record { front = leaf y s.front; rest = s.rest; both = ap (leaf y) s.both; first = rw (a, s.first) refl; second = s.second }
split (node k c g) h none e = absurd cc
split (node k c g) h (leaf y f) e = absurd cc
split (node k c g) h (node j b f) e =
    let s = split g h f cc in
    let a : k ≡ j = cc in
    let d : c ≡ bare b = cc in
    record { front = node j b s.front; rest = s.rest; both = ap (node j b) s.both; first = rw (a, d, s.first) refl; second = s.second }

mutual
  pub unbare : (v : Version) {r : Rule} {f : Forest} → Fits v r f → (g : Forest) → f ≡ bare g → Fits v r g
  unbare v is_nothing g e = subst (Fits v nothing) (sym (nothing_is g e)) is_nothing
  unbare v (is_word {c} {x} p) none e = absurd cc
  unbare v (is_word {c} {x} p) (node k d g) e = absurd cc
  unbare v (is_word {c} {x} p) (leaf y g) e =
      let a : x ≡ bare_token y = cc in
      let b : none ≡ bare g = cc in
      subst (λ (h : Forest). Fits v (word c) (leaf y h)) (sym (nothing_is g b)) (is_word (bare_accepts v c y ∙ ap (accepts v c) (sym a) ∙ p))
  unbare v (is_kind {k} {c} n) none e = absurd cc
  unbare v (is_kind {k} {c} n) (leaf y g) e = absurd cc
  unbare v (is_kind {k} {c} n) (node j b g) e =
      let a : k ≡ j = cc in
      let d : c ≡ bare b = cc in
      let z : none ≡ bare g = cc in
      subst (λ (h : Forest). Fits v (kind k) (node j b h)) (sym (nothing_is g z))
      (subst (λ (i : NodeKind). Fits v (kind k) (node i b none)) a (is_kind (unbare_node v n b d)))
  unbare v (is_place {p} {k} {c} m n) none e = absurd cc
  unbare v (is_place {p} {k} {c} m n) (leaf y g) e = absurd cc
  unbare v (is_place {p} {k} {c} m n) (node j b g) e =
      let a : k ≡ j = cc in
      let d : c ≡ bare b = cc in
      let z : none ≡ bare g = cc in
      subst (λ (h : Forest). Fits v (place p) (node j b h)) (sym (nothing_is g z))
      (subst (λ (i : NodeKind). Fits v (place p) (node i b none)) a
      (is_place (bare_stands v p k b ∙ ap (λ (x : Forest). may_stand v p (k, x)) (sym d) ∙ m) (unbare_node v n b d)))
  unbare v (is_inside {k} {r} {c} x near) none e = absurd cc
  unbare v (is_inside {k} {r} {c} x near) (leaf y g) e = absurd cc
  unbare v (is_inside {k} {r} {c} x near) (node j b g) e =
      let a : k ≡ j = cc in
      let d : c ≡ bare b = cc in
      let z : none ≡ bare g = cc in
      subst (λ (h : Forest). Fits v (inside k r) (node j b h)) (sym (nothing_is g z))
      (subst (λ (i : NodeKind). Fits v (inside k r) (node i b none)) a (is_inside (unbare v x b d) (bare_nearest b ∙ ap is_nearest (sym d) ∙ near)))
  unbare v (is_both {r} {s} {f} {g} {h} x y d) F e =
      let z = split g h F (sym d ∙ e) in
      is_both (unbare v x z.front z.first) (unbare v y z.rest z.second) z.both
  unbare v (is_first x) g e = is_first (unbare v x g e)
  unbare v (is_second x) g e = is_second (unbare v x g e)
  unbare v (no_more {r}) g e = subst (Fits v (many r)) (sym (nothing_is g e)) no_more
  unbare v (once_more {r} {f} {g} {h} x y d) F e =
      let z = split g h F (sym d ∙ e) in
      once_more (unbare v x z.front z.first) (unbare v y z.rest z.second) z.both
  unbare v (is_tokens {f} b) g e = is_tokens (bare_balanced 0 g ∙ ap (is_balanced 0) (sym e) ∙ b)

  unbare_node : (v : Version) {k : NodeKind} {c : Forest} → IsNode v k c → (b : Forest) → c ≡ bare b → IsNode v k b
  unbare_node v (is_node {k} {c} x near fine) b e =
      is_node (unbare v x b e) (bare_nearest b ∙ ap is_nearest (sym e) ∙ near)
      (bare_misindented k b ∙ ap (λ (y : Forest). is_misindented (k, y)) (sym e) ∙ fine)
