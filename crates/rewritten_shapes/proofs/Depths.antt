-- The depth of the rewritten file.
use Rattle.std.proofs.Common.{
  Some,
  None,
  length,
  length-append,
  ◌≡◌,
  ℕ,
  suc,
  ◌+◌,
  ◌*◌,
  ◌≤◌,
  max,
  Bool,
  true,
  false,
  ◌&&◌,
  ◌||◌,
  cond,
  if◌then◌else◌,
  List,
  [],
  ◌∷◌,
  ◌++◌,
  Option,
  codes,
  refl,
  ap,
  ◌∙◌,
  arith,
  append-nil,
}
use Rattle.std.specs.Str.{bytes_eq}
use Rattle.std.proofs.lemmas.Slice.Eq.{bytes_eq-Decides}
use Rattle.php_tree.specs.declared.token.TokenKind.{TokenKind}
use Rattle.php_tree.specs.declared.token.TokenKind.TheVariants as token
use Rattle.php_tree.specs.declared.kind.NodeKind.{NodeKind}
use Rattle.php_tree.specs.declared.kind.NodeKind.TheVariants as kind
use Rattle.php_tree.specs.Tree.{Forest, none, leaf, node, Tree, depth}
use Rattle.php_tree.specs.Places.{placed, end_of, behind}
use Rattle.tracked_changes.specs.patches.Patches.{Wrapping, InParens}
use Rattle.tracked_changes.specs.Pieces.{before}
use Rattle.tracked_changes.specs.Draft.{NewToken, Draft, no_more, new_leaf, new_node, ◌then◌, rewritten}
use Rattle.tracked_changes.specs.Leads.{holds_none, without_lead}
use Rattle.tracked_changes.specs.Parens.{in_parens, in_wrappings}
use Rattle.tracked_changes.specs.Tokens.{is_text}
use Rattle.tracked_changes.specs.Walk.{NewTree, new_alone, drafted}
use Rattle.syntax_rules.specs.Around.{Around, at_top, kind_if_first, within}
use Rattle.syntax_rules.specs.BraceOffset.{bracketed, brace_offset, is_brace_offset}
use Rattle.syntax_rules.specs.DollarBrace.{is_dollar_brace, curly, named, plain, with_offset, with_node, opened, escaped, is_piece, begins_dollar_brace, parts, dollar_brace}
use Rattle.syntax_rules.specs.DotPrecedence.{is_regrouped, around_dot}
use Rattle.syntax_rules.specs.NestedTernary as nested
use Rattle.syntax_rules.specs.RealCast.{float_first, is_real_cast, real_cast}
use Rattle.syntax_rules.specs.Rewritten as whole
use Rattle.syntax_rules.specs.SplitName.{is_one, one_name, in_front, whole_names, apart, keyword_behind, keyword_last}
use Rattle.syntax_rules.specs.Together.{all_on, is_quoted, rewriting}
use Rattle.syntax_rules.specs.UnsetCast.{is_edited, is_unset_cast, of_variable, unset_cast}
use Rattle.rewritten_shapes.specs.Laws.{AreSpelled, is_spelled_by, RewrittenIsShallow}
use Rattle.rewritten_shapes.proofs.Tabled.{changed, written, drafted_is}

-- how deep a draft is once the changes are made
abbrev deep : Draft → ℕ
deep d = depth (rewritten d)

deep_then : (d e : Draft) → deep (d then e) ≡ max (deep d) (deep e)
deep_then no_more e = omega arith
deep_then (new_leaf t d) e = deep_then d e
deep_then (new_node k c d) e = omega (arith, deep_then d e)

deep_placed : (at : ℕ) (f : Forest) → depth (placed at f) ≡ depth f
deep_placed at none = refl
deep_placed at (leaf x f) = deep_placed (behind at x) f
deep_placed at (node k c f) = omega (arith, deep_placed at c, deep_placed (end_of at c) f)

deep_apart : (b : Bool) (d : Draft) → deep (apart b d) ≡ deep d
deep_apart b no_more = refl
deep_apart b (new_leaf t d) = deep_apart (keyword_behind b t) d
deep_apart b (new_node k c d) = omega (arith, deep_apart b c, deep_apart (keyword_last b c) d)

deep_if : (b : Bool) (d e : Draft) (n : ℕ) → deep d ≡ n → deep e ≡ n → deep (if b then d else e) ≡ n
deep_if true d e n p q = p
deep_if false d e n p q = q

deep_front : (b : Bool) (t : NewToken) (d : Draft) → deep (in_front b t d) ≡ deep d
deep_front b t no_more = refl
deep_front b t (new_node k c d) = refl
deep_front b t (new_leaf u d) = deep_if (is_one t u && (b || _)) (new_leaf (one_name t u) d) (new_leaf t (new_leaf u d)) (deep d) refl refl

deep_whole : (b : Bool) (d : Draft) → deep (whole_names b d) ≡ deep d
deep_whole b no_more = refl
deep_whole b (new_leaf t d) = deep_front b t (whole_names b d) ∙ deep_whole b d
deep_whole b (new_node k c d) = omega (arith, deep_whole b c, deep_whole b d)

deep_cond : (b : Bool) (d e : Draft) (n : ℕ) → deep d ≡ n → deep e ≡ n → deep (cond b d e) ≡ n
deep_cond true d e n p q = p
deep_cond false d e n p q = q

deep_lead : (d : Draft) → deep (without_lead d) ≡ deep d
deep_lead no_more = refl
deep_lead (new_leaf t d) = refl
deep_lead (new_node k c d) =
    deep_cond (holds_none c) (new_node k c (without_lead d)) (new_node k (without_lead c) d) (max (suc (deep c)) (deep d))
    (omega (arith, deep_lead d)) (omega (arith, deep_lead c))

deep_bracketed : (d : Draft) → deep (bracketed d) ≡ deep d
deep_bracketed no_more = refl
deep_bracketed (new_leaf t d) = deep_bracketed d
deep_bracketed (new_node k c d) = omega (arith, deep_bracketed d)

deep_float : (d : Draft) → deep (float_first d) ≡ deep d
deep_float no_more = refl
deep_float (new_leaf t d) = refl
deep_float (new_node k c d) = refl

deep_parens : (t : NewTree) → deep (in_parens t).1 ≡ suc (deep t.1)
deep_parens t = omega (arith, deep_lead t.1)

-- ---- quoted texts

-- a token that begins no offset, where it is `${`
abbrev Plain : NewToken → Type 0
Plain t = is_dollar_brace t.kind ≡ true → is_text (codes "[") t ≡ false

abbrev ArePlain : Draft → Type 0
ArePlain no_more = Unit {0}
ArePlain (new_leaf t d) = Plain t × ArePlain d
ArePlain (new_node k c d) = ArePlain d

-- how deep a first node is
abbrev first_deep : Draft → ℕ
first_deep no_more = 0
first_deep (new_leaf t d) = 0
first_deep (new_node k c d) = suc (deep c)

-- how deep a node behind `[` is
abbrev mark_deep : Draft → ℕ
mark_deep no_more = 0
mark_deep (new_leaf t d) = if is_text (codes "[") t then first_deep d else 0
mark_deep (new_node k c d) = 0

-- the same behind a name
abbrev name_deep : Draft → ℕ
name_deep no_more = 0
name_deep (new_leaf t d) = mark_deep d
name_deep (new_node k c d) = 0

-- no node nests more than two levels deeper; a node that `${` takes in isn't deeper than before
record Shallow (m : ℕ) (d : Draft) : Type 0 where
  all : deep d ≤ suc (suc m)
  first : first_deep d ≤ m
  mark : mark_deep d ≤ m
  name : name_deep d ≤ m

if_same : {A : Type 0} (b : Bool) (x y : A) → b ≡ false → (if b then x else y) ≡ y
if_same true x y e = cc
if_same false x y e = refl

shallow_if : (b : Bool) (m : ℕ) (d e : Draft) → (b ≡ true → Shallow m d) → (b ≡ false → Shallow m e) → Shallow m (if b then d else e)
shallow_if true m d e p q = p refl
shallow_if false m d e p q = q refl

if_le : (b : Bool) (n m : ℕ) → n ≤ m → (if b then n else 0) ≤ m
if_le true n m h = h
if_le false n m h = omega arith

false_le : (b : Bool) (n m : ℕ) → b ≡ false → (if b then n else 0) ≤ m
false_le true n m e = cc
false_le false n m e = omega arith

true_le : (b : Bool) (n m : ℕ) → b ≡ true → (if b then n else 0) ≤ m → n ≤ m
true_le true n m e h = h
true_le false n m e h = cc

-- a token in front
shallow_leaf : (m : ℕ) (t : NewToken) (d : Draft) → Shallow m d → Shallow m (new_leaf t d)
shallow_leaf m t d h = record { all = h.all; first = omega arith; mark = if_le (is_text (codes "[") t) (first_deep d) m h.first; name = h.mark }

-- a token that is no `[`, in front of what it leaves alone
shallow_alone : (m : ℕ) (t : NewToken) (d : Draft) → is_text (codes "[") t ≡ false → deep d ≤ suc (suc m) → mark_deep d ≤ m → Shallow m (new_leaf t d)
shallow_alone m t d p h g = record { all = h; first = omega arith; mark = false_le (is_text (codes "[") t) (first_deep d) m p; name = g }

curly_is_none : (t : NewToken) → is_text (codes "[") t ≡ false → is_text (codes "[") (curly t) ≡ false
curly_is_none t p = ap (λ (x : List ℕ). bytes_eq x (codes "[")) (append-nil (before t.text)) ∙ p

node_shallow : (m : ℕ) (t : NewToken) (k : NodeKind) (e d : Draft) → is_text (codes "[") t ≡ false → Shallow m (new_node k e d) → Shallow m (with_node t k e d)
node_shallow m t k e no_more p h = shallow_alone m t (new_node k e no_more) p h.all (omega arith)
node_shallow m t k e (new_node j c d) p h = shallow_alone m t (new_node k e (new_node j c d)) p h.all (omega arith)
node_shallow m t k e (new_leaf close d) p h =
    let a : suc (deep e) ≤ m = h.first in
    let b : max (suc (deep e)) (deep d) ≤ suc (suc m) = h.all in
    shallow_alone m (curly t) _ (curly_is_none t p) (omega arith) (omega arith)

plain_shallow : (m : ℕ) (t name : NewToken) (d : Draft) → is_text (codes "[") t ≡ false → deep d ≤ suc (suc m) → Shallow m (plain t name d)
plain_shallow m t name d p h = shallow_alone m (curly t) (named name d) (curly_is_none t p) (omega arith) (omega arith)

offset_shallow : (m : ℕ) (t name mark : NewToken) (d : Draft) → is_text (codes "[") t ≡ false → deep d ≤ suc (suc m) → first_deep d ≤ m → Shallow m (with_offset t name mark d)
offset_shallow m t name mark no_more p h g = plain_shallow m t name (new_leaf mark no_more) p h
offset_shallow m t name mark (new_leaf u d) p h g = plain_shallow m t name (new_leaf mark (new_leaf u d)) p h
offset_shallow m t name mark (new_node k e no_more) p h g = plain_shallow m t name (new_leaf mark (new_node k e no_more)) p h
offset_shallow m t name mark (new_node k e (new_node j c d)) p h g = plain_shallow m t name (new_leaf mark (new_node k e (new_node j c d))) p h
offset_shallow m t name mark (new_node k e (new_leaf shut d)) p h g =
    let a : suc (deep e) ≤ m = g in
    let b : max (suc (deep e)) (deep d) ≤ suc (suc m) = h in
    shallow_alone m (curly t) _ (curly_is_none t p) (omega arith) (omega arith)

opened_shallow : (m : ℕ) (t : NewToken) (d : Draft) → is_text (codes "[") t ≡ false → Shallow m d → Shallow m (opened t d)
opened_shallow m t no_more p h = shallow_alone m t no_more p h.all (omega arith)
opened_shallow m t (new_node k e d) p h = node_shallow m t k e d p h
opened_shallow m t (new_leaf name no_more) p h = shallow_alone m t (new_leaf name no_more) p h.all h.mark
opened_shallow m t (new_leaf name (new_node k e d)) p h = shallow_alone m t (new_leaf name (new_node k e d)) p h.all h.mark
opened_shallow m t (new_leaf name (new_leaf mark d)) p h =
    shallow_if (is_text (codes "[") mark) m (with_offset t name mark d) (plain t name (new_leaf mark d))
    (λ e. offset_shallow m t name mark d p h.all (true_le (is_text (codes "[") mark) (first_deep d) m e h.name))
    (λ e. plain_shallow m t name (new_leaf mark d) p h.all)

parts_shallow : (m : ℕ) (d : Draft) → ArePlain d → deep d ≤ m → Shallow m (parts d)
parts_shallow m no_more p h = record { all = omega arith; first = omega arith; mark = omega arith; name = omega arith }
parts_shallow m (new_node k c d) p h =
    let ih = parts_shallow m d p (omega arith) in
    let a : deep (parts d) ≤ suc (suc m) = ih.all in
    record { all = omega arith; first = omega arith; mark = omega arith; name = omega arith }
parts_shallow m (new_leaf t d) p h =
    let ih = parts_shallow m d p.1 h in
    shallow_if (is_dollar_brace t.kind) m (opened t (parts d)) (new_leaf (if is_piece t.kind && begins_dollar_brace d then escaped t else t) (parts d))
    (λ e. opened_shallow m t (parts d) (p.0 e) ih)
    (λ e. shallow_leaf m (if is_piece t.kind && begins_dollar_brace d then escaped t else t) (parts d) ih)

-- ---- nodes

spelled_plain : (kind : TokenKind) (text : List ℕ) → is_spelled_by kind text ≡ true → is_dollar_brace kind ≡ true → bytes_eq (text ++ []) (codes "[") ≡ false
spelled_plain token.DollarBrace text e d =
    let same : text ≡ codes "${" = (bytes_eq-Decides text (codes "${")).0 e in
    ap (λ (x : List ℕ). bytes_eq (x ++ []) (codes "[")) same
spelled_plain _ text e d = cc

are_plain : (a : Bool → Option Around) (b : Bool) (f : Forest) → AreSpelled f → ArePlain (written a b f)
are_plain a b none h = tt
are_plain a b (leaf x f) h = (spelled_plain x.kind x.text h.0.0, are_plain a false f h.1)
are_plain a b (node k c f) h = are_plain a false f h.1

deep_wrappings : (ws : List Wrapping) (t : NewTree) → deep (in_wrappings ws t).1 ≡ length ws + deep t.1
deep_wrappings [] t = omega arith
deep_wrappings (InParens ∷ ws) t = deep_parens (in_wrappings ws t) ∙ omega (arith, deep_wrappings ws t)

few_around : (o : Option NodeKind) (k : NodeKind) → length (nested.around o k) ≤ 1
few_around None k = omega arith
few_around (Some o) k = go (nested.nests o k)
  where
    go : (b : Bool) → length (if b then InParens ∷ [] else []) ≤ 1
    go true = omega arith
    go false = omega arith

few_dots : (a : Option Around) (t : Tree) → length (around_dot a t) ≤ 1
few_dots a t = go (is_regrouped a t)
  where
    go : (b : Bool) → length (if b then InParens ∷ [] else []) ≤ 1
    go true = omega arith
    go false = omega arith

few : (a : Option Around) (t : Tree) → length (whole.wrapping a t) ≤ 2
few a t = omega (arith, length-append (nested.around (kind_if_first a) t.0) (around_dot a t), few_around (kind_if_first a) t.0, few_dots a t)

no_nests : (o : NodeKind) → nested.nests o kind.Quoted ≡ false
no_nests kind.Ternary = refl
no_nests kind.ShortTernary = refl
no_nests _ = refl

none_around : (o : Option NodeKind) → nested.around o kind.Quoted ≡ []
none_around None = refl
none_around (Some o) = ap (λ (b : Bool). if b then InParens ∷ [] else []) (no_nests o)

none_quoted : (a : Option Around) (c : Forest) → whole.wrapping a (kind.Quoted, c) ≡ []
none_quoted None c = refl
none_quoted (Some a) c = ap (λ (ws : List Wrapping). ws ++ []) (none_around (kind_if_first (Some a)))

no_wrappings : (a : Option Around) (k : NodeKind) (c : Forest) → is_quoted k ≡ true → whole.wrapping a (k, c) ≡ []
no_wrappings a kind.Quoted c e = none_quoted a c
no_wrappings a _ c e = cc

has_node : (c : Forest) → of_variable c ≡ true → 1 ≤ depth c
has_node (leaf x (node k d f)) e = omega arith
has_node none e = cc
has_node (leaf x none) e = cc
has_node (leaf x (leaf y f)) e = cc
has_node (node k d f) e = cc

if_tree : (b : Bool) (x y : NewTree) (n : ℕ) → (b ≡ true → deep x.1 ≤ n) → (b ≡ false → deep y.1 ≤ n) → deep (if b then x else y).1 ≤ n
if_tree true x y n p q = p refl
if_tree false x y n p q = q refl

and_right : (b d : Bool) → (b && d) ≡ true → d ≡ true
and_right true d e = e
and_right false d e = cc

-- three times as deep, and two levels more where a node is a quoted text
changed_deep : (k : NodeKind) (c : Forest) (w : Draft) (n : ℕ) → deep w ≤ n → (of_variable c ≡ true → 1 ≤ n)
    → (is_quoted k ≡ true → deep (parts w) ≤ n) → deep (changed (k, c) (k, w)).1 ≤ n
changed_deep k c w n h v q =
    if_tree (is_brace_offset k) (brace_offset (k, w)) _ n (λ e. omega (arith, deep_bracketed w))
    (λ e. if_tree (is_real_cast (k, c)) (real_cast (k, w)) _ n (λ e. omega (arith, deep_float w))
    (λ e. if_tree (is_edited (k, c)) (unset_cast (k, w)) _ n (λ d. omega (arith, v (and_right (is_unset_cast (k, c)) (of_variable c) d)))
    (λ e. if_tree (is_quoted k) (dollar_brace (k, w)) (k, w) n q (λ e. h))))

node_deep : (a : Option Around) (b : Bool) (k : NodeKind) (c : Forest) (w : Draft) → is_quoted k ≡ b
    → deep w ≤ 3 * depth c → ArePlain w
    → suc (deep (in_wrappings (whole.wrapping a (k, c)) (changed (k, c) (k, w))).1) ≤ 3 * suc (depth c)
node_deep a true k c w e h p =
    let d = changed_deep k c w (suc (suc (3 * depth c))) (omega arith) (λ v. omega arith) (λ q. (parts_shallow (3 * depth c) w p h).all) in
    let g : length (whole.wrapping a (k, c)) ≡ 0 = ap length (no_wrappings a k c e) in
    omega (arith, deep_wrappings (whole.wrapping a (k, c)) (changed (k, c) (k, w)), d, g)
node_deep a false k c w e h p =
    let d = changed_deep k c w (3 * depth c) h (λ v. omega (arith, has_node c v)) (λ q. absurd cc) in
    omega (arith, deep_wrappings (whole.wrapping a (k, c)) (changed (k, c) (k, w)), d, few a (k, c))

written_deep : (a : Bool → Option Around) (b : Bool) (f : Forest) → AreSpelled f → deep (written a b f) ≤ 3 * depth f
written_deep a b none h = omega arith
written_deep a b (leaf x f) h = written_deep a false f h.1
written_deep a b (node k c f) h =
    let here = in_wrappings (whole.wrapping (a b) (k, c)) (changed (k, c) (k, written (within k c) true c)) in
    let x = node_deep (a b) (is_quoted k) k c (written (within k c) true c) refl (written_deep (within k c) true c h.0) (are_plain (within k c) true c h.0) in
    let y = written_deep a false f h.1 in
    let z : deep (new_alone here then written a false f) ≡ max (deep (new_alone here)) (deep (written a false f)) = deep_then (new_alone here) (written a false f) in
    omega (arith, x, y, z)

pub rewritten_is_shallow : RewrittenIsShallow
rewritten_is_shallow f s h =
    let d = drafted (rewriting (all_on (whole.patches f.statements))) 0 f.statements in
    let e : depth (whole.rewritten f).statements ≡ deep d =
    deep_placed 0 (rewritten (apart false (whole_names true d))) ∙ deep_apart false (whole_names true d) ∙ deep_whole true d in
    omega (arith, e, ap deep (drafted_is f.statements), written_deep at_top true f.statements s)
