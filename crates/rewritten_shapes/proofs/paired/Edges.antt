-- Expressions begin and end in code: neither with inline HTML, nor with `<?=` or `?>`.
use Rattle.std.proofs.Common.{◌≡◌, ℕ, Bool, true, false, not, ◌&&◌, ◌||◌, List, [], ◌∷◌, ◌++◌, refl, sym, ap, ◌∙◌, subst}
use Rattle.php_tree.specs.declared.kind.NodeKind.{NodeKind}
use Rattle.php_tree.specs.declared.kind.NodeKind.TheVariants as k
use Rattle.php_tree.specs.declared.token.Token.{Token}
use Rattle.php_tree.specs.declared.token.TokenKind.{TokenKind}
use Rattle.php_tree.specs.declared.token.TokenKind.TheVariants as kind
use Rattle.php_tree.specs.declared.version.Version.TheVariants.{V74}
use Rattle.php_tree.specs.Tree.{Forest, none, leaf, node, leaves, ◌+++◌}
use Rattle.php_terminals.specs.declared.terminal.Terminal.{Terminal}
use Rattle.php_terminals.specs.declared.terminal.Terminal.TheVariants as t
use Rattle.php_terminals.specs.Classify.{is_word_kind, terminal_by}
use Rattle.php_terminals.specs.Terminals.{code}
use Rattle.php_grammar.specs.Accepts.{accepts}
use Rattle.php_grammar.specs.Bases.{is_callee, is_class_base, is_list, is_member_base, is_offset_base, is_short_ternary, is_target, is_variable_expression}
use Rattle.php_grammar.specs.Edges.{edge}
use Rattle.php_grammar.specs.Levels.{level}
use Rattle.std.specs.Prelude.{nat_le}
use Rattle.php_shapes.specs.Forms.{form}
use Rattle.php_shapes.specs.Notation.{Rule, nothing, word, place, inside, ◌~◌, ◌|||◌, many, tokens}
use Rattle.php_shapes.specs.Notation as rule
use Rattle.php_shapes.specs.Places.{
  Place,
  Statement,
  Member,
  Operand,
  Left,
  LeftShort,
  OffsetBase,
  MemberBase,
  ClassBase,
  Callee,
  Target,
  TargetOrList,
  ClassName,
  Embedded,
  begins_with_class_name,
  begins_with_variable,
  is_class_name,
  is_expression,
  is_prefix,
  may_stand,
}
use Rattle.php_shapes.specs.Shapes.{Fits, is_nothing, is_word, is_kind, is_place, is_inside, is_both, is_first, is_second, no_more, once_more, is_tokens, IsNode, is_node}
use Rattle.rewritten_shapes.specs.paired.Tokens.{begins_inside, ends_inside, is_edge}
use Rattle.rewritten_shapes.proofs.paired.Asked.{asks, both_left, both_right, is_one_of, taken}

-- ---- tokens

-- the classes of tokens that may stand at an edge of code
unfoldable pub edges : List Terminal
edges = t.InlineHtml ∷ t.Echo ∷ t.Semi ∷ []

-- whether a class is none of these, by its number
abbrev pub is_within : ℕ → Bool
is_within n = not (is_one_of edges n)

edge_by : (sort : TokenKind) (text : List ℕ) → is_within (code (terminal_by sort text)) ≡ true → not (is_edge sort) ≡ true
unfolding edges
edge_by kind.InlineHtml text e = absurd cc
edge_by kind.OpenEcho text e = absurd cc
edge_by kind.Close text e = absurd cc
edge_by _ text e = refl

word_edge : (sort : TokenKind) → is_word_kind sort ≡ true → not (is_edge sort) ≡ true
word_edge kind.Label e = refl
word_edge kind.Keyword e = refl
word_edge _ e = absurd cc

within : (c : Terminal) (x : Token) → asks is_within c ≡ true → accepts V74 c x ≡ true → not (is_edge x.kind) ≡ true
within = taken is_within (λ x. not (is_edge x.kind)) (λ x e. edge_by x.kind x.text e) (λ x e. word_edge x.kind e)

-- ---- rows of tokens

-- whether the first token is within code; where there is none, this
abbrev begins_by : Bool → List Token → Bool
begins_by e [] = e
begins_by e (x ∷ xs) = not (is_edge x.kind)

abbrev ends_by : Bool → List Token → Bool
ends_by e [] = e
ends_by e (x ∷ []) = not (is_edge x.kind)
ends_by e (x ∷ y ∷ xs) = ends_by e (y ∷ xs)

begins_is : (xs : List Token) → begins_by false xs ≡ true → begins_inside xs ≡ true
begins_is [] h = h
begins_is (x ∷ xs) h = h

ends_is : (xs : List Token) → ends_by false xs ≡ true → ends_inside xs ≡ true
ends_is [] h = h
ends_is (x ∷ []) h = h
ends_is (x ∷ y ∷ xs) h = ends_is (y ∷ xs) h

begins_front : (e : Bool) (xs ys : List Token) → begins_by false xs ≡ true → begins_by e (xs ++ ys) ≡ true
begins_front e [] ys h = absurd cc
begins_front e (x ∷ xs) ys h = h

begins_both : (e : Bool) (xs ys : List Token) → begins_by true xs ≡ true → begins_by e ys ≡ true → begins_by e (xs ++ ys) ≡ true
begins_both e [] ys h g = g
begins_both e (x ∷ xs) ys h g = h

begins_weaker : (e : Bool) (xs : List Token) → begins_by false xs ≡ true → begins_by e xs ≡ true
begins_weaker e [] h = absurd cc
begins_weaker e (x ∷ xs) h = h

ends_back : (e d : Bool) (xs ys : List Token) → ends_by false ys ≡ true → ends_by e (xs ++ ys) ≡ true
ends_back e d [] [] h = absurd cc
ends_back e d [] (y ∷ []) h = h
ends_back e d [] (y ∷ z ∷ ys) h = ends_back e d [] (z ∷ ys) h
ends_back e d (x ∷ []) [] h = absurd cc
ends_back e d (x ∷ []) (y ∷ ys) h = ends_back e d [] (y ∷ ys) h
ends_back e d (x ∷ z ∷ xs) ys h = ends_back e d (z ∷ xs) ys h

ends_both : (e : Bool) (xs ys : List Token) → ends_by true ys ≡ true → ends_by e xs ≡ true → ends_by e (xs ++ ys) ≡ true
ends_both e [] [] h g = g
ends_both e [] (y ∷ []) h g = h
ends_both e [] (y ∷ z ∷ ys) h g = ends_both e [] (z ∷ ys) h g
ends_both e (x ∷ []) [] h g = g
ends_both e (x ∷ []) (y ∷ []) h g = h
ends_both e (x ∷ []) (y ∷ z ∷ ys) h g = ends_both e (x ∷ []) (z ∷ ys) h g
ends_both e (x ∷ z ∷ xs) ys h g = ends_both e (z ∷ xs) ys h g

ends_weaker : (e : Bool) (xs : List Token) → ends_by false xs ≡ true → ends_by e xs ≡ true
ends_weaker e xs h = ends_back e e [] xs h

leaves_join : (f g : Forest) → leaves (f +++ g) ≡ leaves f ++ leaves g
leaves_join none g = refl
leaves_join (leaf x f) g = ap (λ (xs : List Token). x ∷ xs) (leaves_join f g)
leaves_join (node j c f) g = ap (λ (xs : List Token). leaves c ++ xs) (leaves_join f g) ∙ join_lists (leaves c) (leaves f) (leaves g)
  where
    join_lists : (xs ys zs : List Token) → xs ++ (ys ++ zs) ≡ (xs ++ ys) ++ zs
    join_lists [] ys zs = refl
    join_lists (x ∷ xs) ys zs = ap (λ (us : List Token). x ∷ us) (join_lists xs ys zs)

only : (c : Forest) (j : NodeKind) → leaves (node j c none) ≡ leaves c
only c j = end_list (leaves c)
  where
    end_list : (xs : List Token) → xs ++ [] ≡ xs
    end_list [] = refl
    end_list (x ∷ xs) = ap (λ (us : List Token). x ∷ us) (end_list xs)

-- ---- places and kinds

-- an expression, or what may be assigned to
abbrev pub is_value : NodeKind → Bool
is_value k.List = true
is_value j = is_expression j

abbrev pub is_value_place : Place → Bool
is_value_place Statement = false
is_value_place Member = false
is_value_place _ = true

offset_base : (j : NodeKind) → is_offset_base j ≡ true → is_value j ≡ true
offset_base k.Variable e = refl
offset_base k.Offset e = refl
offset_base k.BraceOffset e = refl
offset_base k.Prop e = refl
offset_base k.StaticProp e = refl
offset_base k.Call e = refl
offset_base k.MethodCall e = refl
offset_base k.StaticCall e = refl
offset_base k.Array e = refl
offset_base k.Text e = refl
offset_base k.Constant e = refl
offset_base k.ClassConstant e = refl
offset_base k.Paren e = refl
offset_base _ e = absurd cc

member_base : (j : NodeKind) → is_member_base j ≡ true → is_value j ≡ true
member_base k.Variable e = refl
member_base k.Offset e = refl
member_base k.BraceOffset e = refl
member_base k.Prop e = refl
member_base k.StaticProp e = refl
member_base k.Call e = refl
member_base k.MethodCall e = refl
member_base k.StaticCall e = refl
member_base k.Array e = refl
member_base k.Text e = refl
member_base k.Paren e = refl
member_base _ e = absurd cc

class_base : (j : NodeKind) → is_class_base j ≡ true → is_value j ≡ true
class_base k.Variable e = refl
class_base k.Offset e = refl
class_base k.BraceOffset e = refl
class_base k.Prop e = refl
class_base k.StaticProp e = refl
class_base k.Call e = refl
class_base k.MethodCall e = refl
class_base k.StaticCall e = refl
class_base k.Paren e = refl
class_base _ e = absurd cc

callee : (j : NodeKind) → is_callee j ≡ true → is_value j ≡ true
callee k.Variable e = refl
callee k.Offset e = refl
callee k.BraceOffset e = refl
callee k.Call e = refl
callee k.MethodCall e = refl
callee k.StaticCall e = refl
callee k.Array e = refl
callee k.Text e = refl
callee k.Paren e = refl
callee _ e = absurd cc

target : (j : NodeKind) → is_target j ≡ true → is_value j ≡ true
target k.Variable e = refl
target k.Offset e = refl
target k.BraceOffset e = refl
target k.Prop e = refl
target k.StaticProp e = refl
target _ e = absurd cc

class_name : (j : NodeKind) → is_class_name j ≡ true → is_value j ≡ true
class_name k.Variable e = refl
class_name k.Offset e = refl
class_name k.BraceOffset e = refl
class_name k.Prop e = refl
class_name k.StaticProp e = refl
class_name _ e = absurd cc

variable_expression : (j : NodeKind) → is_variable_expression j ≡ true → is_value j ≡ true
variable_expression k.Variable e = refl
variable_expression k.Offset e = refl
variable_expression k.BraceOffset e = refl
variable_expression k.Prop e = refl
variable_expression k.StaticProp e = refl
variable_expression k.Call e = refl
variable_expression k.MethodCall e = refl
variable_expression k.StaticCall e = refl
variable_expression _ e = absurd cc

list_is : (j : NodeKind) → is_list j ≡ true → is_value j ≡ true
list_is k.List e = refl
list_is _ e = absurd cc

short_is : (j : NodeKind) → is_short_ternary j ≡ true → is_value j ≡ true
short_is k.ShortTernary e = refl
short_is _ e = absurd cc

expression_is : (j : NodeKind) → is_expression j ≡ true → is_value j ≡ true
expression_is k.List e = refl
expression_is _ e = e

value_by : (a b : Bool) (j : NodeKind) → (a ≡ true → is_value j ≡ true) → (b ≡ true → is_value j ≡ true) → (a || b) ≡ true → is_value j ≡ true
value_by true b j f g e = f refl
value_by false b j f g e = g e

place_value : (p : Place) (j : NodeKind) (c : Forest) → is_value_place p ≡ true → may_stand V74 p (j, c) ≡ true → is_value j ≡ true
place_value Statement j c h e = absurd cc
place_value Member j c h e = absurd cc
place_value (Operand limit) j c h e =
    expression_is j (both_left (is_expression j) (nat_le (level V74 (j, c)) limit || is_prefix j) e)
place_value (Left limit) j c h e = expression_is j (both_left (is_expression j) (nat_le (edge V74 (j, c)) limit) e)
place_value LeftShort j c h e = short_is j (both_left (is_short_ternary j) (nat_le (edge V74 (j, c)) 18) e)
place_value OffsetBase j c h e = offset_base j e
place_value MemberBase j c h e = member_base j e
place_value ClassBase j c h e = class_base j e
place_value Callee j c h e = callee j e
place_value Target j c h e = target j e
place_value TargetOrList j c h e = value_by (is_target j) (is_list j) j (target j) (list_is j) e
place_value ClassName j c h e = class_name j (both_left (is_class_name j) (begins_with_class_name c) e)
place_value Embedded j c h e = variable_expression j (both_left (is_variable_expression j) (begins_with_variable (node j c none)) e)

-- a value or a block
abbrev pub is_value_or_block : NodeKind → Bool
is_value_or_block k.Block = true
is_value_or_block j = is_value j

value_or_block : (j : NodeKind) → is_value j ≡ true → is_value_or_block j ≡ true
value_or_block k.Block e = refl
value_or_block _ e = e

-- ---- rules

-- whether a rule begins within code: with a token at least, or, where it may be empty, with none
abbrev pub starts : Bool → Rule → Bool
starts e nothing = e
starts e (word c) = asks is_within c
starts e (rule.kind j) = is_value j
starts e (place p) = is_value_place p
starts e (inside j r) = starts e r
starts e (r ~ s) = starts false r || (starts true r && starts e s)
starts e (r ||| s) = starts e r && starts e s
starts e (many r) = e && starts true r
starts e tokens = false

-- whether a rule ends so
abbrev pub stops : Bool → Rule → Bool
stops e nothing = e
stops e (word c) = asks is_within c
stops e (rule.kind j) = is_value_or_block j
stops e (place p) = is_value_place p
stops e (inside j r) = stops e r
stops e (r ~ s) = stops false s || (stops true s && stops e r)
stops e (r ||| s) = stops e r && stops e s
stops e (many r) = e && stops true r
stops e tokens = false

form_starts : (j : NodeKind) → is_value j ≡ true → starts false (form V74 j) ≡ true
unfolding edges
form_starts k.Variable e = refl
form_starts k.Number e = refl
form_starts k.Float e = refl
form_starts k.Text e = refl
form_starts k.Quoted e = refl
form_starts k.Constant e = refl
form_starts k.ClassConstant e = refl
form_starts k.Array e = refl
form_starts k.Paren e = refl
form_starts k.Offset e = refl
form_starts k.BraceOffset e = refl
form_starts k.Prop e = refl
form_starts k.StaticProp e = refl
form_starts k.Call e = refl
form_starts k.MethodCall e = refl
form_starts k.StaticCall e = refl
form_starts k.New e = refl
form_starts k.Isset e = refl
form_starts k.EmptyTest e = refl
form_starts k.Exit e = refl
form_starts k.Closure e = refl
form_starts k.Arrow e = refl
form_starts k.Include e = refl
form_starts k.EvalTest e = refl
form_starts k.Binary e = refl
form_starts k.Prefix e = refl
form_starts k.Postfix e = refl
form_starts k.Cast e = refl
form_starts k.Ternary e = refl
form_starts k.ShortTernary e = refl
form_starts k.Assign e = refl
form_starts k.AssignRef e = refl
form_starts k.CompoundAssign e = refl
form_starts k.InstanceOf e = refl
form_starts k.Print e = refl
form_starts k.Yield e = refl
form_starts k.List e = refl
form_starts _ e = absurd cc

form_stops : (j : NodeKind) → is_value_or_block j ≡ true → stops false (form V74 j) ≡ true
unfolding edges
form_stops k.Variable e = refl
form_stops k.Number e = refl
form_stops k.Float e = refl
form_stops k.Text e = refl
form_stops k.Quoted e = refl
form_stops k.Constant e = refl
form_stops k.ClassConstant e = refl
form_stops k.Array e = refl
form_stops k.Paren e = refl
form_stops k.Offset e = refl
form_stops k.BraceOffset e = refl
form_stops k.Prop e = refl
form_stops k.StaticProp e = refl
form_stops k.Call e = refl
form_stops k.MethodCall e = refl
form_stops k.StaticCall e = refl
form_stops k.New e = refl
form_stops k.Isset e = refl
form_stops k.EmptyTest e = refl
form_stops k.Exit e = refl
form_stops k.Closure e = refl
form_stops k.Arrow e = refl
form_stops k.Include e = refl
form_stops k.EvalTest e = refl
form_stops k.Binary e = refl
form_stops k.Prefix e = refl
form_stops k.Postfix e = refl
form_stops k.Cast e = refl
form_stops k.Ternary e = refl
form_stops k.ShortTernary e = refl
form_stops k.Assign e = refl
form_stops k.AssignRef e = refl
form_stops k.CompoundAssign e = refl
form_stops k.InstanceOf e = refl
form_stops k.Print e = refl
form_stops k.Yield e = refl
form_stops k.List e = refl
form_stops k.Block e = refl
form_stops _ e = absurd cc

by_or : (P : Type 0) (a b c : Bool) → (a ≡ true → P) → (b ≡ true → c ≡ true → P) → (a || (b && c)) ≡ true → P
by_or P true b c f g e = f refl
by_or P false true c f g e = g refl e
by_or P false false c f g e = absurd cc

begins_join : (e : Bool) (f g h : Forest) (a b c : Bool) → f ≡ g +++ h
    → (a ≡ true → begins_by false (leaves g) ≡ true) → (b ≡ true → begins_by true (leaves g) ≡ true)
    → (c ≡ true → begins_by e (leaves h) ≡ true) → (a || (b && c)) ≡ true → begins_by e (leaves f) ≡ true
begins_join e f g h a b c d p q r i =
    ap (λ (x : Forest). begins_by e (leaves x)) d ∙ ap (begins_by e) (leaves_join g h)
    ∙ by_or (begins_by e (leaves g ++ leaves h) ≡ true) a b c (λ z. begins_front e (leaves g) (leaves h) (p z))
    (λ y z. begins_both e (leaves g) (leaves h) (q y) (r z)) i

ends_join : (e : Bool) (f g h : Forest) (a b c : Bool) → f ≡ g +++ h → (a ≡ true → ends_by false (leaves h) ≡ true)
    → (b ≡ true → ends_by true (leaves h) ≡ true) → (c ≡ true → ends_by e (leaves g) ≡ true) → (a || (b && c)) ≡ true
    → ends_by e (leaves f) ≡ true
ends_join e f g h a b c d p q r i =
    ap (λ (x : Forest). ends_by e (leaves x)) d ∙ ap (ends_by e) (leaves_join g h)
    ∙ by_or (ends_by e (leaves g ++ leaves h) ≡ true) a b c (λ z. ends_back e e (leaves g) (leaves h) (p z))
    (λ y z. ends_both e (leaves g) (leaves h) (q y) (r z)) i

begins_more : (e : Bool) (f g h : Forest) → f ≡ g +++ h → begins_by true (leaves g) ≡ true → (e ≡ true → begins_by e (leaves h) ≡ true) → e ≡ true → begins_by e (leaves f) ≡ true
begins_more e f g h d p q i =
    ap (λ (x : Forest). begins_by e (leaves x)) d ∙ ap (begins_by e) (leaves_join g h) ∙ begins_both e (leaves g) (leaves h) p (q i)

ends_more : (e : Bool) (f g h : Forest) → f ≡ g +++ h → ends_by true (leaves h) ≡ true → ends_by e (leaves g) ≡ true → ends_by e (leaves f) ≡ true
ends_more e f g h d p q =
    ap (λ (x : Forest). ends_by e (leaves x)) d ∙ ap (ends_by e) (leaves_join g h) ∙ ends_both e (leaves g) (leaves h) p q

weak_begins : (e : Bool) (j : NodeKind) (c : Forest) → begins_by false (leaves c) ≡ true → begins_by e (leaves (node j c none)) ≡ true
weak_begins e j c h = ap (begins_by e) (only c j) ∙ begins_weaker e (leaves c) h

weak_ends : (e : Bool) (j : NodeKind) (c : Forest) → ends_by false (leaves c) ≡ true → ends_by e (leaves (node j c none)) ≡ true
weak_ends e j c h = ap (ends_by e) (only c j) ∙ ends_weaker e (leaves c) h

is_so : (e : Bool) (P : Bool → Type 0) → e ≡ true → P true → P e
is_so e P h p = subst P (sym h) p

mutual
  begins_fit : {r : Rule} {f : Forest} → Fits V74 r f → (e : Bool) → starts e r ≡ true → begins_by e (leaves f) ≡ true
  begins_fit is_nothing e h = h
  begins_fit (is_word {c} {x} p) e h = within c x h p
  begins_fit (is_kind {k = j} {c} n) e h = weak_begins e j c (begins_node n h)
  begins_fit (is_place {p} {k = j} {c} m n) e h = weak_begins e j c (begins_node n (place_value p j c h m))
  begins_fit (is_inside {k = j} {r} {c} p n) e h = ap (begins_by e) (only c j) ∙ begins_fit p e h
  begins_fit (is_both {r} {s} {f} {g} {h = i} p q d) e h =
      begins_join e f g i (starts false r) (starts true r) (starts e s) d (begins_fit p false) (begins_fit p true) (begins_fit q e) h
  begins_fit (is_first {r} {s} p) e h = begins_fit p e (both_left (starts e r) (starts e s) h)
  begins_fit (is_second {r} {s} p) e h = begins_fit p e (both_right (starts e r) (starts e s) h)
  begins_fit no_more e h = both_left e _ h
  begins_fit (once_more {r} {f} {g} {h = i} p q d) e h =
      begins_more e f g i d (begins_fit p true (both_right e (starts true r) h)) (λ z. begins_fit q e h) (both_left e (starts true r) h)
  begins_fit (is_tokens b) e h = absurd cc

  begins_node : {j : NodeKind} {c : Forest} → IsNode V74 j c → is_value j ≡ true → begins_by false (leaves c) ≡ true
  begins_node (is_node {k = j} p n m) h = begins_fit p false (form_starts j h)

mutual
  ends_fit : {r : Rule} {f : Forest} → Fits V74 r f → (e : Bool) → stops e r ≡ true → ends_by e (leaves f) ≡ true
  ends_fit is_nothing e h = h
  ends_fit (is_word {c} {x} p) e h = within c x h p
  ends_fit (is_kind {k = j} {c} n) e h = weak_ends e j c (ends_node n h)
  ends_fit (is_place {p} {k = j} {c} m n) e h = weak_ends e j c (ends_node n (value_or_block j (place_value p j c h m)))
  ends_fit (is_inside {k = j} {r} {c} p n) e h = ap (ends_by e) (only c j) ∙ ends_fit p e h
  ends_fit (is_both {r} {s} {f} {g} {h = i} p q d) e h =
      ends_join e f g i (stops false s) (stops true s) (stops e r) d (ends_fit q false) (ends_fit q true) (ends_fit p e) h
  ends_fit (is_first {r} {s} p) e h = ends_fit p e (both_left (stops e r) (stops e s) h)
  ends_fit (is_second {r} {s} p) e h = ends_fit p e (both_right (stops e r) (stops e s) h)
  ends_fit no_more e h = both_left e _ h
  ends_fit (once_more {r} {f} {g} {h = i} p q d) e h =
      is_so e (λ (b : Bool). ends_by b (leaves f) ≡ true) (both_left e (stops true r) h)
      (ends_more true f g i d (ends_fit q true (both_right e (stops true r) h)) (ends_fit p true (both_right e (stops true r) h)))
  ends_fit (is_tokens b) e h = absurd cc

  ends_node : {j : NodeKind} {c : Forest} → IsNode V74 j c → is_value_or_block j ≡ true → ends_by false (leaves c) ≡ true
  ends_node (is_node {k = j} p n m) h = ends_fit p false (form_stops j h)

-- parts of a rule begin and end in code
pub fit_begins : {r : Rule} {f : Forest} → Fits V74 r f → starts false r ≡ true → begins_inside (leaves f) ≡ true
fit_begins {f} p h = begins_is (leaves f) (begins_fit p false h)

pub fit_ends : {r : Rule} {f : Forest} → Fits V74 r f → stops false r ≡ true → ends_inside (leaves f) ≡ true
fit_ends {f} p h = ends_is (leaves f) (ends_fit p false h)

-- so does an expression
pub expression_begins : (j : NodeKind) {c : Forest} → Fits V74 (form V74 j) c → is_expression j ≡ true → begins_inside (leaves c) ≡ true
expression_begins j p h = fit_begins p (form_starts j (expression_is j h))

pub expression_ends : (j : NodeKind) {c : Forest} → Fits V74 (form V74 j) c → is_expression j ≡ true → ends_inside (leaves c) ≡ true
expression_ends j p h = fit_ends p (form_stops j (value_or_block j (expression_is j h)))
