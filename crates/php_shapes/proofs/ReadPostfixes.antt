-- Offsets, members, calls: what goes on behind a base.
use Rattle.std.proofs.Common.{◌≡◌, ℕ, ◌<◌, ◌≤◌, Bool, true, false, not, ◌||◌, List, [], ◌∷◌, ◌++◌, drop, inl, inr, Some, refl, sym, ap, ◌∙◌, subst, arith}
use Rattle.std.proofs.lemmas.Bool.{or_left}
use Rattle.php_tree.specs.declared.kind.NodeKind.{NodeKind}
use Rattle.php_tree.specs.declared.kind.NodeKind.TheVariants as k
use Rattle.php_tree.specs.declared.token.Token.{Token}
use Rattle.php_tree.specs.declared.version.Version.{Version}
use Rattle.php_tree.specs.declared.version.Version.TheVariants.{V74, V83}
use Rattle.php_tree.specs.Tree.{Forest, none, leaf, node, ◌+++◌, leaves, count}
use Rattle.php_terminals.specs.declared.terminal.Terminal.{Terminal}
use Rattle.php_terminals.specs.declared.terminal.Terminal.TheVariants as t
use Rattle.php_terminals.specs.Classify.{terminal}
use Rattle.php_terminals.specs.Ahead.{behind_member, first_of}
use Rattle.php_terminals.specs.Marks.{is_open_paren}
use Rattle.php_forms.specs.declared.item.Sort.TheVariants as s
use Rattle.php_forms.specs.declared.item.Group.TheVariants as g
use Rattle.php_forms.specs.declared.item.Item.{Item}
use Rattle.php_forms.specs.declared.item.Item.TheVariants.{Word, Node, Part}
use Rattle.php_forms.specs.Forms.{any}
use Rattle.php_forms.specs.Grammar.{Walks, Grows, onward}
use Rattle.php_grammar.specs.Accepts.{accepts}
use Rattle.php_grammar.specs.declared.bases.Role.{Role}
use Rattle.php_grammar.specs.declared.bases.Role.TheVariants as r
use Rattle.php_grammar.specs.Bases.{
  is_callee,
  is_callee_role,
  is_class_base_role,
  is_list,
  is_member_base,
  is_member_base_role,
  is_offset_base,
  is_offset_base_role,
  is_target_role,
  role_of,
}
use Rattle.php_grammar.specs.Levels.{level}
use Rattle.php_grammar.specs.Tables.{php}
use Rattle.php_grammar.specs.Tails.{offset_form, operator_tail, left_edge, postfix_by, postfix_tail, prop_form}
use Rattle.php_shapes.specs.Notation.{Rule, word, place, ◌~◌, expr, maybe, brackets, braces}
use Rattle.php_shapes.specs.Postfixes.{brace_offset, called, member, offset, prop, method_call}
use Rattle.php_shapes.specs.Places.{Place, OffsetBase, MemberBase, ClassBase, Callee, is_expression, may_stand}
use Rattle.php_shapes.specs.Shapes.{Fits, IsNode}
use Rattle.php_shapes.proofs.ReadClasses.{accepted, could, for_all}
use Rattle.php_shapes.proofs.ReadEnds.{Below, goes_behind}
use Rattle.php_shapes.proofs.ReadMatch.{both_is, false_true, fits_alone, leaves_before, matched, matches, nodes_count, place_is, where_is, where_it, word_is}
use Rattle.php_shapes.proofs.ReadOperands.{Before, before_class, class_before, first_is, Grown, only_class}
use Rattle.php_shapes.proofs.ReadMembers.{behind_members}
use Rattle.php_shapes.proofs.ReadInfix.{first_tail, tail_is}
use Rattle.php_shapes.proofs.ReadFirst.{nullable}

-- ---- bases

pub base_expression : (i : NodeKind) → is_offset_base i ≡ true → is_expression i ≡ true
base_expression k.Variable e = refl
base_expression k.Text e = refl
base_expression k.Constant e = refl
base_expression k.ClassConstant e = refl
base_expression k.Array e = refl
base_expression k.Paren e = refl
base_expression k.Offset e = refl
base_expression k.BraceOffset e = refl
base_expression k.Prop e = refl
base_expression k.StaticProp e = refl
base_expression k.Call e = refl
base_expression k.MethodCall e = refl
base_expression k.StaticCall e = refl
base_expression other e = absurd (false_true e)

pub base_level : (v : Version) (i : NodeKind) (b : Forest) → is_offset_base i ≡ true → level v (i, b) ≡ 0
base_level v k.Variable b e = refl
base_level v k.Text b e = refl
base_level v k.Constant b e = refl
base_level v k.ClassConstant b e = refl
base_level v k.Array b e = refl
base_level v k.Paren b e = refl
base_level v k.Offset b e = refl
base_level v k.BraceOffset b e = refl
base_level v k.Prop b e = refl
base_level v k.StaticProp b e = refl
base_level v k.Call b e = refl
base_level v k.MethodCall b e = refl
base_level v k.StaticCall b e = refl
base_level v other b e = absurd (false_true e)

pub member_offset : (a : Role) → is_member_base_role a ≡ true → is_offset_base_role a ≡ true
member_offset r.Variable e = refl
member_offset r.Element e = refl
member_offset r.Property e = refl
member_offset r.Call e = refl
member_offset r.Literal e = refl
member_offset r.Constant e = absurd (false_true e)
member_offset r.Paren e = refl
member_offset r.List e = absurd (false_true e)
member_offset r.ShortTernary e = absurd (false_true e)
member_offset r.Other e = absurd (false_true e)

pub class_offset : (a : Role) → is_class_base_role a ≡ true → is_offset_base_role a ≡ true
class_offset r.Variable e = refl
class_offset r.Element e = refl
class_offset r.Property e = refl
class_offset r.Call e = refl
class_offset r.Literal e = absurd (false_true e)
class_offset r.Constant e = absurd (false_true e)
class_offset r.Paren e = refl
class_offset r.List e = absurd (false_true e)
class_offset r.ShortTernary e = absurd (false_true e)
class_offset r.Other e = absurd (false_true e)

pub callee_offset : (a : Role) → is_callee_role a ≡ true → is_offset_base_role a ≡ true
callee_offset r.Variable e = refl
callee_offset r.Element e = refl
callee_offset r.Property e = absurd (false_true e)
callee_offset r.Call e = refl
callee_offset r.Literal e = refl
callee_offset r.Constant e = absurd (false_true e)
callee_offset r.Paren e = refl
callee_offset r.List e = absurd (false_true e)
callee_offset r.ShortTernary e = absurd (false_true e)
callee_offset r.Other e = absurd (false_true e)

pub target_offset : (a : Role) → is_target_role a ≡ true → is_offset_base_role a ≡ true
target_offset r.Variable e = refl
target_offset r.Element e = refl
target_offset r.Property e = refl
target_offset r.Call e = absurd (false_true e)
target_offset r.Literal e = absurd (false_true e)
target_offset r.Constant e = absurd (false_true e)
target_offset r.Paren e = absurd (false_true e)
target_offset r.List e = absurd (false_true e)
target_offset r.ShortTernary e = absurd (false_true e)
target_offset r.Other e = absurd (false_true e)

-- what may stand before what goes on with a word
pub record IsBase (v : Version) (P : Place) (w : Terminal) : Type 0 where
  pub is_base : (i : NodeKind) (b : Forest) → may_stand v P (i, b) ≡ true → is_offset_base i ≡ true
  pub goes : (i : NodeKind) (b : Forest) → may_stand v P (i, b) ≡ true → goes_behind v i w ≡ true

-- a form that goes on behind a base
pub postfix_grows : (v : Version) (n : ℕ) → Below v n → Grown v n
    → (m : ℕ) (P : Place) (w : Terminal) (j : NodeKind) (r : Rule) (items : List Item) (c : Forest)
    (rest : List Token) → IsBase v P w → only_class v r w ≡ true → nullable r ≡ false
    → ((i : NodeKind) (b f : Forest) → may_stand v P (i, b) ≡ true → Fits v r f → first_of (leaves f ++ rest) ≡ w
    → postfix_by v i (first_of (leaves f ++ rest)) (leaves f ++ rest) ≡ Some (j, items))
    → ((f : Forest) → Fits v r f → count f ≤ n → before_class v j (first_of rest) ≡ true → Walks (php v) items f rest)
    → Fits v (place P ~ r) c → count c ≤ n → Before v (j, c) (first_of rest) → Grows (php v) (s.Operand m) j c rest
postfix_grows v n below grown m P w j r items c rest base on nn tail walk x le h =
    let o : (g1 : Forest) × (g2 : Forest) × Fits v (place P) g1 × Fits v r g2 × (c ≡ g1 +++ g2) = both_is v (place P) r c x in
    let a : (i : NodeKind) × (b : Forest) × (o.0 ≡ node i b none) × (may_stand v P (i, b) ≡ true) × IsNode v i b = place_is v P o.0 o.2 in
    let at : c ≡ node a.0 a.1 o.1 = o.4 ∙ ap (λ (z : Forest). z +++ o.1) a.2 in
    let ts : List Token = leaves o.1 ++ rest in
    let fw : first_of ts ≡ w = first_is v r w o.1 rest on nn o.3 in
    let two : (count a.1 < n) × (count o.1 ≤ n) = nodes_count a.0 a.1 o.1 n (subst (λ (z : Forest). count z ≤ n) at le) in
    let b : is_offset_base a.0 ≡ true = base.is_base a.0 a.1 a.3 in
    let left : Grows (php v) (s.Operand m) a.0 a.1 ts = grown.operand m a.0 a.1 ts two.0
    (or_left (is_expression a.0) (is_list a.0) (base_expression a.0 b))
    (inl (low m (level v (a.0, a.1)) (base_level v a.0 a.1 b))) a.4
    (inr (subst (λ (z : Terminal). goes_behind v a.0 z ≡ true) (sym fw) (base.goes a.0 a.1 a.3))) in
    subst (λ (z : Forest). Grows (php v) (s.Operand m) j z rest) (sym at)
    (onward left (tail_is v m a.0 a.1 ts (j, items) a.4
    (first_tail (postfix_tail v a.0 ts) (operator_tail v m (left_edge v (a.0, a.1)) a.0 ts) (j, items)
    (tail a.0 a.1 o.1 a.3 o.3 fw))) (walk o.1 o.3 two.1 (class_before v j c (first_of rest) h)))
  where
    low : (m l : ℕ) → l ≡ 0 → l ≤ m
    low m l e = omega arith

-- the walk that the test gives
pub tested : (v : Version) (n : ℕ) → Below v n → (j : NodeKind) (r : Rule) (items : List Item) (rest : List Token)
    → matches v 60 false (r ∷ []) items (before_class v j) ≡ true → (f : Forest) → Fits v r f → count f ≤ n
    → before_class v j (first_of rest) ≡ true → Walks (php v) items f rest
tested v n below j r items rest t f x le b = matched v n below 60 false (r ∷ []) items (before_class v j) f rest t (fits_alone v r f x) le b (λ z. absurd (false_true z))

offset_base : (v : Version) → IsBase v OffsetBase t.OpenBracket
offset_base v = record { is_base = λ i b e. e; goes = λ i b e. e }

brace_base : IsBase V74 OffsetBase t.OpenBrace
brace_base = record { is_base = λ i b e. e; goes = λ i b e. e }

member_base : (v : Version) → IsBase v MemberBase t.Arrow
member_base v = record { is_base = λ i b e. member_offset (role_of i) e; goes = λ i b e. e }

pub class_base : (v : Version) → IsBase v ClassBase t.DoubleColon
class_base v = record { is_base = λ i b e. class_offset (role_of i) e; goes = λ i b e. e }

callee_base : (v : Version) → IsBase v Callee t.OpenParen
callee_base v = record { is_base = λ i b e. callee_offset (role_of i) e; goes = λ i b e. e }

-- ---- offsets

abbrev pub in_brackets : Rule
in_brackets = brackets (maybe expr)

offset_test : (v : Version) → matches v 60 false (in_brackets ∷ []) (Word t.OpenBracket ∷ Part g.OffsetKey ∷ Word t.CloseBracket ∷ []) (before_class v k.Offset) ≡ true
unfolding for_all
offset_test V74 = refl
offset_test V83 = refl

offset_first : (v : Version) → only_class v in_brackets t.OpenBracket ≡ true
unfolding for_all
offset_first V74 = refl
offset_first V83 = refl

offset_tail : (v : Version) (i : NodeKind) (w : Terminal) (ts : List Token) → w ≡ t.OpenBracket → is_offset_base i ≡ true → postfix_by v i w ts ≡ Some offset_form
offset_tail v i w ts e b = rw (e, b) refl

pub offsets_grow : (v : Version) (n : ℕ) → Below v n → Grown v n → (m : ℕ) (c : Forest) (rest : List Token)
    → Fits v offset c → count c ≤ n → Before v (k.Offset, c) (first_of rest)
    → Grows (php v) (s.Operand m) k.Offset c rest
offsets_grow v n below grown m c rest x le h = postfix_grows v n below grown m OffsetBase t.OpenBracket k.Offset
    in_brackets (offset_form.1) c rest (offset_base v) (offset_first v) refl
    (λ i b f st y e. offset_tail v i (first_of (leaves f ++ rest)) (leaves f ++ rest) e st)
    (tested v n below k.Offset in_brackets (offset_form.1) rest (offset_test v)) x le h

brace_test : matches V74 60 false (braces expr ∷ []) (Word t.OpenBrace ∷ any ∷ Word t.CloseBrace ∷ []) (before_class V74 k.BraceOffset) ≡ true
unfolding for_all
brace_test = refl

brace_first : only_class V74 (braces expr) t.OpenBrace ≡ true
unfolding for_all
brace_first = refl

brace_tail_is : (i : NodeKind) (w : Terminal) (ts : List Token) → w ≡ t.OpenBrace → is_offset_base i ≡ true
    → postfix_by V74 i w ts ≡ Some (k.BraceOffset, Word t.OpenBrace ∷ any ∷ Word t.CloseBrace ∷ [])
brace_tail_is i w ts e b = rw (e, b) refl

never_word : for_all (λ c. where_it (could V83 t.Never c) false) ≡ true
unfolding for_all
never_word = refl

pub braces_grow : (v : Version) (n : ℕ) → Below v n → Grown v n → (m : ℕ) (c : Forest) (rest : List Token)
    → Fits v (brace_offset v) c → count c ≤ n → Before v (k.BraceOffset, c) (first_of rest)
    → Grows (php v) (s.Operand m) k.BraceOffset c rest
braces_grow V74 n below grown m c rest x le h = postfix_grows V74 n below grown m OffsetBase t.OpenBrace k.BraceOffset
    (braces expr) (Word t.OpenBrace ∷ any ∷ Word t.CloseBrace ∷ []) c rest brace_base brace_first refl
    (λ i b f st y e. brace_tail_is i (first_of (leaves f ++ rest)) (leaves f ++ rest) e st)
    (tested V74 n below k.BraceOffset (braces expr) (Word t.OpenBrace ∷ any ∷ Word t.CloseBrace ∷ []) rest brace_test)
    x le h
braces_grow V83 n below grown m c rest x le h = let q : (y : Token) × (c ≡ leaf y none)
    × (accepts V83 t.Never y ≡ true) = word_is V83 t.Never c x
    in absurd (false_true (where_is (could V83 t.Never) (λ d. false) (terminal q.0) never_word
    (accepted V83 t.Never q.0 q.2)))

-- ---- members

-- a word and a member
pub split_word : (v : Version) (w : Terminal) (q : Rule) (f : Forest) → Fits v (word w ~ q) f → (x : Token) × (f' : Forest) × (f ≡ leaf x f') × Fits v q f'
split_word v w q f x =
    let o : (g1 : Forest) × (g2 : Forest) × Fits v (word w) g1 × Fits v q g2 × (f ≡ g1 +++ g2) = both_is v (word w) q f x in
    let u : (y : Token) × (o.0 ≡ leaf y none) × (accepts v w y ≡ true) = word_is v w o.0 o.2 in
    (u.0, o.1, o.4 ∙ ap (λ (z : Forest). z +++ o.1) u.1, o.3)

-- what stands behind a member and its word
pub member_ahead : (v : Version) (w : Terminal) (f : Forest) (rest : List Token) → Fits v (word w ~ member) f → behind_member (drop 1 (leaves f ++ rest)) ≡ first_of rest
member_ahead v w f rest x = let q : (y : Token) × (f' : Forest) × (f ≡ leaf y f')
    × Fits v member f' = split_word v w member f x in ap (λ (z : Forest). behind_member (drop 1 (leaves z ++ rest)))
    q.2 ∙ behind_members v q.1 rest q.3

pub call_paren : (v : Version) → only_class v called t.OpenParen ≡ true
unfolding for_all
call_paren V74 = refl
call_paren V83 = refl

pub call_ahead : (v : Version) (w : Terminal) (f : Forest) (rest : List Token) → Fits v (word w ~ member ~ called) f → behind_member (drop 1 (leaves f ++ rest)) ≡ t.OpenParen
call_ahead v w f rest x =
    let q : (y : Token) × (f' : Forest) × (f ≡ leaf y f') × Fits v (member ~ called) f' = split_word v w (member ~ called) f x in
    let o : (g1 : Forest) × (g2 : Forest) × Fits v member g1 × Fits v called g2 × (q.1 ≡ g1 +++ g2) = both_is v member called q.1 q.3 in
    ap (λ (z : Forest). behind_member (drop 1 (leaves z ++ rest))) (q.2 ∙ ap (λ (z : Forest). leaf q.0 z) o.4)
    ∙ ap behind_member (leaves_before o.0 o.1 rest) ∙ behind_members v o.0 (leaves o.1 ++ rest) o.2
    ∙ first_is v called t.OpenParen o.1 rest (call_paren v) refl o.3

-- a node of this kind stands before no `(`
abbrev pub no_paren : Version → NodeKind → Bool
no_paren v j = for_all (λ c. where_it (before_class v j c) (not (is_open_paren c)))

pub not_called : (v : Version) (j : NodeKind) (c : Terminal) → no_paren v j ≡ true → before_class v j c ≡ true → is_open_paren c ≡ false
not_called v j c h b = flip (is_open_paren c) (where_is (before_class v j) (λ d. not (is_open_paren d)) c h b)
  where
    flip : (a : Bool) → not a ≡ true → a ≡ false
    flip true e = absurd (false_true e)
    flip false e = refl

prop_tail : (v : Version) (i : NodeKind) (w : Terminal) (ts : List Token) → w ≡ t.Arrow → is_member_base i ≡ true
    → is_open_paren (behind_member (drop 1 ts)) ≡ false → postfix_by v i w ts ≡ Some prop_form
prop_tail v i w ts e b p = rw (e, b, p) refl

prop_paren : (v : Version) → no_paren v k.Prop ≡ true
unfolding for_all
prop_paren V74 = refl
prop_paren V83 = refl

prop_first : (v : Version) → only_class v (word t.Arrow ~ member) t.Arrow ≡ true
unfolding for_all
prop_first V74 = refl
prop_first V83 = refl

prop_test : (v : Version) → matches v 60 false ((word t.Arrow ~ member) ∷ []) (Word t.Arrow ∷ Part g.Member ∷ []) (before_class v k.Prop) ≡ true
unfolding for_all
prop_test V74 = refl
prop_test V83 = refl

pub props_grow : (v : Version) (n : ℕ) → Below v n → Grown v n → (m : ℕ) (c : Forest) (rest : List Token)
    → Fits v prop c → count c ≤ n → Before v (k.Prop, c) (first_of rest) → Grows (php v) (s.Operand m) k.Prop c rest
props_grow v n below grown m c rest x le h = postfix_grows v n below grown m MemberBase t.Arrow k.Prop
    (word t.Arrow ~ member) (prop_form.1) c rest (member_base v) (prop_first v) refl
    (λ i b f st y e. prop_tail v i (first_of (leaves f ++ rest)) (leaves f ++ rest) e st
    (ap is_open_paren (member_ahead v t.Arrow f rest y) ∙ not_called v k.Prop (first_of rest) (prop_paren v)
    (class_before v k.Prop c (first_of rest) h)))
    (tested v n below k.Prop (word t.Arrow ~ member) (prop_form.1) rest (prop_test v)) x le h

abbrev method_items : List Item
method_items = Word t.Arrow ∷ Part g.Member ∷ Word t.OpenParen ∷ Node s.Args ∷ Word t.CloseParen ∷ []

method_tail : (v : Version) (i : NodeKind) (w : Terminal) (ts : List Token) → w ≡ t.Arrow → is_member_base i ≡ true
    → behind_member (drop 1 ts) ≡ t.OpenParen → postfix_by v i w ts ≡ Some (k.MethodCall, method_items)
method_tail v i w ts e b p = rw (e, b, p) refl

method_first : (v : Version) → only_class v (word t.Arrow ~ member ~ called) t.Arrow ≡ true
unfolding for_all
method_first V74 = refl
method_first V83 = refl

method_test : (v : Version) → matches v 60 false ((word t.Arrow ~ member ~ called) ∷ []) method_items (before_class v k.MethodCall) ≡ true
unfolding for_all
method_test V74 = refl
method_test V83 = refl

pub methods_grow : (v : Version) (n : ℕ) → Below v n → Grown v n → (m : ℕ) (c : Forest) (rest : List Token)
    → Fits v method_call c → count c ≤ n → Before v (k.MethodCall, c) (first_of rest)
    → Grows (php v) (s.Operand m) k.MethodCall c rest
methods_grow v n below grown m c rest x le h = postfix_grows v n below grown m MemberBase t.Arrow k.MethodCall
    (word t.Arrow ~ member ~ called) method_items c rest (member_base v) (method_first v) refl
    (λ i b f st y e. method_tail v i (first_of (leaves f ++ rest)) (leaves f ++ rest) e st
    (call_ahead v t.Arrow f rest y)) (tested v n below k.MethodCall (word t.Arrow ~ member ~ called) method_items rest
    (method_test v)) x le h

-- ---- calls of what an expression gives

abbrev call_items : List Item
call_items = Word t.OpenParen ∷ Node s.Args ∷ Word t.CloseParen ∷ []

call_tail : (v : Version) (i : NodeKind) (w : Terminal) (ts : List Token) → w ≡ t.OpenParen → is_callee i ≡ true → postfix_by v i w ts ≡ Some (k.Call, call_items)
call_tail v i w ts e b = rw (e, b) refl

call_test : (v : Version) → matches v 60 false (called ∷ []) call_items (before_class v k.Call) ≡ true
unfolding for_all
call_test V74 = refl
call_test V83 = refl

pub calls_grow : (v : Version) (n : ℕ) → Below v n → Grown v n → (m : ℕ) (c : Forest) (rest : List Token)
    → Fits v (place Callee ~ called) c → count c ≤ n → Before v (k.Call, c) (first_of rest)
    → Grows (php v) (s.Operand m) k.Call c rest
calls_grow v n below grown m c rest x le h = postfix_grows v n below grown m Callee t.OpenParen k.Call called
    call_items c rest (callee_base v) (call_paren v) refl
    (λ i b f st y e. call_tail v i (first_of (leaves f ++ rest)) (leaves f ++ rest) e st)
    (tested v n below k.Call called call_items rest (call_test v)) x le h
