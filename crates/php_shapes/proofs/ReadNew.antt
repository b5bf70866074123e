-- `instanceof` and `new`.
use Rattle.std.proofs.Common.{
  ◌≡◌,
  ℕ,
  zero,
  suc,
  ◌<◌,
  ◌≤◌,
  Bool,
  true,
  false,
  not,
  ◌&&◌,
  ◌||◌,
  List,
  [],
  ◌∷◌,
  ◌++◌,
  ◌⊎◌,
  inl,
  inr,
  Some,
  refl,
  sym,
  ap,
  ◌∙◌,
  subst,
  append_assoc,
  append-nil,
  arith,
}
use Rattle.std.proofs.lemmas.Bool.{or_left, and_parts}
use Rattle.php_tree.specs.declared.kind.NodeKind.{NodeKind}
use Rattle.php_tree.specs.declared.kind.NodeKind.TheVariants as k
use Rattle.php_tree.specs.declared.token.Token.{Token}
use Rattle.php_tree.specs.declared.version.Version.{Version}
use Rattle.php_tree.specs.declared.version.Version.TheVariants.{V74, V83}
use Rattle.php_tree.specs.Tree.{Forest, none, leaf, node, ◌+++◌, leaves, count}
use Rattle.php_terminals.specs.declared.terminal.Terminal.{Terminal}
use Rattle.php_terminals.specs.declared.terminal.Terminal.TheVariants as t
use Rattle.php_terminals.specs.Classify.{terminal}
use Rattle.php_terminals.specs.Ahead.{first_of, second_of}
use Rattle.php_terminals.specs.Marks.{is_variable_start}
use Rattle.php_forms.specs.declared.item.Sort.TheVariants as s
use Rattle.php_forms.specs.declared.item.Group.TheVariants as g
use Rattle.php_forms.specs.declared.item.Item.{Item}
use Rattle.php_forms.specs.declared.item.Item.TheVariants.{Word, Node, Part, Repeats}
use Rattle.php_forms.specs.Grammar.{Walks, Grows, Spells, ends, child, head, word as a_word}
use Rattle.php_grammar.specs.Accepts.{accepts, same_class}
use Rattle.php_grammar.specs.Levels.{level}
use Rattle.php_grammar.specs.Operands.{operand_form}
use Rattle.php_grammar.specs.Tables.{php}
use Rattle.php_shapes.specs.Atoms.{variable}
use Rattle.php_shapes.specs.Forms.{form as shape_of}
use Rattle.php_shapes.specs.Notation.{Rule, word, kind, place, ◌~◌, ◌|||◌, maybe, expr, parens, braces}
use Rattle.php_shapes.specs.Places.{Place, may_stand}
use Rattle.php_shapes.specs.Shapes.{Fits, is_both, is_first, is_second, IsNode, is_node}
use Rattle.php_shapes.proofs.ReadClasses.{accepted, could, for_all}
use Rattle.php_shapes.proofs.ReadFirst.{nullable, starts}
use Rattle.php_shapes.proofs.ReadEnds.{Behind, Below}
use Rattle.php_shapes.proofs.ReadMatch.{both_is, false_true, fits_alone, FitsAll, leaves_before, matched, matches, nodes_count, nothing_is, place_is, where_is, where_it, word_is}
use Rattle.php_shapes.proofs.ReadOperands.{Before, before_class, ends_its_chain, first_is, only_behind, only_class}
use Rattle.php_shapes.proofs.ReadPostfixes.{split_word}
use Rattle.php_terminals.specs.Ahead.{behind_name}
use Rattle.php_terminals.specs.Marks.{is_double_colon, is_name_part}
use Rattle.php_forms.specs.Names.{name as name_items}
use Rattle.php_grammar.specs.Edges.{edge}
use Rattle.php_grammar.specs.Operands.{created, created_ref, instance_expr, instance_ref}
use Rattle.php_grammar.specs.Tails.{left_edge, operand_tail}
use Rattle.php_shapes.specs.Atoms.{inheritance, members, new, new_arguments}
use Rattle.php_shapes.specs.Names.{name}
use Rattle.php_shapes.specs.Operators.{instance_of}
use Rattle.php_shapes.specs.Places.{begins_with_class_name, ClassName, is_class_name, is_expression, Left}
use Rattle.php_shapes.proofs.ReadEnds.{behind_level, behind_limit, Stopped}
use Rattle.php_shapes.proofs.ReadMatch.{first_class}
use Rattle.php_shapes.proofs.ReadOperands.{FitsLevel, Grown}
use Rattle.php_shapes.proofs.ReadVariables.{group_alone, starts_with}
use Rattle.php_shapes.proofs.ReadNames.{begins_with_name, name_first, name_skips, only_words, words_are}
use Rattle.php_shapes.proofs.ReadAssigns.{chosen_is, on_left}
use Rattle.php_shapes.proofs.ReadInfix.{left_edge_is, left_of, not_list}
use Rattle.php_shapes.proofs.ReadStops.{arrow_of_last, edge_of_last, le_trans3, le_true, level_of_node}
use Rattle.php_grammar.specs.Bases.{is_list}
use Rattle.php_shapes.specs.Places.{ClassBase, MemberBase, OffsetBase}
use Rattle.php_shapes.specs.Postfixes.{member, static_member}
use Rattle.php_shapes.specs.Notation.{brackets}
use Rattle.php_shapes.proofs.ReadOperands.{class_before as class_of_before}

-- ---- how what names a class begins

-- the tokens that an expression which names a class begins with: a name or `static` before `::`, or a variable
abbrev pub StartsClass : List Token → Type 0
StartsClass ts = ((is_name_part (first_of ts) ≡ true) × (is_double_colon (first_of (behind_name ts)) ≡ true))
    ⊎ ((first_of ts ≡ t.Static) × (second_of ts ≡ t.DoubleColon)) ⊎ (is_variable_start (first_of ts) ≡ true)

class_facts : (v : Version) → (words_are v is_name_part (name v) ≡ true) × (begins_with_name v (name v) ≡ true)
    × (only_class v (word t.Static) t.Static ≡ true)
    × (for_all (λ c. where_it (starts v variable c) (is_variable_start c)) ≡ true)
unfolding for_all
class_facts V74 = (refl, refl, refl, refl)
class_facts V83 = (refl, refl, refl, refl)

name_some : (v : Version) → nullable (name v) ≡ false
name_some V74 = refl
name_some V83 = refl

colons : (v : Version) (q : Rule) (f : Forest) (us : List Token)
    → for_all (λ c. where_it (starts v (word t.DoubleColon) c) (same_class c t.DoubleColon)) ≡ true
    → Fits v (word t.DoubleColon ~ q) f → first_of (leaves f ++ us) ≡ t.DoubleColon
colons v q f us h x =
    let o : (y : Token) × (f' : Forest) × (f ≡ leaf y f') × Fits v q f' = split_word v t.DoubleColon q f x in
    let p : (g1 : Forest) × (g2 : Forest) × Fits v (word t.DoubleColon) g1 × Fits v q g2 × (f ≡ g1 +++ g2) = both_is v (word t.DoubleColon) q f x in
    ap first_of (ap (λ (z : Forest). leaves z ++ us) p.4 ∙ leaves_before p.0 p.1 us) ∙ first_is v (word t.DoubleColon) t.DoubleColon p.0 (leaves p.1 ++ us) h refl p.2

colons_word : (v : Version) → only_class v (word t.DoubleColon) t.DoubleColon ≡ true
unfolding for_all
colons_word V74 = refl
colons_word V83 = refl

no_part : (c : Terminal) → c ≡ t.DoubleColon → is_name_part c ≡ false
no_part c e = ap is_name_part e

-- by a name or `static`
by_class : (v : Version) (q : Rule) (a f : Forest) (us : List Token) → Fits v (name v ||| word t.Static) a
    → Fits v (word t.DoubleColon ~ q) f → StartsClass (leaves a ++ (leaves f ++ us))
by_class v q a f us (is_first x) y =
    let fc : first_of (leaves f ++ us) ≡ t.DoubleColon = colons v q f us (colons_word v) y in
    inl (
      name_first v (name v) a (leaves f ++ us) ((class_facts v).1) (name_some v) x,
      ap (λ (z : List Token). is_double_colon (first_of z))
          (name_skips a (leaves f ++ us) (only_words v is_name_part (name v) a ((class_facts v).0) x)
          (no_part (first_of (leaves f ++ us)) fc)) ∙ ap is_double_colon fc,
    )
by_class v q a f us (is_second x) y =
    let fc : first_of (leaves f ++ us) ≡ t.DoubleColon = colons v q f us (colons_word v) y in
    let u : (z : Token) × (a ≡ leaf z none) × (accepts v t.Static z ≡ true) = word_is v t.Static a x in
    inr (inl (first_is v (word t.Static) t.Static a (leaves f ++ us) ((class_facts v).2) refl x, ap (λ (z : Forest). second_of (leaves z ++ (leaves f ++ us))) u.1 ∙ fc))

-- the left part of a node, which names a class too
left_class : (v : Version) (P : Place) (q : Rule) (c : Forest) → Fits v (place P ~ q) c
    → begins_with_class_name c ≡ true → (i : NodeKind) × (b : Forest) × (f : Forest) × (c ≡ node i b f) × IsNode v i b
    × (is_class_name i ≡ true) × (begins_with_class_name b ≡ true)
left_class v P q c x h =
    let o : (g1 : Forest) × (g2 : Forest) × Fits v (place P) g1 × Fits v q g2 × (c ≡ g1 +++ g2) = both_is v (place P) q c x in
    let a : (i : NodeKind) × (b : Forest) × (o.0 ≡ node i b none) × (may_stand v P (i, b) ≡ true) × IsNode v i b = place_is v P o.0 o.2 in
    let at : c ≡ node a.0 a.1 o.1 = o.4 ∙ ap (λ (z : Forest). z +++ o.1) a.2 in
    let w : (is_class_name a.0 ≡ true) × (begins_with_class_name a.1 ≡ true) =
    and_parts (is_class_name a.0) (begins_with_class_name a.1)
    (subst (λ (z : Forest). begins_with_class_name z ≡ true) at h) in
    (a.0, a.1, o.1, at, a.4, w.0, w.1)

left_fewer : (n : ℕ) (i : NodeKind) (c b f : Forest) → c ≡ node i b f → count c < suc n → count b < n
left_fewer n i c b f e lt = let eq : count c ≡ count (node i b f) = ap count e in omega arith

abbrev Starting : Version → ℕ → Type 0
Starting v n = (j : NodeKind) (c : Forest) (us : List Token) → count c < n → is_class_name j ≡ true → begins_with_class_name c ≡ true → IsNode v j c → StartsClass (leaves c ++ us)

by_left : (v : Version) (n : ℕ) → Starting v n → (P : Place) (q : Rule) (c : Forest) (us : List Token)
    → Fits v (place P ~ q) c → begins_with_class_name c ≡ true → count c < suc n → StartsClass (leaves c ++ us)
by_left v n ih P q c us x h lt =
    let w : (i : NodeKind) × (b : Forest) × (f : Forest) × (c ≡ node i b f) × IsNode v i b × (is_class_name i ≡ true)
    × (begins_with_class_name b ≡ true) = left_class v P q c x h in
    subst StartsClass (sym (ap (λ (z : Forest). leaves z ++ us) w.3 ∙ append_assoc (leaves w.1) (leaves w.2) us))
    (ih w.0 w.1 (leaves w.2 ++ us) (left_fewer n w.0 c w.1 w.2 w.3 lt) w.5 w.6 w.4)

by_prop : (v : Version) (n : ℕ) → Starting v n → (c : Forest) (us : List Token) → Fits v (shape_of v k.StaticProp) c
    → begins_with_class_name c ≡ true → count c < suc n → StartsClass (leaves c ++ us)
by_prop v n ih c us (is_both {g = a} {h = f} (is_first x) y e) h lt =
    subst StartsClass (sym (ap (λ (z : Forest). leaves z ++ us) e ∙ leaves_before a f us))
    (by_class v static_member a f us (is_first x) y)
by_prop v n ih c us (is_both {g = a} {h = f} (is_second (is_first x)) y e) h lt =
    subst StartsClass (sym (ap (λ (z : Forest). leaves z ++ us) e ∙ leaves_before a f us))
    (by_class v static_member a f us (is_second x) y)
by_prop v n ih c us (is_both (is_second (is_second x)) y e) h lt = by_left v n ih ClassBase (word t.DoubleColon ~ static_member) c us (is_both x y e) h lt

never_word : for_all (λ c. where_it (could V83 t.Never c) false) ≡ true
unfolding for_all
never_word = refl

none_fewer : (n : ℕ) → n < 0 → ⊥
none_fewer n lt = omega arith

fewer_one : (n : ℕ) → n < suc n
fewer_one n = omega arith

by_brace : (v : Version) (n : ℕ) → Starting v n → (c : Forest) (us : List Token) → Fits v (shape_of v k.BraceOffset) c
    → begins_with_class_name c ≡ true → count c < suc n → StartsClass (leaves c ++ us)
by_brace V74 n ih c us x h lt = by_left V74 n ih OffsetBase (braces expr) c us x h lt
by_brace V83 n ih c us x h lt = let q : (y : Token) × (c ≡ leaf y none)
    × (accepts V83 t.Never y ≡ true) = word_is V83 t.Never c x
    in absurd (false_true (where_is (could V83 t.Never) (λ d. false) (terminal q.0) never_word
    (accepted V83 t.Never q.0 q.2)))

pub class_starts : (v : Version) (n : ℕ) → Starting v n
class_starts v zero j c us lt a h x = absurd (none_fewer (count c) lt)
class_starts v (suc n) k.Block c us lt a h x = absurd (false_true a)
class_starts v (suc n) k.Empty c us lt a h x = absurd (false_true a)
class_starts v (suc n) k.ExprStmt c us lt a h x = absurd (false_true a)
class_starts v (suc n) k.Echo c us lt a h x = absurd (false_true a)
class_starts v (suc n) k.Html c us lt a h x = absurd (false_true a)
class_starts v (suc n) k.Return c us lt a h x = absurd (false_true a)
class_starts v (suc n) k.If c us lt a h x = absurd (false_true a)
class_starts v (suc n) k.IfAlt c us lt a h x = absurd (false_true a)
class_starts v (suc n) k.While c us lt a h x = absurd (false_true a)
class_starts v (suc n) k.DoWhile c us lt a h x = absurd (false_true a)
class_starts v (suc n) k.For c us lt a h x = absurd (false_true a)
class_starts v (suc n) k.Foreach c us lt a h x = absurd (false_true a)
class_starts v (suc n) k.Switch c us lt a h x = absurd (false_true a)
class_starts v (suc n) k.Case c us lt a h x = absurd (false_true a)
class_starts v (suc n) k.Break c us lt a h x = absurd (false_true a)
class_starts v (suc n) k.Continue c us lt a h x = absurd (false_true a)
class_starts v (suc n) k.Global c us lt a h x = absurd (false_true a)
class_starts v (suc n) k.Statics c us lt a h x = absurd (false_true a)
class_starts v (suc n) k.Unset c us lt a h x = absurd (false_true a)
class_starts v (suc n) k.Throw c us lt a h x = absurd (false_true a)
class_starts v (suc n) k.Try c us lt a h x = absurd (false_true a)
class_starts v (suc n) k.Function c us lt a h x = absurd (false_true a)
class_starts v (suc n) k.Param c us lt a h x = absurd (false_true a)
class_starts v (suc n) k.TypeName c us lt a h x = absurd (false_true a)
class_starts v (suc n) k.Class c us lt a h x = absurd (false_true a)
class_starts v (suc n) k.Interface c us lt a h x = absurd (false_true a)
class_starts v (suc n) k.Trait c us lt a h x = absurd (false_true a)
class_starts v (suc n) k.Property c us lt a h x = absurd (false_true a)
class_starts v (suc n) k.ClassConst c us lt a h x = absurd (false_true a)
class_starts v (suc n) k.Method c us lt a h x = absurd (false_true a)
class_starts v (suc n) k.TraitUse c us lt a h x = absurd (false_true a)
class_starts v (suc n) k.Const c us lt a h x = absurd (false_true a)
class_starts v (suc n) k.Namespace c us lt a h x = absurd (false_true a)
class_starts v (suc n) k.Use c us lt a h x = absurd (false_true a)
class_starts v (suc n) k.Declare c us lt a h x = absurd (false_true a)
class_starts v (suc n) k.Goto c us lt a h x = absurd (false_true a)
class_starts v (suc n) k.LabelStmt c us lt a h x = absurd (false_true a)
class_starts v (suc n) k.Variable c us lt a h (is_node x near st) = inr (inr (starts_with v variable is_variable_start c us ((class_facts v).3) refl x))
class_starts v (suc n) k.Number c us lt a h x = absurd (false_true a)
class_starts v (suc n) k.Float c us lt a h x = absurd (false_true a)
class_starts v (suc n) k.Text c us lt a h x = absurd (false_true a)
class_starts v (suc n) k.Quoted c us lt a h x = absurd (false_true a)
class_starts v (suc n) k.Constant c us lt a h x = absurd (false_true a)
class_starts v (suc n) k.ClassConstant c us lt a h x = absurd (false_true a)
class_starts v (suc n) k.Array c us lt a h x = absurd (false_true a)
class_starts v (suc n) k.Item c us lt a h x = absurd (false_true a)
class_starts v (suc n) k.List c us lt a h x = absurd (false_true a)
class_starts v (suc n) k.Paren c us lt a h x = absurd (false_true a)
class_starts v (suc n) k.Offset c us lt a h (is_node x near st) = by_left v n (class_starts v n) OffsetBase (brackets (maybe expr)) c us x h lt
class_starts v (suc n) k.BraceOffset c us lt a h (is_node x near st) = by_brace v n (class_starts v n) c us x h lt
class_starts v (suc n) k.Prop c us lt a h (is_node x near st) = by_left v n (class_starts v n) MemberBase (word t.Arrow ~ member) c us x h lt
class_starts v (suc n) k.StaticProp c us lt a h (is_node x near st) = by_prop v n (class_starts v n) c us x h lt
class_starts v (suc n) k.Call c us lt a h x = absurd (false_true a)
class_starts v (suc n) k.MethodCall c us lt a h x = absurd (false_true a)
class_starts v (suc n) k.StaticCall c us lt a h x = absurd (false_true a)
class_starts v (suc n) k.Args c us lt a h x = absurd (false_true a)
class_starts v (suc n) k.New c us lt a h x = absurd (false_true a)
class_starts v (suc n) k.Isset c us lt a h x = absurd (false_true a)
class_starts v (suc n) k.EmptyTest c us lt a h x = absurd (false_true a)
class_starts v (suc n) k.Exit c us lt a h x = absurd (false_true a)
class_starts v (suc n) k.Closure c us lt a h x = absurd (false_true a)
class_starts v (suc n) k.Arrow c us lt a h x = absurd (false_true a)
class_starts v (suc n) k.Include c us lt a h x = absurd (false_true a)
class_starts v (suc n) k.EvalTest c us lt a h x = absurd (false_true a)
class_starts v (suc n) k.Binary c us lt a h x = absurd (false_true a)
class_starts v (suc n) k.Prefix c us lt a h x = absurd (false_true a)
class_starts v (suc n) k.Postfix c us lt a h x = absurd (false_true a)
class_starts v (suc n) k.Cast c us lt a h x = absurd (false_true a)
class_starts v (suc n) k.Ternary c us lt a h x = absurd (false_true a)
class_starts v (suc n) k.ShortTernary c us lt a h x = absurd (false_true a)
class_starts v (suc n) k.Assign c us lt a h x = absurd (false_true a)
class_starts v (suc n) k.AssignRef c us lt a h x = absurd (false_true a)
class_starts v (suc n) k.CompoundAssign c us lt a h x = absurd (false_true a)
class_starts v (suc n) k.InstanceOf c us lt a h x = absurd (false_true a)
class_starts v (suc n) k.Print c us lt a h x = absurd (false_true a)
class_starts v (suc n) k.Yield c us lt a h x = absurd (false_true a)

-- ---- what is chosen there

variable_created : (c : Terminal) (ts : List Token) → first_of ts ≡ c → is_variable_start c ≡ true → created ts ≡ created_ref
variable_created t.Variable ts e h = rw e refl
variable_created t.Dollar ts e h = rw e refl
variable_created c ts e h = absurd (false_true h)

variable_instance : (c : Terminal) (ts : List Token) → first_of ts ≡ c → is_variable_start c ≡ true → instance_ref ts ≡ instance_expr
variable_instance t.Variable ts e h = rw e refl
variable_instance t.Dollar ts e h = rw e refl
variable_instance c ts e h = absurd (false_true h)

ref_created : (ts : List Token) → StartsClass ts → created ts ≡ created_ref
ref_created ts h = elim h [
  | inl q ↦ rw (q.0, q.1) refl
  | inr w ↦ elim w [
    | inl q ↦ rw (q.0, q.1) refl
    | inr q ↦ variable_created (first_of ts) ts refl q
  ]
]

ref_instance : (ts : List Token) → StartsClass ts → instance_ref ts ≡ instance_expr
ref_instance ts h = elim h [
  | inl q ↦ rw (q.0, q.1) refl
  | inr w ↦ elim w [
    | inl q ↦ rw (q.0, q.1) refl
    | inr q ↦ variable_instance (first_of ts) ts refl q
  ]
]

-- a class by its name alone
name_created : (ts us : List Token) → is_name_part (first_of ts) ≡ true → behind_name ts ≡ us
    → is_double_colon (first_of us) ≡ false → created ts ≡ Part g.Name ∷ Part g.CtorArgs ∷ []
name_created ts us e b d = rw (e, b, d) refl

name_instance : (ts us : List Token) → is_name_part (first_of ts) ≡ true → behind_name ts ≡ us → is_double_colon (first_of us) ≡ false → instance_ref ts ≡ Part g.Name ∷ []
name_instance ts us e b d = rw (e, b, d) refl

static_created : (ts : List Token) → first_of ts ≡ t.Static → is_double_colon (second_of ts) ≡ false → created ts ≡ Word t.Static ∷ Part g.CtorArgs ∷ []
static_created ts e d = rw (e, d) refl

static_instance : (ts : List Token) → first_of ts ≡ t.Static → is_double_colon (second_of ts) ≡ false → instance_ref ts ≡ Word t.Static ∷ []
static_instance ts e d = rw (e, d) refl

class_created : (ts : List Token) → first_of ts ≡ t.Class → created ts ≡ Word t.Class ∷ Part g.CtorArgs
    ∷ Part g.Extends ∷ Part g.Implements ∷ Word t.OpenBrace ∷ Repeats g.Members ∷ Word t.CloseBrace ∷ []
class_created ts e = rw e refl

-- ---- `instanceof`

-- what may stand behind it all
abbrev after_class : Version → Terminal → Bool
after_class v c = before_class v k.InstanceOf c

-- neither a part of a name nor `::`
abbrev plain_end : Terminal → Bool
plain_end c = not (is_name_part c) && not (is_double_colon c)

-- what a node stands before, its last node does
behind_last : (v : Version) (j : NodeKind) (g0 : Forest) (i : NodeKind) (b : Forest) (c : Terminal) → Behind v (j, g0 +++ node i b none) c → Behind v (i, b) c
behind_last v j g0 i b c e = elim e [
  | inl h ↦ inl h
  | inr h ↦ elim h [
    | inl q ↦ inr (inl (q.0, arrow_of_last j g0 i b q.1))
    | inr q ↦ inr (inr (le_trans3 (edge v (i, b)) (edge v (j, g0 +++ node i b none)) (behind_limit v c) (edge_of_last v j g0 i b) q.0, q.1))
  ]
]

instance_facts : (v : Version) → (matches v 60 false (name v ∷ []) (name_items v) (before_class v k.InstanceOf) ≡
    true) × (for_all (λ c. where_it (before_class v k.InstanceOf c) (plain_end c)) ≡ true)
    × (ends_its_chain v k.InstanceOf ≡ true)
    × (only_class v (word t.InstanceOf ~ (name v ||| word t.Static ||| place ClassName)) t.InstanceOf ≡ true)
unfolding for_all
instance_facts V74 = (refl, refl, refl, refl)
instance_facts V83 = (refl, refl, refl, refl)

two_ends : (c : Terminal) → plain_end c ≡ true → (is_name_part c ≡ false) × (is_double_colon c ≡ false)
two_ends c h = let q : (not (is_name_part c) ≡ true) × (not (is_double_colon c) ≡ true) =
    and_parts (not (is_name_part c)) (not (is_double_colon c)) h in
    (flip (is_name_part c) q.0, flip (is_double_colon c) q.1)
  where
    flip : (a : Bool) → not a ≡ true → a ≡ false
    flip true e = absurd (false_true e)
    flip false e = refl

instance_walk : (v : Version) (n : ℕ) → Below v n → (i : NodeKind) (b : Forest) (x : Token) (f : Forest)
    (rest : List Token) → Fits v (name v ||| word t.Static ||| place ClassName) f → count f ≤ n
    → Before v (k.InstanceOf, node i b (leaf x f)) (first_of rest) → Walks (php v) (Part g.InstanceRef ∷ []) f rest
instance_walk v n below i b x f rest (is_first y) le h =
    let bc : before_class v k.InstanceOf (first_of rest) ≡ true = class_of_before v k.InstanceOf (node i b (leaf x f)) (first_of rest) h in
    let e : (is_name_part (first_of rest) ≡ false) × (is_double_colon (first_of rest) ≡ false) =
    two_ends (first_of rest) (where_is (before_class v k.InstanceOf) plain_end (first_of rest)
    ((instance_facts v).1) bc) in
    group_alone v g.InstanceRef (Part g.Name ∷ []) f rest
    (name_instance (leaves f ++ rest) rest (name_first v (name v) f rest ((class_facts v).1) (name_some v) y)
    (name_skips f rest (only_words v is_name_part (name v) f ((class_facts v).0) y) e.0) e.1)
    (group_alone v g.Name (name_items v) f rest refl
    (matched v n below 60 false (name v ∷ []) (name_items v) (before_class v k.InstanceOf) f rest
    ((instance_facts v).0) (fits_alone v (name v) f y) le bc (λ z. absurd (false_true z))))
instance_walk v n below i b x f rest (is_second (is_first y)) le h =
    let bc : before_class v k.InstanceOf (first_of rest) ≡ true = class_of_before v k.InstanceOf (node i b (leaf x f)) (first_of rest) h in
    let e : (is_name_part (first_of rest) ≡ false) × (is_double_colon (first_of rest) ≡ false) =
    two_ends (first_of rest) (where_is (before_class v k.InstanceOf) plain_end (first_of rest)
    ((instance_facts v).1) bc) in
    let u : (z : Token) × (f ≡ leaf z none) × (accepts v t.Static z ≡ true) = word_is v t.Static f y in
    group_alone v g.InstanceRef (Word t.Static ∷ []) f rest
    (static_instance (leaves f ++ rest) (first_is v (word t.Static) t.Static f rest ((class_facts v).2) refl y)
    (ap (λ (z : Forest). is_double_colon (second_of (leaves z ++ rest))) u.1 ∙ e.1))
    (subst (λ (z : Forest). Walks (php v) (Word t.Static ∷ []) z rest) (sym u.1) (a_word u.2 ends))
instance_walk v n below i b x f rest (is_second (is_second y)) le h =
    let w : (j : NodeKind) × (c : Forest) × (f ≡ node j c none) × (may_stand v ClassName (j, c) ≡ true) × IsNode v j c = place_is v ClassName f y in
    let q : (is_class_name w.0 ≡ true) × (begins_with_class_name w.1 ≡ true) = and_parts (is_class_name w.0) (begins_with_class_name w.1) w.3 in
    let h' : Behind v (k.InstanceOf, node i b (leaf x (node w.0 w.1 none))) (first_of rest) =
    only_behind v k.InstanceOf (node i b (leaf x (node w.0 w.1 none))) (first_of rest) ((instance_facts v).2)
    (subst (λ (z : Forest). Before v (k.InstanceOf, node i b (leaf x z)) (first_of rest)) w.2 h) in
    let y : Spells (php v) s.ClassRef (w.0, w.1) rest = below.placed ClassName s.ClassRef w.0 w.1 rest refl
    ((nodes_count w.0 w.1 none n (subst (λ (z : Forest). count z ≤ n) w.2 le)).0) w.3 w.4
    (inl (behind_last v k.InstanceOf (node i b (leaf x none)) w.0 w.1 (first_of rest) h')) in
    group_alone v g.InstanceRef (Node s.ClassRef ∷ []) f rest
    (ref_instance (leaves f ++ rest) (subst StartsClass (sym
    (ap (λ (z : Forest). leaves z ++ rest) w.2 ∙ ap (λ (z : List Token). z ++ rest) (append-nil (leaves w.1))))
    (class_starts v (suc (count w.1)) w.0 w.1 rest (fewer_one (count w.1)) q.0 q.1 w.4)))
    (subst (λ (z : Forest). Walks (php v) (Node s.ClassRef ∷ []) z rest) (sym w.2) (child y.0 y.1 ends))

instance_tail : (v : Version) (m : ℕ) (i : NodeKind) (b : Forest) (ts : List Token) → first_of ts ≡ t.InstanceOf
    → 4 ≤ m → left_edge v (i, b) ≤ 4 → operand_tail v m (i, b) ts ≡ Some
    (k.InstanceOf, Word t.InstanceOf ∷ Part g.InstanceRef ∷ [])
instance_tail v m i b ts e a l = chosen_is v m i b ts (k.InstanceOf, Word t.InstanceOf ∷ Part g.InstanceRef ∷ [])
    (rw e refl) (rw (e, le_true 4 m a, le_true (left_edge v (i, b)) 4 l) refl)

fits_4 : (v : Version) (m : ℕ) (c : Forest) → FitsLevel v m (k.InstanceOf, c) → 4 ≤ m
fits_4 v m c h = elim h [ inl le ↦ le | inr q ↦ absurd (false_true q) ]

some_4 : 0 < 4
some_4 = omega arith

instance_whole : (v : Version) (n : ℕ) → Below v n → (i : NodeKind) (b f : Forest) (rest : List Token)
    → Fits v (word t.InstanceOf ~ (name v ||| word t.Static ||| place ClassName)) f → count f ≤ n
    → Before v (k.InstanceOf, node i b f) (first_of rest) → Walks (php v)
    (Word t.InstanceOf ∷ Part g.InstanceRef ∷ []) f rest
instance_whole v n below i b f rest (is_both {g = g1} {h = g2} x y e) le h =
    let u : (z : Token) × (g1 ≡ leaf z none) × (accepts v t.InstanceOf z ≡ true) = word_is v t.InstanceOf g1 x in
    let at : f ≡ leaf u.0 g2 = e ∙ ap (λ (z : Forest). z +++ g2) u.1 in
    subst (λ (z : Forest). Walks (php v) (Word t.InstanceOf ∷ Part g.InstanceRef ∷ []) z rest) (sym at)
    (a_word u.2 (instance_walk v n below i b u.0 g2 rest y (subst (λ (z : Forest). count z ≤ n) at le)
    (subst (λ (z : Forest). Before v (k.InstanceOf, node i b z) (first_of rest)) at h)))

pub instances_grow : (v : Version) (n : ℕ) → Below v n → Grown v n → (m : ℕ) (c : Forest) (rest : List Token)
    → Fits v (instance_of v) c → count c ≤ n → FitsLevel v m (k.InstanceOf, c)
    → Before v (k.InstanceOf, c) (first_of rest) → Grows (php v) (s.Operand m) k.InstanceOf c rest
instances_grow v n below grown m c rest x le fl h =
    let a : 4 ≤ m = fits_4 v m c fl in
    on_left v n grown m (Left 4) k.InstanceOf (word t.InstanceOf ~ (name v ||| word t.Static ||| place ClassName)) (Word t.InstanceOf ∷ Part g.InstanceRef ∷ []) c rest
    (λ i b f at st y. let q : (is_expression i ≡ true) × (edge v (i, b) ≤ 4) = left_of v 4 i b st
    in let fw : first_of (leaves f ++ rest) ≡ t.InstanceOf =
    first_is v (word t.InstanceOf ~ (name v ||| word t.Static ||| place ClassName)) t.InstanceOf f rest
    ((instance_facts v).3) refl y in (
      or_left (is_expression i) (is_list i) q.0,
      inl (le_trans3 (level v (i, b)) (edge v (i, b)) m (level_of_node v (i, b))
          (le_trans3 (edge v (i, b)) 4 m q.1 a)),
      inl (
        not_list i q.0,
        inr (inr (
          subst (λ (z : Terminal). edge v (i, b) ≤ behind_limit v z) (sym fw) q.1,
          subst (λ (z : Terminal). 0 < behind_level v z) (sym fw) some_4,
        )),
      ),
    ))
    (λ i b f at st y. let q : (is_expression i ≡ true) × (edge v (i, b) ≤ 4) = left_of v 4 i b st
    in instance_tail v m i b (leaves f ++ rest)
    (first_is v (word t.InstanceOf ~ (name v ||| word t.Static ||| place ClassName)) t.InstanceOf f rest
    ((instance_facts v).3) refl y) a (subst (λ (z : ℕ). z ≤ 4) (sym (left_edge_is v i b (not_list i q.0))) q.1))
    (λ i b f at y le'. instance_whole v n below i b f rest y le' (subst (λ (z : Forest). Before v (k.InstanceOf, z) (first_of rest)) at h))
    x le

-- ---- `new`

abbrev class_part : Version → Rule
class_part v = name v ||| word t.Static ||| place ClassName

abbrev anonymous : Version → Rule
anonymous v = word t.Class ~ new_arguments ~ inheritance v ~ members

abbrev anonymous_items : List Item
anonymous_items = Word t.Class ∷ Part g.CtorArgs ∷ Part g.Extends ∷ Part g.Implements ∷ Word t.OpenBrace ∷ Repeats g.Members ∷ Word t.CloseBrace ∷ []

abbrev any_class : Terminal → Bool
any_class c = true

new_facts : (v : Version) → (matches v 60 false (name v ∷ new_arguments ∷ []) (Part g.Name ∷ Part g.CtorArgs ∷ [])
    (before_class v k.New) ≡ true) × (matches v 60 false (word t.Static ∷ new_arguments ∷ [])
    (Word t.Static ∷ Part g.CtorArgs ∷ []) (before_class v k.New) ≡ true)
    × (matches v 60 false (new_arguments ∷ []) (Part g.CtorArgs ∷ []) (before_class v k.New) ≡ true)
    × (matches v 60 false (anonymous v ∷ []) anonymous_items any_class ≡ true)
    × (for_all (λ c. where_it (starts v new_arguments c || before_class v k.New c) (plain_end c)) ≡ true)
    × (ends_its_chain v k.New ≡ true) × (only_class v (anonymous v) t.Class ≡ true)
    × (only_class v (parens (kind k.Args)) t.OpenParen ≡ true)
unfolding for_all
new_facts V74 = (refl, refl, refl, refl, refl, refl, refl, refl)
new_facts V83 = (refl, refl, refl, refl, refl, refl, refl, refl)

new_first : (v : Version) → (only_class v (word t.New) t.New ≡ true)
unfolding for_all
new_first V74 = refl
new_first V83 = refl

new_form : (v : Version) (ts : List Token) → first_of ts ≡ t.New → operand_form v ts ≡ Some (k.New, Word t.New ∷ Part g.Created ∷ [])
new_form v ts e = rw e refl

-- what stands behind the class: its arguments, or what follows all
arguments_next : (v : Version) (f : Forest) (rest : List Token) → Fits v new_arguments f
    → before_class v k.New (first_of rest) ≡ true → plain_end (first_of (leaves f ++ rest)) ≡ true
arguments_next v f rest x h = where_is (λ c. starts v new_arguments c || before_class v k.New c) plain_end
    (first_of (leaves f ++ rest)) ((new_facts v).4)
    (first_class v (new_arguments ∷ []) (before_class v k.New) f rest (fits_alone v new_arguments f x) h)

both_fit : (v : Version) (a b : Rule) (g1 g2 f : Forest) → Fits v a g1 → Fits v b g2 → f ≡ g1 +++ g2 → FitsAll v (a ∷ b ∷ []) f
both_fit v a b g1 g2 f x y e = (g1, g2, x, fits_alone v b g2 y, e)

-- the class that an expression names, before arguments or what follows all
ref_stops : (v : Version) (x : Token) (j : NodeKind) (b f : Forest) (rest : List Token) → Fits v new_arguments f
    → Before v (k.New, leaf x (node j b f)) (first_of rest) → Stopped v s.ClassRef (j, b) (leaves f ++ rest)
ref_stops v x j b f rest (is_first y) h =
    let e : f ≡ none = nothing_is v f y in
    inl (subst (λ (z : Forest). Behind v (j, b) (first_of (leaves z ++ rest))) (sym e)
    (behind_last v k.New (leaf x none) j b (first_of rest)
    (only_behind v k.New (leaf x (node j b none)) (first_of rest) ((new_facts v).5)
    (subst (λ (z : Forest). Before v (k.New, leaf x (node j b z)) (first_of rest)) e h))))
ref_stops v x j b f rest (is_second y) h = inr (first_is v (parens (kind k.Args)) t.OpenParen f rest ((new_facts v).7) refl y)

created_walk : (v : Version) (n : ℕ) → Below v n → (x : Token) (f : Forest) (rest : List Token)
    → Fits v (class_part v ~ new_arguments ||| anonymous v) f → count f ≤ n
    → Before v (k.New, leaf x f) (first_of rest) → Walks (php v) (Part g.Created ∷ []) f rest
created_walk v n below x f rest (is_second y) le h =
    group_alone v g.Created anonymous_items f rest (class_created (leaves f ++ rest) (first_is v (anonymous v) t.Class f rest ((new_facts v).6) refl y))
    (matched v n below 60 false (anonymous v ∷ []) anonymous_items any_class f rest ((new_facts v).3) (fits_alone v (anonymous v) f y) le refl (λ z. absurd (false_true z)))
created_walk v n below x f rest (is_first (is_both {g = g1} {h = g2} (is_first y) z e)) le h =
    let bc : before_class v k.New (first_of rest) ≡ true = class_of_before v k.New (leaf x f) (first_of rest) h in
    let us : List Token = leaves g2 ++ rest in
    let ab : (is_name_part (first_of us) ≡ false) × (is_double_colon (first_of us) ≡ false) = two_ends (first_of us) (arguments_next v g2 rest z bc) in
    let at : leaves f ++ rest ≡ leaves g1 ++ us = ap (λ (m : Forest). leaves m ++ rest) e ∙ leaves_before g1 g2 rest in
    group_alone v g.Created (Part g.Name ∷ Part g.CtorArgs ∷ []) f rest
    (ap created at ∙ name_created (leaves g1 ++ us) us
    (name_first v (name v) g1 us ((class_facts v).1) (name_some v) y)
    (name_skips g1 us (only_words v is_name_part (name v) g1 ((class_facts v).0) y) ab.0) ab.1)
    (matched v n below 60 false (name v ∷ new_arguments ∷ []) (Part g.Name ∷ Part g.CtorArgs ∷ [])
    (before_class v k.New) f rest ((new_facts v).0) (both_fit v (name v) new_arguments g1 g2 f y z e) le bc
    (λ w. absurd (false_true w)))
created_walk v n below x f rest (is_first (is_both {g = g1} {h = g2} (is_second (is_first y)) z e)) le h =
    let bc : before_class v k.New (first_of rest) ≡ true = class_of_before v k.New (leaf x f) (first_of rest) h in
    let us : List Token = leaves g2 ++ rest in
    let ab : (is_name_part (first_of us) ≡ false) × (is_double_colon (first_of us) ≡ false) = two_ends (first_of us) (arguments_next v g2 rest z bc) in
    let at : leaves f ++ rest ≡ leaves g1 ++ us = ap (λ (m : Forest). leaves m ++ rest) e ∙ leaves_before g1 g2 rest in
    let u : (w : Token) × (g1 ≡ leaf w none) × (accepts v t.Static w ≡ true) = word_is v t.Static g1 y in
    group_alone v g.Created (Word t.Static ∷ Part g.CtorArgs ∷ []) f rest
    (ap created at ∙ static_created (leaves g1 ++ us)
    (first_is v (word t.Static) t.Static g1 us ((class_facts v).2) refl y)
    (ap (λ (m : Forest). is_double_colon (second_of (leaves m ++ us))) u.1 ∙ ab.1))
    (matched v n below 60 false (word t.Static ∷ new_arguments ∷ []) (Word t.Static ∷ Part g.CtorArgs ∷ [])
    (before_class v k.New) f rest ((new_facts v).1) (both_fit v (word t.Static) new_arguments g1 g2 f y z e) le bc
    (λ w. absurd (false_true w)))
created_walk v n below x f rest (is_first (is_both {g = g1} {h = g2} (is_second (is_second y)) z e)) le h =
    let bc : before_class v k.New (first_of rest) ≡ true = class_of_before v k.New (leaf x f) (first_of rest) h in
    let us : List Token = leaves g2 ++ rest in
    let w : (j : NodeKind) × (c : Forest) × (g1 ≡ node j c none) × (may_stand v ClassName (j, c) ≡ true) × IsNode v j c = place_is v ClassName g1 y in
    let q : (is_class_name w.0 ≡ true) × (begins_with_class_name w.1 ≡ true) = and_parts (is_class_name w.0) (begins_with_class_name w.1) w.3 in
    let at : f ≡ node w.0 w.1 g2 = e ∙ ap (λ (m : Forest). m +++ g2) w.2 in
    let two : (count w.1 < n) × (count g2 ≤ n) = nodes_count w.0 w.1 g2 n (subst (λ (m : Forest). count m ≤ n) at le) in
    let r : Spells (php v) s.ClassRef (w.0, w.1) us = below.placed ClassName s.ClassRef w.0 w.1 us refl two.0 w.3 w.4
    (ref_stops v x w.0 w.1 g2 rest z (subst (λ (m : Forest). Before v (k.New, leaf x m) (first_of rest)) at h)) in
    group_alone v g.Created created_ref f rest
    (ref_created (leaves f ++ rest) (subst StartsClass (sym
    (ap (λ (m : Forest). leaves m ++ rest) at ∙ append_assoc (leaves w.1) (leaves g2) rest))
    (class_starts v (suc (count w.1)) w.0 w.1 us (fewer_one (count w.1)) q.0 q.1 w.4)))
    (subst (λ (m : Forest). Walks (php v) created_ref m rest) (sym at)
    (child r.0 r.1 (matched v n below 60 false (new_arguments ∷ []) (Part g.CtorArgs ∷ []) (before_class v k.New) g2
    rest ((new_facts v).2) (fits_alone v new_arguments g2 z) two.1 bc (λ w. absurd (false_true w)))))

pub news_grow : (v : Version) (n : ℕ) → Below v n → (m : ℕ) (c : Forest) (rest : List Token) → Fits v (new v) c
    → count c ≤ n → Before v (k.New, c) (first_of rest) → Grows (php v) (s.Operand m) k.New c rest
news_grow v n below m c rest (is_both {g = g1} {h = g2} x y e) le h =
    let u : (w : Token) × (g1 ≡ leaf w none) × (accepts v t.New w ≡ true) = word_is v t.New g1 x in
    let at : c ≡ leaf u.0 g2 = e ∙ ap (λ (m : Forest). m +++ g2) u.1 in
    let fn : first_of (leaves c ++ rest) ≡ t.New = ap first_of
    (ap (λ (m : Forest). leaves m ++ rest) e ∙ leaves_before g1 g2 rest)
    ∙ first_is v (word t.New) t.New g1 (leaves g2 ++ rest) (new_first v) refl x in
    head (new_form v (leaves c ++ rest) fn)
    (subst (λ (m : Forest). Walks (php v) (Word t.New ∷ Part g.Created ∷ []) m rest) (sym at)
    (a_word u.2 (created_walk v n below u.0 g2 rest y (subst (λ (m : Forest). count m ≤ n) at le) (subst (λ (m : Forest). Before v (k.New, m) (first_of rest)) at h))))
