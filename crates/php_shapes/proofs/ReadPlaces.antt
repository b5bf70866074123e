-- What is written, and the first expressions of items of list forms.
use Rattle.std.proofs.Common.{◌≡◌, ℕ, Bool, true, false, not, cond, ◌||◌, List, [], ◌∷◌, ◌++◌, inl, inr, Option, Some, None, refl, sym, ap, ◌∙◌, subst, append_assoc}
use Rattle.std.proofs.lemmas.Bool.{or_left, or_right, not-true}
use Rattle.php_tree.specs.declared.kind.NodeKind.{NodeKind}
use Rattle.php_tree.specs.declared.kind.NodeKind.TheVariants as k
use Rattle.php_tree.specs.declared.token.Token.{Token}
use Rattle.php_tree.specs.declared.version.Version.{Version}
use Rattle.php_tree.specs.declared.version.Version.TheVariants.{V74, V83}
use Rattle.php_tree.specs.Tree.{Forest, Tree, leaves}
use Rattle.php_terminals.specs.declared.terminal.Terminal.{Terminal}
use Rattle.php_terminals.specs.declared.terminal.Terminal.TheVariants as t
use Rattle.php_terminals.specs.Classify.{terminal}
use Rattle.php_terminals.specs.Ahead.{first_of, second_of}
use Rattle.php_forms.specs.declared.item.Sort.{Sort}
use Rattle.php_forms.specs.declared.item.Sort.TheVariants as s
use Rattle.php_forms.specs.declared.item.Group.TheVariants as g
use Rattle.php_forms.specs.declared.item.Item.{Item}
use Rattle.php_forms.specs.declared.item.Item.TheVariants.{Word, Node, Part}
use Rattle.php_forms.specs.Forms.{any}
use Rattle.php_forms.specs.Grammar.{Form, Walks, Grows, Spells, head, onward, word as a_word}
use Rattle.php_grammar.specs.Operands.{operand_form}
use Rattle.php_grammar.specs.Tables.{php}
use Rattle.php_shapes.specs.Nearest.{is_to}
use Rattle.php_shapes.specs.Shapes.{IsNode}
use Rattle.php_shapes.proofs.ReadClasses.{accepted, could, for_all}
use Rattle.php_shapes.proofs.ReadFirst.{Begins}
use Rattle.php_shapes.proofs.ReadEnds.{Behind, closes_expression, closes_item}
use Rattle.php_shapes.proofs.ReadMatch.{begins_there, false_true, where_is, where_it}
use Rattle.php_terminals.specs.Ahead.{past_group}
use Rattle.php_terminals.specs.Indents.{is_misindented}
use Rattle.php_terminals.specs.Marks.{begins_place, ends_item, goes_on, is_assign}
use Rattle.php_forms.specs.Forms.{or_else, refused, when}
use Rattle.php_grammar.specs.Bases.{is_callee, is_class_base, is_list, is_member_base, is_offset_base, is_target, role_of}
use Rattle.php_grammar.specs.Operands.{entry_form, place_form, target_form, target_list_form}
use Rattle.php_grammar.specs.Tables.{form, tail}
use Rattle.php_grammar.specs.Tails.{
  binary_tail,
  chosen_tail,
  entry_end,
  entry_tail,
  left_edge,
  operand_tail,
  operator_by,
  operator_tail,
  place_tail,
  postfix_by,
  postfix_tail,
  read_tail,
  refused_unless,
  target_tail,
  ternary_tail,
  assign_tail,
}
use Rattle.php_shapes.specs.Places.{OffsetBase, is_expression}
use Rattle.php_shapes.proofs.ReadFirst.{at_place, begins, may_be_empty, node_begins}
use Rattle.php_shapes.proofs.ReadEnds.{closes_target}
use Rattle.php_shapes.proofs.ReadPostfixes.{base_expression, callee_offset, class_offset, member_offset, target_offset}
use Rattle.php_shapes.proofs.ReadInfix.{not_list}
use Rattle.php_shapes.proofs.ReadLeading.{bases_lead, bracketed_past, expressions_lead, inner_lead, is_bracketed}
use Rattle.php_shapes.proofs.ReadStops.{all_closed, closed_postfix, ends_all, loose_postfix, none_else, straight}
use Rattle.php_grammar.specs.Levels.{binary_items}

some_form : (f g : Form) → Some f ≡ Some g → f ≡ g
some_form f g e = cc

abbrev is_any : NodeKind → Bool
is_any j = is_expression j || is_list j

never_word : (v : Version) → for_all (λ c. where_it (could v t.Never c) false) ≡ true
unfolding for_all
never_word V74 = refl
never_word V83 = refl

not_empty_base : (j : NodeKind) → is_offset_base j ≡ true → may_be_empty j ≡ false
not_empty_base k.Args h = absurd (false_true h)
not_empty_base other h = refl

target_plain : (j : NodeKind) → is_target j ≡ true → is_bracketed j ≡ false
target_plain k.Array h = absurd (false_true h)
target_plain k.List h = absurd (false_true h)
target_plain other h = refl

goes_no_assign : (c : Terminal) → goes_on c ≡ true → is_assign c ≡ false
goes_no_assign t.Assign h = absurd (false_true h)
goes_no_assign c h = refl

bracket_target : (v : Version) (ts : List Token) → first_of ts ≡ t.OpenBracket → goes_on (first_of (past_group 0 ts)) ≡ true → target_form v ts ≡ operand_form v ts
bracket_target v ts e g = rw (e, g, goes_no_assign (first_of (past_group 0 ts)) g) refl

no_end : (c : Terminal) → closes_item c ≡ false → ends_item c ≡ is_assign c
no_end t.Comma h = absurd (false_true (sym h))
no_end t.CloseBracket h = absurd (false_true (sym h))
no_end t.CloseParen h = absurd (false_true (sym h))
no_end c h = refl

bracket_entry : (v : Version) (ts : List Token) → first_of ts ≡ t.OpenBracket → closes_item (first_of (past_group 0 ts)) ≡ false → entry_form v ts ≡ operand_form v ts
bracket_entry v ts e g = rw (e, no_end (first_of (past_group 0 ts)) g) refl

entry_at : (v : Version) (ts : List Token) (d : Terminal) → first_of ts ≡ d
    → (d ≡ t.OpenBracket → closes_item (first_of (past_group 0 ts)) ≡ false) → entry_form v ts ≡ operand_form v ts
entry_at v ts t.OpenBracket e g = bracket_entry v ts e (g refl)
entry_at v ts d e g = rw e refl

plain_target : (v : Version) (ts : List Token) (d : Terminal) → first_of ts ≡ d → begins_place d ≡ true → place_form v ts ≡ operand_form v ts
plain_target v ts d e b = rw (ap begins_place e ∙ b) refl

entry_some : (v : Version) (x : Tree) (ts : List Token) (g : Form) → is_misindented x ≡ false → operand_tail v 24 x ts ≡ Some g → entry_tail v x ts ≡ Some g
entry_some v x ts g mi e = rw (mi, e) refl

pub closes_item_all : (c : Terminal) → closes_item c ≡ true → ends_all c ≡ true
closes_item_all t.Comma h = refl
closes_item_all t.CloseParen h = refl
closes_item_all t.CloseBracket h = refl
closes_item_all c h = absurd (false_true h)

key_end : (j : NodeKind) (c : Terminal) → c ≡ t.DoubleArrow → is_list j ≡ false → entry_end j c ≡ None
key_end j c e n = rw (e, n) refl

pub target_end : (j : NodeKind) (c : Terminal) → closes_item c ≡ true → (is_target j || is_list j) ≡ true → entry_end j c ≡ None
target_end j t.Comma h e = rw e refl
target_end j t.CloseParen h e = rw e refl
target_end j t.CloseBracket h e = rw e refl
target_end j c h e = absurd (false_true h)

key_past : (v : Version) (j : NodeKind) (c : Forest) (rest : List Token) → is_expression j ≡ true → IsNode v j c
    → first_of rest ≡ t.DoubleArrow → (a : Bool) → is_bracketed j ≡ a → first_of (leaves c ++ rest) ≡ t.OpenBracket
    → closes_item (first_of (past_group 0 (leaves c ++ rest))) ≡ false
key_past v j c rest h x e true b m = ap (λ (z : List Token). closes_item (first_of z)) (bracketed_past v j c rest b x m) ∙ ap closes_item e
key_past v j c rest h x e false b m = not-true (closes_item (first_of (past_group 0 (leaves c ++ rest))))
    (inner_lead v is_any (λ d. not (closes_item d)) (expressions_lead v) j c rest
    (or_left (is_expression j) (is_list j) h) b x m)

-- ---- the same node at another sort

pub grow_as : (v : Version) (m : ℕ) (S : Sort) (A : NodeKind → Bool) (ts : List Token)
    → form v S ts ≡ operand_form v ts → ((i : NodeKind) (b : Forest) (us : List Token) (j : NodeKind) (is : List Item)
    (f : Forest) (rest : List Token) → read_tail v m (i, b) us ≡ Some (j, is) → A j ≡ true → Walks (php v) is f rest
    → (tail v S (i, b) us ≡ Some (j, is)) × (A i ≡ true)) → {j : NodeKind} {c : Forest} {rest : List Token}
    → Grows (php v) (s.Operand m) j c rest → A j ≡ true → ts ≡ leaves c ++ rest → Grows (php v) S j c rest
grow_as v m S A ts same step (head e w) a at = head (ap (form v S) (sym at) ∙ same ∙ ap (operand_form v) at ∙ e) w
grow_as v m S A ts same step (onward {j = i} {k = j} {is = is} {b = b} {f = f} {rest = rest} gr e w) a at =
    let q : (tail v S (i, b) (leaves f ++ rest) ≡ Some (j, is)) × (A i ≡ true) = step i b (leaves f ++ rest) j is f rest e a w in
    onward (grow_as v m S A ts same step gr q.1 (at ∙ append_assoc (leaves b) (leaves f) rest)) q.0 w

-- ---- forms that a test allows

when_is : (b : Bool) (f fo : Form) → when b f ≡ Some fo → (b ≡ true) × (f ≡ fo)
when_is true f fo e = (refl, some_form f fo e)
when_is false f fo e = absurd cc

none_is : (fo : Form) → None ≡ Some fo → ⊥
none_is fo e = cc

kind_no : (f fo : Form) (A : NodeKind → Bool) → f ≡ fo → A f.0 ≡ false → A fo.0 ≡ true → ⊥
kind_no f fo A e n y = false_true (sym n ∙ ap (λ (z : Form). A z.0) e ∙ y)

when_no : (b : Bool) (f fo : Form) (A : NodeKind → Bool) → when b f ≡ Some fo → A f.0 ≡ false → A fo.0 ≡ true → ⊥
when_no b f fo A e n y = kind_no f fo A ((when_is b f fo e).1) n y

assign_no : (i : NodeKind) (d : Terminal) (fo : Form) → assign_tail i d ≡ Some fo → is_offset_base fo.0 ≡ true → ⊥
assign_no i t.Ampersand fo e y = when_no (is_target i) (k.AssignRef, Word t.Assign ∷ Word t.Ampersand ∷ Node (s.Operand 19) ∷ []) fo is_offset_base e refl y
assign_no i d fo e y = when_no (is_target i || is_list i) (k.Assign, Word t.Assign ∷ Node (s.Operand 19) ∷ []) fo is_offset_base e refl y

ternary_no : (v : Version) (m left : ℕ) (i : NodeKind) (d : Terminal) (fo : Form) → ternary_tail v m left i d ≡ Some fo → is_offset_base fo.0 ≡ true → ⊥
ternary_no v m left i t.Colon fo e y = when_no _ (k.ShortTernary, Word t.Question ∷ Word t.Colon ∷ Node (s.Operand 17) ∷ []) fo is_offset_base e refl y
ternary_no v m left i d fo e y = when_no _ (k.Ternary, Word t.Question ∷ any ∷ Word t.Colon ∷ Node (s.Operand 17) ∷ []) fo is_offset_base e refl y

chosen_no : (v : Version) (m left : ℕ) (i : NodeKind) (c : Terminal) (ts : List Token) (fo : Form) → operator_by v m left i c ts ≡ Some fo → is_offset_base fo.0 ≡ true → ⊥
chosen_no v m left i t.Assign ts fo e y = assign_no i (second_of ts) fo e y
chosen_no v m left i t.CompoundAssign ts fo e y = when_no (is_target i) (k.CompoundAssign, Word t.CompoundAssign ∷ Node (s.Operand 19) ∷ []) fo is_offset_base e refl y
chosen_no v m left i t.Step ts fo e y = when_no (is_target i) (k.Postfix, Word t.Step ∷ []) fo is_offset_base e refl y
chosen_no v m left i t.InstanceOf ts fo e y = when_no _ (k.InstanceOf, Word t.InstanceOf ∷ Part g.InstanceRef ∷ []) fo is_offset_base e refl y
chosen_no v m left i t.Question ts fo e y = ternary_no v m left i (second_of ts) fo e y
chosen_no v m left i c ts fo e y = none_is fo e

else_no : (a b : Option Form) (fo : Form) → ((a ≡ Some fo) → ⊥) → ((b ≡ Some fo) → ⊥) → or_else a b ≡ Some fo → ⊥
else_no None b fo x y e = y e
else_no (Some f) b fo x y e = x e

else_first : (a b : Option Form) (fo : Form) → ((b ≡ Some fo) → ⊥) → or_else a b ≡ Some fo → a ≡ Some fo
else_first None b fo y e = absurd (y e)
else_first (Some f) b fo y e = e

refused_no : (b : Bool) (fo : Form) → refused_unless b ≡ Some fo → is_offset_base fo.0 ≡ true → ⊥
refused_no true fo e y = none_is fo e
refused_no false fo e y = kind_no (k.Empty, Word t.Never ∷ []) fo is_offset_base (some_form (k.Empty, Word t.Never ∷ []) fo e) refl y

-- a postfix stands behind a base alone
pub postfix_base : (v : Version) (i : NodeKind) (c : Terminal) (ts : List Token) (g : Form) → postfix_by v i c ts ≡ Some g → is_offset_base i ≡ true
postfix_base v i t.OpenBracket ts g e = (when_is (is_offset_base i) _ g e).0
postfix_base V74 i t.OpenBrace ts g e = (when_is (is_offset_base i) _ g e).0
postfix_base V83 i t.OpenBrace ts g e = absurd (none_is g e)
postfix_base v i t.Arrow ts g e = member_offset (role_of i) ((when_is (is_member_base i) _ g e).0)
postfix_base v i t.DoubleColon ts g e = class_offset (role_of i) ((when_is (is_class_base i) _ g e).0)
postfix_base v i t.OpenParen ts g e = callee_offset (role_of i) ((when_is (is_callee i) _ g e).0)
postfix_base v i c ts g e = absurd (none_is g e)

-- a form of a base comes from a postfix
pub postfix_of : (v : Version) (m : ℕ) (x : Tree) (ts : List Token) (g : Form) (w : Bool) → is_misindented x ≡ w
    → cond w refused (or_else (operand_tail v m x ts) (refused_unless (not (is_list x.0)))) ≡ Some g
    → is_offset_base g.0 ≡ true → (postfix_tail v x.0 ts ≡ Some g) × (is_misindented x ≡ false)
postfix_of v m x ts g true mi e y = absurd (kind_no (k.Empty, Word t.Never ∷ []) g is_offset_base (some_form (k.Empty, Word t.Never ∷ []) g e) refl y)
postfix_of v m x ts g false mi e y =
    let o : operand_tail v m x ts ≡ Some g = else_first (operand_tail v m x ts) (refused_unless (not (is_list x.0))) g (λ z. refused_no (not (is_list x.0)) g z y) e in (
      else_first (postfix_tail v x.0 ts) (operator_tail v m (left_edge v x) x.0 ts) g
          (λ z. else_no (chosen_tail v m (left_edge v x) x.0 ts) (binary_tail v m (left_edge v x) (first_of ts)) g
          (λ q. chosen_no v m (left_edge v x) x.0 (first_of ts) ts g q y)
          (λ q. when_no _ (k.Binary, binary_items v (first_of ts)) g is_offset_base q refl y) z) o,
      mi,
    )

place_step : (v : Version) (x : Tree) (ts : List Token) (g : Form) → postfix_tail v x.0 ts ≡ Some g → is_misindented x ≡ false → place_tail v x ts ≡ Some g
place_step v x ts g e mi = rw (mi, e) refl

base_not_list : (i : NodeKind) → is_offset_base i ≡ true → is_list i ≡ false
base_not_list i h = not_list i (base_expression i h)

target_step : (v : Version) (x : Tree) (ts : List Token) (g : Form) → is_list x.0 ≡ false → place_tail v x ts ≡ Some g → target_tail v x ts ≡ Some g
target_step v x ts g n e = rw n e

-- ---- what `++` and `--` write

base_begins : (v : Version) (j : NodeKind) (c : Forest) (us : List Token) → is_offset_base j ≡ true → IsNode v j c → begins_place (first_of (leaves c ++ us)) ≡ true
base_begins v j c us h x = at_place v OffsetBase j c h (first_of (leaves c ++ us))
    (begins_there (begins j) (leaves c) us (subst (λ (b : Bool). Begins (begins j) b (leaves c)) (not_empty_base j h)
    (node_begins v x)))

place_form_is : (v : Version) (ts : List Token) → begins_place (first_of ts) ≡ true → place_form v ts ≡ operand_form v ts
place_form_is v ts e = rw e refl

as_place : (v : Version) (j : NodeKind) (c : Forest) (rest : List Token) → Grows (php v) (s.Operand 24) j c rest
    → is_offset_base j ≡ true → IsNode v j c → Grows (php v) s.Place j c rest
as_place v j c rest gr h x = grow_as v 24 s.Place is_offset_base (leaves c ++ rest) (place_form_is v (leaves c ++ rest) (base_begins v j c rest h x))
    (λ i b us j' is f rest' e a w. let q : (postfix_tail v i us ≡ Some (j', is))
    × (is_misindented (i, b) ≡ false) = postfix_of v 24 (i, b) us (j', is) (is_misindented (i, b)) refl e a
    in (place_step v (i, b) us (j', is) q.0 q.1, postfix_base v i (first_of us) us (j', is) q.0))
    gr h refl

place_none : (v : Version) (j : NodeKind) (c : Forest) (rest : List Token) → IsNode v j c → is_target j ≡ true → postfix_tail v j rest ≡ None → place_tail v (j, c) rest ≡ None
place_none v j c rest x h e = rw (straight v j c x, e, h) refl

behind_postfix : (v : Version) (x : Tree) (j : NodeKind) (rest : List Token) → Behind v x (first_of rest) → postfix_tail v j rest ≡ None
behind_postfix v x j rest e = elim e [
  | inl h ↦ closed_postfix v j (first_of rest) rest (or_left (closes_expression (first_of rest)) (is_to (first_of rest)) h)
  | inr h ↦ elim h [
    | inl q ↦ closed_postfix v j (first_of rest) rest (or_right (closes_expression (first_of rest)) (is_to (first_of rest)) q.0)
    | inr q ↦ loose_postfix v j (first_of rest) rest q.1
  ]
]

pub places_read : (v : Version) (j : NodeKind) (c : Forest) (rest : List Token)
    → Grows (php v) (s.Operand 24) j c rest → is_target j ≡ true → IsNode v j c → Behind v (j, c) (first_of rest)
    → Spells (php v) s.Place (j, c) rest
places_read v j c rest gr h x b = (as_place v j c rest gr (target_offset (role_of j) h) x, place_none v j c rest x h (behind_postfix v (j, c) j rest b))

-- ---- what a foreach or a list form writes

target_skip : (v : Version) (ts : List Token) → target_list_form ts ≡ None → target_form v ts ≡ place_form v ts
target_skip v ts e = rw e refl

target_at : (v : Version) (ts : List Token) (d : Terminal) → first_of ts ≡ d → begins_place d ≡ true
    → (d ≡ t.OpenBracket → goes_on (first_of (past_group 0 ts)) ≡ true) → target_form v ts ≡ operand_form v ts
target_at v ts t.OpenBracket e b g = bracket_target v ts e (g refl)
target_at v ts t.List e b g = absurd (false_true b)
target_at v ts d e b g = target_skip v ts (rw e refl) ∙ plain_target v ts d e b

target_none : (v : Version) (j : NodeKind) (c : Forest) (rest : List Token) → is_list j ≡ false → place_tail v (j, c) rest ≡ None → target_tail v (j, c) rest ≡ None
target_none v j c rest n e = rw n e

closes_target_all : (c : Terminal) → closes_target c ≡ true → ends_all c ≡ true
closes_target_all t.DoubleArrow h = refl
closes_target_all t.Comma h = refl
closes_target_all t.CloseParen h = refl
closes_target_all t.CloseBracket h = refl
closes_target_all c h = absurd (false_true h)

as_target : (v : Version) (j : NodeKind) (c : Forest) (rest : List Token) → Grows (php v) (s.Operand 24) j c rest
    → is_target j ≡ true → is_bracketed j ≡ false → IsNode v j c → Grows (php v) s.Target j c rest
as_target v j c rest gr h nb x =
    let base : is_offset_base j ≡ true = target_offset (role_of j) h in
    grow_as v 24 s.Target is_offset_base (leaves c ++ rest)
    (target_at v (leaves c ++ rest) (first_of (leaves c ++ rest)) refl (base_begins v j c rest base x)
    (λ e. inner_lead v is_offset_base goes_on (bases_lead v) j c rest base nb x e))
    (λ i b us j' is f rest' e a w. let q : (postfix_tail v i us ≡ Some (j', is))
    × (is_misindented (i, b) ≡ false) = postfix_of v 24 (i, b) us (j', is) (is_misindented (i, b)) refl e a
    in let bi : is_offset_base i ≡ true = postfix_base v i (first_of us) us (j', is) q.0
    in (target_step v (i, b) us (j', is) (base_not_list i bi) (place_step v (i, b) us (j', is) q.0 q.1), bi))
    gr base refl

pub targets_read : (v : Version) (j : NodeKind) (c : Forest) (rest : List Token)
    → Grows (php v) (s.Operand 24) j c rest → is_target j ≡ true → IsNode v j c → closes_target (first_of rest) ≡ true
    → Spells (php v) s.Target (j, c) rest
targets_read v j c rest gr h x cl = (
  as_target v j c rest gr h (target_plain j h) x,
  target_none v j c rest
      (base_not_list j (target_offset (role_of j) h))
      (place_none v j c rest x h (closed_postfix v j (first_of rest) rest (closes_target_all (first_of rest) cl))),
)

-- ---- the first expression of an item of a list form

never_walks : (v : Version) (f : Forest) (rest : List Token) → Walks (php v) (Word t.Never ∷ []) f rest → ⊥
never_walks v f rest (a_word {t = x} a w) = false_true (where_is (could v t.Never) (λ d. false) (terminal x) (never_word v) (accepted v t.Never x a))

entry_of : (v : Version) (x : Tree) (ts : List Token) (g : Form) (f : Forest) (rest : List Token) (w : Bool)
    → is_misindented x ≡ w → cond w refused (or_else (operand_tail v 24 x ts) (refused_unless (not (is_list x.0)))) ≡
    Some g → Walks (php v) (g.1) f rest → entry_tail v x ts ≡ Some g
entry_of v x ts g f rest true mi e wk = absurd (never_walks v f rest (subst (λ (z : Form). Walks (php v) (z.1) f rest) (sym (some_form (k.Empty, Word t.Never ∷ []) g e)) wk))
entry_of v x ts g f rest false mi e wk = entry_some v x ts g mi
    (else_first (operand_tail v 24 x ts) (refused_unless (not (is_list x.0))) g
    (λ z. refused_walk (not (is_list x.0)) z) e)
  where
    refused_walk : (b : Bool) → refused_unless b ≡ Some g → ⊥
    refused_walk true z = none_is g z
    refused_walk false z = never_walks v f rest (subst (λ (z : Form). Walks (php v) (z.1) f rest) (sym (some_form (k.Empty, Word t.Never ∷ []) g z)) wk)

-- an expression as such a first one, where what stands behind its leading bracket is told
pub as_entry : (v : Version) (j : NodeKind) (c : Forest) (rest : List Token) → Grows (php v) (s.Operand 24) j c rest
    → (first_of (leaves c ++ rest) ≡ t.OpenBracket → closes_item (first_of (past_group 0 (leaves c ++ rest))) ≡ false)
    → Grows (php v) s.Entry j c rest
as_entry v j c rest gr g = grow_as v 24 s.Entry (λ i. true) (leaves c ++ rest) (entry_at v (leaves c ++ rest) (first_of (leaves c ++ rest)) refl g)
    (λ i b us j' is f rest' e a w. (entry_of v (i, b) us (j', is) f rest' (is_misindented (i, b)) refl e w, refl)) gr refl refl

pub entry_closed : (v : Version) (j : NodeKind) (c : Forest) (rest : List Token) → IsNode v j c
    → ends_all (first_of rest) ≡ true → entry_end j (first_of rest) ≡ None → entry_tail v (j, c) rest ≡ None
entry_closed v j c rest x h e = rw (straight v j c x) (none_else (operand_tail v 24 (j, c) rest) (entry_end j (first_of rest)) (all_closed v 24 (j, c) rest h) e)

-- a key
pub keys_read : (v : Version) (j : NodeKind) (c : Forest) (rest : List Token) → Grows (php v) (s.Operand 24) j c rest
    → is_expression j ≡ true → IsNode v j c → first_of rest ≡ t.DoubleArrow → Spells (php v) s.Entry (j, c) rest
keys_read v j c rest gr h x e =
    (as_entry v j c rest gr (key_past v j c rest h x e (is_bracketed j) refl), entry_closed v j c rest x (ap ends_all e) (key_end j (first_of rest) e (not_list j h)))

-- a target
pub entry_targets_read : (v : Version) (j : NodeKind) (c : Forest) (rest : List Token)
    → Grows (php v) (s.Operand 24) j c rest → is_target j ≡ true → IsNode v j c → closes_item (first_of rest) ≡ true
    → Spells (php v) s.Entry (j, c) rest
entry_targets_read v j c rest gr h x cl = (
  as_entry v j c rest gr (λ e. not-true (closes_item (first_of (past_group 0 (leaves c ++ rest))))
      (inner_lead v is_any (λ d. not (closes_item d)) (expressions_lead v) j c rest
      (or_left (is_expression j) (is_list j) (base_expression j (target_offset (role_of j) h))) (target_plain j h) x
      e)),
  entry_closed v j c rest x (closes_item_all (first_of rest) cl) (target_end j (first_of rest) cl (or_left (is_target j) (is_list j) h)),
)
