-- Variable expressions in quoted texts are read as they were.
use Rattle.std.proofs.Common.{◌≡◌, ℕ, zero, suc, ◌<◌, Bool, true, false, ◌&&◌, ◌||◌, List, ◌++◌, Some, None, refl, ap, ◌∙◌, append_assoc, arith}
use Rattle.std.proofs.lemmas.Bool.{and_parts}
use Rattle.php_tree.specs.declared.kind.NodeKind.{NodeKind}
use Rattle.php_tree.specs.declared.kind.NodeKind.TheVariants as k
use Rattle.php_tree.specs.declared.token.Token.{Token}
use Rattle.php_tree.specs.declared.version.Version.{Version}
use Rattle.php_tree.specs.declared.version.Version.TheVariants.{V74, V83}
use Rattle.php_tree.specs.Tree.{Forest, none, leaf, node, leaves, count}
use Rattle.php_terminals.specs.declared.terminal.Terminal.{Terminal}
use Rattle.php_terminals.specs.declared.terminal.Terminal.TheVariants as t
use Rattle.php_terminals.specs.Ahead.{first_of}
use Rattle.php_terminals.specs.Indents.{is_misindented}
use Rattle.php_terminals.specs.Marks.{is_variable_start}
use Rattle.php_forms.specs.declared.item.Sort.TheVariants as s
use Rattle.php_forms.specs.Grammar.{Form, Grows, Spells}
use Rattle.php_grammar.specs.declared.bases.Role.{Role}
use Rattle.php_grammar.specs.declared.bases.Role.TheVariants as r
use Rattle.php_grammar.specs.Bases.{is_offset_base, is_offset_base_role, is_variable, is_variable_expression, is_variable_expression_role, role_of}
use Rattle.php_grammar.specs.Operands.{operand_form, simple_variable_form}
use Rattle.php_grammar.specs.Tables.{php}
use Rattle.php_grammar.specs.Tails.{embedded_tail, postfix_tail}
use Rattle.php_shapes.specs.Atoms.{variable}
use Rattle.php_shapes.specs.Forms.{form as shape_of}
use Rattle.php_shapes.specs.Places.{Embedded, begins_with_variable, is_postfixed, may_stand}
use Rattle.php_shapes.specs.Shapes.{Fits, IsNode, is_node}
use Rattle.php_shapes.proofs.ReadClasses.{for_all}
use Rattle.php_shapes.proofs.Leftmost.{front_node, postfixed_forms}
use Rattle.php_shapes.proofs.ReadFirst.{starts}
use Rattle.php_shapes.proofs.ReadEnds.{closes_embedded, closes_expression}
use Rattle.php_shapes.proofs.ReadMatch.{false_true, where_it}
use Rattle.php_shapes.proofs.ReadPlaces.{grow_as, postfix_base, postfix_of}
use Rattle.php_shapes.proofs.ReadStops.{closed_postfix, ends_all}
use Rattle.php_shapes.proofs.ReadVariables.{starts_with}

-- ---- how it begins

variable_starts : (v : Version) → for_all (λ c. where_it (starts v variable c) (is_variable_start c)) ≡ true
unfolding for_all
variable_starts V74 = refl
variable_starts V83 = refl

by_variable : (v : Version) (j : NodeKind) (c : Forest) (us : List Token) → is_variable j ≡ true → IsNode v j c → is_variable_start (first_of (leaves c ++ us)) ≡ true
by_variable v k.Variable c us e (is_node x near st) = starts_with v variable is_variable_start c us (variable_starts v) refl x
by_variable v other c us e x = absurd (false_true e)

the_shape : (v : Version) (j : NodeKind) (c : Forest) → IsNode v j c → Fits v (shape_of v j) c
the_shape v j c (is_node x near st) = x

abbrev Starting : Version → ℕ → Type 0
Starting v n = (j : NodeKind) (c : Forest) (us : List Token) → count c < n → begins_with_variable (node j c none) ≡ true
    → IsNode v j c → is_variable_start (first_of (leaves c ++ us)) ≡ true

none_fewer : (n : ℕ) → n < 0 → ⊥
none_fewer n lt = omega arith

fewer_one : (n : ℕ) → n < suc n
fewer_one n = omega arith

left_fewer : (n : ℕ) (i : NodeKind) (b f : Forest) → count (node i b f) < suc n → count b < n
left_fewer n i b f lt = omega arith

by_left : (v : Version) (n : ℕ) → Starting v n → (j : NodeKind) (c : Forest) (us : List Token) → count c < suc n
    → is_postfixed j ≡ true → begins_with_variable c ≡ true → IsNode v j c → is_variable_start (first_of (leaves c ++ us)) ≡ true
by_left v n ih j none us lt p w x = absurd (false_true w)
by_left v n ih j (leaf z f) us lt p w x = absurd (false_true w)
by_left v n ih j (node i b f) us lt p w x =
    ap (λ (ts : List Token). is_variable_start (first_of ts)) (append_assoc (leaves b) (leaves f) us)
    ∙ ih i b (leaves f ++ us) (left_fewer n i b f lt) w
    (front_node v (the_shape v j (node i b f) x) (postfixed_forms v j p) i b f refl)

starts_by : (v : Version) (n : ℕ) → Starting v n → (j : NodeKind) (c : Forest) (us : List Token) → count c < suc n
    → (a : Bool) → is_variable j ≡ a → (a || is_postfixed j && begins_with_variable c) ≡ true → IsNode v j c
    → is_variable_start (first_of (leaves c ++ us)) ≡ true
starts_by v n ih j c us lt true a w x = by_variable v j c us a x
starts_by v n ih j c us lt false a w x =
    let q : (is_postfixed j ≡ true) × (begins_with_variable c ≡ true) = and_parts (is_postfixed j) (begins_with_variable c) w in
    by_left v n ih j c us lt q.0 q.1 x

embedded_starts : (v : Version) (n : ℕ) → Starting v n
embedded_starts v zero j c us lt w x = absurd (none_fewer (count c) lt)
embedded_starts v (suc n) j c us lt w x = starts_by v n (embedded_starts v n) j c us lt (is_variable j) refl w x

-- ---- the same node as an operand

pub variable_offset : (a : Role) → is_variable_expression_role a ≡ true → is_offset_base_role a ≡ true
variable_offset r.Variable e = refl
variable_offset r.Element e = refl
variable_offset r.Property e = refl
variable_offset r.Call e = refl
variable_offset r.Literal e = absurd (false_true e)
variable_offset r.Constant e = absurd (false_true e)
variable_offset r.Paren e = absurd (false_true e)
variable_offset r.List e = absurd (false_true e)
variable_offset r.ShortTernary e = absurd (false_true e)
variable_offset r.Other e = absurd (false_true e)

simple_is : (v : Version) (ts : List Token) (d : Terminal) → first_of ts ≡ d → is_variable_start d ≡ true → simple_variable_form ts ≡ operand_form v ts
simple_is v ts t.Variable e h = rw e refl
simple_is v ts t.Dollar e h = rw e refl
simple_is v ts d e h = absurd (false_true h)

embedded_step : (v : Version) (i : NodeKind) (ts : List Token) (g : Form) → postfix_tail v i ts ≡ Some g → embedded_tail v i ts ≡ Some g
embedded_step v i ts g e = rw e refl

as_embedded : (v : Version) (j : NodeKind) (c : Forest) (rest : List Token) → Grows (php v) (s.Operand 24) j c rest
    → is_offset_base j ≡ true → begins_with_variable (node j c none) ≡ true → IsNode v j c → Grows (php v) s.Embedded j c rest
as_embedded v j c rest gr b w x = grow_as v 24 s.Embedded is_offset_base (leaves c ++ rest)
    (simple_is v (leaves c ++ rest) (first_of (leaves c ++ rest)) refl (embedded_starts v (suc (count c)) j c rest (fewer_one (count c)) w x))
    (λ i a us j' is f rest' e o m. let q : (postfix_tail v i us ≡ Some (j', is))
    × (is_misindented (i, a) ≡ false) = postfix_of v 24 (i, a) us (j', is) (is_misindented (i, a)) refl e o
    in (embedded_step v i us (j', is) q.0, postfix_base v i (first_of us) us (j', is) q.0))
    gr b refl

-- ---- where it ends

pub embedded_closes : (c : Terminal) → closes_embedded c ≡ true → closes_expression c ≡ true
embedded_closes t.CloseBrace h = refl
embedded_closes c h = absurd (false_true h)

closes_all : (c : Terminal) → closes_embedded c ≡ true → ends_all c ≡ true
closes_all t.CloseBrace h = refl
closes_all c h = absurd (false_true h)

embedded_none : (v : Version) (j : NodeKind) (ts : List Token) → postfix_tail v j ts ≡ None → is_variable_expression j ≡ true → embedded_tail v j ts ≡ None
embedded_none v j ts e h = rw (e, h) refl

pub embedded_read : (v : Version) (j : NodeKind) (c : Forest) (rest : List Token) → Grows (php v) (s.Operand 24) j c rest
    → may_stand v Embedded (j, c) ≡ true → IsNode v j c → closes_embedded (first_of rest) ≡ true
    → Spells (php v) s.Embedded (j, c) rest
embedded_read v j c rest gr st x h =
    let q : (is_variable_expression j ≡ true) × (begins_with_variable (node j c none) ≡ true) =
    and_parts (is_variable_expression j) (begins_with_variable (node j c none)) st in (
      as_embedded v j c rest gr (variable_offset (role_of j) q.0) q.1 x,
      embedded_none v j rest (closed_postfix v j (first_of rest) rest (closes_all (first_of rest) h)) q.0,
    )
