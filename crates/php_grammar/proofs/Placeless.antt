-- The tables don't look at where tokens stand.
use Rattle.std.proofs.Common.{
  ◌≡◌,
  ℕ,
  zero,
  suc,
  ◌+◌,
  ◌-◌,
  max,
  Bool,
  true,
  false,
  not,
  cond,
  ◌&&◌,
  ◌||◌,
  List,
  [],
  ◌∷◌,
  length,
  take,
  drop,
  map,
  Option,
  Some,
  None,
  nat_le,
  nat_eq,
  nat_lt,
  refl,
  sym,
  ap,
  ◌∙◌,
  arith,
}
use Rattle.std.specs.List.{prefix_len, drop-map}
use Rattle.std.proofs.lemmas.List.{take-map, length-map}
use Rattle.php_tree.specs.declared.kind.NodeKind.{NodeKind}
use Rattle.php_tree.specs.declared.kind.NodeKind.TheVariants as k
use Rattle.php_tree.specs.declared.token.Token.{Token}
use Rattle.php_tree.specs.declared.version.Version.{Version}
use Rattle.php_tree.specs.declared.version.Version.TheVariants.{V74, V83}
use Rattle.php_tree.specs.Tree.{Forest, Tree, none, leaf, node}
use Rattle.php_terminals.specs.declared.terminal.Terminal.{Terminal}
use Rattle.php_terminals.specs.declared.terminal.Terminal.TheVariants as t
use Rattle.php_forms.specs.declared.item.Sort.{Sort}
use Rattle.php_forms.specs.declared.item.Sort.TheVariants as s
use Rattle.php_forms.specs.declared.item.Group.{Group}
use Rattle.php_forms.specs.declared.item.Group.TheVariants as g
use Rattle.php_forms.specs.declared.item.Item.{Item}
use Rattle.php_terminals.specs.Ahead.{
  behind_member,
  behind_name,
  behind_rest,
  behind_variable,
  dollars,
  first_of,
  is_called,
  is_in_name,
  is_some_dollar,
  name_len,
  past_group,
  second_of,
  spanned,
  third_of,
}
use Rattle.php_terminals.specs.Classify.{terminal}
use Rattle.php_terminals.specs.Indents.{
  fresh_behind,
  heredoc_fits,
  is_heredoc,
  is_misindented,
  last_text,
  leaf_fits,
  literal_fits,
  misindented_by,
  node_fits,
  parts_fit,
  quoted_fits,
}
use Rattle.php_terminals.specs.Indents as indents
use Rattle.php_terminals.specs.Marked.{placeless, all_placeless}
use Rattle.php_forms.specs.Atoms.{atom_form}
use Rattle.php_terminals.specs.Marks.{begins_place, closes, is_double_arrow, is_double_colon, is_dollar, is_name_part, is_open_brace, is_open_paren, is_variable_start, opens}
use Rattle.php_forms.specs.Forms.{or_else}
use Rattle.php_forms.specs.Grammar.{Form}
use Rattle.php_forms.specs.Heads.{behind_modifiers, chosen_by, chosen_form, is_some_modifier, member_form, modifiers_len, statement_form}
use Rattle.php_forms.specs.Heads as heads
use Rattle.php_forms.specs.Statements.{simple_form}
use Rattle.php_terminals.specs.Classify.{is_modifier}
use Rattle.php_grammar.specs.Accepts.{accepts, in_set, same_class}
use Rattle.php_grammar.specs.Edges.{edge, edge_from}
use Rattle.php_grammar.specs.Levels.{first_leaf, is_alone, level, level_by, middle_leaf}
use Rattle.php_grammar.specs.Operands.{
  chosen_operand,
  class_ref_form,
  created,
  created_by,
  entry_by,
  entry_form,
  entry_list_form,
  instance_by,
  instance_ref,
  name_form,
  named_form,
  operand_by,
  operand_form,
  place_form,
  simple_variable_by,
  simple_variable_form,
  static_member_form,
  static_name_form,
  static_operand,
  target_by,
  target_form,
  target_list_form,
  yield_by,
  yield_value,
}
use Rattle.php_grammar.specs.Operands as operands
use Rattle.php_grammar.specs.Tables.{form, parts, php, span, tail, tail_by}
use Rattle.php_grammar.specs.Tails.{
  class_ref_by,
  class_ref_tail,
  interpolated_by,
  interpolated_tail,
  member_tail,
  operand_by as operand_tail_by,
  operator_by,
  operator_tail,
  postfix_by,
  postfix_tail,
  read_by,
  static_tail,
}
use Rattle.php_grammar.specs.Tails as tails

abbrev pub forest_placeless : Forest → Forest
forest_placeless none = none
forest_placeless (leaf x f) = leaf (placeless x) (forest_placeless f)
forest_placeless (node k c f) = node k (forest_placeless c) (forest_placeless f)

-- ---- what stands ahead

first_p : (ts : List Token) → first_of (all_placeless ts) ≡ first_of ts
first_p [] = refl
first_p (x ∷ xs) = refl

second_p : (ts : List Token) → second_of (all_placeless ts) ≡ second_of ts
second_p ts = ap first_of (drop-map placeless 1 ts) ∙ first_p (drop 1 ts)

third_p : (ts : List Token) → third_of (all_placeless ts) ≡ third_of ts
third_p ts = ap first_of (drop-map placeless 2 ts) ∙ first_p (drop 2 ts)

choose : (a b c : Bool) (u v w z : List Token) → cond a (all_placeless u)
    (cond b (cond c (all_placeless v) (all_placeless w)) (all_placeless z)) ≡ all_placeless
    (cond a u (cond b (cond c v w) z))
choose true b c u v w z = refl
choose false true true u v w z = refl
choose false true false u v w z = refl
choose false false c u v w z = refl

past_p : (n : ℕ) (ts : List Token) → past_group n (all_placeless ts) ≡ all_placeless (past_group n ts)
past_p n [] = refl
past_p n (x ∷ xs) =
    rw (past_p (n + 1) xs, past_p (n - 1) xs, past_p n xs)
    (choose (opens (terminal x)) (closes (terminal x)) (nat_le n 1) (past_group (n + 1) xs) xs
    (past_group (n - 1) xs) (past_group n xs))

past_first : (n : ℕ) (ts : List Token) → first_of (past_group n (all_placeless ts)) ≡ first_of (past_group n ts)
past_first n ts = ap first_of (past_p n ts) ∙ first_p (past_group n ts)

pub spanned_p : (n : ℕ) (ts : List Token) → spanned n (all_placeless ts) ≡ spanned n ts
spanned_p n [] = refl
spanned_p n (x ∷ xs) = rw (spanned_p (n + 1) xs, spanned_p (n - 1) xs, spanned_p n xs) refl

-- how many tokens of some classes there are
prefix_p : (q : Terminal → Bool) (ts : List Token) → prefix_len (λ (x : Token). q (terminal x)) (all_placeless ts) ≡ prefix_len (λ (x : Token). q (terminal x)) ts
prefix_p q [] = refl
prefix_p q (x ∷ xs) = ap (λ (n : ℕ). cond (q (terminal x)) (1 + n) 0) (prefix_p q xs)

run_p : (q : Terminal → Bool) (ts : List Token)
    → length (take (prefix_len (λ (x : Token). q (terminal x)) (all_placeless ts)) (all_placeless ts)) ≡ length
    (take (prefix_len (λ (x : Token). q (terminal x)) ts) ts)
run_p q ts =
    let n = prefix_len (λ (x : Token). q (terminal x)) ts in
    ap (λ (m : ℕ). length (take m (all_placeless ts))) (prefix_p q ts) ∙ ap length (take-map placeless n ts) ∙ length-map (take n ts) placeless

name_p : (ts : List Token) → name_len (all_placeless ts) ≡ name_len ts
name_p ts = run_p is_name_part ts

behind_name_p : (ts : List Token) → behind_name (all_placeless ts) ≡ all_placeless (behind_name ts)
behind_name_p ts = ap (λ (n : ℕ). drop n (all_placeless ts)) (name_p ts) ∙ drop-map placeless (name_len ts) ts

dollars_p : (ts : List Token) → dollars (all_placeless ts) ≡ dollars ts
dollars_p ts = run_p is_dollar ts

modifiers_p : (ts : List Token) → modifiers_len (all_placeless ts) ≡ modifiers_len ts
modifiers_p ts = run_p is_modifier ts

behind_modifiers_p : (ts : List Token) → behind_modifiers (all_placeless ts) ≡ behind_modifiers ts
behind_modifiers_p ts = ap (λ (n : ℕ). first_of (drop n (all_placeless ts))) (modifiers_p ts)
    ∙ ap first_of (drop-map placeless (modifiers_len ts) ts) ∙ first_p (drop (modifiers_len ts) ts)

rest_p : (ts : List Token) → behind_rest (all_placeless ts) ≡ behind_rest ts
rest_p ts = rw (first_p ts, past_first 0 ts, second_p ts) refl

variable_p : (ts : List Token) → behind_variable (all_placeless ts) ≡ behind_variable ts
variable_p ts = ap (λ (n : ℕ). behind_rest (drop n (all_placeless ts))) (dollars_p ts) ∙ ap behind_rest (drop-map placeless (dollars ts) ts) ∙ rest_p (drop (dollars ts) ts)

member_p : (ts : List Token) → behind_member (all_placeless ts) ≡ behind_member ts
member_p ts =
    ap (λ (x : Terminal). cond (is_dollar x) (behind_variable (all_placeless ts)) (behind_rest (all_placeless ts))) (first_p ts)
    ∙ ap (λ (x : Terminal). cond (is_dollar (first_of ts)) x (behind_rest (all_placeless ts))) (variable_p ts)
    ∙ ap (λ (x : Terminal). cond (is_dollar (first_of ts)) (behind_variable ts) x) (rest_p ts)

called_p : (ts : List Token) → is_called (all_placeless ts) ≡ is_called ts
called_p ts = ap is_open_paren (member_p ts)

-- ---- how nodes begin

chosen_p : (x : Terminal) (ts : List Token) → chosen_by x (all_placeless ts) ≡ chosen_by x ts
chosen_p t.If ts = ap (λ (y : Terminal). chosen_if y) (ap (λ (us : List Token). first_of (past_group 0 us)) (drop-map placeless 1 ts) ∙ past_first 0 (drop 1 ts))
  where
    chosen_if : Terminal → Option Form
    chosen_if y = Some (heads.if_form y)
chosen_p t.Static ts = rw (second_p ts) refl
chosen_p t.Function ts = rw (second_p ts, third_p ts) refl
chosen_p t.Namespace ts = rw (second_p ts) refl
chosen_p t.Label ts = rw (second_p ts) refl
chosen_p t.Match ts = rw (second_p ts) refl
chosen_p t.Readonly ts = rw (second_p ts) refl
chosen_p t.MixedOrNever ts = rw (second_p ts) refl
chosen_p _ ts = refl

statement_p : (ts : List Token) → statement_form (all_placeless ts) ≡ statement_form ts
statement_p ts = ap (λ (x : Terminal). or_else (chosen_by x (all_placeless ts)) (simple x)) (first_p ts)
    ∙ ap (λ (o : Option Form). or_else o (simple (first_of ts))) (chosen_p (first_of ts) ts)
  where
    simple : Terminal → Option Form
    simple x = Some (simple_form x)

members_p : (ts : List Token) → member_form (all_placeless ts) ≡ member_form ts
members_p ts = rw (first_p ts, behind_modifiers_p ts) refl

static_name_p : (ts : List Token) → static_name_form (all_placeless ts) ≡ static_name_form ts
static_name_p ts = rw (called_p ts, first_p ts) refl

static_member_p : (ts : List Token) → static_member_form (all_placeless ts) ≡ static_member_form ts
static_member_p ts = rw (called_p ts, first_p ts) refl

name_by_p : (x : Terminal) (ts : List Token) → operands.name_by x (all_placeless ts) ≡ operands.name_by x ts
name_by_p t.OpenParen ts = refl
name_by_p t.DoubleColon ts = ap static_name_form (drop-map placeless 1 ts) ∙ static_name_p (drop 1 ts)
name_by_p _ ts = refl

name_form_p : (ts : List Token) → name_form (all_placeless ts) ≡ name_form ts
name_form_p ts = ap (λ (x : Terminal). operands.name_by x (all_placeless ts)) (first_p ts) ∙ name_by_p (first_of ts) ts

named_p : (ts : List Token) → named_form (all_placeless ts) ≡ named_form ts
named_p ts = rw (first_p ts, behind_name_p ts, name_form_p (behind_name ts)) refl

static_by_p : (x : Terminal) (ts : List Token) → operands.static_by x (all_placeless ts) ≡ operands.static_by x ts
static_by_p t.Function ts = refl
static_by_p t.Fn ts = refl
static_by_p t.DoubleColon ts = ap (λ (us : List Token). member us) (drop-map placeless 2 ts) ∙ ap (λ (f : Form). some f) (static_member_p (drop 2 ts))
  where
    some : Form → Option Form
    some f = Some f

    member : List Token → Option Form
    member us = Some (static_member_form us)
static_by_p _ ts = refl

static_p : (ts : List Token) → static_operand (all_placeless ts) ≡ static_operand ts
static_p ts = ap (λ (x : Terminal). operands.static_by x (all_placeless ts)) (second_p ts) ∙ static_by_p (second_of ts) ts

operand_by_p : (v : Version) (x : Terminal) (ts : List Token) → operand_by v x (all_placeless ts) ≡ operand_by v x ts
operand_by_p v t.Dollar ts = rw (second_p ts) refl
operand_by_p v t.Static ts = static_p ts
operand_by_p v t.OpenBracket ts = rw (past_first 0 ts) refl
operand_by_p v t.Array ts = rw (second_p ts) refl
operand_by_p v t.List ts = refl
operand_by_p v t.OldCast ts = refl
operand_by_p v _ ts = refl

chosen_operand_p : (v : Version) (ts : List Token) → chosen_operand v (all_placeless ts) ≡ chosen_operand v ts
chosen_operand_p v ts = ap (λ (x : Terminal). operand_by v x (all_placeless ts)) (first_p ts) ∙ operand_by_p v (first_of ts) ts

operand_p : (v : Version) (ts : List Token) → operand_form v (all_placeless ts) ≡ operand_form v ts
operand_p v ts =
    ap (λ (o : Option Form). or_else (or_else o (atom_form (first_of (all_placeless ts)))) (chosen_operand v (all_placeless ts))) (named_p ts)
    ∙ ap (λ (x : Terminal). or_else (or_else (named_form ts) (atom_form x)) (chosen_operand v (all_placeless ts))) (first_p ts)
    ∙ ap (λ (o : Option Form). or_else (or_else (named_form ts) (atom_form (first_of ts))) o) (chosen_operand_p v ts)

place_p : (v : Version) (ts : List Token) → place_form v (all_placeless ts) ≡ place_form v ts
place_p v ts =
    ap (λ (x : Terminal). cond (begins_place x) (operand_form v (all_placeless ts)) None) (first_p ts)
    ∙ ap (λ (o : Option Form). cond (begins_place (first_of ts)) o None) (operand_p v ts)

target_by_p : (x : Terminal) (ts : List Token) → target_by x (all_placeless ts) ≡ target_by x ts
target_by_p t.OpenBracket ts = rw (past_first 0 ts) refl
target_by_p t.List ts = refl
target_by_p _ ts = refl

target_p : (v : Version) (ts : List Token) → target_form v (all_placeless ts) ≡ target_form v ts
target_p v ts = ap (λ (x : Terminal). or_else (target_by x (all_placeless ts)) (place_form v (all_placeless ts)))
    (first_p ts) ∙ rw (target_by_p (first_of ts) ts, place_p v ts) refl

entry_by_p : (x : Terminal) (ts : List Token) → entry_by x (all_placeless ts) ≡ entry_by x ts
entry_by_p t.OpenBracket ts = rw (past_first 0 ts) refl
entry_by_p _ ts = refl

entry_p : (v : Version) (ts : List Token) → entry_form v (all_placeless ts) ≡ entry_form v ts
entry_p v ts = ap (λ (x : Terminal). or_else (entry_by x (all_placeless ts)) (operand_form v (all_placeless ts)))
    (first_p ts) ∙ rw (entry_by_p (first_of ts) ts, operand_p v ts) refl

simple_by_p : (x : Terminal) (ts : List Token) → simple_variable_by x (all_placeless ts) ≡ simple_variable_by x ts
simple_by_p t.Variable ts = refl
simple_by_p t.Dollar ts = rw (second_p ts) refl
simple_by_p _ ts = refl

simple_p : (ts : List Token) → simple_variable_form (all_placeless ts) ≡ simple_variable_form ts
simple_p ts = ap (λ (x : Terminal). simple_variable_by x (all_placeless ts)) (first_p ts) ∙ simple_by_p (first_of ts) ts

class_ref_p : (ts : List Token) → class_ref_form (all_placeless ts) ≡ class_ref_form ts
class_ref_p ts =
    ap (λ (x : Terminal). or_else (or_else (operands.named_prop_form x) (operands.static_prop_form x)) (simple_variable_form (all_placeless ts))) (first_p ts)
    ∙ ap (λ (o : Option Form). or_else (or_else (operands.named_prop_form (first_of ts)) (operands.static_prop_form (first_of ts))) o) (simple_p ts)

created_by_p : (x : Terminal) (ts : List Token) → created_by x (all_placeless ts) ≡ created_by x ts
created_by_p t.Class ts = refl
created_by_p t.Static ts = rw (second_p ts) refl
created_by_p _ ts = refl

created_p : (ts : List Token) → created (all_placeless ts) ≡ created ts
created_p ts = rw (first_p ts, behind_name_p ts, first_p (behind_name ts), created_by_p (first_of ts) ts) refl

instance_by_p : (x : Terminal) (ts : List Token) → instance_by x (all_placeless ts) ≡ instance_by x ts
instance_by_p t.Static ts = rw (second_p ts) refl
instance_by_p _ ts = refl

instance_p : (ts : List Token) → instance_ref (all_placeless ts) ≡ instance_ref ts
instance_p ts = rw (first_p ts, behind_name_p ts, first_p (behind_name ts), instance_by_p (first_of ts) ts) refl

yield_p : (v : Version) (ts : List Token) → yield_value v (all_placeless ts) ≡ yield_value v ts
yield_p v ts = ap yield_by (operand_p v ts)

pub form_p : (v : Version) (o : Sort) (ts : List Token) → form v o (all_placeless ts) ≡ form v o ts
form_p v s.Statement ts = statement_p ts
form_p v s.Block ts = refl
form_p v s.Case ts = rw (first_p ts) refl
form_p v s.Member ts = members_p ts
form_p v s.Param ts = refl
form_p v s.TypeName ts = refl
form_p v s.Args ts = refl
form_p v s.Item ts = rw (first_p ts) refl
form_p v s.ListItem ts = rw (first_p ts) refl
form_p v (s.Operand limit) ts = operand_p v ts
form_p v s.Entry ts = entry_p v ts
form_p v s.Target ts = target_p v ts
form_p v s.Place ts = place_p v ts
form_p v s.SimpleVariable ts = simple_p ts
form_p v s.PlainVariable ts = rw (first_p ts) refl
form_p v s.ClassRef ts = class_ref_p ts
form_p v s.Interpolated ts = rw (first_p ts) refl
form_p v s.Embedded ts = simple_p ts

-- ---- groups

pub parts_p : (v : Version) (group : Group) (ts : List Token) → parts v group (all_placeless ts) ≡ parts v group ts
parts_p v g.Name ts = refl
parts_p v g.CalledName ts = refl
parts_p v g.NamespaceName ts = refl
parts_p v g.NameLead ts = rw (first_p ts) refl
parts_p v g.NameMore ts = rw (first_p ts, second_p ts) refl
parts_p v g.MoreNames ts = rw (first_p ts) refl
parts_p v g.ImportedName ts = refl
parts_p v g.ImportedClass ts = refl
parts_p v g.GroupedName ts = refl
parts_p v g.GroupedClass ts = refl
parts_p v g.RootLead ts = rw (first_p ts) refl
parts_p v g.Statements ts = rw (first_p ts) refl
parts_p v g.ElseIfs ts = rw (first_p ts) refl
parts_p v g.ElsePart ts = rw (first_p ts) refl
parts_p v g.AltElseIfs ts = rw (first_p ts) refl
parts_p v g.AltElse ts = rw (first_p ts) refl
parts_p v g.WhileBody ts = rw (first_p ts) refl
parts_p v g.ForBody ts = rw (first_p ts) refl
parts_p v g.ForeachBody ts = rw (first_p ts) refl
parts_p v g.DeclareBody ts = rw (first_p ts) refl
parts_p v g.SwitchBody ts = rw (first_p ts) refl
parts_p v g.FirstSemi ts = rw (first_p ts) refl
parts_p v g.Cases ts = rw (first_p ts) refl
parts_p v g.CaseMark ts = rw (first_p ts) refl
parts_p v g.MoreExprs ts = rw (first_p ts) refl
parts_p v g.ReturnValue ts = rw (first_p ts) refl
parts_p v g.Exprs ts = rw (first_p ts) refl
parts_p v g.ForeachTarget ts = rw (first_p ts) refl
parts_p v g.ForeachValue ts = rw (first_p ts) refl
parts_p v g.LoopCount ts = rw (first_p ts) refl
parts_p v g.MoreGlobals ts = rw (first_p ts) refl
parts_p v g.Handlers ts = rw (first_p ts) refl
parts_p v g.Catches ts = rw (first_p ts) refl
parts_p v g.CaughtNames ts = rw (first_p ts) refl
parts_p v g.FinallyPart ts = rw (first_p ts) refl
parts_p v g.MoreDirectives ts = rw (first_p ts) refl
parts_p v g.MoreUnset ts = rw (first_p ts, second_p ts) refl
parts_p v g.ByRef ts = rw (first_p ts) refl
parts_p v g.FirstValue ts = rw (first_p ts) refl
parts_p v g.MoreVariables ts = rw (first_p ts) refl
parts_p v g.Params ts = rw (first_p ts) refl
parts_p v g.MoreParams ts = rw (first_p ts) refl
parts_p v g.ParamType ts = rw (first_p ts) refl
parts_p v g.Variadic ts = rw (first_p ts) refl
parts_p v g.ReturnType ts = rw (first_p ts) refl
parts_p v g.Nullable ts = rw (first_p ts) refl
parts_p v g.TypeWord ts = rw (first_p ts) refl
parts_p v g.ClassModifiers ts = rw (first_p ts) refl
parts_p v g.Extends ts = rw (first_p ts) refl
parts_p v g.Parents ts = rw (first_p ts) refl
parts_p v g.Implements ts = rw (first_p ts) refl
parts_p v g.Members ts = rw (first_p ts) refl
parts_p v g.Modifiers ts = rw (first_p ts) refl
parts_p v g.PropertyType ts = rw (first_p ts) refl
parts_p v g.MethodBody ts = rw (first_p ts) refl
parts_p v g.MoreClassConsts ts = rw (first_p ts) refl
parts_p v g.TraitRules ts = rw (first_p ts) refl
parts_p v g.MoreConsts ts = rw (first_p ts) refl
parts_p v g.NamespaceBody ts = rw (first_p ts) refl
parts_p v g.NamespaceRest ts = rw (first_p ts) refl
parts_p v g.UseBody ts = rw (first_p ts) refl
parts_p v g.UseRest ts = rw (first_p ts) refl
parts_p v g.MoreUses ts = rw (first_p ts) refl
parts_p v g.Alias ts = rw (first_p ts) refl
parts_p v g.Grouped ts = rw (first_p ts) refl
parts_p v g.MoreGrouped ts = rw (first_p ts, second_p ts) refl
parts_p v g.ClassUseRest ts = rw (first_p ts) refl
parts_p v g.MoreClassUses ts = rw (first_p ts) refl
parts_p v g.ClassAlias ts = rw (first_p ts) refl
parts_p v g.ClassGrouped ts = rw (first_p ts) refl
parts_p v g.MoreClassGrouped ts = rw (first_p ts, second_p ts) refl
parts_p v g.UsedClass ts = rw (second_p ts) refl
parts_p v g.UsedGrouped ts = rw (second_p ts) refl
parts_p v g.ArgList ts = rw (first_p ts) refl
parts_p v g.MoreArgs ts = rw (first_p ts, second_p ts) refl
parts_p v g.ArrayItems ts = rw (first_p ts) refl
parts_p v g.MoreItems ts = rw (first_p ts, second_p ts) refl
parts_p v g.ItemValue ts = rw (first_p ts) refl
parts_p v g.ListHead ts = rw (first_p ts) refl
parts_p v g.ListMore ts = rw (first_p ts) refl
parts_p v g.EntryValue ts = rw (first_p ts) refl
parts_p v g.QuotedParts ts = rw (first_p ts, second_p ts) refl
parts_p v g.NamedKey ts = rw (first_p ts) refl
parts_p v g.SimpleKey ts = rw (first_p ts) refl
parts_p v g.ExitValue ts = rw (first_p ts) refl
parts_p v g.ExitCode ts = rw (first_p ts) refl
parts_p v g.YieldTo ts = rw (first_p ts) refl
parts_p v g.ClosureUse ts = rw (first_p ts) refl
parts_p v g.MoreUsed ts = rw (first_p ts) refl
parts_p v g.CtorArgs ts = rw (first_p ts) refl
parts_p v g.OffsetKey ts = rw (first_p ts) refl
parts_p v g.Member ts = rw (first_p ts) refl
parts_p v g.StaticMember ts = rw (first_p ts) refl
parts_p v g.YieldValue ts = yield_p v ts
parts_p v g.Created ts = created_p ts
parts_p v g.InstanceRef ts = instance_p ts
parts_p v g.Attribute ts = rw (first_p ts) refl

-- ---- tokens that are asked for

in_set_p : (v : Version) (asked own : Terminal) (x : Token) → in_set v asked own (placeless x) ≡ in_set v asked own x
in_set_p v t.ImportedClass own x = refl
in_set_p v t.GroupedClass own x = refl
in_set_p v t.AttributeName own x = refl
in_set_p v t.AnyWord own x = refl
in_set_p v t.ConstantWord own x = refl
in_set_p v t.AnyLabel own x = refl
in_set_p v t.FreeLabel own x = refl
in_set_p v t.FunctionLabel own x = refl
in_set_p v t.ClassLabel own x = refl
in_set_p v t.NameToken own x = refl
in_set_p v t.CalledName own x = refl
in_set_p v t.NamespaceToken own x = refl
in_set_p v t.ImportedName own x = refl
in_set_p v t.GroupedName own x = refl
in_set_p v t.Modifier own x = refl
in_set_p v t.BinaryOperator own x = refl
in_set_p v t.SignOrTight own x = refl
in_set_p v _ own x = refl

pub accepts_p : (v : Version) (asked : Terminal) (x : Token) → accepts v asked (placeless x) ≡ accepts v asked x
accepts_p v asked x = ap (λ (b : Bool). b || same_class asked (terminal x)) (in_set_p v asked (terminal x) x)

-- ---- how nodes go on

first_leaf_p : (kind : NodeKind) (f : Forest) → first_leaf (kind, forest_placeless f) ≡ first_leaf (kind, f)
first_leaf_p kind none = refl
first_leaf_p kind (leaf x f) = refl
first_leaf_p kind (node j c f) = refl

middle_leaf_p : (kind : NodeKind) (f : Forest) → middle_leaf (kind, forest_placeless f) ≡ middle_leaf (kind, f)
middle_leaf_p kind none = refl
middle_leaf_p kind (leaf x f) = refl
middle_leaf_p kind (node j c none) = refl
middle_leaf_p kind (node j c (leaf x f)) = refl
middle_leaf_p kind (node j c (node i b f)) = refl

alone_p : (kind : NodeKind) (f : Forest) → is_alone (kind, forest_placeless f) ≡ is_alone (kind, f)
alone_p kind none = refl
alone_p kind (leaf x none) = refl
alone_p kind (leaf x (leaf y f)) = refl
alone_p kind (leaf x (node j c f)) = refl
alone_p kind (node j c f) = refl

level_p : (v : Version) (kind : NodeKind) (f : Forest) → level v (kind, forest_placeless f) ≡ level v (kind, f)
level_p v k.Binary f = rw (middle_leaf_p k.Binary f) refl
level_p v k.Prefix f = rw (first_leaf_p k.Prefix f) refl
level_p v k.Yield f = rw (alone_p k.Yield f) refl
level_p v k.Cast f = refl
level_p v k.InstanceOf f = refl
level_p v k.Ternary f = refl
level_p v k.ShortTernary f = refl
level_p v k.Assign f = refl
level_p v k.AssignRef f = refl
level_p v k.CompoundAssign f = refl
level_p v k.Print f = refl
level_p v k.Include f = refl
level_p v k.Arrow f = refl
level_p v _ f = refl

edge_from_p : (v : Version) (e : ℕ) (f : Forest) → edge_from v e (forest_placeless f) ≡ edge_from v e f
edge_from_p v e none = refl
edge_from_p v e (leaf x f) = edge_from_p v 0 f
edge_from_p v e (node j c f) =
    ap (λ (n : ℕ). edge_from v (max n (edge_from v 0 (forest_placeless c))) (forest_placeless f)) (level_p v j c)
    ∙ ap (λ (n : ℕ). edge_from v (max (level v (j, c)) n) (forest_placeless f)) (edge_from_p v 0 c)
    ∙ edge_from_p v (max (level v (j, c)) (edge_from v 0 c)) f

edge_p : (v : Version) (kind : NodeKind) (f : Forest) → edge v (kind, forest_placeless f) ≡ edge v (kind, f)
unfolding edge
edge_p v kind f = rw (level_p v kind f, edge_from_p v 0 f) refl

last_text_p : (text : List ℕ) (f : Forest) → last_text text (forest_placeless f) ≡ last_text text f
last_text_p text none = refl
last_text_p text (leaf x f) = last_text_p x.text f
last_text_p text (node j c f) = last_text_p text f

leaf_fits_p : (indent : List ℕ) (fresh : Bool) (x : Token) → leaf_fits indent fresh (placeless x) ≡ leaf_fits indent fresh x
unfolding leaf_fits
leaf_fits_p indent fresh x = refl

fresh_p : (fresh : Bool) (x : Token) → fresh_behind fresh (placeless x) ≡ fresh_behind fresh x
unfolding fresh_behind
fresh_p fresh x = refl

fit_p : (indent : List ℕ) (fresh : Bool) (f : Forest) → parts_fit indent fresh (forest_placeless f) ≡ parts_fit indent fresh f
fit_p indent fresh none = refl
fit_p indent fresh (leaf x f) = rw (leaf_fits_p indent fresh x, fresh_p fresh x, fit_p indent (fresh_behind fresh x) f) refl
fit_p indent fresh (node j c f) = rw (fit_p indent false f) refl

heredoc_p : (f : Forest) → heredoc_fits (forest_placeless f) ≡ heredoc_fits f
heredoc_p f = ap (λ (text : List ℕ). fits text (forest_placeless f)) (last_text_p [] f) ∙ rw (fit_p (indents.margin (last_text [] f)) true f) refl
  where
    fits : List ℕ → Forest → Bool
    fits text h = indents.is_uniform (indents.margin text) && parts_fit (indents.margin text) true h

quoted_p : (f : Forest) → quoted_fits (forest_placeless f) ≡ quoted_fits f
quoted_p none = refl
quoted_p (leaf x f) = rw (heredoc_p f) refl
quoted_p (node j c f) = refl

literal_p : (f : Forest) → literal_fits (forest_placeless f) ≡ literal_fits f
literal_p none = refl
literal_p (leaf x f) = refl
literal_p (node j c f) = refl

misindented_p : (kind : NodeKind) (f : Forest) → is_misindented (kind, forest_placeless f) ≡ is_misindented (kind, f)
unfolding is_misindented
misindented_p k.Quoted f = ap not (quoted_p f)
misindented_p k.Text f = ap not (literal_p f)
misindented_p _ f = refl

member_tail_p : (ts : List Token) → member_tail (all_placeless ts) ≡ member_tail ts
member_tail_p ts = rw (called_p ts) refl

static_tail_p : (ts : List Token) → static_tail (all_placeless ts) ≡ static_tail ts
static_tail_p ts = rw (called_p ts, first_p ts) refl

postfix_by_p : (v : Version) (kind : NodeKind) (x : Terminal) (ts : List Token) → postfix_by v kind x (all_placeless ts) ≡ postfix_by v kind x ts
postfix_by_p v kind t.OpenBracket ts = refl
postfix_by_p v kind t.OpenBrace ts = refl
postfix_by_p v kind t.Arrow ts = rw (drop-map placeless 1 ts, member_tail_p (drop 1 ts)) refl
postfix_by_p v kind t.DoubleColon ts = rw (drop-map placeless 1 ts, static_tail_p (drop 1 ts)) refl
postfix_by_p v kind t.OpenParen ts = refl
postfix_by_p v kind _ ts = refl

postfix_p : (v : Version) (kind : NodeKind) (ts : List Token) → postfix_tail v kind (all_placeless ts) ≡ postfix_tail v kind ts
postfix_p v kind ts = ap (λ (x : Terminal). postfix_by v kind x (all_placeless ts)) (first_p ts) ∙ postfix_by_p v kind (first_of ts) ts

operator_by_p : (v : Version) (limit left : ℕ) (kind : NodeKind) (x : Terminal) (ts : List Token)
    → operator_by v limit left kind x (all_placeless ts) ≡ operator_by v limit left kind x ts
operator_by_p v limit left kind t.Assign ts = rw (second_p ts) refl
operator_by_p v limit left kind t.CompoundAssign ts = refl
operator_by_p v limit left kind t.Step ts = refl
operator_by_p v limit left kind t.InstanceOf ts = refl
operator_by_p v limit left kind t.Question ts = rw (second_p ts) refl
operator_by_p v limit left kind _ ts = refl

operator_p : (v : Version) (limit left : ℕ) (kind : NodeKind) (ts : List Token) → operator_tail v limit left kind (all_placeless ts) ≡ operator_tail v limit left kind ts
operator_p v limit left kind ts = ap (λ (x : Terminal). or_else (operator_by v limit left kind x (all_placeless ts))
    (tails.binary_tail v limit left x)) (first_p ts)
    ∙ ap (λ (o : Option Form). or_else o (tails.binary_tail v limit left (first_of ts)))
    (operator_by_p v limit left kind (first_of ts) ts)

operand_tail_p : (v : Version) (limit : ℕ) (kind : NodeKind) (own : ℕ) (ts : List Token) → operand_tail_by v limit kind own (all_placeless ts) ≡ operand_tail_by v limit kind own ts
operand_tail_p v limit kind own ts = rw (postfix_p v kind ts, operator_p v limit (tails.left_by kind own) kind ts) refl

class_tail_by_p : (v : Version) (kind : NodeKind) (x : Terminal) (ts : List Token) → class_ref_by v kind x (all_placeless ts) ≡ class_ref_by v kind x ts
class_tail_by_p v kind t.OpenBracket ts = refl
class_tail_by_p v kind t.OpenBrace ts = refl
class_tail_by_p v kind t.Arrow ts = refl
class_tail_by_p v kind t.DoubleColon ts = rw (second_p ts) refl
class_tail_by_p v kind _ ts = refl

class_tail_p : (v : Version) (kind : NodeKind) (ts : List Token) → class_ref_tail v kind (all_placeless ts) ≡ class_ref_tail v kind ts
class_tail_p v kind ts = ap (λ (x : Terminal). class_ref_by v kind x (all_placeless ts)) (first_p ts) ∙ class_tail_by_p v kind (first_of ts) ts

interpolated_p : (kind : NodeKind) (ts : List Token) → interpolated_tail kind (all_placeless ts) ≡ interpolated_tail kind ts
interpolated_p kind ts = rw (first_p ts) refl

tail_by_p : (v : Version) (o : Sort) (kind : NodeKind) (own : ℕ) (bad : Bool) (ts : List Token) → tail_by v o kind own bad (all_placeless ts) ≡ tail_by v o kind own bad ts
tail_by_p v (s.Operand limit) kind own bad ts = rw (operand_tail_p v limit kind own ts) refl
tail_by_p v s.Entry kind own bad ts = rw (operand_tail_p v 24 kind own ts, first_p ts) refl
tail_by_p v s.Target kind own bad ts = rw (postfix_p v kind ts) refl
tail_by_p v s.Place kind own bad ts = rw (postfix_p v kind ts) refl
tail_by_p v s.ClassRef kind own bad ts = class_tail_p v kind ts
tail_by_p v s.Interpolated kind own bad ts = interpolated_p kind ts
tail_by_p v s.Embedded kind own bad ts = rw (postfix_p v kind ts) refl
tail_by_p v _ kind own bad ts = refl

abbrev pub tree_placeless : Tree → Tree
tree_placeless x = (x.0, forest_placeless x.1)

pub tail_p : (v : Version) (o : Sort) (x : Tree) (ts : List Token) → tail v o (tree_placeless x) (all_placeless ts) ≡ tail v o x ts
tail_p v o x ts =
    tail_by_p v o x.0 (edge v (tree_placeless x)) (is_misindented (tree_placeless x)) ts
    ∙ ap (λ (n : ℕ). tail_by v o x.0 n (is_misindented (tree_placeless x)) ts) (edge_p v x.0 x.1)
    ∙ ap (λ (b : Bool). tail_by v o x.0 (edge v x) b ts) (misindented_p x.0 x.1)
