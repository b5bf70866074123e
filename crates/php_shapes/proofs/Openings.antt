-- How nodes of each sort begin: each form of the tables is the form of its kind.
use Rattle.std.proofs.Common.{◌≡◌, ℕ, true, List, [], ◌∷◌, ◌++◌, Option, Some, None, refl, sym, ap, ◌∙◌, subst}
use Rattle.std.specs.Prelude.{IfSome}
use Rattle.php_tree.specs.declared.kind.NodeKind.TheVariants as k
use Rattle.php_tree.specs.declared.token.Token.{Token}
use Rattle.php_tree.specs.declared.version.Version.{Version}
use Rattle.php_tree.specs.declared.version.Version.TheVariants.{V74, V83}
use Rattle.php_tree.specs.Tree.{Forest, ◌+++◌, leaves}
use Rattle.php_terminals.specs.declared.terminal.Terminal.{Terminal}
use Rattle.php_terminals.specs.declared.terminal.Terminal.TheVariants as t
use Rattle.php_terminals.specs.Ahead.{first_of, second_of}
use Rattle.php_terminals.specs.Marks.{is_double_arrow, is_name_part}
use Rattle.php_forms.specs.declared.item.Item.{Item}
use Rattle.php_forms.specs.declared.item.Sort.{Sort}
use Rattle.php_forms.specs.declared.item.Sort.TheVariants as s
use Rattle.php_forms.specs.Forms.{or_else}
use Rattle.php_forms.specs.Grammar.{Form}
use Rattle.php_forms.specs.Lists as fl
use Rattle.php_grammar.specs.Operands as fo
use Rattle.php_grammar.specs.Tables as ft
use Rattle.php_shapes.specs.Atoms as at
use Rattle.php_shapes.specs.Declarations as de
use Rattle.php_shapes.specs.Names as na
use Rattle.php_shapes.specs.Postfixes as po
use Rattle.php_shapes.specs.Statements as st
use Rattle.php_shapes.specs.Notation.{word, place, ◌~◌}
use Rattle.php_shapes.specs.Places.{TargetOrList, begins_with_class_name}
use Rattle.php_shapes.specs.Shapes.{Fits, is_nothing, is_word, is_inside, is_both, is_first, is_second}
use Rattle.php_shapes.proofs.Entries as sq
use Rattle.php_shapes.proofs.Entries.{Entry, Meet, entries, entry_rule, entry_to, flat}
use Rattle.php_shapes.proofs.Sequences.{Gives, none_behind, one, whole}
use Rattle.php_shapes.proofs.Told.{first_join}
use Rattle.php_shapes.proofs.Standing.{Good, cond_option, list_item_parts, made, or_else_form, quiet}
use Rattle.php_shapes.proofs.Heads.{Heads}
use Rattle.php_shapes.proofs.Beginnings.{by_name, by_static, dollar_gives, entry_heads, operand_heads, place_heads, prop_of, target_heads}
use Rattle.php_shapes.proofs.StatementOpenings.{args_good, as_class, block_good, case_good, item_good, member_good, param_good, statement_good, type_good}

-- ---- items of list forms

pub as_list_item : (v : Version) (is : List Item) → Gives v (entries v is) list_item_parts → Good v s.ListItem (k.Item, is)
as_list_item v is p = record { good = λ c rest m. ((p c rest m, refl), quiet k.Item c rest refl) }

pub entry_then : (v : Version) (x : Terminal) (a b : Forest) → Fits v (entry_rule (is_double_arrow x)) a → Fits v (entry_to x) b → Fits v list_item_parts (a +++ b)
entry_then v t.DoubleArrow a b p q = is_second (is_second (is_both p q refl))
entry_then v _ a b p is_nothing = is_second (is_first (subst (Fits v (place TargetOrList)) (sym (none_behind a)) p))

pub entry_gives : (v : Version) → Gives v (sq.entry ∷ sq.entry_value ∷ []) list_item_parts
entry_gives v f rest m =
    let a = m.3 in
    let same : m.1 ≡ a.0 = a.4 ∙ ap (λ (y : Forest). a.0 +++ y) a.3 ∙ none_behind a.0 in
    let to : Fits v (entry_to (first_of (leaves m.1 ++ rest))) a.0 = subst (λ (y : Terminal). Fits v (entry_to y) a.0) (sym (first_join m.1 a.0 a.1 rest a.4)) a.2 in
    subst (Fits v list_item_parts) (sym (m.4 ∙ ap (λ (y : Forest). m.0 +++ y) same)) (entry_then v (first_of (leaves m.1 ++ rest)) m.0 a.0 m.2 to)

pub list_item_good : (v : Version) (x : Terminal) → Good v s.ListItem (fl.list_item_form x)
list_item_good v t.Ampersand = as_list_item v _ (λ f rest m. is_first (whole v (word t.Ampersand ~ place TargetOrList) f rest m))
list_item_good v _ = as_list_item v _ (entry_gives v)

-- ---- variables

pub as_simple : (v : Version) (is : List Item) → Gives v (entries v is) at.variable → Good v s.SimpleVariable (k.Variable, is)
as_simple v is p = record { good = λ c rest m. ((made v k.Variable is refl p c rest m, refl), quiet k.Variable c rest refl) }

pub dollar_good : (v : Version) (x : Terminal) → Good v s.SimpleVariable (fo.dollar_form x)
dollar_good v t.OpenBrace = as_simple v _ (λ f rest m. is_second (dollar_gives v t.OpenBrace f rest m))
dollar_good v x = as_simple v _ (λ f rest m. is_second (dollar_gives v x f rest m))

pub simple_variable_by_good : (v : Version) (x : Terminal) (ts : List Token) → IfSome (fo.simple_variable_by x ts) (Good v s.SimpleVariable)
simple_variable_by_good v t.Variable ts = as_simple v _ (one v (word t.Variable) at.dollar_variable)
simple_variable_by_good v t.Dollar ts = dollar_good v (second_of ts)
simple_variable_by_good v _ ts = tt

pub as_embedded : (v : Version) (is : List Item) → Gives v (entries v is) at.variable → Good v s.Embedded (k.Variable, is)
as_embedded v is p = record { good = λ c rest m. ((made v k.Variable is refl p c rest m, refl), quiet k.Variable c rest refl) }

pub dollar_embedded : (v : Version) (x : Terminal) → Good v s.Embedded (fo.dollar_form x)
dollar_embedded v t.OpenBrace = as_embedded v _ (λ f rest m. is_second (dollar_gives v t.OpenBrace f rest m))
dollar_embedded v x = as_embedded v _ (λ f rest m. is_second (dollar_gives v x f rest m))

pub embedded_good : (v : Version) (x : Terminal) (ts : List Token) → IfSome (fo.simple_variable_by x ts) (Good v s.Embedded)
embedded_good v t.Variable ts = as_embedded v _ (one v (word t.Variable) at.dollar_variable)
embedded_good v t.Dollar ts = dollar_embedded v (second_of ts)
embedded_good v _ ts = tt

pub plain_good : (v : Version) (x : Terminal) → IfSome (ft.plain_variable_form x) (Good v s.PlainVariable)
plain_good v t.Variable = record { good = λ c rest m. ((whole v (word t.Variable) c rest m, refl), quiet k.Variable c rest refl) }
plain_good v _ = tt

pub interpolated_good : (v : Version) (x : Terminal) → IfSome (ft.plain_variable_form x) (Good v s.Interpolated)
interpolated_good v t.Variable = record {
  good = λ c rest m.
      ((λ near. is_first (is_inside (whole v (word t.Variable) c rest m) near), λ e. (refl, whole v (word t.Variable) c rest m)), quiet k.Variable c rest refl);
}
interpolated_good v _ = tt

-- ---- what names a class

pub word_begins : (v : Version) (c : Terminal) (h i : Forest) → Fits v (word c) h → begins_with_class_name (h +++ i) ≡ true
word_begins v c h i (is_word p) = refl

pub begins : (v : Version) (c : Terminal) (f h i : Forest) → Fits v (word c) h → f ≡ h +++ i → begins_with_class_name f ≡ true
begins v c f h i p e = ap begins_with_class_name e ∙ word_begins v c h i p

pub lead_begins : (v : Version) (h i : Forest) → Fits v na.lead_of_name h → begins_with_class_name i ≡ true → begins_with_class_name (h +++ i) ≡ true
lead_begins v h i (is_first is_nothing) e = e
lead_begins v h i (is_second (is_first (is_word p))) e = refl
lead_begins v h i (is_second (is_second (is_both (is_word {x} p) q d))) e = ap (λ (y : Forest). begins_with_class_name (y +++ i)) d

pub name_begins : (v : Version) (es : List Entry) (f : Forest) (rest : List Token) → Meet v (flat (na.name v) es) f rest → begins_with_class_name f ≡ true
name_begins V74 es f rest m =
    ap begins_with_class_name m.4 ∙ lead_begins V74 m.0 m.1 m.2 (begins V74 t.AnyLabel m.1 m.3.0 m.3.1 m.3.2 m.3.4)
name_begins V83 es f rest m = begins V83 t.NameToken f m.0 m.1 m.2 m.4

pub dollar_class : (v : Version) (x : Terminal) → Good v s.ClassRef (fo.dollar_form x)
dollar_class v t.OpenBrace = as_class v k.Variable _ refl refl (λ c rest m. begins v t.Dollar c m.0 m.1 m.2 m.4) (λ f rest m. is_second (dollar_gives v t.OpenBrace f rest m))
dollar_class v x = as_class v k.Variable _ refl refl (λ c rest m. begins v t.Dollar c m.0 m.1 m.2 m.4) (λ f rest m. is_second (dollar_gives v x f rest m))

pub simple_class : (v : Version) (x : Terminal) (ts : List Token) → IfSome (fo.simple_variable_by x ts) (Good v s.ClassRef)
simple_class v t.Variable ts = as_class v k.Variable _ refl refl (λ c rest m. begins v t.Variable c m.0 m.1 m.2 m.4) (one v (word t.Variable) at.dollar_variable)
simple_class v t.Dollar ts = dollar_class v (second_of ts)
simple_class v _ ts = tt

pub static_class : (v : Version) (x : Terminal) → IfSome (fo.static_prop_form x) (Good v s.ClassRef)
static_class v t.Static = as_class v k.StaticProp _ refl refl (λ c rest m. begins v t.Static c m.0 m.1 m.2 m.4) (prop_of v (word t.Static) (by_static v))
static_class v _ = tt

pub named_class : (v : Version) (x : Terminal) → IfSome (fo.named_prop_form x) (Good v s.ClassRef)
named_class v x =
    cond_option (Good v s.ClassRef) (is_name_part x) _ None
    (λ e. as_class v k.StaticProp _ refl refl (name_begins v (flat (word t.DoubleColon ~ po.static_member) [])) (prop_of v (na.name v) (by_name v))) (λ e. tt)

pub class_ref_good : (v : Version) (ts : List Token) → IfSome (fo.class_ref_form ts) (Good v s.ClassRef)
class_ref_good v ts =
    or_else_form (Good v s.ClassRef) (or_else (fo.named_prop_form (first_of ts)) (fo.static_prop_form (first_of ts))) (fo.simple_variable_form ts)
    (or_else_form (Good v s.ClassRef) (fo.named_prop_form (first_of ts)) (fo.static_prop_form (first_of ts)) (named_class v (first_of ts)) (static_class v (first_of ts)))
    (simple_class v (first_of ts) ts)

-- ---- expressions

pub heads_are : (v : Version) (o : Option Form) (s : Sort) → ((fm : Form) → Heads v fm → Good v s fm) → IfSome o (Heads v) → IfSome o (Good v s)
heads_are v None s f h = tt
heads_are v (Some fm) s f h = f fm h

pub as_operand : (v : Version) (limit : ℕ) (fm : Form) → Heads v fm → Good v (s.Operand limit) fm
as_operand v limit fm h = record { good = λ c rest m. let x = h.at_all c rest m in ((x.fits, x.operand, x.tight limit), x.shut) }

pub as_entry : (v : Version) (fm : Form) → Heads v fm → Good v s.Entry fm
as_entry v fm h = record { good = λ c rest m. let x = h.at_all c rest m in ((x.fits, x.operand, x.tight 24), x.shut) }

pub as_target : (v : Version) (fm : Form) → Heads v fm → Good v s.Target fm
as_target v fm h = record { good = λ c rest m. let x = h.at_all c rest m in (x.fits, x.shut) }

pub as_place : (v : Version) (fm : Form) → Heads v fm → Good v s.Place fm
as_place v fm h = record { good = λ c rest m. let x = h.at_all c rest m in (x.fits, x.shut) }

-- A node of each sort begins as its kind's form says.
pub begins_good : (v : Version) (s : Sort) (ts : List Token) → IfSome (ft.form v s ts) (Good v s)
begins_good v s.Statement ts = statement_good v ts
begins_good v s.Block ts = block_good v _ (whole v st.block)
begins_good v s.Case ts = case_good v (first_of ts)
begins_good v s.Member ts = member_good v ts
begins_good v s.Param ts = param_good v _ (whole v de.param)
begins_good v s.TypeName ts = type_good v _ (whole v (de.type_name v))
begins_good v s.Args ts = args_good v _ (whole v po.arguments)
begins_good v s.Item ts = item_good v (first_of ts)
begins_good v s.ListItem ts = list_item_good v (first_of ts)
begins_good v (s.Operand limit) ts = heads_are v (fo.operand_form v ts) (s.Operand limit) (as_operand v limit) (operand_heads v ts)
begins_good v s.Entry ts = heads_are v (fo.entry_form v ts) s.Entry (as_entry v) (entry_heads v ts)
begins_good v s.Target ts = heads_are v (fo.target_form v ts) s.Target (as_target v) (target_heads v ts)
begins_good v s.Place ts = heads_are v (fo.place_form v ts) s.Place (as_place v) (place_heads v ts)
begins_good v s.SimpleVariable ts = simple_variable_by_good v (first_of ts) ts
begins_good v s.PlainVariable ts = plain_good v (first_of ts)
begins_good v s.ClassRef ts = class_ref_good v ts
begins_good v s.Interpolated ts = interpolated_good v (first_of ts)
begins_good v s.Embedded ts = embedded_good v (first_of ts) ts
