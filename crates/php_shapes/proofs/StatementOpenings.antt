-- How statements, members and cases begin: each form of the tables is the form of its kind.
use Rattle.std.proofs.Common.{◌≡◌, Bool, true, false, not, ◌&&◌, ◌||◌, List, [], ◌∷◌, ◌++◌, drop, Some, refl, sym, ap, ◌∙◌, subst}
use Rattle.std.specs.Prelude.{IfSome}
use Rattle.std.proofs.lemmas.Bool.{not-true}
use Rattle.php_tree.specs.declared.kind.NodeKind.{NodeKind}
use Rattle.php_tree.specs.declared.kind.NodeKind.TheVariants as k
use Rattle.php_tree.specs.declared.token.Token.{Token}
use Rattle.php_tree.specs.declared.version.Version.{Version}
use Rattle.php_tree.specs.Tree.{Forest, none, leaf, node, ◌+++◌, leaves}
use Rattle.php_terminals.specs.declared.terminal.Terminal.{Terminal}
use Rattle.php_terminals.specs.declared.terminal.Terminal.TheVariants as t
use Rattle.php_terminals.specs.Ahead.{first_of, past_group, second_of, third_of}
use Rattle.php_terminals.specs.Classify.{is_any_label, terminal}
use Rattle.php_terminals.specs.Indents.{is_misindented}
use Rattle.php_forms.specs.declared.item.Item.{Item}
use Rattle.php_forms.specs.declared.item.Sort.TheVariants as s
use Rattle.php_forms.specs.Heads as fh
use Rattle.php_forms.specs.Lists as fl
use Rattle.php_forms.specs.Statements as fs
use Rattle.php_grammar.specs.Accepts.{same_class}
use Rattle.php_shapes.specs.Atoms as at
use Rattle.php_shapes.specs.Declarations as de
use Rattle.php_shapes.specs.Namespaces as ns
use Rattle.php_shapes.specs.Postfixes as po
use Rattle.php_shapes.specs.Statements as st
use Rattle.php_shapes.specs.Forms.{form}
use Rattle.php_shapes.specs.Nearest.{goes_on_if, has_else, is_else}
use Rattle.php_shapes.specs.Notation.{Rule, word, ◌~◌, ◌|||◌, many, maybe, expr}
use Rattle.php_shapes.specs.Places.{begins_with_class_name, is_class_name, is_member, is_statement}
use Rattle.php_shapes.specs.Shapes.{Fits, is_word, is_first, is_second}
use Rattle.php_shapes.proofs.Entries as sq
use Rattle.php_shapes.proofs.Entries.{Entry, Meet, else_if_rule, else_rule, entries, flat, is_backslash, is_else_if, is_none, plain, use_body_rule}
use Rattle.php_shapes.proofs.Sequences.{Gives, none_behind, whole}
use Rattle.php_shapes.proofs.Told.{first_as, first_none}
use Rattle.php_shapes.proofs.Follows.{false_is}
use Rattle.php_shapes.proofs.Standing.{Good, cond_form, is_quiet, made, or_else_form, quiet}

-- ---- nodes that need nothing of what follows

pub as_statement : (v : Version) (k : NodeKind) (is : List Item) → is_statement k ≡ true → is_quiet k ≡ true → Gives v (entries v is) (form v k) → Good v s.Statement (k, is)
as_statement v k is q e p = record { good = λ c rest m. ((made v k is e p c rest m, q), quiet k c rest e) }

pub as_member : (v : Version) (k : NodeKind) (is : List Item) → is_member k ≡ true → is_quiet k ≡ true → Gives v (entries v is) (form v k) → Good v s.Member (k, is)
as_member v k is q e p = record { good = λ c rest m. ((made v k is e p c rest m, q), quiet k c rest e) }

pub as_class : (v : Version) (k : NodeKind) (is : List Item) → is_quiet k ≡ true → is_class_name k ≡ true
    → ((c : Forest) (rest : List Token) → Meet v (entries v is) c rest → begins_with_class_name c ≡ true)
    → Gives v (entries v is) (form v k) → Good v s.ClassRef (k, is)
as_class v k is e q b p = record { good = λ c rest m. ((made v k is e p c rest m, ap (λ (y : Bool). y && begins_with_class_name c) q ∙ b c rest m), quiet k c rest e) }

-- ---- `if`

abbrev pub if_entries : List Entry
if_entries = sq.else_ifs ∷ sq.else_part ∷ []

-- one step into a sequence
pub then_as : (v : Version) (e : Entry) (es fs : List Entry)
    → ((f : Forest) (rest : List Token) → Meet v es f rest → Meet v fs f rest) → (f : Forest) (rest : List Token)
    → Meet v (e ∷ es) f rest → Meet v (e ∷ fs) f rest
then_as v e es fs p f rest m = (m.0, m.1, m.2, p m.1 rest m.3, m.4)

pub if_plain : (v : Version) (f : Forest) (rest : List Token) → Meet v if_entries f rest → Meet v (plain (many else_if_rule) ∷ plain (maybe else_rule) ∷ []) f rest
if_plain v f rest m = (m.0, m.1, m.2.0, (m.3.0, m.3.1, m.3.2.0, m.3.3, m.3.4), m.4)

abbrev pub if_gap : List Entry → List Entry
if_gap es = plain (word t.If) ∷ plain (word t.OpenParen) ∷ plain expr ∷ plain (word t.CloseParen) ∷ plain st.statement ∷ es

pub into_if : (v : Version) (es fs : List Entry)
    → ((f : Forest) (rest : List Token) → Meet v es f rest → Meet v fs f rest) → (f : Forest) (rest : List Token)
    → Meet v (if_gap es) f rest → Meet v (if_gap fs) f rest
into_if v es fs p =
    then_as v (plain (word t.If)) (plain (word t.OpenParen) ∷ plain expr ∷ plain (word t.CloseParen)
    ∷ plain st.statement ∷ es) (plain (word t.OpenParen) ∷ plain expr ∷ plain (word t.CloseParen)
    ∷ plain st.statement ∷ fs)
    (then_as v (plain (word t.OpenParen)) (plain expr ∷ plain (word t.CloseParen) ∷ plain st.statement ∷ es) (plain expr ∷ plain (word t.CloseParen) ∷ plain st.statement ∷ fs)
    (then_as v (plain expr) (plain (word t.CloseParen) ∷ plain st.statement ∷ es) (plain (word t.CloseParen) ∷ plain st.statement ∷ fs)
    (then_as v (plain (word t.CloseParen)) (plain st.statement ∷ es) (plain st.statement ∷ fs)
    (then_as v (plain st.statement) es fs p))))

pub or_right : (b c : Bool) → (b || c) ≡ false → c ≡ false
or_right true c e = false_is (sym e)
or_right false c e = e

-- an `else` is behind the front
pub else_behind : (h i : Forest) → has_else (h +++ i) ≡ false → has_else i ≡ false
else_behind none i e = e
else_behind (leaf x h) i e = else_behind h i (or_right (is_else (terminal x)) (has_else (h +++ i)) e)
else_behind (node j b h) i e = else_behind h i e

pub goes_if : (x : Terminal) → is_else_if x ≡ false → is_else x ≡ false → goes_on_if x ≡ false
goes_if t.Else p q = q
goes_if t.ElseIf p q = p
goes_if _ p q = refl

pub none_is : (f : Forest) → is_none f ≡ true → f ≡ none
none_is none e = refl
none_is (leaf x f) e = false_is e
none_is (node j b f) e = false_is e

-- behind an `if` without `else` there is none
pub no_else_behind : (v : Version) (f : Forest) (rest : List Token) → Meet v if_entries f rest → has_else f ≡ false → goes_on_if (first_of rest) ≡ false
no_else_behind v f rest m e =
    let a = m.3 in
    let same : m.1 ≡ a.0 = a.4 ∙ ap (λ (y : Forest). a.0 +++ y) a.3 ∙ none_behind a.0 in
    let without : has_else a.0 ≡ false = ap has_else (sym same) ∙ else_behind m.0 m.1 (ap has_else (sym m.4) ∙ e) in
    let empty : a.0 ≡ none = none_is a.0 (a.2.2 without) in
    goes_if (first_of rest)
    (ap is_else_if (sym (first_none m.1 rest (same ∙ empty))) ∙ m.2.1)
    (ap is_else (sym (first_none a.0 (leaves a.1 ++ rest) empty ∙ first_none a.1 rest a.3)) ∙ a.2.1 without)

-- the same behind the front of a sequence
pub no_else_after : (v : Version) (e : Entry) (es : List Entry)
    → ((f : Forest) (rest : List Token) → Meet v es f rest → has_else f ≡ false → goes_on_if (first_of rest) ≡ false)
    → (f : Forest) (rest : List Token) → Meet v (e ∷ es) f rest → has_else f ≡ false
    → goes_on_if (first_of rest) ≡ false
no_else_after v e es p f rest m d = p m.1 rest m.3 (else_behind m.0 m.1 (ap has_else (sym m.4) ∙ d))

pub if_shuts : (v : Version) (f : Forest) (rest : List Token) → Meet v (if_gap if_entries) f rest → has_else f ≡ false → goes_on_if (first_of rest) ≡ false
if_shuts v =
    no_else_after v (plain (word t.If)) (plain (word t.OpenParen) ∷ plain expr ∷ plain (word t.CloseParen) ∷ plain st.statement ∷ if_entries)
    (no_else_after v (plain (word t.OpenParen)) (plain expr ∷ plain (word t.CloseParen) ∷ plain st.statement ∷ if_entries)
    (no_else_after v (plain expr) (plain (word t.CloseParen) ∷ plain st.statement ∷ if_entries)
    (no_else_after v (plain (word t.CloseParen)) (plain st.statement ∷ if_entries)
    (no_else_after v (plain st.statement) if_entries (no_else_behind v)))))

pub if_fine : (c : Forest) → is_misindented (k.If, c) ≡ false
unfolding is_misindented
if_fine c = refl

pub if_good : (v : Version) (is : List Item) → entries v is ≡ if_gap if_entries → Good v s.Statement (k.If, is)
if_good v is same = record {
  good = λ c rest m.
      let n : Meet v (if_gap if_entries) c rest = subst (λ (es : List Entry). Meet v es c rest) same m in (
        (
          record {
            fits = whole v st.if_else c rest (into_if v if_entries (plain (many else_if_rule) ∷ plain (maybe else_rule) ∷ []) (if_plain v) c rest n);
            fine = if_fine c;
          },
          refl,
        ),
        (λ e. if_shuts v c rest n (not-true (has_else c) e), λ e. false_is e),
      );
}

-- ---- uses

pub semi_no_backslash : (own : Terminal) → same_class t.Semi own ≡ true → is_backslash own ≡ false
semi_no_backslash t.Backslash e = absurd cc
semi_no_backslash _ e = refl

pub behind_use : (v : Version) (h i : Forest) (rest : List Token) → Fits v (word t.Semi) h → is_backslash (first_of (leaves (h +++ i) ++ rest)) ≡ false
behind_use v h i rest (is_word {x} p) = semi_no_backslash (terminal x) p

pub use_gives : (v : Version) → Gives v (plain (word t.Use) ∷ sq.use_body ∷ plain (word t.Semi) ∷ []) (ns.use_declaration v)
use_gives v f rest m =
    let a = m.3 in
    let b = a.3 in
    let guard : is_backslash (first_of (leaves a.1 ++ rest)) ≡ false =
    ap (λ (y : Forest). is_backslash (first_of (leaves y ++ rest))) b.4 ∙ behind_use v b.0 b.1 rest b.2 in
    let fits : Fits v (use_body_rule v) a.0 = a.2 guard in
    whole v (ns.use_declaration v) f rest (m.0, m.1, m.2, (a.0, a.1, fits, b, a.4), m.4)

-- ---- statements that their first token settles

pub simple_good : (v : Version) (x : Terminal) → Good v s.Statement (fs.simple_form x)
simple_good v t.OpenBrace = as_statement v k.Block _ refl refl (whole v st.block)
simple_good v t.Semi = as_statement v k.Empty _ refl refl (whole v (word t.Semi))
simple_good v t.Echo = as_statement v k.Echo _ refl refl (whole v st.echo)
simple_good v t.InlineHtml = as_statement v k.Html _ refl refl (whole v (word t.InlineHtml))
simple_good v t.Return = as_statement v k.Return _ refl refl (whole v st.return)
simple_good v t.While = as_statement v k.While _ refl refl (whole v st.while_loop)
simple_good v t.Do = as_statement v k.DoWhile _ refl refl (whole v st.do_while)
simple_good v t.For = as_statement v k.For _ refl refl (whole v st.for_loop)
simple_good v t.Foreach = as_statement v k.Foreach _ refl refl (whole v st.foreach_loop)
simple_good v t.Switch = as_statement v k.Switch _ refl refl (whole v st.switch)
simple_good v t.Break = as_statement v k.Break _ refl refl (whole v (st.jump t.Break))
simple_good v t.Continue = as_statement v k.Continue _ refl refl (whole v (st.jump t.Continue))
simple_good v t.Global = as_statement v k.Global _ refl refl (whole v st.global)
simple_good v t.Unset = as_statement v k.Unset _ refl refl (whole v st.unset)
simple_good v t.Throw = as_statement v k.Throw _ refl refl (whole v st.throw)
simple_good v t.Try = as_statement v k.Try _ refl refl (whole v (st.try_statement v))
simple_good v t.Declare = as_statement v k.Declare _ refl refl (whole v st.declare_statement)
simple_good v t.Goto = as_statement v k.Goto _ refl refl (whole v st.goto_statement)
simple_good v t.Class = as_statement v k.Class _ refl refl (whole v (de.class_declaration v))
simple_good v t.ClassModifier = as_statement v k.Class _ refl refl (whole v (de.class_declaration v))
simple_good v t.AttributeOpen = as_statement v k.Class _ refl refl (whole v (de.class_declaration v))
simple_good v t.Interface = as_statement v k.Interface _ refl refl (whole v (de.interface_declaration v))
simple_good v t.Trait = as_statement v k.Trait _ refl refl (whole v de.trait_declaration)
simple_good v t.Use = as_statement v k.Use _ refl refl (use_gives v)
simple_good v t.Const = as_statement v k.Const _ refl refl (whole v de.const_declaration)
simple_good v _ = as_statement v k.ExprStmt _ refl refl (whole v (expr ~ word t.Semi))

-- ---- other statements

pub expression_good : (v : Version) → Good v s.Statement fh.expression_form
expression_good v = as_statement v k.ExprStmt _ refl refl (whole v (expr ~ word t.Semi))

pub if_form_good : (v : Version) (x : Terminal) → Good v s.Statement (fh.if_form x)
if_form_good v t.Colon = as_statement v k.IfAlt _ refl refl (whole v st.if_colons)
if_form_good v _ = if_good v _ refl

pub static_form_good : (v : Version) (x : Terminal) → Good v s.Statement (fh.static_form x)
static_form_good v t.Variable = as_statement v k.Statics _ refl refl (whole v st.statics)
static_form_good v _ = expression_good v

pub function_form_good : (v : Version) (x y : Terminal) → Good v s.Statement (fh.function_form x y)
function_form_good v x y = cond_form (Good v s.Statement) (is_any_label (fh.name_of_function x y)) _ _
    (as_statement v k.Function _ refl refl (whole v de.function)) (expression_good v)

pub namespace_form_good : (v : Version) (x : Terminal) → Good v s.Statement (fh.namespace_form x)
namespace_form_good v t.Backslash = expression_good v
namespace_form_good v _ = as_statement v k.Namespace _ refl refl (whole v (ns.namespace_declaration v))

pub label_form_good : (v : Version) (x : Terminal) → Good v s.Statement (fh.label_form x)
label_form_good v t.Colon = as_statement v k.LabelStmt _ refl refl (whole v st.label)
label_form_good v _ = expression_good v

pub chosen_good : (v : Version) (x : Terminal) (ts : List Token) → IfSome (fh.chosen_by x ts) (Good v s.Statement)
chosen_good v t.If ts = if_form_good v (first_of (past_group 0 (drop 1 ts)))
chosen_good v t.Static ts = static_form_good v (second_of ts)
chosen_good v t.Function ts = function_form_good v (second_of ts) (third_of ts)
chosen_good v t.Namespace ts = namespace_form_good v (second_of ts)
chosen_good v t.Label ts = label_form_good v (second_of ts)
chosen_good v t.Match ts = label_form_good v (second_of ts)
chosen_good v t.Readonly ts = label_form_good v (second_of ts)
chosen_good v t.MixedOrNever ts = label_form_good v (second_of ts)
chosen_good v _ ts = tt

pub statement_good : (v : Version) (ts : List Token) → IfSome (fh.statement_form ts) (Good v s.Statement)
statement_good v ts = or_else_form (Good v s.Statement) (fh.chosen_form ts) (Some (fs.simple_form (first_of ts))) (chosen_good v (first_of ts) ts) (simple_good v (first_of ts))

-- ---- members, cases and what has one form

pub block_good : (v : Version) (is : List Item) → Gives v (entries v is) st.block → Good v s.Block (k.Block, is)
block_good v is p = record { good = λ c rest m. ((made v k.Block is refl p c rest m, refl), quiet k.Block c rest refl) }

pub case_by : (v : Version) (r : Rule) → ((f : Forest) → Fits v r f
    → Fits v (word t.Case ~ expr ||| word t.Default) f) → Gives v
    (flat r (flat (word t.Colon ||| word t.Semi) (flat st.statements []))) st.case_of
case_by v r w = first_as v r (word t.Case ~ expr ||| word t.Default) st.case_of (flat (word t.Colon ||| word t.Semi) (flat st.statements [])) w (whole v st.case_of)

pub as_case : (v : Version) (is : List Item) → Gives v (entries v is) st.case_of → Good v s.Case (k.Case, is)
as_case v is p = record { good = λ c rest m. ((made v k.Case is refl p c rest m, refl), quiet k.Case c rest refl) }

pub case_good : (v : Version) (x : Terminal) → IfSome (fh.case_form x) (Good v s.Case)
case_good v t.Case = as_case v _ (case_by v (word t.Case ~ expr) (λ f p. is_first p))
case_good v t.Default = as_case v _ (case_by v (word t.Default) (λ f p. is_second p))
case_good v _ = tt

pub modified_good : (v : Version) (x : Terminal) → Good v s.Member (fh.modified_form x)
modified_good v t.Function = as_member v k.Method _ refl refl (whole v de.method)
modified_good v t.Const = as_member v k.ClassConst _ refl refl (whole v de.class_const)
modified_good v _ = as_member v k.Property _ refl refl (whole v de.property)

pub trait_use_good : (v : Version) (x : Terminal) → IfSome (fh.trait_use_form x) (Good v s.Member)
trait_use_good v t.Use = as_member v k.TraitUse _ refl refl (whole v (de.trait_use v))
trait_use_good v _ = tt

pub member_good : (v : Version) (ts : List Token) → IfSome (fh.member_form ts) (Good v s.Member)
member_good v ts = or_else_form (Good v s.Member) (fh.trait_use_form (first_of ts))
    (Some (fh.modified_form (fh.behind_modifiers ts))) (trait_use_good v (first_of ts))
    (modified_good v (fh.behind_modifiers ts))

pub param_good : (v : Version) (is : List Item) → Gives v (entries v is) de.param → Good v s.Param (k.Param, is)
param_good v is p = record { good = λ c rest m. ((made v k.Param is refl p c rest m, refl), quiet k.Param c rest refl) }

pub type_good : (v : Version) (is : List Item) → Gives v (entries v is) (de.type_name v) → Good v s.TypeName (k.TypeName, is)
type_good v is p = record { good = λ c rest m. ((made v k.TypeName is refl p c rest m, refl), quiet k.TypeName c rest refl) }

pub args_good : (v : Version) (is : List Item) → Gives v (entries v is) po.arguments → Good v s.Args (k.Args, is)
args_good v is p = record { good = λ c rest m. ((made v k.Args is refl p c rest m, refl), quiet k.Args c rest refl) }

pub as_item : (v : Version) (is : List Item) → Gives v (entries v is) at.item → Good v s.Item (k.Item, is)
as_item v is p = record { good = λ c rest m. ((made v k.Item is refl p c rest m, refl), quiet k.Item c rest refl) }

pub item_good : (v : Version) (x : Terminal) → Good v s.Item (fl.item_form x)
item_good v t.Ampersand = as_item v _ (λ f rest m. is_first (whole v (word t.Ampersand ~ expr) f rest m))
item_good v t.Ellipsis = as_item v _ (λ f rest m. is_second (is_first (whole v (word t.Ellipsis ~ expr) f rest m)))
item_good v _ = as_item v _ (λ f rest m. is_second (is_second (whole v (expr ~ maybe (word t.DoubleArrow ~ at.by_ref ~ expr)) f rest m)))
