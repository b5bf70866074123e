-- Groups of the tables that stand any number of times: a repeat that has a token is what the rule says.
use Rattle.std.proofs.Common.{◌≡◌, ◌<◌, true, List, [], ◌++◌, length, refl, sym, ap, ◌∙◌, subst, arith}
use Rattle.php_tree.specs.declared.kind.NodeKind.TheVariants as k
use Rattle.php_tree.specs.declared.token.Token.{Token}
use Rattle.php_tree.specs.declared.version.Version.{Version}
use Rattle.php_tree.specs.Tree.{Forest, none, leaf, ◌+++◌, leaves}
use Rattle.php_terminals.specs.declared.terminal.Terminal.{Terminal}
use Rattle.php_terminals.specs.declared.terminal.Terminal.TheVariants as t
use Rattle.php_terminals.specs.Ahead.{first_of, second_of}
use Rattle.php_terminals.specs.Classify.{terminal}
use Rattle.php_terminals.specs.Marks.{closes}
use Rattle.php_grammar.specs.Accepts.{accepts, same_class}
use Rattle.php_exprs.proofs.Forests.{forest_assoc}
use Rattle.php_forms.specs.Atoms as fa
use Rattle.php_forms.specs.Declarations as fd
use Rattle.php_forms.specs.Lists as fl
use Rattle.php_forms.specs.Names as fn
use Rattle.php_forms.specs.Quoted as fq
use Rattle.php_forms.specs.Statements as fs
use Rattle.php_shapes.specs.Atoms as at
use Rattle.php_shapes.specs.Declarations as de
use Rattle.php_shapes.specs.Names as na
use Rattle.php_shapes.specs.Namespaces as ns
use Rattle.php_shapes.specs.Quoted as qu
use Rattle.php_shapes.specs.Statements as st
use Rattle.php_shapes.specs.Notation.{Rule, word, kind, place, ◌~◌, ◌|||◌, many, maybe, expr, brackets}
use Rattle.php_shapes.specs.Places.{Embedded, Member}
use Rattle.php_shapes.specs.Shapes.{Fits, is_nothing, is_word, is_both, is_first, is_second, no_more, once_more}
use Rattle.php_shapes.proofs.Entries.{Entry, Meet, else_if_rule, entries, flat, more_last}
use Rattle.php_shapes.proofs.Sequences.{Gives, none_behind, one, other, second, whole}

-- Parts of these entries with a token are what the rule says.
abbrev pub Repeat : Version → List Entry → Rule → Type 0
Repeat v es r = (f : Forest) (rest : List Token) → Meet v es f rest → 0 < length (leaves f) → Fits v r f

pub there : (v : Version) (r : Rule) → Repeat v (flat r []) r
there v r f rest m has = whole v r f rest m

pub surely : (v : Version) (es : List Entry) (r : Rule) → Gives v es r → Repeat v es r
surely v es r p f rest m has = p f rest m

no_token : (f : Forest) → f ≡ none → 0 < length (leaves f) → ⊥
no_token f e has = absurd (omega (arith, subst (λ (x : Forest). 0 < length (leaves x)) e has))

pub gone : (v : Version) (r : Rule) → Repeat v [] r
gone v r f rest m has = absurd (no_token f m has)

-- one repeat more
pub once_again : (v : Version) (r : Rule) (h f : Forest) → Fits v r h → Fits v (many r) f → Fits v (many r) (h +++ f)
once_again v r h f p q = once_more p q refl

-- ---- lists that may end with a comma

-- A repeat: a comma and what the rule says, or a comma before a closing bracket.
pub data CommaThen (v : Version) (r : Rule) (f : Forest) (rest : List Token) : Type 0 where
  goes_on : Fits v (word t.Comma ~ r) f → CommaThen v r f rest
  is_last : Fits v (word t.Comma) f → closes (first_of rest) ≡ true → CommaThen v r f rest

abbrev pub LastRepeat : Version → Terminal → List Entry → Rule → Type 0
LastRepeat v following es r = (f : Forest) (rest : List Token) → second_of (leaves f ++ rest) ≡ following → Meet v es f rest → 0 < length (leaves f) → CommaThen v r f rest

pub comma_then : (v : Version) (following : Terminal) (r : Rule) → LastRepeat v following (flat (word t.Comma ~ r) []) r
comma_then v following r f rest e m has = goes_on (whole v (word t.Comma ~ r) f rest m)

pub second_is : (v : Version) (c : Terminal) (f : Forest) (rest : List Token) → Fits v (word c) f → second_of (leaves f ++ rest) ≡ first_of rest
second_is v c f rest (is_word e) = refl

pub comma_alone : (v : Version) (following : Terminal) (r : Rule) → closes following ≡ true → LastRepeat v following (flat (word t.Comma) []) r
comma_alone v following r closing f rest e m has =
    let p = whole v (word t.Comma) f rest m in
    is_last p (ap closes (sym (second_is v t.Comma f rest p) ∙ e) ∙ closing)

pub no_last_repeat : (v : Version) (following : Terminal) (r : Rule) → LastRepeat v following [] r
no_last_repeat v following r f rest e m has = absurd (no_token f m has)

-- a closing bracket is no comma
no_comma : (own : Terminal) → closes own ≡ true → same_class t.Comma own ≡ true → ⊥
no_comma t.CloseParen p q = absurd cc
no_comma t.CloseBracket p q = absurd cc
no_comma t.CloseBrace p q = absurd cc
no_comma _ p q = absurd cc

comma_first : (v : Version) (x : Token) (f g : Forest) (rest : List Token) → f ≡ leaf x g → accepts v t.Comma x ≡ true → closes (first_of (leaves f ++ rest)) ≡ true → ⊥
comma_first v x f g rest e p q = no_comma (terminal x) (subst (λ (y : Forest). closes (first_of (leaves y ++ rest)) ≡ true) e q) p

-- before a closing bracket there is nothing more
pub nothing_last : (v : Version) (r : Rule) (f : Forest) (rest : List Token) → Fits v (more_last r) f → closes (first_of (leaves f ++ rest)) ≡ true → f ≡ none
nothing_last v r f rest (is_both no_more (is_first is_nothing) e) closing = e
nothing_last v r f rest (is_both no_more (is_second (is_word {x} p)) e) closing = absurd (comma_first v x f none rest e p closing)
nothing_last v r f rest (is_both {h = i} (once_more {h = b} (is_both {h = a} (is_word {x} p) q e1) w e2) u e3) closing =
    absurd (comma_first v x f ((a +++ b) +++ i) rest (e3 ∙ ap (λ (y : Forest). y +++ i) (e2 ∙ ap (λ (y : Forest). y +++ b) e1)) p closing)

then_more : (v : Version) (r : Rule) (h f : Forest) → Fits v (word t.Comma ~ r) h → Fits v (more_last r) f → Fits v (more_last r) (h +++ f)
then_more v r h f p (is_both {g = a} {h = b} q w e) =
    is_both (once_more p q refl) w (ap (λ (y : Forest). h +++ y) e ∙ sym (forest_assoc h a b))

-- one repeat more of a list that may end with a comma
pub comma_again : (v : Version) (r : Rule) (h f : Forest) (rest : List Token) → CommaThen v r h (leaves f ++ rest) → Fits v (more_last r) f → Fits v (more_last r) (h +++ f)
comma_again v r h f rest (goes_on p) q = then_more v r h f p q
comma_again v r h f rest (is_last p closing) q =
    let e = nothing_last v r f rest q closing in
    is_both no_more (is_second p) (ap (λ (y : Forest). h +++ y) e ∙ none_behind h)

-- ---- names

name_more_label_repeat : (v : Version) (x : Terminal) → Repeat v (entries v (fn.name_more_label x)) (word t.Backslash ~ word t.AnyLabel)
name_more_label_repeat v t.Label = there v (word t.Backslash ~ word t.AnyLabel)
name_more_label_repeat v t.Match = there v (word t.Backslash ~ word t.AnyLabel)
name_more_label_repeat v t.Readonly = there v (word t.Backslash ~ word t.AnyLabel)
name_more_label_repeat v t.MixedOrNever = there v (word t.Backslash ~ word t.AnyLabel)
name_more_label_repeat v _ = gone v (word t.Backslash ~ word t.AnyLabel)

pub name_more_repeat : (v : Version) (x following : Terminal) → Repeat v (entries v (fn.name_more x following)) (word t.Backslash ~ word t.AnyLabel)
name_more_repeat v t.Backslash following = name_more_label_repeat v following
name_more_repeat v _ following = gone v (word t.Backslash ~ word t.AnyLabel)

pub more_names_repeat : (v : Version) (x : Terminal) → Repeat v (entries v (fn.more_names x)) (word t.Comma ~ na.name v)
more_names_repeat v t.Comma = there v (word t.Comma ~ na.name v)
more_names_repeat v _ = gone v (word t.Comma ~ na.name v)

-- ---- statements

pub statements_repeat : (v : Version) (x : Terminal) → Repeat v (entries v (fs.statements x)) (st.statement)
statements_repeat v t.CloseBrace = gone v (st.statement)
statements_repeat v t.End = gone v (st.statement)
statements_repeat v t.Case = gone v (st.statement)
statements_repeat v t.Default = gone v (st.statement)
statements_repeat v t.Else = gone v (st.statement)
statements_repeat v t.ElseIf = gone v (st.statement)
statements_repeat v t.EndDeclare = gone v (st.statement)
statements_repeat v t.EndFor = gone v (st.statement)
statements_repeat v t.EndForeach = gone v (st.statement)
statements_repeat v t.EndIf = gone v (st.statement)
statements_repeat v t.EndSwitch = gone v (st.statement)
statements_repeat v t.EndWhile = gone v (st.statement)
statements_repeat v _ = there v (st.statement)

pub else_ifs_repeat : (v : Version) (x : Terminal) → Repeat v (entries v (fs.else_ifs x)) (else_if_rule)
else_ifs_repeat v t.ElseIf = there v (else_if_rule)
else_ifs_repeat v _ = gone v (else_if_rule)

pub alt_else_ifs_repeat : (v : Version) (x : Terminal) → Repeat v (entries v (fs.alt_else_ifs x)) (word t.ElseIf ~ st.condition ~ word t.Colon ~ st.statements)
alt_else_ifs_repeat v t.ElseIf = there v (word t.ElseIf ~ st.condition ~ word t.Colon ~ st.statements)
alt_else_ifs_repeat v _ = gone v (word t.ElseIf ~ st.condition ~ word t.Colon ~ st.statements)

pub cases_repeat : (v : Version) (x : Terminal) → Repeat v (entries v (fs.cases x)) (kind k.Case)
cases_repeat v t.Case = there v (kind k.Case)
cases_repeat v t.Default = there v (kind k.Case)
cases_repeat v _ = gone v (kind k.Case)

pub more_exprs_repeat : (v : Version) (x : Terminal) → Repeat v (entries v (fs.more_exprs x)) (word t.Comma ~ expr)
more_exprs_repeat v t.Comma = there v (word t.Comma ~ expr)
more_exprs_repeat v _ = gone v (word t.Comma ~ expr)

pub more_globals_repeat : (v : Version) (x : Terminal) → Repeat v (entries v (fs.more_globals x)) (word t.Comma ~ kind k.Variable)
more_globals_repeat v t.Comma = there v (word t.Comma ~ kind k.Variable)
more_globals_repeat v _ = gone v (word t.Comma ~ kind k.Variable)

pub catches_repeat : (v : Version) (x : Terminal) → Repeat v (entries v (fs.catches x)) (st.catch_part v)
catches_repeat v t.Catch = there v (st.catch_part v)
catches_repeat v _ = gone v (st.catch_part v)

pub caught_names_repeat : (v : Version) (x : Terminal) → Repeat v (entries v (fs.caught_names x)) (word t.Bar ~ na.name v)
caught_names_repeat v t.Bar = there v (word t.Bar ~ na.name v)
caught_names_repeat v _ = gone v (word t.Bar ~ na.name v)

pub more_directives_repeat : (v : Version) (x : Terminal) → Repeat v (entries v (fs.more_directives x)) (word t.Comma ~ word t.FreeLabel ~ word t.Assign ~ expr)
more_directives_repeat v t.Comma = there v (word t.Comma ~ word t.FreeLabel ~ word t.Assign ~ expr)
more_directives_repeat v _ = gone v (word t.Comma ~ word t.FreeLabel ~ word t.Assign ~ expr)

more_unset_last_repeat : (v : Version) (following : Terminal) → LastRepeat v following (entries v (fs.more_unset_last following)) (expr)
more_unset_last_repeat v t.CloseParen = comma_alone v t.CloseParen (expr) refl
more_unset_last_repeat v _ = comma_then v _ (expr)

pub more_unset_repeat : (v : Version) (x following : Terminal) → LastRepeat v following (entries v (fs.more_unset x following)) (expr)
more_unset_repeat v t.Comma following = more_unset_last_repeat v following
more_unset_repeat v _ following = no_last_repeat v following (expr)

-- ---- declarations

pub more_variables_repeat : (v : Version) (x : Terminal) → Repeat v (entries v (fd.more_variables x)) (word t.Comma ~ st.declared_variable)
more_variables_repeat v t.Comma = there v (word t.Comma ~ st.declared_variable)
more_variables_repeat v _ = gone v (word t.Comma ~ st.declared_variable)

pub more_params_repeat : (v : Version) (x : Terminal) → Repeat v (entries v (fd.more_params x)) (word t.Comma ~ kind k.Param)
more_params_repeat v t.Comma = there v (word t.Comma ~ kind k.Param)
more_params_repeat v _ = gone v (word t.Comma ~ kind k.Param)

pub class_modifiers_repeat : (v : Version) (x : Terminal) → Repeat v (entries v (fd.class_modifiers x)) (word t.ClassModifier)
class_modifiers_repeat v t.ClassModifier = there v (word t.ClassModifier)
class_modifiers_repeat v _ = gone v (word t.ClassModifier)

pub members_repeat : (v : Version) (x : Terminal) → Repeat v (entries v (fd.members x)) (place Member)
members_repeat v t.CloseBrace = gone v (place Member)
members_repeat v t.End = gone v (place Member)
members_repeat v _ = there v (place Member)

pub modifiers_repeat : (v : Version) (x : Terminal) → Repeat v (entries v (fd.modifiers x)) (word t.Modifier)
modifiers_repeat v t.ClassModifier = there v (word t.Modifier)
modifiers_repeat v t.Visibility = there v (word t.Modifier)
modifiers_repeat v t.Static = there v (word t.Modifier)
modifiers_repeat v _ = gone v (word t.Modifier)

pub more_class_consts_repeat : (v : Version) (x : Terminal) → Repeat v (entries v (fd.more_class_consts x)) (word t.Comma ~ de.constant_of t.ConstantWord)
more_class_consts_repeat v t.Comma = there v (word t.Comma ~ de.constant_of t.ConstantWord)
more_class_consts_repeat v _ = gone v (word t.Comma ~ de.constant_of t.ConstantWord)

pub more_consts_repeat : (v : Version) (x : Terminal) → Repeat v (entries v (fd.more_consts x)) (word t.Comma ~ de.constant_of t.FreeLabel)
more_consts_repeat v t.Comma = there v (word t.Comma ~ de.constant_of t.FreeLabel)
more_consts_repeat v _ = gone v (word t.Comma ~ de.constant_of t.FreeLabel)

pub more_uses_repeat : (v : Version) (x : Terminal) → Repeat v (entries v (fd.more_uses x)) (word t.Comma ~ ns.imported v)
more_uses_repeat v t.Comma = there v (word t.Comma ~ ns.imported v)
more_uses_repeat v _ = gone v (word t.Comma ~ ns.imported v)

more_grouped_last_repeat : (v : Version) (following : Terminal) → LastRepeat v following (entries v (fd.more_grouped_last following)) (ns.grouped_of_kind v)
more_grouped_last_repeat v t.CloseBrace = comma_alone v t.CloseBrace (ns.grouped_of_kind v) refl
more_grouped_last_repeat v _ = comma_then v _ (ns.grouped_of_kind v)

pub more_grouped_repeat : (v : Version) (x following : Terminal) → LastRepeat v following (entries v (fd.more_grouped x following)) (ns.grouped_of_kind v)
more_grouped_repeat v t.Comma following = more_grouped_last_repeat v following
more_grouped_repeat v _ following = no_last_repeat v following (ns.grouped_of_kind v)

more_class_grouped_last_repeat : (v : Version) (following : Terminal) → LastRepeat v following (entries v (fd.more_class_grouped_last following)) (ns.grouped_as_class v)
more_class_grouped_last_repeat v t.CloseBrace = comma_alone v t.CloseBrace (ns.grouped_as_class v) refl
more_class_grouped_last_repeat v _ = comma_then v _ (ns.grouped_as_class v)

pub more_class_grouped_repeat : (v : Version) (x following : Terminal) → LastRepeat v following (entries v (fd.more_class_grouped x following)) (ns.grouped_as_class v)
more_class_grouped_repeat v t.Comma following = more_class_grouped_last_repeat v following
more_class_grouped_repeat v _ following = no_last_repeat v following (ns.grouped_as_class v)

-- ---- expressions

more_args_last_repeat : (v : Version) (following : Terminal) → LastRepeat v following (entries v (fl.more_args_last following)) (maybe (word t.Ellipsis) ~ expr)
more_args_last_repeat v t.CloseParen = comma_alone v t.CloseParen (maybe (word t.Ellipsis) ~ expr) refl
more_args_last_repeat v _ = comma_then v _ (maybe (word t.Ellipsis) ~ expr)

pub more_args_repeat : (v : Version) (x following : Terminal) → LastRepeat v following (entries v (fl.more_args x following)) (maybe (word t.Ellipsis) ~ expr)
more_args_repeat v t.Comma following = more_args_last_repeat v following
more_args_repeat v _ following = no_last_repeat v following (maybe (word t.Ellipsis) ~ expr)

more_items_last_repeat : (v : Version) (following : Terminal) → LastRepeat v following (entries v (fl.more_items_last following)) (kind k.Item)
more_items_last_repeat v t.CloseParen = comma_alone v t.CloseParen (kind k.Item) refl
more_items_last_repeat v t.CloseBracket = comma_alone v t.CloseBracket (kind k.Item) refl
more_items_last_repeat v _ = comma_then v _ (kind k.Item)

pub more_items_repeat : (v : Version) (x following : Terminal) → LastRepeat v following (entries v (fl.more_items x following)) (kind k.Item)
more_items_repeat v t.Comma following = more_items_last_repeat v following
more_items_repeat v _ following = no_last_repeat v following (kind k.Item)

pub list_more_repeat : (v : Version) (x : Terminal) → Repeat v (entries v (fl.list_more x)) (word t.Comma ~ maybe at.list_item)
list_more_repeat v t.Comma = there v (word t.Comma ~ maybe at.list_item)
list_more_repeat v _ = gone v (word t.Comma ~ maybe at.list_item)

pub more_used_repeat : (v : Version) (x : Terminal) → Repeat v (entries v (fa.more_used x)) (word t.Comma ~ at.by_ref ~ word t.Variable)
more_used_repeat v t.Comma = there v (word t.Comma ~ at.by_ref ~ word t.Variable)
more_used_repeat v _ = gone v (word t.Comma ~ at.by_ref ~ word t.Variable)

-- ---- quoted texts

quoted_parts_name_repeat : (v : Version) (x : Terminal) → Repeat v (entries v (fq.quoted_parts_name x)) qu.quoted_part
quoted_parts_name_repeat v t.VarName =
    surely v (flat (word t.DollarBrace ~ word t.VarName ~ maybe (brackets expr) ~ word t.CloseBrace) [])
    qu.quoted_part (other v (flat (word t.DollarBrace ~ word t.VarName ~ maybe (brackets expr) ~ word t.CloseBrace)
    []) (word t.Piece) (qu.interpolated ||| word t.CurlyOpen ~ place Embedded ~ word t.CloseBrace ||| word t.DollarBrace ~ word
    t.VarName ~ maybe (brackets expr) ~ word t.CloseBrace ||| word t.DollarBrace ~ expr ~ word t.CloseBrace)
    (other v (flat (word t.DollarBrace ~ word t.VarName ~ maybe (brackets expr) ~ word t.CloseBrace) [])
    (qu.interpolated) (word t.CurlyOpen ~ place Embedded ~ word t.CloseBrace ||| word t.DollarBrace ~ word t.VarName ~ maybe
    (brackets expr) ~ word t.CloseBrace ||| word t.DollarBrace ~ expr ~ word t.CloseBrace)
    (other v (flat (word t.DollarBrace ~ word t.VarName ~ maybe (brackets expr) ~ word t.CloseBrace) [])
    (word t.CurlyOpen ~ place Embedded ~ word t.CloseBrace)
    (word t.DollarBrace ~ word t.VarName ~ maybe (brackets expr) ~ word t.CloseBrace ||| word t.DollarBrace ~ expr ~
    word t.CloseBrace) (one v (word t.DollarBrace ~ word t.VarName ~ maybe (brackets expr) ~ word t.CloseBrace)
    (word t.DollarBrace ~ expr ~ word t.CloseBrace)))))
quoted_parts_name_repeat v _ = surely v (flat (word t.DollarBrace ~ expr ~ word t.CloseBrace) []) qu.quoted_part
    (other v (flat (word t.DollarBrace ~ expr ~ word t.CloseBrace) []) (word t.Piece)
    (qu.interpolated ||| word t.CurlyOpen ~ place Embedded ~ word t.CloseBrace ||| word t.DollarBrace ~ word t.VarName ~ maybe
    (brackets expr) ~ word t.CloseBrace ||| word t.DollarBrace ~ expr ~ word t.CloseBrace)
    (other v (flat (word t.DollarBrace ~ expr ~ word t.CloseBrace) []) (qu.interpolated)
    (word t.CurlyOpen ~ place Embedded ~ word t.CloseBrace ||| word t.DollarBrace ~ word t.VarName ~ maybe (brackets expr) ~
    word t.CloseBrace ||| word t.DollarBrace ~ expr ~ word t.CloseBrace)
    (other v (flat (word t.DollarBrace ~ expr ~ word t.CloseBrace) []) (word t.CurlyOpen ~ place Embedded ~ word t.CloseBrace)
    (word t.DollarBrace ~ word t.VarName ~ maybe (brackets expr) ~ word t.CloseBrace ||| word t.DollarBrace ~ expr ~
    word t.CloseBrace) (second v (word t.DollarBrace ~ word t.VarName ~ maybe (brackets expr) ~ word t.CloseBrace)
    (word t.DollarBrace ~ expr ~ word t.CloseBrace)))))

pub quoted_parts_repeat : (v : Version) (x following : Terminal) → Repeat v (entries v (fq.quoted_parts x following)) qu.quoted_part
quoted_parts_repeat v t.Piece following = surely v (flat (word t.Piece) []) qu.quoted_part
    (one v (word t.Piece) (qu.interpolated ||| word t.CurlyOpen ~ place Embedded ~ word t.CloseBrace ||| word t.DollarBrace ~
    word t.VarName ~ maybe (brackets expr) ~ word t.CloseBrace ||| word t.DollarBrace ~ expr ~ word t.CloseBrace))
quoted_parts_repeat v t.Variable following = surely v (flat (qu.interpolated) []) qu.quoted_part
    (other v (flat (qu.interpolated) []) (word t.Piece)
    (qu.interpolated ||| word t.CurlyOpen ~ place Embedded ~ word t.CloseBrace ||| word t.DollarBrace ~ word t.VarName ~ maybe
    (brackets expr) ~ word t.CloseBrace ||| word t.DollarBrace ~ expr ~ word t.CloseBrace)
    (one v (qu.interpolated) (word t.CurlyOpen ~ place Embedded ~ word t.CloseBrace ||| word t.DollarBrace ~ word t.VarName ~
    maybe (brackets expr) ~ word t.CloseBrace ||| word t.DollarBrace ~ expr ~ word t.CloseBrace)))
quoted_parts_repeat v t.CurlyOpen following = surely v (flat (word t.CurlyOpen ~ place Embedded ~ word t.CloseBrace) [])
    qu.quoted_part (other v (flat (word t.CurlyOpen ~ place Embedded ~ word t.CloseBrace) []) (word t.Piece)
    (qu.interpolated ||| word t.CurlyOpen ~ place Embedded ~ word t.CloseBrace ||| word t.DollarBrace ~ word t.VarName ~ maybe
    (brackets expr) ~ word t.CloseBrace ||| word t.DollarBrace ~ expr ~ word t.CloseBrace)
    (other v (flat (word t.CurlyOpen ~ place Embedded ~ word t.CloseBrace) []) (qu.interpolated)
    (word t.CurlyOpen ~ place Embedded ~ word t.CloseBrace ||| word t.DollarBrace ~ word t.VarName ~ maybe (brackets expr) ~
    word t.CloseBrace ||| word t.DollarBrace ~ expr ~ word t.CloseBrace)
    (one v (word t.CurlyOpen ~ place Embedded ~ word t.CloseBrace)
    (word t.DollarBrace ~ word t.VarName ~ maybe (brackets expr) ~ word t.CloseBrace ||| word t.DollarBrace ~ expr ~
    word t.CloseBrace))))
quoted_parts_repeat v t.DollarBrace following = quoted_parts_name_repeat v following
quoted_parts_repeat v _ following = gone v qu.quoted_part
