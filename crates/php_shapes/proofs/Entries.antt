-- What items of the tables stand for: rules, and rules that depend on the tokens that follow.
use Rattle.std.proofs.Common.{◌≡◌, Bool, true, false, List, [], ◌∷◌, ◌++◌, length}
use Rattle.php_tree.specs.declared.kind.NodeKind.TheVariants as k
use Rattle.php_tree.specs.declared.token.Token.{Token}
use Rattle.php_tree.specs.declared.version.Version.{Version}
use Rattle.php_tree.specs.Tree.{Forest, none, leaf, node, ◌+++◌, leaves}
use Rattle.php_terminals.specs.declared.terminal.Terminal.{Terminal}
use Rattle.php_terminals.specs.declared.terminal.Terminal.TheVariants as t
use Rattle.php_terminals.specs.Ahead.{first_of, spanned}
use Rattle.php_terminals.specs.Marks.{is_double_arrow}
use Rattle.php_forms.specs.declared.item.Sort.{Sort}
use Rattle.php_forms.specs.declared.item.Sort.TheVariants as s
use Rattle.php_forms.specs.declared.item.Group.{Group}
use Rattle.php_forms.specs.declared.item.Group.TheVariants as g
use Rattle.php_forms.specs.declared.item.Item.{Item}
use Rattle.php_forms.specs.declared.item.Item.TheVariants.{Word, Node, Part, Repeats, Span}
use Rattle.php_forms.specs.Grammar.{IsFlat}
use Rattle.php_shapes.specs.Atoms as at
use Rattle.php_shapes.specs.Declarations as de
use Rattle.php_shapes.specs.Names as na
use Rattle.php_shapes.specs.Namespaces as ns
use Rattle.php_shapes.specs.Postfixes as po
use Rattle.php_shapes.specs.Quoted as qu
use Rattle.php_shapes.specs.Statements as st
use Rattle.php_shapes.specs.Nearest.{has_else, is_else, is_to}
use Rattle.php_shapes.specs.Notation.{Rule, nothing, word, kind, place, inside, ◌~◌, ◌|||◌, many, tokens, maybe, expr, commas, commas_last, parens, brackets, braces}
use Rattle.php_shapes.specs.Places.{Member, Operand, Target, TargetOrList, ClassName, Embedded}
use Rattle.php_shapes.specs.Shapes.{Fits}

-- What an item stands for: a rule, or a rule that depends on the tokens that follow.
pub data Entry : Type 0 where
  plain : Rule → Entry
  used_class : Entry
  used_grouped : Entry
  class_alias : Entry
  class_use_rest : Entry
  more_class_uses : Entry
  use_body : Entry
  else_ifs : Entry
  else_part : Entry
  yield_to : Entry
  yield_value : Entry
  entry : Entry
  entry_value : Entry
  span : Entry
  anything : Entry

-- ---- rules that depend on a token

abbrev pub used_rule : Version → Terminal → Rule
used_rule v t.As = na.imported_name v
used_rule v t.Backslash = na.imported_name v
used_rule v _ = na.imported_class v

abbrev pub used_grouped_rule : Version → Terminal → Rule
used_grouped_rule v t.As = na.grouped_name v
used_grouped_rule v _ = na.grouped_class v

abbrev pub alias_rule : Terminal → Rule
alias_rule t.As = word t.As ~ word t.ClassLabel
alias_rule _ = nothing

abbrev pub more_classes : Version → Rule
more_classes v = many (word t.Comma ~ ns.imported_as_class v)

abbrev pub use_rest_rule : Version → Terminal → Rule
use_rest_rule v t.Backslash = word t.Backslash ~ braces (commas_last (ns.grouped_as_class v))
use_rest_rule v t.As = (word t.As ~ word t.ClassLabel) ~ more_classes v
use_rest_rule v _ = more_classes v

abbrev pub use_body_rule : Version → Rule
use_body_rule v =
    (word t.Function ||| word t.Const) ~ (commas (ns.imported v) ||| ns.in_group v (ns.grouped_of_kind v))
    ||| commas (ns.imported_as_class v)
    ||| ns.in_group v (ns.grouped_as_class v)

abbrev pub is_backslash : Terminal → Bool
is_backslash t.Backslash = true
is_backslash _ = false

abbrev pub is_else_if : Terminal → Bool
is_else_if t.ElseIf = true
is_else_if _ = false

abbrev pub else_if_rule : Rule
else_if_rule = word t.ElseIf ~ st.condition ~ st.statement

abbrev pub else_rule : Rule
else_rule = word t.Else ~ st.statement

abbrev pub to_rule : Rule
to_rule = word t.DoubleArrow ~ place (Operand 20)

abbrev pub entry_to : Terminal → Rule
entry_to t.DoubleArrow = word t.DoubleArrow ~ at.by_ref ~ place TargetOrList
entry_to _ = nothing

abbrev pub entry_rule : Bool → Rule
entry_rule true = expr
entry_rule false = place TargetOrList

abbrev pub is_none : Forest → Bool
is_none none = true
is_none (leaf x f) = false
is_none (node j b f) = false

abbrev pub is_one_node : Forest → Bool
is_one_node none = false
is_one_node (leaf x f) = false
is_one_node (node j b none) = true
is_one_node (node j b (leaf x f)) = false
is_one_node (node j b (node i a f)) = false

-- Parts are what the entry stands for, where these tokens follow.
abbrev pub Meets : Version → Entry → Forest → List Token → Type 0
Meets v (plain r) f ts = Fits v r f
Meets v used_class f ts = Fits v (used_rule v (first_of ts)) f
Meets v used_grouped f ts = Fits v (used_grouped_rule v (first_of ts)) f
Meets v class_alias f ts = Fits v (alias_rule (first_of (leaves f ++ ts))) f
Meets v class_use_rest f ts = is_backslash (first_of ts) ≡ false → Fits v (use_rest_rule v (first_of (leaves f ++ ts))) f
Meets v more_class_uses f ts = is_backslash (first_of ts) ≡ false → Fits v (more_classes v) f
Meets v use_body f ts = is_backslash (first_of ts) ≡ false → Fits v (use_body_rule v) f
Meets v else_ifs f ts = Fits v (many else_if_rule) f × (is_else_if (first_of ts) ≡ false)
Meets v else_part f ts = Fits v (maybe else_rule) f × (has_else f ≡ false → is_else (first_of (leaves f ++ ts)) ≡ false) × (has_else f ≡ false → is_none f ≡ true)
Meets v yield_to f ts = Fits v (maybe to_rule) f × (is_none f ≡ true → is_to (first_of ts) ≡ false)
Meets v yield_value f ts = Fits v (maybe (place (Operand 20) ~ maybe to_rule)) f × (is_one_node f ≡ true → is_to (first_of ts) ≡ false)
Meets v entry f ts = Fits v (entry_rule (is_double_arrow (first_of ts))) f
Meets v entry_value f ts = Fits v (entry_to (first_of (leaves f ++ ts))) f
Meets v span f ts = IsFlat f × (spanned 0 (leaves f ++ ts) ≡ length (leaves f))
Meets v anything f ts = Unit {0}

-- Parts are those of the entries, one after another, where these tokens follow.
abbrev pub Meet : Version → List Entry → Forest → List Token → Type 0
Meet v [] f rest = f ≡ none
Meet v (e ∷ es) f rest = (h : Forest) × (i : Forest) × Meets v e h (leaves i ++ rest) × Meet v es i rest × (f ≡ h +++ i)

-- the rules of a sequence, one after another, and then other entries
abbrev pub flat : Rule → List Entry → List Entry
flat nothing es = plain nothing ∷ es
flat (word c) es = plain (word c) ∷ es
flat (kind k) es = plain (kind k) ∷ es
flat (place p) es = plain (place p) ∷ es
flat (inside k r) es = plain (inside k r) ∷ es
flat (r ~ s) es = flat r (flat s es)
flat (r ||| s) es = plain (r ||| s) ∷ es
flat (many r) es = plain (many r) ∷ es
flat tokens es = plain tokens ∷ es

abbrev pub flat_entry : Entry → List Entry → List Entry
flat_entry (plain r) es = flat r es
flat_entry used_class es = used_class ∷ es
flat_entry used_grouped es = used_grouped ∷ es
flat_entry class_alias es = class_alias ∷ es
flat_entry class_use_rest es = class_use_rest ∷ es
flat_entry more_class_uses es = more_class_uses ∷ es
flat_entry use_body es = use_body ∷ es
flat_entry else_ifs es = else_ifs ∷ es
flat_entry else_part es = else_part ∷ es
flat_entry yield_to es = yield_to ∷ es
flat_entry yield_value es = yield_value ∷ es
flat_entry entry es = entry ∷ es
flat_entry entry_value es = entry_value ∷ es
flat_entry span es = span ∷ es
flat_entry anything es = anything ∷ es

-- ---- what items stand for

-- a group that stands once
abbrev pub once : Version → Group → Entry
once v g.Name = plain (na.name v)
once v g.CalledName = plain (na.called_name v)
once v g.NamespaceName = plain (na.namespace_name v)
once v g.NameLead = plain na.lead_of_name
once v g.ImportedName = plain (na.imported_name v)
once v g.ImportedClass = plain (na.imported_class v)
once v g.GroupedName = plain (na.grouped_name v)
once v g.GroupedClass = plain (na.grouped_class v)
once v g.RootLead = plain (maybe (word t.Backslash))
once v g.ElsePart = else_part
once v g.AltElse = plain (maybe (word t.Else ~ word t.Colon ~ st.statements))
once v g.WhileBody = plain (st.body t.EndWhile)
once v g.ForBody = plain (st.body t.EndFor)
once v g.ForeachBody = plain (st.body t.EndForeach)
once v g.DeclareBody = plain (st.body t.EndDeclare)
once v g.SwitchBody = plain (braces st.cases ||| word t.Colon ~ st.cases ~ word t.EndSwitch ~ word t.Semi)
once v g.FirstSemi = plain (maybe (word t.Semi))
once v g.CaseMark = plain (word t.Colon ||| word t.Semi)
once v g.ReturnValue = plain (maybe expr)
once v g.Exprs = plain (maybe (commas expr))
once v g.ForeachTarget = plain st.foreach_target
once v g.ForeachValue = plain (maybe (word t.DoubleArrow ~ at.by_ref ~ place TargetOrList))
once v g.LoopCount = plain (maybe (word t.Int))
once v g.Handlers = plain (st.finally_part ||| st.catch_part v ~ many (st.catch_part v) ~ maybe st.finally_part)
once v g.FinallyPart = plain (maybe st.finally_part)
once v g.ByRef = plain at.by_ref
once v g.FirstValue = plain (maybe (word t.Assign ~ expr))
once v g.Params = plain (maybe (commas (kind k.Param)))
once v g.ParamType = plain (maybe (kind k.TypeName))
once v g.Variadic = plain (maybe (word t.Ellipsis))
once v g.ReturnType = plain at.return_type
once v g.Nullable = plain (maybe (word t.Question))
once v g.TypeWord = plain (word t.Array ||| word t.Callable ||| na.name v)
once v g.Extends = plain (maybe (word t.Extends ~ na.name v))
once v g.Parents = plain (maybe (word t.Extends ~ na.names v))
once v g.Implements = plain (maybe (word t.Implements ~ na.names v))
once v g.PropertyType = plain (maybe (kind k.TypeName))
once v g.MethodBody = plain (kind k.Block ||| word t.Semi)
once v g.TraitRules = plain (word t.Semi ||| braces tokens)
once v g.NamespaceBody = plain (braces st.statements ||| na.namespace_name v ~ (braces st.statements ||| word t.Semi))
once v g.NamespaceRest = plain (braces st.statements ||| word t.Semi)
once v g.UseBody = use_body
once v g.UseRest = plain (ns.alias ~ many (word t.Comma ~ ns.imported v) ||| word t.Backslash ~ braces (commas_last (ns.grouped_of_kind v)))
once v g.Alias = plain ns.alias
once v g.Grouped = plain (ns.grouped_of_kind v)
once v g.ClassUseRest = class_use_rest
once v g.ClassAlias = class_alias
once v g.ClassGrouped = plain (ns.grouped_as_class v)
once v g.UsedClass = used_class
once v g.UsedGrouped = used_grouped
once v g.ArgList = plain po.arguments
once v g.ArrayItems = plain at.items
once v g.ItemValue = plain (maybe (word t.DoubleArrow ~ at.by_ref ~ expr))
once v g.ListHead = plain (maybe at.list_item)
once v g.EntryValue = entry_value
once v g.NamedKey = plain (maybe (brackets expr))
once v g.SimpleKey = plain qu.simple_key
once v g.ExitValue = plain (maybe (parens (maybe expr)))
once v g.ExitCode = plain (maybe expr)
once v g.YieldTo = yield_to
once v g.ClosureUse = plain at.closure_use
once v g.CtorArgs = plain at.new_arguments
once v g.OffsetKey = plain (maybe expr)
once v g.Member = plain po.member
once v g.StaticMember = plain po.static_member
once v g.YieldValue = yield_value
once v g.Created = plain ((na.name v ||| word t.Static ||| place ClassName) ~ at.new_arguments ||| word t.Class ~ at.new_arguments ~ at.inheritance v ~ at.members)
once v g.InstanceRef = plain (na.name v ||| word t.Static ||| place ClassName)
once v g.Attribute = plain (de.attribute v)
once v _ = anything

-- a rule behind commas any number of times, with a comma behind the last or without one
abbrev pub more_last : Rule → Rule
more_last r = many (word t.Comma ~ r) ~ maybe (word t.Comma)

-- a group that stands any number of times
abbrev pub repeats : Version → Group → Entry
repeats v g.NameMore = plain na.more_of_name
repeats v g.MoreNames = plain (many (word t.Comma ~ na.name v))
repeats v g.Statements = plain st.statements
repeats v g.ElseIfs = else_ifs
repeats v g.AltElseIfs = plain (many (word t.ElseIf ~ st.condition ~ word t.Colon ~ st.statements))
repeats v g.Cases = plain (many (kind k.Case))
repeats v g.MoreExprs = plain (many (word t.Comma ~ expr))
repeats v g.MoreGlobals = plain (many (word t.Comma ~ kind k.Variable))
repeats v g.Catches = plain (many (st.catch_part v))
repeats v g.CaughtNames = plain (many (word t.Bar ~ na.name v))
repeats v g.MoreDirectives = plain (many (word t.Comma ~ word t.FreeLabel ~ word t.Assign ~ expr))
repeats v g.MoreUnset = plain (more_last expr)
repeats v g.MoreVariables = plain (many (word t.Comma ~ st.declared_variable))
repeats v g.MoreParams = plain (many (word t.Comma ~ kind k.Param))
repeats v g.ClassModifiers = plain (many (word t.ClassModifier))
repeats v g.Members = plain (many (place Member))
repeats v g.Modifiers = plain (many (word t.Modifier))
repeats v g.MoreClassConsts = plain (many (word t.Comma ~ de.constant_of t.ConstantWord))
repeats v g.MoreConsts = plain (many (word t.Comma ~ de.constant_of t.FreeLabel))
repeats v g.MoreUses = plain (many (word t.Comma ~ ns.imported v))
repeats v g.MoreGrouped = plain (more_last (ns.grouped_of_kind v))
repeats v g.MoreClassUses = more_class_uses
repeats v g.MoreClassGrouped = plain (more_last (ns.grouped_as_class v))
repeats v g.MoreArgs = plain (more_last (maybe (word t.Ellipsis) ~ expr))
repeats v g.MoreItems = plain (more_last (kind k.Item))
repeats v g.ListMore = plain (many (word t.Comma ~ maybe at.list_item))
repeats v g.QuotedParts = plain (many qu.quoted_part)
repeats v g.MoreUsed = plain (many (word t.Comma ~ at.by_ref ~ word t.Variable))
repeats v _ = anything

-- a node of a sort
abbrev pub sorted : Sort → Entry
sorted s.Statement = plain st.statement
sorted s.Block = plain (kind k.Block)
sorted s.Case = plain (kind k.Case)
sorted s.Member = plain (place Member)
sorted s.Param = plain (kind k.Param)
sorted s.TypeName = plain (kind k.TypeName)
sorted s.Args = plain (kind k.Args)
sorted s.Item = plain (kind k.Item)
sorted s.ListItem = plain at.list_item
sorted (s.Operand limit) = plain (place (Operand limit))
sorted s.Entry = entry
sorted s.Target = plain (place TargetOrList)
sorted s.Place = plain (place Target)
sorted s.SimpleVariable = plain (kind k.Variable)
sorted s.PlainVariable = plain qu.plain_variable
sorted s.ClassRef = plain (place ClassName)
sorted s.Interpolated = plain qu.interpolated
sorted s.Embedded = plain (place Embedded)

abbrev pub entry_of : Version → Item → Entry
entry_of v (Word c) = plain (word c)
entry_of v (Node s) = sorted s
entry_of v (Part g) = once v g
entry_of v (Repeats g) = repeats v g
entry_of v Span = span

-- the entries of items
abbrev pub entries : Version → List Item → List Entry
entries v [] = []
entries v (i ∷ is) = flat_entry (entry_of v i) (entries v is)
