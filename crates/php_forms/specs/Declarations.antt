-- Functions, classes, constants, namespaces and uses.
use Rattle.std.specs.Prelude.{List, [], ◌∷◌}
use Rattle.php_terminals.specs.declared.terminal.Terminal.{Terminal}
use Rattle.php_terminals.specs.declared.terminal.Terminal.TheVariants as t
use Rattle.php_forms.specs.declared.item.Sort.TheVariants as s
use Rattle.php_forms.specs.declared.item.Group.TheVariants as g
use Rattle.php_forms.specs.declared.item.Item.{Item}
use Rattle.php_forms.specs.declared.item.Item.TheVariants.{Word, Node, Part, Repeats, Span}
use Rattle.php_forms.specs.Forms.{any}

-- the mark of a reference
abbrev pub by_ref : Terminal → List Item
by_ref t.Ampersand = Word t.Ampersand ∷ []
by_ref _ = []

-- a first value
abbrev pub first_value : Terminal → List Item
first_value t.Assign = Word t.Assign ∷ any ∷ []
first_value _ = []

-- the other variables of a list, each with its first value
abbrev pub more_variables : Terminal → List Item
more_variables t.Comma = Word t.Comma ∷ Word t.Variable ∷ Part g.FirstValue ∷ []
more_variables _ = []

-- the parameters
abbrev pub params : Terminal → List Item
params t.CloseParen = []
params _ = Node s.Param ∷ Repeats g.MoreParams ∷ []

-- the other parameters
abbrev pub more_params : Terminal → List Item
more_params t.Comma = Word t.Comma ∷ Node s.Param ∷ []
more_params _ = []

-- the type of a parameter
abbrev pub param_type : Terminal → List Item
param_type t.Variable = []
param_type t.Ampersand = []
param_type t.Ellipsis = []
param_type _ = Node s.TypeName ∷ []

-- the mark of a variadic parameter, and of a spread argument
abbrev pub variadic : Terminal → List Item
variadic t.Ellipsis = Word t.Ellipsis ∷ []
variadic _ = []

-- the type of what is returned
abbrev pub return_type : Terminal → List Item
return_type t.Colon = Word t.Colon ∷ Node s.TypeName ∷ []
return_type _ = []

-- the mark of a type with null
abbrev pub nullable : Terminal → List Item
nullable t.Question = Word t.Question ∷ []
nullable _ = []

-- a type without its mark
abbrev pub type_word : Terminal → List Item
type_word t.Array = Word t.Array ∷ []
type_word t.Callable = Word t.Callable ∷ []
type_word _ = Part g.Name ∷ []

-- the modifiers of a class
abbrev pub class_modifiers : Terminal → List Item
class_modifiers t.ClassModifier = Word t.ClassModifier ∷ []
class_modifiers _ = []

-- the parent of a class
abbrev pub extends : Terminal → List Item
extends t.Extends = Word t.Extends ∷ Part g.Name ∷ []
extends _ = []

-- the parents of an interface
abbrev pub parents : Terminal → List Item
parents t.Extends = Word t.Extends ∷ Part g.Name ∷ Repeats g.MoreNames ∷ []
parents _ = []

-- the interfaces of a class
abbrev pub implements : Terminal → List Item
implements t.Implements = Word t.Implements ∷ Part g.Name ∷ Repeats g.MoreNames ∷ []
implements _ = []

-- the members of a class, an interface or a trait
abbrev pub members : Terminal → List Item
members t.CloseBrace = []
members t.End = []
members _ = Node s.Member ∷ []

-- the modifiers of a member
abbrev pub modifiers : Terminal → List Item
modifiers t.ClassModifier = Word t.Modifier ∷ []
modifiers t.Visibility = Word t.Modifier ∷ []
modifiers t.Static = Word t.Modifier ∷ []
modifiers _ = []

-- the type of a property
abbrev pub property_type : Terminal → List Item
property_type t.Variable = []
property_type _ = Node s.TypeName ∷ []

-- the body of a method, or none
abbrev pub method_body : Terminal → List Item
method_body t.OpenBrace = Node s.Block ∷ []
method_body _ = Word t.Semi ∷ []

-- the other constants of a class constant
abbrev pub more_class_consts : Terminal → List Item
more_class_consts t.Comma = Word t.Comma ∷ Word t.ConstantWord ∷ Word t.Assign ∷ any ∷ []
more_class_consts _ = []

-- what a use of traits ends with
abbrev pub trait_rules : Terminal → List Item
trait_rules t.OpenBrace = Word t.OpenBrace ∷ Span ∷ Word t.CloseBrace ∷ []
trait_rules _ = Word t.Semi ∷ []

-- the other constants of a `const`
abbrev pub more_consts : Terminal → List Item
more_consts t.Comma = Word t.Comma ∷ Word t.FreeLabel ∷ Word t.Assign ∷ any ∷ []
more_consts _ = []

-- what stands behind `namespace`
abbrev pub namespace_body : Terminal → List Item
namespace_body t.OpenBrace = Word t.OpenBrace ∷ Repeats g.Statements ∷ Word t.CloseBrace ∷ []
namespace_body _ = Part g.NamespaceName ∷ Part g.NamespaceRest ∷ []

-- what stands behind the name of a namespace
abbrev pub namespace_rest : Terminal → List Item
namespace_rest t.OpenBrace = Word t.OpenBrace ∷ Repeats g.Statements ∷ Word t.CloseBrace ∷ []
namespace_rest _ = Word t.Semi ∷ []

-- what a use imports: functions, constants, or classes and namespaces
abbrev pub use_body : Terminal → List Item
use_body t.Function = Word t.Function ∷ Part g.ImportedName ∷ Part g.UseRest ∷ []
use_body t.Const = Word t.Const ∷ Part g.ImportedName ∷ Part g.UseRest ∷ []
use_body _ = Part g.UsedClass ∷ Part g.ClassUseRest ∷ []

-- behind the first name of a use of functions or constants
abbrev pub use_rest : Terminal → List Item
use_rest t.Backslash = Word t.Backslash ∷ Word t.OpenBrace ∷ Part g.Grouped ∷ Repeats g.MoreGrouped ∷ Word t.CloseBrace ∷ []
use_rest _ = Part g.Alias ∷ Repeats g.MoreUses ∷ []

-- the other names of a use of functions or constants
abbrev pub more_uses : Terminal → List Item
more_uses t.Comma = Word t.Comma ∷ Part g.ImportedName ∷ Part g.Alias ∷ []
more_uses _ = []

-- the alias of a function or a constant
abbrev pub alias : Terminal → List Item
alias t.As = Word t.As ∷ Word t.FreeLabel ∷ []
alias _ = []

-- a name in the braces of a use of functions or constants
abbrev pub grouped : Terminal → List Item
grouped t.Function = Word t.Function ∷ Part g.GroupedName ∷ Part g.Alias ∷ []
grouped t.Const = Word t.Const ∷ Part g.GroupedName ∷ Part g.Alias ∷ []
grouped _ = Part g.GroupedName ∷ Part g.Alias ∷ []

-- behind a comma in such braces
abbrev pub more_grouped_last : Terminal → List Item
more_grouped_last t.CloseBrace = Word t.Comma ∷ []
more_grouped_last _ = Word t.Comma ∷ Part g.Grouped ∷ []

-- the other names in the braces of a use of functions or constants, which may end with a comma
abbrev pub more_grouped : Terminal → Terminal → List Item
more_grouped t.Comma following = more_grouped_last following
more_grouped _ following = []

-- behind the first name of a use of classes
abbrev pub class_use_rest : Terminal → List Item
class_use_rest t.Backslash = Word t.Backslash ∷ Word t.OpenBrace ∷ Part g.ClassGrouped ∷ Repeats g.MoreClassGrouped ∷ Word t.CloseBrace ∷ []
class_use_rest _ = Part g.ClassAlias ∷ Repeats g.MoreClassUses ∷ []

-- the other names of a use of classes
abbrev pub more_class_uses : Terminal → List Item
more_class_uses t.Comma = Word t.Comma ∷ Part g.UsedClass ∷ Part g.ClassAlias ∷ []
more_class_uses _ = []

-- the alias of a class
abbrev pub class_alias : Terminal → List Item
class_alias t.As = Word t.As ∷ Word t.ClassLabel ∷ []
class_alias _ = []

-- a name in the braces of a use of classes
abbrev pub class_grouped : Terminal → List Item
class_grouped t.Function = Word t.Function ∷ Part g.GroupedName ∷ Part g.Alias ∷ []
class_grouped t.Const = Word t.Const ∷ Part g.GroupedName ∷ Part g.Alias ∷ []
class_grouped _ = Part g.UsedGrouped ∷ Part g.ClassAlias ∷ []

-- behind a comma in such braces
abbrev pub more_class_grouped_last : Terminal → List Item
more_class_grouped_last t.CloseBrace = Word t.Comma ∷ []
more_class_grouped_last _ = Word t.Comma ∷ Part g.ClassGrouped ∷ []

-- the other names in the braces of a use of classes, which may end with a comma
abbrev pub more_class_grouped : Terminal → Terminal → List Item
more_class_grouped t.Comma following = more_class_grouped_last following
more_class_grouped _ following = []

-- a name in a use of classes: a name with an alias, or before braces, is no class of that name
abbrev pub used_class : Terminal → List Item
used_class t.As = Part g.ImportedName ∷ []
used_class t.Backslash = Part g.ImportedName ∷ []
used_class _ = Part g.ImportedClass ∷ []

-- a name in the braces of a use of classes: a name with an alias is no class of that name
abbrev pub used_grouped : Terminal → List Item
used_grouped t.As = Part g.GroupedName ∷ []
used_grouped _ = Part g.GroupedClass ∷ []
