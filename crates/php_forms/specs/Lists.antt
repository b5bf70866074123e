-- Arguments, arrays and lists.
use Rattle.std.specs.Prelude.{List, [], ◌∷◌}
use Rattle.php_tree.specs.declared.kind.NodeKind.TheVariants as k
use Rattle.php_terminals.specs.declared.terminal.Terminal.{Terminal}
use Rattle.php_terminals.specs.declared.terminal.Terminal.TheVariants as t
use Rattle.php_forms.specs.declared.item.Sort.TheVariants as s
use Rattle.php_forms.specs.declared.item.Group.TheVariants as g
use Rattle.php_forms.specs.declared.item.Item.{Item}
use Rattle.php_forms.specs.declared.item.Item.TheVariants.{Word, Node, Part, Repeats}
use Rattle.php_forms.specs.Forms.{any}
use Rattle.php_forms.specs.Grammar.{Form}

-- the arguments of a call
abbrev pub arg_list : Terminal → List Item
arg_list t.CloseParen = []
arg_list _ = Part g.Variadic ∷ any ∷ Repeats g.MoreArgs ∷ []

-- behind a comma of arguments
abbrev pub more_args_last : Terminal → List Item
more_args_last t.CloseParen = Word t.Comma ∷ []
more_args_last _ = Word t.Comma ∷ Part g.Variadic ∷ any ∷ []

-- the other arguments, which may end with a comma
abbrev pub more_args : Terminal → Terminal → List Item
more_args t.Comma following = more_args_last following
more_args _ following = []

-- the items of an array
abbrev pub array_items : Terminal → List Item
array_items t.CloseParen = []
array_items t.CloseBracket = []
array_items _ = Node s.Item ∷ Repeats g.MoreItems ∷ []

-- behind a comma of an array
abbrev pub more_items_last : Terminal → List Item
more_items_last t.CloseParen = Word t.Comma ∷ []
more_items_last t.CloseBracket = Word t.Comma ∷ []
more_items_last _ = Word t.Comma ∷ Node s.Item ∷ []

-- the other items of an array, which may end with a comma
abbrev pub more_items : Terminal → Terminal → List Item
more_items t.Comma following = more_items_last following
more_items _ following = []

-- the value behind the key of an item
abbrev pub item_value : Terminal → List Item
item_value t.DoubleArrow = Word t.DoubleArrow ∷ Part g.ByRef ∷ any ∷ []
item_value _ = []

-- an item of a list form, which may be missing
abbrev pub list_head : Terminal → List Item
list_head t.Comma = []
list_head t.CloseParen = []
list_head t.CloseBracket = []
list_head _ = Node s.ListItem ∷ []

-- the other items of a list form
abbrev pub list_more : Terminal → List Item
list_more t.Comma = Word t.Comma ∷ Part g.ListHead ∷ []
list_more _ = []

-- the target behind the key of an item of a list form
abbrev pub entry_value : Terminal → List Item
entry_value t.DoubleArrow = Word t.DoubleArrow ∷ Part g.ByRef ∷ Node s.Target ∷ []
entry_value _ = []

-- the form of an item of an array
abbrev pub item_form : Terminal → Form
item_form t.Ampersand = (k.Item, Word t.Ampersand ∷ any ∷ [])
item_form t.Ellipsis = (k.Item, Word t.Ellipsis ∷ any ∷ [])
item_form _ = (k.Item, any ∷ Part g.ItemValue ∷ [])

-- the form of an item of a list form
abbrev pub list_item_form : Terminal → Form
list_item_form t.Ampersand = (k.Item, Word t.Ampersand ∷ Node s.Target ∷ [])
list_item_form _ = (k.Item, Node s.Entry ∷ Part g.EntryValue ∷ [])
