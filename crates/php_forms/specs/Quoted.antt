-- Quoted texts (PHP manual, "Strings: Variable interpolation").
use Rattle.std.specs.Prelude.{List, [], ◌∷◌}
use Rattle.php_terminals.specs.declared.terminal.Terminal.{Terminal}
use Rattle.php_terminals.specs.declared.terminal.Terminal.TheVariants as t
use Rattle.php_forms.specs.declared.item.Sort.TheVariants as s
use Rattle.php_forms.specs.declared.item.Group.TheVariants as g
use Rattle.php_forms.specs.declared.item.Item.{Item}
use Rattle.php_forms.specs.declared.item.Item.TheVariants.{Word, Node, Part}
use Rattle.php_forms.specs.Forms.{any}

-- behind `${`
abbrev pub quoted_parts_name : Terminal → List Item
quoted_parts_name t.VarName = Word t.DollarBrace ∷ Word t.VarName ∷ Part g.NamedKey ∷ Word t.CloseBrace ∷ []
quoted_parts_name _ = Word t.DollarBrace ∷ any ∷ Word t.CloseBrace ∷ []

-- the parts of a quoted text
abbrev pub quoted_parts : Terminal → Terminal → List Item
quoted_parts t.Piece following = Word t.Piece ∷ []
quoted_parts t.Variable following = Node s.Interpolated ∷ []
quoted_parts t.CurlyOpen following = Word t.CurlyOpen ∷ Node s.Embedded ∷ Word t.CloseBrace ∷ []
quoted_parts t.DollarBrace following = quoted_parts_name following
quoted_parts _ following = []

-- the offset behind a name after `${`
abbrev pub named_key : Terminal → List Item
named_key t.OpenBracket = Word t.OpenBracket ∷ any ∷ Word t.CloseBracket ∷ []
named_key _ = []

-- a simple offset
abbrev pub simple_key : Terminal → List Item
simple_key t.Label = Word t.AnyLabel ∷ []
simple_key t.Match = Word t.AnyLabel ∷ []
simple_key t.Readonly = Word t.AnyLabel ∷ []
simple_key t.MixedOrNever = Word t.AnyLabel ∷ []
simple_key t.Int = Word t.Int ∷ []
simple_key t.Minus = Word t.Minus ∷ Word t.Int ∷ []
simple_key _ = Node s.PlainVariable ∷ []
