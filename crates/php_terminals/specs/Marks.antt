-- Classes of tokens that tables look for.
use Rattle.std.specs.Prelude.{Bool, true, false}
use Rattle.php_terminals.specs.declared.terminal.Terminal.{Terminal}
use Rattle.php_terminals.specs.declared.terminal.Terminal.TheVariants as t

-- an opening bracket
abbrev pub opens : Terminal → Bool
opens t.OpenParen = true
opens t.OpenBracket = true
opens t.OpenBrace = true
opens t.CurlyOpen = true
opens t.DollarBrace = true
opens t.AttributeOpen = true
opens _ = false

-- a closing bracket
abbrev pub closes : Terminal → Bool
closes t.CloseParen = true
closes t.CloseBracket = true
closes t.CloseBrace = true
closes _ = false

-- a part of a name
abbrev pub is_name_part : Terminal → Bool
is_name_part t.Label = true
is_name_part t.Match = true
is_name_part t.Readonly = true
is_name_part t.MixedOrNever = true
is_name_part t.Backslash = true
is_name_part t.Namespace = true
is_name_part t.QualifiedName = true
is_name_part t.FullName = true
is_name_part t.RelativeName = true
is_name_part _ = false

-- `$`
abbrev pub is_dollar : Terminal → Bool
is_dollar t.Dollar = true
is_dollar _ = false

-- an opening parenthesis
abbrev pub is_open_paren : Terminal → Bool
is_open_paren t.OpenParen = true
is_open_paren _ = false

-- `{`
abbrev pub is_open_brace : Terminal → Bool
is_open_brace t.OpenBrace = true
is_open_brace _ = false

-- `:`
abbrev pub is_colon : Terminal → Bool
is_colon t.Colon = true
is_colon _ = false

-- `::`
abbrev pub is_double_colon : Terminal → Bool
is_double_colon t.DoubleColon = true
is_double_colon _ = false

-- `=>`
abbrev pub is_double_arrow : Terminal → Bool
is_double_arrow t.DoubleArrow = true
is_double_arrow _ = false

-- `=`
abbrev pub is_assign : Terminal → Bool
is_assign t.Assign = true
is_assign _ = false

-- `&`
abbrev pub is_ampersand : Terminal → Bool
is_ampersand t.Ampersand = true
is_ampersand _ = false

-- what a variable begins with
abbrev pub is_variable_start : Terminal → Bool
is_variable_start t.Variable = true
is_variable_start t.Dollar = true
is_variable_start _ = false

-- what stands behind an item of a list form, or behind a list form that is assigned to
abbrev pub ends_item : Terminal → Bool
ends_item t.Comma = true
ends_item t.CloseBracket = true
ends_item t.CloseParen = true
ends_item t.Assign = true
ends_item _ = false

-- what goes on behind the value of an array
abbrev pub goes_on : Terminal → Bool
goes_on t.OpenBracket = true
goes_on t.OpenBrace = true
goes_on t.Arrow = true
goes_on t.DoubleColon = true
goes_on t.OpenParen = true
goes_on _ = false

-- what a variable expression begins with
abbrev pub begins_place : Terminal → Bool
begins_place t.Variable = true
begins_place t.Dollar = true
begins_place t.Label = true
begins_place t.Match = true
begins_place t.Readonly = true
begins_place t.MixedOrNever = true
begins_place t.Backslash = true
begins_place t.Namespace = true
begins_place t.QualifiedName = true
begins_place t.FullName = true
begins_place t.RelativeName = true
begins_place t.Static = true
begins_place t.OpenParen = true
begins_place t.OpenBracket = true
begins_place t.Text = true
begins_place t.Array = true
begins_place _ = false
