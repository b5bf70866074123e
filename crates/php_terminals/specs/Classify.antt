-- The class of a token.
use Rattle.std.specs.Prelude.{ℕ, ◌-◌, Bool, true, false, cond, ◌||◌, nat_eq, nat_lt, List, length, drop, take_while, slice_index, codes}
use Rattle.std.specs.Char.{to_ascii_lowercase}
use Rattle.php_tree.specs.declared.token.Token.{Token}
use Rattle.php_tree.specs.declared.token.TokenKind.{TokenKind}
use Rattle.php_tree.specs.declared.token.TokenKind.TheVariants as kind
use Rattle.php_terminals.specs.declared.terminal.Terminal.{Terminal}
use Rattle.php_terminals.specs.declared.terminal.Terminal.TheVariants as t
use Rattle.php_terminals.specs.Words.{front, is_word, keyword, label, operator}

-- a byte before the type word of a cast
abbrev pub is_opening : ℕ → Bool
is_opening b = nat_eq b 40 || nat_eq b 32 || nat_eq b 9

-- how many bytes stand before the type word of a cast
abbrev pub opening : List ℕ → ℕ
opening text = length (take_while is_opening text)

-- the class of a cast whose type word begins so: `real` and `unset` are the only ones with these letters
abbrev pub cast_letter : ℕ → Terminal
cast_letter b = cond (nat_eq b 114 || nat_eq b 117) t.OldCast t.Cast

-- the class of a cast whose type word begins at a place
abbrev pub cast_at : ℕ → List ℕ → Terminal
cast_at at text = cond (nat_lt at (length text)) (cast_letter (to_ascii_lowercase (slice_index text at))) t.Cast

-- the class of a cast, by the first letter of its type word
abbrev pub cast : List ℕ → Terminal
cast text = cast_at (opening text) text

-- the class of a whole name
abbrev pub name : List ℕ → Terminal
name text = cond (is_word (codes "\\") (front 1 text)) t.FullName (cond (is_word (codes "namespace\\") (front 10 text)) t.RelativeName t.QualifiedName)

-- the class of a token of a kind, with a text; a `?>` is a `;`, and a `<?=` an `echo`
abbrev pub terminal_by : TokenKind → List ℕ → Terminal
terminal_by kind.InlineHtml text = t.InlineHtml
terminal_by kind.OpenEcho text = t.Echo
terminal_by kind.Variable text = t.Variable
terminal_by kind.Label text = label text
terminal_by kind.Keyword text = keyword text
terminal_by kind.Int text = t.Int
terminal_by kind.Float text = t.Float
terminal_by kind.Text text = t.Text
terminal_by kind.Quote text = t.QuoteOpen
terminal_by kind.HeredocStart text = t.QuoteOpen
terminal_by kind.Backtick text = t.QuoteOpen
terminal_by kind.Cast text = cast text
terminal_by kind.Op text = operator text
terminal_by kind.AttributeOpen text = t.AttributeOpen
terminal_by kind.Name text = name text
terminal_by kind.Semi text = t.Semi
terminal_by kind.Close text = t.Semi
terminal_by kind.End text = t.End
terminal_by kind.Piece text = t.Piece
terminal_by kind.CurlyOpen text = t.CurlyOpen
terminal_by kind.DollarBrace text = t.DollarBrace
terminal_by kind.VarName text = t.VarName
terminal_by kind.QuotedEnd text = t.QuotedEnd

-- the class of a token
abbrev pub terminal : Token → Terminal
terminal token = terminal_by token.kind token.text

-- the last bytes of a text, as many as there are
abbrev pub last : ℕ → List ℕ → List ℕ
last n text = drop (length text - n) text

-- whether a text ends in a word
abbrev pub ends_in : List ℕ → List ℕ → Bool
ends_in word text = is_word word (last (length word) text)

-- whether the last part of a whole name is one that 8.3 refuses for a class
abbrev pub names_refused : List ℕ → Bool
names_refused text = ends_in (codes "\\mixed") text || ends_in (codes "\\never") text

abbrev pub is_attribute_by : TokenKind → List ℕ → Bool
is_attribute_by kind.Name text = is_word (codes "\\allowdynamicproperties") text
is_attribute_by _ text = false

-- whether the token is the name of the attribute that a class may have
abbrev pub is_attribute : Token → Bool
is_attribute token = is_attribute_by token.kind token.text

abbrev pub is_word_kind : TokenKind → Bool
is_word_kind kind.Label = true
is_word_kind kind.Keyword = true
is_word_kind _ = false

-- whether the token is a label or a keyword
abbrev pub is_word_token : Token → Bool
is_word_token token = is_word_kind token.kind

-- any label
abbrev pub is_any_label : Terminal → Bool
is_any_label t.Label = true
is_any_label t.Match = true
is_any_label t.Readonly = true
is_any_label t.MixedOrNever = true
is_any_label _ = false

-- a label that 8.3 refuses nowhere
abbrev pub is_plain_label : Terminal → Bool
is_plain_label t.Label = true
is_plain_label _ = false

-- a label that 8.3 refuses at most for classes
abbrev pub is_constant_label : Terminal → Bool
is_constant_label t.Label = true
is_constant_label t.MixedOrNever = true
is_constant_label _ = false

-- a label that 8.3 allows for functions
abbrev pub is_called_label : Terminal → Bool
is_called_label t.Label = true
is_called_label t.MixedOrNever = true
is_called_label t.Readonly = true
is_called_label _ = false

-- a whole name with `\` between its parts
abbrev pub is_qualified : Terminal → Bool
is_qualified t.QualifiedName = true
is_qualified _ = false

-- a whole name that begins with `\`
abbrev pub is_full : Terminal → Bool
is_full t.FullName = true
is_full _ = false

-- a whole name that begins with `namespace\`
abbrev pub is_relative : Terminal → Bool
is_relative t.RelativeName = true
is_relative _ = false

-- `class`
abbrev pub is_class : Terminal → Bool
is_class t.Class = true
is_class _ = false

-- a modifier of a member
abbrev pub is_modifier : Terminal → Bool
is_modifier t.ClassModifier = true
is_modifier t.Visibility = true
is_modifier t.Static = true
is_modifier _ = false

-- a sign, `~` or `@`
abbrev pub is_sign_or_tight : Terminal → Bool
is_sign_or_tight t.Plus = true
is_sign_or_tight t.Minus = true
is_sign_or_tight t.Tight = true
is_sign_or_tight _ = false
