-- Words told by their texts.
use Rattle.std.specs.Prelude.{ℕ, ◌+◌, ◌*◌, ◌%◌, Bool, true, false, cond, ◌&&◌, nat_eq, nat_lt, List, [], ◌∷◌, length, get_or, take, map, codes}
use Rattle.std.specs.Char.{to_ascii_lowercase}
use Rattle.std.specs.Borrow.{Bor}
use Rattle.php_terminals.specs.declared.terminal.Terminal.{Terminal}
use Rattle.php_terminals.specs.declared.terminal.Terminal.TheVariants as t

-- whether the text is the word, which is in lower case; without ASCII case
abbrev pub is_word : List ℕ → List ℕ → Bool
is_word [] [] = true
is_word [] (b ∷ bs) = false
is_word (a ∷ w) [] = false
is_word (a ∷ w) (b ∷ bs) = nat_eq a (to_ascii_lowercase b) && is_word w bs

-- the first bytes of a text
abbrev pub front : ℕ → List ℕ → List ℕ
front n text = take n text

-- a table of words, without where it lies in memory
abbrev pub rows_of : List (Bor (List ℕ) × Terminal) → List (List ℕ × Terminal)
rows_of rows = map (λ r. (r.0.now, r.1)) rows

-- the class of the first row whose word the text is, or another one
abbrev pub find_row : Terminal → List (List ℕ × Terminal) → List ℕ → Terminal
find_row other [] text = other
find_row other (r ∷ rs) text = cond (is_word r.0 text) r.1 (find_row other rs text)

-- ---- where a word stands in a table: its slot is a number that its length, its first two bytes and its last one give

-- the second byte in lower case, by the bytes behind the first one
abbrev pub second_of : List ℕ → ℕ
second_of [] = 0
second_of (b ∷ bs) = to_ascii_lowercase b

-- the last byte in lower case, by the first one and those behind it
abbrev pub last_of : ℕ → List ℕ → ℕ
last_of a [] = to_ascii_lowercase a
last_of a (b ∷ bs) = last_of b bs

-- the slot of a text
abbrev pub slot : List ℕ → ℕ
slot [] = 0
slot (a ∷ bs) = (25 * (length (a ∷ bs) % 256) + (3 * to_ascii_lowercase a + 8 * second_of bs) + 15 * last_of a bs) % 512

-- the row at a place of a table
abbrev pub row_at : List (List ℕ × Terminal) → ℕ → List ℕ × Terminal
row_at rows place = get_or rows place ([], t.End)

-- the class of the row at a place, if its word is the text, or another one
abbrev pub row_class : Terminal → List (List ℕ × Terminal) → ℕ → List ℕ → Terminal
row_class other rows place text = cond (is_word (row_at rows place).0 text) (row_at rows place).1 other

-- the keywords of PHP 7.4 that forms have (PHP manual, "List of Keywords")
unfoldable pub keywords : List (List ℕ × Terminal)
keywords =
    (codes "array", t.Array)
    ∷ (codes "as", t.As)
    ∷ (codes "break", t.Break)
    ∷ (codes "callable", t.Callable)
    ∷ (codes "case", t.Case)
    ∷ (codes "catch", t.Catch)
    ∷ (codes "class", t.Class)
    ∷ (codes "clone", t.Clone)
    ∷ (codes "const", t.Const)
    ∷ (codes "continue", t.Continue)
    ∷ (codes "declare", t.Declare)
    ∷ (codes "default", t.Default)
    ∷ (codes "do", t.Do)
    ∷ (codes "echo", t.Echo)
    ∷ (codes "else", t.Else)
    ∷ (codes "elseif", t.ElseIf)
    ∷ (codes "empty", t.Empty)
    ∷ (codes "enddeclare", t.EndDeclare)
    ∷ (codes "endfor", t.EndFor)
    ∷ (codes "endforeach", t.EndForeach)
    ∷ (codes "endif", t.EndIf)
    ∷ (codes "endswitch", t.EndSwitch)
    ∷ (codes "endwhile", t.EndWhile)
    ∷ (codes "eval", t.Eval)
    ∷ (codes "exit", t.Exit)
    ∷ (codes "die", t.Exit)
    ∷ (codes "extends", t.Extends)
    ∷ (codes "finally", t.Finally)
    ∷ (codes "fn", t.Fn)
    ∷ (codes "for", t.For)
    ∷ (codes "foreach", t.Foreach)
    ∷ (codes "function", t.Function)
    ∷ (codes "global", t.Global)
    ∷ (codes "goto", t.Goto)
    ∷ (codes "if", t.If)
    ∷ (codes "implements", t.Implements)
    ∷ (codes "include", t.Include)
    ∷ (codes "include_once", t.Include)
    ∷ (codes "require", t.Include)
    ∷ (codes "require_once", t.Include)
    ∷ (codes "instanceof", t.InstanceOf)
    ∷ (codes "interface", t.Interface)
    ∷ (codes "isset", t.Isset)
    ∷ (codes "list", t.List)
    ∷ (codes "namespace", t.Namespace)
    ∷ (codes "new", t.New)
    ∷ (codes "and", t.And)
    ∷ (codes "or", t.Or)
    ∷ (codes "xor", t.Xor)
    ∷ (codes "print", t.Print)
    ∷ (codes "abstract", t.ClassModifier)
    ∷ (codes "final", t.ClassModifier)
    ∷ (codes "public", t.Visibility)
    ∷ (codes "protected", t.Visibility)
    ∷ (codes "private", t.Visibility)
    ∷ (codes "var", t.Visibility)
    ∷ (codes "return", t.Return)
    ∷ (codes "static", t.Static)
    ∷ (codes "switch", t.Switch)
    ∷ (codes "throw", t.Throw)
    ∷ (codes "trait", t.Trait)
    ∷ (codes "try", t.Try)
    ∷ (codes "unset", t.Unset)
    ∷ (codes "use", t.Use)
    ∷ (codes "while", t.While)
    ∷ (codes "yield", t.Yield)
    ∷ []

-- the operators and brackets that forms have (PHP manual, "Operator Precedence")
unfoldable pub operators : List (List ℕ × Terminal)
operators =
    (codes "(", t.OpenParen)
    ∷ (codes ")", t.CloseParen)
    ∷ (codes "[", t.OpenBracket)
    ∷ (codes "]", t.CloseBracket)
    ∷ (codes "{", t.OpenBrace)
    ∷ (codes "}", t.CloseBrace)
    ∷ (codes ",", t.Comma)
    ∷ (codes ":", t.Colon)
    ∷ (codes "::", t.DoubleColon)
    ∷ (codes "->", t.Arrow)
    ∷ (codes "=>", t.DoubleArrow)
    ∷ (codes "\\", t.Backslash)
    ∷ (codes "$", t.Dollar)
    ∷ (codes "...", t.Ellipsis)
    ∷ (codes "?", t.Question)
    ∷ (codes "=", t.Assign)
    ∷ (codes "+=", t.CompoundAssign)
    ∷ (codes "-=", t.CompoundAssign)
    ∷ (codes "*=", t.CompoundAssign)
    ∷ (codes "/=", t.CompoundAssign)
    ∷ (codes ".=", t.CompoundAssign)
    ∷ (codes "%=", t.CompoundAssign)
    ∷ (codes "**=", t.CompoundAssign)
    ∷ (codes "&=", t.CompoundAssign)
    ∷ (codes "|=", t.CompoundAssign)
    ∷ (codes "^=", t.CompoundAssign)
    ∷ (codes "<<=", t.CompoundAssign)
    ∷ (codes ">>=", t.CompoundAssign)
    ∷ (codes "??=", t.CompoundAssign)
    ∷ (codes "**", t.Power)
    ∷ (codes "+", t.Plus)
    ∷ (codes "-", t.Minus)
    ∷ (codes "*", t.Factor)
    ∷ (codes "/", t.Factor)
    ∷ (codes "%", t.Factor)
    ∷ (codes "<<", t.Shift)
    ∷ (codes ">>", t.Shift)
    ∷ (codes ".", t.Dot)
    ∷ (codes "<", t.Order)
    ∷ (codes "<=", t.Order)
    ∷ (codes ">", t.Order)
    ∷ (codes ">=", t.Order)
    ∷ (codes "==", t.Equality)
    ∷ (codes "!=", t.Equality)
    ∷ (codes "===", t.Equality)
    ∷ (codes "!==", t.Equality)
    ∷ (codes "<>", t.Equality)
    ∷ (codes "<=>", t.Equality)
    ∷ (codes "&", t.Ampersand)
    ∷ (codes "^", t.Caret)
    ∷ (codes "|", t.Bar)
    ∷ (codes "&&", t.BooleanAnd)
    ∷ (codes "||", t.BooleanOr)
    ∷ (codes "??", t.Coalesce)
    ∷ (codes "++", t.Step)
    ∷ (codes "--", t.Step)
    ∷ (codes "!", t.Not)
    ∷ (codes "~", t.Tight)
    ∷ (codes "@", t.Tight)
    ∷ []

-- the labels that 8.3 refuses in places (PHP manual, "List of Keywords" and "List of other reserved words")
unfoldable pub labels : List (List ℕ × Terminal)
labels =
    (codes "match", t.Match)
    ∷ (codes "readonly", t.Readonly)
    ∷ (codes "mixed", t.MixedOrNever)
    ∷ (codes "never", t.MixedOrNever)
    ∷ []

-- the class of a keyword; the only longer one that begins with `yield` is `yield from`
abbrev pub keyword : List ℕ → Terminal
keyword text = cond (nat_lt 5 (length text) && is_word (codes "yield") (front 5 text)) t.YieldFrom (find_row t.OtherKeyword keywords text)

-- the class of an operator
abbrev pub operator : List ℕ → Terminal
operator text = find_row t.OtherOp operators text

-- the class of a label
abbrev pub label : List ℕ → Terminal
label text = find_row t.Label labels text
