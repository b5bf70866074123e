-- The label `enum` where 8.1 reads it as a keyword. (RFC "Enumerations".)
use Rattle.std.specs.Prelude.{ℕ, Bool, true, false, not, ◌==◌, ◌&&◌, ◌||◌, List, [], ◌∷◌, ◌++◌, codes}
use Rattle.php_tree.specs.declared.token.Token.{Token}
use Rattle.php_tree.specs.declared.token.TokenKind.{TokenKind}
use Rattle.php_tree.specs.declared.token.TokenKind.TheVariants as token
use Rattle.php_tree.specs.Places.{behind}
use Rattle.php_terminals.specs.declared.terminal.Terminal.{Terminal}
use Rattle.php_terminals.specs.declared.terminal.Terminal.TheVariants as t
use Rattle.php_terminals.specs.Classify.{terminal, is_word_token}
use Rattle.php_terminals.specs.Words.{is_word}
use Rattle.syntax_upgrade.specs.ReservedName.{refused_if}
use Rattle.syntax_upgrade.specs.Found.{Report}

abbrev pub is_label : TokenKind → Bool
is_label token.Label = true
is_label _ = false

-- whether each byte is white space
abbrev pub are_white : List ℕ → Bool
are_white [] = true
are_white (b ∷ bs) = (b == 32 || b == 9 || b == 10 || b == 13) && are_white bs

-- whether there is white space, and nothing else
abbrev pub is_white : List ℕ → Bool
is_white [] = false
is_white (b ∷ bs) = are_white (b ∷ bs)

-- `extends` and `implements`
abbrev pub is_heading : Terminal → Bool
is_heading t.Extends = true
is_heading t.Implements = true
is_heading _ = false

-- whether a word stands first, behind white space and no comment
abbrev pub before_word : List Token → Bool
before_word [] = false
before_word (x ∷ xs) = is_white x.lead && is_word_token x && not (is_heading (terminal x))

-- whether a label behind a token of this class is a member's name, or a part of a name
abbrev pub takes_label : Terminal → Bool
takes_label t.Arrow = true
takes_label t.DoubleColon = true
takes_label t.Backslash = true
takes_label _ = false

-- whether a token is such a label, behind one of a class and before others
abbrev pub is_enum : Terminal → Token → List Token → Bool
is_enum before x xs = is_label x.kind && is_word (codes "enum") x.text && before_word xs && not (takes_label before)

-- the labels `enum` that 8.1 reads as a keyword: white space and a word stand behind them (RFC "Enumerations")
abbrev pub enums : Terminal → ℕ → List Token → List Report
enums before at [] = []
enums before at (x ∷ xs) =
    refused_if (is_enum before x xs) at x ++ enums (terminal x) (behind at x) xs
