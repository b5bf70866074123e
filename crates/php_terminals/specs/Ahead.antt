-- What the tokens that come are.
use Rattle.std.specs.Prelude.{ℕ, suc, ◌+◌, ◌-◌, Bool, cond, nat_le, nat_eq, List, [], ◌∷◌, length, drop, take_while}
use Rattle.php_tree.specs.declared.token.Token.{Token}
use Rattle.php_terminals.specs.declared.terminal.Terminal.{Terminal}
use Rattle.php_terminals.specs.declared.terminal.Terminal.TheVariants as t
use Rattle.php_terminals.specs.Classify.{terminal}
use Rattle.php_terminals.specs.Marks.{closes, is_dollar, is_name_part, is_open_brace, is_open_paren, opens}

-- the class of the first token, and that of the end where there is none
abbrev pub first_of : List Token → Terminal
first_of [] = t.End
first_of (x ∷ xs) = terminal x

-- the class of the second token
abbrev pub second_of : List Token → Terminal
second_of ts = first_of (drop 1 ts)

-- the class of the third token
abbrev pub third_of : List Token → Terminal
third_of ts = first_of (drop 2 ts)

-- the tokens behind the bracket that closes the outermost one, where so many are open
abbrev pub past_group : ℕ → List Token → List Token
past_group n [] = []
past_group n (x ∷ xs) =
    cond (opens (terminal x)) (past_group (n + 1) xs)
    (cond (closes (terminal x)) (cond (nat_le n 1) xs (past_group (n - 1) xs)) (past_group n xs))

-- how many tokens there are before the bracket that closes none, where so many are open
abbrev pub spanned : ℕ → List Token → ℕ
spanned n [] = 0
spanned n (x ∷ xs) =
    cond (opens (terminal x)) (suc (spanned (n + 1) xs))
    (cond (closes (terminal x)) (cond (nat_eq n 0) 0 (suc (spanned (n - 1) xs))) (suc (spanned n xs)))

-- whether a token is a part of a name
abbrev pub is_in_name : Token → Bool
is_in_name x = is_name_part (terminal x)

-- how many tokens the name that begins here has
abbrev pub name_len : List Token → ℕ
name_len ts = length (take_while is_in_name ts)

-- the tokens behind the name that begins here
abbrev pub behind_name : List Token → List Token
behind_name ts = drop (name_len ts) ts

-- whether a token is a `$`
abbrev pub is_some_dollar : Token → Bool
is_some_dollar x = is_dollar (terminal x)

-- how many `$` there are here
abbrev pub dollars : List Token → ℕ
dollars ts = length (take_while is_some_dollar ts)

-- the class of the token behind a variable without its `$`: behind the brackets, or behind one token
abbrev pub behind_rest : List Token → Terminal
behind_rest ts = cond (is_open_brace (first_of ts)) (first_of (past_group 0 ts)) (second_of ts)

-- the class of the token behind a variable that begins with `$`
abbrev pub behind_variable : List Token → Terminal
behind_variable ts = behind_rest (drop (dollars ts) ts)

-- the class of the token behind the member that begins here
abbrev pub behind_member : List Token → Terminal
behind_member ts = cond (is_dollar (first_of ts)) (behind_variable ts) (behind_rest ts)

-- whether the member that begins here is called
abbrev pub is_called : List Token → Bool
is_called ts = is_open_paren (behind_member ts)
