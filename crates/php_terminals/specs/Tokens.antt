-- Tokens of a file, as a list.
use Rattle.std.specs.Prelude.{List, map}
use Rattle.php_tree.specs.declared.token.Token.{Token}
use Rattle.php_terminals.specs.declared.tokens.Tokens.{Tokens}
use Rattle.php_terminals.specs.Marked.{token_at}

-- the tokens at the places
abbrev pub tokens_in : Tokens → List Token
tokens_in ts = map (token_at ts.bytes.now) ts.marks.now
