-- The end of a file.
use Rattle.std.specs.Prelude.{Bool, true, false}
use Rattle.php_tree.specs.declared.token.TokenKind.{TokenKind}
use Rattle.php_tree.specs.declared.token.TokenKind.TheVariants.{End}

-- whether a token is the end of the file
abbrev pub is_end : TokenKind → Bool
is_end End = true
is_end _ = false
