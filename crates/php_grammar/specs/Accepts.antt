-- What a form asks of a token (PHP manual, "List of Keywords" and "List of other reserved words"; the RFC on match
-- expressions, and the UPGRADING notes of 8.0, 8.1 and 8.3 on `match`, `readonly`, `mixed` and `never`).
use Rattle.std.specs.Prelude.{Bool, false, not, ◌||◌, ◌&&◌, nat_eq, nat_lt}
use Rattle.php_tree.specs.declared.token.Token.{Token}
use Rattle.php_tree.specs.declared.version.Version.{Version}
use Rattle.php_tree.specs.declared.version.Version.TheVariants.{V74, V83}
use Rattle.php_terminals.specs.declared.terminal.Terminal.{Terminal}
use Rattle.php_terminals.specs.declared.terminal.Terminal.TheVariants as t
use Rattle.php_terminals.specs.Terminals.{code}
use Rattle.php_terminals.specs.Classify.{
  is_any_label,
  is_attribute,
  is_called_label,
  is_class,
  is_constant_label,
  is_full,
  is_modifier,
  is_plain_label,
  is_qualified,
  is_relative,
  is_sign_or_tight,
  is_word_token,
  names_refused,
  terminal,
}
use Rattle.php_grammar.specs.Levels.{binary_level}

-- a label that a constant, an alias, a goto or a directive may have, and a name alone: 8.3 refuses `match` and `readonly`
abbrev pub is_free_label : Version → Terminal → Bool
is_free_label V74 own = is_any_label own
is_free_label V83 own = is_constant_label own

-- a label that a function may have: 8.3 refuses `match`
abbrev pub is_function_label : Version → Terminal → Bool
is_function_label V74 own = is_any_label own
is_function_label V83 own = is_called_label own

-- a label that a class may have: 8.3 refuses `match`, `readonly`, `mixed` and `never`
abbrev pub is_class_label : Version → Terminal → Bool
is_class_label V74 own = is_any_label own
is_class_label V83 own = is_plain_label own

-- whether two classes are the same
abbrev pub same_class : Terminal → Terminal → Bool
same_class one other = nat_eq (code one) (code other)

-- whether a token of a class is of one that stands for several
abbrev pub in_set : Version → Terminal → Terminal → Token → Bool
in_set v t.AnyLabel own token = is_any_label own
in_set v t.FreeLabel own token = is_free_label v own
in_set v t.FunctionLabel own token = is_function_label v own
in_set v t.ClassLabel own token = is_class_label v own
in_set v t.NameToken own token = is_free_label v own || is_qualified own || is_full own || is_relative own
in_set v t.CalledName own token = is_function_label v own || is_qualified own || is_full own || is_relative own
in_set v t.NamespaceToken own token = is_any_label own || is_qualified own
in_set v t.ImportedName own token = is_free_label v own || is_qualified own || is_full own
in_set v t.ImportedClass own token = is_class_label v own || (is_qualified own || is_full own) && not (names_refused token.text)
in_set v t.GroupedName own token = is_free_label v own || is_qualified own
in_set v t.GroupedClass own token = is_class_label v own || is_qualified own && not (names_refused token.text)
in_set v t.AttributeName own token = is_attribute token
in_set v t.AnyWord own token = is_word_token token
in_set v t.ConstantWord own token = is_word_token token && not (is_class own)
in_set v t.Modifier own token = is_modifier own
in_set v t.BinaryOperator own token = nat_lt 0 (binary_level v own)
in_set v t.SignOrTight own token = is_sign_or_tight own
in_set v _ own token = false

-- whether a token is of the class that a form asks for
abbrev pub accepts : Version → Terminal → Token → Bool
accepts v asked token = in_set v asked (terminal token) token || same_class asked (terminal token)
