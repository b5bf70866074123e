-- A notation for grammars in which each form is written out (as in ISO/IEC 14977, extended BNF): what parts may be.
use Rattle.php_tree.specs.declared.kind.NodeKind.{NodeKind}
use Rattle.php_terminals.specs.declared.terminal.Terminal.{Terminal}
use Rattle.php_terminals.specs.declared.terminal.Terminal.TheVariants as t
use Rattle.php_shapes.specs.Places.{Place, Operand}

infixr 20 ◌~◌
infixr 10 ◌|||◌
-- what parts may be
pub data Rule : Type 0 where
  -- no part
  nothing : Rule
  -- a token of a class
  word : Terminal → Rule
  -- a node of a kind
  kind : NodeKind → Rule
  -- a node that may stand at a place
  place : Place → Rule
  -- a node of a kind, with these parts
  inside : NodeKind → Rule → Rule
  -- one rule, and then another
  ◌~◌ : Rule → Rule → Rule
  -- one rule, or another
  ◌|||◌ : Rule → Rule → Rule
  -- a rule any number of times
  many : Rule → Rule
  -- any tokens, each bracket with one that closes it
  tokens : Rule

-- a rule, or nothing
abbrev pub maybe : Rule → Rule
maybe r = nothing ||| r

-- any expression
abbrev pub expr : Rule
expr = place (Operand 24)

-- a rule at least once, with commas between
abbrev pub commas : Rule → Rule
commas r = r ~ many (word t.Comma ~ r)

-- the same, with a comma behind the last or without one
abbrev pub commas_last : Rule → Rule
commas_last r = commas r ~ maybe (word t.Comma)

-- a rule in parentheses
abbrev pub parens : Rule → Rule
parens r = word t.OpenParen ~ r ~ word t.CloseParen

-- a rule in brackets
abbrev pub brackets : Rule → Rule
brackets r = word t.OpenBracket ~ r ~ word t.CloseBracket

-- a rule in braces
abbrev pub braces : Rule → Rule
braces r = word t.OpenBrace ~ r ~ word t.CloseBrace
