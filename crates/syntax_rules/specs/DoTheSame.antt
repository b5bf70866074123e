-- What single changes of nodes do: the old node in 7.4 and the new one in 8.3 do the same, whatever else runs. (PHP manual,
-- "Type Juggling", the cast `(unset)`; "Strings": "Variable parsing".)
use Rattle.std.specs.Prelude.{◌≡◌, ℕ, false, List, [], ◌∷◌, codes}
use Rattle.php_tree.specs.declared.token.Token.{Token}
use Rattle.php_tree.specs.declared.token.TokenKind.TheVariants as token
use Rattle.php_tree.specs.declared.kind.NodeKind.TheVariants as kind
use Rattle.php_tree.specs.Tree.{Forest, none, leaf, node}
use Rattle.scope_names.specs.Sites.{Site}
use Rattle.php_meaning.specs.names.Tables.{Tables}
use Rattle.php_meaning.specs.runs.World.{Place}
use Rattle.php_meaning.specs.Rules.{cast_word}
use Rattle.php_meaning.specs.laws.Across.{Claim, DoesAcross}
use Rattle.syntax_rules.specs.Keeps.{token_of}

-- `(unset)$x` and `(null)`, whatever `$x` holds
abbrev pub UnsetCastsAreNull : Type 0
UnsetCastsAreNull =
    (claim : Claim) (t t' : Tables) (s : Site) (written variable opening word shut : Token)
    → cast_word written.text ≡ codes "(unset)" → word.text ≡ codes "null"
    → DoesAcross claim t t' s kind.Cast (leaf written (node kind.Variable (leaf variable none) none))
    kind.Paren (leaf opening (node kind.Constant (leaf word none) (leaf shut none)))

-- what ends a variable in braces, and the text
abbrev pub ending : List ℕ → ℕ → List ℕ → List ℕ → ℕ → Forest
ending brace_lead brace_start lead text start =
    leaf (token_of token.Op brace_lead (codes "}") brace_start) (leaf (token_of token.QuotedEnd lead text start) none)

-- `"${x}"` and `"{$x}"`
abbrev pub BracesDoTheSame : Type 0
BracesDoTheSame =
    (claim : Claim) → ((p : Place) → claim.handled p ≡ false) → (t : Tables) (s : Site)
    → (quote opening variable : Token) (dollar_lead dollar_text word brace_lead lead text : List ℕ) (dollar_start word_start brace_start start : ℕ)
    → opening.kind ≡ token.CurlyOpen → variable.text ≡ 36 ∷ word
    → DoesAcross claim t t s
    kind.Quoted (leaf quote (leaf (token_of token.DollarBrace dollar_lead dollar_text dollar_start)
    (leaf (token_of token.VarName [] word word_start) (ending brace_lead brace_start lead text start))))
    kind.Quoted (leaf quote (leaf opening (node kind.Variable (leaf variable none) (ending brace_lead brace_start lead text start))))
