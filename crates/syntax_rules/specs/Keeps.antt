-- The rules on syntax together keep the meaning.
use Rattle.std.specs.Prelude.{◌≡◌, ℕ, Bool, true, false, IsTrue, List, [], ◌∷◌, All, map, codes, Option}
use Rattle.php_tree.specs.declared.token.TokenKind.{TokenKind}
use Rattle.php_tree.specs.declared.token.TokenKind.TheVariants as token
use Rattle.php_tree.specs.declared.token.Token.{Token}
use Rattle.php_tree.specs.declared.kind.NodeKind.{NodeKind}
use Rattle.php_tree.specs.declared.kind.NodeKind.TheVariants as kind
use Rattle.php_tree.specs.Tree.{Forest, none, leaf, node, File}
use Rattle.php_meaning.specs.runs.World.{Bytes}
use Rattle.php_meaning.specs.runs.Run.{Mark}
use Rattle.php_meaning.specs.laws.Laws.{KeepsMeaning}
use Rattle.php_meaning.specs.runs.Kinds.{is_expression}
use Rattle.syntax_rules.specs.NestedTernary.{program}
use Rattle.syntax_rules.specs.declared.rules.Rules.{Rules}
use Rattle.syntax_rules.specs.Together.{every_rule}
use Rattle.syntax_rules.specs.Rewritten.{rewritten_by}

-- a token by its parts
abbrev pub token_of : TokenKind → List ℕ → List ℕ → ℕ → Token
token_of kind lead text start = record { kind = kind; lead = lead; text = text; start = start }

-- the opening tokens of quoted texts
abbrev pub opens_text : TokenKind → Bool
opens_text token.Quote = true
opens_text token.HeredocStart = true
opens_text token.Backtick = true
opens_text _ = false

-- whether a kind is none of those whose parts a rule changes
abbrev pub is_common : NodeKind → Bool
is_common kind.BraceOffset = false
is_common kind.Cast = false
is_common kind.Quoted = false
is_common k = true

mutual
  -- Trees in which the parts of each node that a rule changes are as the grammar has them: a base and an offset, a cast and
  -- its operand, a quoted text.
  pub data AreFormed : Forest → Type 0 where
    nothing : AreFormed none
    token_first : {t : Token} {f : Forest} → AreFormed f → AreFormed (leaf t f)
    common : {k : NodeKind} {c f : Forest} → IsTrue (is_common k) → AreFormed c → AreFormed f → AreFormed (node k c f)
    braced :
        {k j : NodeKind} {c d f : Forest} {o p : Token} → AreFormed (node k c none) → AreFormed (node j d none) → AreFormed f →
        AreFormed (node kind.BraceOffset (node k c (leaf o (node j d (leaf p none)))) f)
    a_cast : {t : Token} {k : NodeKind} {c f : Forest} → AreFormed (node k c none) → AreFormed f → AreFormed (node kind.Cast (leaf t (node k c none)) f)
    text : {t : Token} {c f : Forest} → IsTrue (opens_text t.kind) → IsQuoted c → AreFormed f → AreFormed (node kind.Quoted (leaf t c) f)

  -- What stands behind the opening token of a quoted text, part by part. No trivia stand before the name in `${name`. (PHP
  -- manual, "Strings": "Variable parsing".)
  pub data IsQuoted : Forest → Type 0 where
    closing : {lead text : List ℕ} {start : ℕ} → IsQuoted (leaf (token_of token.QuotedEnd lead text start) none)
    piece : {lead text : List ℕ} {start : ℕ} {f : Forest} → IsQuoted f → IsQuoted (leaf (token_of token.Piece lead text start) f)
    simple : {k : NodeKind} {c f : Forest} → AreFormed (node k c none) → IsQuoted f → IsQuoted (node k c f)
    code :
        {lead text shut_lead : List ℕ} {start shut_start : ℕ} {k : NodeKind} {c f : Forest} → AreFormed (node k c none) → IsQuoted f →
        IsQuoted (leaf (token_of token.CurlyOpen lead text start) (node k c (leaf (token_of token.Op shut_lead (codes "}") shut_start) f)))
    name :
        {lead text word shut_lead : List ℕ} {start word_start shut_start : ℕ} {f : Forest} → IsQuoted f →
        IsQuoted
        (leaf (token_of token.DollarBrace lead text start) (leaf (token_of token.VarName [] word word_start)
        (leaf (token_of token.Op shut_lead (codes "}") shut_start) f)))
    offset :
        {lead text word open_lead shut_lead end_lead : List ℕ} {start word_start open_start shut_start end_start : ℕ}
        {k : NodeKind} {c f : Forest} → IsTrue (is_expression k) → AreFormed (node k c none) → IsQuoted f →
        IsQuoted
        (leaf (token_of token.DollarBrace lead text start) (leaf (token_of token.VarName [] word word_start)
        (leaf (token_of token.Op open_lead (codes "[") open_start) (node k c
        (leaf (token_of token.Op shut_lead (codes "]") shut_start) (leaf (token_of token.Op end_lead (codes "}") end_start) f))))))
    expression :
        {lead text shut_lead : List ℕ} {start shut_start : ℕ} {k : NodeKind} {c f : Forest} → IsTrue (is_expression k) →
        AreFormed (node k c none) → IsQuoted f →
        IsQuoted (leaf (token_of token.DollarBrace lead text start) (node k c (leaf (token_of token.Op shut_lead (codes "}") shut_start) f)))

-- the same files, rewritten by the rules on syntax that are on, and by all of them
abbrev pub all_rewritten_by : Rules → List (Bytes × File) → List (Bytes × File)
all_rewritten_by r files = map (λ f. (f.0, rewritten_by r f.1)) files

abbrev pub all_rewritten : List (Bytes × File) → List (Bytes × File)
all_rewritten files = all_rewritten_by every_rule files

-- Rewriting by the rules on syntax that are on, whichever they are, changes no run that stays inside the profile and asks at
-- no point where the versions differ.
abbrev pub RewritingKeepsMeaning : Type 0
RewritingKeepsMeaning =
    (r : Rules) (files : List (Bytes × File)) (prepend : Option Bytes) (marks : List Mark)
    → All (λ f. AreFormed f.1.statements) files
    → KeepsMeaning (program files prepend) marks (program (all_rewritten_by r files) prepend)
