-- Quoted texts in which `?->` and a letter stand directly behind a simple variable: to 7.4 they are text, from 8.0 on they
-- belong to the variable. (RFC "Nullsafe operator".)
use Rattle.std.specs.Prelude.{ℕ, Bool, true, false, nat_eq, ◌&&◌, if◌then◌else◌, List, [], ◌∷◌, Some}
use Rattle.php_spellings.specs.Bytes.{is_letter}
use Rattle.php_tree.specs.declared.kind.NodeKind.{NodeKind}
use Rattle.php_tree.specs.declared.kind.NodeKind.TheVariants as kind
use Rattle.php_tree.specs.declared.token.Token.{Token}
use Rattle.php_tree.specs.declared.token.TokenKind.{TokenKind}
use Rattle.php_tree.specs.declared.token.TokenKind.TheVariants as token
use Rattle.php_tree.specs.Tree.{Forest, Tree}
use Rattle.syntax_upgrade.specs.Behind.{stands_behind}
use Rattle.syntax_upgrade.specs.Found.{Report, outside_parts}
use Rattle.syntax_upgrade.specs.NodeRule.{NodeRule}

-- whether a text begins with `?->` and a letter
abbrev pub begins_question : List ℕ → Bool
begins_question [] = false
begins_question (a ∷ []) = false
begins_question (a ∷ b ∷ []) = false
begins_question (a ∷ b ∷ c ∷ []) = false
begins_question (a ∷ b ∷ c ∷ d ∷ bs) = nat_eq a 63 && (nat_eq b 45 && (nat_eq c 62 && is_letter d))

abbrev pub is_piece : TokenKind → Bool
is_piece token.Piece = true
is_piece _ = false

abbrev pub is_variable : NodeKind → Bool
is_variable kind.Variable = true
is_variable _ = false

abbrev pub is_quoted : NodeKind → Bool
is_quoted kind.Quoted = true
is_quoted _ = false

-- whether a token is a piece of text that begins so
abbrev pub is_question : Token → Bool
is_question t = is_piece t.kind && begins_question t.text

-- whether such a piece stands directly behind a variable among parts, of which the first one may stand behind one
abbrev pub has_question : Bool → Forest → Bool
has_question behind f = stands_behind is_variable is_question behind f

-- its number among the forms outside the profile
abbrev pub number : ℕ
number = 98

-- The place is the text, whatever else stands in it.
abbrev pub says : ℕ → Tree → List Report
says at n = if has_question false n.1 then outside_parts number at n.1 else []

abbrev pub nullsafe_texts : NodeRule
nullsafe_texts = record { looks_at = is_quoted; looks_for = Some is_question; says = says }
