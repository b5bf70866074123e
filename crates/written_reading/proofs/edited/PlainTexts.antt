-- Code in quoted texts: behind `{$` stands a variable, with what goes on behind it (PHP manual, "Strings: Complex (curly)
-- syntax").
use Rattle.std.specs.Prelude.{◌≡◌, Bool, true, false, not, ◌&&◌, ◌||◌}
use Rattle.php_tree.specs.declared.kind.NodeKind.{NodeKind}
use Rattle.php_tree.specs.declared.kind.NodeKind.TheVariants.{Binary, Ternary, ShortTernary}
use Rattle.php_tree.specs.declared.token.TokenKind.{TokenKind}
use Rattle.php_tree.specs.declared.token.TokenKind.TheVariants as token
use Rattle.php_tree.specs.Tree.{Forest, none, leaf, node}
use Rattle.syntax_rules.specs.Together.{is_quoted}

-- whether the rules that group may put the first operand of a node of this kind in parentheses
abbrev pub has_operands : NodeKind → Bool
has_operands Binary = true
has_operands Ternary = true
has_operands ShortTernary = true
has_operands _ = false

-- whether the first token stands first in nodes of other kinds alone
abbrev pub begins_plainly : Forest → Bool
begins_plainly none = false
begins_plainly (leaf t f) = true
begins_plainly (node k c f) = not (has_operands k) && begins_plainly c

abbrev pub is_curly : TokenKind → Bool
is_curly token.CurlyOpen = true
is_curly _ = false

-- whether that is so behind each `{` that stands before `$` among these parts
abbrev pub has_plain_code : Forest → Bool
has_plain_code none = true
has_plain_code (leaf t f) = (not (is_curly t.kind) || begins_plainly f) && has_plain_code f
has_plain_code (node k c f) = has_plain_code f

-- In each quoted text no operator with operands on either side stands leftmost behind `{$`.
abbrev pub PlainTexts : Forest → Type 0
PlainTexts none = Unit {0}
PlainTexts (leaf t f) = PlainTexts f
PlainTexts (node k c f) = (is_quoted k ≡ true → has_plain_code c ≡ true) × PlainTexts c × PlainTexts f
