-- Uses of traits as PHP has them: between the braces stand names and words alone (PHP manual, "Traits"). The grammar here
-- takes any tokens in balance.
use Rattle.std.specs.Prelude.{◌≡◌, Bool, true, false, not, ◌&&◌, ◌||◌}
use Rattle.php_tree.specs.declared.kind.NodeKind.{NodeKind}
use Rattle.php_tree.specs.declared.kind.NodeKind.TheVariants as k
use Rattle.php_tree.specs.declared.token.Token.{Token}
use Rattle.php_tree.specs.Tree.{Forest, none, leaf, node}
use Rattle.php_terminals.specs.Classify.{terminal}
use Rattle.php_terminals.specs.Marks.{closes, opens}
use Rattle.syntax_rules.specs.SplitName.{is_label}
use Rattle.rewritten_shapes.specs.paired.Tokens.{is_code_token, is_mark}

-- whether a token is no bracket and belongs to no quoted text
abbrev pub is_plain : Token → Bool
is_plain t = is_code_token t && not (opens (terminal t) || closes (terminal t))

-- whether all tokens are so but the last, which is `}`, and a label stands behind each `\`
abbrev pub are_plain : Forest → Bool
are_plain none = true
are_plain (leaf t none) = true
are_plain (leaf t (leaf u f)) = is_plain t && ((not (is_mark 92 t) || is_label u.kind) && are_plain (leaf u f))
are_plain (leaf t (node k c f)) = false
are_plain (node k c f) = false

-- whether all tokens between the braces are so
abbrev pub has_plain_rules : Forest → Bool
has_plain_rules none = true
has_plain_rules (leaf t f) = (is_mark 123 t && are_plain f) || (not (is_mark 123 t) && has_plain_rules f)
has_plain_rules (node j c f) = has_plain_rules f

abbrev pub is_trait_use : NodeKind → Bool
is_trait_use k.TraitUse = true
is_trait_use _ = false

-- Between the braces of each use of traits stand no brackets and no quoted texts, and a label behind each `\`.
abbrev pub PlainTraits : Forest → Type 0
PlainTraits none = Unit {0}
PlainTraits (leaf t f) = PlainTraits f
PlainTraits (node j c f) = (is_trait_use j ≡ true → has_plain_rules c ≡ true) × PlainTraits c × PlainTraits f
