-- Casts `(unset)`: the tokens of one of a plain variable with the token that comes in their place, and the report of any other.
use Rattle.std.specs.Prelude.{ℕ, List, [], ◌∷◌, ◌++◌, ◌&&◌, if◌then◌else◌, Option, Some, None, codes}
use Rattle.php_tree.specs.declared.token.Token.{Token}
use Rattle.php_tree.specs.declared.token.TokenKind.TheVariants as token
use Rattle.php_tree.specs.declared.kind.NodeKind.{NodeKind}
use Rattle.php_tree.specs.Tree.{Forest, none, leaf, node, Tree, leaves}
use Rattle.php_tree.specs.Places.{end_of}
use Rattle.rule_tables.specs.declared.cause.Cause.TheVariants.{Shape}
use Rattle.rule_tables.specs.declared.rule.RuleId.TheVariants as rule
use Rattle.tracked_changes.specs.Pieces.{changed, also}
use Rattle.tracked_changes.specs.Draft.{NewToken}
use Rattle.syntax_rules.specs.declared.rules.Rules.{Rules}
use Rattle.syntax_rules.specs.HashComment.{lead_by}
use Rattle.syntax_rules.specs.Casts.{is_cast}
use Rattle.syntax_rules.specs.UnsetCast.{is_undecided, is_unset_cast, is_variable}
use Rattle.syntax_upgrade.specs.Found.{Report, text_start, undecided}
use Rattle.syntax_upgrade.specs.NodeRule.{NodeRule}

-- the token of a node that is a plain variable
abbrev pub variable_in : NodeKind → Forest → Option Token
variable_in k none = None
variable_in k (leaf t none) = if is_variable k t.kind then Some t else None
variable_in k (leaf t (leaf u f)) = None
variable_in k (leaf t (node j b f)) = None
variable_in k (node j b f) = None

-- two tokens, if the second is there
abbrev pub both : Token → Option Token → Option (Token × Token)
both t None = None
both t (Some u) = Some (t, u)

-- a token and a plain variable, if these are the parts
abbrev pub tokens_in : Forest → Option (Token × Token)
tokens_in none = None
tokens_in (leaf t none) = None
tokens_in (leaf t (leaf u f)) = None
tokens_in (leaf t (node k c none)) = both t (variable_in k c)
tokens_in (leaf t (node k c (leaf u f))) = None
tokens_in (leaf t (node k c (node j b f))) = None
tokens_in (node k c f) = None

-- the tokens of a cast `(unset)` of a plain variable, if a node is one and the rule is on
abbrev pub unset_in : Rules → Tree → Option (Token × Token)
unset_in r t = if r.unset_casts && is_unset_cast t then tokens_in t.1 else None

-- the bytes that are taken out
abbrev pub taken_out : Token → Token → List ℕ
taken_out cast variable = cast.text ++ (variable.lead ++ variable.text)

-- one token in the place of both
abbrev pub null_token : Rules → Token → Token → NewToken
null_token r cast variable = record {
  kind = token.Op;
  lead = lead_by r.hash_comments cast.lead;
  text = changed (taken_out cast variable) (codes "(") ∷ also (codes "null") ∷ also (codes ")") ∷ [];
}

-- a cast `(unset)` of anything but a plain variable: it stays, for its shape
abbrev pub says : ℕ → Tree → List Report
says at n =
    if is_undecided n then undecided rule.UnsetCast Shape (text_start at (leaves n.1)) (end_of at n.1) ∷ [] else []

abbrev pub undecided_casts : NodeRule
undecided_casts = record { looks_at = is_cast; looks_for = None; says = says }
