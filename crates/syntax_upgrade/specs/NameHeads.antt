-- What some parts begin with, where names are whole: a token, or a name of several.
use Rattle.std.specs.Prelude.{ℕ, zero, suc, if◌then◌else◌, Option, Some, None}
use Rattle.php_tree.specs.declared.token.Token.{Token}
use Rattle.php_tree.specs.Tree.{Forest, none, leaf, node}
use Rattle.tracked_changes.specs.Draft.{NewToken, unchanged_token}
use Rattle.syntax_rules.specs.SplitName.{is_one, one_name}

-- A token or a whole name, and how many tokens of it stand behind its first one.
pub record Head : Type 0 where
  pub more : ℕ
  pub token : NewToken

-- a token alone
abbrev pub single : Token → Head
single t = record { more = zero; token = unchanged_token t }

-- a token in front of what is ahead
abbrev pub head_of : Token → Option Head → Head
head_of t None = single t
head_of t (Some h) =
    if is_one (unchanged_token t) h.token then record { more = suc h.more; token = one_name (unchanged_token t) h.token }
    else single t

-- what parts begin with, if not with a node
abbrev pub begins : Forest → Option Head
begins none = None
begins (leaf t f) = Some (head_of t (begins f))
begins (node k c f) = None

-- the token or the name that begins with a token, before other parts
abbrev pub head_at : Token → Forest → Head
head_at t f = head_of t (begins f)
