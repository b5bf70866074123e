-- What the code keeps of what parts begin with.
use Rattle.std.specs.Prelude.{zero, ◌||◌, Bool, true, false, Option, Some, None}
use Rattle.php_tree.specs.declared.token.Token.{Token}
use Rattle.php_tree.specs.Tree.{Forest, none, leaf, node}
use Rattle.tracked_changes.specs.Pieces.{before}
use Rattle.tracked_changes.specs.Draft.{NewToken, unchanged_token}
use Rattle.syntax_rules.specs.declared.rules.Rules.{Rules}
use Rattle.syntax_rules.specs.BraceOffset.{bracket}
use Rattle.syntax_rules.specs.SplitName.{begins_root, is_backslash, is_label, is_namespace, is_nothing}
use Rattle.syntax_upgrade.specs.declared.split_name.Ahead.{Ahead}
use Rattle.syntax_upgrade.specs.Inside.{with_lead}
use Rattle.syntax_upgrade.specs.NamesWalked.{Head}

-- what the code keeps of a head
abbrev pub shown : Head → Ahead
shown h = record {
  kind = h.token.kind;
  more = h.more;
  rooted = begins_root (before h.token.text);
  empty = is_nothing (before h.token.text);
  lead_rooted = begins_root (before h.token.lead);
  lead_empty = is_nothing (before h.token.lead);
}

abbrev pub shown_if_any : Option Head → Option Ahead
shown_if_any None = None
shown_if_any (Some h) = Some (shown h)

-- what a token becomes but for its trivia, in an offset in braces or elsewhere
abbrev pub bare_of : Bool → Token → NewToken
bare_of true t = bracket (unchanged_token t)
bare_of false t = unchanged_token t

-- what it becomes
abbrev pub own_of : Rules → Bool → Token → NewToken
own_of r braces t = with_lead r t (bare_of braces t)

-- whether a token may be one with what is behind it
abbrev pub may_go_on : NewToken → Bool
may_go_on t = is_backslash t || (is_label t.kind || is_namespace t)

-- the token that parts begin with, alone
abbrev pub alone_first : (Token → NewToken) → Forest → Option Head
alone_first own none = None
alone_first own (leaf t f) = Some (record { more = zero; token = own t })
alone_first own (node k c f) = None
