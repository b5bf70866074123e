-- The tokens of a quoted text, walked from the first.
use Rattle.std.specs.Prelude.{Bool, false, ◌&&◌, if◌then◌else◌, codes, Option}
use Rattle.php_tree.specs.declared.token.TokenKind.TheVariants as token
use Rattle.php_tree.specs.Tree.{Forest, none, leaf, node}
use Rattle.tracked_changes.specs.Draft.{NewToken}
use Rattle.tracked_changes.specs.Tokens.{retexted, put_also}
use Rattle.syntax_rules.specs.Around.{Around}
use Rattle.syntax_rules.specs.DollarBrace.{is_dollar_brace, is_piece, curly, dollar_name, escaped}
use Rattle.syntax_rules.specs.declared.rules.Rules.{Rules}
use Rattle.syntax_rules.specs.Together.{token_by}
use Rattle.syntax_upgrade.specs.Written.{Written, token_next}
use Rattle.syntax_upgrade.specs.NamesWalked.{child_next}

-- What the next token of a quoted text is: the name behind `${`, the `}` behind `${` and an expression, or another one.
pub data Role : Type 0 where
  other : Role
  named : Role
  closing : Role

-- what follows `${`, in front of these parts
abbrev pub role_behind : Forest → Role
role_behind none = other
role_behind (leaf t f) = named
role_behind (node k c f) = closing

-- whether `${` stands first
abbrev pub begins_dollar : Forest → Bool
begins_dollar none = false
begins_dollar (leaf t f) = is_dollar_brace t.kind
begins_dollar (node k c f) = false

-- `${` by what follows it
abbrev pub dollar_next : Bool → Role → NewToken → Written → Written
dollar_next apart other t w = token_next apart t w
dollar_next apart named t w = token_next apart (curly t) w
dollar_next apart closing t w =
    token_next apart (put_also token.Op (codes "{"))
    (token_next apart (put_also token.Op (codes "$")) (token_next apart (curly t) w))

-- the parts of a quoted text
abbrev pub text_walked : Rules → (Bool → Option Around) → Bool → Role → Forest → Written → Written
text_walked r around i role none w = w
text_walked r around i other (leaf t f) w =
    if is_dollar_brace t.kind then text_walked r around false (role_behind f) f (dollar_next r.split_names (role_behind f) (token_by r t) w)
    else text_walked r around false other f
    (token_next r.split_names (if is_piece t.kind && begins_dollar f then escaped (token_by r t) else token_by r t) w)
text_walked r around i named (leaf t f) w =
    text_walked r around false other f (token_next r.split_names (dollar_name (token_by r t)) w)
text_walked r around i closing (leaf t f) w =
    text_walked r around false other f
    (token_next r.split_names (put_also token.Op (codes "}")) (token_next r.split_names (retexted token.Op (codes "}") (token_by r t)) w))
text_walked r around i role (node k c f) w =
    text_walked r around false role f (child_next r (around i) (k, c) w)
