-- The tokens of a node, walked from the first: each name goes as far as its last token.
use Rattle.std.specs.Prelude.{ℕ, zero, suc, Bool, false, ◌&&◌, ◌||◌, if◌then◌else◌, ◌++◌, Option, Some, None}
use Rattle.php_tree.specs.declared.token.Token.{Token}
use Rattle.php_tree.specs.Tree.{Forest, none, leaf, node, Tree}
use Rattle.tracked_changes.specs.Pieces.{before}
use Rattle.tracked_changes.specs.Draft.{NewToken, Draft, no_more, new_leaf, ◌then◌}
use Rattle.syntax_rules.specs.declared.rules.Rules.{Rules}
use Rattle.syntax_rules.specs.Around.{Around}
use Rattle.syntax_rules.specs.SplitName.{is_one, is_nothing, one_name, deleted, whole_names, keyword_behind}
use Rattle.syntax_upgrade.specs.Writing.{pieces_next}
use Rattle.syntax_upgrade.specs.Written.{Written, opens_next, space_next, wants_space, draft_next}
use Rattle.syntax_rules.specs.InContext.{child_by}

-- What parts begin with: a token or a whole name, and of how many tokens behind its first one.
pub record Head : Type 0 where
  pub more : ℕ
  pub token : NewToken

-- whether a token and what is ahead are one, where trivia inside a name are deleted or not
abbrev pub are_one : Bool → NewToken → NewToken → Bool
are_one delete t u = is_one t u && (delete || is_nothing (before u.lead))

-- a token in front of what is ahead
abbrev pub head_of : Bool → NewToken → Option Head → Head
head_of delete t None = record { more = zero; token = t }
head_of delete t (Some h) =
    if are_one delete t h.token then record { more = suc h.more; token = one_name t h.token }
    else record { more = zero; token = t }

-- what parts begin with, if not with a node, where each token becomes what `own` says
abbrev pub begins : Bool → (Token → NewToken) → Forest → Option Head
begins delete own none = None
begins delete own (leaf t f) = Some (head_of delete (own t) (begins delete own f))
begins delete own (node k c f) = None

-- the first token of a head
abbrev pub first_next : Bool → Head → NewToken → Written → Written
first_next apart h t w = record {
  recorded = pieces_next t.text (space_next (wants_space apart w.behind h.token) (opens_next w.parens (pieces_next t.lead w.recorded)));
  behind = keyword_behind w.behind h.token;
  parens = 0;
}

-- a token inside a name
abbrev pub inner_next : NewToken → Written → Written
inner_next t w = record {
  recorded = pieces_next (deleted (before t.lead) ++ t.text) w.recorded;
  behind = w.behind;
  parens = w.parens;
}

-- a node, where it stands
abbrev pub child_next : Rules → Option Around → Tree → Written → Written
child_next r a t w = draft_next r.split_names (whole_names r.split_names (child_by r a t)) w

-- the parts of a node, the next so many tokens inside a name
abbrev pub walked : Rules → (Token → NewToken) → (Bool → Option Around) → Bool → ℕ → Forest → Written → Written
walked r own around i inner none w = w
walked r own around i zero (leaf t f) w =
    walked r own around false (head_of r.split_names (own t) (begins r.split_names own f)).more f
    (first_next r.split_names (head_of r.split_names (own t) (begins r.split_names own f)) (own t) w)
walked r own around i (suc inner) (leaf t f) w = walked r own around false inner f (inner_next (own t) w)
walked r own around i inner (node k c f) w =
    walked r own around false inner f (child_next r (around i) (k, c) w)

-- the draft of the parts
abbrev pub own_in : Rules → (Token → NewToken) → (Bool → Option Around) → Bool → Forest → Draft
own_in r own around i none = no_more
own_in r own around i (leaf t f) = new_leaf (own t) (own_in r own around false f)
own_in r own around i (node k c f) = child_by r (around i) (k, c) then own_in r own around false f
