-- The tokens of a draft, written one after another.
use Rattle.std.specs.Prelude.{ℕ, zero, suc, Bool, true, false, ◌&&◌, if◌then◌else◌, codes}
use Rattle.tracked_changes.specs.Pieces.{before}
use Rattle.tracked_changes.specs.Draft.{NewToken, Draft, no_more, new_leaf, new_node}
use Rattle.syntax_rules.specs.SplitName.{is_name, begins_root, is_nothing, keyword_behind}
use Rattle.syntax_upgrade.specs.Writing.{Recorded, changed_next, pieces_next}

-- What is recorded, whether a keyword stands directly before, and how many parentheses open at the next text.
pub record Written : Type 0 where
  pub recorded : Recorded
  pub behind : Bool
  pub parens : ℕ

-- so many parentheses open
abbrev pub opens_next : ℕ → Recorded → Recorded
opens_next zero r = r
opens_next (suc n) r = changed_next (codes "(") (opens_next n r)

-- a space, if one is wanted
abbrev pub space_next : Bool → Recorded → Recorded
space_next true r = changed_next (codes " ") r
space_next false r = r

-- whether a space is wanted before a token behind a keyword or not, where names are set apart
abbrev pub wants_space : Bool → Bool → NewToken → Bool
wants_space apart behind t = apart && behind && is_name t.kind && begins_root (before t.text) && is_nothing (before t.lead)

-- A token: its trivia, the parentheses before it, a space, its text; names are set apart or not.
abbrev pub token_next : Bool → NewToken → Written → Written
token_next apart t w = record {
  recorded = pieces_next t.text (space_next (wants_space apart w.behind t) (opens_next w.parens (pieces_next t.lead w.recorded)));
  behind = keyword_behind w.behind t;
  parens = 0;
}

-- the tokens of a draft
abbrev pub draft_next : Bool → Draft → Written → Written
draft_next apart no_more w = w
draft_next apart (new_leaf t d) w = draft_next apart d (token_next apart t w)
draft_next apart (new_node k c d) w = draft_next apart d (draft_next apart c w)

-- the front of a file
abbrev pub at_front : Recorded → Written
at_front r = record { recorded = r; behind = false; parens = 0 }

-- one more parenthesis opens
abbrev pub wrapped : Written → Written
wrapped w = record { recorded = w.recorded; behind = w.behind; parens = suc w.parens }

-- a parenthesis closes
abbrev pub unwrapped : Written → Written
unwrapped w = record {
  recorded = changed_next (codes ")") (opens_next w.parens w.recorded);
  behind = w.behind;
  parens = 0;
}

-- the same, if they are wanted
abbrev pub wrapped_if : Bool → Written → Written
wrapped_if b w = if b then wrapped w else w

abbrev pub unwrapped_if : Bool → Written → Written
unwrapped_if b w = if b then unwrapped w else w
