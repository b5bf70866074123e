-- The rule on names, on a draft's tokens in order.
use Rattle.std.specs.Prelude.{◌≡◌, Bool, true, false, not, ◌&&◌, if◌then◌else◌, List, [], ◌∷◌}
use Rattle.tracked_changes.specs.Draft.{NewToken, Draft, no_more, new_leaf, new_node}
use Rattle.syntax_rules.specs.SplitName.{is_one, one_name, space_before, keyword_behind, split_name}
use Rattle.written_tokens.specs.tokens.Written.{draft_tokens}

-- a token in front of others, where names are whole
abbrev pub before_all : NewToken → List NewToken → List NewToken
before_all t [] = t ∷ []
before_all t (u ∷ us) = if is_one t u then one_name t u ∷ us else t ∷ u ∷ us

-- the tokens with each name one
abbrev pub all_whole : List NewToken → List NewToken
all_whole [] = []
all_whole (t ∷ ts) = before_all t (all_whole ts)

-- the tokens with names apart from keywords, behind a keyword or not
abbrev pub all_spaced : Bool → List NewToken → List NewToken
all_spaced behind [] = []
all_spaced behind (t ∷ ts) = space_before behind t ∷ all_spaced (keyword_behind behind t) ts

-- ---- names within one node

-- whether a token and what follows it are one name
abbrev pub joins : NewToken → List NewToken → Bool
joins t [] = false
joins t (u ∷ us) = is_one t u

-- the same for the last of some tokens
abbrev pub last_joins : List NewToken → List NewToken → Bool
last_joins [] us = false
last_joins (t ∷ []) us = joins t us
last_joins (t ∷ u ∷ ts) us = last_joins (u ∷ ts) us

abbrev pub begins_node : Draft → Bool
begins_node no_more = false
begins_node (new_leaf t d) = false
begins_node (new_node k c d) = true

-- Whether each name stands within one node: no token before a node, and no last one of a node, is one name with what
-- follows it.
abbrev pub names_within : Draft → Bool
names_within no_more = true
names_within (new_leaf t d) = not (begins_node d && joins t (all_whole (draft_tokens d))) && names_within d
names_within (new_node k c d) =
    not (last_joins (draft_tokens c) (all_whole (draft_tokens d))) && (names_within c && names_within d)

-- The rule on names makes of a draft's tokens whole names, apart from keywords.
abbrev pub NamesInOrder : Type 0
NamesInOrder =
    (d : Draft) →
    names_within d ≡ true →
    draft_tokens (split_name d) ≡ all_spaced false (all_whole (draft_tokens d))
