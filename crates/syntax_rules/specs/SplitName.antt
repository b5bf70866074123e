-- Names with `\`. In 7.4 a name is several tokens with trivia between them; from 8.0 on it is one token, and a keyword that
-- stands directly before its `\` would belong to it. (RFC "Treat namespaced names as single token", UPGRADING 8.0.)
use Rattle.std.specs.Prelude.{◌≡◌, ℕ, Bool, true, false, not, ◌==◌, ◌&&◌, ◌||◌, if◌then◌else◌, List, [], ◌∷◌, ◌++◌, map, codes}
use Rattle.std.specs.Str.{bytes_eq, str_to_ascii_lowercase}
use Rattle.php_tree.specs.declared.token.TokenKind.{TokenKind}
use Rattle.php_tree.specs.declared.token.TokenKind.TheVariants as token
use Rattle.php_tree.specs.declared.kind.NodeKind.TheVariants as kind
use Rattle.php_tree.specs.Tree.{Forest, none, node}
use Rattle.tracked_changes.specs.Pieces.{Piece, changed, before}
use Rattle.tracked_changes.specs.Draft.{NewToken, Draft, no_more, new_leaf, new_node, pieces, rewritten, unchanged}
use Rattle.tracked_changes.specs.Edits.{joined, edits_from}
use Rattle.tracked_changes.specs.Tokens.{is_text}
use Rattle.syntax_rules.specs.Written.{word, word_behind, op, shown}

-- ---- names as one token

abbrev pub is_label : TokenKind → Bool
is_label token.Label = true
is_label _ = false

abbrev pub is_name : TokenKind → Bool
is_name token.Name = true
is_name _ = false

abbrev pub is_keyword : TokenKind → Bool
is_keyword token.Keyword = true
is_keyword _ = false

abbrev pub is_op : TokenKind → Bool
is_op token.Op = true
is_op _ = false

-- whether there are no bytes
abbrev pub is_nothing : List ℕ → Bool
is_nothing [] = true
is_nothing (b ∷ bs) = false

-- whether a text begins with `\`
abbrev pub begins_root : List ℕ → Bool
begins_root [] = false
begins_root (b ∷ bs) = b == 92

-- the keyword `namespace`, which a name may begin with
abbrev pub is_namespace : NewToken → Bool
is_namespace t = is_keyword t.kind && bytes_eq (str_to_ascii_lowercase (before t.text)) (codes "namespace")

-- the operator `\`
abbrev pub is_backslash : NewToken → Bool
is_backslash t = is_op t.kind && is_text (codes "\\") t

-- whether a token and the name behind it are one name: `\` and then a label, or a label and what begins with `\`
abbrev pub is_one : NewToken → NewToken → Bool
is_one t u =
    (is_backslash t && (is_label u.kind || (is_name u.kind && not (begins_root (before u.text)))))
    || ((is_label t.kind || is_namespace t) && is_name u.kind && begins_root (before u.text))

-- trivia that are deleted: one edit, where there are any
abbrev pub deleted : List ℕ → List Piece
deleted [] = []
deleted (b ∷ bs) = changed (b ∷ bs) [] ∷ []

-- The edit inside a name: the trivia before its second token are deleted, and the two are one.
abbrev pub one_name : NewToken → NewToken → NewToken
one_name t u = record { kind = token.Name; lead = t.lead; text = t.text ++ deleted (before u.lead) ++ u.text }

-- A token in front of others, where names are whole. Where trivia are not to be deleted, a name with trivia inside stays
-- in parts.
abbrev pub in_front : Bool → NewToken → Draft → Draft
in_front delete t (new_leaf u d) =
    if is_one t u && (delete || is_nothing (before u.lead)) then new_leaf (one_name t u) d
    else new_leaf t (new_leaf u d)
in_front delete t no_more = new_leaf t no_more
in_front delete t (new_node k c d) = new_leaf t (new_node k c d)

-- the draft with each name with `\` one token
abbrev pub whole_names : Bool → Draft → Draft
whole_names delete no_more = no_more
whole_names delete (new_leaf t d) = in_front delete t (whole_names delete d)
whole_names delete (new_node k c d) = new_node k (whole_names delete c) (whole_names delete d)

-- ---- names directly behind a keyword

-- The edit before a name: a space, where the name begins with `\` and stands directly behind a keyword of the source.
abbrev pub space_before : Bool → NewToken → NewToken
space_before behind t =
    if behind && is_name t.kind && begins_root (before t.text) && is_nothing (before t.lead)
    then record t { lead = t.lead ++ changed [] (codes " ") ∷ [] } else t

-- Whether a keyword stands last in the source, directly, behind a token. A token that is put in has no text there, but may
-- have taken over trivia.
abbrev pub keyword_behind : Bool → NewToken → Bool
keyword_behind behind t =
    if is_nothing (before t.text) then behind && is_nothing (before t.lead) else is_keyword t.kind

-- the same behind a draft
abbrev pub keyword_last : Bool → Draft → Bool
keyword_last behind no_more = behind
keyword_last behind (new_leaf t d) = keyword_last (keyword_behind behind t) d
keyword_last behind (new_node k c d) = keyword_last (keyword_last behind c) d

-- the draft, behind a keyword or not
abbrev pub apart : Bool → Draft → Draft
apart behind no_more = no_more
apart behind (new_leaf t d) = new_leaf (space_before behind t) (apart (keyword_behind behind t) d)
apart behind (new_node k c d) = new_node k (apart behind c) (apart (keyword_last behind c) d)

-- ---- the rule

-- The draft of a file's statements with its names whole and apart from keywords. None is kept, and none is undecided.
abbrev pub split_name : Draft → Draft
split_name d = apart false (whole_names true d)

-- `return\ A /**/ \B;` becomes `return \A\B;`
abbrev pub split_source : Forest
split_source =
    node kind.Return (word token.Keyword (codes "return")
    (node kind.Constant (op (codes "\\") (word_behind (codes " ") token.Label (codes "A")
    (word_behind (codes " /**/ ") token.Op (codes "\\") (word token.Label (codes "B") none))))
    (word token.Semi (codes ";") none))) none

abbrev pub split_target : Forest
split_target =
    node kind.Return (word token.Keyword (codes "return")
    (node kind.Constant (word_behind (codes " ") token.Name (codes "\\A\\B") none)
    (word token.Semi (codes ";") none))) none

pub record SplitRow : Type 0 where
  pub edits : map shown (edits_from 0 (joined (pieces (split_name (unchanged split_source)))))
      ≡ (6, 6, codes " ") ∷ (7, 8, []) ∷ (9, 15, []) ∷ []
  pub tree : rewritten (split_name (unchanged split_source)) ≡ split_target

-- The edits keep the source's bytes, and write what the row says.
abbrev pub SplitNameIsWritten : Type 0
SplitNameIsWritten = ((d : Draft) → before (pieces (split_name d)) ≡ before (pieces d)) × SplitRow
