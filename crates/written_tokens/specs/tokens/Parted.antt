-- A draft's tokens with the trivia inside names deleted, each name still in parts: as 7.4 has them.
use Rattle.std.specs.Prelude.{◌≡◌, Bool, true, false, if◌then◌else◌, List, [], ◌∷◌, map}
use Rattle.php_tree.specs.declared.token.TokenKind.{TokenKind}
use Rattle.php_tree.specs.declared.token.TokenKind.TheVariants as token
use Rattle.php_spellings.specs.Bytes.{is_empty, begins_by}
use Rattle.tracked_changes.specs.Pieces.{before, after}
use Rattle.tracked_changes.specs.Draft.{NewToken}
use Rattle.syntax_rules.specs.SplitName as names
use Rattle.written_tokens.specs.tokens.Whole.{is_keyword_kind, is_namespace, is_backslash, whole_tokens}
use Rattle.written_tokens.specs.tokens.Written.{new_lexeme}
use Rattle.written_tokens.specs.tokens.Drafted.{all_whole, joins}

-- the tokens without the trivia before the first
abbrev pub bare : List NewToken → List NewToken
bare [] = []
bare (t ∷ ts) = record t { lead = names.deleted (before t.lead) } ∷ ts

-- the tokens without the trivia inside names
abbrev pub parted : List NewToken → List NewToken
parted [] = []
parted (t ∷ ts) = t ∷ (if joins t (all_whole ts) then bare (parted ts) else parted ts)

-- whether tokens of the kind may be parts of names
abbrev pub may_be_part : TokenKind → Bool
may_be_part token.Label = true
may_be_part token.Keyword = true
may_be_part token.Op = true
may_be_part token.Name = true
may_be_part _ = false

-- A token is the same part of a name before and after the changes.
pub record SamePart (t : NewToken) : Type 0 where
  pub backslash : names.is_backslash t ≡ is_backslash t.kind (after t.text)
  pub word : names.is_namespace t ≡ (if is_keyword_kind t.kind then is_namespace (after t.text) else false)
  pub front : may_be_part t.kind ≡ true → names.begins_root (before t.text) ≡ begins_by 92 (after t.text)

-- A token has a text before and after the changes.
pub record HasText (t : NewToken) : Type 0 where
  pub old : is_empty (before t.text) ≡ false
  pub new : is_empty (after t.text) ≡ false

-- The changes leave names as they are, but for trivia.
abbrev pub NamesStay : List NewToken → Type 0
NamesStay [] = Unit {0}
NamesStay (t ∷ ts) = SamePart t × (joins t (all_whole ts) ≡ true → HasText t) × NamesStay ts

-- Whole names are those of the tokens in parts.
abbrev pub WholeOfParts : Type 0
WholeOfParts =
    (ts : List NewToken) →
    NamesStay ts →
    map new_lexeme (all_whole ts) ≡ whole_tokens (map new_lexeme (parted ts))
