-- A draft's tokens with a space before each name that stands directly behind a keyword, names still in parts.
use Rattle.std.specs.Prelude.{◌≡◌, ℕ, Bool, true, false, not, ◌&&◌, ◌||◌, if◌then◌else◌, List, [], ◌∷◌, ◌++◌, map, codes}
use Rattle.php_tree.specs.declared.version.Version.TheVariants.{V74}
use Rattle.php_tree.specs.Tree.{File}
use Rattle.php_lexer.specs.Lexed.{start}
use Rattle.php_relexing.specs.Tiles.{Tile}
use Rattle.php_relexing.specs.Spelled.{Steps, spelled}
use Rattle.php_reading.specs.Reading.{Reads}
use Rattle.tracked_changes.specs.Pieces.{changed, before}
use Rattle.tracked_changes.specs.Draft.{NewToken, FileDraft}
use Rattle.tracked_changes.specs.Walk.{drafted_file}
use Rattle.syntax_rules.specs.SplitName.{is_name, is_nothing, begins_root, keyword_behind}
use Rattle.syntax_rules.specs.Together.{rewriting, all_on}
use Rattle.syntax_rules.specs.Rewritten.{patches, rewritten}
use Rattle.written_tokens.specs.tokens.Names.{all_common}
use Rattle.written_tokens.specs.tokens.Whole.{all_apart}
use Rattle.written_tokens.specs.tokens.Written.{new_lexeme, draft_tokens, HasTokens}
use Rattle.written_tokens.specs.tokens.Drafted.{all_whole, all_spaced, joins, names_within}
use Rattle.written_tokens.specs.tokens.Parted.{parted, NamesStay}

-- a space behind the trivia, where there are none, of what a name with `\` in front begins with
abbrev pub space_put : Bool → NewToken → Bool → NewToken
space_put behind t begins =
    if behind && (begins || is_name t.kind) && begins_root (before t.text) && is_nothing (before t.lead)
    then record t { lead = t.lead ++ changed [] (codes " ") ∷ [] } else t

-- the tokens, behind a keyword or not
abbrev pub spaces_put : Bool → List NewToken → List NewToken
spaces_put behind [] = []
spaces_put behind (t ∷ ts) = space_put behind t (joins t (all_whole ts)) ∷ spaces_put (keyword_behind behind t) ts

-- whether the first token has a text in the source
abbrev pub front_text : List NewToken → Bool
front_text [] = false
front_text (u ∷ us) = not (is_nothing (before u.text))

-- Parts of names have a text in the source.
abbrev pub PartsHaveText : List NewToken → Type 0
PartsHaveText [] = Unit {0}
PartsHaveText (t ∷ ts) =
    (joins t (all_whole ts) ≡ true → (is_nothing (before t.text) ≡ false) × (front_text (all_whole ts) ≡ true))
    × PartsHaveText ts

-- Spaces may be put before names that are still in parts.
abbrev pub SpacesComeFirst : Type 0
SpacesComeFirst =
    (behind : Bool) (ts : List NewToken) →
    PartsHaveText ts →
    all_spaced behind (all_whole ts) ≡ all_whole (spaces_put behind ts)

-- ---- files

-- a file's draft by all rules on syntax but that on names
abbrev pub nameless_draft : File → FileDraft
nameless_draft f = drafted_file (rewriting (all_on (patches f.statements))) f

-- its tokens, with spaces before names and none inside
abbrev pub in_parts : File → List NewToken
in_parts f = spaces_put false (draft_tokens (nameless_draft f).statements)

-- A file that 7.4 reads, rewritten, has its tokens in 8.3, where 7.4 has the row of these tokens and trivia with names
-- in parts, and 8.3 takes this row as 7.4 does.
abbrev pub PartsAreWritten : Type 0
PartsAreWritten =
    (bytes : List ℕ) (f : File) (us : List Tile) →
    Reads V74 bytes f →
    names_within (nameless_draft f).statements ≡ true →
    PartsHaveText (draft_tokens (nameless_draft f).statements) →
    NamesStay (in_parts f) →
    Steps V74 start us →
    all_common us ≡ true →
    all_apart us ≡ true →
    spelled [] us ≡ map new_lexeme (parted (in_parts f)) ++ new_lexeme (nameless_draft f).end ∷ [] →
    HasTokens (rewritten f)
