-- From the row of a draft to the row that the rewritten file needs, and to its reading.
use Rattle.std.proofs.Common.{◌≡◌, ℕ, Bool, true, false, not, ◌&&◌, List, [], ◌∷◌, ◌++◌, map, refl, sym, ap, ◌∙◌}
use Rattle.std.proofs.lemmas.Bool.{and_parts, and_from}
use Rattle.php_tree.specs.declared.version.Version.TheVariants.{V74}
use Rattle.php_tree.specs.Tree.{File}
use Rattle.php_spellings.specs.declared.table.Kind.{Kind}
use Rattle.php_spellings.specs.declared.table.Kind.TheVariants.{Comment, DollarBrace}
use Rattle.php_lexer.specs.Lexed.{Lexeme}
use Rattle.php_relexing.specs.Tiles.{Tile, tile}
use Rattle.php_shapes.specs.Shapes.{Shape}
use Rattle.php_shapes.proofs.Walked.{file_has_shape}
use Rattle.php_reading.specs.Reading.{Reads}
use Rattle.rewritten_shapes.specs.Laws.{AreSpelled}
use Rattle.written_tokens.specs.tokens.Written.{NoNullsafeText, new_lexeme, draft_tokens}
use Rattle.written_tokens.specs.tokens.Drafted.{names_within}
use Rattle.written_tokens.specs.tokens.Parted.{parted, NamesStay}
use Rattle.written_tokens.specs.tokens.Spaced.{nameless_draft, in_parts, PartsHaveText}
use Rattle.written_tokens.specs.tokens.Texts.{PartsHaveTexts}
use Rattle.written_tokens.specs.names.Leads.{is_hash, none_hash}
use Rattle.written_tokens.specs.names.Named.{is_dollar_brace, none_dollar, all_tiles, NamedKeeps}
use Rattle.written_tokens.specs.names.NamesPut.{LeadsStay, NamesRow, NamesArePut}
use Rattle.written_tokens.specs.names.Apart.{are_apart, RowsAreCommon}
use Rattle.written_tokens.proofs.names.LeadsKept.{leads_of_files_stay}
use Rattle.rewritten_shapes.specs.paired.Traits.{PlainTraits}
use Rattle.written_reading.specs.drafts.Apart.{names_apart, NamesAreApart, texts_apart, TextsAreSafe}
use Rattle.written_tokens.specs.names.Neighbours.{is_labelled, is_parted, is_safe}
use Rattle.written_reading.specs.drafts.Laws.{NamesAreWithin, NamesOfFilesStay}
use Rattle.written_reading.specs.Laws.{RewrittenIsRead}
use Rattle.written_reading.specs.Parted.{HasRow, RowsAreLexed}
use Rattle.written_reading.proofs.Whole.{spelled as source_spelled}
use Rattle.written_reading.specs.edited.Rows.{is_clean, all_clean, DraftRow, DraftsHaveRows}
use Rattle.written_reading.proofs.edited.KeywordTexts.{keywords_have_text}
use Rattle.written_reading.specs.edited.Laws.{FilesHaveRows, WrittenFilesAreLexed, WrittenFilesAreRead}

-- ---- clean tiles

clean_tiles : (ts : List Tile) → all_clean ts ≡ all_tiles is_clean ts
clean_tiles [] = refl
clean_tiles (tile kind b a ∷ ts) = ap (λ (x : Bool). is_clean kind b a && x) (clean_tiles ts)

no_brace : (kind : Kind) (b : ℕ) (a : List ℕ) → is_clean kind b a ≡ true → not (is_dollar_brace kind) ≡ true
no_brace DollarBrace b a h = absurd cc
no_brace kind b a h = refl

no_hash : (kind : Kind) (b : ℕ) (a : List ℕ) → is_clean kind b a ≡ true → not (is_hash kind b a) ≡ true
no_hash Comment b a h = h
no_hash kind b a h = refl

clean_dollar : (ts : List Tile) → all_tiles is_clean ts ≡ true → none_dollar ts ≡ true
clean_dollar [] h = refl
clean_dollar (tile kind b a ∷ ts) h =
    let p = and_parts (is_clean kind b a) (all_tiles is_clean ts) h in
    and_from (not (is_dollar_brace kind)) (none_dollar ts) (no_brace kind b a p.0) (clean_dollar ts p.1)

clean_hash : (ts : List Tile) → all_tiles is_clean ts ≡ true → none_hash ts ≡ true
clean_hash [] h = refl
clean_hash (tile kind b a ∷ ts) h =
    let p = and_parts (is_clean kind b a) (all_tiles is_clean ts) h in
    and_from (not (is_hash kind b a)) (none_hash ts) (no_hash kind b a p.0) (clean_hash ts p.1)

-- ---- neighbours

all_three : (a b c : Bool) → a ≡ true → (b && c) ≡ true → (a && b && c) ≡ true
all_three true b c p q = q
all_three false b c p q = absurd cc

apart_by : (ts : List Lexeme) → texts_apart ts ≡ true → names_apart ts ≡ true → are_apart ts ≡ true
apart_by [] p q = refl
apart_by (t ∷ []) p q = refl
apart_by (t ∷ u ∷ ts) p q =
    let x = and_parts (is_safe t u) (texts_apart (u ∷ ts)) p in
    let y = and_parts (is_labelled t u && is_parted t u) (names_apart (u ∷ ts)) q in
    and_from (is_safe t u && is_labelled t u && is_parted t u) (are_apart (u ∷ ts)) (all_three (is_safe t u) (is_labelled t u) (is_parted t u) x.0 y.0) (apart_by (u ∷ ts) x.1 y.1)

-- ---- files

-- the tokens of a file's draft with names in parts, and its end
abbrev pub written_lexemes : File → List Lexeme
written_lexemes f = map new_lexeme (parted (in_parts f)) ++ new_lexeme (nameless_draft f).end ∷ []

-- what is known of the tokens of a file's draft
pub record Drafted (f : File) : Type 0 where
  pub within : names_within (nameless_draft f).statements ≡ true
  pub texts : PartsHaveText (draft_tokens (nameless_draft f).statements)
  pub leads : LeadsStay (draft_tokens (nameless_draft f).statements)
  pub stay : NamesStay (in_parts f)
  pub safe : texts_apart (written_lexemes f) ≡ true
  pub names : names_apart (written_lexemes f) ≡ true

module _ (keeps : NamedKeeps) (put : NamesArePut) (common : RowsAreCommon) where
  has_row : (f : File) → Drafted f → DraftRow f → HasRow f
  has_row f d r =
      let ts = draft_tokens (nameless_draft f).statements in
      let clean : all_tiles is_clean r.row ≡ true = sym (clean_tiles r.row) ∙ r.clean in
      let n : NamesRow r.row ts (new_lexeme (nameless_draft f).end) =
      put r.row ts (new_lexeme (nameless_draft f).end) (clean_dollar r.row clean) d.texts d.leads d.stay r.steps r.same in
      let kept : all_tiles is_clean n.row ≡ true = keeps is_clean false r.row n.row n.put refl clean in
      let own = common n.row n.steps (clean_dollar n.row kept) (clean_hash n.row kept)
      (ap are_apart n.tokens ∙ apart_by (written_lexemes f) d.safe d.names) in
      record {
        row = n.row;
        within = d.within;
        texts = d.texts;
        stay = d.stay;
        steps = n.steps;
        common = own.0;
        apart = own.1;
        same = n.tokens;
      }

-- what the grammar and the lexer tell of the names of files
pub record Known : Type 0 where
  pub texts : PartsHaveTexts
  pub within : NamesAreWithin
  pub stay : NamesOfFilesStay
  pub apart : NamesAreApart
  pub safe : TextsAreSafe

drafted : Known → (bytes : List ℕ) (f : File) → Reads V74 bytes f → NoNullsafeText f → PlainTraits f.statements → Drafted f
drafted known bytes f reads safe traits =
    let shape : Shape V74 f = (file_has_shape V74 reads.tokens f reads.parsed).0 in
    let texts = known.texts bytes f reads in
    let words : AreSpelled f.statements = source_spelled bytes f reads in
    record {
      within = known.within f shape words traits;
      texts = texts;
      leads = leads_of_files_stay f;
      stay = known.stay f shape words traits texts;
      safe = known.safe f shape traits safe;
      names = known.apart f shape words traits (keywords_have_text bytes f reads);
    }

pub files_have_rows : NamedKeeps → NamesArePut → RowsAreCommon → Known → DraftsHaveRows → FilesHaveRows
files_have_rows keeps put common known rows bytes f reads safe traits =
    has_row keeps put common f (drafted known bytes f reads safe traits) (rows bytes f reads traits)

pub written_files_are_lexed : FilesHaveRows → RowsAreLexed → WrittenFilesAreLexed
written_files_are_lexed rows lexed bytes f reads safe traits = lexed bytes f reads (rows bytes f reads safe traits)

pub written_files_are_read : WrittenFilesAreLexed → RewrittenIsRead → WrittenFilesAreRead
written_files_are_read lexed read bytes f reads reported safe traits = read bytes f reads reported (lexed bytes f reads safe traits)
