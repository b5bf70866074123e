-- Names apart from other words, among tokens in order.
use Rattle.std.specs.Prelude.{◌≡◌, Bool, true, false, ◌&&◌, List, [], ◌∷◌, ◌++◌, map}
use Rattle.php_tree.specs.Tree.{File}
use Rattle.php_tree.specs.declared.version.Version.TheVariants.{V74}
use Rattle.php_shapes.specs.Shapes.{Shape}
use Rattle.php_spellings.specs.Bytes.{is_empty}
use Rattle.php_lexer.specs.Lexed.{Lexeme}
use Rattle.tracked_changes.specs.Pieces.{before}
use Rattle.tracked_changes.specs.Draft.{NewToken}
use Rattle.syntax_rules.specs.SplitName.{is_keyword}
use Rattle.rewritten_shapes.specs.Laws.{AreSpelled}
use Rattle.written_tokens.specs.tokens.Parted.{parted}
use Rattle.written_tokens.specs.tokens.Spaced.{in_parts, nameless_draft}
use Rattle.written_tokens.specs.names.Neighbours.{is_labelled, is_parted, is_safe}
use Rattle.written_tokens.specs.tokens.Written.{NoNullsafeText, draft_tokens, new_lexeme}
use Rattle.rewritten_shapes.specs.paired.Traits.{PlainTraits}

-- whether all neighbours are so
abbrev pub names_apart : List Lexeme → Bool
names_apart [] = true
names_apart (t ∷ []) = true
names_apart (t ∷ u ∷ ts) = (is_labelled t u && is_parted t u) && names_apart (u ∷ ts)

-- Keywords have a text in the source.
abbrev pub KeywordsHaveText : List NewToken → Type 0
KeywordsHaveText [] = Unit {0}
KeywordsHaveText (t ∷ ts) = (is_keyword t.kind ≡ true → is_empty (before t.text) ≡ false) × KeywordsHaveText ts

-- In a file with the shape of the grammar, once edited, names in parts are apart from other words.
abbrev pub NamesAreApart : Type 0
NamesAreApart =
    (f : File) →
    Shape V74 f →
    AreSpelled f.statements →
    PlainTraits f.statements →
    KeywordsHaveText (draft_tokens (nameless_draft f).statements) →
    names_apart (map new_lexeme (parted (in_parts f)) ++ new_lexeme (nameless_draft f).end ∷ []) ≡ true

-- whether all neighbours are so
abbrev pub texts_apart : List Lexeme → Bool
texts_apart [] = true
texts_apart (t ∷ []) = true
texts_apart (t ∷ u ∷ ts) = is_safe t u && texts_apart (u ∷ ts)

-- In a file with the shape of the grammar, where no quoted text has such a piece, none has once it is edited.
abbrev pub TextsAreSafe : Type 0
TextsAreSafe =
    (f : File) →
    Shape V74 f →
    PlainTraits f.statements →
    NoNullsafeText f →
    texts_apart (map new_lexeme (parted (in_parts f)) ++ new_lexeme (nameless_draft f).end ∷ []) ≡ true
