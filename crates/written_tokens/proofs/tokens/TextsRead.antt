-- Parts of names have a text, in each file that is read.
use Rattle.std.proofs.Common.{◌≡◌, ℕ, true, false, List, [], ◌∷◌, ◌++◌, map, Option, Some, None, refl, sym, ap, ◌∙◌, subst, append_assoc}
use Rattle.php_tree.specs.declared.version.Version.TheVariants.{V74}
use Rattle.php_tree.specs.declared.token.Token.{Token}
use Rattle.php_tree.specs.declared.token.TokenKind.{TokenKind}
use Rattle.php_tree.specs.Tree.{Forest, none, leaf, node, File, leaves, file_leaves}
use Rattle.php_spellings.specs.Words.{token_of}
use Rattle.php_lexer.specs.Lexed.{Lexeme, Lexed, start, lexeme}
use Rattle.php_relexing.specs.Tiles.{Tile, tile}
use Rattle.php_relexing.specs.Spelled.{lexeme_with, spelled}
use Rattle.php_reading.specs.Reading.{Reads}
use Rattle.syntax_rules.specs.Rewritten.{patches}
use Rattle.written_tokens.specs.tokens.Texts.{PartsHaveTexts}
use Rattle.written_tokens.proofs.tokens.Tiling.{tokens_are_tiles}
use Rattle.written_tokens.proofs.tokens.Texts.{row_texts}
use Rattle.written_tokens.proofs.tokens.TextsDrafted.{FineToken, AllFine, texts_row, drafted_texts}

-- labels and names among tokens have a text
abbrev AllText : List Lexeme → Type 0
AllText [] = Unit {0}
AllText (x ∷ xs) = FineToken x.kind x.text × AllText xs

spelled_by : (k : Option TokenKind) (lead : List ℕ) (b : ℕ) (a : List ℕ) (rest : List ℕ → List Lexeme)
    → ((l : List ℕ) → AllText (rest l)) → AllText (lexeme_with k lead (b ∷ a) rest)
spelled_by None lead b a rest h = h (lead ++ b ∷ a)
spelled_by (Some k) lead b a rest h = (λ w. refl, h [])

spelled_text : (lead : List ℕ) (ts : List Tile) → AllText (spelled lead ts)
spelled_text lead [] = (λ h. absurd cc, tt)
spelled_text lead (tile kind b a ∷ ts) = spelled_by (token_of kind (b ∷ a)) lead b a (λ l. spelled l ts) (λ l. spelled_text l ts)

leaves_fine : (f : Forest) (rest : List Token) → AllText (map lexeme (leaves f ++ rest)) → AllFine f × AllText (map lexeme rest)
leaves_fine none rest h = (tt, h)
leaves_fine (leaf t f) rest h = let (p, q) = leaves_fine f rest h.1 in ((h.0, p), q)
leaves_fine (node k c f) rest h =
    let (p, q) = leaves_fine c (leaves f ++ rest) (subst (λ (ts : List Token). AllText (map lexeme ts)) (append_assoc (leaves c) (leaves f) rest) h) in
    let (r, s) = leaves_fine f rest q in
    ((p, r), s)

file_fine : (bytes : List ℕ) (f : File) → Reads V74 bytes f → AllFine f.statements
file_fine bytes f r =
    let row = tokens_are_tiles V74 start [] bytes (map lexeme (file_leaves f))
    (subst (λ (ts : List Token). Lexed V74 start [] bytes (map lexeme ts)) r.parsed.text r.lexed.lexed) in
    let texts : AllText (map lexeme (file_leaves f)) = subst AllText row.tokens (spelled_text [] row.tiles) in
    (leaves_fine f.statements (f.end ∷ []) texts).0

pub parts_have_texts : PartsHaveTexts
parts_have_texts bytes f r = row_texts (texts_row (drafted_texts (patches f.statements) 0 f.statements (file_fine bytes f r)))
