-- The tokens of a source have the texts of labels, casts and `${`.
use Rattle.std.proofs.Common.{◌≡◌, ℕ, Bool, true, false, cond, not, ◌&&◌, List, [], ◌∷◌, map, take, drop, Option, Some, refl, subst}
use Rattle.php_tree.specs.declared.version.Version.{Version}
use Rattle.php_tree.specs.declared.token.Token.{Token}
use Rattle.php_tree.specs.declared.token.TokenKind.{TokenKind}
use Rattle.php_tree.specs.declared.token.TokenKind.TheVariants as token
use Rattle.php_spellings.specs.declared.table.Kind.{Kind}
use Rattle.php_spellings.specs.declared.table.Kind.TheVariants as kind
use Rattle.php_spellings.specs.Bytes.{is_empty}
use Rattle.php_spellings.specs.Words.{token_of, is_keyword}
use Rattle.php_lexer.specs.Modes.{label_in}
use Rattle.php_lexer.specs.Lexed.{Lexeme, Stack, Lexed, ends, trivia, token, lexeme, TokensOf}
use Rattle.rewritten_shapes.specs.Laws.{has_no_root}
use Rattle.written_reading.proofs.Rows.{Tells, told}
use Rattle.written_reading.proofs.Texts.{label_text, dollar_brace}
use Rattle.written_reading.proofs.CastTexts.{cast_text}
use Rattle.written_reading.specs.Spellings.{is_source_text}

abbrev some_token : TokenKind → Option TokenKind
some_token t = Some t

same_kind : (t u : TokenKind) → some_token t ≡ some_token u → t ≡ u
same_kind t u e = cc

abbrev IsSpelled : TokenKind → List ℕ → Type 0
IsSpelled t text = is_source_text t text ≡ true

number : (b : Bool) (text : List ℕ) → IsSpelled (cond b token.Int token.Float) text
number true text = refl
number false text = refl

word : (b : Bool) (text : List ℕ) → (not (is_empty text) && has_no_root text) ≡ true → IsSpelled (cond b token.Keyword token.Label) text
word true text h = refl
word false text h = h

spelled_as : (k : Kind) (label text rest : List ℕ) → Tells k label text rest → (t : TokenKind) → token_of k text ≡ Some t → IsSpelled t text
spelled_as kind.Word label text rest h t e = subst (λ (x : TokenKind). IsSpelled x text) (same_kind _ t e) (word (is_keyword text) text (label_text [] text rest h))
spelled_as kind.Label label text rest h t e = subst (λ (x : TokenKind). IsSpelled x text) (same_kind token.Label t e) (label_text label text rest h)
spelled_as kind.Cast label text rest h t e = subst (λ (x : TokenKind). IsSpelled x text) (same_kind token.Cast t e) (cast_text text rest h)
spelled_as kind.DollarBrace label text rest h t e = subst (λ (x : TokenKind). IsSpelled x text) (same_kind token.DollarBrace t e) (dollar_brace text rest h)
spelled_as kind.Decimal label text rest h t e = subst (λ (x : TokenKind). IsSpelled x text) (same_kind _ t e) (number _ text)
spelled_as kind.Octal label text rest h t e = subst (λ (x : TokenKind). IsSpelled x text) (same_kind _ t e) (number _ text)
spelled_as kind.Hexadecimal label text rest h t e = subst (λ (x : TokenKind). IsSpelled x text) (same_kind _ t e) (number _ text)
spelled_as kind.Binary label text rest h t e = subst (λ (x : TokenKind). IsSpelled x text) (same_kind _ t e) (number _ text)
spelled_as kind.Space label text rest h t e = absurd cc
spelled_as kind.Comment label text rest h t e = absurd cc
spelled_as kind.Tag label text rest h t e = absurd cc
spelled_as kind.OpenEcho label text rest h t e = subst (λ (x : TokenKind). IsSpelled x text) (same_kind token.OpenEcho t e) refl
spelled_as kind.InlineHtml label text rest h t e = subst (λ (x : TokenKind). IsSpelled x text) (same_kind token.InlineHtml t e) refl
spelled_as kind.Variable label text rest h t e = subst (λ (x : TokenKind). IsSpelled x text) (same_kind token.Variable t e) refl
spelled_as kind.Keyword label text rest h t e = subst (λ (x : TokenKind). IsSpelled x text) (same_kind token.Keyword t e) refl
spelled_as kind.Name label text rest h t e = subst (λ (x : TokenKind). IsSpelled x text) (same_kind token.Name t e) refl
spelled_as kind.Digits label text rest h t e = subst (λ (x : TokenKind). IsSpelled x text) (same_kind token.Int t e) refl
spelled_as kind.Float label text rest h t e = subst (λ (x : TokenKind). IsSpelled x text) (same_kind token.Float t e) refl
spelled_as kind.Text label text rest h t e = subst (λ (x : TokenKind). IsSpelled x text) (same_kind token.Text t e) refl
spelled_as kind.Quote label text rest h t e = subst (λ (x : TokenKind). IsSpelled x text) (same_kind token.Quote t e) refl
spelled_as kind.Backtick label text rest h t e = subst (λ (x : TokenKind). IsSpelled x text) (same_kind token.Backtick t e) refl
spelled_as kind.HeredocStart label text rest h t e = subst (λ (x : TokenKind). IsSpelled x text) (same_kind token.HeredocStart t e) refl
spelled_as kind.Op label text rest h t e = subst (λ (x : TokenKind). IsSpelled x text) (same_kind token.Op t e) refl
spelled_as kind.AttributeOpen label text rest h t e = subst (λ (x : TokenKind). IsSpelled x text) (same_kind token.AttributeOpen t e) refl
spelled_as kind.Semi label text rest h t e = subst (λ (x : TokenKind). IsSpelled x text) (same_kind token.Semi t e) refl
spelled_as kind.Close label text rest h t e = subst (λ (x : TokenKind). IsSpelled x text) (same_kind token.Close t e) refl
spelled_as kind.Piece label text rest h t e = subst (λ (x : TokenKind). IsSpelled x text) (same_kind token.Piece t e) refl
spelled_as kind.CurlyOpen label text rest h t e = subst (λ (x : TokenKind). IsSpelled x text) (same_kind token.CurlyOpen t e) refl
spelled_as kind.VarName label text rest h t e = subst (λ (x : TokenKind). IsSpelled x text) (same_kind token.VarName t e) refl
spelled_as kind.QuotedEnd label text rest h t e = subst (λ (x : TokenKind). IsSpelled x text) (same_kind token.QuotedEnd t e) refl

-- ---- all tokens

abbrev AllSpelled : List Lexeme → Type 0
AllSpelled [] = Unit {0}
AllSpelled (x ∷ xs) = IsSpelled x.kind x.text × AllSpelled xs

pub lexed_spelled : {v : Version} {stack : Stack} {lead bytes : List ℕ} {ts : List Lexeme} → Lexed v stack lead bytes ts → AllSpelled ts
lexed_spelled (ends e d) = (refl, tt)
lexed_spelled (trivia k n h e rest) = lexed_spelled rest
lexed_spelled (token {version = v} {stack = stack} {bytes = bytes} k n t h e rest) =
    (spelled_as k (label_in stack.top) (take n bytes) (drop n bytes) (told v stack.top k (take n bytes) (drop n bytes) h.is) t e, lexed_spelled rest)

-- ---- the leaves of a forest

abbrev pub AreSource : List Token → Type 0
AreSource [] = Unit {0}
AreSource (t ∷ ts) = IsSpelled t.kind t.text × AreSource ts

source_of : (ts : List Token) → AllSpelled (map lexeme ts) → AreSource ts
source_of [] h = tt
source_of (t ∷ ts) h = (h.0, source_of ts h.1)

pub tokens_are_source : (v : Version) (bytes : List ℕ) (ts : List Token) → TokensOf v bytes ts → AreSource ts
tokens_are_source v bytes ts h = source_of ts (lexed_spelled h.lexed)
