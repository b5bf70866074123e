-- A 7.4 source has no whole name with `\`.
use Rattle.std.proofs.Common.{◌≡◌, ℕ, Bool, true, false, not, cond, ◌&&◌, nat_le, List, [], ◌∷◌, ◌++◌, map, take, drop, Option, Some, refl, sym, subst}
use Rattle.php_tree.specs.declared.version.Version.TheVariants.{V74}
use Rattle.php_tree.specs.declared.token.Token.{Token}
use Rattle.php_tree.specs.declared.token.TokenKind.{TokenKind}
use Rattle.php_tree.specs.declared.token.TokenKind.TheVariants as sort
use Rattle.php_tree.specs.Tree.{Forest, none, leaf, node, leaves}
use Rattle.php_spellings.specs.declared.table.Kind.{Kind}
use Rattle.php_spellings.specs.declared.table.Kind.TheVariants as kind
use Rattle.php_spellings.specs.declared.table.Mark.TheVariants.{Double, Back, Here}
use Rattle.php_spellings.specs.Bytes.{lower}
use Rattle.php_spellings.specs.Words.{token_of, is_keyword, value_from, greatest_int, whole_number}
use Rattle.php_lexer.specs.Heredocs.{led}
use Rattle.php_lexer.specs.Lexed.{Lexeme, Stack, Lexed, ends, trivia, token, lexeme, TokensOf}
use Rattle.php_lexer.specs.Modes.{Mode, html, code, named, quoted, offset, property, rows_of, label_in}
use Rattle.php_lexer.specs.Rules.{Row, rule, is_tail, kind_by}
use Rattle.syntax_rules.specs.SplitName.{is_name}
use Rattle.nothing_reported.specs.Laws.{HasNoName}

abbrev is_whole : Kind → Bool
is_whole kind.Name = true
is_whole _ = false

abbrev has_none : List Row → Bool
has_none [] = true
has_none (rule k w tail ∷ rows) = not (is_whole k) && has_none rows

not_true : (b c : Bool) → (not b && c) ≡ true → b ≡ false
not_true true c e = sym e
not_true false c e = refl

others : (b c : Bool) → (not b && c) ≡ true → c ≡ true
others true c e = cc
others false c e = e

same_kind : (k j : Kind) → Some k ≡ Some j → k ≡ j
same_kind k j e = cc

none_by : (label : List ℕ) (rows : List Row) → has_none rows ≡ true → (k : Kind) (text rest : List ℕ) → kind_by label rows text rest ≡ Some k → is_whole k ≡ false
none_by label [] h k text rest e = absurd cc
none_by label (rule j w tail ∷ rows) h k text rest e =
    by (led lower w (is_tail label tail) text rest) (none_by label rows (others (is_whole j) (has_none rows) h) k text rest) e
  where
    by : (t : Bool) → (kind_by label rows text rest ≡ Some k → is_whole k ≡ false) → cond t (Some j) (kind_by label rows text rest) ≡ Some k → is_whole k ≡ false
    by true g q = subst (λ (x : Kind). is_whole x ≡ false) (same_kind j k q) (not_true (is_whole j) (has_none rows) h)
    by false g q = g q

mode_none : (m : Mode) → has_none (rows_of V74 m) ≡ true
mode_none html = refl
mode_none code = refl
mode_none named = refl
mode_none (quoted Double label fresh) = refl
mode_none (quoted Back label fresh) = refl
mode_none (quoted Here label true) = refl
mode_none (quoted Here label false) = refl
mode_none offset = refl
mode_none property = refl

-- ---- the kind of a token

abbrev some_token : TokenKind → Option TokenKind
some_token t = Some t

same_token : (t u : TokenKind) → some_token t ≡ some_token u → t ≡ u
same_token t u e = cc

abbrev Plain : TokenKind → Type 0
Plain t = is_name t ≡ false

number : (b : Bool) → Plain (cond b sort.Int sort.Float)
number true = refl
number false = refl

whole : (n : ℕ) (text : List ℕ) → Plain (whole_number n text)
whole n text = number (nat_le (value_from n 0 text) greatest_int)

word : (b : Bool) → Plain (cond b sort.Keyword sort.Label)
word true = refl
word false = refl

token_plain : (k : Kind) (text : List ℕ) (t : TokenKind) → is_whole k ≡ false → token_of k text ≡ Some t → Plain t
token_plain kind.Space text t h e = absurd cc
token_plain kind.Comment text t h e = absurd cc
token_plain kind.Tag text t h e = absurd cc
token_plain kind.Name text t h e = absurd cc
token_plain kind.Word text t h e = subst Plain (same_token _ t e) (word (is_keyword text))
token_plain kind.Decimal text t h e = subst Plain (same_token _ t e) (whole 10 text)
token_plain kind.Octal text t h e = subst Plain (same_token _ t e) (whole 8 text)
token_plain kind.Hexadecimal text t h e = subst Plain (same_token _ t e) (whole 16 (drop 2 text))
token_plain kind.Binary text t h e = subst Plain (same_token _ t e) (whole 2 (drop 2 text))
token_plain kind.OpenEcho text t h e = subst Plain (same_token _ t e) refl
token_plain kind.InlineHtml text t h e = subst Plain (same_token _ t e) refl
token_plain kind.Variable text t h e = subst Plain (same_token _ t e) refl
token_plain kind.Label text t h e = subst Plain (same_token _ t e) refl
token_plain kind.Keyword text t h e = subst Plain (same_token _ t e) refl
token_plain kind.Digits text t h e = subst Plain (same_token _ t e) refl
token_plain kind.Float text t h e = subst Plain (same_token _ t e) refl
token_plain kind.Text text t h e = subst Plain (same_token _ t e) refl
token_plain kind.Quote text t h e = subst Plain (same_token _ t e) refl
token_plain kind.Backtick text t h e = subst Plain (same_token _ t e) refl
token_plain kind.HeredocStart text t h e = subst Plain (same_token _ t e) refl
token_plain kind.Cast text t h e = subst Plain (same_token _ t e) refl
token_plain kind.Op text t h e = subst Plain (same_token _ t e) refl
token_plain kind.AttributeOpen text t h e = subst Plain (same_token _ t e) refl
token_plain kind.Semi text t h e = subst Plain (same_token _ t e) refl
token_plain kind.Close text t h e = subst Plain (same_token _ t e) refl
token_plain kind.Piece text t h e = subst Plain (same_token _ t e) refl
token_plain kind.CurlyOpen text t h e = subst Plain (same_token _ t e) refl
token_plain kind.DollarBrace text t h e = subst Plain (same_token _ t e) refl
token_plain kind.VarName text t h e = subst Plain (same_token _ t e) refl
token_plain kind.QuotedEnd text t h e = subst Plain (same_token _ t e) refl

-- ---- all tokens

abbrev AllPlain : List Lexeme → Type 0
AllPlain [] = Unit {0}
AllPlain (x ∷ xs) = Plain x.kind × AllPlain xs

lexed_plain : {stack : Stack} {lead bytes : List ℕ} {ts : List Lexeme} → Lexed V74 stack lead bytes ts → AllPlain ts
lexed_plain (ends e d) = (refl, tt)
lexed_plain (trivia k n h e rest) = lexed_plain rest
lexed_plain (token {stack = stack} {bytes = bytes} k n t h e rest) = (
  token_plain k (take n bytes) t (none_by (label_in stack.top) (rows_of V74 stack.top) (mode_none stack.top) k (take n bytes) (drop n bytes) h.is) e,
  lexed_plain rest,
)

-- ---- the leaves of a forest

abbrev ArePlain : List Token → Type 0
ArePlain [] = Unit {0}
ArePlain (t ∷ ts) = Plain t.kind × ArePlain ts

plain_of : (ts : List Token) → AllPlain (map lexeme ts) → ArePlain ts
plain_of [] h = tt
plain_of (t ∷ ts) h = (h.0, plain_of ts h.1)

plain_both : (ts us : List Token) → ArePlain (ts ++ us) → ArePlain ts × ArePlain us
plain_both [] us h = (tt, h)
plain_both (t ∷ ts) us h = let r = plain_both ts us h.1 in ((h.0, r.0), r.1)

leaves_plain : (f : Forest) → ArePlain (leaves f) → HasNoName f
leaves_plain none h = tt
leaves_plain (leaf x f) h = (h.0, leaves_plain f h.1)
leaves_plain (node k c f) h = let r = plain_both (leaves c) (leaves f) h in (leaves_plain c r.0, leaves_plain f r.1)

pub old_sources : (bytes : List ℕ) (f : Forest) (us : List Token) → TokensOf V74 bytes (leaves f ++ us) → HasNoName f
old_sources bytes f us h = leaves_plain f (plain_both (leaves f) us (plain_of (leaves f ++ us) (lexed_plain h.lexed))).0
