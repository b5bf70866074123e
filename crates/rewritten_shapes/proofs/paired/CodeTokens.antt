-- Tokens of code that are neither braces nor round brackets, told by their classes.
use Rattle.std.proofs.Common.{◌≡◌, ℕ, Bool, true, false, not, ◌&&◌, ◌||◌, List, [], ◌∷◌, refl, ap, ◌∙◌}
use Rattle.std.proofs.lemmas.Bool.{eqb-true, and_from, false_from_ne_true}
use Rattle.php_tree.specs.declared.token.Token.{Token}
use Rattle.php_tree.specs.declared.token.TokenKind.{TokenKind}
use Rattle.php_tree.specs.declared.token.TokenKind.TheVariants as kind
use Rattle.php_tree.specs.declared.version.Version.TheVariants.{V74}
use Rattle.php_terminals.specs.declared.terminal.Terminal.{Terminal}
use Rattle.php_terminals.specs.declared.terminal.Terminal.TheVariants as t
use Rattle.php_terminals.specs.Classify.{is_word_kind, name, terminal, terminal_by}
use Rattle.php_terminals.specs.Terminals.{code}
use Rattle.php_terminals.specs.Words.{operator, operators}
use Rattle.php_lexer.specs.Modes.{is_byte}
use Rattle.php_grammar.specs.Accepts.{accepts}
use Rattle.rewritten_shapes.specs.paired.Tokens.{IsMark, is_code_kind, is_code_token, is_mark, is_op}
use Rattle.rewritten_shapes.proofs.paired.Asked.{asks, both_right, is_one_of, no_clash, taken}
use Rattle.rewritten_shapes.proofs.paired.Marks.{name_not}

-- the classes of braces, round brackets, tokens of quoted texts, and tokens that 7.4 lacks
unfoldable pub outer : List Terminal
outer =
    t.QuoteOpen ∷ t.Piece ∷ t.CurlyOpen ∷ t.DollarBrace ∷ t.VarName ∷ t.QuotedEnd ∷ t.AttributeOpen ∷ t.QualifiedName
    ∷ t.FullName ∷ t.RelativeName ∷ t.End ∷ t.OpenParen ∷ t.CloseParen ∷ t.OpenBrace ∷ t.CloseBrace ∷ []

-- whether a class is none of these, by its number
abbrev pub is_inner : ℕ → Bool
is_inner n = not (is_one_of outer n)

inner_name : (text : List ℕ) → is_inner (code (name text)) ≡ false
unfolding outer
inner_name text = name_not (λ own. is_inner (code own)) text refl refl refl

inner_kind : (sort : TokenKind) (text : List ℕ) → is_inner (code (terminal_by sort text)) ≡ true → is_code_kind sort ≡ true
unfolding outer
inner_kind kind.Quote text e = absurd cc
inner_kind kind.HeredocStart text e = absurd cc
inner_kind kind.Backtick text e = absurd cc
inner_kind kind.AttributeOpen text e = absurd cc
inner_kind kind.Name text e = absurd (no_clash (inner_name text) e)
inner_kind kind.End text e = absurd cc
inner_kind kind.Piece text e = absurd cc
inner_kind kind.CurlyOpen text e = absurd cc
inner_kind kind.DollarBrace text e = absurd cc
inner_kind kind.VarName text e = absurd cc
inner_kind kind.QuotedEnd text e = absurd cc
inner_kind _ text e = refl

byte_text : (b : ℕ) (text : List ℕ) → is_byte b text ≡ true → text ≡ b ∷ []
byte_text b [] e = absurd cc
byte_text b (a ∷ []) e = ap (λ (c : ℕ). c ∷ []) (eqb-true a b e)
byte_text b (a ∷ c ∷ bs) e = absurd cc

-- such a token isn't this byte, which has an outer class
no_byte : (b : ℕ) (sort : TokenKind) (text : List ℕ) → is_inner (code (operator (b ∷ []))) ≡ false
    → is_inner (code (terminal_by sort text)) ≡ true → (is_op sort && is_byte b text) ≡ false
no_byte b kind.Op text d e =
    false_from_ne_true (is_byte b text) (λ h. no_clash (ap (λ (z : List ℕ). is_inner (code (operator z))) (byte_text b text h) ∙ d) e)
no_byte b _ text d e = refl

none_of : (a b c d : Bool) → a ≡ false → b ≡ false → c ≡ false → d ≡ false → not (a || (b || (c || d))) ≡ true
none_of false false false false p q r s = refl
none_of true b c d p q r s = cc
none_of false true c d p q r s = cc
none_of false false true d p q r s = cc
none_of false false false true p q r s = cc

inner_code : (x : Token) → is_inner (code (terminal x)) ≡ true → is_code_token x ≡ true
unfolding operators outer
inner_code x e =
    and_from (is_code_kind x.kind) (not (is_mark 40 x || (is_mark 41 x || (is_mark 123 x || is_mark 125 x)))) (inner_kind x.kind x.text e)
    (none_of (is_mark 40 x) (is_mark 41 x) (is_mark 123 x) (is_mark 125 x)
    (no_byte 40 x.kind x.text refl e) (no_byte 41 x.kind x.text refl e) (no_byte 123 x.kind x.text refl e) (no_byte 125 x.kind x.text refl e))

word_code : (sort : TokenKind) (text : List ℕ) → is_word_kind sort ≡ true
    → (is_code_kind sort && not (is_op sort && is_byte 40 text
    || (is_op sort && is_byte 41 text || (is_op sort && is_byte 123 text || is_op sort && is_byte 125 text)))) ≡ true
word_code kind.Label text e = refl
word_code kind.Keyword text e = refl
word_code _ text e = absurd cc

pub code_taken : (c : Terminal) (x : Token) → asks is_inner c ≡ true → accepts V74 c x ≡ true → is_code_token x ≡ true
code_taken = taken is_inner is_code_token inner_code (λ x e. word_code x.kind x.text e)

fourth : (a b c d : Bool) → not (a || (b || (c || d))) ≡ true → c ≡ false
fourth true b c d e = absurd cc
fourth false true c d e = absurd cc
fourth false false true d e = absurd cc
fourth false false false d e = refl

-- it is no `{`
pub no_brace : (x : Token) → is_code_token x ≡ true → is_mark 123 x ≡ false
no_brace x e =
    fourth (is_mark 40 x) (is_mark 41 x) (is_mark 123 x) (is_mark 125 x)
    (both_right (is_code_kind x.kind) (not (is_mark 40 x || (is_mark 41 x || (is_mark 123 x || is_mark 125 x)))) e)

pub is_brace : (x : Token) → IsMark 123 x → is_mark 123 x ≡ true
is_brace x m = ap (λ (sort : TokenKind). is_op sort && is_byte 123 x.text) m.kind ∙ ap (is_byte 123) m.text
