-- Tokens told by their classes: operators and brackets, the tokens of quoted texts, and the others.
use Rattle.std.proofs.Common.{◌≡◌, ℕ, Bool, true, false, cond, ◌&&◌, ◌||◌, nat_eq, nat_lt, codes, List, [], ◌∷◌, length, slice_index, refl, sym, ap, ◌∙◌}
use Rattle.std.specs.Char.{to_ascii_lowercase}
use Rattle.std.proofs.lemmas.Bool.{eqb-true}
use Rattle.php_tree.specs.declared.token.Token.{Token}
use Rattle.php_tree.specs.declared.token.TokenKind.{TokenKind}
use Rattle.php_tree.specs.declared.token.TokenKind.TheVariants as kind
use Rattle.php_tree.specs.declared.version.Version.TheVariants.{V74}
use Rattle.php_terminals.specs.declared.terminal.Terminal.{Terminal}
use Rattle.php_terminals.specs.declared.terminal.Terminal.TheVariants as t
use Rattle.php_terminals.specs.Classify.{cast, cast_letter, name, opening, terminal, terminal_by}
use Rattle.php_terminals.specs.Terminals.{code}
use Rattle.php_terminals.specs.Words.{find_row, front, is_word, keyword, keywords, label, labels, operator, operators}
use Rattle.php_grammar.specs.Accepts.{accepts, same_class}
use Rattle.rewritten_shapes.proofs.OperatorWords.{found, is_any, low_word, no_row, rows_not, words_of}
use Rattle.rewritten_shapes.specs.paired.Tokens.{IsMark, opens_text}
use Rattle.rewritten_shapes.proofs.paired.Asked.{is_one_of, no_clash}

-- a test that holds of no class that tokens of a kind with a table have
module _ (p : Terminal → Bool) where
  cond_not : (b : Bool) (x y : Terminal) → p x ≡ false → p y ≡ false → p (cond b x y) ≡ false
  cond_not true x y e d = e
  cond_not false x y e d = d

  pub keyword_not : (text : List ℕ) → no_row p keywords ≡ true → p t.OtherKeyword ≡ false → p t.YieldFrom ≡ false → p (keyword text) ≡ false
  keyword_not text h e d =
      cond_not (nat_lt 5 (length text) && is_word (codes "yield") (front 5 text)) t.YieldFrom (find_row t.OtherKeyword keywords text) d
      (rows_not p t.OtherKeyword keywords text e h)

  pub label_not : (text : List ℕ) → no_row p labels ≡ true → p t.Label ≡ false → p (label text) ≡ false
  label_not text h e = rows_not p t.Label labels text e h

  pub operator_not : (text : List ℕ) → no_row p operators ≡ true → p t.OtherOp ≡ false → p (operator text) ≡ false
  operator_not text h e = rows_not p t.OtherOp operators text e h

  pub cast_not : (text : List ℕ) → p t.OldCast ≡ false → p t.Cast ≡ false → p (cast text) ≡ false
  cast_not text e d =
      cond_not (nat_lt (opening text) (length text)) (cast_letter (to_ascii_lowercase (slice_index text (opening text)))) t.Cast
      (cond_not (nat_eq (to_ascii_lowercase (slice_index text (opening text))) 114 || nat_eq (to_ascii_lowercase (slice_index text (opening text))) 117) t.OldCast t.Cast e d) d

  pub name_not : (text : List ℕ) → p t.FullName ≡ false → p t.RelativeName ≡ false → p t.QualifiedName ≡ false → p (name text) ≡ false
  name_not text e d c =
      cond_not (is_word (codes "\\") (front 1 text)) t.FullName (cond (is_word (codes "namespace\\") (front 10 text)) t.RelativeName t.QualifiedName) e
      (cond_not (is_word (codes "namespace\\") (front 10 text)) t.RelativeName t.QualifiedName d c)

-- ---- operators and brackets

-- the classes of operators and brackets that are told here
unfoldable pub signs : List Terminal
signs =
    t.OpenParen ∷ t.CloseParen ∷ t.OpenBracket ∷ t.CloseBracket ∷ t.OpenBrace ∷ t.CloseBrace ∷ t.Arrow ∷ t.Minus
    ∷ t.Question ∷ t.Dot ∷ []

abbrev pub is_sign : Terminal → Bool
is_sign own = is_one_of signs (code own)

sign_keyword : (text : List ℕ) → is_sign (keyword text) ≡ false
unfolding keywords signs
sign_keyword text = keyword_not is_sign text refl refl refl

sign_label : (text : List ℕ) → is_sign (label text) ≡ false
unfolding labels signs
sign_label text = label_not is_sign text refl refl

sign_cast : (text : List ℕ) → is_sign (cast text) ≡ false
unfolding signs
sign_cast text = cast_not is_sign text refl refl

sign_name : (text : List ℕ) → is_sign (name text) ≡ false
unfolding signs
sign_name text = name_not is_sign text refl refl refl

sign_by : (sort : TokenKind) (text : List ℕ) → is_sign (terminal_by sort text) ≡ true → sort ≡ kind.Op
unfolding signs
sign_by kind.Op text e = refl
sign_by kind.Label text e = absurd (no_clash (sign_label text) e)
sign_by kind.Keyword text e = absurd (no_clash (sign_keyword text) e)
sign_by kind.Cast text e = absurd (no_clash (sign_cast text) e)
sign_by kind.Name text e = absurd (no_clash (sign_name text) e)
sign_by _ text e = absurd cc

sign_same : (c : Terminal) (x : Token) → is_sign c ≡ true → same_class c (terminal x) ≡ true → is_sign (terminal x) ≡ true
sign_same c x h e = ap (is_one_of signs) (sym (eqb-true (code c) (code (terminal x)) e)) ∙ h

-- they are operators
pub sign_kind : (c : Terminal) (x : Token) → is_sign c ≡ true → same_class c (terminal x) ≡ true → x.kind ≡ kind.Op
sign_kind c x h e = sign_by x.kind x.text (sign_same c x h e)

one_alone : (w text : List ℕ) → is_any (w ∷ []) text ≡ true → is_word w text ≡ true
one_alone w text e = go (is_word w text) e
  where
    go : (a : Bool) → (a || false) ≡ true → a ≡ true
    go true e = refl
    go false e = e

-- one that is a byte alone
mark_by : (c : Terminal) (b : ℕ) (x : Token) → is_sign c ≡ true → same_class c t.OtherOp ≡ false
    → words_of c operators ≡ (b ∷ []) ∷ [] → ((text : List ℕ) → is_word (b ∷ []) text ≡ true → text ≡ b ∷ [])
    → same_class c (terminal x) ≡ true → IsMark b x
mark_by c b x h n w l e =
    let k : x.kind ≡ kind.Op = sign_kind c x h e in
    let o : same_class c (operator x.text) ≡ true = ap (λ (sort : TokenKind). same_class c (terminal_by sort x.text)) (sym k) ∙ e in
    let a : is_any ((b ∷ []) ∷ []) x.text ≡ true = ap (λ (ws : List (List ℕ)). is_any ws x.text) (sym w) ∙ found c t.OtherOp operators x.text n o in
    record { kind = k; text = l x.text (one_alone (b ∷ []) x.text a) }

pub open_paren : (x : Token) → accepts V74 t.OpenParen x ≡ true → IsMark 40 x
unfolding operators signs
open_paren x e = mark_by t.OpenParen 40 x refl refl refl (λ text h. low_word (40 ∷ []) text refl h) e

pub close_paren : (x : Token) → accepts V74 t.CloseParen x ≡ true → IsMark 41 x
unfolding operators signs
close_paren x e = mark_by t.CloseParen 41 x refl refl refl (λ text h. low_word (41 ∷ []) text refl h) e

pub open_bracket : (x : Token) → accepts V74 t.OpenBracket x ≡ true → IsMark 91 x
unfolding operators signs
open_bracket x e = mark_by t.OpenBracket 91 x refl refl refl (λ text h. low_word (91 ∷ []) text refl h) e

pub close_bracket : (x : Token) → accepts V74 t.CloseBracket x ≡ true → IsMark 93 x
unfolding operators signs
close_bracket x e = mark_by t.CloseBracket 93 x refl refl refl (λ text h. low_word (93 ∷ []) text refl h) e

pub open_brace : (x : Token) → accepts V74 t.OpenBrace x ≡ true → IsMark 123 x
unfolding operators signs
open_brace x e = mark_by t.OpenBrace 123 x refl refl refl (λ text h. low_word (123 ∷ []) text refl h) e

pub close_brace : (x : Token) → accepts V74 t.CloseBrace x ≡ true → IsMark 125 x
unfolding operators signs
close_brace x e = mark_by t.CloseBrace 125 x refl refl refl (λ text h. low_word (125 ∷ []) text refl h) e

pub minus : (x : Token) → accepts V74 t.Minus x ≡ true → IsMark 45 x
unfolding operators signs
minus x e = mark_by t.Minus 45 x refl refl refl (λ text h. low_word (45 ∷ []) text refl h) e

pub arrow : (x : Token) → accepts V74 t.Arrow x ≡ true → x.kind ≡ kind.Op
unfolding signs
arrow x e = sign_kind t.Arrow x refl e

pub arrow_text : (x : Token) → accepts V74 t.Arrow x ≡ true → x.text ≡ 45 ∷ 62 ∷ []
unfolding operators signs
arrow_text x e =
    let o : same_class t.Arrow (operator x.text) ≡ true = ap (λ (sort : TokenKind). same_class t.Arrow (terminal_by sort x.text)) (sym (arrow x e)) ∙ e in
    low_word (45 ∷ 62 ∷ []) x.text refl (one_alone (45 ∷ 62 ∷ []) x.text (found t.Arrow t.OtherOp operators x.text refl o))

pub question : (x : Token) → accepts V74 t.Question x ≡ true → x.kind ≡ kind.Op
unfolding signs
question x e = sign_kind t.Question x refl e

-- ---- tokens whose kind is told by the class alone

unfoldable told : List Terminal
told =
    t.Piece ∷ t.CurlyOpen ∷ t.DollarBrace ∷ t.VarName ∷ t.QuotedEnd ∷ t.QuoteOpen ∷ t.Int ∷ t.Variable ∷ []

abbrev is_told : Terminal → Bool
is_told own = is_one_of told (code own)

told_keyword : (text : List ℕ) → is_told (keyword text) ≡ false
unfolding keywords told
told_keyword text = keyword_not is_told text refl refl refl

told_label : (text : List ℕ) → is_told (label text) ≡ false
unfolding labels told
told_label text = label_not is_told text refl refl

told_operator : (text : List ℕ) → is_told (operator text) ≡ false
unfolding operators told
told_operator text = operator_not is_told text refl refl

told_cast : (text : List ℕ) → is_told (cast text) ≡ false
unfolding told
told_cast text = cast_not is_told text refl refl

told_name : (text : List ℕ) → is_told (name text) ≡ false
unfolding told
told_name text = name_not is_told text refl refl refl

-- the kind is one whose tokens all have the class
told_by : (sort : TokenKind) (text : List ℕ) → is_told (terminal_by sort text) ≡ true → terminal_by sort text ≡ terminal_by sort []
told_by kind.Label text e = absurd (no_clash (told_label text) e)
told_by kind.Keyword text e = absurd (no_clash (told_keyword text) e)
told_by kind.Op text e = absurd (no_clash (told_operator text) e)
told_by kind.Cast text e = absurd (no_clash (told_cast text) e)
told_by kind.Name text e = absurd (no_clash (told_name text) e)
told_by _ text e = refl

told_same : (c : Terminal) (x : Token) → is_told c ≡ true → same_class c (terminal x) ≡ true → same_class c (terminal_by x.kind []) ≡ true
told_same c x h e =
    let own : is_told (terminal x) ≡ true = ap (is_one_of told) (sym (eqb-true (code c) (code (terminal x)) e)) ∙ h in
    ap (same_class c) (sym (told_by x.kind x.text own)) ∙ e

piece_kind : (sort : TokenKind) → same_class t.Piece (terminal_by sort []) ≡ true → sort ≡ kind.Piece
unfolding keywords labels operators
piece_kind kind.Piece e = refl
piece_kind _ e = absurd cc

curly_kind : (sort : TokenKind) → same_class t.CurlyOpen (terminal_by sort []) ≡ true → sort ≡ kind.CurlyOpen
unfolding keywords labels operators
curly_kind kind.CurlyOpen e = refl
curly_kind _ e = absurd cc

dollar_kind : (sort : TokenKind) → same_class t.DollarBrace (terminal_by sort []) ≡ true → sort ≡ kind.DollarBrace
unfolding keywords labels operators
dollar_kind kind.DollarBrace e = refl
dollar_kind _ e = absurd cc

var_name_kind : (sort : TokenKind) → same_class t.VarName (terminal_by sort []) ≡ true → sort ≡ kind.VarName
unfolding keywords labels operators
var_name_kind kind.VarName e = refl
var_name_kind _ e = absurd cc

text_end_kind : (sort : TokenKind) → same_class t.QuotedEnd (terminal_by sort []) ≡ true → sort ≡ kind.QuotedEnd
unfolding keywords labels operators
text_end_kind kind.QuotedEnd e = refl
text_end_kind _ e = absurd cc

opening_kind : (sort : TokenKind) → same_class t.QuoteOpen (terminal_by sort []) ≡ true → opens_text sort ≡ true
unfolding keywords labels operators
opening_kind kind.Quote e = refl
opening_kind kind.HeredocStart e = refl
opening_kind kind.Backtick e = refl
opening_kind _ e = absurd cc

number_kind : (sort : TokenKind) → same_class t.Int (terminal_by sort []) ≡ true → sort ≡ kind.Int
unfolding keywords labels operators
number_kind kind.Int e = refl
number_kind _ e = absurd cc

variable_kind : (sort : TokenKind) → same_class t.Variable (terminal_by sort []) ≡ true → sort ≡ kind.Variable
unfolding keywords labels operators
variable_kind kind.Variable e = refl
variable_kind _ e = absurd cc

pub piece : (x : Token) → accepts V74 t.Piece x ≡ true → x.kind ≡ kind.Piece
unfolding told
piece x e = piece_kind x.kind (told_same t.Piece x refl e)

pub curly : (x : Token) → accepts V74 t.CurlyOpen x ≡ true → x.kind ≡ kind.CurlyOpen
unfolding told
curly x e = curly_kind x.kind (told_same t.CurlyOpen x refl e)

pub dollar : (x : Token) → accepts V74 t.DollarBrace x ≡ true → x.kind ≡ kind.DollarBrace
unfolding told
dollar x e = dollar_kind x.kind (told_same t.DollarBrace x refl e)

pub var_name : (x : Token) → accepts V74 t.VarName x ≡ true → x.kind ≡ kind.VarName
unfolding told
var_name x e = var_name_kind x.kind (told_same t.VarName x refl e)

pub text_end : (x : Token) → accepts V74 t.QuotedEnd x ≡ true → x.kind ≡ kind.QuotedEnd
unfolding told
text_end x e = text_end_kind x.kind (told_same t.QuotedEnd x refl e)

pub text_start : (x : Token) → accepts V74 t.QuoteOpen x ≡ true → opens_text x.kind ≡ true
unfolding told
text_start x e = opening_kind x.kind (told_same t.QuoteOpen x refl e)

pub number : (x : Token) → accepts V74 t.Int x ≡ true → x.kind ≡ kind.Int
unfolding told
number x e = number_kind x.kind (told_same t.Int x refl e)

pub variable : (x : Token) → accepts V74 t.Variable x ≡ true → x.kind ≡ kind.Variable
unfolding told
variable x e = variable_kind x.kind (told_same t.Variable x refl e)

-- ---- casts

abbrev is_cast_class : ℕ → Bool
is_cast_class n = is_one_of (t.Cast ∷ t.OldCast ∷ []) n

cast_by : (sort : TokenKind) (text : List ℕ) → is_cast_class (code (terminal_by sort text)) ≡ true → sort ≡ kind.Cast
unfolding keywords labels operators
cast_by kind.Cast text e = refl
cast_by kind.Label text e = absurd (no_clash (label_not (λ own. is_cast_class (code own)) text refl refl) e)
cast_by kind.Keyword text e = absurd (no_clash (keyword_not (λ own. is_cast_class (code own)) text refl refl refl) e)
cast_by kind.Op text e = absurd (no_clash (operator_not (λ own. is_cast_class (code own)) text refl refl) e)
cast_by kind.Name text e = absurd (no_clash (name_not (λ own. is_cast_class (code own)) text refl refl refl) e)
cast_by _ text e = absurd cc

cast_kind : (c : Terminal) (x : Token) → is_cast_class (code c) ≡ true → same_class c (terminal x) ≡ true → x.kind ≡ kind.Cast
cast_kind c x h e = cast_by x.kind x.text (ap is_cast_class (sym (eqb-true (code c) (code (terminal x)) e)) ∙ h)

pub is_cast : (x : Token) → accepts V74 t.Cast x ≡ true → x.kind ≡ kind.Cast
is_cast x e = cast_kind t.Cast x refl e

pub is_old_cast : (x : Token) → accepts V74 t.OldCast x ≡ true → x.kind ≡ kind.Cast
is_old_cast x e = cast_kind t.OldCast x refl e
