-- Operators by their words: `.`, `+`, `-`, and the shifts.
use Rattle.std.proofs.Common.{
  ◌≡◌,
  ℕ,
  ◌+◌,
  ◌<◌,
  Bool,
  true,
  false,
  not,
  cond,
  ◌&&◌,
  ◌||◌,
  ◌⊎◌,
  inl,
  inr,
  nat_eq,
  nat_lt,
  codes,
  List,
  [],
  ◌∷◌,
  slice_index,
  length,
  refl,
  sym,
  ap,
  ◌∙◌,
  subst,
  arith,
}
use Rattle.std.specs.Char.{to_ascii_lowercase}
use Rattle.std.proofs.lemmas.Bool.{eqb-true, ltb-true}
use Rattle.std.proofs.lemmas.Bool.Decides.{nat_tests}
use Rattle.php_tree.specs.declared.token.Token.{Token}
use Rattle.php_tree.specs.declared.token.TokenKind.{TokenKind}
use Rattle.php_tree.specs.declared.token.TokenKind.TheVariants as kind
use Rattle.php_tree.specs.declared.version.Version.TheVariants.{V74}
use Rattle.php_terminals.specs.declared.terminal.Terminal.{Terminal}
use Rattle.php_terminals.specs.declared.terminal.Terminal.TheVariants as t
use Rattle.php_terminals.specs.Classify.{cast, cast_letter, name, opening, terminal, terminal_by}
use Rattle.php_terminals.specs.Words.{find_row, front, is_word, keyword, keywords, label, labels, operator, operators}
use Rattle.php_terminals.specs.Terminals.{code}
use Rattle.php_grammar.specs.Accepts.{same_class}
use Rattle.php_grammar.specs.Levels.{binary_level}
use Rattle.syntax_rules.specs.DotPrecedence.{is_shift, is_sum}

-- the words of a class in a table
abbrev pub words_of : Terminal → List (List ℕ × Terminal) → List (List ℕ)
words_of c [] = []
words_of c (r ∷ rs) = cond (same_class c r.1) (r.0 ∷ words_of c rs) (words_of c rs)

-- whether a text is one of some words
abbrev pub is_any : List (List ℕ) → List ℕ → Bool
is_any [] text = false
is_any (w ∷ ws) text = is_word w text || is_any ws text

row_step : (c : Terminal) (w : List ℕ) (x : Terminal) (ws : List (List ℕ)) (y : Terminal) (text : List ℕ) (a b : Bool)
    → is_word w text ≡ a → same_class c x ≡ b → same_class c (cond a x y) ≡ true
    → (same_class c y ≡ true → is_any ws text ≡ true) → is_any (cond b (w ∷ ws) ws) text ≡ true
row_step c w x ws y text true true d e h p = ap (λ (z : Bool). z || is_any ws text) d
row_step c w x ws y text true false d e h p = absurd (let z : false ≡ true = sym e ∙ h in cc)
row_step c w x ws y text false true d e h p = ap (λ (z : Bool). z || is_any ws text) d ∙ p h
row_step c w x ws y text false false d e h p = p h

pub found : (c other : Terminal) (rows : List (List ℕ × Terminal)) (text : List ℕ) → same_class c other ≡ false
    → same_class c (find_row other rows text) ≡ true → is_any (words_of c rows) text ≡ true
found c other [] text n e = absurd (let z : false ≡ true = sym n ∙ e in cc)
found c other (r ∷ rs) text n e =
    row_step c r.0 r.1 (words_of c rs) (find_row other rs text) text (is_word r.0 text) (same_class c r.1) refl refl e (found c other rs text n)

-- ---- a word without letters

-- whether a byte is no lower case letter
abbrev is_low : ℕ → Bool
is_low n = nat_lt n 97 || nat_lt 122 n

lower_by : (b n : ℕ) (t u : Bool) → nat_lt b 65 ≡ t → nat_lt b 91 ≡ u → (n < 97) ⊎ (122 < n) → n ≡ cond t b (cond u (b + 32) b) → n ≡ b
lower_by b n true u p q r e = e
lower_by b n false true p q (inl r) e = absurd (let z : true ≡ false = grind (arith, nat_tests) in cc)
lower_by b n false true p q (inr r) e = absurd (let z : true ≡ false = grind (arith, nat_tests) in cc)
lower_by b n false false p q r e = e

low_cases : (n : ℕ) → is_low n ≡ true → (n < 97) ⊎ (122 < n)
low_cases n e = go (nat_lt n 97) (nat_lt 122 n) refl refl e
  where
    go : (a b : Bool) → nat_lt n 97 ≡ a → nat_lt 122 n ≡ b → (a || b) ≡ true → (n < 97) ⊎ (122 < n)
    go true b p q e = inl (ltb-true n 97 p)
    go false true p q e = inr (ltb-true 122 n q)
    go false false p q e = absurd cc

same_byte : (n b : ℕ) → is_low n ≡ true → nat_eq n (to_ascii_lowercase b) ≡ true → n ≡ b
same_byte n b h e = lower_by b n (nat_lt b 65) (nat_lt b 91) refl refl (low_cases n h) (eqb-true n (to_ascii_lowercase b) e)

abbrev all_low : List ℕ → Bool
all_low [] = true
all_low (b ∷ bs) = is_low b && all_low bs

pub low_word : (w text : List ℕ) → all_low w ≡ true → is_word w text ≡ true → text ≡ w
low_word [] [] h e = refl
low_word [] (b ∷ bs) h e = absurd cc
low_word (a ∷ w) [] h e = absurd cc
low_word (a ∷ w) (b ∷ bs) h e =
    let same : a ≡ b = same_byte a b (and_one (is_low a) (all_low w) h) (and_one (nat_eq a (to_ascii_lowercase b)) (is_word w bs) e) in
    let rest : bs ≡ w = low_word w bs (and_two (is_low a) (all_low w) h) (and_two (nat_eq a (to_ascii_lowercase b)) (is_word w bs) e) in
    rw (same, rest) refl
  where
    and_one : (x y : Bool) → (x && y) ≡ true → x ≡ true
    and_one true y e = refl
    and_one false y e = cc

    and_two : (x y : Bool) → (x && y) ≡ true → y ≡ true
    and_two true y e = e
    and_two false y e = cc

-- ---- operators

-- whether a class is one of these operators
abbrev pub is_watched : Terminal → Bool
is_watched t.Dot = true
is_watched t.Plus = true
is_watched t.Minus = true
is_watched t.Shift = true
is_watched t.OpenBrace = true
is_watched t.Backslash = true
is_watched t.CloseBrace = true
is_watched t.OpenBracket = true
is_watched t.CloseBracket = true
is_watched _ = false

no_keyword : (text : List ℕ) (c : Terminal) → is_watched c ≡ true → same_class c (find_row t.OtherKeyword keywords text) ≡ true → ⊥
unfolding keywords
no_keyword text t.Dot h e = absurd (let z : false ≡ true = found t.Dot t.OtherKeyword keywords text refl e in cc)
no_keyword text t.Plus h e = absurd (let z : false ≡ true = found t.Plus t.OtherKeyword keywords text refl e in cc)
no_keyword text t.Minus h e = absurd (let z : false ≡ true = found t.Minus t.OtherKeyword keywords text refl e in cc)
no_keyword text t.Backslash h e = absurd (let z : false ≡ true = found t.Backslash t.OtherKeyword keywords text refl e in cc)
no_keyword text t.OpenBrace h e = absurd (let z : false ≡ true = found t.OpenBrace t.OtherKeyword keywords text refl e in cc)
no_keyword text t.CloseBrace h e = absurd (let z : false ≡ true = found t.CloseBrace t.OtherKeyword keywords text refl e in cc)
no_keyword text t.OpenBracket h e = absurd (let z : false ≡ true = found t.OpenBracket t.OtherKeyword keywords text refl e in cc)
no_keyword text t.CloseBracket h e = absurd (let z : false ≡ true = found t.CloseBracket t.OtherKeyword keywords text refl e in cc)
no_keyword text t.Shift h e = absurd (let z : false ≡ true = found t.Shift t.OtherKeyword keywords text refl e in cc)
no_keyword text _ h e = cc

-- ---- what isn't one of them

abbrev watched_code : ℕ → Bool
watched_code n = nat_eq n 105 || (nat_eq n 101 || (nat_eq n 102 || (nat_eq n 104 || (nat_eq n 85 || (nat_eq n 86 || (nat_eq n 87 || (nat_eq n 94 || nat_eq n 88)))))))

code_watched : (x : Terminal) → is_watched x ≡ watched_code (code x)
code_watched t.Dot = refl
code_watched t.Plus = refl
code_watched t.Minus = refl
code_watched t.Shift = refl
code_watched t.OpenBrace = refl
code_watched t.Backslash = refl
code_watched t.CloseBrace = refl
code_watched t.OpenBracket = refl
code_watched t.CloseBracket = refl
code_watched _ = refl

other_not : (c own : Terminal) → is_watched c ≡ true → is_watched own ≡ false → same_class c own ≡ true → ⊥
other_not c own h n e =
    let same : code c ≡ code own = eqb-true (code c) (code own) e in
    let z : true ≡ false = sym h ∙ code_watched c ∙ ap watched_code same ∙ sym (code_watched own) ∙ n in
    cc

keyword_not : (text : List ℕ) (c : Terminal) → is_watched c ≡ true → same_class c (keyword text) ≡ true → ⊥
keyword_not text c h e = go (nat_lt 5 (length text) && is_word (codes "yield") (front 5 text)) e
  where
    go : (b : Bool) → same_class c (cond b t.YieldFrom (find_row t.OtherKeyword keywords text)) ≡ true → ⊥
    go true e = other_not c t.YieldFrom h refl e
    go false e = no_keyword text c h e

label_watched : (text : List ℕ) → is_watched (label text) ≡ false
unfolding labels
label_watched text = go (is_word (codes "match") text) (is_word (codes "readonly") text) (is_word (codes "mixed") text) (is_word (codes "never") text)
  where
    go : (a b c d : Bool) → is_watched (cond a t.Match (cond b t.Readonly (cond c t.MixedOrNever (cond d t.MixedOrNever t.Label)))) ≡ false
    go true b c d = refl
    go false true c d = refl
    go false false true d = refl
    go false false false true = refl
    go false false false false = refl

cond_watched : (b : Bool) (x y : Terminal) → is_watched x ≡ false → is_watched y ≡ false → is_watched (cond b x y) ≡ false
cond_watched true x y e d = e
cond_watched false x y e d = d

cast_watched : (text : List ℕ) → is_watched (cast text) ≡ false
cast_watched text =
    cond_watched (nat_lt (opening text) (length text)) (cast_letter (to_ascii_lowercase (slice_index text (opening text)))) t.Cast
    (cond_watched (nat_eq (to_ascii_lowercase (slice_index text (opening text))) 114
    || nat_eq (to_ascii_lowercase (slice_index text (opening text))) 117) t.OldCast t.Cast refl refl) refl

name_watched : (text : List ℕ) → is_watched (name text) ≡ false
name_watched text =
    cond_watched (is_word (codes "\\") (front 1 text)) t.FullName (cond (is_word (codes "namespace\\") (front 10 text)) t.RelativeName t.QualifiedName) refl
    (cond_watched (is_word (codes "namespace\\") (front 10 text)) t.RelativeName t.QualifiedName refl refl)

op_found : (c : Terminal) (text : List ℕ) → same_class c t.OtherOp ≡ false → same_class c (operator text) ≡ true → is_any (words_of c operators) text ≡ true
op_found c text n e = found c t.OtherOp operators text n e

watched_other : (c : Terminal) → is_watched c ≡ true → same_class c t.OtherOp ≡ false
watched_other c h = by_test (same_class c t.OtherOp) (λ e. other_not c t.OtherOp h refl e)
  where
    by_test : (b : Bool) → (b ≡ true → ⊥) → b ≡ false
    by_test true h = absurd (h refl)
    by_test false h = refl

-- one of them has one of its words
word_by : (kind : TokenKind) (c : Terminal) (text : List ℕ) → is_watched c ≡ true → same_class c (terminal_by kind text) ≡ true → is_any (words_of c operators) text ≡ true
word_by kind.Op c text h e = op_found c text (watched_other c h) e
word_by kind.Label c text h e = absurd (other_not c (label text) h (label_watched text) e)
word_by kind.Keyword c text h e = absurd (keyword_not text c h e)
word_by kind.Cast c text h e = absurd (other_not c (cast text) h (cast_watched text) e)
word_by kind.Name c text h e = absurd (other_not c (name text) h (name_watched text) e)
word_by kind.InlineHtml c text h e = absurd (other_not c (terminal_by kind.InlineHtml text) h refl e)
word_by kind.OpenEcho c text h e = absurd (other_not c (terminal_by kind.OpenEcho text) h refl e)
word_by kind.Variable c text h e = absurd (other_not c (terminal_by kind.Variable text) h refl e)
word_by kind.Int c text h e = absurd (other_not c (terminal_by kind.Int text) h refl e)
word_by kind.Float c text h e = absurd (other_not c (terminal_by kind.Float text) h refl e)
word_by kind.Text c text h e = absurd (other_not c (terminal_by kind.Text text) h refl e)
word_by kind.Quote c text h e = absurd (other_not c (terminal_by kind.Quote text) h refl e)
word_by kind.HeredocStart c text h e = absurd (other_not c (terminal_by kind.HeredocStart text) h refl e)
word_by kind.Backtick c text h e = absurd (other_not c (terminal_by kind.Backtick text) h refl e)
word_by kind.AttributeOpen c text h e = absurd (other_not c (terminal_by kind.AttributeOpen text) h refl e)
word_by kind.Semi c text h e = absurd (other_not c (terminal_by kind.Semi text) h refl e)
word_by kind.Close c text h e = absurd (other_not c (terminal_by kind.Close text) h refl e)
word_by kind.End c text h e = absurd (other_not c (terminal_by kind.End text) h refl e)
word_by kind.Piece c text h e = absurd (other_not c (terminal_by kind.Piece text) h refl e)
word_by kind.CurlyOpen c text h e = absurd (other_not c (terminal_by kind.CurlyOpen text) h refl e)
word_by kind.DollarBrace c text h e = absurd (other_not c (terminal_by kind.DollarBrace text) h refl e)
word_by kind.VarName c text h e = absurd (other_not c (terminal_by kind.VarName text) h refl e)
word_by kind.QuotedEnd c text h e = absurd (other_not c (terminal_by kind.QuotedEnd text) h refl e)

one_or : (w v text : List ℕ) → (is_word w text || (is_word v text || false)) ≡ true → (is_word w text ≡ true) ⊎ (is_word v text ≡ true)
one_or w v text e = go (is_word w text) (is_word v text) e
  where
    go : (a b : Bool) → (a || (b || false)) ≡ true → (a ≡ true) ⊎ (b ≡ true)
    go true b e = inl refl
    go false true e = inr refl
    go false false e = cc

one_alone : (w text : List ℕ) → (is_word w text || false) ≡ true → is_word w text ≡ true
one_alone w text e = go (is_word w text) e
  where
    go : (a : Bool) → (a || false) ≡ true → a ≡ true
    go true e = refl
    go false e = cc

pub dot_is : (x : Token) → same_class t.Dot (terminal x) ≡ true → x.text ≡ codes "."
unfolding operators
dot_is x e = low_word (codes ".") x.text refl (one_alone (codes ".") x.text (word_by x.kind t.Dot x.text refl e))

pub plus_is : (x : Token) → same_class t.Plus (terminal x) ≡ true → is_sum x.text ≡ true
unfolding operators
plus_is x e = ap is_sum (low_word (codes "+") x.text refl (one_alone (codes "+") x.text (word_by x.kind t.Plus x.text refl e)))

pub minus_is : (x : Token) → same_class t.Minus (terminal x) ≡ true → is_sum x.text ≡ true
unfolding operators
minus_is x e = ap is_sum (low_word (codes "-") x.text refl (one_alone (codes "-") x.text (word_by x.kind t.Minus x.text refl e)))

pub shift_is : (x : Token) → same_class t.Shift (terminal x) ≡ true → is_shift x.text ≡ true
unfolding operators
shift_is x e = elim (one_or (codes "<<") (codes ">>") x.text (word_by x.kind t.Shift x.text refl e)) [
  | inl z ↦ ap is_shift (low_word (codes "<<") x.text refl z)
  | inr z ↦ ap is_shift (low_word (codes ">>") x.text refl z)
]

-- a token whose text is `.` is that operator, or none
dot_by : (kind : TokenKind) → (binary_level V74 (terminal_by kind (codes ".")) ≡ 0) ⊎ (binary_level V74 (terminal_by kind (codes ".")) ≡ 7)
unfolding keywords operators labels
dot_by kind.Op = inr refl
dot_by _ = inl refl

pub dot_level_is : (x : Token) → x.text ≡ codes "." → (binary_level V74 (terminal x) ≡ 0) ⊎ (binary_level V74 (terminal x) ≡ 7)
dot_level_is x e = subst (λ (text : List ℕ). (binary_level V74 (terminal_by x.kind text) ≡ 0) ⊎ (binary_level V74 (terminal_by x.kind text) ≡ 7)) (sym e) (dot_by x.kind)

pub open_brace_is : (x : Token) → same_class t.OpenBrace (terminal x) ≡ true → x.text ≡ codes "{"
unfolding operators
open_brace_is x e = low_word (codes "{") x.text refl (one_alone (codes "{") x.text (word_by x.kind t.OpenBrace x.text refl e))

pub close_brace_is : (x : Token) → same_class t.CloseBrace (terminal x) ≡ true → x.text ≡ codes "}"
unfolding operators
close_brace_is x e = low_word (codes "}") x.text refl (one_alone (codes "}") x.text (word_by x.kind t.CloseBrace x.text refl e))

pub open_bracket_is : (x : Token) → same_class t.OpenBracket (terminal x) ≡ true → x.text ≡ codes "["
unfolding operators
open_bracket_is x e = low_word (codes "[") x.text refl (one_alone (codes "[") x.text (word_by x.kind t.OpenBracket x.text refl e))

pub close_bracket_is : (x : Token) → same_class t.CloseBracket (terminal x) ≡ true → x.text ≡ codes "]"
unfolding operators
close_bracket_is x e = low_word (codes "]") x.text refl (one_alone (codes "]") x.text (word_by x.kind t.CloseBracket x.text refl e))

pub backslash_is : (x : Token) → same_class t.Backslash (terminal x) ≡ true → x.text ≡ codes "\\"
unfolding operators
backslash_is x e = low_word (codes "\\") x.text refl (one_alone (codes "\\") x.text (word_by x.kind t.Backslash x.text refl e))

-- they are operators
pub op_kind : (sort : TokenKind) (c : Terminal) (text : List ℕ) → is_watched c ≡ true → same_class c (terminal_by sort text) ≡ true → sort ≡ kind.Op
op_kind kind.Op c text h e = refl
op_kind kind.Label c text h e = absurd (other_not c (label text) h (label_watched text) e)
op_kind kind.Keyword c text h e = absurd (keyword_not text c h e)
op_kind kind.Cast c text h e = absurd (other_not c (cast text) h (cast_watched text) e)
op_kind kind.Name c text h e = absurd (other_not c (name text) h (name_watched text) e)
op_kind kind.InlineHtml c text h e = absurd (other_not c (terminal_by kind.InlineHtml text) h refl e)
op_kind kind.OpenEcho c text h e = absurd (other_not c (terminal_by kind.OpenEcho text) h refl e)
op_kind kind.Variable c text h e = absurd (other_not c (terminal_by kind.Variable text) h refl e)
op_kind kind.Int c text h e = absurd (other_not c (terminal_by kind.Int text) h refl e)
op_kind kind.Float c text h e = absurd (other_not c (terminal_by kind.Float text) h refl e)
op_kind kind.Text c text h e = absurd (other_not c (terminal_by kind.Text text) h refl e)
op_kind kind.Quote c text h e = absurd (other_not c (terminal_by kind.Quote text) h refl e)
op_kind kind.HeredocStart c text h e = absurd (other_not c (terminal_by kind.HeredocStart text) h refl e)
op_kind kind.Backtick c text h e = absurd (other_not c (terminal_by kind.Backtick text) h refl e)
op_kind kind.AttributeOpen c text h e = absurd (other_not c (terminal_by kind.AttributeOpen text) h refl e)
op_kind kind.Semi c text h e = absurd (other_not c (terminal_by kind.Semi text) h refl e)
op_kind kind.Close c text h e = absurd (other_not c (terminal_by kind.Close text) h refl e)
op_kind kind.End c text h e = absurd (other_not c (terminal_by kind.End text) h refl e)
op_kind kind.Piece c text h e = absurd (other_not c (terminal_by kind.Piece text) h refl e)
op_kind kind.CurlyOpen c text h e = absurd (other_not c (terminal_by kind.CurlyOpen text) h refl e)
op_kind kind.DollarBrace c text h e = absurd (other_not c (terminal_by kind.DollarBrace text) h refl e)
op_kind kind.VarName c text h e = absurd (other_not c (terminal_by kind.VarName text) h refl e)
op_kind kind.QuotedEnd c text h e = absurd (other_not c (terminal_by kind.QuotedEnd text) h refl e)

-- what holds of no row of a table holds of no word in it
abbrev pub no_row : (Terminal → Bool) → List (List ℕ × Terminal) → Bool
no_row p [] = true
no_row p (r ∷ rs) = not (p r.1) && no_row p rs

row_not : (p : Terminal → Bool) (b : Bool) (x y : Terminal) → not (p x) ≡ true → p y ≡ false → p (cond b x y) ≡ false
row_not p true x y e d = go (p x) e
  where
    go : (b : Bool) → not b ≡ true → b ≡ false
    go true e = sym e
    go false e = refl
row_not p false x y e d = d

pub rows_not : (p : Terminal → Bool) (other : Terminal) (rows : List (List ℕ × Terminal)) (text : List ℕ)
    → p other ≡ false → no_row p rows ≡ true → p (find_row other rows text) ≡ false
rows_not p other [] text e d = e
rows_not p other (r ∷ rs) text e d = row_not p (is_word r.0 text) r.1 (find_row other rs text)
    (one (not (p r.1)) (no_row p rs) d) (rows_not p other rs text e (two (not (p r.1)) (no_row p rs) d))
  where
    one : (a b : Bool) → (a && b) ≡ true → a ≡ true
    one true b e = refl
    one false b e = cc

    two : (a b : Bool) → (a && b) ≡ true → b ≡ true
    two true b e = e
    two false b e = cc
