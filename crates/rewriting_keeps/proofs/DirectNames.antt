-- In a file that 7.4 reads no trivia stand before the name in `${name`.
use Rattle.std.proofs.Common.{
  ◌≡◌,
  ℕ,
  Bool,
  true,
  false,
  not,
  cond,
  ◌&&◌,
  nat_le,
  List,
  [],
  ◌∷◌,
  ◌++◌,
  map,
  take,
  drop,
  Option,
  None,
  Some,
  refl,
  ap,
  sym,
  ◌∙◌,
  subst,
  append_assoc,
  inl,
  inr,
}
use Rattle.std.specs.Prelude.{◌⊎◌}
use Rattle.php_tree.specs.declared.token.TokenKind.{TokenKind}
use Rattle.php_tree.specs.declared.token.TokenKind.TheVariants as token
use Rattle.php_tree.specs.declared.token.Token.{Token}
use Rattle.php_tree.specs.declared.version.Version.TheVariants.{V74}
use Rattle.php_tree.specs.Tree.{Forest, none, leaf, node, File, leaves, file_leaves}
use Rattle.php_spellings.specs.declared.table.Kind.{Kind}
use Rattle.php_spellings.specs.declared.table.Kind.TheVariants.{
  Space,
  Comment,
  Tag,
  OpenEcho,
  InlineHtml,
  Variable,
  Word,
  Label,
  Keyword,
  Name,
  Decimal,
  Octal,
  Hexadecimal,
  Binary,
  Digits,
  Float,
  Text,
  Quote,
  Backtick,
  HeredocStart,
  Cast,
  Op,
  AttributeOpen,
  Semi,
  Close,
  Piece,
  CurlyOpen,
  DollarBrace,
  VarName,
  QuotedEnd,
}
use Rattle.php_spellings.specs.Words.{token_of, whole_number, is_keyword, value_from, greatest_int}
use Rattle.php_spellings.specs.Bytes.{begins_by}
use Rattle.php_lexer.specs.Modes.{
  Mode,
  html,
  code,
  named,
  quoted,
  offset,
  property,
  ModeStep,
  stay,
  enter,
  leave,
  mode_step_of,
  code_mode_step,
  is_byte,
  begins_property,
  label_in,
  kind_of,
  rows_of,
  IsLongest,
}
use Rattle.php_spellings.specs.declared.table.Mark.TheVariants.{Double, Back, Here}
use Rattle.php_lexer.specs.Lexed.{Lexeme, Stack, start, mode_step_at, stepped_by, after, left_top, left_below, Lexed, ends, trivia, token as one, lexeme}
use Rattle.php_relexing.specs.Written.{is_var_name}
use Rattle.php_relexing.proofs.Picked.{kind_meets}
use Rattle.php_reading.specs.Reading.{Reads}
use Rattle.rewriting_keeps.specs.Laws.{NamesAreDirect, ReadNamesAreDirect}

-- ---- modes

abbrev is_named : Mode → Bool
is_named named = true
is_named _ = false

abbrev none_named : List Mode → Bool
none_named [] = true
none_named (m ∷ ms) = not (is_named m) && none_named ms

-- directly behind `${` no trivia were read, and no mode below is that one
record Safe (stack : Stack) (lead : List ℕ) : Type 0 where
  here : is_named stack.top ≡ true → lead ≡ []
  below : none_named stack.below ≡ true

-- a mode step that doesn't lead to that mode
abbrev is_calm : ModeStep → Bool
is_calm (stay m) = not (is_named m)
is_calm (enter above under) = not (is_named above) && not (is_named under)
is_calm leave = true

calm_if : (b : Bool) (x y : ModeStep) → is_calm x ≡ true → is_calm y ≡ true → is_calm (cond b x y) ≡ true
calm_if true x y p q = p
calm_if false x y p q = q

abbrev is_dollar : Kind → Bool
is_dollar DollarBrace = true
is_dollar _ = false

calm_code : (k : Kind) (text : List ℕ) → is_calm (code_mode_step k text) ≡ true
calm_code Op text =
    calm_if (is_byte 123 text) (enter code code) (cond (is_byte 125 text) leave (stay code)) refl (calm_if (is_byte 125 text) leave (stay code) refl refl)
calm_code k text = refl

calm_part : (b c : Bool) (m : Mode) → is_named m ≡ false → is_calm (cond b (enter offset m) (cond c (enter property m) (stay m))) ≡ true
calm_part b c m e =
    calm_if b (enter offset m) (cond c (enter property m) (stay m)) (ap (λ x. not x) e) (calm_if c (enter property m) (stay m) (ap (λ x. not x) e) (ap (λ x. not x) e))

calm_mode_step : (m : Mode) (k : Kind) (text rest : List ℕ) → is_dollar k ≡ false → is_calm (mode_step_of V74 m k text rest) ≡ true
calm_mode_step html InlineHtml text rest h = refl
calm_mode_step html k text rest h = refl
calm_mode_step code k text rest h = calm_code k text
calm_mode_step named k text rest h = calm_code k text
calm_mode_step (quoted mark label fresh) DollarBrace text rest h = cc
calm_mode_step (quoted mark label fresh) Variable text rest h = calm_part (begins_by 91 rest) (begins_property V74 rest) (quoted mark label false) refl
calm_mode_step (quoted mark label fresh) k text rest h = refl
calm_mode_step offset Op text rest h = calm_if (is_byte 93 text) leave (stay offset) refl refl
calm_mode_step offset k text rest h = refl
calm_mode_step property Label text rest h = refl
calm_mode_step property k text rest h = refl

-- `${` leads to that mode in a quoted text alone
dollar_mode_step : (m : Mode) (text rest : List ℕ) → (is_calm (mode_step_of V74 m DollarBrace text rest) ≡ true)
    ⊎ ((under : Mode) × ((mode_step_of V74 m DollarBrace text rest ≡ enter named under) × (is_named under ≡ false)))
dollar_mode_step html text rest = inl refl
dollar_mode_step code text rest = inl refl
dollar_mode_step named text rest = inl refl
dollar_mode_step (quoted mark label fresh) text rest = inr (quoted mark label false, (refl, refl))
dollar_mode_step offset text rest = inl refl
dollar_mode_step property text rest = inl refl

-- ---- stacks

safe_below : (a : Mode) (ms : List Mode) → is_named a ≡ false → none_named ms ≡ true → none_named (a ∷ ms) ≡ true
safe_below a ms e h = ap (λ x. not x && none_named ms) e ∙ h

left_safe : (ms : List Mode) → none_named ms ≡ true → (is_named (left_top ms) ≡ false) × (none_named (left_below ms) ≡ true)
left_safe [] h = (refl, refl)
left_safe (m ∷ ms) h = (not_named (is_named m) (none_named ms) h, rest_safe (is_named m) (none_named ms) h)
  where
    not_named : (b c : Bool) → (not b && c) ≡ true → b ≡ false
    not_named true c h = cc
    not_named false c h = refl

    rest_safe : (b c : Bool) → (not b && c) ≡ true → c ≡ true
    rest_safe true c h = cc
    rest_safe false c h = h

-- the stack behind a calm mode step
calm_behind : (t : ModeStep) (stack : Stack) → is_calm t ≡ true → none_named stack.below ≡ true
    → (is_named (stepped_by t stack).top ≡ false) × (none_named (stepped_by t stack).below ≡ true)
calm_behind (stay m) stack c h = (flipped (is_named m) c, h)
  where
    flipped : (b : Bool) → not b ≡ true → b ≡ false
    flipped true c = cc
    flipped false c = refl
calm_behind (enter a u) stack c h = (first (is_named a) (is_named u) c, safe_below u stack.below (second (is_named a) (is_named u) c) h)
  where
    first : (a u : Bool) → (not a && not u) ≡ true → a ≡ false
    first true u c = cc
    first false u c = refl

    second : (a u : Bool) → (not a && not u) ≡ true → u ≡ false
    second true u c = cc
    second false true c = cc
    second false false c = refl
calm_behind leave stack c h = left_safe stack.below h

absurd_named : {A : Type 0} (b : Bool) → b ≡ false → b ≡ true → A
absurd_named true e d = cc
absurd_named false e d = cc

calm_safe : (t : ModeStep) (stack : Stack) (lead : List ℕ) → is_calm t ≡ true → none_named stack.below ≡ true → Safe (stepped_by t stack) lead
calm_safe t stack lead c h =
    let s = calm_behind t stack c h in
    record { here = λ e. absurd_named (is_named (stepped_by t stack).top) s.0 e; below = s.1 }

trivia_kind : (k : Kind) (text : List ℕ) → token_of k text ≡ None → is_dollar k ≡ false
trivia_kind DollarBrace text e = cc
trivia_kind k text e = refl

-- behind any token no trivia were read
token_safe : (k : Kind) (stack : Stack) (text rest : List ℕ) → none_named stack.below ≡ true → Safe (stepped_by (mode_step_of V74 stack.top k text rest) stack) []
token_safe k stack text rest h = by_kind k
  where
    entered : (t : ModeStep) → (is_calm t ≡ true) ⊎ ((under : Mode) × ((t ≡ enter named under) × (is_named under ≡ false))) → Safe (stepped_by t stack) []
    entered t (inl c) = calm_safe t stack [] c h
    entered t (inr u) =
        subst (λ x. Safe (stepped_by x stack) []) (sym u.1.0) (record { here = λ e. refl; below = safe_below u.0 stack.below u.1.1 h })

    by_kind : (k : Kind) → Safe (stepped_by (mode_step_of V74 stack.top k text rest) stack) []
    by_kind DollarBrace = entered (mode_step_of V74 stack.top DollarBrace text rest) (dollar_mode_step stack.top text rest)
    by_kind k = calm_safe (mode_step_of V74 stack.top k text rest) stack [] (calm_mode_step stack.top k text rest refl) h

-- ---- names behind `${`

abbrev is_other : TokenKind → Bool
is_other token.VarName = false
is_other _ = true

clash : {A : Type 0} (x t : TokenKind) → is_other x ≡ true → Some x ≡ Some t → t ≡ token.VarName → A
clash {A} x t h e d = absurd (let same : x ≡ t = cc in let f : false ≡ true = sym (ap is_other (same ∙ d)) ∙ h in cc)

var_token : (b : Bool) (x y : TokenKind) → is_other x ≡ true → is_other y ≡ true → is_other (cond b x y) ≡ true
var_token true x y p q = p
var_token false x y p q = q

whole_other : (base : ℕ) (digits : List ℕ) → is_other (whole_number base digits) ≡ true
whole_other base digits = var_token (nat_le (value_from base 0 digits) greatest_int) token.Int token.Float refl refl

other_tokens : (k : Kind) (text : List ℕ) (t : TokenKind) → token_of k text ≡ Some t → t ≡ token.VarName → is_var_name k ≡ true
other_tokens VarName text t e d = refl
other_tokens Word text t e d = clash (cond (is_keyword text) token.Keyword token.Label) t (var_token (is_keyword text) token.Keyword token.Label refl refl) e d
other_tokens Decimal text t e d = clash (whole_number 10 text) t (whole_other 10 text) e d
other_tokens Octal text t e d = clash (whole_number 8 text) t (whole_other 8 text) e d
other_tokens Hexadecimal text t e d = clash (whole_number 16 (drop 2 text)) t (whole_other 16 (drop 2 text)) e d
other_tokens Binary text t e d = clash (whole_number 2 (drop 2 text)) t (whole_other 2 (drop 2 text)) e d
other_tokens k text t e d = cc

-- that token stands in that mode alone
var_mode : (m : Mode) (k : Kind) (text rest : List ℕ) → is_var_name k ≡ true → kind_of V74 m text rest ≡ Some k → is_named m ≡ true
var_mode html k text rest h e = let none : false ≡ true = kind_meets is_var_name [] text rest k h (rows_of V74 html) e in cc
var_mode code k text rest h e = let none : false ≡ true = kind_meets is_var_name [] text rest k h (rows_of V74 code) e in cc
var_mode named k text rest h e = refl
var_mode (quoted Double label fresh) k text rest h e = let none : false ≡ true = kind_meets is_var_name label text rest k h (rows_of V74 (quoted Double label fresh)) e in cc
var_mode (quoted Back label fresh) k text rest h e = let none : false ≡ true = kind_meets is_var_name label text rest k h (rows_of V74 (quoted Back label fresh)) e in cc
var_mode (quoted Here label true) k text rest h e = let none : false ≡ true = kind_meets is_var_name label text rest k h (rows_of V74 (quoted Here label true)) e in cc
var_mode (quoted Here label false) k text rest h e = let none : false ≡ true = kind_meets is_var_name label text rest k h (rows_of V74 (quoted Here label false)) e in cc
var_mode offset k text rest h e = let none : false ≡ true = kind_meets is_var_name [] text rest k h (rows_of V74 offset) e in cc
var_mode property k text rest h e = let none : false ≡ true = kind_meets is_var_name [] text rest k h (rows_of V74 property) e in cc

-- ---- tokens

abbrev AreDirect : List Lexeme → Type 0
AreDirect [] = Unit {0}
AreDirect (t ∷ ts) = (t.kind ≡ token.VarName → t.lead ≡ []) × AreDirect ts

direct : {stack : Stack} {lead bytes : List ℕ} {ts : List Lexeme} → Lexed V74 stack lead bytes ts → Safe stack lead → AreDirect ts
direct (ends e d) s = (λ k. cc, tt)
direct (trivia {stack = stack} {lead = lead} {bytes = bytes} k n l e rest) s =
    direct rest
    (calm_safe (mode_step_of V74 stack.top k (take n bytes) (drop n bytes)) stack (lead ++ take n bytes)
    (calm_mode_step stack.top k (take n bytes) (drop n bytes) (trivia_kind k (take n bytes) e)) s.below)
direct (one {stack = stack} {lead = lead} {bytes = bytes} k n t l e rest) s = (
  λ d. s.here (var_mode stack.top k (take n bytes) (drop n bytes) (other_tokens k (take n bytes) t e d) l.is),
  direct rest (token_safe k stack (take n bytes) (drop n bytes) s.below),
)

-- ---- trees

tokens_direct : (f : Forest) (rest : List Token) → AreDirect (map lexeme (leaves f ++ rest)) → NamesAreDirect f × AreDirect (map lexeme rest)
tokens_direct none rest d = (tt, d)
tokens_direct (leaf t f) rest d = let more = tokens_direct f rest d.1 in ((d.0, more.0), more.1)
tokens_direct (node k c f) rest d =
    let inside = tokens_direct c (leaves f ++ rest) (subst (λ ts. AreDirect (map lexeme ts)) (append_assoc (leaves c) (leaves f) rest) d) in
    let more = tokens_direct f rest inside.1 in
    ((inside.0, more.0), more.1)

pub read_names_are_direct : ReadNamesAreDirect
read_names_are_direct bytes f r =
    (tokens_direct f.statements (f.end ∷ [])
    (direct (subst (λ (ts : List Token). Lexed V74 start [] bytes (map lexeme ts)) r.parsed.text r.lexed.lexed) (record { here = λ e. refl; below = refl }))).0
