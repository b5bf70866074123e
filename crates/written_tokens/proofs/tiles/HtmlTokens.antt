-- Tiles of inline HTML that stay as they are.
use Rattle.std.proofs.Common.{◌≡◌, ℕ, suc, Bool, true, false, not, ◌&&◌, ◌||◌, nat_eq, List, [], ◌∷◌, ◌++◌, length, inl, inr, refl, sym, ap, subst}
use Rattle.php_tree.specs.declared.version.Version.TheVariants.{V74}
use Rattle.php_spellings.specs.declared.table.Kind.{Kind}
use Rattle.php_spellings.specs.declared.table.Kind.TheVariants.{
  Space,
  Comment,
  Tag,
  OpenEcho,
  InlineHtml,
  Variable,
  Word,
  Label,
  Keyword,
  Name,
  Decimal,
  Octal,
  Hexadecimal,
  Binary,
  Digits,
  Float,
  Text,
  Quote,
  Backtick,
  HeredocStart,
  Cast,
  Op,
  AttributeOpen,
  Semi,
  Close,
  Piece,
  CurlyOpen,
  DollarBrace,
  VarName,
  QuotedEnd,
}
use Rattle.php_spellings.specs.Bytes.{begins_by}
use Rattle.php_lexer.specs.Tails.{begins_tag}
use Rattle.php_lexer.specs.RulesCode.{html_rows}
use Rattle.php_lexer.specs.Modes.{Mode, html, IsLongest}
use Rattle.php_relexing.specs.Tiles.{Tile, tile, joined}
use Rattle.php_relexing.specs.Spelled.{Steps}
use Rattle.php_relexing.specs.Inline.{ends_return}
use Rattle.php_relexing.proofs.Inline.{html_stays}
use Rattle.php_relexing.proofs.Operators.{OneOf, one_of}
use Rattle.php_relexing.proofs.Picked.{picked, longest_meets}
use Rattle.php_relexing.proofs.TagTexts.{tags_stay}
use Rattle.written_tokens.specs.tokens.Levels.{stack_of}
use Rattle.written_tokens.specs.tiles.ContinuesAs.{is_trivia, is_mark, is_put, begins_token, ContinuesAs, ended, same, put, hash, brace, escaped}
use Rattle.written_tokens.specs.tiles.CodeTokens.{mode_opened, HtmlTokensBecome}
use Rattle.written_tokens.proofs.tiles.Going.{first_stays}
use Rattle.written_tokens.proofs.tiles.HtmlBehind.{is_tag, no_html, never, tag_opens, inline_behind, no_inline, tag_behind}
use Rattle.written_tokens.proofs.tiles.Standing.{mark_kind}
use Rattle.written_tokens.proofs.tiles.Stepping.{stepped, longest_in, steps_behind, html_mode_step}
use Rattle.std.proofs.lemmas.Bool.{and_parts}

-- what stands in inline HTML: a tag, or HTML
data HtmlKind : Kind → Type 0 where
  tag : {kind : Kind} → is_tag kind ≡ true → HtmlKind kind
  inline : HtmlKind InlineHtml
  none : {kind : Kind} → no_html kind ≡ true → HtmlKind kind

html_kind : (kind : Kind) → HtmlKind kind
html_kind Space = none refl
html_kind Comment = none refl
html_kind Tag = tag refl
html_kind OpenEcho = tag refl
html_kind InlineHtml = inline
html_kind Variable = none refl
html_kind Word = none refl
html_kind Label = none refl
html_kind Keyword = none refl
html_kind Name = none refl
html_kind Decimal = none refl
html_kind Octal = none refl
html_kind Hexadecimal = none refl
html_kind Binary = none refl
html_kind Digits = none refl
html_kind Float = none refl
html_kind Text = none refl
html_kind Quote = none refl
html_kind Backtick = none refl
html_kind HeredocStart = none refl
html_kind Cast = none refl
html_kind Op = none refl
html_kind AttributeOpen = none refl
html_kind Semi = none refl
html_kind Close = none refl
html_kind Piece = none refl
html_kind CurlyOpen = none refl
html_kind DollarBrace = none refl
html_kind VarName = none refl
html_kind QuotedEnd = none refl

-- ---- nothing follows nothing in a gap

tile_none : {A : Type 0} (t : Tile) (ts : List Tile) → t ∷ ts ≡ [] → A
tile_none t ts e = cc

goes_none : {tight gap : Bool} {ts us : List Tile} → ContinuesAs tight gap ts us → gap ≡ true → ts ≡ [] → us ≡ []
goes_none ended f e = refl
goes_none (same {ts = ts} kind b a g) f e = tile_none (tile kind b a) ts e
goes_none (put {gap = gap} {ts = ts} kind c d p q) f e = absurd (let clash : (not true || begins_token []) ≡ true = rw (f, e) at q in cc)
goes_none (hash {ts = ts} a d) f e = tile_none (tile Comment 35 a) ts e
goes_none (brace {ts = ts} kind d) f e = tile_none (tile DollarBrace 36 (123 ∷ [])) ts e
goes_none (escaped {ts = ts} b c a d g l) f e = tile_none (tile Piece b a) ts e

no_bytes : (ts : List Tile) → joined ts ≡ [] → ts ≡ []
no_bytes [] h = refl
no_bytes (tile kind b a ∷ ts) h = absurd (byte_none b (a ++ joined ts) h)
  where
    byte_none : (b : ℕ) (bs : List ℕ) → b ∷ bs ≡ [] → ⊥
    byte_none b bs h = cc

-- ---- inline HTML

inline_stay : (b : ℕ) (a : List ℕ) (c : ℕ) (r s : List ℕ) → c ≡ 60 → begins_tag s ≡ true
    → IsLongest V74 html (b ∷ a ++ c ∷ r) InlineHtml (suc (length a))
    → IsLongest V74 html (b ∷ a ++ c ∷ s) InlineHtml (suc (length a))
inline_stay b a c r s e h l =
    subst (λ (x : ℕ). IsLongest V74 html (b ∷ a ++ x ∷ s) InlineHtml (suc (length a))) (sym e)
    (html_stays.inline V74 V74 (b ∷ a) r s h (subst (λ (x : ℕ). IsLongest V74 html (b ∷ a ++ x ∷ r) InlineHtml (suc (length a))) e l))

mark_never : {A : Type 0} (kind : Kind) (c : ℕ) (e r : List ℕ) → is_mark kind ≡ true → IsLongest V74 html (c ∷ e ++ r) kind (suc (length e)) → A
mark_never kind c e r m l = never kind c e r (mark_kind (λ (k : Kind). no_html k ≡ true) refl refl kind m) l

module _ (b : ℕ) (a : List ℕ) (below over : List Mode) (depth deep : ℕ) where
  abbrev Inline : List Tile → Type 0
  Inline ts = IsLongest V74 html (b ∷ a ++ joined ts) InlineHtml (suc (length a))

  inline_by : (kind : Kind) (c : ℕ) (e : List ℕ) (ts us : List Tile) → HtmlKind kind → Inline (tile kind c e ∷ ts)
      → Steps V74 (stack_of html below depth) (tile kind c e ∷ ts)
      → Steps V74 (stack_of html over deep) (tile kind c e ∷ us) → Inline (tile kind c e ∷ us)
  inline_by kind c e ts us (tag t) l s w =
      let opens = tag_opens c e (joined us) kind t (longest_in (stack_of html over deep) kind c e us w) in
      inline_stay b a c (e ++ joined ts) (e ++ joined us) opens.angle opens.tag l
  inline_by InlineHtml c e ts us inline l s w =
      absurd (no_inline c e (joined ts) (inline_behind b a c (e ++ joined ts) l) (longest_in (stack_of html below depth) InlineHtml c e ts s))
  inline_by kind c e ts us (none n) l s w = never kind c e (joined ts) n (longest_in (stack_of html below depth) kind c e ts s)

  pub inline_so : {tight gap : Bool} {ts us : List Tile} → ContinuesAs tight gap ts us → Inline ts
      → Steps V74 (stack_of html below depth) ts → Steps V74 (stack_of html over deep) us → Inline us
  inline_so ended l s w = l
  inline_so (same {ts = ts} {us = us} kind c e g) l s w = inline_by kind c e ts us (html_kind kind) l s w
  inline_so (put {tight = tight} {us = us} kind c e p q) l s w =
      mark_never kind c e (joined us) (and_parts (is_mark kind) (is_put tight c) p).0 (longest_in (stack_of html over deep) kind c e us w)
  inline_so (hash {ts = ts} d e) l s w = never Comment 35 d (joined ts) refl (longest_in (stack_of html below depth) Comment 35 d ts s)
  inline_so (brace {ts = ts} kind e) l s w = never DollarBrace 36 (123 ∷ []) (joined ts) refl (longest_in (stack_of html below depth) DollarBrace 36 (123 ∷ []) ts s)
  inline_so (escaped {ts = ts} c d e f g k) l s w = never Piece c e (joined ts) refl (longest_in (stack_of html below depth) Piece c e ts s)

-- ---- tags

and_same : (x y z : Bool) → (y ≡ false → z ≡ false) → (x && y) ≡ false → (x && z) ≡ false
and_same true y z f h = f h
and_same false y z f h = refl

abbrev is_echo : Kind → Bool
is_echo OpenEcho = true
is_echo _ = false

module _ (below over : List Mode) (depth deep : ℕ) (rest after : List Tile) where
  abbrev Old : Kind → ℕ → List ℕ → Type 0
  Old kind b a = IsLongest V74 html (b ∷ a ++ joined rest) kind (suc (length a))

  abbrev New : Kind → ℕ → List ℕ → Type 0
  New kind b a = IsLongest V74 html (b ∷ a ++ joined after) kind (suc (length a))

  abbrev Echo : List ℕ → Type 0
  Echo [] = Unit {0}
  Echo (b ∷ a) = New OpenEcho b a

  echo_by : (t : List ℕ) → OneOf (picked is_echo html_rows) t → Echo t
  echo_by t (inl e) = subst Echo (sym e) (html_stays.echo V74 (joined after))
  echo_by t (inr e) = absurd e

  echo_kept : (b : ℕ) (a : List ℕ) → Old OpenEcho b a → New OpenEcho b a
  echo_kept b a l = echo_by (b ∷ a) (one_of (picked is_echo html_rows) (b ∷ a) (joined rest) refl (longest_meets is_echo V74 html (b ∷ a) (joined rest) OpenEcho refl l))

  tag_kept : (b : ℕ) (a : List ℕ) → ContinuesAs false true rest after → Old Tag b a → New Tag b a
  tag_kept b a g l =
      tags_stay V74 V74 (b ∷ a) (joined rest) (joined after)
      (and_same (ends_return (b ∷ a)) (begins_by 10 (joined rest)) (begins_by 10 (joined after)) (first_stays (λ (x : ℕ). nat_eq x 10) refl g) (tag_behind b a (joined rest) l))
      (λ e. ap joined (goes_none g refl (no_bytes rest e))) l

  kept : (kind : Kind) (b : ℕ) (a : List ℕ) → ContinuesAs false (is_trivia kind) rest after → Old kind b a
      → Steps V74 (stack_of (mode_opened kind) below depth) rest
      → Steps V74 (stack_of (mode_opened kind) over deep) after → New kind b a
  kept Space b a g l s w = never Space b a (joined rest) refl l
  kept Comment b a g l s w = never Comment b a (joined rest) refl l
  kept Tag b a g l s w = tag_kept b a g l
  kept OpenEcho b a g l s w = echo_kept b a l
  kept InlineHtml b a g l s w = inline_so b a below over depth deep g l s w
  kept Variable b a g l s w = never Variable b a (joined rest) refl l
  kept Word b a g l s w = never Word b a (joined rest) refl l
  kept Label b a g l s w = never Label b a (joined rest) refl l
  kept Keyword b a g l s w = never Keyword b a (joined rest) refl l
  kept Name b a g l s w = never Name b a (joined rest) refl l
  kept Decimal b a g l s w = never Decimal b a (joined rest) refl l
  kept Octal b a g l s w = never Octal b a (joined rest) refl l
  kept Hexadecimal b a g l s w = never Hexadecimal b a (joined rest) refl l
  kept Binary b a g l s w = never Binary b a (joined rest) refl l
  kept Digits b a g l s w = never Digits b a (joined rest) refl l
  kept Float b a g l s w = never Float b a (joined rest) refl l
  kept Text b a g l s w = never Text b a (joined rest) refl l
  kept Quote b a g l s w = never Quote b a (joined rest) refl l
  kept Backtick b a g l s w = never Backtick b a (joined rest) refl l
  kept HeredocStart b a g l s w = never HeredocStart b a (joined rest) refl l
  kept Cast b a g l s w = never Cast b a (joined rest) refl l
  kept Op b a g l s w = never Op b a (joined rest) refl l
  kept AttributeOpen b a g l s w = never AttributeOpen b a (joined rest) refl l
  kept Semi b a g l s w = never Semi b a (joined rest) refl l
  kept Close b a g l s w = never Close b a (joined rest) refl l
  kept Piece b a g l s w = never Piece b a (joined rest) refl l
  kept CurlyOpen b a g l s w = never CurlyOpen b a (joined rest) refl l
  kept DollarBrace b a g l s w = never DollarBrace b a (joined rest) refl l
  kept VarName b a g l s w = never VarName b a (joined rest) refl l
  kept QuotedEnd b a g l s w = never QuotedEnd b a (joined rest) refl l

html_source : (kind : Kind) (b : ℕ) (a : List ℕ) (below : List Mode) (depth : ℕ) (rest : List Tile)
    → Steps V74 (stack_of html below depth) (tile kind b a ∷ rest)
    → Steps V74 (stack_of (mode_opened kind) below depth) rest
html_source kind b a below depth rest s = steps_behind (stack_of html below depth)
    (stack_of (mode_opened kind) below depth) kind b a rest (html_mode_step kind b a (joined rest) below depth) s

html_written : (kind : Kind) (b : ℕ) (a : List ℕ) (gap : Bool) (below over : List Mode) (depth deep : ℕ)
    (rest after : List Tile) → ContinuesAs false (is_trivia kind) rest after
    → Steps V74 (stack_of html below depth) (tile kind b a ∷ rest)
    → Steps V74 (stack_of (mode_opened kind) over deep) after
    → Steps V74 (stack_of html over deep) (tile kind b a ∷ after)
html_written kind b a gap below over depth deep rest after g s w =
    let new = kept below over depth deep rest after kind b a g (longest_in (stack_of html below depth) kind b a rest s) (html_source kind b a below depth rest s) w in
    stepped (stack_of html over deep) (stack_of (mode_opened kind) over deep) kind b a after new (html_mode_step kind b a (joined after) over deep) w

pub html_tokens_become : HtmlTokensBecome
html_tokens_become kind b a = record {
  goes = λ tight gap rest after g. same kind b a g;
  source = html_source kind b a;
  written = html_written kind b a;
}
