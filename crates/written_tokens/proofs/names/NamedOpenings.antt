-- Inline HTML, and what opens a quoted text, before edited names.
use Rattle.std.proofs.Common.{◌≡◌, ℕ, suc, inl, inr, Option, Some, None, Bool, true, false, not, ◌&&◌, nat_eq, List, [], ◌∷◌, ◌++◌, length, refl, sym, ap, ◌∙◌, subst}
use Rattle.php_tree.specs.declared.version.Version.TheVariants.{V74}
use Rattle.php_spellings.specs.declared.table.Kind.{Kind}
use Rattle.php_spellings.specs.declared.table.Kind.TheVariants.{Space, Comment, Tag, OpenEcho, InlineHtml, Word, Op, Piece}
use Rattle.php_spellings.specs.declared.table.Mark.{Mark}
use Rattle.php_spellings.specs.declared.table.Mark.TheVariants.{Double, Back, Here}
use Rattle.php_spellings.specs.declared.table.State.TheVariants.{Plain}
use Rattle.php_spellings.specs.Bytes.{begins_by}
use Rattle.php_lexer.specs.Tails.{begins_part, in_piece}
use Rattle.php_lexer.specs.RulesCode.{html_rows}
use Rattle.php_lexer.specs.Modes.{Mode, html, quoted, IsLongest}
use Rattle.php_lexer.specs.Tails.{begins_tag}
use Rattle.php_relexing.specs.Tiles.{Tile, tile, joined}
use Rattle.php_relexing.specs.Spelled.{Steps}
use Rattle.php_relexing.specs.Inline.{ends_return}
use Rattle.php_relexing.proofs.Inline.{html_stays}
use Rattle.php_relexing.proofs.Operators.{OneOf, one_of}
use Rattle.php_relexing.proofs.Picked.{picked, longest_meets}
use Rattle.php_relexing.proofs.PieceRuns.{piece_scan}
use Rattle.php_relexing.proofs.Quotes.{quotes_open}
use Rattle.php_relexing.proofs.Scanned.{scan_of}
use Rattle.php_relexing.proofs.TagTexts.{tags_stay}
use Rattle.written_tokens.specs.tokens.Levels.{stack_of}
use Rattle.written_tokens.specs.tiles.ContinuesAs.{is_trivia}
use Rattle.written_tokens.specs.tiles.CodeTokens.{mode_opened}
use Rattle.written_tokens.proofs.tiles.HtmlBehind.{never, tag_opens, inline_behind, no_inline, tag_behind}
use Rattle.written_tokens.proofs.tiles.Stepping.{longest_in}
use Rattle.written_tokens.proofs.texts.OpeningTokens.{Unclosed, of_quote, no_quote}
use Rattle.written_tokens.specs.names.Named.{all_blank, Named, none, same, spaced, closed, rooted}
use Rattle.written_tokens.proofs.names.Shared.{Share, byte_same, part_same}
use Rattle.written_tokens.proofs.names.QuotedRows as quotes
use Rattle.written_tokens.proofs.names.QuotedRows.{share_behind, SameFront, is_piece, quoted_stays, offset_stays, property_stays, mode_step_same}
use Rattle.written_tokens.proofs.names.NamedFacts.{share_of, may_edit, edit_first, closed_edit}

-- ---- inline HTML

abbrev is_echo : Kind → Bool
is_echo OpenEcho = true
is_echo _ = false

and_same : (x y z : Bool) → y ≡ z → (x && y) ≡ false → (x && z) ≡ false
and_same x y z e h = subst (λ (t : Bool). (x && t) ≡ false) e h

inline_stay : (b : ℕ) (a : List ℕ) (c : ℕ) (r s : List ℕ) → c ≡ 60 → begins_tag s ≡ true
    → IsLongest V74 html (b ∷ a ++ c ∷ r) InlineHtml (suc (length a))
    → IsLongest V74 html (b ∷ a ++ c ∷ s) InlineHtml (suc (length a))
inline_stay b a c r s e h l =
    subst (λ (x : ℕ). IsLongest V74 html (b ∷ a ++ x ∷ s) InlineHtml (suc (length a))) (sym e)
    (html_stays.inline V74 V74 (b ∷ a) r s h (subst (λ (x : ℕ). IsLongest V74 html (b ∷ a ++ x ∷ r) InlineHtml (suc (length a))) e l))

module _ (below : List Mode) (depth : ℕ) where
  abbrev Html : List Tile → Type 0
  Html ts = Steps V74 (stack_of html below depth) ts

  blank_never : {A : Type 0} (trivia ts : List Tile) → all_blank trivia ≡ true → Html (trivia ++ tile Op 92 [] ∷ ts) → A
  blank_never [] ts f s = never Op 92 [] (joined ts) refl (longest_in (stack_of html below depth) Op 92 [] ts s)
  blank_never (tile Space b a ∷ trivia) ts f s = never Space b a (joined (trivia ++ tile Op 92 [] ∷ ts)) refl
      (longest_in (stack_of html below depth) Space b a (trivia ++ tile Op 92 [] ∷ ts) s)
  blank_never (tile Comment b a ∷ trivia) ts f s = never Comment b a (joined (trivia ++ tile Op 92 [] ∷ ts)) refl
      (longest_in (stack_of html below depth) Comment b a (trivia ++ tile Op 92 [] ∷ ts) s)
  blank_never (tile _ b a ∷ trivia) ts f s = absurd cc

  abbrev Inline : ℕ → List ℕ → List Tile → Type 0
  Inline b a ts = IsLongest V74 html (b ∷ a ++ joined ts) InlineHtml (suc (length a))

  inline_by : (b : ℕ) (a : List ℕ) (kind : Kind) (c : ℕ) (e : List ℕ) (ts us : List Tile)
      → Inline b a (tile kind c e ∷ ts) → Html (tile kind c e ∷ ts) → Html (tile kind c e ∷ us)
      → Inline b a (tile kind c e ∷ us)
  inline_by b a Tag c e ts us l s w =
      let opens = tag_opens c e (joined us) Tag refl (longest_in (stack_of html below depth) Tag c e us w) in
      inline_stay b a c (e ++ joined ts) (e ++ joined us) opens.angle opens.tag l
  inline_by b a OpenEcho c e ts us l s w =
      let opens = tag_opens c e (joined us) OpenEcho refl (longest_in (stack_of html below depth) OpenEcho c e us w) in
      inline_stay b a c (e ++ joined ts) (e ++ joined us) opens.angle opens.tag l
  inline_by b a InlineHtml c e ts us l s w =
      absurd (no_inline c e (joined ts) (inline_behind b a c (e ++ joined ts) l) (longest_in (stack_of html below depth) InlineHtml c e ts s))
  inline_by b a _ c e ts us l s w = never _ c e (joined ts) refl (longest_in (stack_of html below depth) _ c e ts s)

  inline_so : (b : ℕ) (a : List ℕ) {gap : Bool} {ts us : List Tile} → Named gap ts us → Inline b a ts → Html ts → Html us → Inline b a us
  inline_so b a none l s w = l
  inline_so b a (same {ts = ts} {us = us} kind c e h) l s w = inline_by b a kind c e ts us l s w
  inline_so b a (spaced {ts = ts} h) l s w = never Op 92 [] (joined ts) refl (longest_in (stack_of html below depth) Op 92 [] ts s)
  inline_so b a (closed {ts = ts} trivia f h) l s w = blank_never trivia ts f s
  inline_so b a (rooted {ts = ts} trivia c e f h) l s w = never Op 92 [] (joined (trivia ++ tile Word c e ∷ ts)) refl
      (longest_in (stack_of html below depth) Op 92 [] (trivia ++ tile Word c e ∷ ts) s)

abbrev Echo : List ℕ → List ℕ → Type 0
Echo s [] = Unit {0}
Echo s (b ∷ a) = IsLongest V74 html (b ∷ a ++ s) OpenEcho (suc (length a))

echo_by : (s t : List ℕ) → OneOf (picked is_echo html_rows) t → Echo s t
echo_by s t (inl e) = subst (Echo s) (sym e) (html_stays.echo V74 s)
echo_by s t (inr e) = absurd e

-- behind trivia the first byte stays
gap_feed : {gap : Bool} {ts us : List Tile} → Named gap ts us → gap ≡ true → begins_by 10 (joined ts) ≡ begins_by 10 (joined us)
gap_feed none e = refl
gap_feed (same kind b a h) e = refl
gap_feed (spaced h) e = absurd cc
gap_feed (closed trivia f h) e = absurd cc
gap_feed (rooted trivia b a f h) e = refl

gap_none : {gap : Bool} {ts us : List Tile} → Named gap ts us → gap ≡ true → joined ts ≡ [] → joined us ≡ []
gap_none none e h = refl
gap_none (same kind b a g) e h = absurd cc
gap_none (spaced g) e h = absurd cc
gap_none (closed trivia f g) e h = absurd cc
gap_none (rooted trivia b a f g) e h = absurd cc

pub html_new : (kind : Kind) (b : ℕ) (a : List ℕ) (ts us : List Tile) (below : List Mode) (depth : ℕ)
    → Named (is_trivia kind) ts us → IsLongest V74 html (b ∷ a ++ joined ts) kind (suc (length a))
    → Steps V74 (stack_of (mode_opened kind) below depth) ts → Steps V74 (stack_of (mode_opened kind) below depth) us
    → IsLongest V74 html (b ∷ a ++ joined us) kind (suc (length a))
html_new Tag b a ts us below depth g l s w =
    tags_stay V74 V74 (b ∷ a) (joined ts) (joined us)
    (and_same (ends_return (b ∷ a)) (begins_by 10 (joined ts)) (begins_by 10 (joined us)) (gap_feed g refl) (tag_behind b a (joined ts) l))
    (gap_none g refl) l
html_new OpenEcho b a ts us below depth g l s w = echo_by (joined us) (b ∷ a)
    (one_of (picked is_echo html_rows) (b ∷ a) (joined ts) refl
    (longest_meets is_echo V74 html (b ∷ a) (joined ts) OpenEcho refl l))
html_new InlineHtml b a ts us below depth g l s w = inline_so below depth b a g l s w
html_new _ b a ts us below depth g l s w = never _ b a (joined ts) refl l

-- ---- no edit begins in a quoted text

abbrev pub is_edited : Kind → Bool
is_edited Space = true
is_edited Comment = true
is_edited Op = true
is_edited _ = false

may_is : (kind : Kind) (b : ℕ) → is_edited kind ≡ false → may_edit kind b ≡ false
may_is Space b h = absurd cc
may_is Comment b h = absurd cc
may_is Op b h = absurd cc
may_is _ b h = refl

edited_by : (mark : Mark) (label : List ℕ) (fresh : Bool) (kind : Kind) (b : ℕ) (a r : List ℕ) (t : Bool)
    → is_edited kind ≡ t → IsLongest V74 (quoted mark label fresh) (b ∷ a ++ r) kind (suc (length a))
    → may_edit kind b ≡ false
edited_by mark label fresh kind b a r false e l = may_is kind b e
edited_by Double label fresh kind b a r true e l = absurd (let clash = longest_meets is_edited V74 (quoted Double label fresh) (b ∷ a) r kind e l in cc)
edited_by Back label fresh kind b a r true e l = absurd (let clash = longest_meets is_edited V74 (quoted Back label fresh) (b ∷ a) r kind e l in cc)
edited_by Here label true kind b a r true e l = absurd (let clash = longest_meets is_edited V74 (quoted Here label true) (b ∷ a) r kind e l in cc)
edited_by Here label false kind b a r true e l = absurd (let clash = longest_meets is_edited V74 (quoted Here label false) (b ∷ a) r kind e l in cc)

pub unedited : (mark : Mark) (label : List ℕ) (fresh : Bool) (below : List Mode) (depth : ℕ) (ts : List Tile)
    → Steps V74 (stack_of (quoted mark label fresh) below depth) ts → edit_first ts ≡ false
unedited mark label fresh below depth [] s = refl
unedited mark label fresh below depth (tile kind b a ∷ ts) s =
    edited_by mark label fresh kind b a (joined ts) (is_edited kind) refl (longest_in (stack_of (quoted mark label fresh) below depth) kind b a ts s)

pub feed_same : {r s : List ℕ} → SameFront r s → begins_by 10 r ≡ begins_by 10 s
feed_same quotes.nothing = refl
feed_same (quotes.first c h) = refl

-- ---- what opens a quoted text

part_none : (b : ℕ) (bs : List ℕ) → begins_part b bs ≡ true → Unclosed (b ∷ bs)
part_none b bs h = rw h refl

closing_some : (b : ℕ) (bs : List ℕ) → begins_part b bs ≡ false → nat_eq b 34 ≡ true → Unclosed (b ∷ bs) → ⊥
closing_some b bs p q h = let clash = rw (p, q) at h in cc

abbrev kind_found : Option (Kind × ℕ) → Kind
kind_found None = Piece
kind_found (Some x) = x.0

not_both : (x y : Bool) → x ≡ false → y ≡ false → (not x && not y) ≡ true
not_both false false p q = refl
not_both true y p q = absurd cc
not_both false true p q = absurd cc

module _ (below : List Mode) (depth : ℕ) where
  abbrev InText : List Tile → Type 0
  InText ts = Steps V74 (stack_of (quoted Double [] false) below depth) ts

  piece_open : (b : ℕ) (a : List ℕ) (ts us : List Tile) → Share (joined ts) (joined us) → InText (tile Piece b a ∷ ts)
      → InText (tile Piece b a ∷ us) → Unclosed (b ∷ a ++ joined ts) → Unclosed (b ∷ a ++ joined us)
  piece_open b a ts us h s w u =
      let old = longest_in (stack_of (quoted Double [] false) below depth) Piece b a ts s in
      let new = longest_in (stack_of (quoted Double [] false) below depth) Piece b a us w in
      of_quote (b ∷ a ++ joined us) (quotes_open.piece V74 V74 (b ∷ a) (joined us) (sym (byte_same 34 refl h) ∙ no_quote b a (joined ts) old u) new)

  opened_by : (kind : Kind) (b : ℕ) (a : List ℕ) (ts us : List Tile) → Share (joined ts) (joined us)
      → InText (tile kind b a ∷ ts) → InText (tile kind b a ∷ us) → Unclosed (b ∷ a ++ joined ts) → (p q : Bool)
      → begins_part b (a ++ joined ts) ≡ p → nat_eq b 34 ≡ q → Unclosed (b ∷ a ++ joined us)
  opened_by kind b a ts us h s w u true q e f = part_none b (a ++ joined us) (sym (part_same b (share_behind a (joined ts) (joined us) h)) ∙ e)
  opened_by kind b a ts us h s w u false true e f = absurd (closing_some b (a ++ joined ts) e f u)
  opened_by kind b a ts us h s w u false false e f =
      let in_it : in_piece Double [] Plain b (a ++ joined ts) ≡ true = not_both (nat_eq b 34) (begins_part b (a ++ joined ts)) f e in
      let old = longest_in (stack_of (quoted Double [] false) below depth) kind b a ts s in
      let is : Piece ≡ kind = ap kind_found (sym (piece_scan V74 Double [] false b (a ++ joined ts) in_it)
      ∙ scan_of V74 (quoted Double [] false) (b ∷ a ++ joined ts) kind (suc (length a)) old) in
      piece_open b a ts us h
      (subst (λ (k : Kind). InText (tile k b a ∷ ts)) (sym is) s)
      (subst (λ (k : Kind). InText (tile k b a ∷ us)) (sym is) w) u

  pub unclosed_by : {gap : Bool} {ts us : List Tile} → Named gap ts us → edit_first ts ≡ false → InText ts → InText us → Unclosed (joined ts) → Unclosed (joined us)
  unclosed_by none e s w u = u
  unclosed_by (same {ts = ts} {us = us} kind b a h) e s w u = opened_by kind b a ts us (share_of h) s w u (begins_part b (a ++ joined ts)) (nat_eq b 34) refl refl
  unclosed_by (spaced h) e s w u = absurd cc
  unclosed_by (closed {ts = ts} trivia f h) e s w u = absurd (closed_edit trivia ts f e)
  unclosed_by (rooted trivia b a f h) e s w u = absurd cc
