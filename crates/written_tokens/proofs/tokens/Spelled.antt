-- The tokens of a row with whole names are whole names.
use Rattle.std.proofs.Common.{◌≡◌, ℕ, Bool, true, false, cond, not, ◌&&◌, ◌||◌, nat_eq, List, [], ◌∷◌, ◌++◌, Option, Some, None, codes, refl, sym, ap, ◌∙◌, subst}
use Rattle.std.specs.Str.{bytes_eq}
use Rattle.std.proofs.lemmas.Bool.{and_parts, not-true}
use Rattle.php_tree.specs.declared.version.Version.TheVariants.{V83}
use Rattle.php_tree.specs.declared.token.TokenKind.{TokenKind}
use Rattle.php_tree.specs.declared.token.TokenKind.TheVariants as token
use Rattle.php_spellings.specs.declared.table.Kind.{Kind}
use Rattle.php_spellings.specs.declared.table.Kind.TheVariants.{Space, Comment, Tag, Word, Label, Keyword, Name, Op, Decimal, Octal, Hexadecimal, Binary}
use Rattle.php_spellings.specs.Bytes.{is_empty}
use Rattle.php_spellings.specs.Words.{token_of, is_keyword}
use Rattle.php_lexer.specs.Lexed.{Lexeme, Lexed}
use Rattle.php_relexing.specs.Tiles.{Tile, tile, joined}
use Rattle.php_relexing.specs.Spelled.{lexeme_with, spelled}
use Rattle.php_relexing.proofs.Spelling.{tiles_are_tokens}
use Rattle.written_tokens.specs.tokens.Names.{goes_on_root, are_one, in_front, whole_names}
use Rattle.written_tokens.specs.tokens.Whole.{
  is_label_kind,
  is_name_kind,
  is_keyword_kind,
  is_op_kind,
  is_namespace,
  begins_label,
  is_backslash,
  is_one,
  before_tokens,
  whole_tokens,
  begins_other,
  is_apart,
  all_apart,
  TokensInNewer,
}
use Rattle.written_tokens.proofs.tokens.Newer.{names_joined}
use Rattle.written_tokens.proofs.tokens.Uncut.{same_in_newer}

abbrev lexeme_of : TokenKind → List ℕ → List ℕ → Lexeme
lexeme_of kind lead text = record { kind = kind; lead = lead; text = text }

and_false : (x : Bool) → (x && false) ≡ false
and_false true = refl
and_false false = refl

-- ---- nothing is joined behind trivia

append_some : (c : ℕ) (l a : List ℕ) → is_empty ((c ∷ l) ++ a) ≡ false
append_some c l a = refl

no_join : (t : Lexeme) (kind : TokenKind) (c : ℕ) (l text : List ℕ) (us : List Lexeme) → before_tokens t (lexeme_of kind (c ∷ l) text ∷ us) ≡ t ∷ lexeme_of kind (c ∷ l) text ∷ us
no_join t kind c l text us = rw (and_false (is_one t.kind t.text kind text)) refl

lead_by : (t : Lexeme) (c : ℕ) (l : List ℕ) (b : ℕ) (a : List ℕ) (us : List Tile)
    → before_tokens t (spelled (c ∷ l ++ b ∷ a) us) ≡ t ∷ spelled (c ∷ l ++ b ∷ a) us → (o : Option TokenKind)
    → before_tokens t (lexeme_with o (c ∷ l) (b ∷ a) (λ m. spelled m us)) ≡ t
    ∷ lexeme_with o (c ∷ l) (b ∷ a) (λ m. spelled m us)
lead_by t c l b a us ih None = ih
lead_by t c l b a us ih (Some k) = no_join t k c l (b ∷ a) (spelled [] us)

lead_stays : (t : Lexeme) (c : ℕ) (l : List ℕ) (us : List Tile) → before_tokens t (spelled (c ∷ l) us) ≡ t ∷ spelled (c ∷ l) us
lead_stays t c l [] = no_join t token.End c l [] []
lead_stays t c l (tile kind b a ∷ us) = lead_by t c l b a us (lead_stays t c (l ++ b ∷ a) us) (token_of kind (b ∷ a))

-- ---- the same neighbours are one

or_false : (x : Bool) → (x || false) ≡ x
or_false true = refl
or_false false = refl

abbrev opt_by : (TokenKind → Bool) → Option TokenKind → Bool
opt_by f None = false
opt_by f (Some k) = f k

abbrev kind_name : Kind → Bool
kind_name Name = true
kind_name _ = false

abbrev kind_op : Kind → Bool
kind_op Op = true
kind_op _ = false

abbrev kind_label : Kind → List ℕ → Bool
kind_label Word text = not (is_keyword text)
kind_label Label text = true
kind_label _ text = false

abbrev kind_keyword : Kind → List ℕ → Bool
kind_keyword Word text = is_keyword text
kind_keyword Keyword text = true
kind_keyword _ text = false

both : (f : TokenKind → Bool) (t : Bool) (x y : TokenKind) (r : Bool) → f x ≡ r → f y ≡ r → f (cond t x y) ≡ r
both f true x y r p q = p
both f false x y r p q = q

word_label : (t : Bool) → is_label_kind (cond t token.Keyword token.Label) ≡ not t
word_label true = refl
word_label false = refl

word_keyword : (t : Bool) → is_keyword_kind (cond t token.Keyword token.Label) ≡ t
word_keyword true = refl
word_keyword false = refl

name_of : (w : Kind) (text : List ℕ) → opt_by is_name_kind (token_of w text) ≡ kind_name w
name_of Word text = both is_name_kind (is_keyword text) token.Keyword token.Label false refl refl
name_of Decimal text = both is_name_kind _ token.Int token.Float false refl refl
name_of Octal text = both is_name_kind _ token.Int token.Float false refl refl
name_of Hexadecimal text = both is_name_kind _ token.Int token.Float false refl refl
name_of Binary text = both is_name_kind _ token.Int token.Float false refl refl
name_of Name text = refl
name_of _ text = refl

op_of : (w : Kind) (text : List ℕ) → opt_by is_op_kind (token_of w text) ≡ kind_op w
op_of Word text = both is_op_kind (is_keyword text) token.Keyword token.Label false refl refl
op_of Decimal text = both is_op_kind _ token.Int token.Float false refl refl
op_of Octal text = both is_op_kind _ token.Int token.Float false refl refl
op_of Hexadecimal text = both is_op_kind _ token.Int token.Float false refl refl
op_of Binary text = both is_op_kind _ token.Int token.Float false refl refl
op_of Op text = refl
op_of _ text = refl

label_of : (w : Kind) (text : List ℕ) → opt_by is_label_kind (token_of w text) ≡ kind_label w text
label_of Word text = word_label (is_keyword text)
label_of Decimal text = both is_label_kind _ token.Int token.Float false refl refl
label_of Octal text = both is_label_kind _ token.Int token.Float false refl refl
label_of Hexadecimal text = both is_label_kind _ token.Int token.Float false refl refl
label_of Binary text = both is_label_kind _ token.Int token.Float false refl refl
label_of Label text = refl
label_of _ text = refl

keyword_of : (w : Kind) (text : List ℕ) → opt_by is_keyword_kind (token_of w text) ≡ kind_keyword w text
keyword_of Word text = word_keyword (is_keyword text)
keyword_of Decimal text = both is_keyword_kind _ token.Int token.Float false refl refl
keyword_of Octal text = both is_keyword_kind _ token.Int token.Float false refl refl
keyword_of Hexadecimal text = both is_keyword_kind _ token.Int token.Float false refl refl
keyword_of Binary text = both is_keyword_kind _ token.Int token.Float false refl refl
keyword_of Keyword text = refl
keyword_of _ text = refl

-- whether neighbours are one, by their kinds in the tables
abbrev one_by : Kind → List ℕ → Kind → ℕ → List ℕ → Bool
one_by kind t w c e =
    (kind_op kind && bytes_eq t (codes "\\")) && (kind_label w (c ∷ e) || kind_name w && not (nat_eq c 92))
    || (kind_label kind t || kind_keyword kind t && is_namespace t) && (kind_name w && nat_eq c 92)

root_goes : (w : Kind) (c : ℕ) (e : List ℕ) (us : List Tile) → begins_other (tile w c e ∷ us) ≡ false
    → (kind_label w (c ∷ e) || kind_name w && not (nat_eq c 92)) ≡ goes_on_root w c
root_goes Word c e us h = rw h refl
root_goes Label c e us h = absurd cc
root_goes Name c e us h = refl
root_goes _ c e us h = refl

op_one : (b : ℕ) (a : List ℕ) (w : Kind) (c : ℕ) (e : List ℕ) (us : List Tile) (t : Bool) → nat_eq b 92 ≡ t
    → (not t || is_empty a && not (begins_other (tile w c e ∷ us))) ≡ true → one_by Op (b ∷ a) w c e ≡ nat_eq b 92
    && goes_on_root w c
op_one b a w c e us false p h = rw p refl
op_one b (d ∷ a) w c e us true p h = absurd cc
op_one b [] w c e us true p h = rw p (or_false _ ∙ root_goes w c e us (not-true (begins_other (tile w c e ∷ us)) h))

word_one : (x y z : Bool) → (not x || y || not z) ≡ true → ((not x || x && y) && z) ≡ z
word_one true true true h = refl
word_one true true false h = refl
word_one true false true h = absurd cc
word_one true false false h = refl
word_one false y z h = refl

one_same : (kind : Kind) (b : ℕ) (a : List ℕ) (w : Kind) (c : ℕ) (e : List ℕ) (us : List Tile)
    → is_apart kind b a (tile w c e ∷ us) ≡ true → one_by kind (b ∷ a) w c e ≡ are_one kind b w c
one_same Op b a w c e us h = op_one b a w c e us (nat_eq b 92) refl h
one_same Word b a Name c e us h = word_one (is_keyword (b ∷ a)) (is_namespace (b ∷ a)) (nat_eq c 92) h
one_same Word b a _ c e us h = and_false _
one_same Label b a Name c e us h = not-true (nat_eq c 92) h
one_same Label b a _ c e us h = refl
one_same Keyword b a Name c e us h = rw (not-true (is_namespace (b ∷ a)) h) refl
one_same Keyword b a _ c e us h = and_false _
one_same _ b a w c e us h = refl

-- ---- the whole row

token_one : (kind : Kind) (b : ℕ) (a : List ℕ) (k : TokenKind) (w : Kind) (c : ℕ) (e : List ℕ) (j : TokenKind)
    (us : List Tile) → token_of kind (b ∷ a) ≡ Some k → token_of w (c ∷ e) ≡ Some j
    → is_apart kind b a (tile w c e ∷ us) ≡ true → is_one k (b ∷ a) j (c ∷ e) ≡ are_one kind b w c
token_one kind b a k w c e j us p q h =
    let op : is_op_kind k ≡ kind_op kind = sym (ap (opt_by is_op_kind) p) ∙ op_of kind (b ∷ a) in
    let label : is_label_kind k ≡ kind_label kind (b ∷ a) = sym (ap (opt_by is_label_kind) p) ∙ label_of kind (b ∷ a) in
    let keyword : is_keyword_kind k ≡ kind_keyword kind (b ∷ a) = sym (ap (opt_by is_keyword_kind) p) ∙ keyword_of kind (b ∷ a) in
    let next : is_label_kind j ≡ kind_label w (c ∷ e) = sym (ap (opt_by is_label_kind) q) ∙ label_of w (c ∷ e) in
    let name : is_name_kind j ≡ kind_name w = sym (ap (opt_by is_name_kind) q) ∙ name_of w (c ∷ e) in
    rw (op, label, keyword, next, name) (one_same kind b a w c e us h)

-- trivia join nothing
trivia_kind : (kind : Kind) (b : ℕ) (a : List ℕ) (k : Kind) (c : ℕ) → token_of kind (b ∷ a) ≡ None → are_one kind b k c ≡ false
trivia_kind Space b a k c h = refl
trivia_kind Comment b a k c h = refl
trivia_kind Tag b a k c h = refl
trivia_kind _ b a k c h = absurd cc

behind_trivia : (kind : Kind) (b : ℕ) (w : Kind) (c : ℕ) (e : List ℕ) → token_of w (c ∷ e) ≡ None → are_one kind b w c ≡ false
behind_trivia Op b Space c e h = and_false (nat_eq b 92)
behind_trivia Op b Comment c e h = and_false (nat_eq b 92)
behind_trivia Op b Tag c e h = and_false (nat_eq b 92)
behind_trivia Op b _ c e h = absurd cc
behind_trivia Word b Space c e h = refl
behind_trivia Word b Comment c e h = refl
behind_trivia Word b Tag c e h = refl
behind_trivia Word b _ c e h = absurd cc
behind_trivia _ b w c e h = refl

trivia_front : (lead : List ℕ) (kind : Kind) (b : ℕ) (a : List ℕ) (ws : List Tile) → token_of kind (b ∷ a) ≡ None → spelled lead (in_front kind b a ws) ≡ spelled (lead ++ b ∷ a) ws
trivia_front lead kind b a [] h = rw h refl
trivia_front lead kind b a (tile k c e ∷ us) h = rw (trivia_kind kind b a k c h, h) refl

module _ (lead : List ℕ) (kind : Kind) (b : ℕ) (a : List ℕ) (k : TokenKind) (is : token_of kind (b ∷ a) ≡ Some k) where
  abbrev Front : List Tile → Type 0
  Front ws = spelled lead (in_front kind b a ws) ≡ before_tokens (lexeme_of k lead (b ∷ a)) (spelled [] ws)

  not_end : is_one k (b ∷ a) token.End [] ≡ false
  not_end = rw (and_false (is_backslash k (b ∷ a)), and_false (begins_label k (b ∷ a))) refl

  spelled_alone : (ws : List Tile) → spelled lead (tile kind b a ∷ ws) ≡ lexeme_of k lead (b ∷ a) ∷ spelled [] ws
  spelled_alone ws = rw is refl

  joined_by : (w : Kind) (c : ℕ) (e : List ℕ) (us : List Tile) (j : TokenKind) → token_of w (c ∷ e) ≡ Some j
      → (t : Bool) → spelled lead (cond t (tile Name b (a ++ c ∷ e) ∷ us) (tile kind b a ∷ tile w c e ∷ us)) ≡ cond
      (t && true) (lexeme_of token.Name lead (b ∷ a ++ c ∷ e) ∷ spelled [] us)
      (lexeme_of k lead (b ∷ a) ∷ lexeme_of j [] (c ∷ e) ∷ spelled [] us)
  joined_by w c e us j q true = refl
  joined_by w c e us j q false = rw (is, q) refl

  token_front : (w : Kind) (c : ℕ) (e : List ℕ) (us : List Tile) (o : Option TokenKind) → token_of w (c ∷ e) ≡ o
      → is_apart kind b a (tile w c e ∷ us) ≡ true → Front (tile w c e ∷ us)
  token_front w c e us None q h =
      let other = behind_trivia kind b w c e q in
      let shown : spelled [] (tile w c e ∷ us) ≡ spelled (c ∷ e) us = rw q refl in
      let left : spelled lead (in_front kind b a (tile w c e ∷ us)) ≡ lexeme_of k lead (b ∷ a) ∷ spelled [] (tile w c e ∷ us) = rw other (spelled_alone (tile w c e ∷ us)) in
      left ∙ ap (λ (l : List Lexeme). lexeme_of k lead (b ∷ a) ∷ l) shown
      ∙ sym (lead_stays (lexeme_of k lead (b ∷ a)) c e us)
      ∙ ap (before_tokens (lexeme_of k lead (b ∷ a))) (sym shown)
  token_front w c e us (Some j) q h =
      let shown : spelled [] (tile w c e ∷ us) ≡ lexeme_of j [] (c ∷ e) ∷ spelled [] us = rw q refl in
      let one = token_one kind b a k w c e j us is q h in
      joined_by w c e us j q (are_one kind b w c)
      ∙ ap (λ (t : Bool). cond (t && true) (lexeme_of token.Name lead (b ∷ a ++ c ∷ e) ∷ spelled [] us)
      (lexeme_of k lead (b ∷ a) ∷ lexeme_of j [] (c ∷ e) ∷ spelled [] us)) (sym one)
      ∙ ap (before_tokens (lexeme_of k lead (b ∷ a))) (sym shown)

  front_is : (ws : List Tile) → is_apart kind b a ws ≡ true → Front ws
  front_is [] h = rw is (rw not_end refl)
  front_is (tile w c e ∷ us) h = token_front w c e us (token_of w (c ∷ e)) refl h

by_token : (lead : List ℕ) (kind : Kind) (b : ℕ) (a : List ℕ) (ts : List Tile)
    → is_apart kind b a (whole_names ts) ≡ true
    → ((l : List ℕ) → spelled l (whole_names ts) ≡ whole_tokens (spelled l ts)) → (o : Option TokenKind)
    → token_of kind (b ∷ a) ≡ o → spelled lead (in_front kind b a (whole_names ts)) ≡ whole_tokens
    (lexeme_with o lead (b ∷ a) (λ l. spelled l ts))
by_token lead kind b a ts h ih None e = trivia_front lead kind b a (whole_names ts) e ∙ ih (lead ++ b ∷ a)
by_token lead kind b a ts h ih (Some k) e = front_is lead kind b a k e (whole_names ts) h ∙ ap (before_tokens (lexeme_of k lead (b ∷ a))) (ih [])

pub names_spelled : (lead : List ℕ) (ts : List Tile) → all_apart ts ≡ true → spelled lead (whole_names ts) ≡ whole_tokens (spelled lead ts)
names_spelled lead [] h = refl
names_spelled lead (tile kind b a ∷ ts) h =
    let (one, more) = and_parts (is_apart kind b a (whole_names ts)) (all_apart ts) h in
    by_token lead kind b a ts one (λ l. names_spelled l ts more) (token_of kind (b ∷ a)) refl

pub tokens_in_newer : TokensInNewer
tokens_in_newer stack lead ts p q r h =
    let there = tiles_are_tokens V83 stack (whole_names ts) lead (same_in_newer stack ts p q h) in
    subst (λ (l : List Lexeme). Lexed V83 stack lead (joined ts) l) (names_spelled lead ts r)
    (subst (λ (u : List ℕ). Lexed V83 stack lead u (spelled lead (whole_names ts))) (names_joined ts) there)
