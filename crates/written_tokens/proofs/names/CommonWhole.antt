-- 8.3 takes the whole row as 7.4 does, with names apart from other words.
use Rattle.std.proofs.Common.{◌≡◌, ℕ, suc, Bool, true, false, cond, not, ◌&&◌, ◌||◌, nat_eq, List, [], ◌∷◌, ◌++◌, length, Option, Some, None, refl, sym, ap, ◌∙◌, subst, arith}
use Rattle.std.proofs.lemmas.Bool.{and_parts, eqb-true, and_from, not-true}
use Rattle.std.proofs.lemmas.Bool.Decides.{nat_tests}
use Rattle.php_tree.specs.declared.version.Version.TheVariants.{V74}
use Rattle.php_tree.specs.declared.token.TokenKind.{TokenKind}
use Rattle.php_tree.specs.declared.token.TokenKind.TheVariants as token
use Rattle.php_spellings.specs.declared.table.Kind.{Kind}
use Rattle.php_spellings.specs.declared.table.Kind.TheVariants.{Space, Comment, Tag, Variable, Word, Label, Keyword, Op, DollarBrace, Decimal, Octal, Hexadecimal, Binary}
use Rattle.php_spellings.specs.declared.table.Mark.TheVariants.{Double, Back, Here}
use Rattle.php_spellings.specs.Bytes.{is_space, is_letter, begins}
use Rattle.php_spellings.specs.Words.{token_of, is_keyword}
use Rattle.php_lexer.specs.Modes.{Mode, html, code, named, quoted, offset, property, mode_step_of, IsLongest}
use Rattle.php_lexer.specs.Lexed.{Lexeme, Stack, start, stepped_by}
use Rattle.php_relexing.specs.Tiles.{Tile, tile, joined}
use Rattle.php_relexing.specs.Spelled.{Steps, lexeme_with, spelled}
use Rattle.php_relexing.specs.Labels.{all_label}
use Rattle.php_relexing.proofs.Labels.{words_are_labels}
use Rattle.php_relexing.proofs.Picked.{longest_meets}
use Rattle.written_tokens.specs.tokens.Levels.{stack_of}
use Rattle.written_tokens.specs.tokens.Names.{whole_names, begins_word, is_common, all_common}
use Rattle.written_tokens.specs.tokens.Whole.{is_label_kind, is_keyword_kind, is_namespace, begins_other, begins_rooted, is_apart, all_apart}
use Rattle.written_tokens.proofs.tiles.Behind.{keyword_first}
use Rattle.written_tokens.proofs.tiles.Stepping.{longest_in, steps_behind}
use Rattle.written_tokens.specs.names.Leads.{is_hash, none_hash}
use Rattle.written_tokens.specs.names.Named.{all_space, is_dollar_brace, none_dollar}
use Rattle.written_tokens.specs.names.Neighbours.{is_variable_kind}
use Rattle.written_tokens.specs.names.Apart.{are_apart, RowsAreCommon}
use Rattle.written_tokens.proofs.names.TriviaTexts as texts
use Rattle.written_tokens.proofs.names.NamedModes.{mode_ok, modes_ok, stack_ok, behind_ok}
use Rattle.written_tokens.proofs.names.NameTiles.{not_space_word}
use Rattle.written_tokens.proofs.names.CommonRows.{quoted_first, modes_sound, sound, behind_sound, root_op, RootFirst, first, root_first, is_other, front_other}
use Rattle.written_tokens.proofs.names.CommonTokens.{apart_tail, lexeme_of, near_token, safe_variable}

abbrev InCode : Kind → ℕ → List ℕ → List ℕ → Type 0
InCode k c e r = IsLongest V74 code (c ∷ e ++ r) k (suc (length e))

-- ---- what stands behind `\`

space_letter : (b : ℕ) → is_space b ≡ true → is_letter b ≡ false
space_letter b h = grind (arith, nat_tests)

comment_letter : (b : ℕ) (a r : List ℕ) → texts.CommentText b a r → is_letter b ≡ false
comment_letter b a r (texts.hash x run stop) = refl
comment_letter b a r (texts.block x until) = refl
comment_letter b a r (texts.slash x run stop) = refl

abbrev is_tag_kind : Kind → Bool
is_tag_kind Tag = true
is_tag_kind _ = false

trivia_letter : (k : Kind) (c : ℕ) (e r : List ℕ) → token_of k (c ∷ e) ≡ None → InCode k c e r → is_letter c ≡ false
trivia_letter Space c e r h l = space_letter c (and_parts (is_space c) (all_space e) (texts.space_text code c e r l)).0
trivia_letter Comment c e r h l = comment_letter c e r (texts.comment_text code c e r l)
trivia_letter Tag c e r h l = absurd (let clash = longest_meets is_tag_kind V74 code (c ∷ e) r Tag refl l in cc)
trivia_letter _ c e r h l = absurd cc

abbrev is_label_tile : Kind → Bool
is_label_tile Label = true
is_label_tile _ = false

number_label : (x : Bool) → is_label_kind (cond x token.Int token.Float) ≡ true → ⊥
number_label true h = cc
number_label false h = cc

abbrev opt_by : (TokenKind → Bool) → Option TokenKind → Bool
opt_by f None = false
opt_by f (Some k) = f k

-- a label of code is a word
label_word : (k : Kind) (c : ℕ) (e r : List ℕ) (ts : List Tile) → opt_by is_label_kind (token_of k (c ∷ e)) ≡ true → InCode k c e r → begins_word (tile k c e ∷ ts) ≡ true
label_word Word c e r ts h l = refl
label_word Label c e r ts h l = absurd (let clash = longest_meets is_label_tile V74 code (c ∷ e) r Label refl l in cc)
label_word Keyword c e r ts h l = absurd cc
label_word Decimal c e r ts h l = absurd (number_label _ h)
label_word Octal c e r ts h l = absurd (number_label _ h)
label_word Hexadecimal c e r ts h l = absurd (number_label _ h)
label_word Binary c e r ts h l = absurd (number_label _ h)
label_word _ c e r ts h l = absurd cc

abbrev root_token : List ℕ → Lexeme
root_token lead = lexeme_of token.Op lead (92 ∷ [])

module _ (lead : List ℕ) (below : List Mode) (depth : ℕ) where
  abbrev Code : List Tile → Type 0
  Code ts = Steps V74 (stack_of code below depth) ts

  common_by : (k : Kind) (c : ℕ) (e : List ℕ) (ts : List Tile) → Code (tile k c e ∷ ts)
      → are_apart (root_token lead ∷ spelled [] (tile k c e ∷ ts)) ≡ true → (o : Option TokenKind)
      → token_of k (c ∷ e) ≡ o → (x : Bool) → is_letter c ≡ x → (not x || begins_word (tile k c e ∷ ts)) ≡ true
  common_by k c e ts s h o is false p = refl
  common_by k c e ts s h None is true p =
      absurd (let clash : true ≡ false = sym p ∙ trivia_letter k c e (joined ts) is (longest_in (stack_of code below depth) k c e ts s) in cc)
  common_by k c e ts s h (Some j) is true p =
      let near = near_token (root_token lead) k c e ts j is h in
      let label : is_label_kind j ≡ true = subst (λ (x : Bool). (not x || is_label_kind j) ≡ true) p near.labelled in
      label_word k c e (joined ts) ts (ap (opt_by is_label_kind) is ∙ label) (longest_in (stack_of code below depth) k c e ts s)

  root_common : (ts : List Tile) → Code ts → are_apart (root_token lead ∷ spelled [] ts) ≡ true → (not (begins is_letter (joined ts)) || begins_word ts) ≡ true
  root_common [] s h = refl
  root_common (tile k c e ∷ ts) s h = common_by k c e ts s h (token_of k (c ∷ e)) refl (is_letter c) refl

  keyword_near : (c : ℕ) (e : List ℕ) (ts : List Tile) → Code (tile Word c e ∷ ts)
      → are_apart (root_token lead ∷ spelled [] (tile Word c e ∷ ts)) ≡ true → (x : Bool) → is_keyword (c ∷ e) ≡ x
      → x ≡ false
  keyword_near c e ts s h false p = refl
  keyword_near c e ts s h true p =
      let is : token_of Word (c ∷ e) ≡ Some token.Keyword = ap (λ (x : Bool). Some (cond x token.Keyword token.Label)) p in
      let near = near_token (root_token lead) Word c e ts token.Keyword is h in
      let letter : is_letter c ≡ true = (and_parts (is_letter c) (all_label e) (words_are_labels V74 c e (joined ts) (longest_in (stack_of code below depth) Word c e ts s))).0 in
      absurd (let clash : (not true || false) ≡ true = subst (λ (x : Bool). (not x || false) ≡ true) letter near.labelled in cc)

  other_near : (k : Kind) (c : ℕ) (e : List ℕ) (ts : List Tile) → Code (tile k c e ∷ ts)
      → are_apart (root_token lead ∷ spelled [] (tile k c e ∷ ts)) ≡ true → is_other k (c ∷ e) ≡ true → ⊥
  other_near Word c e ts s h o = let clash : true ≡ false = sym o ∙ keyword_near c e ts s h (is_keyword (c ∷ e)) refl in cc
  other_near Label c e ts s h o = let clash = longest_meets is_label_tile V74 code (c ∷ e) (joined ts) Label refl (longest_in (stack_of code below depth) Label c e ts s) in cc
  other_near _ c e ts s h o = absurd cc

  root_by : (ts : List Tile) → Code ts → are_apart (root_token lead ∷ spelled [] ts) ≡ true → (x : Bool) → begins_other (whole_names ts) ≡ x → x ≡ false
  root_by ts s h false e = refl
  root_by [] s h true e = absurd cc
  root_by (tile k c e ∷ ts) s h true p = absurd (other_near k c e ts s h (front_other k c e (whole_names ts) p))

  root_apart : (ts : List Tile) → Code ts → are_apart (root_token lead ∷ spelled [] ts) ≡ true → not (begins_other (whole_names ts)) ≡ true
  root_apart ts s h = ap not (root_by ts s h (begins_other (whole_names ts)) refl)

some_is : (k j : TokenKind) → Some k ≡ Some j → k ≡ j
some_is k j e = cc

variable_is : (j : TokenKind) → Some token.Variable ≡ Some j → is_variable_kind j ≡ true
variable_is j e = subst (λ (k : TokenKind). is_variable_kind k ≡ true) (some_is token.Variable j e) refl

-- ---- each token

abbrev Both : Kind → ℕ → List ℕ → List Tile → Type 0
Both kind b a ts = (is_common kind b a ts ≡ true) × (is_apart kind b a (whole_names ts) ≡ true)

module _ (lead : List ℕ) (m : Mode) (below : List Mode) (depth : ℕ) (ok : stack_ok (stack_of m below depth) ≡ true) where
  top_ok : mode_ok m ≡ true
  top_ok = (and_parts (mode_ok m) (modes_ok below) ok).0

  abbrev Stands : Kind → ℕ → List ℕ → List Tile → Type 0
  Stands kind b a ts = Steps V74 (stack_of m below depth) (tile kind b a ∷ ts)

  op_both : (a : List ℕ) (ts : List Tile) → Stands Op 92 a ts → are_apart (lexeme_of token.Op lead (92 ∷ a) ∷ spelled [] ts) ≡ true → Both Op 92 a ts
  op_both a ts s h =
      let is = root_op m a (joined ts) top_ok (longest_in (stack_of m below depth) Op 92 a ts s) in
      let there : Steps V74 (stack_of code below depth) (tile Op 92 [] ∷ ts) =
      subst (λ (n : Mode). Steps V74 (stack_of n below depth) (tile Op 92 [] ∷ ts)) is.mode
      (subst (λ (x : List ℕ). Steps V74 (stack_of m below depth) (tile Op 92 x ∷ ts)) is.text s) in
      let tail = steps_behind (stack_of code below depth) (stack_of code below depth) Op 92 [] ts refl there in
      let near : are_apart (root_token lead ∷ spelled [] ts) ≡ true = subst (λ (x : List ℕ). are_apart (lexeme_of token.Op lead (92 ∷ x) ∷ spelled [] ts) ≡ true) is.text h in
      (root_common lead below depth ts tail near, subst (λ (x : List ℕ). is_apart Op 92 x (whole_names ts) ≡ true) (sym is.text) (root_apart lead below depth ts tail near))

  op_by : (b : ℕ) (a : List ℕ) (ts : List Tile) → Stands Op b a ts
      → are_apart (lexeme_of token.Op lead (b ∷ a) ∷ spelled [] ts) ≡ true → (x : Bool) → nat_eq b 92 ≡ x
      → Both Op b a ts
  op_by b a ts s h true e =
      subst (λ (x : ℕ). Stands Op x a ts → are_apart (lexeme_of token.Op lead (x ∷ a) ∷ spelled [] ts) ≡ true → Both Op x a ts) (sym (eqb-true b 92 e)) (op_both a ts) s h
  op_by b a ts s h false e = (rw e refl, rw e refl)

  -- words
  no_root : (t : Lexeme) {ts : List Tile} → RootFirst code ts → is_keyword_kind t.kind ≡ true → is_namespace t.text ≡ false → are_apart (t ∷ spelled [] ts) ≡ true → ⊥
  no_root t (first {ts = us} e) k n h =
      let near = near_token t Op 92 [] us token.Op refl h in
      let clash = rw (k, n) at near.parted in cc

  word_by : (b : ℕ) (a : List ℕ) (ts : List Tile) → Steps V74 (stack_of code below depth) ts
      → are_apart (lexeme_of (cond (is_keyword (b ∷ a)) token.Keyword token.Label) lead (b ∷ a) ∷ spelled [] ts) ≡
      true → (x y z : Bool) → is_keyword (b ∷ a) ≡ x → is_namespace (b ∷ a) ≡ y → begins_rooted (whole_names ts) ≡ z
      → (not x || y || not z) ≡ true
  word_by b a ts s h false y z e f g = refl
  word_by b a ts s h true true z e f g = refl
  word_by b a ts s h true false false e f g = refl
  word_by b a ts s h true false true e f g =
      let t : Lexeme = lexeme_of token.Keyword lead (b ∷ a) in
      let near : are_apart (t ∷ spelled [] ts) ≡ true = subst (λ (x : Bool). are_apart (lexeme_of (cond x token.Keyword token.Label) lead (b ∷ a) ∷ spelled [] ts) ≡ true) e h in
      absurd (no_root t (root_first ts code below depth refl s g) refl f near)

abbrev is_word_tile : Kind → Bool
is_word_tile Word = true
is_word_tile _ = false

abbrev is_keyword_tile : Kind → Bool
is_keyword_tile Keyword = true
is_keyword_tile _ = false

-- words and keywords of their own stand in code
word_in : (m : Mode) (b : ℕ) (a r : List ℕ) → mode_ok m ≡ true → IsLongest V74 m (b ∷ a ++ r) Word (suc (length a)) → m ≡ code
word_in html b a r ok l = absurd (let clash = longest_meets is_word_tile V74 html (b ∷ a) r Word refl l in cc)
word_in code b a r ok l = refl
word_in named b a r ok l = absurd cc
word_in (quoted Double label fresh) b a r ok l = absurd (let clash = longest_meets is_word_tile V74 (quoted Double label fresh) (b ∷ a) r Word refl l in cc)
word_in (quoted Back label fresh) b a r ok l = absurd (let clash = longest_meets is_word_tile V74 (quoted Back label fresh) (b ∷ a) r Word refl l in cc)
word_in (quoted Here label true) b a r ok l = absurd (let clash = longest_meets is_word_tile V74 (quoted Here label true) (b ∷ a) r Word refl l in cc)
word_in (quoted Here label false) b a r ok l = absurd (let clash = longest_meets is_word_tile V74 (quoted Here label false) (b ∷ a) r Word refl l in cc)
word_in offset b a r ok l = absurd (let clash = longest_meets is_word_tile V74 offset (b ∷ a) r Word refl l in cc)
word_in property b a r ok l = absurd (let clash = longest_meets is_word_tile V74 property (b ∷ a) r Word refl l in cc)

keyword_in : (m : Mode) (b : ℕ) (a r : List ℕ) → mode_ok m ≡ true → IsLongest V74 m (b ∷ a ++ r) Keyword (suc (length a)) → is_namespace (b ∷ a) ≡ true → ⊥
keyword_in html b a r ok l n = let clash = longest_meets is_keyword_tile V74 html (b ∷ a) r Keyword refl l in cc
keyword_in code b a r ok l n = not_space_word b a (keyword_first b a r l) n
keyword_in named b a r ok l n = cc
keyword_in (quoted Double label fresh) b a r ok l n = let clash = longest_meets is_keyword_tile V74 (quoted Double label fresh) (b ∷ a) r Keyword refl l in cc
keyword_in (quoted Back label fresh) b a r ok l n = let clash = longest_meets is_keyword_tile V74 (quoted Back label fresh) (b ∷ a) r Keyword refl l in cc
keyword_in (quoted Here label true) b a r ok l n = let clash = longest_meets is_keyword_tile V74 (quoted Here label true) (b ∷ a) r Keyword refl l in cc
keyword_in (quoted Here label false) b a r ok l n = let clash = longest_meets is_keyword_tile V74 (quoted Here label false) (b ∷ a) r Keyword refl l in cc
keyword_in offset b a r ok l n = let clash = longest_meets is_keyword_tile V74 offset (b ∷ a) r Keyword refl l in cc
keyword_in property b a r ok l n = let clash = longest_meets is_keyword_tile V74 property (b ∷ a) r Keyword refl l in cc

-- behind a label of a property or an offset is no code
root_mode : {m : Mode} {ts : List Tile} → RootFirst m ts → m ≡ code
root_mode (first e) = e

abbrev is_code_mode : Mode → Bool
is_code_mode code = true
is_code_mode _ = false

quoted_not : (below : List Mode) (depth : ℕ) (text rest : List ℕ) → quoted_first below ≡ true
    → is_code_mode (stepped_by (mode_step_of V74 property Label text rest) (stack_of property below depth)).top ≡ false
quoted_not [] depth text rest h = absurd cc
quoted_not (quoted mark label fresh ∷ below) depth text rest h = refl
quoted_not (html ∷ below) depth text rest h = absurd cc
quoted_not (code ∷ below) depth text rest h = absurd cc
quoted_not (named ∷ below) depth text rest h = absurd cc
quoted_not (offset ∷ below) depth text rest h = absurd cc
quoted_not (property ∷ below) depth text rest h = absurd cc

label_not : (m : Mode) (below : List Mode) (depth : ℕ) (b : ℕ) (a r : List ℕ) → mode_ok m ≡ true
    → sound (stack_of m below depth) ≡ true → IsLongest V74 m (b ∷ a ++ r) Label (suc (length a))
    → is_code_mode (stepped_by (mode_step_of V74 m Label (b ∷ a) r) (stack_of m below depth)).top ≡ false
label_not html below depth b a r ok f l = absurd (let clash = longest_meets is_label_tile V74 html (b ∷ a) r Label refl l in cc)
label_not code below depth b a r ok f l = absurd (let clash = longest_meets is_label_tile V74 code (b ∷ a) r Label refl l in cc)
label_not named below depth b a r ok f l = absurd cc
label_not (quoted Double label fresh) below depth b a r ok f l = absurd (let clash = longest_meets is_label_tile V74 (quoted Double label fresh) (b ∷ a) r Label refl l in cc)
label_not (quoted Back label fresh) below depth b a r ok f l = absurd (let clash = longest_meets is_label_tile V74 (quoted Back label fresh) (b ∷ a) r Label refl l in cc)
label_not (quoted Here label true) below depth b a r ok f l = absurd (let clash = longest_meets is_label_tile V74 (quoted Here label true) (b ∷ a) r Label refl l in cc)
label_not (quoted Here label false) below depth b a r ok f l = absurd (let clash = longest_meets is_label_tile V74 (quoted Here label false) (b ∷ a) r Label refl l in cc)
label_not offset below depth b a r ok f l = refl
label_not property below depth b a r ok f l = quoted_not below depth (b ∷ a) r (and_parts (quoted_first below) (modes_sound below) f).0

-- ---- the row

module _ (m : Mode) (below : List Mode) (depth : ℕ) (ok : stack_ok (stack_of m below depth) ≡ true)
    (fine : sound (stack_of m below depth) ≡ true) (b : ℕ) (a : List ℕ) (ts : List Tile) where
  abbrev Next : Kind → Stack
  Next kind = stepped_by (mode_step_of V74 m kind (b ∷ a) (joined ts)) (stack_of m below depth)

  abbrev Row : Kind → Type 0
  Row kind = Steps V74 (stack_of m below depth) (tile kind b a ∷ ts)

  word_both : (lead : List ℕ) → Row Word → are_apart (lexeme_of (cond (is_keyword (b ∷ a)) token.Keyword token.Label) lead (b ∷ a) ∷ spelled [] ts) ≡ true → Both Word b a ts
  word_both lead s h =
      let is : m ≡ code = word_in m b a (joined ts) (top_ok lead m below depth ok) (longest_in (stack_of m below depth) Word b a ts s) in
      let there : Steps V74 (stack_of code below depth) (tile Word b a ∷ ts) = subst (λ (n : Mode). Steps V74 (stack_of n below depth) (tile Word b a ∷ ts)) is s in
      let tail = steps_behind (stack_of code below depth) (stack_of code below depth) Word b a ts refl there in
      (refl, word_by lead m below depth ok b a ts tail h (is_keyword (b ∷ a)) (is_namespace (b ∷ a)) (begins_rooted (whole_names ts)) refl refl refl)

  label_by : Row Label → stack_ok (Next Label) ≡ true → (x : Bool) → begins_rooted (whole_names ts) ≡ x → x ≡ false
  label_by s good false e = refl
  label_by s good true e =
      let tail = steps_behind (stack_of m below depth) (Next Label) Label b a ts refl s in
      let top = (and_parts (mode_ok (Next Label).top) (modes_ok (Next Label).below) good).0 in
      let is = root_mode (root_first ts (Next Label).top (Next Label).below (Next Label).depth top tail e) in
      let other = label_not m below depth b a (joined ts) (and_parts (mode_ok m) (modes_ok below) ok).0 fine (longest_in (stack_of m below depth) Label b a ts s) in
      absurd (let clash : true ≡ false = sym (ap is_code_mode is) ∙ other in cc)

  keyword_by : Row Keyword → (x : Bool) → is_namespace (b ∷ a) ≡ x → x ≡ false
  keyword_by s false e = refl
  keyword_by s true e = absurd (keyword_in m b a (joined ts) (and_parts (mode_ok m) (modes_ok below) ok).0 (longest_in (stack_of m below depth) Keyword b a ts s) e)

  token_both : (kind : Kind) (lead : List ℕ) (j : TokenKind) → token_of kind (b ∷ a) ≡ Some j
      → is_dollar_brace kind ≡ false → is_hash kind b a ≡ false → Row kind
      → are_apart (lexeme_of j lead (b ∷ a) ∷ spelled [] ts) ≡ true → Both kind b a ts
  token_both DollarBrace lead j is d f s h = absurd cc
  token_both Comment lead j is d f s h = absurd cc
  token_both Variable lead j is d f s h =
      let tail = steps_behind (stack_of m below depth) (Next Variable) Variable b a ts refl s in
      let kind : is_variable_kind j ≡ true = variable_is j is in
      (ap not (safe_variable (lexeme_of j lead (b ∷ a)) ts (Next Variable).top (Next Variable).below (Next Variable).depth kind tail h), refl)
  token_both Op lead j is d f s h =
      op_by lead m below depth ok b a ts s (subst (λ (k : TokenKind). are_apart
      (lexeme_of k lead (b ∷ a) ∷ spelled [] ts) ≡ true) (sym (some_is token.Op j is)) h) (nat_eq b 92) refl
  token_both Word lead j is d f s h =
      word_both lead s (subst (λ (k : TokenKind). are_apart (lexeme_of k lead (b ∷ a) ∷ spelled [] ts) ≡ true)
      (sym (some_is (cond (is_keyword (b ∷ a)) token.Keyword token.Label) j is)) h)
  token_both Label lead j is d f s h =
      (refl, ap not (label_by s (behind_ok m below depth Label (b ∷ a) (joined ts) ok refl) (begins_rooted (whole_names ts)) refl))
  token_both Keyword lead j is d f s h = (refl, ap not (keyword_by s (is_namespace (b ∷ a)) refl))
  token_both _ lead j is d f s h = (refl, refl)

  trivia_both : (kind : Kind) → token_of kind (b ∷ a) ≡ None → is_hash kind b a ≡ false → Both kind b a ts
  trivia_both Space is f = (refl, refl)
  trivia_both Comment is f = (ap not f, refl)
  trivia_both Tag is f = (refl, refl)
  trivia_both _ is f = absurd cc

abbrev All : List Tile → Type 0
All ts = (all_common ts ≡ true) × (all_apart ts ≡ true)

all_of : (kind : Kind) (b : ℕ) (a : List ℕ) (ts : List Tile) → Both kind b a ts → All ts → All (tile kind b a ∷ ts)
all_of kind b a ts both more =
    (and_from (is_common kind b a ts) (all_common ts) both.0 more.0, and_from (is_apart kind b a (whole_names ts)) (all_apart ts) both.1 more.1)

row_by : (m : Mode) (below : List Mode) (depth : ℕ) (kind : Kind) (b : ℕ) (a : List ℕ) (ts : List Tile)
    (lead : List ℕ) → stack_ok (stack_of m below depth) ≡ true → sound (stack_of m below depth) ≡ true
    → is_dollar_brace kind ≡ false → is_hash kind b a ≡ false
    → Steps V74 (stack_of m below depth) (tile kind b a ∷ ts)
    → ((l : List ℕ) → are_apart (spelled l ts) ≡ true → All ts) → (o : Option TokenKind) → token_of kind (b ∷ a) ≡ o
    → are_apart (lexeme_with o lead (b ∷ a) (λ l. spelled l ts)) ≡ true → All (tile kind b a ∷ ts)
row_by m below depth kind b a ts lead ok fine d f s ih None is h = all_of kind b a ts (trivia_both m below depth ok fine b a ts kind is f) (ih (lead ++ b ∷ a) h)
row_by m below depth kind b a ts lead ok fine d f s ih (Some j) is h =
    all_of kind b a ts (token_both m below depth ok fine b a ts kind lead j is d f s h) (ih [] (apart_tail (lexeme_of j lead (b ∷ a)) (spelled [] ts) h))

row_all : (ts : List Tile) (lead : List ℕ) (k : Stack) → stack_ok k ≡ true → sound k ≡ true → none_dollar ts ≡ true
    → none_hash ts ≡ true → Steps V74 k ts → are_apart (spelled lead ts) ≡ true → All ts
row_all [] lead k ok fine d f s h = (refl, refl)
row_all (tile kind b a ∷ ts) lead k ok fine d f s h =
    let (one, dollars) = and_parts (not (is_dollar_brace kind)) (none_dollar ts) d in
    let (two, hashes) = and_parts (not (is_hash kind b a)) (none_hash ts) f in
    let n : Stack = stepped_by (mode_step_of V74 k.top kind (b ∷ a) (joined ts)) k in
    let good = behind_ok k.top k.below k.depth kind (b ∷ a) (joined ts) ok (not-true (is_dollar_brace kind) one) in
    let nice = behind_sound k.top k.below k.depth kind (b ∷ a) (joined ts) fine in
    let tail = steps_behind k n kind b a ts refl s in
    row_by k.top k.below k.depth kind b a ts lead ok fine (not-true (is_dollar_brace kind) one) (not-true (is_hash kind b a) two) s
    (λ l e. row_all ts l n good nice dollars hashes tail e) (token_of kind (b ∷ a)) refl h

pub rows_are_common : RowsAreCommon
rows_are_common us s d f h = row_all us [] start refl refl d f s h
