-- The tiles of parts of names, and the trivia between them.
use Rattle.std.proofs.Common.{
  ◌≡◌,
  ℕ,
  suc,
  Bool,
  true,
  false,
  cond,
  not,
  ◌&&◌,
  ◌||◌,
  nat_eq,
  nat_lt,
  nat_le,
  ◌+◌,
  List,
  [],
  ◌∷◌,
  ◌++◌,
  length,
  Option,
  Some,
  None,
  refl,
  ap,
  ◌∙◌,
  subst,
  arith,
}
use Rattle.std.proofs.lemmas.Bool.{and_parts, eqb-true, not-true}
use Rattle.std.proofs.lemmas.Bool.Decides.{nat_tests}
use Rattle.php_tree.specs.declared.version.Version.TheVariants.{V74}
use Rattle.php_tree.specs.declared.token.TokenKind.{TokenKind}
use Rattle.php_tree.specs.declared.token.TokenKind.TheVariants as token
use Rattle.php_spellings.specs.declared.table.Kind.{Kind}
use Rattle.php_spellings.specs.declared.table.Kind.TheVariants.{Space, Comment, Tag, Word, Label, Keyword, Name, Op, Decimal, Octal, Hexadecimal, Binary}
use Rattle.php_spellings.specs.declared.table.Mark.TheVariants.{Double, Back, Here}
use Rattle.php_spellings.specs.declared.table.State.TheVariants.{First, Plain}
use Rattle.php_spellings.specs.declared.table.Run.TheVariants.{Labels}
use Rattle.php_spellings.specs.Bytes.{is_letter, is_empty, lower}
use Rattle.php_spellings.specs.Words.{token_of}
use Rattle.php_lexer.specs.Tails.{is_run}
use Rattle.php_lexer.specs.Modes.{Mode, html, code, named, quoted, offset, property, mode_step_of, IsLongest}
use Rattle.php_lexer.specs.Lexed.{Stack, stepped_by}
use Rattle.php_relexing.specs.Tiles.{Tile, tile, joined}
use Rattle.php_relexing.specs.Spelled.{Steps}
use Rattle.php_relexing.specs.Labels.{all_label}
use Rattle.php_relexing.proofs.Labels.{words_are_labels}
use Rattle.php_relexing.proofs.Picked.{longest_meets}
use Rattle.written_tokens.specs.tokens.Levels.{stack_of}
use Rattle.written_tokens.specs.tokens.Whole.{is_label_kind, is_name_kind, is_keyword_kind, is_op_kind, is_namespace}
use Rattle.written_tokens.specs.tiles.ContinuesAs.{is_trivia}
use Rattle.written_tokens.specs.tiles.Edits.{all_trivia}
use Rattle.written_tokens.proofs.tiles.Behind.{keyword_first}
use Rattle.written_tokens.proofs.tiles.Stepping.{longest_in, steps_behind}
use Rattle.written_tokens.specs.names.Named.{is_blank, all_blank, is_dollar_brace, none_dollar}
use Rattle.written_tokens.proofs.names.TriviaTexts as texts
use Rattle.written_tokens.proofs.names.NamedModes.{mode_ok, under_ok, modes_ok, stack_ok, behind_ok}
use Rattle.written_tokens.proofs.names.NamedRows.{is_blank_kind, no_blank, blank_mode_step}

or_none : (x : Bool) → (x || false) ≡ true → x ≡ true
or_none true h = refl
or_none false h = absurd cc

-- ---- kinds

abbrev opt_by : (TokenKind → Bool) → Option TokenKind → Bool
opt_by f None = false
opt_by f (Some k) = f k

abbrev wordy_token : TokenKind → Bool
wordy_token k = is_label_kind k || is_keyword_kind k

abbrev pub is_wordy : Kind → Bool
is_wordy Word = true
is_wordy Label = true
is_wordy Keyword = true
is_wordy _ = false

number_wordy : (x : Bool) → wordy_token (cond x token.Int token.Float) ≡ true → ⊥
number_wordy true h = cc
number_wordy false h = cc

wordy_of : (k : Kind) (text : List ℕ) → opt_by wordy_token (token_of k text) ≡ true → is_wordy k ≡ true
wordy_of Word text h = refl
wordy_of Label text h = refl
wordy_of Keyword text h = refl
wordy_of Decimal text h = absurd (number_wordy _ h)
wordy_of Octal text h = absurd (number_wordy _ h)
wordy_of Hexadecimal text h = absurd (number_wordy _ h)
wordy_of Binary text h = absurd (number_wordy _ h)
wordy_of _ text h = absurd cc

pub wordy_kind : (k : Kind) (text : List ℕ) (j : TokenKind) → token_of k text ≡ Some j → (is_label_kind j || is_keyword_kind j) ≡ true → is_wordy k ≡ true
wordy_kind k text j p h = wordy_of k text (ap (opt_by wordy_token) p ∙ h)

number_op : (x : Bool) → is_op_kind (cond x token.Int token.Float) ≡ true → ⊥
number_op true h = cc
number_op false h = cc

word_op : (x : Bool) → is_op_kind (cond x token.Keyword token.Label) ≡ true → ⊥
word_op true h = cc
word_op false h = cc

op_of : (k : Kind) (text : List ℕ) → opt_by is_op_kind (token_of k text) ≡ true → k ≡ Op
op_of Op text h = refl
op_of Word text h = absurd (word_op _ h)
op_of Decimal text h = absurd (number_op _ h)
op_of Octal text h = absurd (number_op _ h)
op_of Hexadecimal text h = absurd (number_op _ h)
op_of Binary text h = absurd (number_op _ h)
op_of _ text h = absurd cc

pub op_kind : (k : Kind) (text : List ℕ) (j : TokenKind) → token_of k text ≡ Some j → is_op_kind j ≡ true → k ≡ Op
op_kind k text j p h = op_of k text (ap (opt_by is_op_kind) p ∙ h)

number_name : (x : Bool) → is_name_kind (cond x token.Int token.Float) ≡ true → ⊥
number_name true h = cc
number_name false h = cc

word_name : (x : Bool) → is_name_kind (cond x token.Keyword token.Label) ≡ true → ⊥
word_name true h = cc
word_name false h = cc

abbrev is_whole : Kind → Bool
is_whole Name = true
is_whole _ = false

name_of : (k : Kind) (text : List ℕ) → opt_by is_name_kind (token_of k text) ≡ true → is_whole k ≡ true
name_of Name text h = refl
name_of Word text h = absurd (word_name _ h)
name_of Decimal text h = absurd (number_name _ h)
name_of Octal text h = absurd (number_name _ h)
name_of Hexadecimal text h = absurd (number_name _ h)
name_of Binary text h = absurd (number_name _ h)
name_of _ text h = absurd cc

-- 7.4 has no names of one token
name_never : (m : Mode) (k : Kind) (b : ℕ) (a r : List ℕ) → is_whole k ≡ true → IsLongest V74 m (b ∷ a ++ r) k (suc (length a)) → ⊥
name_never html k b a r e l = let clash = longest_meets is_whole V74 html (b ∷ a) r k e l in cc
name_never code k b a r e l = let clash = longest_meets is_whole V74 code (b ∷ a) r k e l in cc
name_never named k b a r e l = let clash = longest_meets is_whole V74 named (b ∷ a) r k e l in cc
name_never (quoted Double label fresh) k b a r e l = let clash = longest_meets is_whole V74 (quoted Double label fresh) (b ∷ a) r k e l in cc
name_never (quoted Back label fresh) k b a r e l = let clash = longest_meets is_whole V74 (quoted Back label fresh) (b ∷ a) r k e l in cc
name_never (quoted Here label true) k b a r e l = let clash = longest_meets is_whole V74 (quoted Here label true) (b ∷ a) r k e l in cc
name_never (quoted Here label false) k b a r e l = let clash = longest_meets is_whole V74 (quoted Here label false) (b ∷ a) r k e l in cc
name_never offset k b a r e l = let clash = longest_meets is_whole V74 offset (b ∷ a) r k e l in cc
name_never property k b a r e l = let clash = longest_meets is_whole V74 property (b ∷ a) r k e l in cc

pub no_name : (m : Mode) (k : Kind) (b : ℕ) (a r : List ℕ) (j : TokenKind) → token_of k (b ∷ a) ≡ Some j → IsLongest V74 m (b ∷ a ++ r) k (suc (length a)) → is_name_kind j ≡ false
no_name m k b a r j p l = by_kind (is_name_kind j) refl
  where
    by_kind : (t : Bool) → is_name_kind j ≡ t → t ≡ false
    by_kind true e = absurd (name_never m k b a r (name_of k (b ∷ a) (ap (opt_by is_name_kind) p ∙ e)) l)
    by_kind false e = refl

-- ---- words begin with a letter

letter_root : (b : ℕ) → is_letter b ≡ true → nat_eq b 92 ≡ false
letter_root b h = grind (arith, nat_tests)

low_root : (b : ℕ) (t : Bool) → nat_eq b 92 ≡ t → lower b ≡ 121 → t ≡ false
low_root b true e h =
    let is : b ≡ 92 = eqb-true b 92 e in
    absurd (let clash : nat_eq 92 121 ≡ true = ap (λ (x : ℕ). nat_eq x 121) (subst (λ (x : ℕ). lower x ≡ 121) is h) in cc)
low_root b false e h = refl

abbrev is_label : Kind → Bool
is_label Label = true
is_label _ = false

code_first : (k : Kind) (b : ℕ) (a r : List ℕ) → is_wordy k ≡ true → IsLongest V74 code (b ∷ a ++ r) k (suc (length a)) → nat_eq b 92 ≡ false
code_first Word b a r e l = letter_root b (and_parts (is_letter b) (all_label a) (words_are_labels V74 b a r l)).0
code_first Label b a r e l = absurd (let clash = longest_meets is_label V74 code (b ∷ a) r Label refl l in cc)
code_first Keyword b a r e l = low_root b (nat_eq b 92) refl (keyword_first b a r l)
code_first _ b a r e l = absurd cc

label_first : (b : ℕ) (a r : List ℕ) → ((not (is_empty (b ∷ a)) && is_run Labels [] First (b ∷ a) r) || false) ≡ true → nat_eq b 92 ≡ false
label_first b a r h = letter_root b (and_parts (is_letter b) (is_run Labels [] Plain a r) (or_none _ h)).0

pub wordy_first : (m : Mode) (k : Kind) (b : ℕ) (a r : List ℕ) → mode_ok m ≡ true → is_wordy k ≡ true → IsLongest V74 m (b ∷ a ++ r) k (suc (length a)) → nat_eq b 92 ≡ false
wordy_first html k b a r ok e l = absurd (let clash = longest_meets is_wordy V74 html (b ∷ a) r k e l in cc)
wordy_first code k b a r ok e l = code_first k b a r e l
wordy_first named k b a r ok e l = absurd cc
wordy_first (quoted Double label fresh) k b a r ok e l = absurd (let clash = longest_meets is_wordy V74 (quoted Double label fresh) (b ∷ a) r k e l in cc)
wordy_first (quoted Back label fresh) k b a r ok e l = absurd (let clash = longest_meets is_wordy V74 (quoted Back label fresh) (b ∷ a) r k e l in cc)
wordy_first (quoted Here label true) k b a r ok e l = absurd (let clash = longest_meets is_wordy V74 (quoted Here label true) (b ∷ a) r k e l in cc)
wordy_first (quoted Here label false) k b a r ok e l = absurd (let clash = longest_meets is_wordy V74 (quoted Here label false) (b ∷ a) r k e l in cc)
wordy_first offset k b a r ok e l = label_first b a r (longest_meets is_wordy V74 offset (b ∷ a) r k e l)
wordy_first property k b a r ok e l = label_first b a r (longest_meets is_wordy V74 property (b ∷ a) r k e l)

-- a keyword of its own isn't `namespace`
pub not_space_word : (b : ℕ) (a : List ℕ) → lower b ≡ 121 → is_namespace (b ∷ a) ≡ true → ⊥
not_space_word b a h e =
    let first : nat_eq (cond (nat_lt b 65) b (cond (nat_lt b 91) (b + 32) b)) 110 ≡ true = (and_parts (nat_eq (cond (nat_lt b 65) b (cond (nat_lt b 91) (b + 32) b)) 110) _ e).0 in
    clash b (nat_lt b 65) (nat_lt b 91) (nat_le 65 b && nat_le b 90) refl refl refl h first
  where
    clash : (x : ℕ) (p q s : Bool) → nat_lt x 65 ≡ p → nat_lt x 91 ≡ q → (nat_le 65 x && nat_le x 90) ≡ s
        → cond s (x + 32) x ≡ 121 → nat_eq (cond p x (cond q (x + 32) x)) 110 ≡ true → ⊥
    clash x true q true e f g h k = grind (arith, nat_tests)
    clash x true q false e f g h k = grind (arith, nat_tests)
    clash x false true true e f g h k = grind (arith, nat_tests)
    clash x false true false e f g h k = grind (arith, nat_tests)
    clash x false false true e f g h k = grind (arith, nat_tests)
    clash x false false false e f g h k = grind (arith, nat_tests)

-- ---- the mode behind a word

abbrev pub is_html : Mode → Bool
is_html html = true
is_html code = false
is_html named = false
is_html (quoted mark label fresh) = false
is_html offset = false
is_html property = false

under_html : (m : Mode) → under_ok m ≡ true → is_html m ≡ false
under_html html h = absurd cc
under_html code h = refl
under_html named h = refl
under_html (quoted mark label fresh) h = refl
under_html offset h = refl
under_html property h = refl

left_html : (below : List Mode) (depth : ℕ) (kind : Kind) (text rest : List ℕ) → modes_ok below ≡ true
    → is_wordy kind ≡ true → is_html (stepped_by (mode_step_of V74 property kind text rest)
    (stack_of property below depth)).top ≡ false
left_html [] depth Label text rest h e = refl
left_html (m ∷ below) depth Label text rest h e = under_html m (and_parts (under_ok m) (modes_ok below) h).0
left_html below depth Word text rest h e = refl
left_html below depth Keyword text rest h e = refl
left_html below depth _ text rest h e = absurd cc

pub behind_word : (m : Mode) (below : List Mode) (depth : ℕ) (kind : Kind) (text rest : List ℕ)
    → modes_ok below ≡ true → is_wordy kind ≡ true → is_html
    (stepped_by (mode_step_of V74 m kind text rest) (stack_of m below depth)).top ≡ false
behind_word html below depth Word text rest h e = refl
behind_word html below depth Label text rest h e = refl
behind_word html below depth Keyword text rest h e = refl
behind_word code below depth Word text rest h e = refl
behind_word code below depth Label text rest h e = refl
behind_word code below depth Keyword text rest h e = refl
behind_word named below depth Word text rest h e = refl
behind_word named below depth Label text rest h e = refl
behind_word named below depth Keyword text rest h e = refl
behind_word (quoted mark label fresh) below depth Word text rest h e = refl
behind_word (quoted mark label fresh) below depth Label text rest h e = refl
behind_word (quoted mark label fresh) below depth Keyword text rest h e = refl
behind_word offset below depth Word text rest h e = refl
behind_word offset below depth Label text rest h e = refl
behind_word offset below depth Keyword text rest h e = refl
behind_word property below depth kind text rest h e = left_html below depth kind text rest h e
behind_word m below depth _ text rest h e = absurd cc

-- ---- trivia behind it

abbrev is_tag_kind : Kind → Bool
is_tag_kind Tag = true
is_tag_kind _ = false

no_tag : (m : Mode) (b : ℕ) (a r : List ℕ) → is_html m ≡ false → IsLongest V74 m (b ∷ a ++ r) Tag (suc (length a)) → ⊥
no_tag html b a r e l = cc
no_tag code b a r e l = let clash = longest_meets is_tag_kind V74 code (b ∷ a) r Tag refl l in cc
no_tag named b a r e l = let clash = longest_meets is_tag_kind V74 named (b ∷ a) r Tag refl l in cc
no_tag (quoted Double label fresh) b a r e l = let clash = longest_meets is_tag_kind V74 (quoted Double label fresh) (b ∷ a) r Tag refl l in cc
no_tag (quoted Back label fresh) b a r e l = let clash = longest_meets is_tag_kind V74 (quoted Back label fresh) (b ∷ a) r Tag refl l in cc
no_tag (quoted Here label true) b a r e l = let clash = longest_meets is_tag_kind V74 (quoted Here label true) (b ∷ a) r Tag refl l in cc
no_tag (quoted Here label false) b a r e l = let clash = longest_meets is_tag_kind V74 (quoted Here label false) (b ∷ a) r Tag refl l in cc
no_tag offset b a r e l = let clash = longest_meets is_tag_kind V74 offset (b ∷ a) r Tag refl l in cc
no_tag property b a r e l = let clash = longest_meets is_tag_kind V74 property (b ∷ a) r Tag refl l in cc

comment_first : (b : ℕ) (a r : List ℕ) → texts.CommentText b a r → (nat_eq b 35 || nat_eq b 47) ≡ true
comment_first b a r (texts.hash x run stop) = refl
comment_first b a r (texts.block x until) = refl
comment_first b a r (texts.slash x run stop) = refl

blank_tile : (m : Mode) (kind : Kind) (b : ℕ) (a r : List ℕ) → is_html m ≡ false → is_trivia kind ≡ true
    → IsLongest V74 m (b ∷ a ++ r) kind (suc (length a)) → (is_blank kind b a ≡ true) × (is_blank_kind kind ≡ true)
blank_tile m Space b a r e t l = (texts.space_text m b a r l, refl)
blank_tile m Comment b a r e t l = (comment_first b a r (texts.comment_text m b a r l), refl)
blank_tile m Tag b a r e t l = absurd (no_tag m b a r e l)
blank_tile m _ b a r e t l = absurd cc

pub blank_of : (trivia ts : List Tile) (m : Mode) (below : List Mode) (depth : ℕ) → mode_ok m ≡ true
    → is_html m ≡ false → all_trivia trivia ≡ true → Steps V74 (stack_of m below depth) (trivia ++ ts)
    → all_blank trivia ≡ true
blank_of [] ts m below depth ok e f s = refl
blank_of (tile kind b a ∷ trivia) ts m below depth ok e f s =
    let (one, more) = and_parts (is_trivia kind) (all_trivia trivia) f in
    let longest = longest_in (stack_of m below depth) kind b a (trivia ++ ts) s in
    let (here, blank) = blank_tile m kind b a (joined (trivia ++ ts)) e one longest in
    let is : m ≡ code = no_blank m kind b a (joined (trivia ++ ts)) ok blank longest in
    let in_code : Steps V74 (stack_of code below depth) (tile kind b a ∷ (trivia ++ ts)) =
    subst (λ (n : Mode). Steps V74 (stack_of n below depth) (tile kind b a ∷ (trivia ++ ts))) is s in
    let behind = steps_behind (stack_of code below depth) (stack_of code below depth) kind b a (trivia ++ ts) (blank_mode_step kind b a below depth blank) in_code in
    rw (here, blank_of trivia ts code below depth refl refl more behind) refl

-- ---- through trivia to a token

pub record Reached (ts : List Tile) : Type 0 where
  pub m : Mode
  pub below : List Mode
  pub depth : ℕ
  pub ok : stack_ok (stack_of m below depth) ≡ true
  pub dollar : none_dollar ts ≡ true
  pub steps : Steps V74 (stack_of m below depth) ts

pub reached : (trivia ts : List Tile) (k : Stack) → stack_ok k ≡ true → none_dollar (trivia ++ ts) ≡ true → Steps V74 k (trivia ++ ts) → Reached ts
reached [] ts k ok d s = record { m = k.top; below = k.below; depth = k.depth; ok = ok; dollar = d; steps = s }
reached (tile kind b a ∷ trivia) ts k ok d s =
    let (one, more) = and_parts (not (is_dollar_brace kind)) (none_dollar (trivia ++ ts)) d in
    let n : Stack = stepped_by (mode_step_of V74 k.top kind (b ∷ a) (joined (trivia ++ ts))) k in
    reached trivia ts n (behind_ok k.top k.below k.depth kind (b ∷ a) (joined (trivia ++ ts)) ok (not-true (is_dollar_brace kind) one)) more
    (steps_behind k n kind b a (trivia ++ ts) refl s)
