-- What a token does to the modes in both versions.
use Rattle.std.proofs.Common.{◌≡◌, ℕ, suc, Bool, true, false, cond, not, ◌&&◌, nat_eq, List, [], ◌∷◌, ◌++◌, length, take, drop, Option, Some, None, refl, ap, subst}
use Rattle.std.proofs.lemmas.Bool.{eqb-true, and_parts, not-true}
use Rattle.php_tree.specs.declared.version.Version.TheVariants.{V74, V83}
use Rattle.php_spellings.specs.declared.table.Kind.{Kind}
use Rattle.php_spellings.specs.declared.table.Kind.TheVariants.{
  InlineHtml,
  Variable,
  Word,
  Name,
  Label,
  Quote,
  Backtick,
  HeredocStart,
  Op,
  Close,
  Piece,
  CurlyOpen,
  DollarBrace,
  QuotedEnd,
}
use Rattle.php_spellings.specs.declared.table.Mark.{Mark}
use Rattle.php_spellings.specs.declared.table.Mark.TheVariants.{Double, Back, Here}
use Rattle.php_spellings.specs.Bytes.{begins_by}
use Rattle.php_lexer.specs.Modes.{Mode, html, code, named, quoted, offset, property, ModeStep, stay, enter, leave, is_byte, begins_property, quoted_mode_step, mode_step_of, IsLongest}
use Rattle.php_lexer.specs.Lexed.{Stack, stepped_by, mode_step_at, after}
use Rattle.php_lexer.proofs.Dispatch.{other_head}
use Rattle.php_relexing.proofs.Scanned.{found, scan_of, rescanned}
use Rattle.php_relexing.proofs.Picked.{longest_meets}
use Rattle.written_tokens.specs.tokens.Names.{is_named, none_named, is_unnamed}

-- ---- the same turn

abbrev pub is_variable : Kind → Bool
is_variable Variable = true
is_variable _ = false

abbrev pub SameProperty : List ℕ → Type 0
SameProperty rest = begins_property V83 rest ≡ begins_property V74 rest

quoted_same : (mark : Mark) (label : List ℕ) (kind : Kind) (text rest : List ℕ)
    → (is_variable kind ≡ true → SameProperty rest) → quoted_mode_step V83 mark label kind text rest ≡ quoted_mode_step V74 mark
    label kind text rest
quoted_same mark label Variable text rest h = rw (h refl) refl
quoted_same mark label QuotedEnd text rest h = refl
quoted_same mark label CurlyOpen text rest h = refl
quoted_same mark label DollarBrace text rest h = refl
quoted_same mark label _ text rest h = refl

-- whether a mode is that of a quoted text
abbrev pub is_quoted : Mode → Bool
is_quoted html = false
is_quoted code = false
is_quoted named = false
is_quoted (quoted mark label fresh) = true
is_quoted offset = false
is_quoted property = false

pub same_mode_step : (mode : Mode) (kind : Kind) (text rest : List ℕ)
    → (is_quoted mode ≡ true → is_variable kind ≡ true → SameProperty rest)
    → mode_step_of V83 mode kind text rest ≡ mode_step_of V74 mode kind text rest
same_mode_step html kind text rest h = refl
same_mode_step code kind text rest h = refl
same_mode_step named kind text rest h = refl
same_mode_step (quoted mark label fresh) kind text rest h = quoted_same mark label kind text rest (h refl)
same_mode_step offset kind text rest h = refl
same_mode_step property kind text rest h = refl

pub same_after : (stack : Stack) (kind : Kind) (n : ℕ) (bytes : List ℕ)
    → (is_quoted stack.top ≡ true → is_variable kind ≡ true → SameProperty (drop n bytes))
    → after V83 stack kind n bytes ≡ after V74 stack kind n bytes
same_after stack kind n bytes h = ap (λ (t : ModeStep). stepped_by t stack) (same_mode_step stack.top kind (take n bytes) (drop n bytes) h)

-- ---- no mode behind `${`

abbrev pub is_dollar_brace : Kind → Bool
is_dollar_brace DollarBrace = true
is_dollar_brace _ = false

abbrev plain_mode_step : ModeStep → Bool
plain_mode_step (stay m) = not (is_named m)
plain_mode_step (enter above under) = not (is_named above) && not (is_named under)
plain_mode_step leave = true

chosen : (t : Bool) (x y : ModeStep) → plain_mode_step x ≡ true → plain_mode_step y ≡ true → plain_mode_step (cond t x y) ≡ true
chosen true x y p q = p
chosen false x y p q = q

code_plain : (kind : Kind) (text rest : List ℕ) → plain_mode_step (mode_step_of V74 code kind text rest) ≡ true
code_plain Op text rest = chosen (is_byte 123 text) (enter code code) (cond (is_byte 125 text) leave (stay code)) refl (chosen (is_byte 125 text) leave (stay code) refl refl)
code_plain Close text rest = refl
code_plain Quote text rest = refl
code_plain Backtick text rest = refl
code_plain HeredocStart text rest = refl
code_plain _ text rest = refl

html_plain : (kind : Kind) (text rest : List ℕ) → plain_mode_step (mode_step_of V74 html kind text rest) ≡ true
html_plain InlineHtml text rest = refl
html_plain _ text rest = refl

quoted_plain : (mark : Mark) (label : List ℕ) (kind : Kind) (text rest : List ℕ) → is_dollar_brace kind ≡ false → plain_mode_step (quoted_mode_step V74 mark label kind text rest) ≡ true
quoted_plain mark label DollarBrace text rest h = absurd cc
quoted_plain mark label Variable text rest h =
    chosen (begins_by 91 rest) (enter offset (quoted mark label false))
    (cond (begins_property V74 rest) (enter property (quoted mark label false)) (stay (quoted mark label false)))
    refl
    (chosen (begins_property V74 rest) (enter property (quoted mark label false)) (stay (quoted mark label false)) refl refl)
quoted_plain mark label QuotedEnd text rest h = refl
quoted_plain mark label CurlyOpen text rest h = refl
quoted_plain mark label _ text rest h = refl

offset_plain : (kind : Kind) (text rest : List ℕ) → plain_mode_step (mode_step_of V74 offset kind text rest) ≡ true
offset_plain Op text rest = chosen (is_byte 93 text) leave (stay offset) refl refl
offset_plain _ text rest = refl

property_plain : (kind : Kind) (text rest : List ℕ) → plain_mode_step (mode_step_of V74 property kind text rest) ≡ true
property_plain Label text rest = refl
property_plain _ text rest = refl

mode_step_plain : (mode : Mode) (kind : Kind) (text rest : List ℕ) → is_named mode ≡ false → is_dollar_brace kind ≡ false → plain_mode_step (mode_step_of V74 mode kind text rest) ≡ true
mode_step_plain html kind text rest p q = html_plain kind text rest
mode_step_plain code kind text rest p q = code_plain kind text rest
mode_step_plain named kind text rest p q = absurd cc
mode_step_plain (quoted mark label fresh) kind text rest p q = quoted_plain mark label kind text rest q
mode_step_plain offset kind text rest p q = offset_plain kind text rest
mode_step_plain property kind text rest p q = property_plain kind text rest

abbrev stack_by : Mode → List Mode → ℕ → Stack
stack_by top below depth = record { top = top; below = below; depth = depth }

left_plain : (top : Mode) (below : List Mode) (depth : ℕ) → none_named below ≡ true → is_unnamed (stepped_by leave (stack_by top below depth)) ≡ true
left_plain top [] depth h = refl
left_plain top (m ∷ ms) depth h = h

stepped_plain : (t : ModeStep) (top : Mode) (below : List Mode) (depth : ℕ) → plain_mode_step t ≡ true → none_named below ≡ true → is_unnamed (stepped_by t (stack_by top below depth)) ≡ true
stepped_plain (stay m) top below depth p q = rw (p, q) refl
stepped_plain (enter above under) top below depth p q =
    let (one, two) = and_parts (not (is_named above)) (not (is_named under)) p in
    rw (one, two, q) refl
stepped_plain leave top below depth p q = left_plain top below depth q

pub unnamed_after : (stack : Stack) (kind : Kind) (n : ℕ) (bytes : List ℕ) → is_unnamed stack ≡ true
    → is_dollar_brace kind ≡ false → is_unnamed (after V74 stack kind n bytes) ≡ true
unnamed_after stack kind n bytes h q =
    let (top, below) = and_parts (not (is_named stack.top)) (none_named stack.below) h in
    stepped_plain (mode_step_at V74 stack kind n bytes) stack.top stack.below stack.depth
    (mode_step_plain stack.top kind (take n bytes) (drop n bytes) (not-true (is_named stack.top) top) q) below

pub unnamed_top : (stack : Stack) → is_unnamed stack ≡ true → is_named stack.top ≡ false
unnamed_top stack h = not-true (is_named stack.top) (and_parts (not (is_named stack.top)) (none_named stack.below) h).0

-- ---- properties of a variable in a text

property_by : (b : ℕ) (bs : List ℕ) (kind : Kind) (n : ℕ) (t : Bool) → nat_eq b 63 ≡ t → IsLongest V74 property (b ∷ bs) kind n → IsLongest V83 property (b ∷ bs) kind n
property_by b bs kind n false e h = rescanned V74 V83 property property (b ∷ bs) (b ∷ bs) kind n (let head = other_head 63 b refl e in rw head refl) h
property_by b bs kind n true e h =
    let same : b ≡ 63 = eqb-true b 63 e in
    let none : None ≡ found kind n = scan_of V74 property (63 ∷ bs) kind n (subst (λ (x : ℕ). IsLongest V74 property (x ∷ bs) kind n) same h) in
    absurd cc

pub property_stays : (b : ℕ) (bs : List ℕ) (kind : Kind) (n : ℕ) → IsLongest V74 property (b ∷ bs) kind n → IsLongest V83 property (b ∷ bs) kind n
property_stays b bs kind n h = property_by b bs kind n (nat_eq b 63) refl h

-- ---- a piece of text behind a variable

abbrev one_kind : Bool → Kind → Option Kind
one_kind t k = cond t (Some k) None

one_of : (t : Bool) (k j : Kind) → one_kind t k ≡ Some j → k ≡ j
one_of true k j e = cc
one_of false k j e = absurd cc

pub piece_is : (mark : Mark) (label : List ℕ) (e s : List ℕ) (k : Kind) → IsLongest V74 (quoted mark label false) (63 ∷ e ++ s) k (suc (length e)) → Piece ≡ k
piece_is Double label e s k h = one_of _ Piece k h.is
piece_is Back label e s k h = one_of _ Piece k h.is
piece_is Here label e s k h = one_of _ Piece k h.is

-- ---- words and `\` stand in code alone

abbrev is_word : Kind → Bool
is_word Word = true
is_word _ = false

pub no_word : (mode : Mode) (t r : List ℕ) → is_named mode ≡ false → IsLongest V74 mode (t ++ r) Word (length t) → code ≡ mode
no_word html t r p h = absurd (let e = longest_meets is_word V74 html t r Word refl h in cc)
no_word code t r p h = refl
no_word named t r p h = absurd cc
no_word (quoted Double label true) t r p h = absurd (let e = longest_meets is_word V74 (quoted Double label true) t r Word refl h in cc)
no_word (quoted Double label false) t r p h = absurd (let e = longest_meets is_word V74 (quoted Double label false) t r Word refl h in cc)
no_word (quoted Back label true) t r p h = absurd (let e = longest_meets is_word V74 (quoted Back label true) t r Word refl h in cc)
no_word (quoted Back label false) t r p h = absurd (let e = longest_meets is_word V74 (quoted Back label false) t r Word refl h in cc)
no_word (quoted Here label true) t r p h = absurd (let e = longest_meets is_word V74 (quoted Here label true) t r Word refl h in cc)
no_word (quoted Here label false) t r p h = absurd (let e = longest_meets is_word V74 (quoted Here label false) t r Word refl h in cc)
no_word offset t r p h = absurd (let e = longest_meets is_word V74 offset t r Word refl h in cc)
no_word property t r p h = absurd (let e = longest_meets is_word V74 property t r Word refl h in cc)

abbrev is_op : Kind → Bool
is_op Op = true
is_op _ = false

pub no_root : (mode : Mode) (a r : List ℕ) → is_named mode ≡ false → IsLongest V74 mode (92 ∷ a ++ r) Op (suc (length a)) → code ≡ mode
no_root html a r p h = absurd (let e = longest_meets is_op V74 html (92 ∷ a) r Op refl h in cc)
no_root code a r p h = refl
no_root named a r p h = absurd cc
no_root (quoted Double label true) a r p h = absurd (let e = longest_meets is_op V74 (quoted Double label true) (92 ∷ a) r Op refl h in cc)
no_root (quoted Double label false) a r p h = absurd (let e = longest_meets is_op V74 (quoted Double label false) (92 ∷ a) r Op refl h in cc)
no_root (quoted Back label true) a r p h = absurd (let e = longest_meets is_op V74 (quoted Back label true) (92 ∷ a) r Op refl h in cc)
no_root (quoted Back label false) a r p h = absurd (let e = longest_meets is_op V74 (quoted Back label false) (92 ∷ a) r Op refl h in cc)
no_root (quoted Here label true) a r p h = absurd (let e = longest_meets is_op V74 (quoted Here label true) (92 ∷ a) r Op refl h in cc)
no_root (quoted Here label false) a r p h = absurd (let e = longest_meets is_op V74 (quoted Here label false) (92 ∷ a) r Op refl h in cc)
no_root offset a r p h = absurd (let e = longest_meets is_op V74 offset (92 ∷ a) r Op refl h in cc)
no_root property a r p h = absurd (let e = longest_meets is_op V74 property (92 ∷ a) r Op refl h in cc)

abbrev is_name : Kind → Bool
is_name Name = true
is_name _ = false

-- no token of 7.4 is a name with `\`
pub no_name_kind : (mode : Mode) (t r : List ℕ) → is_named mode ≡ false → IsLongest V74 mode (t ++ r) Name (length t) → ⊥
no_name_kind html t r p h = let e = longest_meets is_name V74 html t r Name refl h in cc
no_name_kind code t r p h = let e = longest_meets is_name V74 code t r Name refl h in cc
no_name_kind named t r p h = cc
no_name_kind (quoted Double label true) t r p h = let e = longest_meets is_name V74 (quoted Double label true) t r Name refl h in cc
no_name_kind (quoted Double label false) t r p h = let e = longest_meets is_name V74 (quoted Double label false) t r Name refl h in cc
no_name_kind (quoted Back label true) t r p h = let e = longest_meets is_name V74 (quoted Back label true) t r Name refl h in cc
no_name_kind (quoted Back label false) t r p h = let e = longest_meets is_name V74 (quoted Back label false) t r Name refl h in cc
no_name_kind (quoted Here label true) t r p h = let e = longest_meets is_name V74 (quoted Here label true) t r Name refl h in cc
no_name_kind (quoted Here label false) t r p h = let e = longest_meets is_name V74 (quoted Here label false) t r Name refl h in cc
no_name_kind offset t r p h = let e = longest_meets is_name V74 offset t r Name refl h in cc
no_name_kind property t r p h = let e = longest_meets is_name V74 property t r Name refl h in cc
