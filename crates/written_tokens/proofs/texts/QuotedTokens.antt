-- What the tokens of a quoted text are, and what stands behind them.
use Rattle.std.proofs.Common.{
  ◌≡◌,
  ℕ,
  suc,
  ◌-◌,
  ◌≤◌,
  Bool,
  true,
  false,
  cond,
  ◌&&◌,
  ◌||◌,
  nat_eq,
  List,
  [],
  ◌∷◌,
  ◌++◌,
  length,
  take,
  drop,
  Option,
  Some,
  None,
  refl,
  sym,
  ap,
  ◌∙◌,
  subst,
  append_assoc,
  slice_index,
  arith,
}
use Rattle.std.proofs.lemmas.Bool.{and_parts}
use Rattle.std.proofs.lemmas.List.{length-append}
use Rattle.std.proofs.Math.Seq.{take-append_seam, drop-append_seam, get_or-append_seam}
use Rattle.php_tree.specs.declared.version.Version.TheVariants.{V74}
use Rattle.php_spellings.specs.declared.table.Kind.{Kind}
use Rattle.php_spellings.specs.declared.table.Kind.TheVariants.{Variable, Label, Op, Piece, CurlyOpen, DollarBrace, QuotedEnd}
use Rattle.php_spellings.specs.declared.table.Mark.{Mark}
use Rattle.php_spellings.specs.declared.table.Mark.TheVariants.{Double, Back, Here}
use Rattle.php_spellings.specs.declared.table.State.TheVariants.{First, Plain}
use Rattle.php_spellings.specs.declared.table.Run.TheVariants.{Labels}
use Rattle.php_spellings.specs.Bytes.{is_line_end, is_letter, is_label_byte, is_empty, lower, begins, begins_by}
use Rattle.php_lexer.specs.Tails.{is_run, some_run}
use Rattle.php_lexer.specs.Modes.{Mode, quoted, offset, property, kind_of, ends_line, IsLongest}
use Rattle.php_relexing.specs.Labels.{all_label, is_label}
use Rattle.php_relexing.proofs.Operators.{mark_same}
use Rattle.php_relexing.proofs.Parts.{plain_run}
use Rattle.php_relexing.proofs.Picked.{longest_meets}

or_none : (x : Bool) → (x || false) ≡ true → x ≡ true
or_none true h = refl
or_none false h = absurd cc

empty_is : (a : List ℕ) → is_empty a ≡ true → a ≡ []
empty_is [] h = refl
empty_is (b ∷ a) h = absurd cc

-- ---- the last byte of a text

pub record Last (t : List ℕ) : Type 0 where
  pub front : List ℕ
  pub byte : ℕ
  pub same : t ≡ front ++ byte ∷ []
  pub line : ends_line t ≡ is_line_end byte

last_index : (x : List ℕ) (e : ℕ) → slice_index (x ++ e ∷ []) (length (x ++ e ∷ []) - 1) ≡ e
last_index x e =
    let size : length (x ++ e ∷ []) - 1 ≡ length x = let l = length-append x (e ∷ []) in omega arith in
    ap (λ (n : ℕ). slice_index (x ++ e ∷ []) n) size ∙ get_or-append_seam x e [] 0

-- whether a text ends with a line end is told by its last byte
pub line_at : (x : List ℕ) (e : ℕ) → ends_line (x ++ e ∷ []) ≡ is_line_end e
line_at x e = ap is_line_end (last_index x e)

last_at : (x : List ℕ) (e : ℕ) (t : List ℕ) → t ≡ x ++ e ∷ [] → Last t
last_at x e t same = record {
  front = x;
  byte = e;
  same = same;
  line = ap ends_line same ∙ line_at x e;
}

last_split : (b : ℕ) (a : List ℕ) → (x : List ℕ) × (e : ℕ) × (b ∷ a ≡ x ++ e ∷ [])
last_split b [] = ([], b, refl)
last_split b (c ∷ a) = let (x, e, same) = last_split c a in (b ∷ x, e, ap (λ (u : List ℕ). b ∷ u) same)

pub last_of : (b : ℕ) (a : List ℕ) → Last (b ∷ a)
last_of b a = let (x, e, same) = last_split b a in last_at x e (b ∷ a) same

-- ---- a text with one byte more is no token

length_more : (a : List ℕ) (c : ℕ) → length (a ++ c ∷ []) ≡ suc (length a)
length_more a c = let l = length-append a (c ∷ []) in omega arith

pub more_none : (m : Mode) (b : ℕ) (a : List ℕ) (c : ℕ) (r : List ℕ) (kind : Kind)
    → IsLongest V74 m (b ∷ a ++ c ∷ r) kind (suc (length a)) → kind_of V74 m (b ∷ a ++ c ∷ []) r ≡ None
more_none m b a c r kind h =
    subst (λ (u : List ℕ). kind_of V74 m (b ∷ a ++ c ∷ []) u ≡ None) (drop-append_seam (a ++ c ∷ []) r)
    (subst (λ (u : List ℕ). kind_of V74 m (b ∷ u) (drop (length (a ++ c ∷ [])) ((a ++ c ∷ []) ++ r)) ≡ None) (take-append_seam (a ++ c ∷ []) r)
    (subst (λ (u : List ℕ). kind_of V74 m (b ∷ take (length (a ++ c ∷ [])) u) (drop (length (a ++ c ∷ [])) u) ≡ None) (sym (append_assoc a (c ∷ []) r))
    (subst (λ (n : ℕ). kind_of V74 m (b ∷ take n (a ++ c ∷ r)) (drop n (a ++ c ∷ r)) ≡ None) (sym (length_more a c)) none)))
  where
    fits : suc (suc (length a)) ≤ length (b ∷ a ++ c ∷ r)
    fits = let l = length-append a (c ∷ r) in omega arith

    none : kind_of V74 m (b ∷ take (suc (length a)) (a ++ c ∷ r)) (drop (suc (length a)) (a ++ c ∷ r)) ≡ None
    none = h.longest (suc (suc (length a))) (omega arith) fits

row_none : (t : Bool) (k : Kind) (o : Option Kind) → cond t (Some k) o ≡ None → (t ≡ false) × (o ≡ None)
row_none true k o e = absurd cc
row_none false k o e = (refl, e)

-- ---- labels

label_more : (label l : List ℕ) (c : ℕ) (r : List ℕ) → all_label l ≡ true → is_label_byte c ≡ true → is_run Labels label Plain (l ++ c ∷ []) r ≡ true
label_more label [] c r h k = rw k refl
label_more label (b ∷ l) c r h k =
    let (here, more) = and_parts (is_label_byte b) (all_label l) h in
    rw (here, label_more label l c r more k) refl

some_more : (label a : List ℕ) (c : ℕ) (r : List ℕ) → is_label a ≡ true → is_label_byte c ≡ true → some_run Labels label First (a ++ c ∷ []) r ≡ true
some_more label [] c r h k = absurd cc
some_more label (b ∷ l) c r h k =
    let (here, more) = and_parts (is_letter b) (all_label l) h in
    rw (here, label_more label l c r more k) refl

-- no byte of a label goes on
label_stops : (label a : List ℕ) (c : ℕ) (r : List ℕ) → is_label a ≡ true → some_run Labels label First (a ++ c ∷ []) r ≡ false → is_label_byte c ≡ false
label_stops label a c r h none = by_test (is_label_byte c) refl
  where
    by_test : (t : Bool) → is_label_byte c ≡ t → t ≡ false
    by_test false p = refl
    by_test true p = let clash : true ≡ false = sym (some_more label a c r h p) ∙ none in absurd cc

label_of_run : (label a r : List ℕ) → some_run Labels label First a r ≡ true → is_label a ≡ true
label_of_run label [] r h = absurd cc
label_of_run label (b ∷ l) r h =
    let (here, more) = and_parts (is_letter b) (is_run Labels label Plain l r) h in
    rw (here, plain_run l label r more) refl

-- ---- variables

-- `$` and a label, which ends before the bytes
pub record VariableText (b : ℕ) (a r : List ℕ) : Type 0 where
  pub dollar : b ≡ 36
  pub label : is_label a ≡ true
  pub ends : begins is_label_byte r ≡ false

abbrev is_variable : Kind → Bool
is_variable Variable = true
is_variable _ = false

variable_meets : (mark : Mark) (label : List ℕ) (fresh : Bool) (b : ℕ) (a r : List ℕ)
    → IsLongest V74 (quoted mark label fresh) (b ∷ a ++ r) Variable (suc (length a))
    → (nat_eq 36 (lower b) && some_run Labels label First a r || false) ≡ true
variable_meets Double label fresh b a r h = longest_meets is_variable V74 (quoted Double label fresh) (b ∷ a) r Variable refl h
variable_meets Back label fresh b a r h = longest_meets is_variable V74 (quoted Back label fresh) (b ∷ a) r Variable refl h
variable_meets Here label true b a r h = longest_meets is_variable V74 (quoted Here label true) (b ∷ a) r Variable refl h
variable_meets Here label false b a r h = longest_meets is_variable V74 (quoted Here label false) (b ∷ a) r Variable refl h

variable_ends : (mark : Mark) (label : List ℕ) (fresh : Bool) (b : ℕ) (a r : List ℕ) → nat_eq 36 (lower b) ≡ true
    → is_label a ≡ true → IsLongest V74 (quoted mark label fresh) (b ∷ a ++ r) Variable (suc (length a))
    → begins is_label_byte r ≡ false
variable_ends mark label fresh b a [] first h l = refl
variable_ends mark label fresh b a (c ∷ r) first h l =
    let none = (row_none (nat_eq 36 (lower b) && some_run Labels label First (a ++ c ∷ []) r) Variable _ (more_none (quoted mark label fresh) b a c r Variable l)).0 in
    label_stops label a c r h (sym (ap (λ (t : Bool). t && some_run Labels label First (a ++ c ∷ []) r) first) ∙ none)

pub variable_text : (mark : Mark) (label : List ℕ) (fresh : Bool) (b : ℕ) (a r : List ℕ)
    → IsLongest V74 (quoted mark label fresh) (b ∷ a ++ r) Variable (suc (length a)) → VariableText b a r
variable_text mark label fresh b a r h =
    let (first, more) = and_parts (nat_eq 36 (lower b)) (some_run Labels label First a r) (or_none _ (variable_meets mark label fresh b a r h)) in
    let is = label_of_run label a r more in
    record { dollar = mark_same 36 b refl first; label = is; ends = variable_ends mark label fresh b a r first is h }

-- ---- the label of a property

abbrev is_label_kind : Kind → Bool
is_label_kind Label = true
is_label_kind _ = false

label_ends : (b : ℕ) (a r : List ℕ) → is_label (b ∷ a) ≡ true → IsLongest V74 property (b ∷ a ++ r) Label (suc (length a)) → begins is_label_byte r ≡ false
label_ends b a [] h l = refl
label_ends b a (c ∷ r) h l =
    let rows = (row_none _ Op _ (more_none property b a c r Label l)).1 in
    label_stops [] (b ∷ a) c r h (row_none (some_run Labels [] First (b ∷ a ++ c ∷ []) r) Label None rows).0

pub property_ends : (b : ℕ) (a r : List ℕ) → IsLongest V74 property (b ∷ a ++ r) Label (suc (length a)) → begins is_label_byte r ≡ false
property_ends b a r h =
    let run : some_run Labels [] First (b ∷ a) r ≡ true = or_none _ (longest_meets is_label_kind V74 property (b ∷ a) r Label refl h) in
    label_ends b a r (label_of_run [] (b ∷ a) r run) h

-- ---- what begins a unit of a quoted text is no token of a simple part

abbrev pub is_unit : Kind → Bool
is_unit Variable = true
is_unit Piece = true
is_unit CurlyOpen = true
is_unit DollarBrace = true
is_unit QuotedEnd = true
is_unit _ = false

pub no_offset : (kind : Kind) (b : ℕ) (a r : List ℕ) → is_unit kind ≡ true → IsLongest V74 offset (b ∷ a ++ r) kind (suc (length a)) → nat_eq b 91 ≡ false
no_offset kind b a r unit h =
    let first = (and_parts (nat_eq 36 (lower b)) (some_run Labels [] First a r) (or_none _ (longest_meets is_unit V74 offset (b ∷ a) r kind unit h))).0 in
    ap (λ (x : ℕ). nat_eq x 91) (mark_same 36 b refl first)

pub no_property : (kind : Kind) (b : ℕ) (a r : List ℕ) → is_unit kind ≡ true → IsLongest V74 property (b ∷ a ++ r) kind (suc (length a)) → ⊥
no_property kind b a r unit h = let none : false ≡ true = longest_meets is_unit V74 property (b ∷ a) r kind unit h in cc

-- no operator stands in a quoted text
abbrev is_op_kind : Kind → Bool
is_op_kind Op = true
is_op_kind _ = false

pub no_op : (mark : Mark) (label : List ℕ) (fresh : Bool) (b : ℕ) (a r : List ℕ) → IsLongest V74 (quoted mark label fresh) (b ∷ a ++ r) Op (suc (length a)) → ⊥
no_op Double label fresh b a r h = let none : false ≡ true = longest_meets is_op_kind V74 (quoted Double label fresh) (b ∷ a) r Op refl h in cc
no_op Back label fresh b a r h = let none : false ≡ true = longest_meets is_op_kind V74 (quoted Back label fresh) (b ∷ a) r Op refl h in cc
no_op Here label true b a r h = let none : false ≡ true = longest_meets is_op_kind V74 (quoted Here label true) (b ∷ a) r Op refl h in cc
no_op Here label false b a r h = let none : false ≡ true = longest_meets is_op_kind V74 (quoted Here label false) (b ∷ a) r Op refl h in cc

-- ---- `{` before `$`

abbrev is_curly : Kind → Bool
is_curly CurlyOpen = true
is_curly _ = false

pub curly_next : (mark : Mark) (label : List ℕ) (fresh : Bool) (r : List ℕ) → IsLongest V74 (quoted mark label fresh) (123 ∷ r) CurlyOpen 1 → begins_by 36 r ≡ true
curly_next Double label fresh r h = or_none _ (longest_meets is_curly V74 (quoted Double label fresh) (123 ∷ []) r CurlyOpen refl h)
curly_next Back label fresh r h = or_none _ (longest_meets is_curly V74 (quoted Back label fresh) (123 ∷ []) r CurlyOpen refl h)
curly_next Here label true r h = or_none _ (longest_meets is_curly V74 (quoted Here label true) (123 ∷ []) r CurlyOpen refl h)
curly_next Here label false r h = or_none _ (longest_meets is_curly V74 (quoted Here label false) (123 ∷ []) r CurlyOpen refl h)

-- ---- closing tokens

abbrev is_end : Kind → Bool
is_end QuotedEnd = true
is_end _ = false

-- the text is this byte
pub record Alone (x b : ℕ) (a : List ℕ) : Type 0 where
  pub byte : b ≡ x
  pub empty : a ≡ []

pub double_end : (label : List ℕ) (fresh : Bool) (b : ℕ) (a r : List ℕ) → IsLongest V74 (quoted Double label fresh) (b ∷ a ++ r) QuotedEnd (suc (length a)) → Alone 34 b a
double_end label fresh b a r h =
    let (first, more) = and_parts (nat_eq 34 (lower b)) (is_empty a && true) (or_none _ (longest_meets is_end V74 (quoted Double label fresh) (b ∷ a) r QuotedEnd refl h)) in
    record { byte = mark_same 34 b refl first; empty = empty_is a (and_parts (is_empty a) true more).0 }

pub back_end : (label : List ℕ) (fresh : Bool) (b : ℕ) (a r : List ℕ) → IsLongest V74 (quoted Back label fresh) (b ∷ a ++ r) QuotedEnd (suc (length a)) → Alone 96 b a
back_end label fresh b a r h =
    let (first, more) = and_parts (nat_eq 96 (lower b)) (is_empty a && true) (or_none _ (longest_meets is_end V74 (quoted Back label fresh) (b ∷ a) r QuotedEnd refl h)) in
    record { byte = mark_same 96 b refl first; empty = empty_is a (and_parts (is_empty a) true more).0 }

-- a heredoc ends at the front of a line alone
pub no_end : (label : List ℕ) (b : ℕ) (a r : List ℕ) → IsLongest V74 (quoted Here label false) (b ∷ a ++ r) QuotedEnd (suc (length a)) → ⊥
no_end label b a r h = let none : false ≡ true = longest_meets is_end V74 (quoted Here label false) (b ∷ a) r QuotedEnd refl h in cc
