-- Labels, names, and white space.
use Rattle.std.proofs.Common.{◌≡◌, ℕ, suc, Bool, true, false, not, ◌&&◌, ◌||◌, List, [], ◌∷◌, ◌++◌, length, refl}
use Rattle.std.proofs.lemmas.Bool.{and_parts}
use Rattle.php_tree.specs.declared.version.Version.{Version}
use Rattle.php_tree.specs.declared.version.Version.TheVariants.{V74, V83}
use Rattle.php_spellings.specs.declared.table.Kind.{Kind}
use Rattle.php_spellings.specs.declared.table.Kind.TheVariants.{Word, Space}
use Rattle.php_spellings.specs.declared.table.State.{State}
use Rattle.php_spellings.specs.declared.table.State.TheVariants.{Plain}
use Rattle.php_spellings.specs.declared.table.Run.TheVariants.{Labels, Spaces}
use Rattle.php_spellings.specs.declared.table.Shape.TheVariants as shape
use Rattle.php_spellings.specs.declared.table.Spot.{Spot}
use Rattle.php_spellings.specs.declared.table.Spot.TheVariants.{
  Begin,
  Whole,
  WholeGap,
  LeadPoint,
  Point,
  Part,
  PartGap,
  Mark,
  Sign,
  Power,
  PowerGap,
  FirstLabel,
  Backslash,
  LaterLabel,
  OpenedLabel,
  QuotedLabel,
  ClosedLabel,
  Return,
  Line,
  Stuck,
}
use Rattle.php_spellings.specs.Bytes.{is_space, is_letter, is_label_byte, begins}
use Rattle.php_lexer.specs.Tails.{is_run}
use Rattle.php_lexer.specs.Rules.{is_b, begins_text}
use Rattle.php_lexer.specs.Shapes.{step, may_end, is_stuck, has_shape}
use Rattle.php_lexer.specs.Modes.{code, IsLongest}
use Rattle.php_relexing.specs.Newer.{begins_deeper, goes_deeper}
use Rattle.php_relexing.specs.Labels.{all_label, is_label, is_name, LabelsJoin, WordsAreLabels, LabelsBeginNoName, WhiteSpaceStays}
use Rattle.php_relexing.proofs.Picked.{longest_meets}
use Rattle.php_relexing.proofs.Spaces.{all_space, space_is}

-- ---- joined labels

later_label : (m : List ℕ) → all_label m ≡ true → has_shape shape.Name LaterLabel m ≡ true
later_label [] h = refl
later_label (b ∷ m) h =
    let (here, more) = and_parts (is_label_byte b) (all_label m) h in
    rw (here, later_label m more) refl

label_behind : (m : List ℕ) → is_label m ≡ true → has_shape shape.Name Backslash m ≡ true
label_behind [] h = absurd cc
label_behind (b ∷ m) h =
    let (here, more) = and_parts (is_letter b) (all_label m) h in
    rw (here, later_label m more) refl

first_label : (l m : List ℕ) → all_label l ≡ true → is_label m ≡ true → has_shape shape.Name FirstLabel (l ++ 92 ∷ m) ≡ true
first_label [] m h k = label_behind m k
first_label (b ∷ l) m h k =
    let (here, more) = and_parts (is_label_byte b) (all_label l) h in
    rw (here, first_label l m more k) refl

two_labels : (l m : List ℕ) → is_label l ≡ true → is_label m ≡ true → is_name (l ++ 92 ∷ m) ≡ true
two_labels [] m h k = absurd cc
two_labels (b ∷ l) m h k =
    let (here, more) = and_parts (is_letter b) (all_label l) h in
    rw (here, first_label l m more k) refl

name_ends : (s : Spot) (m : List ℕ) → may_end shape.Name s ≡ true → is_label m ≡ true → has_shape shape.Name s (92 ∷ m) ≡ true
name_ends LaterLabel m h k = label_behind m k
name_ends Begin m h k = absurd cc
name_ends Whole m h k = absurd cc
name_ends WholeGap m h k = absurd cc
name_ends LeadPoint m h k = absurd cc
name_ends Point m h k = absurd cc
name_ends Part m h k = absurd cc
name_ends PartGap m h k = absurd cc
name_ends Mark m h k = absurd cc
name_ends Sign m h k = absurd cc
name_ends Power m h k = absurd cc
name_ends PowerGap m h k = absurd cc
name_ends FirstLabel m h k = absurd cc
name_ends Backslash m h k = absurd cc
name_ends OpenedLabel m h k = absurd cc
name_ends QuotedLabel m h k = absurd cc
name_ends ClosedLabel m h k = absurd cc
name_ends Return m h k = absurd cc
name_ends Line m h k = absurd cc
name_ends Stuck m h k = absurd cc

name_more : (s : Spot) (t m : List ℕ) → has_shape shape.Name s t ≡ true → is_label m ≡ true → has_shape shape.Name s (t ++ 92 ∷ m) ≡ true
name_more s [] m h k = name_ends s m h k
name_more s (b ∷ t) m h k =
    let (here, more) = and_parts (not (is_stuck (step shape.Name s b))) (has_shape shape.Name (step shape.Name s b) t) h in
    rw (here, name_more (step shape.Name s b) t m more k) refl

pub labels_join : LabelsJoin
labels_join = record { two = two_labels; front = label_behind; more = name_more Begin }

-- ---- words

plain_run : (text rest : List ℕ) → is_run Labels [] Plain text rest ≡ true → all_label text ≡ true
plain_run [] rest h = refl
plain_run (b ∷ text) rest h =
    let (here, more) = and_parts (is_label_byte b) (is_run Labels [] Plain text rest) h in
    rw (here, plain_run text rest more) refl

abbrev is_word_kind : Kind → Bool
is_word_kind Word = true
is_word_kind _ = false

or_none : (x : Bool) → (x || false) ≡ true → x ≡ true
or_none true h = refl
or_none false h = absurd cc

word_by : (b : ℕ) (a r : List ℕ) (other : Bool) → ((is_letter b && is_run Labels [] Plain a r) && other || false) ≡ true → is_label (b ∷ a) ≡ true
word_by b a r other h =
    let run = (and_parts (is_letter b && is_run Labels [] Plain a r) other (or_none _ h)).0 in
    let (first, more) = and_parts (is_letter b) (is_run Labels [] Plain a r) run in
    rw (first, plain_run a r more) refl

pub words_are_labels : WordsAreLabels
words_are_labels V74 b a r h = word_by b a r (not (is_b (b ∷ a) && begins_text r)) (longest_meets is_word_kind V74 code (b ∷ a) r Word refl h)
words_are_labels V83 b a r h = word_by b a r (not (is_b (b ∷ a) && begins_text r)) (longest_meets is_word_kind V83 code (b ∷ a) r Word refl h)

no_deeper : (a s : List ℕ) → all_label a ≡ true → begins is_label_byte s ≡ false → begins_deeper s ≡ false → goes_deeper (a ++ s) ≡ false
no_deeper [] [] h p q = refl
no_deeper [] (c ∷ s) h p q = rw p q
no_deeper (b ∷ a) s h p q =
    let (here, more) = and_parts (is_label_byte b) (all_label a) h in
    rw here (no_deeper a s more p q)

pub labels_begin_no_name : LabelsBeginNoName
labels_begin_no_name [] s h p q = absurd cc
labels_begin_no_name (b ∷ a) s h p q =
    let (here, more) = and_parts (is_letter b) (all_label a) h in
    rw here (no_deeper a s more p q)

-- ---- white space

abbrev is_space_kind : Kind → Bool
is_space_kind Space = true
is_space_kind _ = false

space_run : (st : State) (text rest : List ℕ) → is_run Spaces [] st text rest ≡ true → all_space text ≡ true
space_run st [] rest h = refl
space_run st (b ∷ text) rest h =
    let (here, more) = and_parts (is_space b) (is_run Spaces [] Plain text rest) h in
    rw (here, space_run Plain text rest more) refl

space_by : (v w : Version) (b : ℕ) (a r s : List ℕ) → begins is_space s ≡ false
    → (is_space b && is_run Spaces [] Plain a r || false) ≡ true
    → IsLongest w code (b ∷ a ++ s) Space (suc (length a))
space_by v w b a r s stop h =
    let (first, more) = and_parts (is_space b) (is_run Spaces [] Plain a r) (or_none _ h) in
    space_is w b a s first (space_run Plain a r more) stop

pub white_space_stays : WhiteSpaceStays
white_space_stays V74 w b a r s stop h = space_by V74 w b a r s stop (longest_meets is_space_kind V74 code (b ∷ a) r Space refl h)
white_space_stays V83 w b a r s stop h = space_by V83 w b a r s stop (longest_meets is_space_kind V83 code (b ∷ a) r Space refl h)
