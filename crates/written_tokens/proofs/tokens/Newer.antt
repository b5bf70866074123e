-- Bytes without an edit: 8.3 has the tokens and trivia of 7.4, with each name one token.
use Rattle.std.proofs.Common.{◌≡◌, ℕ, Bool, true, false, cond, ◌||◌, nat_eq, List, [], ◌∷◌, ◌++◌, length, refl, ap, ◌∙◌, append_assoc, arith}
use Rattle.std.proofs.lemmas.Bool.{and_parts}
use Rattle.std.proofs.lemmas.Bool.Decides.{nat_tests}
use Rattle.php_tree.specs.declared.version.Version.TheVariants.{V83}
use Rattle.php_spellings.specs.declared.table.Kind.{Kind}
use Rattle.php_spellings.specs.declared.table.Kind.TheVariants.{Word, Name}
use Rattle.php_spellings.specs.declared.table.Shape.TheVariants as shape
use Rattle.php_spellings.specs.declared.table.Spot.TheVariants.{FirstLabel, Backslash, LaterLabel}
use Rattle.php_spellings.specs.Bytes.{is_letter, is_label_byte, begins}
use Rattle.php_lexer.specs.Shapes.{has_shape}
use Rattle.php_lexer.specs.Modes.{code, IsLongest}
use Rattle.php_relexing.specs.Tiles.{Tile, tile, joined}
use Rattle.php_relexing.specs.Labels.{all_label, is_label, is_name}
use Rattle.php_relexing.proofs.Picked.{longest_meets}
use Rattle.written_tokens.specs.tokens.Names.{goes_on_root, is_rooted, are_one, in_front, whole_names, begins_word}

-- ---- joined rows have the same bytes

front_by : (kind : Kind) (b : ℕ) (a : List ℕ) (k : Kind) (c : ℕ) (e : List ℕ) (us : List Tile) (t : Bool)
    → joined (cond t (tile Name b (a ++ c ∷ e) ∷ us) (tile kind b a ∷ tile k c e ∷ us)) ≡ b ∷ a
    ++ (c ∷ e ++ joined us)
front_by kind b a k c e us true = ap (λ (u : List ℕ). b ∷ u) (append_assoc a (c ∷ e) (joined us))
front_by kind b a k c e us false = refl

front_joined : (kind : Kind) (b : ℕ) (a : List ℕ) (ts : List Tile) → joined (in_front kind b a ts) ≡ b ∷ a ++ joined ts
front_joined kind b a [] = refl
front_joined kind b a (tile k c e ∷ us) = front_by kind b a k c e us (are_one kind b k c)

pub names_joined : (ts : List Tile) → joined (whole_names ts) ≡ joined ts
names_joined [] = refl
names_joined (tile kind b a ∷ ts) = front_joined kind b a (whole_names ts) ∙ ap (λ (u : List ℕ). b ∷ a ++ u) (names_joined ts)

-- ---- a label in front of a name

deeper_shape : (l e : List ℕ) → all_label l ≡ true → has_shape shape.Name Backslash e ≡ true → has_shape shape.Name FirstLabel (l ++ 92 ∷ e) ≡ true
deeper_shape [] e h k = k
deeper_shape (b ∷ l) e h k =
    let (one, more) = and_parts (is_label_byte b) (all_label l) h in
    rw (one, deeper_shape l e more k) refl

pub label_name : (b : ℕ) (l e : List ℕ) → is_label (b ∷ l) ≡ true → is_name (92 ∷ e) ≡ true → is_name (b ∷ l ++ 92 ∷ e) ≡ true
label_name b l e h k =
    let (one, more) = and_parts (is_letter b) (all_label l) h in
    rw (one, deeper_shape l e more k) refl

-- a name behind `\`
later_by : (b : ℕ) (e : List ℕ) (x y : Bool) → is_label_byte b ≡ x → nat_eq b 92 ≡ y
    → (has_shape shape.Name FirstLabel e ≡ true → has_shape shape.Name LaterLabel e ≡ true)
    → has_shape shape.Name FirstLabel (b ∷ e) ≡ true → has_shape shape.Name LaterLabel (b ∷ e) ≡ true
later_by b e true y p q ih h = let old = rw p at h in rw (p, ih old) refl
later_by b e false true p q ih h = let old = rw (p, q) at h in rw (p, q, old) refl
later_by b e false false p q ih h = absurd (let old = rw (p, q) at h in cc)

later_shape : (e : List ℕ) → has_shape shape.Name FirstLabel e ≡ true → has_shape shape.Name LaterLabel e ≡ true
later_shape [] h = absurd cc
later_shape (b ∷ e) h = later_by b e (is_label_byte b) (nat_eq b 92) refl refl (later_shape e) h

root_by : (c : ℕ) (e : List ℕ) (x : Bool) → is_letter c ≡ x → nat_eq c 92 ≡ false → is_name (c ∷ e) ≡ true → is_name (92 ∷ c ∷ e) ≡ true
root_by c e true p q h = let old = rw p at h in rw (p, later_shape e old) refl
root_by c e false p q h = absurd (let old = rw (p, q) at h in cc)

pub root_name : (c : ℕ) (e : List ℕ) → nat_eq c 92 ≡ false → is_name (c ∷ e) ≡ true → is_name (92 ∷ c ∷ e) ≡ true
root_name c e q h = root_by c e (is_letter c) refl q h

-- ---- what a name token is

abbrev is_name_kind : Kind → Bool
is_name_kind Name = true
is_name_kind _ = false

or_none : (x : Bool) → (x || false) ≡ true → x ≡ true
or_none true h = refl
or_none false h = absurd cc

pub name_is : (t r : List ℕ) → IsLongest V83 code (t ++ r) Name (length t) → is_name t ≡ true
name_is [] r h = absurd (let e = longest_meets is_name_kind V83 code [] r Name refl h in cc)
name_is (b ∷ a) r h = or_none (is_name (b ∷ a)) (longest_meets is_name_kind V83 code (b ∷ a) r Name refl h)

-- ---- the first of a row

abbrev pub meets : Kind → ℕ → List Tile → Bool
meets kind b [] = false
meets kind b (tile k c e ∷ us) = are_one kind b k c

pub apart : (kind : Kind) (b : ℕ) (a : List ℕ) (ws : List Tile) → meets kind b ws ≡ false → in_front kind b a ws ≡ tile kind b a ∷ ws
apart kind b a [] h = refl
apart kind b a (tile k c e ∷ us) h = rw h refl

pub together : (kind : Kind) (b : ℕ) (a : List ℕ) (k : Kind) (c : ℕ) (e : List ℕ) (us : List Tile)
    → are_one kind b k c ≡ true → in_front kind b a (tile k c e ∷ us) ≡ tile Name b (a ++ c ∷ e) ∷ us
together kind b a k c e us h = rw h refl

-- whether a name that begins with `\` is first
abbrev pub rooted_first : List Tile → Bool
rooted_first [] = false
rooted_first (tile k c e ∷ us) = is_rooted k c

-- whether a word is first, or a name that begins with a label
abbrev pub goes_first : List Tile → Bool
goes_first [] = false
goes_first (tile k c e ∷ us) = goes_on_root k c

letter_root : (c : ℕ) → is_letter c ≡ true → nat_eq c 92 ≡ false
letter_root c h = grind (arith, nat_tests)

word_front : (c : ℕ) (e : List ℕ) (ws : List Tile) → is_letter c ≡ true → goes_first (in_front Word c e ws) ≡ true
word_front c e [] h = refl
word_front c e (tile k d g ∷ us) h = by_test (is_rooted k d)
  where
    by_test : (t : Bool) → goes_first (cond t (tile Name c (e ++ d ∷ g) ∷ us) (tile Word c e ∷ tile k d g ∷ us)) ≡ true
    by_test true = rw (letter_root c h) refl
    by_test false = refl

pub word_goes : (ts : List Tile) → begins_word ts ≡ true → begins is_letter (joined ts) ≡ true → goes_first (whole_names ts) ≡ true
word_goes [] p q = absurd cc
word_goes (tile Word c e ∷ ts) p q = word_front c e (whole_names ts) q
word_goes (tile _ c e ∷ ts) p q = absurd cc
