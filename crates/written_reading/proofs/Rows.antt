-- What the rows of the token tables tell of the texts of labels, casts and `${`.
use Rattle.std.proofs.Common.{◌≡◌, ℕ, Bool, true, false, cond, ◌&&◌, List, [], ◌∷◌, Option, Some, codes, refl, sym, ap, ◌∙◌, subst}
use Rattle.std.specs.Str.{bytes_eq}
use Rattle.std.proofs.lemmas.Bool.{and_parts}
use Rattle.std.proofs.lemmas.Slice.Eq.{bytes_eq-Decides}
use Rattle.php_tree.specs.declared.version.Version.{Version}
use Rattle.php_tree.specs.declared.version.Version.TheVariants.{V74, V83}
use Rattle.php_spellings.specs.declared.table.Kind.{Kind}
use Rattle.php_spellings.specs.declared.table.Kind.TheVariants.{Word, Label, Cast, DollarBrace}
use Rattle.php_spellings.specs.declared.table.State.TheVariants.{First, Plain, Escaped}
use Rattle.php_spellings.specs.declared.table.Mark.TheVariants.{Double, Back, Here}
use Rattle.php_spellings.specs.declared.table.Run.TheVariants.{Spaces, Labels, Line, HashLine, Html, Body}
use Rattle.php_spellings.specs.declared.table.Until.TheVariants.{Simple, Closed, Block, CastWord, From}
use Rattle.php_spellings.specs.declared.table.Follow.TheVariants.{Anything, Nothing, NoStar, Dollar, NoNowdocAfterOne, NoNowdocAfterTwo}
use Rattle.php_spellings.specs.declared.table.Tail.{Tail}
use Rattle.php_spellings.specs.declared.table.Tail.TheVariants.{When, AnyRun, SomeOf, UpTo, Shaped, AnyWord, BracedName, EndLine, NowdocRest}
use Rattle.php_spellings.specs.Bytes.{lower}
use Rattle.php_lexer.specs.Heredocs.{led, no_more}
use Rattle.php_lexer.specs.Tails.{some_run, is_until}
use Rattle.php_lexer.specs.Rules.{Row, rule, follows, is_tail, kind_by}
use Rattle.php_lexer.specs.Modes.{Mode, html, code, named, quoted, offset, property, rows_of, label_in, kind_of}

-- what a text of a kind is, where the rest follows it
abbrev pub Tells : Kind → List ℕ → List ℕ → List ℕ → Type 0
Tells Word label text rest = some_run Labels [] First text rest ≡ true
Tells Label label text rest = some_run Labels label First text rest ≡ true
Tells Cast label text rest = led lower (40 ∷ []) (is_until CastWord First) text rest ≡ true
Tells DollarBrace label text rest = led lower (codes "${") (no_more (follows Anything)) text rest ≡ true
Tells _ label text rest = Unit {0}

-- ---- the tails of the four kinds

abbrev is_any : Tail → Bool
is_any AnyWord = true
is_any _ = false

abbrev is_labels : Tail → Bool
is_labels (SomeOf Labels First) = true
is_labels _ = false

abbrev is_cast : Tail → Bool
is_cast (UpTo CastWord) = true
is_cast _ = false

abbrev is_alone : Tail → Bool
is_alone (When Anything) = true
is_alone _ = false

any_is : (t : Tail) → is_any t ≡ true → t ≡ AnyWord
any_is AnyWord e = refl
any_is (When f) e = absurd cc
any_is (AnyRun r) e = absurd cc
any_is (SomeOf r s) e = absurd cc
any_is (UpTo u) e = absurd cc
any_is (Shaped sh s) e = absurd cc
any_is BracedName e = absurd cc
any_is EndLine e = absurd cc
any_is NowdocRest e = absurd cc

labels_is : (t : Tail) → is_labels t ≡ true → t ≡ SomeOf Labels First
labels_is AnyWord e = absurd cc
labels_is (When f) e = absurd cc
labels_is (AnyRun r) e = absurd cc
labels_is (SomeOf Labels First) e = refl
labels_is (SomeOf Labels Plain) e = absurd cc
labels_is (SomeOf Labels Escaped) e = absurd cc
labels_is (SomeOf Spaces s) e = absurd cc
labels_is (SomeOf Line s) e = absurd cc
labels_is (SomeOf HashLine s) e = absurd cc
labels_is (SomeOf Html s) e = absurd cc
labels_is (SomeOf (Body m) s) e = absurd cc
labels_is (UpTo u) e = absurd cc
labels_is (Shaped sh s) e = absurd cc
labels_is BracedName e = absurd cc
labels_is EndLine e = absurd cc
labels_is NowdocRest e = absurd cc

cast_is : (t : Tail) → is_cast t ≡ true → t ≡ UpTo CastWord
cast_is AnyWord e = absurd cc
cast_is (When f) e = absurd cc
cast_is (AnyRun r) e = absurd cc
cast_is (SomeOf r s) e = absurd cc
cast_is (UpTo CastWord) e = refl
cast_is (UpTo Simple) e = absurd cc
cast_is (UpTo Closed) e = absurd cc
cast_is (UpTo Block) e = absurd cc
cast_is (UpTo From) e = absurd cc
cast_is (Shaped sh s) e = absurd cc
cast_is BracedName e = absurd cc
cast_is EndLine e = absurd cc
cast_is NowdocRest e = absurd cc

alone_is : (t : Tail) → is_alone t ≡ true → t ≡ When Anything
alone_is AnyWord e = absurd cc
alone_is (When Anything) e = refl
alone_is (When Nothing) e = absurd cc
alone_is (When NoStar) e = absurd cc
alone_is (When Dollar) e = absurd cc
alone_is (When NoNowdocAfterOne) e = absurd cc
alone_is (When NoNowdocAfterTwo) e = absurd cc
alone_is (AnyRun r) e = absurd cc
alone_is (SomeOf r s) e = absurd cc
alone_is (UpTo u) e = absurd cc
alone_is (Shaped sh s) e = absurd cc
alone_is BracedName e = absurd cc
alone_is EndLine e = absurd cc
alone_is NowdocRest e = absurd cc

-- ---- rows

-- whether a row is no other one of the four kinds
abbrev fits : Kind → List ℕ → Tail → Bool
fits Word w tail = bytes_eq w [] && is_any tail
fits Label w tail = bytes_eq w [] && is_labels tail
fits Cast w tail = bytes_eq w (40 ∷ []) && is_cast tail
fits DollarBrace w tail = bytes_eq w (codes "${") && is_alone tail
fits _ w tail = true

abbrev all_fit : List Row → Bool
all_fit [] = true
all_fit (rule k w tail ∷ rows) = fits k w tail && all_fit rows

module _ (w : List ℕ) (tail : Tail) (label text rest : List ℕ) (h : led lower w (is_tail label tail) text rest ≡ true) where
  exactly : (u : List ℕ) (t : Tail) → w ≡ u → tail ≡ t → led lower u (is_tail label t) text rest ≡ true
  exactly u t p q = ap (λ (x : List ℕ). led lower x (is_tail label t) text rest) (sym p) ∙ ap (λ (x : Tail). led lower w (is_tail label x) text rest) (sym q) ∙ h

  row_tells : (k : Kind) → fits k w tail ≡ true → Tells k label text rest
  row_tells Word p =
      let e = and_parts (bytes_eq w []) (is_any tail) p in
      (and_parts _ _ (exactly [] AnyWord ((bytes_eq-Decides w []).0 e.0) (any_is tail e.1))).0
  row_tells Label p =
      let e = and_parts (bytes_eq w []) (is_labels tail) p in
      exactly [] (SomeOf Labels First) ((bytes_eq-Decides w []).0 e.0) (labels_is tail e.1)
  row_tells Cast p =
      let e = and_parts (bytes_eq w (40 ∷ [])) (is_cast tail) p in
      exactly (40 ∷ []) (UpTo CastWord) ((bytes_eq-Decides w (40 ∷ [])).0 e.0) (cast_is tail e.1)
  row_tells DollarBrace p =
      let e = and_parts (bytes_eq w (codes "${")) (is_alone tail) p in
      exactly (codes "${") (When Anything) ((bytes_eq-Decides w (codes "${")).0 e.0) (alone_is tail e.1)
  row_tells _ p = tt

abbrev some_kind : Kind → Option Kind
some_kind k = Some k

same_kind : (k j : Kind) → some_kind k ≡ some_kind j → k ≡ j
same_kind k j e = cc

kind_tells : (label : List ℕ) (rows : List Row) → all_fit rows ≡ true → (k : Kind) (text rest : List ℕ) → kind_by label rows text rest ≡ Some k → Tells k label text rest
kind_tells label [] fit k text rest e = absurd cc
kind_tells label (rule j w tail ∷ rows) fit k text rest e =
    let f = and_parts (fits j w tail) (all_fit rows) fit in
    by (led lower w (is_tail label tail) text rest) refl f.0 (kind_tells label rows f.1 k text rest) e
  where
    by : (t : Bool) → led lower w (is_tail label tail) text rest ≡ t → fits j w tail ≡ true
        → (kind_by label rows text rest ≡ Some k → Tells k label text rest)
        → cond t (Some j) (kind_by label rows text rest) ≡ Some k → Tells k label text rest
    by true h f others q = subst (λ (x : Kind). Tells x label text rest) (same_kind j k q) (row_tells w tail label text rest h j f)
    by false h f others q = others q

mode_fits : (v : Version) (m : Mode) → all_fit (rows_of v m) ≡ true
mode_fits v html = refl
mode_fits V74 code = refl
mode_fits V83 code = refl
mode_fits V74 named = refl
mode_fits V83 named = refl
mode_fits v (quoted Double label fresh) = refl
mode_fits v (quoted Back label fresh) = refl
mode_fits v (quoted Here label true) = refl
mode_fits v (quoted Here label false) = refl
mode_fits v offset = refl
mode_fits V74 property = refl
mode_fits V83 property = refl

-- The text of a token is what its kind tells.
pub told : (v : Version) (m : Mode) (k : Kind) (text rest : List ℕ) → kind_of v m text rest ≡ Some k → Tells k (label_in m) text rest
told v m k text rest e = kind_tells (label_in m) (rows_of v m) (mode_fits v m) k text rest e
