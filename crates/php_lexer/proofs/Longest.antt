-- What is scanned is the longest token.
use Rattle.std.proofs.Common.{◌≡◌, ℕ, zero, suc, ◌<◌, ◌≤◌, Bool, true, false, cond, ◌&&◌, List, [], ◌∷◌, length, drop, Option, Some, None, refl, sym, ◌∙◌, subst, arith}
use Rattle.std.specs.Prelude.{IfSome, IfNone}
use Rattle.php_tree.specs.declared.version.Version.{Version}
use Rattle.php_tree.specs.declared.version.Version.TheVariants.{V74, V83}
use Rattle.php_spellings.specs.declared.table.Kind.{Kind}
use Rattle.php_spellings.specs.declared.table.Mark.TheVariants.{Double, Back, Here}
use Rattle.php_spellings.specs.declared.table.Tail.{Tail}
use Rattle.php_spellings.specs.declared.table.Tail.TheVariants.{When, AnyRun, SomeOf, UpTo, Shaped, AnyWord, BracedName, EndLine, NowdocRest}
use Rattle.php_spellings.specs.Bytes.{lower}
use Rattle.php_lexer.specs.Heredocs.{led, is_body, begins_nowdoc, nowdoc_label, nowdoc_head}
use Rattle.php_lexer.specs.Shapes.{may_end}
use Rattle.php_lexer.specs.Rules.{Row, rule, is_tail, kind_by}
use Rattle.php_lexer.specs.Modes.{Mode, html, code, named, quoted, offset, property, kind_of, rows_of, label_in, IsLongest, HasNone}
use Rattle.php_lexer.specs.Scan.{scan}
use Rattle.php_lexer.proofs.Counts.{Sorts, and_false}
use Rattle.php_lexer.proofs.TailCounts.{sorts_by}

scanned : (v : Version) (m : Mode) (bytes : List ℕ) (r : Option (Kind × ℕ)) → scan v m bytes ≡ r → Sorts (kind_of v m) bytes r
scanned v m bytes r e = subst (λ x. Sorts (kind_of v m) bytes x) e (sorts_by (label_in m) (rows_of v m) bytes)

pub scanned_longest : (v : Version) (m : Mode) (bytes : List ℕ) (r : Option (Kind × ℕ)) → scan v m bytes ≡ r → IfSome r (λ x. IsLongest v m bytes x.0 x.1)
scanned_longest v m bytes None e = tt
scanned_longest v m bytes (Some x) e = let s = scanned v m bytes (Some x) e in record { within = s.0; is = s.1; longest = s.2 }

pub scanned_none : (v : Version) (m : Mode) (bytes : List ℕ) (r : Option (Kind × ℕ)) → scan v m bytes ≡ r → IfNone r (HasNone v m bytes)
scanned_none v m bytes (Some x) e = tt
scanned_none v m bytes None e = scanned v m bytes None e

pub scanned_within : (v : Version) (m : Mode) (bytes : List ℕ) (r : Option (Kind × ℕ)) → scan v m bytes ≡ r → IfSome r (λ x. x.1 ≤ length bytes)
scanned_within v m bytes None e = tt
scanned_within v m bytes (Some x) e = (scanned_longest v m bytes (Some x) e).within

-- ---- no token is empty

-- a tail that is never empty
abbrev tail_some : Tail → Bool
tail_some (SomeOf r s) = true
tail_some (UpTo u) = true
tail_some (Shaped sh s) = cond (may_end sh s) false true
tail_some AnyWord = true
tail_some BracedName = true
tail_some EndLine = true
tail_some NowdocRest = true
tail_some (When f) = false
tail_some (AnyRun r) = false

abbrev row_some : List ℕ → Tail → Bool
row_some [] tail = tail_some tail
row_some (a ∷ w) tail = true

abbrev rows_some : List Row → Bool
rows_some [] = true
rows_some (rule kind w tail ∷ rows) = cond (row_some w tail) (rows_some rows) false

no_end : (b : Bool) → cond b false true ≡ true → b ≡ false
no_end true e = absurd cc
no_end false e = refl

first : (x y : Bool) → cond x y false ≡ true → x ≡ true
first true y e = refl
first false y e = absurd cc

second : (x y : Bool) → cond x y false ≡ true → y ≡ true
second true y e = e
second false y e = absurd cc

no_body : (x : Bool) (label : List ℕ) (h : ℕ) (rest : List ℕ) → (x && is_body label false (drop h []) rest) ≡ false
no_body x label zero rest = and_false x
no_body x label (suc h) rest = and_false x

tail_0 : (label : List ℕ) (tail : Tail) → tail_some tail ≡ true → (rest : List ℕ) → is_tail label tail [] rest ≡ false
tail_0 label (SomeOf r s) h rest = refl
tail_0 label (UpTo u) h rest = refl
tail_0 label (Shaped sh s) h rest = no_end (may_end sh s) h
tail_0 label AnyWord h rest = refl
tail_0 label BracedName h rest = refl
tail_0 label EndLine h rest = refl
tail_0 label NowdocRest h rest = no_body (begins_nowdoc rest) (nowdoc_label rest) (nowdoc_head rest) rest
tail_0 label (When f) h rest = absurd cc
tail_0 label (AnyRun r) h rest = absurd cc

row_0 : (label w : List ℕ) (tail : Tail) → row_some w tail ≡ true → (rest : List ℕ) → led lower w (is_tail label tail) [] rest ≡ false
row_0 label [] tail h rest = tail_0 label tail h rest
row_0 label (a ∷ w) tail h rest = refl

rows_0 : (label : List ℕ) (rows : List Row) → rows_some rows ≡ true → (rest : List ℕ) → kind_by label rows [] rest ≡ None
rows_0 label [] h rest = refl
rows_0 label (rule kind w tail ∷ rows) h rest =
    rw (row_0 label w tail (first (row_some w tail) (rows_some rows) h) rest)
    (rows_0 label rows (second (row_some w tail) (rows_some rows) h) rest)

mode_0 : (v : Version) (m : Mode) → rows_some (rows_of v m) ≡ true
mode_0 v html = refl
mode_0 V74 code = refl
mode_0 V83 code = refl
mode_0 V74 named = refl
mode_0 V83 named = refl
mode_0 v (quoted Double label fresh) = refl
mode_0 v (quoted Back label fresh) = refl
mode_0 v (quoted Here label true) = refl
mode_0 v (quoted Here label false) = refl
mode_0 v offset = refl
mode_0 V74 property = refl
mode_0 V83 property = refl

pub longest_some : (v : Version) (m : Mode) (bytes : List ℕ) (kind : Kind) (n : ℕ) → IsLongest v m bytes kind n → 0 < n
longest_some v m bytes kind zero h =
    let none = rows_0 (label_in m) (rows_of v m) (mode_0 v m) bytes in
    let clash = sym h.is ∙ none in absurd cc
longest_some v m bytes kind (suc n) h = omega arith

pub scanned_some : (v : Version) (m : Mode) (bytes : List ℕ) (r : Option (Kind × ℕ)) → scan v m bytes ≡ r → IfSome r (λ x. 0 < x.1)
scanned_some v m bytes None e = tt
scanned_some v m bytes (Some x) e = longest_some v m bytes x.0 x.1 (scanned_longest v m bytes (Some x) e)
