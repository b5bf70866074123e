-- Where a token of 7.4 is one of 8.3.
use Rattle.std.proofs.Common.{◌≡◌, ℕ, Bool, true, false, cond, ◌&&◌, nat_eq, List, [], ◌∷◌, Option, None, refl, sym, ◌∙◌}
use Rattle.php_tree.specs.declared.version.Version.TheVariants.{V74, V83}
use Rattle.php_spellings.specs.declared.table.Kind.{Kind}
use Rattle.php_spellings.specs.declared.table.Kind.TheVariants.{Name}
use Rattle.php_spellings.specs.declared.table.Shape.TheVariants as shape
use Rattle.php_spellings.specs.declared.table.Spot.TheVariants.{Begin, FirstLabel, Backslash}
use Rattle.php_spellings.specs.declared.table.Tail.TheVariants.{Shaped}
use Rattle.php_spellings.specs.Bytes.{is_letter, is_label_byte, lower, begins, begins_by}
use Rattle.php_lexer.specs.Modes.{Mode, html, code, named, quoted, offset, property}
use Rattle.php_lexer.specs.Scan.{scan, shape_len, behind, tail_len, longer}
use Rattle.php_lexer.proofs.Dispatch.{older_scan, newer_scan}
use Rattle.php_relexing.specs.Newer.{goes_deeper, begins_name, is_settled, SameInNewerCode, SameInNewerTexts}
use Rattle.php_relexing.proofs.Scanned.{rescanned}

-- ---- no name

pub backslash_none : (bs : List ℕ) → begins is_letter bs ≡ false → shape_len shape.Name Backslash bs ≡ None
backslash_none [] h = refl
backslash_none (b ∷ bs) h = rw h refl

label_by : (b : ℕ) (bs : List ℕ) (x y : Bool) → is_label_byte b ≡ x → nat_eq b 92 ≡ y
    → (goes_deeper bs ≡ false → shape_len shape.Name FirstLabel bs ≡ None)
    → cond x (goes_deeper bs) (y && begins is_letter bs) ≡ false → shape_len shape.Name FirstLabel (b ∷ bs) ≡ None
label_by b bs true y p q ih e = rw (p, ih e) refl
label_by b bs false true p q ih e = rw (p, q, backslash_none bs e) refl
label_by b bs false false p q ih e = rw (p, q) refl

pub label_none : (bs : List ℕ) → goes_deeper bs ≡ false → shape_len shape.Name FirstLabel bs ≡ None
label_none [] h = refl
label_none (b ∷ bs) h = label_by b bs (is_label_byte b) (nat_eq b 92) refl refl (label_none bs) h

pub name_none : (b : ℕ) (bs : List ℕ) → begins_name (b ∷ bs) ≡ false → shape_len shape.Name Begin (b ∷ bs) ≡ None
name_none b bs h = by_byte (is_letter b) (nat_eq b 92) refl refl h
  where
    by_byte : (x y : Bool) → is_letter b ≡ x → nat_eq b 92 ≡ y → cond x (goes_deeper bs) (y && begins is_letter bs) ≡ false → shape_len shape.Name Begin (b ∷ bs) ≡ None
    by_byte true y p q e = rw (p, label_none bs e) refl
    by_byte false true p q e = rw (p, q, backslash_none bs e) refl
    by_byte false false p q e = rw (p, q) refl

no_name_row : (b : ℕ) (bs : List ℕ) (o : Option (Kind × ℕ)) → begins_name (b ∷ bs) ≡ false → longer Name (behind lower [] (tail_len [] (Shaped shape.Name Begin)) (b ∷ bs)) o ≡ o
no_name_row b bs o h = rw (name_none b bs h) refl

-- ---- the same scan

pub same_code : (bytes : List ℕ) → begins_by 35 bytes ≡ false → begins_name bytes ≡ false → scan V74 code bytes ≡ scan V83 code bytes
same_code [] p q = refl
same_code (b ∷ bs) p q = older_scan b bs p ∙ sym (newer_scan b bs p ∙ no_name_row b bs _ q)

pub same_texts : (mode : Mode) (bytes : List ℕ) → is_settled mode ≡ true → scan V74 mode bytes ≡ scan V83 mode bytes
same_texts html bytes h = refl
same_texts code bytes h = absurd cc
same_texts named bytes h = absurd cc
same_texts (quoted mark label fresh) bytes h = refl
same_texts offset bytes h = refl
same_texts property bytes h = absurd cc

pub same_in_newer_code : SameInNewerCode
same_in_newer_code kind n bytes p q h = rescanned V74 V83 code code bytes bytes kind n (same_code bytes p q) h

pub same_in_newer_texts : SameInNewerTexts
same_in_newer_texts mode kind n bytes p h = rescanned V74 V83 mode mode bytes bytes kind n (same_texts mode bytes p) h
