-- The closing token of a heredoc, and the line that it ends.
use Rattle.std.proofs.Common.{◌≡◌, ℕ, suc, Bool, true, false, cond, ◌||◌, nat_eq, List, [], ◌∷◌, ◌++◌, length, refl, sym, ap, ◌∙◌, arith}
use Rattle.std.proofs.lemmas.Bool.{and_parts, eqb-true}
use Rattle.std.proofs.lemmas.Bool.Decides.{nat_tests}
use Rattle.std.proofs.Math.Seq.{drop-append_seam}
use Rattle.php_tree.specs.declared.version.Version.TheVariants.{V74}
use Rattle.php_spellings.specs.declared.table.Kind.{Kind}
use Rattle.php_spellings.specs.declared.table.Kind.TheVariants.{QuotedEnd}
use Rattle.php_spellings.specs.declared.table.Mark.TheVariants.{Here}
use Rattle.php_spellings.specs.Bytes.{as_it_is, is_blank_byte, is_empty, starts}
use Rattle.php_lexer.specs.Heredocs.{led, no_more, no_label, begins_label, ends_heredoc, is_last_label, is_end_line}
use Rattle.php_lexer.specs.Modes.{quoted, IsLongest}
use Rattle.php_relexing.proofs.HeredocFronts.{skip_by}
use Rattle.php_relexing.proofs.Picked.{longest_meets}

or_none : (x : Bool) → (x || false) ≡ true → x ≡ true
or_none true h = refl
or_none false h = absurd cc

empty_is : (t : List ℕ) → is_empty t ≡ true → t ≡ []
empty_is [] h = refl
empty_is (b ∷ t) h = absurd cc

pub starts_self : (l s : List ℕ) → starts l (l ++ s) ≡ true
starts_self [] s = refl
starts_self (a ∷ l) s = let same : nat_eq a a ≡ true = grind (arith, nat_tests) in rw (same, starts_self l s) refl

-- a label that no byte of a label follows
pub record LastLabel (l t r : List ℕ) : Type 0 where
  pub same : t ≡ l
  pub ends : no_label r ≡ true

pub last_label : (l t r : List ℕ) → led as_it_is l (no_more no_label) t r ≡ true → LastLabel l t r
last_label [] t r h = let (empty, ends) = and_parts (is_empty t) (no_label r) h in record { same = empty_is t empty; ends = ends }
last_label (a ∷ l) [] r h = absurd cc
last_label (a ∷ l) (b ∷ t) r h =
    let (here, more) = and_parts (nat_eq a b) (led as_it_is l (no_more no_label) t r) h in
    let is = last_label l t r more in
    record {
      same = ap (λ (x : ℕ). x ∷ t) (sym (eqb-true a b here)) ∙ ap (λ (u : List ℕ). a ∷ u) is.same;
      ends = is.ends;
    }

-- the text ends the heredoc before the bytes
pub record EndsHere (label t r : List ℕ) : Type 0 where
  pub line : ends_heredoc label (t ++ r) ≡ true
  pub stops : no_label r ≡ true

label_begins : (l r : List ℕ) → no_label r ≡ true → begins_label l (l ++ r) ≡ true
label_begins l r e = rw (starts_self l r, drop-append_seam l r, e) refl

at_label : (label : List ℕ) (b : ℕ) (t r : List ℕ) → is_blank_byte b ≡ false → is_last_label label (b ∷ t) r ≡ true → EndsHere label (b ∷ t) r
at_label [] b t r blank h = absurd cc
at_label (a ∷ l) b t r blank h =
    let is = last_label (a ∷ l) (b ∷ t) r h in
    record {
      line =
          ap (begins_label (a ∷ l)) (skip_by b (t ++ r) false blank)
          ∙ ap (λ (u : List ℕ). begins_label (a ∷ l) (u ++ r)) is.same
          ∙ label_begins (a ∷ l) r is.ends;
      stops = is.ends;
    }

at_blank : (label : List ℕ) (b : ℕ) (t r : List ℕ) → (is_end_line label t r ≡ true → EndsHere label t r) → (x : Bool)
    → is_blank_byte b ≡ x → cond x (is_end_line label t r) (is_last_label label (b ∷ t) r) ≡ true
    → EndsHere label (b ∷ t) r
at_blank label b t r ih true p h =
    let is = ih h in
    record { line = ap (begins_label label) (skip_by b (t ++ r) true p) ∙ is.line; stops = is.stops }
at_blank label b t r ih false p h = at_label label b t r p h

pub end_line_ends : (label t r : List ℕ) → is_end_line label t r ≡ true → EndsHere label t r
end_line_ends label [] r h = absurd cc
end_line_ends label (b ∷ t) r h = at_blank label b t r (end_line_ends label t r) (is_blank_byte b) refl h

abbrev is_end : Kind → Bool
is_end QuotedEnd = true
is_end _ = false

pub heredoc_end : (label : List ℕ) (b : ℕ) (a r : List ℕ) → IsLongest V74 (quoted Here label true) (b ∷ a ++ r) QuotedEnd (suc (length a)) → EndsHere label (b ∷ a) r
heredoc_end label b a r h = end_line_ends label (b ∷ a) r (or_none _ (longest_meets is_end V74 (quoted Here label true) (b ∷ a) r QuotedEnd refl h))
