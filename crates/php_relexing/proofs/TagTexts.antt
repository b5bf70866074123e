-- Opening tags before other bytes.
use Rattle.std.proofs.Common.{◌≡◌, ℕ, Bool, true, false, ◌&&◌, ◌||◌, nat_eq, List, [], ◌∷◌, ◌++◌, length, drop, map, get_or, codes, ◌⊎◌, inl, inr, refl, sym, ap, ◌∙◌, subst, arith}
use Rattle.std.proofs.lemmas.Bool.{and_parts, eqb-true}
use Rattle.std.proofs.lemmas.Bool.Decides.{nat_tests}
use Rattle.php_tree.specs.declared.version.Version.{Version}
use Rattle.php_spellings.specs.declared.table.Kind.{Kind}
use Rattle.php_spellings.specs.declared.table.Kind.TheVariants.{Tag}
use Rattle.php_spellings.specs.declared.table.Follow.{Follow}
use Rattle.php_spellings.specs.declared.table.Follow.TheVariants.{Anything, Nothing}
use Rattle.php_spellings.specs.Bytes.{is_space, is_empty, lower, begins_by}
use Rattle.php_lexer.specs.Heredocs.{led, no_more}
use Rattle.php_lexer.specs.Rules.{follows}
use Rattle.php_lexer.specs.Modes.{html, IsLongest}
use Rattle.php_relexing.proofs.Operators.{is_mark, mark_same, or_case}
use Rattle.php_relexing.proofs.Picked.{longest_meets}
use Rattle.php_lexer.specs.Scan.{scan}
use Rattle.php_relexing.specs.Inline.{ends_return, TagsStay}
use Rattle.php_relexing.proofs.Tags.{tagged, short_scan, long_scan}
use Rattle.php_relexing.proofs.Scanned.{found, longest_of}

-- ---- which texts are tags

-- the text is the word in any case, and what follows passes the test
pub record Spelled (w t : List ℕ) (passes : Bool) : Type 0 where
  pub word : map lower t ≡ w
  pub test : passes ≡ true

spelled_is : (w t r : List ℕ) (f : Follow) → led lower w (no_more (follows f)) t r ≡ true → Spelled w t (follows f r)
spelled_is [] [] r f h = record { word = refl; test = h }
spelled_is [] (b ∷ t) r f h = absurd cc
spelled_is (a ∷ w) [] r f h = absurd cc
spelled_is (a ∷ w) (b ∷ t) r f h =
    let (here, more) = and_parts (nat_eq a (lower b)) (led lower w (no_more (follows f)) t r) h in
    let is = spelled_is w t r f more in
    record { word = ap (λ (x : ℕ). x ∷ map lower t) (sym (eqb-true a (lower b) here)) ∙ ap (λ (u : List ℕ). a ∷ u) is.word; test = is.test }

abbrev is_tag : Kind → Bool
is_tag Tag = true
is_tag _ = false

abbrev Tagged : List ℕ → List ℕ → Type 0
Tagged t r =
    Spelled (codes "<?php ") t true
    ⊎ (Spelled (codes "<?php\t") t true
    ⊎ (Spelled (codes "<?php\n") t true
    ⊎ (Spelled (codes "<?php\r") t true
    ⊎ (Spelled (codes "<?php\r\n") t true
    ⊎ Spelled (codes "<?php") t (is_empty r)))))

or_none : (x : Bool) → (x || false) ≡ true → x ≡ true
or_none true h = refl
or_none false h = absurd cc

tagged_is : (v : Version) (t r : List ℕ) → IsLongest v html (t ++ r) Tag (length t) → Tagged t r
tagged_is v t r h =
    let row : (w : List ℕ) (f : Follow) → Bool = λ w f. led lower w (no_more (follows f)) t r in
    elim (or_case (row (codes "<?php ") Anything)
    (row (codes "<?php\t") Anything || (row (codes "<?php\n") Anything
    || (row (codes "<?php\r") Anything
    || (row (codes "<?php\r\n") Anything || (row (codes "<?php") Nothing || false)))))
    (longest_meets is_tag v html t r Tag refl h)) [
      | inl e ↦ inl (spelled_is (codes "<?php ") t r Anything e)
      | inr k ↦ elim (or_case (row (codes "<?php\t") Anything)
          (row (codes "<?php\n") Anything || (row (codes "<?php\r") Anything
          || (row (codes "<?php\r\n") Anything || (row (codes "<?php") Nothing || false)))) k) [
            | inl e ↦ inr (inl (spelled_is (codes "<?php\t") t r Anything e))
            | inr l ↦ elim (or_case (row (codes "<?php\n") Anything)
                (row (codes "<?php\r") Anything
                || (row (codes "<?php\r\n") Anything || (row (codes "<?php") Nothing || false))) l) [
                  | inl e ↦ inr (inr (inl (spelled_is (codes "<?php\n") t r Anything e)))
                  | inr m ↦ elim (or_case (row (codes "<?php\r") Anything) (row (codes "<?php\r\n") Anything || (row (codes "<?php") Nothing || false)) m) [
                    | inl e ↦ inr (inr (inr (inl (spelled_is (codes "<?php\r") t r Anything e))))
                    | inr n ↦ elim (or_case (row (codes "<?php\r\n") Anything) (row (codes "<?php") Nothing || false) n) [
                      | inl e ↦ inr (inr (inr (inr (inl (spelled_is (codes "<?php\r\n") t r Anything e)))))
                      | inr o ↦ inr (inr (inr (inr (inr (spelled_is (codes "<?php") t r Nothing (or_none _ o))))))
                    ]
                  ]
                ]
          ]
    ]

-- ---- their bytes

-- the first byte of a text and the others
pub record Front (t w : List ℕ) (a : ℕ) : Type 0 where
  pub byte : ℕ
  pub more : List ℕ
  pub same : t ≡ byte ∷ more
  pub first : lower byte ≡ a
  pub rest : map lower more ≡ w

front_of : (t : List ℕ) (a : ℕ) (w : List ℕ) → map lower t ≡ a ∷ w → Front t w a
front_of [] a w e = absurd cc
front_of (b ∷ t) a w e = record {
  byte = b;
  more = t;
  same = refl;
  first = ap (λ (l : List ℕ). get_or l 0 0) e;
  rest = ap (λ (l : List ℕ). drop 1 l) e;
}

same_mark : (x b : ℕ) → is_mark x ≡ true → lower b ≡ x → b ≡ x
same_mark x b h e = mark_same x b h (ap (nat_eq x) e ∙ same_eq x)
  where
    same_eq : (x : ℕ) → nat_eq x x ≡ true
    same_eq x = grind (arith, nat_tests)

-- `<?php` in any case, and other bytes
pub record Opening (t w : List ℕ) : Type 0 where
  pub p : ℕ
  pub h : ℕ
  pub q : ℕ
  pub more : List ℕ
  pub is_p : lower p ≡ 112
  pub is_h : lower h ≡ 104
  pub is_q : lower q ≡ 112
  pub same : t ≡ tagged p h q more
  pub rest : map lower more ≡ w

opening_of : (t w : List ℕ) → map lower t ≡ 60 ∷ 63 ∷ 112 ∷ 104 ∷ 112 ∷ w → Opening t w
opening_of t w e =
    let f0 = front_of t 60 (63 ∷ 112 ∷ 104 ∷ 112 ∷ w) e in
    let f1 = front_of f0.more 63 (112 ∷ 104 ∷ 112 ∷ w) f0.rest in
    let f2 = front_of f1.more 112 (104 ∷ 112 ∷ w) f1.rest in
    let f3 = front_of f2.more 104 (112 ∷ w) f2.rest in
    let f4 = front_of f3.more 112 w f3.rest in
    let less = same_mark 60 f0.byte refl f0.first in
    let question = same_mark 63 f1.byte refl f1.first in
    let tail : f0.more ≡ 63 ∷ f2.byte ∷ f3.byte ∷ f4.byte ∷ f4.more = f1.same ∙ ap (λ (x : ℕ). x ∷ f1.more) question
    ∙ ap (λ (u : List ℕ). 63 ∷ u) (f2.same ∙ ap (λ (u : List ℕ). f2.byte ∷ u)
    (f3.same ∙ ap (λ (u : List ℕ). f3.byte ∷ u) f4.same)) in
    record {
      p = f2.byte;
      h = f3.byte;
      q = f4.byte;
      more = f4.more;
      is_p = f2.first;
      is_h = f3.first;
      is_q = f4.first;
      same = f0.same ∙ ap (λ (x : ℕ). x ∷ f0.more) less ∙ ap (λ (u : List ℕ). 60 ∷ u) tail;
      rest = f4.rest;
    }

nothing_of : (t : List ℕ) → map lower t ≡ [] → t ≡ []
nothing_of [] e = refl
nothing_of (b ∷ t) e = absurd cc

-- one mark
one_of : (t : List ℕ) (c : ℕ) → is_mark c ≡ true → map lower t ≡ c ∷ [] → t ≡ c ∷ []
one_of t c h e =
    let f = front_of t c [] e in
    f.same ∙ ap (λ (x : ℕ). x ∷ f.more) (same_mark c f.byte h f.first) ∙ ap (λ (u : List ℕ). c ∷ u) (nothing_of f.more f.rest)

-- ---- what stays

abbrev Stays : Version → List ℕ → List ℕ → Type 0
Stays w t s = IsLongest w html (t ++ s) Tag (length t)

-- a tag with one byte of white space
spaced : (w : Version) (t s : List ℕ) (c : ℕ) → is_mark c ≡ true → is_space c ≡ true
    → (nat_eq c 13 && begins_by 10 s) ≡ false → map lower t ≡ 60 ∷ 63 ∷ 112 ∷ 104 ∷ 112 ∷ c ∷ [] → Stays w t s
spaced w t s c m space e is =
    let o = opening_of t (c ∷ []) is in
    let same : t ≡ tagged o.p o.h o.q (c ∷ []) = o.same ∙ ap (tagged o.p o.h o.q) (one_of o.more c m o.rest) in
    subst (λ (u : List ℕ). Stays w u s) (sym same)
    (longest_of w html (tagged o.p o.h o.q (c ∷ s)) Tag 6 (short_scan w o.p o.h o.q o.is_p o.is_h o.is_q c s space e))

both_ends : (w : Version) (t s : List ℕ) → map lower t ≡ codes "<?php\r\n" → Stays w t s
both_ends w t s is =
    let o = opening_of t (13 ∷ 10 ∷ []) is in
    let f = front_of o.more 13 (10 ∷ []) o.rest in
    let more : o.more ≡ 13 ∷ 10 ∷ [] = f.same ∙ ap (λ (x : ℕ). x ∷ f.more) (same_mark 13 f.byte refl f.first) ∙ ap (λ (u : List ℕ). 13 ∷ u) (one_of f.more 10 refl f.rest) in
    subst (λ (u : List ℕ). Stays w u s) (sym (o.same ∙ ap (tagged o.p o.h o.q) more))
    (longest_of w html (tagged o.p o.h o.q (13 ∷ 10 ∷ s)) Tag 7 (long_scan w o.p o.h o.q o.is_p o.is_h o.is_q s))

last_scan : (v : Version) (p h q : ℕ) → lower p ≡ 112 → lower h ≡ 104 → lower q ≡ 112 → scan v html (tagged p h q []) ≡ found Tag 5
last_scan v p h q x y z = rw (x, y, z) refl

at_end : (w : Version) (t s : List ℕ) → s ≡ [] → map lower t ≡ codes "<?php" → Stays w t s
at_end w t s e is =
    let o = opening_of t [] is in
    let same : t ≡ tagged o.p o.h o.q [] = o.same ∙ ap (tagged o.p o.h o.q) (nothing_of o.more o.rest) in
    subst (λ (u : List ℕ). Stays w t u) (sym e)
    (subst (λ (u : List ℕ). Stays w u []) (sym same)
    (longest_of w html (tagged o.p o.h o.q []) Tag 5 (last_scan w o.p o.h o.q o.is_p o.is_h o.is_q)))

empty_is : (r : List ℕ) → is_empty r ≡ true → r ≡ []
empty_is [] h = refl
empty_is (b ∷ r) h = absurd cc

-- a tag that ends in a carriage return
returned : (w : Version) (t s : List ℕ) → (ends_return t && begins_by 10 s) ≡ false → map lower t ≡ codes "<?php\r" → Stays w t s
returned w t s e is =
    let o = opening_of t (13 ∷ []) is in
    let same : t ≡ tagged o.p o.h o.q (13 ∷ []) = o.same ∙ ap (tagged o.p o.h o.q) (one_of o.more 13 refl o.rest) in
    spaced w t s 13 refl refl (subst (λ (u : List ℕ). (ends_return u && begins_by 10 s) ≡ false) same e) is

by_text : (w : Version) (t r s : List ℕ) → (ends_return t && begins_by 10 s) ≡ false → (r ≡ [] → s ≡ []) → Tagged t r → Stays w t s
by_text w t r s e f (inl is) = spaced w t s 32 refl refl refl is.word
by_text w t r s e f (inr (inl is)) = spaced w t s 9 refl refl refl is.word
by_text w t r s e f (inr (inr (inl is))) = spaced w t s 10 refl refl refl is.word
by_text w t r s e f (inr (inr (inr (inl is)))) = returned w t s e is.word
by_text w t r s e f (inr (inr (inr (inr (inl is))))) = both_ends w t s is.word
by_text w t r s e f (inr (inr (inr (inr (inr is))))) = at_end w t s (f (empty_is r is.test)) is.word

pub tags_stay : TagsStay
tags_stay v w a r s e f h = by_text w a r s e f (tagged_is v a r h)
