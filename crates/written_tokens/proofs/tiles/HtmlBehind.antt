-- What the source's tiles of inline HTML say of the bytes behind them.
use Rattle.std.proofs.Common.{
  ◌≡◌,
  ℕ,
  suc,
  Bool,
  true,
  false,
  not,
  ◌&&◌,
  ◌||◌,
  nat_eq,
  List,
  [],
  ◌∷◌,
  ◌++◌,
  length,
  drop,
  codes,
  inl,
  inr,
  refl,
  sym,
  ap,
  ◌∙◌,
  subst,
  append_assoc,
  arith,
}
use Rattle.std.proofs.lemmas.Bool.{and_parts, eqb-true, or_right, or_left, and_left, and_right}
use Rattle.std.proofs.lemmas.Bool.Decides.{nat_tests}
use Rattle.php_tree.specs.declared.version.Version.TheVariants.{V74}
use Rattle.php_spellings.specs.declared.table.Kind.{Kind}
use Rattle.php_spellings.specs.declared.table.Kind.TheVariants.{Tag, OpenEcho, InlineHtml}
use Rattle.php_spellings.specs.declared.table.State.{State}
use Rattle.php_spellings.specs.declared.table.State.TheVariants.{First, Plain}
use Rattle.php_spellings.specs.declared.table.Run.TheVariants.{Html}
use Rattle.php_spellings.specs.Bytes.{is_space, is_empty, lower, begins, begins_by, starts_word}
use Rattle.php_lexer.specs.Heredocs.{led, no_more}
use Rattle.php_lexer.specs.Tails.{begins_tag, is_run}
use Rattle.php_lexer.specs.RulesCode.{html_rows}
use Rattle.php_lexer.specs.Modes.{html, IsLongest}
use Rattle.php_relexing.specs.Inline.{ends_return}
use Rattle.php_relexing.proofs.Operators.{or_case, mark_same, is_mark}
use Rattle.php_relexing.proofs.Picked.{longest_meets}
use Rattle.written_tokens.proofs.tiles.Behind.{longer_in, none_meets, or_none, or_no, opposite}

-- the kinds of no tile of inline HTML
abbrev pub no_html : Kind → Bool
no_html Tag = false
no_html OpenEcho = false
no_html InlineHtml = false
no_html _ = true

pub never : {A : Type 0} (kind : Kind) (b : ℕ) (a r : List ℕ) → no_html kind ≡ true → IsLongest V74 html (b ∷ a ++ r) kind (suc (length a)) → A
never kind b a r e l = absurd (let none = longest_meets no_html V74 html (b ∷ a) r kind e l in cc)

-- ---- tags

abbrev pub is_tag : Kind → Bool
is_tag Tag = true
is_tag OpenEcho = true
is_tag _ = false

starts_led : (w : List ℕ) (p : List ℕ → Bool) (t r : List ℕ) → led lower w (no_more p) t r ≡ true → starts_word w (t ++ r) ≡ true
starts_led [] p t r h = refl
starts_led (x ∷ w) p [] r h = absurd cc
starts_led (x ∷ w) p (b ∷ t) r h =
    let (here, more) = and_parts (nat_eq x (lower b)) (led lower w (no_more p) t r) h in
    rw (here, starts_led w p t r more) refl

cut_word : (w : List ℕ) (k : ℕ) (y : List ℕ) → starts_word (w ++ k ∷ []) y ≡ true → (starts_word w y ≡ true) × (begins (λ (c : ℕ). nat_eq k (lower c)) (drop (length w) y) ≡ true)
cut_word [] k [] h = absurd cc
cut_word [] k (c ∷ y) h = (refl, (and_parts (nat_eq k (lower c)) true h).0)
cut_word (x ∷ w) k [] h = absurd cc
cut_word (x ∷ w) k (c ∷ y) h =
    let (here, more) = and_parts (nat_eq x (lower c)) (starts_word (w ++ k ∷ []) y) h in
    let (front, last) = cut_word w k y more in
    (rw (here, front) refl, last)

space_next : (k : ℕ) (z : List ℕ) → is_mark k ≡ true → is_space k ≡ true → begins (λ (c : ℕ). nat_eq k (lower c)) z ≡ true → begins is_space z ≡ true
space_next k [] m s h = absurd cc
space_next k (c ∷ z) m s h = ap is_space (mark_same k c m h) ∙ s

or_last : (x y z : Bool) → y ≡ true → z ≡ true → (x || y && z) ≡ true
or_last true y z e f = refl
or_last false y z e f = rw (e, f) refl

spaced_tag : (k : ℕ) (y : List ℕ) → is_mark k ≡ true → is_space k ≡ true → starts_word (codes "?php" ++ k ∷ []) y ≡ true → begins_tag y ≡ true
spaced_tag k y m s h =
    let (front, last) = cut_word (codes "?php") k y h in
    or_last (starts_word (codes "?=") y) (starts_word (codes "?php") y) (is_empty (drop 4 y) || begins is_space (drop 4 y)) front
    (or_right (is_empty (drop 4 y)) (begins is_space (drop 4 y)) (space_next k (drop 4 y) m s last))

cut_return : (w y : List ℕ) → starts_word (w ++ 13 ∷ 10 ∷ []) y ≡ true → starts_word (w ++ 13 ∷ []) y ≡ true
cut_return [] [] h = absurd cc
cut_return [] (c ∷ y) h = rw (and_parts (nat_eq 13 (lower c)) (starts_word (10 ∷ []) y) h).0 refl
cut_return (x ∷ w) [] h = absurd cc
cut_return (x ∷ w) (c ∷ y) h =
    let (here, more) = and_parts (nat_eq x (lower c)) (starts_word (w ++ 13 ∷ 10 ∷ []) y) h in
    rw (here, cut_return w y more) refl

empty_led : (w t r : List ℕ) → led lower w (no_more is_empty) t r ≡ true → (starts_word w (t ++ r) ≡ true) × (is_empty (drop (length w) (t ++ r)) ≡ true)
empty_led [] [] r h = (refl, h)
empty_led [] (b ∷ t) r h = absurd cc
empty_led (x ∷ w) [] r h = absurd cc
empty_led (x ∷ w) (b ∷ t) r h =
    let (here, more) = and_parts (nat_eq x (lower b)) (led lower w (no_more is_empty) t r) h in
    let (front, last) = empty_led w t r more in
    (rw (here, front) refl, last)

last_tag : (y : List ℕ) → starts_word (codes "?php") y ≡ true → is_empty (drop 4 y) ≡ true → begins_tag y ≡ true
last_tag y e f = or_last (starts_word (codes "?=") y) (starts_word (codes "?php") y)
    (is_empty (drop 4 y) || begins is_space (drop 4 y)) e
    (or_left (is_empty (drop 4 y)) (begins is_space (drop 4 y)) f)

anything : List ℕ → Bool
anything bs = true

-- what is behind the `<` of a tag
pub record Opens (c : ℕ) (y : List ℕ) : Type 0 where
  pub angle : c ≡ 60
  pub tag : begins_tag y ≡ true

angle_of : (c : ℕ) (x : Bool) → (nat_eq 60 (lower c) && x) ≡ true → (c ≡ 60) × (x ≡ true)
angle_of c x h = let (first, more) = and_parts (nat_eq 60 (lower c)) x h in (mark_same 60 c refl first, more)

pub tag_opens : (c : ℕ) (e x : List ℕ) (kind : Kind) → is_tag kind ≡ true → IsLongest V74 html (c ∷ e ++ x) kind (suc (length e)) → Opens c (e ++ x)
tag_opens c e x kind t l =
    elim (or_case (led lower (codes "<?=") (no_more (λ bs. true)) (c ∷ e) x) _ (longest_meets is_tag V74 html (c ∷ e) x kind t l)) [
      | inl echo ↦
          let (angle, more) = angle_of c _ echo in
          record { angle = angle; tag = or_left (starts_word (codes "?=") (e ++ x)) _ (starts_led (codes "?=") (λ bs. true) e x more) }
      | inr one ↦ elim (or_case (led lower (codes "<?php ") (no_more (λ bs. true)) (c ∷ e) x) _ one) [
        | inl space ↦
            let (angle, more) = angle_of c _ space in
            record { angle = angle; tag = spaced_tag 32 (e ++ x) refl refl (starts_led (codes "?php ") (λ bs. true) e x more) }
        | inr two ↦ elim (or_case (led lower (codes "<?php\t") (no_more (λ bs. true)) (c ∷ e) x) _ two) [
          | inl tab ↦
              let (angle, more) = angle_of c _ tab in
              record { angle = angle; tag = spaced_tag 9 (e ++ x) refl refl (starts_led (codes "?php\t") (λ bs. true) e x more) }
          | inr three ↦ elim (or_case (led lower (codes "<?php\n") (no_more (λ bs. true)) (c ∷ e) x) _ three) [
            | inl feed ↦
                let (angle, more) = angle_of c _ feed in
                record { angle = angle; tag = spaced_tag 10 (e ++ x) refl refl (starts_led (codes "?php\n") (λ bs. true) e x more) }
            | inr four ↦ elim (or_case (led lower (codes "<?php\r") (no_more (λ bs. true)) (c ∷ e) x) _ four) [
              | inl return ↦
                  let (angle, more) = angle_of c _ return in
                  record { angle = angle; tag = spaced_tag 13 (e ++ x) refl refl (starts_led (codes "?php\r") (λ bs. true) e x more) }
              | inr five ↦ elim (or_case (led lower (codes "<?php\r\n") (no_more (λ bs. true)) (c ∷ e) x) _ five) [
                | inl both ↦
                    let (angle, more) = angle_of c _ both in
                    record { angle = angle; tag = spaced_tag 13 (e ++ x) refl refl (cut_return (codes "?php") (e ++ x) (starts_led (codes "?php\r\n") (λ bs. true) e x more)) }
                | inr last ↦
                    let (angle, more) = angle_of c _ (or_none _ last) in
                    let (front, end) = empty_led (codes "?php") e x more in
                    record { angle = angle; tag = last_tag (e ++ x) front end }
              ]
            ]
          ]
        ]
      ]
    ]

-- ---- behind inline HTML

abbrev is_inline : Kind → Bool
is_inline InlineHtml = true
is_inline _ = false

run_on : (st : State) (t : List ℕ) (c : ℕ) (r : List ℕ) → is_run Html [] st t (c ∷ r) ≡ true → not (nat_eq c 60 && begins_tag r) ≡ true → is_run Html [] st (t ++ c ∷ []) r ≡ true
run_on st [] c r h e = rw e refl
run_on st (b ∷ t) c r h e =
    let (here, more) = and_parts (not (nat_eq b 60 && begins_tag (t ++ c ∷ r))) (is_run Html [] Plain t (c ∷ r)) h in
    let same_rest : (t ++ c ∷ []) ++ r ≡ t ++ c ∷ r = append_assoc t (c ∷ []) r in
    rw (same_rest, here, run_on Plain t c r more e) refl

some_inline : (b : ℕ) (a r : List ℕ) → IsLongest V74 html (b ∷ a ++ r) InlineHtml (suc (length a)) → is_run Html [] First (b ∷ a) r ≡ true
some_inline b a r l = or_none _ (longest_meets is_inline V74 html (b ∷ a) r InlineHtml refl l)

pub inline_behind : (b : ℕ) (a : List ℕ) (c : ℕ) (r : List ℕ) → IsLongest V74 html (b ∷ a ++ c ∷ r) InlineHtml (suc (length a)) → (nat_eq c 60 && begins_tag r) ≡ true
inline_behind b a c r l = by_case (nat_eq c 60 && begins_tag r) refl
  where
    by_case : (x : Bool) → (nat_eq c 60 && begins_tag r) ≡ x → x ≡ true
    by_case true e = refl
    by_case false e =
        let none = or_no _ (none_meets is_inline (b ∷ a ++ c ∷ []) r html_rows (longer_in html b c a r InlineHtml l)) in
        opposite _ (run_on First (b ∷ a) c r (some_inline b a (c ∷ r) l) (ap not e)) none

-- no inline HTML begins at a tag
pub no_inline : (c : ℕ) (e x : List ℕ) → (nat_eq c 60 && begins_tag (e ++ x)) ≡ true → IsLongest V74 html (c ∷ e ++ x) InlineHtml (suc (length e)) → ⊥
no_inline c e x h l =
    let (first, more) = and_parts (not (nat_eq c 60 && begins_tag (e ++ x))) (is_run Html [] Plain e x) (some_inline c e x l) in
    let clash : not true ≡ true = ap not (sym h) ∙ first in cc

-- ---- a tag and what follows it

same_return : (x b : ℕ) → nat_eq x (lower b) ≡ true → nat_eq b 13 ≡ nat_eq x 13
same_return x b h = by_case (nat_eq b 13) refl (nat_eq x 13) refl
  where
    by_case : (t : Bool) → nat_eq b 13 ≡ t → (u : Bool) → nat_eq x 13 ≡ u → t ≡ u
    by_case true e true f = refl
    by_case false e false f = refl
    by_case true e false f = grind (arith, nat_tests)
    by_case false e true f =
        let there : nat_eq 13 (lower b) ≡ true = subst (λ (y : ℕ). nat_eq y (lower b) ≡ true) (eqb-true x 13 f) h in
        let is : b ≡ 13 = mark_same 13 b refl there in
        sym (sym (ap (λ (y : ℕ). nat_eq y 13) is) ∙ e)

led_return : (w : List ℕ) (p : List ℕ → Bool) (t r : List ℕ) → led lower w (no_more p) t r ≡ true → ends_return t ≡ ends_return w
led_return [] p [] r h = refl
led_return [] p (b ∷ t) r h = absurd cc
led_return (x ∷ w) p [] r h = absurd cc
led_return (x ∷ []) p (b ∷ []) r h = same_return x b (and_parts (nat_eq x (lower b)) (p r) h).0
led_return (x ∷ []) p (b ∷ c ∷ t) r h = absurd (let e = (and_parts (nat_eq x (lower b)) false h).1 in cc)
led_return (x ∷ y ∷ w) p (b ∷ []) r h = absurd (let e = (and_parts (nat_eq x (lower b)) false h).1 in cc)
led_return (x ∷ y ∷ w) p (b ∷ c ∷ t) r h =
    led_return (y ∷ w) p (c ∷ t) r (and_parts (nat_eq x (lower b)) (led lower (y ∷ w) (no_more p) (c ∷ t) r) h).1

led_feed : (w t r : List ℕ) (p : List ℕ → Bool) → led lower w (no_more p) t (10 ∷ r) ≡ true → led lower (w ++ 10 ∷ []) (no_more (λ bs. true)) (t ++ 10 ∷ []) r ≡ true
led_feed [] [] r p h = refl
led_feed [] (b ∷ t) r p h = absurd cc
led_feed (x ∷ w) [] r p h = absurd cc
led_feed (x ∷ w) (b ∷ t) r p h =
    let (here, more) = and_parts (nat_eq x (lower b)) (led lower w (no_more p) t (10 ∷ r)) h in
    rw (here, led_feed w t r p more) refl

-- white space behind `<?php` takes a line feed along
abbrev is_only_tag : Kind → Bool
is_only_tag Tag = true
is_only_tag _ = false

fifth : (a b c d e f : Bool) → (a || (b || (c || (d || (e || (f || false)))))) ≡ false → e ≡ false
fifth true b c d e f h = absurd cc
fifth false true c d e f h = absurd cc
fifth false false true d e f h = absurd cc
fifth false false false true e f h = absurd cc
fifth false false false false true f h = absurd cc
fifth false false false false false f h = refl

feed_longer : (b : ℕ) (a r : List ℕ) → led lower (codes "<?php\r") (no_more (λ bs. true)) (b ∷ a) (10 ∷ r) ≡ true → IsLongest V74 html (b ∷ a ++ 10 ∷ r) Tag (suc (length a)) → ⊥
feed_longer b a r e l =
    let none =
    fifth
    (led lower (codes "<?php ") (no_more (λ bs. true)) (b ∷ a ++ 10 ∷ []) r)
    (led lower (codes "<?php\t") (no_more (λ bs. true)) (b ∷ a ++ 10 ∷ []) r)
    (led lower (codes "<?php\n") (no_more (λ bs. true)) (b ∷ a ++ 10 ∷ []) r)
    (led lower (codes "<?php\r") (no_more (λ bs. true)) (b ∷ a ++ 10 ∷ []) r)
    (led lower (codes "<?php\r\n") (no_more (λ bs. true)) (b ∷ a ++ 10 ∷ []) r)
    (led lower (codes "<?php") (no_more is_empty) (b ∷ a ++ 10 ∷ []) r)
    (none_meets is_only_tag (b ∷ a ++ 10 ∷ []) r html_rows (longer_in html b 10 a r Tag l)) in
    opposite _ (led_feed (codes "<?php\r") (b ∷ a) r (λ bs. true) e) none

return_behind : (b : ℕ) (a r : List ℕ) → led lower (codes "<?php\r") (no_more (λ bs. true)) (b ∷ a) r ≡ true
    → IsLongest V74 html (b ∷ a ++ r) Tag (suc (length a)) → begins_by 10 r ≡ false
return_behind b a [] e l = refl
return_behind b a (c ∷ r) e l = by_case (nat_eq c 10) refl
  where
    by_case : (x : Bool) → nat_eq c 10 ≡ x → x ≡ false
    by_case false f = refl
    by_case true f =
        let is = eqb-true c 10 f in
        absurd (feed_longer b a r (subst (λ (x : ℕ). led lower (codes "<?php\r") (no_more (λ bs. true)) (b ∷ a) (x ∷ r) ≡ true) is e)
        (subst (λ (x : ℕ). IsLongest V74 html (b ∷ a ++ x ∷ r) Tag (suc (length a))) is l))

pub tag_behind : (b : ℕ) (a r : List ℕ) → IsLongest V74 html (b ∷ a ++ r) Tag (suc (length a)) → (ends_return (b ∷ a) && begins_by 10 r) ≡ false
tag_behind b a r l =
    elim (or_case (led lower (codes "<?php ") (no_more (λ bs. true)) (b ∷ a) r) _ (longest_meets is_only_tag V74 html (b ∷ a) r Tag refl l)) [
      | inl space ↦ and_left (ends_return (b ∷ a)) (begins_by 10 r) (led_return (codes "<?php ") (λ bs. true) (b ∷ a) r space)
      | inr two ↦ elim (or_case (led lower (codes "<?php\t") (no_more (λ bs. true)) (b ∷ a) r) _ two) [
        | inl tab ↦ and_left (ends_return (b ∷ a)) (begins_by 10 r) (led_return (codes "<?php\t") (λ bs. true) (b ∷ a) r tab)
        | inr three ↦ elim (or_case (led lower (codes "<?php\n") (no_more (λ bs. true)) (b ∷ a) r) _ three) [
          | inl feed ↦ and_left (ends_return (b ∷ a)) (begins_by 10 r) (led_return (codes "<?php\n") (λ bs. true) (b ∷ a) r feed)
          | inr four ↦ elim (or_case (led lower (codes "<?php\r") (no_more (λ bs. true)) (b ∷ a) r) _ four) [
            | inl return ↦ and_right (ends_return (b ∷ a)) (begins_by 10 r) (return_behind b a r return l)
            | inr five ↦ elim (or_case (led lower (codes "<?php\r\n") (no_more (λ bs. true)) (b ∷ a) r) _ five) [
              | inl both ↦ and_left (ends_return (b ∷ a)) (begins_by 10 r) (led_return (codes "<?php\r\n") (λ bs. true) (b ∷ a) r both)
              | inr last ↦ and_left (ends_return (b ∷ a)) (begins_by 10 r) (led_return (codes "<?php") is_empty (b ∷ a) r (or_none _ last))
            ]
          ]
        ]
      ]
    ]
