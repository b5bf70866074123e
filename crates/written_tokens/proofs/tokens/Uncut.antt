-- Bytes that 8.3 takes as 7.4 does have its tokens and trivia, with each name one token.
use Rattle.std.proofs.Common.{◌≡◌, ℕ, suc, Bool, true, false, not, ◌||◌, nat_eq, List, [], ◌∷◌, ◌++◌, length, refl, sym, ap, ◌∙◌, subst, arith}
use Rattle.std.proofs.lemmas.Bool.{eqb-true, and_parts, not-true}
use Rattle.std.proofs.lemmas.Bool.Decides.{nat_tests}
use Rattle.php_tree.specs.declared.version.Version.TheVariants.{V74, V83}
use Rattle.php_spellings.specs.declared.table.Kind.{Kind}
use Rattle.php_spellings.specs.declared.table.Kind.TheVariants.{Comment, Word, Name, Op, DollarBrace}
use Rattle.php_spellings.specs.Bytes.{is_letter, is_label_byte, begins, begins_by}
use Rattle.php_lexer.specs.Modes.{Mode, html, code, named, quoted, offset, property, IsLongest}
use Rattle.php_lexer.specs.Lexed.{Stack, after}
use Rattle.php_relexing.specs.Tiles.{Tile, tile, joined}
use Rattle.php_relexing.specs.Spelled.{Steps, done, step}
use Rattle.php_relexing.specs.Newer.{begins_deeper, goes_deeper, begins_name, ends_name}
use Rattle.php_relexing.proofs.Newer.{same_in_newer_code, same_in_newer_texts}
use Rattle.php_relexing.proofs.Names.{names_are_tokens}
use Rattle.php_relexing.proofs.Labels.{words_are_labels, labels_begin_no_name, labels_join}
use Rattle.written_tokens.specs.tokens.Names.{goes_on_root, in_front, whole_names, begins_word, is_common, all_common, is_named, is_unnamed, SameInNewer}
use Rattle.written_tokens.proofs.tokens.Modes.{is_dollar_brace, unnamed_after, unnamed_top, property_stays, no_word, no_root, no_name_kind}
use Rattle.written_tokens.proofs.tokens.Follows.{word_ends, word_first, root_kind, root_alone, hash_kind, hash_stays}
use Rattle.written_tokens.proofs.tokens.Newer.{names_joined, label_name, root_name, name_is, meets, apart, together, rooted_first, goes_first, word_goes}
use Rattle.written_tokens.proofs.tokens.Kept.{stack_by, is_code, is_wordy, Ended, Good, opened, stays}

-- ---- code

module _ (below : List Mode) (depth : ℕ) where
  abbrev plain : Stack
  plain = stack_by code below depth

  -- a word and the name behind it
  word_joins : (b : ℕ) (a e : List ℕ) (us : List Tile) (s : List ℕ)
      → IsLongest V74 code (b ∷ a ++ s) Word (suc (length a))
      → Steps V83 (stack_by code below depth) (tile Name 92 e ∷ us) → ends_name (joined us) ≡ true
      → Steps V83 (stack_by code below depth) (tile Name b (a ++ 92 ∷ e) ∷ us)
  word_joins b a e us s h more ends =
      let (longest, rest) = opened more in
      let name = label_name b a e (words_are_labels V74 b a s h) (name_is (92 ∷ e) (joined us) longest) in
      step Name b (a ++ 92 ∷ e) us (names_are_tokens (b ∷ a ++ 92 ∷ e) (joined us) name ends) rest

  -- `\` and the label behind it
  root_word : (c : ℕ) (e : List ℕ) (us : List Tile) → Steps V83 (stack_by code below depth) (tile Word c e ∷ us)
      → ends_name (joined us) ≡ true → Steps V83 (stack_by code below depth) (tile Name 92 (c ∷ e) ∷ us)
  root_word c e us more ends =
      let (longest, rest) = opened more in
      step Name 92 (c ∷ e) us (names_are_tokens (92 ∷ c ∷ e) (joined us) (labels_join.front (c ∷ e) (words_are_labels V83 c e (joined us) longest)) ends) rest

  -- `\` and the name behind it
  root_joins : (c : ℕ) (e : List ℕ) (us : List Tile) → nat_eq c 92 ≡ false
      → Steps V83 (stack_by code below depth) (tile Name c e ∷ us) → ends_name (joined us) ≡ true
      → Steps V83 (stack_by code below depth) (tile Name 92 (c ∷ e) ∷ us)
  root_joins c e us q more ends =
      let (longest, rest) = opened more in
      step Name 92 (c ∷ e) us (names_are_tokens (92 ∷ c ∷ e) (joined us) (root_name c e q (name_is (c ∷ e) (joined us) longest)) ends) rest

  -- ---- a tile that is joined to what follows

  abbrev Joined : Kind → ℕ → List ℕ → List Tile → Type 0
  Joined kind b a ws = Good (stack_by code below depth) (b ∷ a ++ joined ws) (in_front kind b a ws)

  letter_root : (b : ℕ) → is_letter b ≡ true → nat_eq b 92 ≡ false
  letter_root b h = grind (arith, nat_tests)

  not_deeper : (b : ℕ) (bs : List ℕ) → nat_eq b 92 ≡ false → begins_deeper (b ∷ bs) ≡ false
  not_deeper b bs h = rw h refl

  word_first_of : (b : ℕ) (a s : List ℕ) → IsLongest V74 code (b ∷ a ++ s) Word (suc (length a)) → is_letter b ≡ true
  word_first_of b a s h = (and_parts (is_letter b) _ (words_are_labels V74 b a s h)).0

  no_true : {x : Bool} {A : Type 0} → x ≡ false → x ≡ true → A
  no_true p q = let e = sym p ∙ q in absurd cc

  word_good : (b : ℕ) (a e : List ℕ) (us : List Tile) (s : List ℕ)
      → IsLongest V74 code (b ∷ a ++ s) Word (suc (length a))
      → Steps V83 (stack_by code below depth) (tile Name 92 e ∷ us) → ends_name (joined us) ≡ true
      → Good (stack_by code below depth) (b ∷ a ++ s) (tile Name b (a ++ 92 ∷ e) ∷ us)
  word_good b a e us s h more ends = record {
    steps = word_joins b a e us s h more ends;
    ended = λ p. ends;
    deeper = λ p q. no_true (not_deeper b (a ++ s) (letter_root b (word_first_of b a s h))) q;
  }

  root_good : (k : Kind) (c : ℕ) (e : List ℕ) (us : List Tile) (s : List ℕ) → goes_on_root k c ≡ true
      → Steps V83 (stack_by code below depth) (tile k c e ∷ us) → (is_wordy k ≡ true → ends_name (joined us) ≡ true)
      → Good (stack_by code below depth) (92 ∷ s) (tile Name 92 (c ∷ e) ∷ us)
  root_good Word c e us s m more ends = record { steps = root_word c e us more (ends refl); ended = λ p. ends refl; deeper = λ p q. refl }
  root_good Name c e us s m more ends = record { steps = root_joins c e us (not-true (nat_eq c 92) m) more (ends refl); ended = λ p. ends refl; deeper = λ p q. refl }
  root_good _ c e us s m more ends = absurd cc

  abbrev AtRoot : List ℕ → List Tile → ℕ → List ℕ → Type 0
  AtRoot s ws b a = Steps V83 (after V74 (stack_by code below depth) Op (suc (length a)) (b ∷ a ++ s)) ws → Good (stack_by code below depth) (b ∷ a ++ s) (in_front Op b a ws)

  at_root : (k : Kind) (c : ℕ) (e : List ℕ) (us : List Tile) (s : List ℕ) → goes_on_root k c ≡ true
      → (is_wordy k ≡ true → ends_name (joined us) ≡ true) → AtRoot s (tile k c e ∷ us) 92 []
  at_root k c e us s m ends more = subst (λ (ws : List Tile). Good (stack_by code below depth) (92 ∷ s) ws) (sym (together Op 92 [] k c e us m)) (root_good k c e us s m more ends)

  root_any : (b : ℕ) (a : List ℕ) (k : Kind) (c : ℕ) (e : List ℕ) (us : List Tile) (s : List ℕ) → nat_eq b 92 ≡ true
      → goes_on_root k c ≡ true → IsLongest V74 code (b ∷ a ++ s) Op (suc (length a))
      → (is_wordy k ≡ true → ends_name (joined us) ≡ true) → AtRoot s (tile k c e ∷ us) b a
  root_any b a k c e us s p m h ends =
      let same : b ≡ 92 = eqb-true b 92 p in
      let alone : [] ≡ a = root_alone a s Op (subst (λ (x : ℕ). IsLongest V74 code (x ∷ a ++ s) Op (suc (length a))) same h) in
      subst (λ (x : ℕ). AtRoot s (tile k c e ∷ us) x a) (sym same) (subst (λ (y : List ℕ). AtRoot s (tile k c e ∷ us) 92 y) alone (at_root k c e us s m ends))

  word_any : (b : ℕ) (a : List ℕ) (c : ℕ) (e : List ℕ) (us : List Tile) (s : List ℕ) → nat_eq c 92 ≡ true
      → IsLongest V74 code (b ∷ a ++ s) Word (suc (length a)) → ends_name (joined us) ≡ true
      → Steps V83 (stack_by code below depth) (tile Name c e ∷ us)
      → Good (stack_by code below depth) (b ∷ a ++ s) (in_front Word b a (tile Name c e ∷ us))
  word_any b a c e us s m h ends more =
      let same : c ≡ 92 = eqb-true c 92 m in
      let good = word_good b a e us s h (subst (λ (x : ℕ). Steps V83 (stack_by code below depth) (tile Name x e ∷ us)) same more) ends in
      subst (λ (ws : List Tile). Good (stack_by code below depth) (b ∷ a ++ s) ws) (sym (together Word b a Name c e us m))
      (subst (λ (x : ℕ). Good (stack_by code below depth) (b ∷ a ++ s) (tile Name b (a ++ x ∷ e) ∷ us)) (sym same) good)

  one_good : (kind : Kind) (b : ℕ) (a s : List ℕ) (ws : List Tile) → meets kind b ws ≡ true
      → IsLongest V74 code (b ∷ a ++ s) kind (suc (length a)) → Ended ws
      → Steps V83 (after V74 (stack_by code below depth) kind (suc (length a)) (b ∷ a ++ s)) ws
      → Good (stack_by code below depth) (b ∷ a ++ s) (in_front kind b a ws)
  one_good Word b a s [] m h ends more = absurd cc
  one_good Word b a s (tile Name c e ∷ us) m h ends more = word_any b a c e us s m h (ends refl) more
  one_good Word b a s (tile _ c e ∷ us) m h ends more = absurd cc
  one_good Op b a s [] m h ends more = absurd cc
  one_good Op b a s (tile k c e ∷ us) m h ends more =
      let (p, q) = and_parts (nat_eq b 92) (goes_on_root k c) m in
      root_any b a k c e us s p q h ends more
  one_good _ b a s [] m h ends more = absurd cc
  one_good _ b a s (tile k c e ∷ us) m h ends more = absurd cc

-- ---- a tile that stays, in a row

module _ (mode : Mode) (below : List Mode) (depth b : ℕ) (a : List ℕ) (kind : Kind) (ts : List Tile)
    (common : is_common kind b a ts ≡ true) (rest : Steps V74
    (after V74 (stack_by mode below depth) kind (suc (length a)) (b ∷ a ++ joined ts)) ts)
    (ih : Good (after V74 (stack_by mode below depth) kind (suc (length a)) (b ∷ a ++ joined ts)) (joined ts)
    (whole_names ts)) where
  stayed : IsLongest V83 mode (b ∷ a ++ joined ts) kind (suc (length a)) → meets kind b (whole_names ts) ≡ false
      → (is_wordy kind ≡ true → ends_name (joined ts) ≡ true)
      → (is_code mode ≡ true → begins_deeper (b ∷ a ++ joined ts) ≡ true → ⊥)
      → Good (stack_by mode below depth) (b ∷ a ++ joined ts) (in_front kind b a (whole_names ts))
  stayed new none ends flat =
      subst (λ (ws : List Tile). Good (stack_by mode below depth) (b ∷ a ++ joined ts) ws) (sym (apart kind b a (whole_names ts) none)) (record {
        steps = stays mode below depth b a kind ts common rest (whole_names ts) (names_joined ts) new ih.steps;
        ended = λ p. subst (λ (u : List ℕ). ends_name u ≡ true) (sym (names_joined ts)) (ends p);
        deeper = λ p q. absurd (flat p q);
      })

-- ---- outside code

abbrev is_joining : Kind → ℕ → Bool
is_joining Op b = nat_eq b 92
is_joining Word b = true
is_joining _ b = false

meets_none : (kind : Kind) (b : ℕ) (ws : List Tile) → is_joining kind b ≡ false → meets kind b ws ≡ false
meets_none kind b [] h = refl
meets_none Op b (tile k c e ∷ us) h = rw h refl
meets_none Word b (tile k c e ∷ us) h = absurd cc
meets_none _ b (tile k c e ∷ us) h = refl

outside : {A : Type 0} (mode : Mode) → is_code mode ≡ false → code ≡ mode → A
outside mode p e = let clash : true ≡ false = ap is_code e ∙ p in absurd cc

root_outside : (mode : Mode) (b : ℕ) (a s : List ℕ) (t : Bool) → nat_eq b 92 ≡ t → is_code mode ≡ false
    → is_named mode ≡ false → IsLongest V74 mode (b ∷ a ++ s) Op (suc (length a)) → t ≡ false
root_outside mode b a s false e p q h = refl
root_outside mode b a s true e p q h =
    let same : b ≡ 92 = eqb-true b 92 e in
    outside mode p (no_root mode a s q (subst (λ (x : ℕ). IsLongest V74 mode (x ∷ a ++ s) Op (suc (length a))) same h))

not_joining : (mode : Mode) (kind : Kind) (b : ℕ) (a s : List ℕ) → is_code mode ≡ false → is_named mode ≡ false
    → IsLongest V74 mode (b ∷ a ++ s) kind (suc (length a)) → is_joining kind b ≡ false
not_joining mode Op b a s p q h = root_outside mode b a s (nat_eq b 92) refl p q h
not_joining mode Word b a s p q h = outside mode p (no_word mode (b ∷ a) s q h)
not_joining mode _ b a s p q h = refl

not_wordy : {A : Type 0} (mode : Mode) (kind : Kind) (b : ℕ) (a s : List ℕ) → is_code mode ≡ false
    → is_named mode ≡ false → IsLongest V74 mode (b ∷ a ++ s) kind (suc (length a)) → is_wordy kind ≡ true → A
not_wordy mode Word b a s p q h e = outside mode p (no_word mode (b ∷ a) s q h)
not_wordy mode Name b a s p q h e = absurd (no_name_kind mode (b ∷ a) s q h)
not_wordy mode _ b a s p q h e = absurd cc

not_both : {A : Type 0} (x : Bool) → x ≡ false → x ≡ true → A
not_both x p q = let e = sym p ∙ q in absurd cc

module _ (mode : Mode) (below : List Mode) (depth b : ℕ) (a : List ℕ) (kind : Kind) (ts : List Tile)
    (common : is_common kind b a ts ≡ true) (old : IsLongest V74 mode (b ∷ a ++ joined ts) kind (suc (length a)))
    (rest : Steps V74 (after V74 (stack_by mode below depth) kind (suc (length a)) (b ∷ a ++ joined ts)) ts)
    (ih : Good (after V74 (stack_by mode below depth) kind (suc (length a)) (b ∷ a ++ joined ts)) (joined ts)
    (whole_names ts)) where
  outer_good : is_code mode ≡ false → is_named mode ≡ false → IsLongest V83 mode (b ∷ a ++ joined ts) kind
      (suc (length a)) → Good (stack_by mode below depth) (b ∷ a ++ joined ts) (in_front kind b a (whole_names ts))
  outer_good p q new =
      stayed mode below depth b a kind ts common rest ih new
      (meets_none kind b (whole_names ts) (not_joining mode kind b a (joined ts) p q old))
      (λ e. not_wordy mode kind b a (joined ts) p q old e)
      (λ e d. not_both (is_code mode) p e)

-- ---- in code

root_front : (ts : List Tile) → (not (begins is_letter (joined ts)) || begins_word ts) ≡ true → begins is_letter (joined ts) ≡ true → begins_word ts ≡ true
root_front ts h e = rw e at h

goes_meets : (ws : List Tile) → goes_first ws ≡ true → meets Op 92 ws ≡ true
goes_meets [] h = absurd cc
goes_meets (tile k c e ∷ us) h = h

rooted_meets : (b : ℕ) (ws : List Tile) → rooted_first ws ≡ true → meets Word b ws ≡ true
rooted_meets b [] h = absurd cc
rooted_meets b (tile k c e ∷ us) h = h

flat_root : (ts : List Tile) → is_common Op 92 [] ts ≡ true → meets Op 92 (whole_names ts) ≡ false → begins is_letter (joined ts) ≡ true → ⊥
flat_root ts q f e = not_both (meets Op 92 (whole_names ts)) f (goes_meets (whole_names ts) (word_goes ts (root_front ts q e) e))

module _ (below : List Mode) (depth b : ℕ) (a : List ℕ) (kind : Kind) (ts : List Tile)
    (common : is_common kind b a ts ≡ true) (old : IsLongest V74 code (b ∷ a ++ joined ts) kind (suc (length a)))
    (rest : Steps V74 (after V74 (stack_by code below depth) kind (suc (length a)) (b ∷ a ++ joined ts)) ts)
    (ih : Good (after V74 (stack_by code below depth) kind (suc (length a)) (b ∷ a ++ joined ts)) (joined ts)
    (whole_names ts)) where
  module _ (none : meets kind b (whole_names ts) ≡ false) where
    flat_by : (same : b ≡ 92) → begins is_letter (a ++ joined ts) ≡ true → ⊥
    flat_by same e =
        let there = subst (λ (x : ℕ). IsLongest V74 code (x ∷ a ++ joined ts) kind (suc (length a))) same old in
        let op : Op ≡ kind = root_kind (a ++ joined ts) kind (suc (length a)) there in
        let alone : [] ≡ a = root_alone a (joined ts) kind there in
        let q1 = subst (λ (x : ℕ). is_common kind x a ts ≡ true) same common in
        let q2 = subst (λ (y : List ℕ). is_common kind 92 y ts ≡ true) (sym alone) q1 in
        let q3 = subst (λ (k : Kind). is_common k 92 [] ts ≡ true) (sym op) q2 in
        let f1 = subst (λ (x : ℕ). meets kind x (whole_names ts) ≡ false) same none in
        let f2 = subst (λ (k : Kind). meets k 92 (whole_names ts) ≡ false) (sym op) f1 in
        let e1 = subst (λ (y : List ℕ). begins is_letter (y ++ joined ts) ≡ true) (sym alone) e in
        flat_root ts q3 f2 e1

    flat : begins_deeper (b ∷ a ++ joined ts) ≡ true → ⊥
    flat h =
        let (p, e) = and_parts (nat_eq b 92) (begins is_letter (a ++ joined ts)) h in
        flat_by (eqb-true b 92 p) e

    not_flat : (x : Bool) → begins_deeper (b ∷ a ++ joined ts) ≡ x → x ≡ false
    not_flat true e = absurd (flat e)
    not_flat false e = refl

-- no name goes on behind a word that is joined to nothing
word_stops : (below : List Mode) (depth b : ℕ) (a : List ℕ) (ts : List Tile)
    → IsLongest V74 code (b ∷ a ++ joined ts) Word (suc (length a))
    → Good (stack_by code below depth) (joined ts) (whole_names ts) → meets Word b (whole_names ts) ≡ false
    → ends_name (joined ts) ≡ true
word_stops below depth b a ts old ih none =
    by_test (begins_deeper (joined ts)) refl
  where
    by_test : (x : Bool) → begins_deeper (joined ts) ≡ x → ends_name (joined ts) ≡ true
    by_test true e = not_both (meets Word b (whole_names ts)) none (rooted_meets b (whole_names ts) (ih.deeper refl e))
    by_test false e = rw (word_ends b a (joined ts) old, e) refl

wordy_stops : (below : List Mode) (depth b : ℕ) (a : List ℕ) (kind : Kind) (ts : List Tile)
    → IsLongest V74 code (b ∷ a ++ joined ts) kind (suc (length a))
    → Good (after V74 (stack_by code below depth) kind (suc (length a)) (b ∷ a ++ joined ts)) (joined ts)
    (whole_names ts) → meets kind b (whole_names ts) ≡ false → is_wordy kind ≡ true → ends_name (joined ts) ≡ true
wordy_stops below depth b a Word ts old ih none e = word_stops below depth b a ts old ih none
wordy_stops below depth b a Name ts old ih none e = absurd (no_name_kind code (b ∷ a) (joined ts) refl old)
wordy_stops below depth b a _ ts old ih none e = absurd cc

nameless_by : (b : ℕ) (a s : List ℕ) (kind : Kind) (x y : Bool) → is_letter b ≡ x → goes_deeper (a ++ s) ≡ y
    → IsLongest V74 code (b ∷ a ++ s) kind (suc (length a)) → (is_wordy kind ≡ true → ends_name s ≡ true)
    → begins_deeper (b ∷ a ++ s) ≡ false → begins_name (b ∷ a ++ s) ≡ false
nameless_by b a s kind false y p q old ends deep = rw p deep
nameless_by b a s kind true false p q old ends deep = rw p q
nameless_by b a s kind true true p q old ends deep =
    let word : Word ≡ kind = word_first b (a ++ s) kind (suc (length a)) p q old in
    let there = subst (λ (k : Kind). IsLongest V74 code (b ∷ a ++ s) k (suc (length a))) (sym word) old in
    let stop = ends (ap is_wordy (sym word)) in
    let (one, two) = and_parts (not (begins is_label_byte s)) (not (begins_deeper s)) stop in
    labels_begin_no_name (b ∷ a) s (words_are_labels V74 b a s there) (not-true (begins is_label_byte s) one) (not-true (begins_deeper s) two)

hash_new : (b : ℕ) (a : List ℕ) (kind : Kind) (ts : List Tile) → nat_eq b 35 ≡ true → is_common kind b a ts ≡ true
    → IsLongest V74 code (b ∷ a ++ joined ts) kind (suc (length a))
    → IsLongest V83 code (b ∷ a ++ joined ts) kind (suc (length a))
hash_new b a kind ts e q old =
    let same : b ≡ 35 = eqb-true b 35 e in
    let there = subst (λ (x : ℕ). IsLongest V74 code (x ∷ a ++ joined ts) kind (suc (length a))) same old in
    let comment : Comment ≡ kind = hash_kind (a ++ joined ts) kind (suc (length a)) there in
    let q1 = subst (λ (x : ℕ). is_common kind x a ts ≡ true) same q in
    let q2 = subst (λ (k : Kind). is_common k 35 a ts ≡ true) (sym comment) q1 in
    let h1 = subst (λ (k : Kind). IsLongest V74 code (35 ∷ a ++ joined ts) k (suc (length a))) (sym comment) there in
    let new = hash_stays a (joined ts) (not-true (begins_by 91 a) q2) h1 in
    subst (λ (x : ℕ). IsLongest V83 code (x ∷ a ++ joined ts) kind (suc (length a))) (sym same)
    (subst (λ (k : Kind). IsLongest V83 code (35 ∷ a ++ joined ts) k (suc (length a))) comment new)

new_by : (b : ℕ) (a : List ℕ) (kind : Kind) (ts : List Tile) (t : Bool) → nat_eq b 35 ≡ t
    → is_common kind b a ts ≡ true → begins_name (b ∷ a ++ joined ts) ≡ false
    → IsLongest V74 code (b ∷ a ++ joined ts) kind (suc (length a))
    → IsLongest V83 code (b ∷ a ++ joined ts) kind (suc (length a))
new_by b a kind ts true e q nameless old = hash_new b a kind ts e q old
new_by b a kind ts false e q nameless old = same_in_newer_code kind (suc (length a)) (b ∷ a ++ joined ts) e nameless old

module _ (below : List Mode) (depth b : ℕ) (a : List ℕ) (kind : Kind) (ts : List Tile)
    (common : is_common kind b a ts ≡ true) (old : IsLongest V74 code (b ∷ a ++ joined ts) kind (suc (length a)))
    (rest : Steps V74 (after V74 (stack_by code below depth) kind (suc (length a)) (b ∷ a ++ joined ts)) ts)
    (ih : Good (after V74 (stack_by code below depth) kind (suc (length a)) (b ∷ a ++ joined ts)) (joined ts)
    (whole_names ts)) where
  code_by : (t : Bool) → meets kind b (whole_names ts) ≡ t → Good (stack_by code below depth) (b ∷ a ++ joined ts) (in_front kind b a (whole_names ts))
  code_by true e = one_good below depth kind b a (joined ts) (whole_names ts) e old ih.ended ih.steps
  code_by false e =
      let deep = not_flat below depth b a kind ts common old rest ih e (begins_deeper (b ∷ a ++ joined ts)) refl in
      let ends = wordy_stops below depth b a kind ts old ih e in
      let nameless = nameless_by b a (joined ts) kind (is_letter b) (goes_deeper (a ++ joined ts)) refl refl old ends deep in
      stayed code below depth b a kind ts common rest ih (new_by b a kind ts (nat_eq b 35) refl common nameless old) e ends
      (λ p d. not_both (begins_deeper (b ∷ a ++ joined ts)) deep d)

-- ---- the whole row

tile_good : (mode : Mode) (below : List Mode) (depth b : ℕ) (a : List ℕ) (kind : Kind) (ts : List Tile)
    → is_named mode ≡ false → is_common kind b a ts ≡ true → IsLongest V74 mode (b ∷ a ++ joined ts) kind
    (suc (length a)) → Steps V74 (after V74 (stack_by mode below depth) kind (suc (length a)) (b ∷ a ++ joined ts)) ts
    → Good (after V74 (stack_by mode below depth) kind (suc (length a)) (b ∷ a ++ joined ts)) (joined ts)
    (whole_names ts) → Good (stack_by mode below depth) (b ∷ a ++ joined ts) (in_front kind b a (whole_names ts))
tile_good html below depth b a kind ts p q h rest ih = outer_good html below depth b a kind ts q h rest ih refl refl
    (same_in_newer_texts html kind (suc (length a)) (b ∷ a ++ joined ts) refl h)
tile_good code below depth b a kind ts p q h rest ih = code_by below depth b a kind ts q h rest ih (meets kind b (whole_names ts)) refl
tile_good named below depth b a kind ts p q h rest ih = absurd cc
tile_good (quoted mark label fresh) below depth b a kind ts p q h rest ih =
    outer_good (quoted mark label fresh) below depth b a kind ts q h rest ih refl refl
    (same_in_newer_texts (quoted mark label fresh) kind (suc (length a)) (b ∷ a ++ joined ts) refl h)
tile_good offset below depth b a kind ts p q h rest ih = outer_good offset below depth b a kind ts q h rest ih refl
    refl (same_in_newer_texts offset kind (suc (length a)) (b ∷ a ++ joined ts) refl h)
tile_good property below depth b a kind ts p q h rest ih = outer_good property below depth b a kind ts q h rest ih
    refl refl (property_stays b (a ++ joined ts) kind (suc (length a)) h)

no_dollar : (kind : Kind) (b : ℕ) (a : List ℕ) (ts : List Tile) → is_common kind b a ts ≡ true → is_dollar_brace kind ≡ false
no_dollar DollarBrace b a ts h = absurd cc
no_dollar _ b a ts h = refl

row_good : {stack : Stack} {ts : List Tile} → Steps V74 stack ts → is_unnamed stack ≡ true → all_common ts ≡ true → Good stack (joined ts) (whole_names ts)
row_good (done d) p q = record { steps = done d; ended = tt; deeper = λ e f. absurd cc }
row_good (step {stack} kind b a ts h rest) p q =
    let (one, more) = and_parts (is_common kind b a ts) (all_common ts) q in
    tile_good stack.top stack.below stack.depth b a kind ts (unnamed_top stack p) one h rest
    (row_good rest (unnamed_after stack kind (suc (length a)) (b ∷ a ++ joined ts) p (no_dollar kind b a ts one)) more)

pub same_in_newer : SameInNewer
same_in_newer stack ts p q h = (row_good h p q).steps
