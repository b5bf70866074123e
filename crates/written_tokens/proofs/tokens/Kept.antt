-- A token or a piece of trivia that 8.3 takes as 7.4 does, in front of a row of 8.3.
use Rattle.std.proofs.Common.{◌≡◌, ℕ, suc, Bool, true, false, not, ◌||◌, nat_eq, List, [], ◌∷◌, ◌++◌, length, refl, sym, ap, ◌∙◌, subst}
use Rattle.std.proofs.lemmas.Bool.{eqb-true, not-true}
use Rattle.std.proofs.Math.Seq.{drop-append_seam}
use Rattle.php_tree.specs.declared.version.Version.{Version}
use Rattle.php_tree.specs.declared.version.Version.TheVariants.{V74, V83}
use Rattle.php_spellings.specs.declared.table.Kind.{Kind}
use Rattle.php_spellings.specs.declared.table.Kind.TheVariants.{Variable, Word, Name, Piece}
use Rattle.php_spellings.specs.declared.table.Mark.{Mark}
use Rattle.php_lexer.specs.Modes.{Mode, html, code, named, quoted, offset, property, begins_arrow, part_mode_step, IsLongest}
use Rattle.php_lexer.specs.Lexed.{Stack, stepped_by, after}
use Rattle.php_relexing.specs.Tiles.{Tile, tile, joined}
use Rattle.php_relexing.specs.Spelled.{Steps, step}
use Rattle.php_relexing.specs.Newer.{begins_deeper, ends_name}
use Rattle.written_tokens.specs.tokens.Names.{begins_nullsafe, is_common}
use Rattle.written_tokens.proofs.tokens.Modes.{is_variable, SameProperty, is_quoted, same_after, piece_is}
use Rattle.written_tokens.proofs.tokens.Newer.{rooted_first}

abbrev pub stack_by : Mode → List Mode → ℕ → Stack
stack_by top below depth = record { top = top; below = below; depth = depth }

abbrev pub is_code : Mode → Bool
is_code html = false
is_code code = true
is_code named = false
is_code (quoted mark label fresh) = false
is_code offset = false
is_code property = false

abbrev pub is_wordy : Kind → Bool
is_wordy Word = true
is_wordy Name = true
is_wordy _ = false

-- no name goes on behind a word or a name that is first
abbrev pub Ended : List Tile → Type 0
Ended [] = Unit {0}
Ended (tile k c e ∷ us) = is_wordy k ≡ true → ends_name (joined us) ≡ true

-- A row of 8.3 for these bytes.
pub record Good (stack : Stack) (bytes : List ℕ) (ws : List Tile) : Type 0 where
  pub steps : Steps V83 stack ws
  pub ended : Ended ws
  pub deeper : is_code stack.top ≡ true → begins_deeper bytes ≡ true → rooted_first ws ≡ true

pub opened : {v : Version} {stack : Stack} {kind : Kind} {b : ℕ} {a : List ℕ} {ts : List Tile}
    → Steps v stack (tile kind b a ∷ ts) → IsLongest v stack.top (b ∷ a ++ joined ts) kind (suc (length a))
    × Steps v (after v stack kind (suc (length a)) (b ∷ a ++ joined ts)) ts
opened (step kind b a ts h rest) = (h, rest)

-- ---- a simple variable of a text: the same follows it

arrow_63 : (bs : List ℕ) → begins_arrow (63 ∷ bs) ≡ false
arrow_63 [] = refl
arrow_63 (b ∷ bs) = refl

or_false : (x : Bool) → (x || false) ≡ x
or_false true = refl
or_false false = refl

module _ (mark : Mark) (label : List ℕ) (fresh : Bool) (below : List Mode) (depth b : ℕ) (a : List ℕ) where
  here : Stack
  here = stack_by (quoted mark label fresh) below depth

  abbrev top_before : List ℕ → Mode
  top_before r = (stepped_by (part_mode_step V74 (quoted mark label false) r) (stack_by (quoted mark label fresh) below depth)).top

  before_63 : (bs : List ℕ) → top_before (63 ∷ bs) ≡ quoted mark label false
  before_63 [] = refl
  before_63 (c ∷ bs) = refl

  top_is : (bs : List ℕ) → (after V74 (stack_by (quoted mark label fresh) below depth) Variable (suc (length a)) (b ∷ a ++ 63 ∷ bs)).top ≡ quoted mark label false
  top_is bs = ap top_before (drop-append_seam a (63 ∷ bs)) ∙ before_63 bs

  piece_next : (k : Kind) (e : List ℕ) (us : List Tile) → not (begins_nullsafe (tile k 63 e ∷ us)) ≡ true → Piece ≡ k → begins_arrow (e ++ joined us) ≡ false
  piece_next k e us h same = not-true (begins_arrow (e ++ joined us)) (subst (λ (x : Kind). not (begins_nullsafe (tile x 63 e ∷ us)) ≡ true) (sym same) h)

  next_by : (k : Kind) (c : ℕ) (e : List ℕ) (us : List Tile) (t : Bool) → nat_eq c 63 ≡ t
      → not (begins_nullsafe (tile k c e ∷ us)) ≡ true → IsLongest V74
      (after V74 (stack_by (quoted mark label fresh) below depth) Variable (suc (length a))
      (b ∷ a ++ joined (tile k c e ∷ us))).top (c ∷ e ++ joined us) k (suc (length e))
      → SameProperty (c ∷ e ++ joined us)
  next_by k c e us false p q h = rw p (or_false (begins_arrow (c ∷ e ++ joined us)))
  next_by k c e us true p q h =
      let same : c ≡ 63 = eqb-true c 63 p in
      let there = subst (λ (x : ℕ). IsLongest V74
      (after V74 (stack_by (quoted mark label fresh) below depth) Variable (suc (length a))
      (b ∷ a ++ joined (tile k x e ∷ us))).top (x ∷ e ++ joined us) k (suc (length e))) same h in
      let quiet = subst (λ (x : ℕ). not (begins_nullsafe (tile k x e ∷ us)) ≡ true) same q in
      let longest = subst (λ (m : Mode). IsLongest V74 m (63 ∷ e ++ joined us) k (suc (length e))) (top_is (e ++ joined us)) there in
      let none = piece_next k e us quiet (piece_is mark label e (joined us) k longest) in
      subst SameProperty (sym (ap (λ (x : ℕ). x ∷ e ++ joined us) same)) (rw none (or_false (begins_arrow (63 ∷ e ++ joined us))))

  variable_next : (ts : List Tile) → not (begins_nullsafe ts) ≡ true
      → Steps V74 (after V74 (stack_by (quoted mark label fresh) below depth) Variable (suc (length a))
      (b ∷ a ++ joined ts)) ts → SameProperty (joined ts)
  variable_next [] q rest = refl
  variable_next (tile k c e ∷ us) q rest = next_by k c e us (nat_eq c 63) refl q (opened rest).0

same_next : (mode : Mode) (below : List Mode) (depth b : ℕ) (a : List ℕ) (kind : Kind) (ts : List Tile)
    → is_common kind b a ts ≡ true
    → Steps V74 (after V74 (stack_by mode below depth) kind (suc (length a)) (b ∷ a ++ joined ts)) ts
    → is_quoted mode ≡ true → is_variable kind ≡ true → SameProperty (joined ts)
same_next (quoted mark label fresh) below depth b a Variable ts q rest p r = variable_next mark label fresh below depth b a ts q rest
same_next (quoted mark label fresh) below depth b a _ ts q rest p r = absurd cc
same_next html below depth b a kind ts q rest p r = absurd cc
same_next code below depth b a kind ts q rest p r = absurd cc
same_next named below depth b a kind ts q rest p r = absurd cc
same_next offset below depth b a kind ts q rest p r = absurd cc
same_next property below depth b a kind ts q rest p r = absurd cc

-- ---- a tile that stays

module _ (mode : Mode) (below : List Mode) (depth b : ℕ) (a : List ℕ) (kind : Kind) (ts : List Tile)
    (common : is_common kind b a ts ≡ true) (rest : Steps V74
    (after V74 (stack_by mode below depth) kind (suc (length a)) (b ∷ a ++ joined ts)) ts) where
  behind : after V83 (stack_by mode below depth) kind (suc (length a)) (b ∷ a ++ joined ts) ≡ after V74 (stack_by mode below depth) kind (suc (length a)) (b ∷ a ++ joined ts)
  behind = same_after (stack_by mode below depth) kind (suc (length a)) (b ∷ a ++ joined ts)
      (λ p q. subst SameProperty (sym (drop-append_seam a (joined ts))) (same_next mode below depth b a kind ts common rest p q))

  pub stays : (ws : List Tile) → joined ws ≡ joined ts → IsLongest V83 mode (b ∷ a ++ joined ts) kind (suc (length a))
      → Steps V83 (after V74 (stack_by mode below depth) kind (suc (length a)) (b ∷ a ++ joined ts)) ws
      → Steps V83 (stack_by mode below depth) (tile kind b a ∷ ws)
  stays ws same h more =
      step kind b a ws (subst (λ (u : List ℕ). IsLongest V83 mode (b ∷ a ++ u) kind (suc (length a))) (sym same) h)
      (subst (λ (u : List ℕ). Steps V83 (after V83 (stack_by mode below depth) kind (suc (length a)) (b ∷ a ++ u)) ws) (sym same)
      (subst (λ (s : Stack). Steps V83 s ws) (sym behind) more))
