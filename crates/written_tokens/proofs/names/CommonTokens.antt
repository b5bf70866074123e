-- Each token of a row before those behind it, as 8.3 takes it.
use Rattle.std.proofs.Common.{◌≡◌, ℕ, suc, ◌+◌, Bool, true, false, cond, not, ◌&&◌, ◌||◌, nat_eq, List, [], ◌∷◌, ◌++◌, length, Option, Some, refl, sym, ap, ◌∙◌, subst, arith}
use Rattle.std.proofs.lemmas.Bool.{and_parts, eqb-true}
use Rattle.std.proofs.lemmas.Bool.Decides.{nat_tests}
use Rattle.php_tree.specs.declared.version.Version.TheVariants.{V74}
use Rattle.php_tree.specs.declared.token.TokenKind.{TokenKind}
use Rattle.php_tree.specs.declared.token.TokenKind.TheVariants as token
use Rattle.php_spellings.specs.declared.table.Kind.{Kind}
use Rattle.php_spellings.specs.declared.table.Kind.TheVariants.{Piece}
use Rattle.php_spellings.specs.declared.table.Mark.{Mark}
use Rattle.php_spellings.specs.declared.table.Mark.TheVariants.{Double, Back, Here}
use Rattle.php_spellings.specs.declared.table.State.{State}
use Rattle.php_spellings.specs.declared.table.State.TheVariants.{Plain}
use Rattle.php_spellings.specs.declared.table.Run.TheVariants.{Body}
use Rattle.php_spellings.specs.Bytes.{is_letter, begins, begins_by}
use Rattle.php_spellings.specs.Words.{token_of}
use Rattle.php_lexer.specs.Tails.{in_piece, moved}
use Rattle.php_lexer.specs.RulesQuoted.{from_line}
use Rattle.php_lexer.specs.Modes.{Mode, html, code, named, quoted, offset, property, begins_arrow, IsLongest}
use Rattle.php_lexer.specs.Lexed.{Lexeme}
use Rattle.php_relexing.specs.Tiles.{Tile, tile, joined}
use Rattle.php_relexing.specs.Spelled.{Steps, lexeme_with, spelled}
use Rattle.php_relexing.proofs.Picked.{longest_meets}
use Rattle.php_relexing.proofs.PieceRuns.{piece_len}
use Rattle.php_relexing.proofs.Pieces.{state_behind, piece_of}
use Rattle.written_tokens.specs.tokens.Levels.{stack_of}
use Rattle.written_tokens.specs.tokens.Names.{begins_nullsafe}
use Rattle.written_tokens.specs.tokens.Written.{begins_question}
use Rattle.written_tokens.proofs.tiles.Stepping.{longest_in}
use Rattle.written_tokens.specs.names.Neighbours.{is_variable_kind, is_safe, is_labelled, is_parted}
use Rattle.written_tokens.specs.names.Apart.{are_apart}

-- ---- a piece that begins with `?` holds the arrow behind it

abbrev ContinuesAs : ℕ → Type 0
ContinuesAs b = ((nat_eq b 34 || nat_eq b 96) ≡ false) × ((nat_eq b 36 ≡ false) × (nat_eq b 123 ≡ false))

plain_goes : (mark : Mark) (label : List ℕ) (b : ℕ) (bs : List ℕ) → ContinuesAs b → in_piece mark label Plain b bs ≡ true
plain_goes mark label b bs g = by_mark mark (nat_eq b 34) (nat_eq b 96) refl refl g.0
  where
    by_mark : (m : Mark) (x y : Bool) → nat_eq b 34 ≡ x → nat_eq b 96 ≡ y → (x || y) ≡ false → in_piece m label Plain b bs ≡ true
    by_mark m true y p q h = absurd cc
    by_mark m false true p q h = absurd cc
    by_mark Double false false p q h = rw (p, g.1.0, g.1.1) refl
    by_mark Back false false p q h = rw (q, g.1.0, g.1.1) refl
    by_mark Here false false p q h = rw (g.1.0, g.1.1) refl

stop_none : (t : Bool) (n : ℕ) → t ≡ true → cond t (1 + n) 0 ≡ 0 → ⊥
stop_none true n e h = omega arith
stop_none false n e h = cc

goes_none : (mark : Mark) (label : List ℕ) (b : ℕ) (bs : List ℕ) → ContinuesAs b → piece_len mark label Plain (b ∷ bs) ≡ 0 → ⊥
goes_none mark label b bs g e = stop_none (in_piece mark label Plain b bs) (piece_len mark label (moved (Body mark) Plain b) bs) (plain_goes mark label b bs g) e

letter_goes : (b : ℕ) → is_letter b ≡ true → ContinuesAs b
letter_goes b h = (grind (arith, nat_tests), (grind (arith, nat_tests), grind (arith, nat_tests)))

-- the state behind `?`, `-` and `>`
behind_plain : (mark : Mark) (fresh : Bool) → moved (Body mark) (from_line fresh) 63 ≡ Plain
behind_plain Double true = refl
behind_plain Double false = refl
behind_plain Back true = refl
behind_plain Back false = refl
behind_plain Here true = refl
behind_plain Here false = refl

minus_plain : (mark : Mark) → moved (Body mark) Plain 45 ≡ Plain
minus_plain Double = refl
minus_plain Back = refl
minus_plain Here = refl

more_plain : (mark : Mark) → moved (Body mark) Plain 62 ≡ Plain
more_plain Double = refl
more_plain Back = refl
more_plain Here = refl

mark_goes : ContinuesAs 45
mark_goes = (refl, (refl, refl))

more_goes : ContinuesAs 62
more_goes = (refl, (refl, refl))

-- an arrow behind: its first byte, its second, and the letter
arrow_first : (r : List ℕ) → begins_arrow r ≡ true → begins_by 45 r ≡ true
arrow_first [] h = absurd cc
arrow_first (b ∷ []) h = absurd cc
arrow_first (b ∷ c ∷ r) h = (and_parts (nat_eq b 45) (nat_eq c 62) (and_parts (nat_eq b 45 && nat_eq c 62) (begins is_letter r) h).0).0

arrow_second : (x : ℕ) (r : List ℕ) → begins_arrow (x ∷ r) ≡ true → (x ≡ 45) × (begins_by 62 r ≡ true)
arrow_second x [] h = absurd cc
arrow_second x (c ∷ r) h =
    let two = and_parts (nat_eq x 45) (nat_eq c 62) (and_parts (nat_eq x 45 && nat_eq c 62) (begins is_letter r) h).0 in
    (eqb-true x 45 two.0, two.1)

arrow_third : (x y : ℕ) (r : List ℕ) → begins_arrow (x ∷ y ∷ r) ≡ true → (x ≡ 45) × ((y ≡ 62) × (begins is_letter r ≡ true))
arrow_third x y r h =
    let (front, letter) = and_parts (nat_eq x 45 && nat_eq y 62) (begins is_letter r) h in
    let two = and_parts (nat_eq x 45) (nat_eq y 62) front in
    (eqb-true x 45 two.0, (eqb-true y 62 two.1, letter))

module _ (mark : Mark) (label : List ℕ) where
  stops_byte : (n : ℕ) (s : State) (r : List ℕ) → s ≡ Plain → ContinuesAs n → begins_by n r ≡ true → piece_len mark label s r ≡ 0 → ⊥
  stops_byte n s [] p g h e = cc
  stops_byte n s (b ∷ r) p g h e =
      let is : b ≡ n = eqb-true b n h in
      goes_none mark label b r (subst ContinuesAs (sym is) g) (subst (λ (t : State). piece_len mark label t (b ∷ r) ≡ 0) p e)

  stops_letter : (s : State) (r : List ℕ) → s ≡ Plain → begins is_letter r ≡ true → piece_len mark label s r ≡ 0 → ⊥
  stops_letter s [] p h e = cc
  stops_letter s (b ∷ r) p h e = goes_none mark label b r (letter_goes b h) (subst (λ (t : State). piece_len mark label t (b ∷ r) ≡ 0) p e)

  arrow_in : (fresh : Bool) (e r : List ℕ) → piece_len mark label (state_behind mark (from_line fresh) (63 ∷ e)) r ≡ 0 → begins_arrow (e ++ r) ≡ true → begins_arrow e ≡ true
  arrow_in fresh [] r stop h = absurd (stops_byte 45 (moved (Body mark) (from_line fresh) 63) r (behind_plain mark fresh) mark_goes (arrow_first r h) stop)
  arrow_in fresh (x ∷ []) r stop h =
      let two = arrow_second x r h in
      let state : moved (Body mark) (moved (Body mark) (from_line fresh) 63) x ≡ Plain =
      ap (λ (s : State). moved (Body mark) s x) (behind_plain mark fresh) ∙ ap (moved (Body mark) Plain) two.0
      ∙ minus_plain mark in
      absurd (stops_byte 62 (moved (Body mark) (moved (Body mark) (from_line fresh) 63) x) r state more_goes two.1 stop)
  arrow_in fresh (x ∷ y ∷ []) r stop h =
      let three = arrow_third x y r h in
      let one : moved (Body mark) (moved (Body mark) (from_line fresh) 63) x ≡ Plain =
      ap (λ (s : State). moved (Body mark) s x) (behind_plain mark fresh) ∙ ap (moved (Body mark) Plain) three.0
      ∙ minus_plain mark in
      let state : moved (Body mark) (moved (Body mark) (moved (Body mark) (from_line fresh) 63) x) y ≡ Plain =
      ap (λ (s : State). moved (Body mark) s y) one ∙ ap (moved (Body mark) Plain) three.1.0 ∙ more_plain mark in
      absurd (stops_letter (moved (Body mark) (moved (Body mark) (moved (Body mark) (from_line fresh) 63) x) y) r state three.1.1 stop)
  arrow_in fresh (x ∷ y ∷ z ∷ e) r stop h = h

abbrev is_piece_kind : Kind → Bool
is_piece_kind Piece = true
is_piece_kind _ = false

arrow_alone : (m : Mode) (e r : List ℕ) → IsLongest V74 m (63 ∷ e ++ r) Piece (suc (length e)) → begins_arrow (e ++ r) ≡ true → begins_arrow e ≡ true
arrow_alone html e r l h = absurd (let clash = longest_meets is_piece_kind V74 html (63 ∷ e) r Piece refl l in cc)
arrow_alone code e r l h = absurd (let clash = longest_meets is_piece_kind V74 code (63 ∷ e) r Piece refl l in cc)
arrow_alone named e r l h = absurd (let clash = longest_meets is_piece_kind V74 named (63 ∷ e) r Piece refl l in cc)
arrow_alone (quoted mark label fresh) e r l h = arrow_in mark label fresh e r (piece_of V74 mark label fresh (63 ∷ e) r l).stops h
arrow_alone offset e r l h = absurd (let clash = longest_meets is_piece_kind V74 offset (63 ∷ e) r Piece refl l in cc)
arrow_alone property e r l h = absurd (let clash = longest_meets is_piece_kind V74 property (63 ∷ e) r Piece refl l in cc)

-- ---- neighbours

pub apart_tail : (t : Lexeme) (ts : List Lexeme) → are_apart (t ∷ ts) ≡ true → are_apart ts ≡ true
apart_tail t [] h = refl
apart_tail t (u ∷ us) h = (and_parts (is_safe t u && is_labelled t u && is_parted t u) (are_apart (u ∷ us)) h).1

pub record Near (t u : Lexeme) : Type 0 where
  pub safe : is_safe t u ≡ true
  pub labelled : is_labelled t u ≡ true
  pub parted : is_parted t u ≡ true

near_of : (t u : Lexeme) (us : List Lexeme) → are_apart (t ∷ u ∷ us) ≡ true → Near t u
near_of t u us h =
    let (all, more) = and_parts (is_safe t u && is_labelled t u && is_parted t u) (are_apart (u ∷ us)) h in
    let (two, three) = and_parts (is_safe t u && is_labelled t u) (is_parted t u) all in
    let (one, second) = and_parts (is_safe t u) (is_labelled t u) two in
    record { safe = one; labelled = second; parted = three }

abbrev pub lexeme_of : TokenKind → List ℕ → List ℕ → Lexeme
lexeme_of kind lead text = record { kind = kind; lead = lead; text = text }

pub near_token : (t : Lexeme) (k : Kind) (c : ℕ) (e : List ℕ) (ts : List Tile) (j : TokenKind)
    → token_of k (c ∷ e) ≡ Some j → are_apart (t ∷ spelled [] (tile k c e ∷ ts)) ≡ true
    → Near t (lexeme_of j [] (c ∷ e))
near_token t k c e ts j is h =
    near_of t (lexeme_of j [] (c ∷ e)) (spelled [] ts)
    (subst (λ (o : Option TokenKind). are_apart (t ∷ lexeme_with o [] (c ∷ e) (λ l. spelled l ts)) ≡ true) is h)

-- ---- variables

not_three : (v p q : Bool) → v ≡ true → p ≡ true → not (v && p && q) ≡ true → q ≡ false
not_three true true true e f h = absurd cc
not_three true true false e f h = refl
not_three true false q e f h = absurd cc
not_three false p q e f h = absurd cc

safe_by : (m : Mode) (c : ℕ) (e r : List ℕ) → IsLongest V74 m (c ∷ e ++ r) Piece (suc (length e))
    → begins_question (c ∷ e) ≡ false → (x y : Bool) → nat_eq c 63 ≡ x → begins_arrow (e ++ r) ≡ y → (x && y) ≡ false
safe_by m c e r l h false y p q = refl
safe_by m c e r l h true false p q = refl
safe_by m c e r l h true true p q =
    let is : c ≡ 63 = eqb-true c 63 p in
    let there : IsLongest V74 m (63 ∷ e ++ r) Piece (suc (length e)) = subst (λ (x : ℕ). IsLongest V74 m (x ∷ e ++ r) Piece (suc (length e))) is l in
    let arrow = arrow_alone m e r there q in
    absurd (let clash : begins_question (63 ∷ e) ≡ false = subst (λ (x : ℕ). begins_question (x ∷ e) ≡ false) is h in let other : true ≡ false = sym arrow ∙ clash in cc)

pub safe_variable : (t : Lexeme) (ts : List Tile) (m : Mode) (below : List Mode) (depth : ℕ)
    → is_variable_kind t.kind ≡ true → Steps V74 (stack_of m below depth) ts → are_apart (t ∷ spelled [] ts) ≡ true
    → begins_nullsafe ts ≡ false
safe_variable t [] m below depth v s h = refl
safe_variable t (tile Piece c e ∷ ts) m below depth v s h =
    let near = near_token t Piece c e ts token.Piece refl h in
    let none_question = not_three (is_variable_kind t.kind) true (begins_question (c ∷ e)) v refl near.safe in
    safe_by m c e (joined ts) (longest_in (stack_of m below depth) Piece c e ts s) none_question (nat_eq c 63) (begins_arrow (e ++ joined ts)) refl refl
safe_variable t (tile _ c e ∷ ts) m below depth v s h = refl
