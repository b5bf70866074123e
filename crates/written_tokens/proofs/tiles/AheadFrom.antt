-- `from` among the tiles of code that come first, and the end of a line.
use Rattle.std.proofs.Common.{◌≡◌, ℕ, suc, Bool, true, false, cond, not, ◌&&◌, ◌||◌, nat_eq, List, [], ◌∷◌, ◌++◌, length, codes, inl, inr, refl, sym, ◌∙◌, subst}
use Rattle.std.proofs.lemmas.Bool.{and_parts, eqb-true, or_left}
use Rattle.php_tree.specs.declared.version.Version.TheVariants.{V74}
use Rattle.php_spellings.specs.declared.table.Kind.{Kind}
use Rattle.php_spellings.specs.declared.table.Kind.TheVariants.{Space, Word, Keyword, Piece}
use Rattle.php_spellings.specs.Bytes.{is_line_end, is_space, lower, begins, begins_by}
use Rattle.php_lexer.specs.Tails.{word_alone}
use Rattle.php_lexer.specs.Modes.{code, IsLongest}
use Rattle.php_relexing.specs.Tiles.{Tile, tile, joined}
use Rattle.php_relexing.specs.Comments.{stops_line}
use Rattle.php_relexing.specs.Words.{comes_from, begins_from, begins_cast}
use Rattle.php_relexing.proofs.Operators.{or_case}
use Rattle.php_relexing.proofs.Picked.{longest_meets}
use Rattle.php_relexing.proofs.Spaces.{all_space}
use Rattle.written_tokens.specs.tiles.ContinuesAs.{stops_cast, begins_token, is_mark, is_put, ContinuesAs, ended, same, put, hash, brace, escaped}
use Rattle.written_tokens.specs.tiles.Going.{CodeContinues}
use Rattle.written_tokens.proofs.tiles.Ahead.{Coded, coded, not_space, cast_is, casts_go}
use Rattle.written_tokens.proofs.tiles.Behind.{space_all, word_behind, keyword_first, question_behind}
use Rattle.written_tokens.proofs.tiles.Going.{first_stays}
use Rattle.written_tokens.proofs.tiles.Standing.{is_space_kind, is_word_kind, is_token_kind, Stand, space, word, keyword, other, stand, mark_kind, begins_is}
use Rattle.written_tokens.proofs.tiles.Letters.{alone_same, no_from_stops}

-- ---- `from`

-- white space, and the word `from`
abbrev pub comes_ahead : List Tile → Bool
comes_ahead [] = false
comes_ahead (tile kind b a ∷ ts) = cond (is_space_kind kind) (comes_ahead ts) (is_word_kind kind && word_alone (codes "from") (b ∷ a))

spaces_come : (t x : List ℕ) → all_space t ≡ true → comes_from (t ++ x) ≡ comes_from x
spaces_come [] x h = refl
spaces_come (b ∷ t) x h =
    let (here, more) = and_parts (is_space b) (all_space t) h in
    rw here (spaces_come t x more)

plain_comes : (b : ℕ) (bs : List ℕ) → is_space b ≡ false → comes_from (b ∷ bs) ≡ word_alone (codes "from") (b ∷ bs)
plain_comes b bs e = rw e refl

no_from_y : (b : ℕ) (bs : List ℕ) → lower b ≡ 121 → word_alone (codes "from") (b ∷ bs) ≡ false
no_from_y b bs e = rw e refl

comes_by : (kind : Kind) (b : ℕ) (a : List ℕ) (ts : List Tile) → Stand kind
    → IsLongest V74 code (b ∷ a ++ joined ts) kind (suc (length a))
    → (stops_cast kind ≡ false → comes_from (joined ts) ≡ comes_ahead ts)
    → comes_from (b ∷ a ++ joined ts) ≡ comes_ahead (tile kind b a ∷ ts)
comes_by Space b a ts space l ih = spaces_come (b ∷ a) (joined ts) (space_all b a (joined ts) l) ∙ ih refl
comes_by Word b a ts word l ih =
    plain_comes b (a ++ joined ts) (not_space b a (joined ts) Word refl l)
    ∙ alone_same (codes "from") (b ∷ a) (joined ts) refl (word_behind b a (joined ts) l)
comes_by Keyword b a ts keyword l ih =
    plain_comes b (a ++ joined ts) (not_space b a (joined ts) Keyword refl l)
    ∙ no_from_y b (a ++ joined ts) (keyword_first b a (joined ts) l)
comes_by kind b a ts (other p q r) l ih =
    plain_comes b (a ++ joined ts) (not_space b a (joined ts) kind q l)
    ∙ no_from_stops b (a ++ joined ts) kind (suc (length a)) p l
    ∙ sym (rw (q, r) refl)

pub comes_is : (ts : List Tile) → Coded ts → comes_from (joined ts) ≡ comes_ahead ts
comes_is [] h = refl
comes_is (tile kind b a ∷ ts) h = comes_by kind b a ts (stand kind) h.0 (λ e. comes_is ts (h.1 e))

mark_comes : (kind : Kind) (c : ℕ) (e : List ℕ) (us : List Tile) → is_mark kind ≡ true → comes_ahead (tile kind c e ∷ us) ≡ false
mark_comes kind c e us m = mark_kind (λ (k : Kind). comes_ahead (tile k c e ∷ us) ≡ false) refl refl kind m

comes_same : (kind : Kind) (b : ℕ) (a : List ℕ) (ts us : List Tile) → Stand kind
    → (comes_ahead ts ≡ false → comes_ahead us ≡ false) → comes_ahead (tile kind b a ∷ ts) ≡ false
    → comes_ahead (tile kind b a ∷ us) ≡ false
comes_same Space b a ts us space ih h = ih h
comes_same Word b a ts us word ih h = h
comes_same Keyword b a ts us keyword ih h = refl
comes_same kind b a ts us (other p q r) ih h = rw (q, r) refl

comes_go : {tight gap : Bool} {ts us : List Tile} → ContinuesAs tight gap ts us → comes_ahead ts ≡ false → comes_ahead us ≡ false
comes_go ended h = refl
comes_go (same {ts = ts} {us = us} kind b a g) h = comes_same kind b a ts us (stand kind) (comes_go g) h
comes_go (put {tight = tight} {us = us} kind c e p q) h = mark_comes kind c e us (and_parts (is_mark kind) (is_put tight c) p).0
comes_go (hash a e) h = refl
comes_go (brace kind e) h = refl
comes_go (escaped b c a e d l) h = refl

begins_by_space : (b : ℕ) (bs : List ℕ) (t : Bool) → is_space b ≡ t → (t && comes_from bs) ≡ (t && comes_from (b ∷ bs))
begins_by_space b bs true e = rw e refl
begins_by_space b bs false e = refl

from_split : (bs : List ℕ) → begins_from bs ≡ (begins is_space bs && comes_from bs)
from_split [] = refl
from_split (b ∷ bs) = begins_by_space b bs (is_space b) refl

no_and : (x y z w : Bool) → (x ≡ false → z ≡ false) → (y ≡ false → w ≡ false) → (x && y) ≡ false → (z && w) ≡ false
no_and false y z w f g h = rw (f refl) refl
no_and true y true w f g h = g h
no_and true y false w f g h = refl

pub from_goes : {tight gap : Bool} {ts us : List Tile} → Coded ts → Coded us → ContinuesAs tight gap ts us → begins_from (joined ts) ≡ false → begins_from (joined us) ≡ false
from_goes {ts = ts} {us = us} old new g h =
    from_split (joined us)
    ∙ no_and (begins is_space (joined ts)) (comes_from (joined ts)) (begins is_space (joined us)) (comes_from (joined us))
    (first_stays is_space refl g)
    (λ e. comes_is us new ∙ comes_go g (sym (comes_is ts old) ∙ e))
    (sym (from_split (joined ts)) ∙ h)

-- ---- casts

pub cast_goes : {gap : Bool} {ts us : List Tile} → Coded ts → Coded us → ContinuesAs true gap ts us → begins_cast (joined ts) ≡ false → begins_cast (joined us) ≡ false
cast_goes {ts = ts} {us = us} old new g h = cast_is us new ∙ casts_go g refl (sym (cast_is ts old) ∙ h)

-- ---- the end of a line

abbrev is_piece : Kind → Bool
is_piece Piece = true
is_piece _ = false

line_same : (kind : Kind) (b : ℕ) (a r s : List ℕ) → IsLongest V74 code (b ∷ a ++ r) kind (suc (length a)) → stops_line (b ∷ a ++ r) ≡ true → stops_line (b ∷ a ++ s) ≡ true
line_same kind b (c ∷ a) r s l h = h
line_same kind b [] r s l h =
    elim (or_case (is_line_end b) (nat_eq b 63 && begins_by 62 r) h) [
      | inl end ↦ or_left (is_line_end b) (nat_eq b 63 && begins_by 62 s) end
      | inr close ↦
          let (first, second) = and_parts (nat_eq b 63) (begins_by 62 r) close in
          let none = question_behind kind r (subst (λ (x : ℕ). IsLongest V74 code (x ∷ r) kind 1) (eqb-true b 63 first) l) in
          absurd (let clash : true ≡ false = sym second ∙ none in cc)
    ]

end_byte : (P : ℕ → Type 0) → P 10 → P 13 → (b : ℕ) → is_line_end b ≡ true → P b
end_byte P p q b h =
    elim (or_case (nat_eq b 10) (nat_eq b 13) h) [
      | inl e ↦ subst P (sym (eqb-true b 10 e)) p
      | inr e ↦ subst P (sym (eqb-true b 13 e)) q
    ]

close_token : (kind : Kind) (a r : List ℕ) → is_token_kind kind ≡ true → begins_by 62 (a ++ r) ≡ true → IsLongest V74 code (63 ∷ a ++ r) kind (suc (length a)) → ⊥
close_token kind [] r t e l = let clash : true ≡ false = sym e ∙ question_behind kind r l in cc
close_token kind (c ∷ a) r t e l =
    let there = subst (λ (x : ℕ). IsLongest V74 code (63 ∷ x ∷ a ++ r) kind (suc (suc (length a)))) (eqb-true c 62 e) l in
    let none = longest_meets is_token_kind V74 code (63 ∷ 62 ∷ a) r kind t there in cc

-- no token but `?>` stands at the end of a line
no_token : (kind : Kind) (b : ℕ) (a r : List ℕ) → is_token_kind kind ≡ true → IsLongest V74 code (b ∷ a ++ r) kind (suc (length a)) → stops_line (b ∷ a ++ r) ≡ true → ⊥
no_token kind b a r t l h =
    elim (or_case (is_line_end b) (nat_eq b 63 && begins_by 62 (a ++ r)) h) [
      | inl end ↦
          end_byte (λ (x : ℕ). IsLongest V74 code (x ∷ a ++ r) kind (suc (length a)) → ⊥)
          (λ k. let none = longest_meets is_token_kind V74 code (10 ∷ a) r kind t k in cc)
          (λ k. let none = longest_meets is_token_kind V74 code (13 ∷ a) r kind t k in cc)
          b end l
      | inr close ↦
          let (first, second) = and_parts (nat_eq b 63) (begins_by 62 (a ++ r)) close in
          close_token kind a r t second (subst (λ (x : ℕ). IsLongest V74 code (x ∷ a ++ r) kind (suc (length a))) (eqb-true b 63 first) l)
    ]

put_line : (ts : List Tile) → Coded ts → (x : Bool) → begins_token ts ≡ true → stops_line (joined ts) ≡ true → x ≡ true
put_line [] old x t h = absurd cc
put_line (tile kind b a ∷ ts) old x t h =
    absurd (no_token kind b a (joined ts) (sym (begins_is kind b a ts) ∙ t) old.0 h)

token_first : (gap t : Bool) → gap ≡ true → (not gap || t) ≡ true → t ≡ true
token_first true t e h = h
token_first false t e h = absurd cc

no_piece : (b : ℕ) (a r : List ℕ) → IsLongest V74 code (b ∷ a ++ r) Piece (suc (length a)) → ⊥
no_piece b a r l = let none = longest_meets is_piece V74 code (b ∷ a) r Piece refl l in cc

line_goes : {tight gap : Bool} {ts us : List Tile} → ContinuesAs tight gap ts us → gap ≡ true → Coded ts → stops_line (joined ts) ≡ true → stops_line (joined us) ≡ true
line_goes ended e old h = refl
line_goes (same {ts = ts} {us = us} kind b a g) e old h = line_same kind b a (joined ts) (joined us) old.0 h
line_goes (put {gap = gap} {ts = ts} {us = us} kind c e p q) f old h = put_line ts old (stops_line (c ∷ e ++ joined us)) (token_first gap (begins_token ts) f q) h
line_goes (hash a e) f old h = absurd cc
line_goes (brace kind e) f old h = absurd cc
line_goes (escaped {ts = ts} b c a e d l) f old h = absurd (no_piece b a (joined ts) old.0)

pub line_ends_so : {tight : Bool} {ts us : List Tile} → Coded ts → ContinuesAs tight true ts us → stops_line (joined ts) ≡ true → stops_line (joined us) ≡ true
line_ends_so old g h = line_goes g refl old h

-- ---- code

pub code_continues : CodeContinues
code_continues below over depth deep ts us s w =
    let old = coded below depth ts s in
    let new = coded over deep us w in
    record {
      from = λ tight gap g h. from_goes old new g h;
      cast = λ gap g h. cast_goes old new g h;
      line = λ tight g h. line_ends_so old g h;
    }
