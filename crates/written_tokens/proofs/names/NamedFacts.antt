-- What the bytes of a row whose names are edited leave as it is.
use Rattle.std.proofs.Common.{◌≡◌, ℕ, Bool, true, false, not, ◌&&◌, ◌||◌, nat_eq, List, [], ◌∷◌, ◌++◌, refl, sym, ◌∙◌, subst, arith}
use Rattle.std.proofs.lemmas.Bool.{and_parts}
use Rattle.std.proofs.lemmas.Bool.Decides.{nat_tests}
use Rattle.php_spellings.specs.declared.table.Kind.{Kind}
use Rattle.php_spellings.specs.declared.table.Kind.TheVariants.{Space, Comment, Op}
use Rattle.php_spellings.specs.Bytes.{is_space, is_line_end, begins, begins_by}
use Rattle.php_relexing.specs.Tiles.{Tile, tile, joined}
use Rattle.php_relexing.specs.Comments.{stops_line}
use Rattle.php_relexing.specs.Alike.{Alike}
use Rattle.php_relexing.specs.Alike as alike
use Rattle.php_relexing.proofs.AlikeJoins.{alike_joins}
use Rattle.written_tokens.specs.tiles.Going.{puts_none}
use Rattle.written_tokens.proofs.tiles.CodeKept.{GoesOn}
use Rattle.written_tokens.proofs.tiles.Onward.{Onward}
use Rattle.written_tokens.proofs.tiles.Onward as onward
use Rattle.written_tokens.specs.names.Named.{all_space, is_blank, all_blank, Named, none, same, spaced, closed, rooted}
use Rattle.written_tokens.proofs.names.Shared.{cuts, Share, ended, both, cut, byte_same}
use Rattle.written_tokens.proofs.names.Ahead.{cast_same, from_same}
use Rattle.written_tokens.proofs.names.QuotedRows.{share_behind, SameFront, nothing, first}

-- ---- trivia before `\`

cuts_spaces : (x r : List ℕ) → all_space x ≡ true → cuts r ≡ true → cuts (x ++ r) ≡ true
cuts_spaces [] r h k = k
cuts_spaces (b ∷ x) r h k =
    let (here, more) = and_parts (is_space b) (all_space x) h in
    rw here (cuts_spaces x r more k)

cuts_comment : (b : ℕ) (bs : List ℕ) → (nat_eq b 35 || nat_eq b 47) ≡ true → cuts (b ∷ bs) ≡ true
cuts_comment b bs h = rw (plain b h, h) (or_true (nat_eq b 92))
  where
    plain : (c : ℕ) → (nat_eq c 35 || nat_eq c 47) ≡ true → is_space c ≡ false
    plain c k = grind (arith, nat_tests)

    or_true : (t : Bool) → (t || true) ≡ true
    or_true true = refl
    or_true false = refl

pub blank_cuts : (trivia ts : List Tile) → all_blank trivia ≡ true → cuts (joined (trivia ++ tile Op 92 [] ∷ ts)) ≡ true
blank_cuts [] ts h = refl
blank_cuts (tile Space b a ∷ trivia) ts h =
    let (here, more) = and_parts (is_blank Space b a) (all_blank trivia) h in
    cuts_spaces (b ∷ a) (joined (trivia ++ tile Op 92 [] ∷ ts)) here (blank_cuts trivia ts more)
blank_cuts (tile Comment b a ∷ trivia) ts h =
    let (here, more) = and_parts (is_blank Comment b a) (all_blank trivia) h in
    cuts_comment b (a ++ joined (trivia ++ tile Op 92 [] ∷ ts)) here
blank_cuts (tile _ b a ∷ trivia) ts h = absurd cc

-- ---- the bytes

pub share_of : {gap : Bool} {ts us : List Tile} → Named gap ts us → Share (joined ts) (joined us)
share_of none = ended
share_of (same {ts = ts} {us = us} kind b a h) = both b (share_behind a (joined ts) (joined us) (share_of h))
share_of (spaced h) = cut refl refl
share_of (closed {ts = ts} {us = us} trivia f h) = cut (blank_cuts trivia ts f) refl
share_of (rooted trivia b a f h) = cut refl refl

pub alike_of : {gap : Bool} {ts us : List Tile} → Named gap ts us → Alike (joined ts) (joined us)
alike_of none = alike.ended
alike_of (same {ts = ts} {us = us} kind b a h) = alike.same b (alike_joins.front a (joined ts) (joined us) (alike_of h))
alike_of (spaced h) = alike.broken 32 refl
alike_of (closed trivia f h) = alike.broken 92 refl
alike_of (rooted trivia b a f h) = alike.broken 92 refl

onward_front : (u r s : List ℕ) → Onward r s → Onward (u ++ r) (u ++ s)
onward_front [] r s h = h
onward_front (b ∷ u) r s h = onward.same b (onward_front u r s h)

pub onward_of : {gap : Bool} {ts us : List Tile} → Named gap ts us → Onward (joined ts) (joined us)
onward_of none = onward.ended
onward_of (same {ts = ts} {us = us} kind b a h) = onward.same b (onward_front a (joined ts) (joined us) (onward_of h))
onward_of (spaced h) = onward.spaced
onward_of (closed trivia f h) = onward.barred 92 refl
onward_of (rooted trivia b a f h) = onward.barred 92 refl

-- ---- the first byte

root_none : (x1 x2 x3 x4 x5 x6 x7 x8 : Bool) → not (x1 || x2 || x3 || x4 || x5 || x6 || x7 || x8) ≡ true → x5 ≡ false
root_none x1 x2 x3 x4 false x6 x7 x8 h = refl
root_none true x2 x3 x4 true x6 x7 x8 h = absurd cc
root_none false true x3 x4 true x6 x7 x8 h = absurd cc
root_none false false true x4 true x6 x7 x8 h = absurd cc
root_none false false false true true x6 x7 x8 h = absurd cc
root_none false false false false true x6 x7 x8 h = absurd cc

first_of : (p : ℕ → Bool) {gap : Bool} {ts us : List Tile} → Named gap ts us → puts_none p ≡ true → p 32 ≡ false → begins p (joined ts) ≡ false → begins p (joined us) ≡ false
first_of p none out blank k = refl
first_of p (same kind b a h) out blank k = k
first_of p (spaced h) out blank k = blank
first_of p (closed trivia f h) out blank k = root_none (p 35) (p 40) (p 41) (p 91) (p 92) (p 93) (p 123) (p 125) out
first_of p (rooted trivia b a f h) out blank k = root_none (p 35) (p 40) (p 41) (p 91) (p 92) (p 93) (p 123) (p 125) out

spaces_of : {gap : Bool} {ts us : List Tile} → Named gap ts us → gap ≡ true → begins is_space (joined ts) ≡ false → begins is_space (joined us) ≡ false
spaces_of none e k = refl
spaces_of (same kind b a h) e k = k
spaces_of (spaced h) e k = absurd cc
spaces_of (closed trivia f h) e k = absurd cc
spaces_of (rooted trivia b a f h) e k = refl

line_of : {gap : Bool} {ts us : List Tile} → Named gap ts us → gap ≡ true → stops_line (joined ts) ≡ true → stops_line (joined us) ≡ true
line_of none e k = refl
line_of (same {ts = ts} {us = us} kind b a h) e k =
    let next : begins_by 62 (a ++ joined ts) ≡ begins_by 62 (a ++ joined us) = byte_same 62 refl (share_behind a (joined ts) (joined us) (share_of h)) in
    subst (λ (x : Bool). (is_line_end b || nat_eq b 63 && x) ≡ true) next k
line_of (spaced h) e k = absurd cc
line_of (closed trivia f h) e k = absurd cc
line_of (rooted trivia b a f h) e k = absurd cc

pub goes_on : {gap : Bool} {ts us : List Tile} → Named gap ts us → GoesOn true gap (joined ts) (joined us)
goes_on {gap} {ts} {us} h = record {
  alike = alike_of h;
  on = onward_of h;
  first = λ p out blank k. first_of p h out blank k;
  spaces = spaces_of h;
  line = line_of h;
  from = λ k. sym (from_same (share_of h)) ∙ k;
  cast = λ t k. sym (cast_same (share_of h)) ∙ k;
}

-- ---- where the first tile is no edit

-- whether an edit may begin at a tile
abbrev pub may_edit : Kind → ℕ → Bool
may_edit Space b = true
may_edit Comment b = true
may_edit Op b = nat_eq b 92
may_edit _ b = false

abbrev pub edit_first : List Tile → Bool
edit_first [] = false
edit_first (tile kind b a ∷ ts) = may_edit kind b

blank_may : (kind : Kind) (b : ℕ) (a : List ℕ) → is_blank kind b a ≡ true → may_edit kind b ≡ true
blank_may Space b a h = refl
blank_may Comment b a h = refl
blank_may _ b a h = absurd cc

closed_may : (trivia ts : List Tile) → all_blank trivia ≡ true → edit_first (trivia ++ tile Op 92 [] ∷ ts) ≡ true
closed_may [] ts h = refl
closed_may (tile kind b a ∷ trivia) ts h = blank_may kind b a (and_parts (is_blank kind b a) (all_blank trivia) h).0

pub closed_edit : (trivia ts : List Tile) → all_blank trivia ≡ true → edit_first (trivia ++ tile Op 92 [] ∷ ts) ≡ false → ⊥
closed_edit trivia ts f e = let clash : true ≡ false = sym (closed_may trivia ts f) ∙ e in cc

pub front_of : {gap : Bool} {ts us : List Tile} → Named gap ts us → edit_first ts ≡ false → SameFront (joined ts) (joined us)
front_of none e = nothing
front_of (same {ts = ts} {us = us} kind b a h) e = first b (share_behind a (joined ts) (joined us) (share_of h))
front_of (spaced h) e = absurd cc
front_of (closed {ts = ts} trivia f h) e = absurd (let clash : true ≡ false = sym (closed_may trivia ts f) ∙ e in cc)
front_of (rooted trivia b a f h) e = absurd cc
