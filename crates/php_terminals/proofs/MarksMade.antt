-- Tokens as places in the bytes that they are, joined.
use Rattle.std.proofs.Common.{
  ◌≡◌,
  ℕ,
  zero,
  suc,
  ◌+◌,
  ◌-◌,
  ◌<◌,
  ◌≤◌,
  List,
  [],
  ◌∷◌,
  ◌++◌,
  length,
  take,
  drop,
  map,
  All,
  get_or,
  slice_range,
  refl,
  sym,
  ap,
  ◌∙◌,
  append_assoc,
  arith,
}
use Rattle.std.proofs.lemmas.List.{length-append, drop_more, drop_all, append-nil, map-append}
use Rattle.std.proofs.lemmas.List.Elements.{All-append}
use Rattle.std.proofs.Math.Seq.{take-append_seam}
use Rattle.php_tree.specs.declared.token.Token.{Token}
use Rattle.php_tree.specs.Tree.{token_bytes, tokens_bytes}
use Rattle.php_tree.specs.Places.{ArePlaced, behind}
use Rattle.php_tree.specs.Places as places
use Rattle.php_terminals.specs.declared.mark.Mark.{Mark}
use Rattle.php_terminals.specs.Marked.{IsMark, all_placeless, in_place, placeless, token_at}

drop_front : (us vs : List ℕ) → drop (length us) (us ++ vs) ≡ vs
drop_front [] vs = refl
drop_front (x ∷ us) vs = drop_front us vs

all_one : (bytes : List ℕ) (m : Mark) → IsMark bytes m → All (IsMark bytes) (m ∷ [])
all_one bytes m i = go
  where
    go : (k : ℕ) (d : Mark) → k < 1 → IsMark bytes (get_or (m ∷ []) k d)
    go zero d lt = i
    go (suc k) d lt = absurd (omega arith)

-- the next token
pub next_is : (ts : List Token) (i : ℕ) (t : Token) → i < length ts → t ≡ get_or ts i t → drop i ts ≡ t ∷ drop (i + 1) ts
next_is ts i t lt e = drop_more ts i t lt ∙ ap (λ (u : Token). u ∷ drop (i + 1) ts) (sym e)

-- a part of joined bytes
part_is : (us vs ws : List ℕ) (from to : ℕ) → from ≡ length us → to ≡ from + length vs → slice_range (us ++ (vs ++ ws)) from to ≡ vs
part_is us vs ws from to e f =
    let n : to - from ≡ length vs = omega arith in
    rw (n, e, drop_front us (vs ++ ws)) (take-append_seam vs ws)

-- tokens in their places stay there
pub placed_is : (at : ℕ) (ts : List Token) → ArePlaced at ts → in_place at ts ≡ ts
placed_is at [] p = refl
placed_is at (t ∷ ts) p =
    ap (λ (n : ℕ). record t { start = n } ∷ in_place (behind at t) ts) (sym p.0) ∙ ap (λ (us : List Token). t ∷ us) (placed_is (behind at t) ts p.1)

-- the first marks were made, and the tokens behind them are left
pub record Marking (bytes : List ℕ) (all left : List Token) (at : ℕ) (marks : List Mark) : Type 0 where
  pub before : List ℕ
  pub joined : bytes ≡ before ++ tokens_bytes left
  pub far : at ≡ length before
  pub are : All (IsMark bytes) marks
  pub same : in_place 0 all ≡ map (token_at bytes) marks ++ in_place at left

pub marking_first : (bytes : List ℕ) (all : List Token) → bytes ≡ tokens_bytes all → Marking bytes all all 0 []
marking_first bytes all e = record { before = []; joined = e; far = refl; are = λ k d lt. absurd (omega arith); same = refl }

pub marking_room : (bytes : List ℕ) (all left : List Token) (t : Token) (ts : List Token) (at : ℕ) (marks : List Mark)
    → left ≡ t ∷ ts → Marking bytes all left at marks → at + length t.lead + length t.text ≤ length bytes
marking_room bytes all left t ts at marks e m =
    let f = m.far in
    let l = ap length m.joined in
    let l1 = length-append m.before (tokens_bytes left) in
    let l2 : length (tokens_bytes left) ≡ length (token_bytes t ++ tokens_bytes ts) = ap (λ (us : List Token). length (tokens_bytes us)) e in
    let l3 = length-append (token_bytes t) (tokens_bytes ts) in
    let l4 = length-append t.lead t.text in
    omega arith

token_is : (bytes before : List ℕ) (t : Token) (ts : List Token) (m : Mark) (at : ℕ) → bytes ≡ before
    ++ (token_bytes t ++ tokens_bytes ts) → at ≡ length before → m.kind ≡ t.kind → m.lead ≡ at
    → m.start ≡ at + length t.lead → m.end ≡ at + length t.lead + length t.text
    → token_at bytes m ≡ places.token_at at t
token_is bytes before t ts m at e f k l s n =
    let lead : slice_range bytes m.lead m.start ≡ t.lead =
    rw (e, append_assoc t.lead t.text (tokens_bytes ts)) (part_is before t.lead (t.text ++ tokens_bytes ts) m.lead m.start (l ∙ f) (omega arith)) in
    let text : slice_range bytes m.start m.end ≡ t.text =
    rw (e, append_assoc t.lead t.text (tokens_bytes ts), sym (append_assoc before t.lead (t.text ++ tokens_bytes ts)))
    (part_is (before ++ t.lead) t.text (tokens_bytes ts) m.start m.end (omega (arith, length-append before t.lead)) (omega arith)) in
    rw (k, lead, text, s) refl

pub marking_more : (bytes : List ℕ) (all left : List Token) (t : Token) (ts : List Token) (at : ℕ)
    (marks news : List Mark) (m : Mark) → left ≡ t ∷ ts → IsMark bytes m → m.kind ≡ t.kind → m.lead ≡ at
    → m.start ≡ at + length t.lead → m.end ≡ at + length t.lead + length t.text → news ≡ marks ++ m ∷ []
    → Marking bytes all left at marks → Marking bytes all ts (at + length t.lead + length t.text) news
marking_more bytes all left t ts at marks news m e i k l s n p w =
    let f = w.far in
    let whole : bytes ≡ w.before ++ (token_bytes t ++ tokens_bytes ts) = w.joined ∙ ap (λ (us : List Token). w.before ++ tokens_bytes us) e in
    let is = token_is bytes w.before t ts m at whole w.far k l s n in
    let l1 = length-append w.before (token_bytes t) in
    let l2 = length-append t.lead t.text in
    record {
      before = w.before ++ token_bytes t;
      joined = whole ∙ sym (append_assoc w.before (token_bytes t) (tokens_bytes ts));
      far = omega arith;
      are = rw p (All-append (IsMark bytes) marks (m ∷ []) w.are (all_one bytes m i));
      same = w.same ∙ rw (
        e,
        p,
        map-append (token_at bytes) marks (m ∷ []),
        append_assoc (map (token_at bytes) marks) (token_at bytes m ∷ [])
            (in_place (at + length t.lead + length t.text) ts),
        is,
      ) refl;
    }

pub marking_ends : (bytes : List ℕ) (all left : List Token) (at : ℕ) (marks : List Mark) → left ≡ [] → Marking bytes all left at marks → map (token_at bytes) marks ≡ in_place 0 all
marking_ends bytes all left at marks e w = sym (w.same ∙ ap (λ (us : List Token). map (token_at bytes) marks ++ in_place at us) e ∙ append-nil (map (token_at bytes) marks))

-- the bytes of the first tokens, and of the others
pub joined_more : (bytes news : List ℕ) (all left : List Token) (t : Token) (ts : List Token) → left ≡ t ∷ ts
    → news ≡ bytes ++ token_bytes t → bytes ++ tokens_bytes left ≡ tokens_bytes all → news
    ++ tokens_bytes ts ≡ tokens_bytes all
joined_more bytes news all left t ts e p w = ap (λ (x : List ℕ). x ++ tokens_bytes ts) p
    ∙ append_assoc bytes (token_bytes t) (tokens_bytes ts) ∙ ap (λ (us : List Token). bytes ++ tokens_bytes us)
    (sym e) ∙ w

pub joined_ends : (bytes : List ℕ) (all left : List Token) → left ≡ [] → bytes ++ tokens_bytes left ≡ tokens_bytes all → bytes ≡ tokens_bytes all
joined_ends bytes all left e w = sym (append-nil bytes) ∙ ap (λ (us : List Token). bytes ++ tokens_bytes us) (sym e) ∙ w

-- the places alone change
pub same_tokens : (at : ℕ) (ts : List Token) → all_placeless (in_place at ts) ≡ all_placeless ts
same_tokens at [] = refl
same_tokens at (t ∷ ts) = ap (λ (us : List Token). placeless t ∷ us) (same_tokens (behind at t) ts)
