-- What the tiles of some tokens become, wherever they stand in code or inline HTML.
use Rattle.std.proofs.Common.{◌≡◌, ℕ, Bool, true, false, ◌||◌, List, [], ◌∷◌, ◌++◌, map, Some, refl, sym, ap, ◌∙◌, subst, append_assoc, append-nil}
use Rattle.std.proofs.lemmas.Bool.{or_right}
use Rattle.php_tree.specs.declared.version.Version.TheVariants.{V74}
use Rattle.php_tree.specs.declared.token.Token.{Token}
use Rattle.php_spellings.specs.declared.table.Kind.{Kind}
use Rattle.php_spellings.specs.Words.{token_of}
use Rattle.php_lexer.specs.Modes.{Mode}
use Rattle.php_lexer.specs.Lexed.{Lexeme, lexeme}
use Rattle.php_relexing.specs.Tiles.{Tile, tile, joined}
use Rattle.php_relexing.specs.Spelled.{Steps, spelled}
use Rattle.tracked_changes.specs.Pieces.{after}
use Rattle.tracked_changes.specs.Draft.{NewToken}
use Rattle.written_tokens.specs.tokens.Written.{new_lexeme}
use Rattle.written_tokens.specs.tokens.Levels.{stack_of}
use Rattle.written_tokens.specs.tiles.ContinuesAs.{is_trivia}
use Rattle.written_tokens.specs.tiles.IsRewrittenTo.{gap_behind, IsRewrittenTo, RewritingsJoin}
use Rattle.written_tokens.specs.tiles.Going.{any_stops}
use Rattle.written_tokens.specs.tiles.Edits.{all_trivia}
use Rattle.written_reading.specs.edited.Rows.{all_clean}
use Rattle.written_reading.proofs.edited.TileFacts.{mode_of, leaves_html, html_behind, html_append, stays_open, open_append, trivia_open, stops_append, gap_append, clean_append}
use Rattle.written_reading.proofs.edited.Spelling.{Spells, spells_join, led_spells}

-- ---- rows

-- Tiles of the source that begin with the token s and the tokens ss, and what they become: the trivia, and then the first
-- token and what follows it up to the last one.
pub record Filled (h stop : Bool) (s : Token) (ss : List Token) (ts : List NewToken) (tiles : List Tile) (more : List Lexeme) : Type 0 where
  pub inner : Bool
  -- the source
  pub trivia : List Tile
  pub plain : all_trivia trivia ≡ true
  pub kind : Kind
  pub b : ℕ
  pub a : List ℕ
  pub body : List Tile
  pub rest : List Tile
  pub split : tiles ≡ trivia ++ ((tile kind b a ∷ body) ++ rest)
  pub left : spelled [] rest ≡ more
  pub is : token_of kind (b ∷ a) ≡ Some s.kind
  pub stopped : stop ≡ true → any_stops (tile kind b a ∷ body) ≡ true
  pub no_cast : stays_open (tile kind b a ∷ body) ≡ true
  pub ends : gap_behind (is_trivia kind) body ≡ false
  -- what is written
  pub spaced : List Tile
  pub k : Kind
  pub c : ℕ
  pub e : List ℕ
  pub us : List Tile
  pub first : NewToken
  pub others : List NewToken
  pub tokens : ts ≡ first ∷ others
  pub free : all_trivia spaced ≡ true
  pub lead_is : joined spaced ≡ after first.lead
  pub kind_is : token_of k (c ∷ e) ≡ Some first.kind
  pub text_is : c ∷ e ≡ after first.text
  pub spells : Spells us (map new_lexeme others)
  pub clean_lead : all_clean spaced ≡ true
  pub clean : all_clean (tile k c e ∷ us) ≡ true
  -- the one becomes the other
  pub lead : IsRewrittenTo false (any_stops trivia) (mode_of h) (mode_of inner) trivia spaced
  pub row : IsRewrittenTo false (any_stops (tile kind b a ∷ body)) (mode_of inner) (mode_of (html_behind h (s ∷ ss))) (tile kind b a ∷ body) (tile k c e ∷ us)

-- The same for any tokens. No tokens become none.
abbrev pub Row : Bool → Bool → List Token → List NewToken → List Tile → List Lexeme → Type 0
Row h stop [] ts tiles more = (stop ≡ false) × (ts ≡ [])
Row h stop (s ∷ ss) ts tiles more = Filled h stop s ss ts tiles more

abbrev pub has_more : List Lexeme → Bool
has_more [] = false
has_more (l ∷ ls) = true

-- WrittenAs h stop ss ts: wherever the tokens ss stand in a row, from inline HTML or code on, their tiles become those of the
-- tokens ts; `stop` tells that one of their tiles can't stand in a cast.
abbrev pub WrittenAs : Bool → Bool → List Token → List NewToken → Type 0
WrittenAs h stop ss ts =
    (below : List Mode) (depth : ℕ) (tiles : List Tile) (more : List Lexeme) →
    has_more more ≡ true →
    Steps V74 (stack_of (mode_of h) below depth) tiles →
    spelled [] tiles ≡ map lexeme ss ++ more →
    Row h stop ss ts tiles more

-- ---- rows join

pub parted_spelled : (ss us : List Token) (more : List Lexeme) → map lexeme (ss ++ us) ++ more ≡ map lexeme ss ++ (map lexeme us ++ more)
parted_spelled [] us more = refl
parted_spelled (s ∷ ss) us more = ap (λ (l : List Lexeme). lexeme s ∷ l) (parted_spelled ss us more)

pub more_behind : (us : List Token) (more : List Lexeme) → has_more more ≡ true → has_more (map lexeme us ++ more) ≡ true
more_behind [] more h = h
more_behind (u ∷ us) more h = refl

-- the steps behind a row
pub steps_left : {h stop : Bool} {s : Token} {ss : List Token} {ts : List NewToken} {tiles : List Tile}
    {more : List Lexeme} → (f : Filled h stop s ss ts tiles more) → (below : List Mode) (depth : ℕ)
    → Steps V74 (stack_of (mode_of h) below depth) tiles → Steps V74
    (stack_of (mode_of (html_behind h (s ∷ ss))) below depth) f.rest
steps_left {h} f below depth steps =
    f.row.source below depth f.rest
    (f.lead.source below depth ((tile f.kind f.b f.a ∷ f.body) ++ f.rest)
    (subst (λ (l : List Tile). Steps V74 (stack_of (mode_of h) below depth) l) f.split steps))

pub or_false : (a : Bool) → (a || false) ≡ a
or_false true = refl
or_false false = refl

pub news_append : (ts us : List NewToken) → map new_lexeme (ts ++ us) ≡ map new_lexeme ts ++ map new_lexeme us
news_append [] us = refl
news_append (t ∷ ts) us = ap (λ (l : List Lexeme). new_lexeme t ∷ l) (news_append ts us)

either : (a b c d : Bool) → (a ≡ true → c ≡ true) → (b ≡ true → d ≡ true) → (a || b) ≡ true → (c || d) ≡ true
either true b c d p q h = ap (λ (x : Bool). x || d) (p refl)
either false true true d p q h = refl
either false true false d p q h = q refl
either false false c d p q h = absurd cc

module _ (join : RewritingsJoin) where
  -- rows that become others, one behind another
  pub becomes_both : (m n p : Mode) (ts us ts' us' : List Tile) → IsRewrittenTo false (any_stops ts) m n ts us
      → IsRewrittenTo false (any_stops ts') n p ts' us' → IsRewrittenTo false (any_stops (ts ++ ts')) m p (ts ++ ts') (us ++ us')
  becomes_both m n p ts us ts' us' f g =
      subst (λ (x : Bool). IsRewrittenTo false x m p (ts ++ ts') (us ++ us')) (sym (stops_append ts ts'))
      (join false (any_stops ts) false (any_stops ts') m n p ts us ts' us' f g)

  filled_join :
      (h s1 s2 : Bool) (s t : Token) (ss tt : List Token) (ts1 ts2 : List NewToken) (tiles : List Tile) (more : List Lexeme) →
      (f : Filled h s1 s ss ts1 tiles (map lexeme (t ∷ tt) ++ more)) →
      Filled (html_behind h (s ∷ ss)) s2 t tt ts2 f.rest more →
      Filled h (s1 || s2) s (ss ++ t ∷ tt) (ts1 ++ ts2) tiles more
  filled_join h s1 s2 s t ss tt ts1 ts2 tiles more f g =
      let one = tile f.kind f.b f.a ∷ f.body in
      let two = tile g.kind g.b g.a ∷ g.body in
      let new = tile f.k f.c f.e ∷ f.us in
      let newer = tile g.k g.c g.e ∷ g.us in
      let behind : IsRewrittenTo false (any_stops (g.trivia ++ two)) (mode_of (html_behind h (s ∷ ss)))
      (mode_of (html_behind (html_behind h (s ∷ ss)) (t ∷ tt))) (g.trivia ++ two) (g.spaced ++ newer) =
      becomes_both (mode_of (html_behind h (s ∷ ss))) (mode_of g.inner) (mode_of (html_behind (html_behind h (s ∷ ss)) (t ∷ tt))) g.trivia g.spaced two newer g.lead g.row in
      let all : IsRewrittenTo false (any_stops (one ++ (g.trivia ++ two))) (mode_of f.inner)
      (mode_of (html_behind (html_behind h (s ∷ ss)) (t ∷ tt))) (one ++ (g.trivia ++ two))
      (new ++ (g.spaced ++ newer)) =
      becomes_both (mode_of f.inner) (mode_of (html_behind h (s ∷ ss)))
      (mode_of (html_behind (html_behind h (s ∷ ss)) (t ∷ tt))) one new (g.trivia ++ two) (g.spaced ++ newer)
      f.row behind in
      record {
        inner = f.inner;
        trivia = f.trivia;
        plain = f.plain;
        kind = f.kind;
        b = f.b;
        a = f.a;
        body = f.body ++ (g.trivia ++ two);
        rest = g.rest;
        split =
            f.split
            ∙ ap (λ (l : List Tile). f.trivia ++ (one ++ l)) g.split
            ∙ ap (λ (l : List Tile). f.trivia ++ (tile f.kind f.b f.a ∷ l))
            (ap (λ (l : List Tile). f.body ++ l) (sym (append_assoc g.trivia two g.rest))
            ∙ sym (append_assoc f.body (g.trivia ++ two) g.rest));
        left = g.left;
        is = f.is;
        stopped = λ x. stops_append one (g.trivia ++ two)
            ∙ either s1 s2 (any_stops one) (any_stops (g.trivia ++ two)) f.stopped
            (λ y. stops_append g.trivia two ∙ or_right (any_stops g.trivia) (any_stops two) (g.stopped y)) x;
        no_cast = open_append one (g.trivia ++ two) f.no_cast (open_append g.trivia two (trivia_open g.trivia g.plain) g.no_cast);
        ends = gap_append (is_trivia f.kind) f.body (g.trivia ++ two)
            ∙ gap_append (gap_behind (is_trivia f.kind) f.body) g.trivia two
            ∙ g.ends;
        spaced = f.spaced;
        k = f.k;
        c = f.c;
        e = f.e;
        us = f.us ++ (g.spaced ++ newer);
        first = f.first;
        others = f.others ++ ts2;
        tokens = ap (λ (l : List NewToken). l ++ ts2) f.tokens;
        free = f.free;
        lead_is = f.lead_is;
        kind_is = f.kind_is;
        text_is = f.text_is;
        spells = subst (Spells (f.us ++ (g.spaced ++ newer)))
            (sym (news_append f.others ts2 ∙ ap (λ (l : List NewToken). map new_lexeme f.others ++ map new_lexeme l) g.tokens))
            (spells_join f.us (g.spaced ++ newer) (map new_lexeme f.others) (map new_lexeme (g.first ∷ g.others)) f.spells
            (led_spells g.spaced g.free g.k g.c g.e (new_lexeme g.first) g.lead_is g.kind_is g.text_is g.us (map new_lexeme g.others) g.spells));
        clean_lead = f.clean_lead;
        clean = clean_append new (g.spaced ++ newer) f.clean (clean_append g.spaced newer g.clean_lead g.clean);
        lead = f.lead;
        row = subst (λ (x : Bool). IsRewrittenTo false (any_stops (one ++ (g.trivia ++ two))) (mode_of f.inner) (mode_of x) (one ++ (g.trivia ++ two)) (new ++ (g.spaced ++ newer)))
            (sym (html_append (leaves_html s.kind) ss (t ∷ tt))) all;
      }

  -- a row, and nothing behind it
  filled_last :
      (h s1 s2 : Bool) (s : Token) (ss : List Token) (ts1 ts2 : List NewToken) (tiles : List Tile) (more : List Lexeme) →
      s2 ≡ false →
      ts2 ≡ [] →
      Filled h s1 s ss ts1 tiles more →
      Filled h (s1 || s2) s (ss ++ []) (ts1 ++ ts2) tiles more
  filled_last h s1 s2 s ss ts1 ts2 tiles more p q f =
      subst (λ (l : List Token). Filled h (s1 || s2) s l (ts1 ++ ts2) tiles more) (sym (append-nil ss))
      (subst (λ (x : Bool). Filled h x s ss (ts1 ++ ts2) tiles more) (sym (ap (λ (x : Bool). s1 || x) p ∙ or_false s1))
      (subst (λ (l : List NewToken). Filled h s1 s ss l tiles more) (sym (ap (λ (l : List NewToken). ts1 ++ l) q ∙ append-nil ts1)) f))

  row_join :
      (h s1 s2 : Bool) (ss1 ss2 : List Token) (ts1 ts2 : List NewToken) (below : List Mode) (depth : ℕ) (tiles : List Tile) (more : List Lexeme) →
      has_more more ≡ true →
      Steps V74 (stack_of (mode_of h) below depth) tiles →
      spelled [] tiles ≡ map lexeme ss1 ++ (map lexeme ss2 ++ more) →
      Row h s1 ss1 ts1 tiles (map lexeme ss2 ++ more) →
      WrittenAs (html_behind h ss1) s2 ss2 ts2 →
      Row h (s1 || s2) (ss1 ++ ss2) (ts1 ++ ts2) tiles more
  row_join h s1 s2 [] ss2 ts1 ts2 below depth tiles more m steps same r next =
      subst (λ (x : Bool). Row h (x || s2) ss2 (ts1 ++ ts2) tiles more) (sym r.0)
      (subst (λ (l : List NewToken). Row h s2 ss2 (l ++ ts2) tiles more) (sym r.1) (next below depth tiles more m steps same))
  row_join h s1 s2 (s ∷ ss1) [] ts1 ts2 below depth tiles more m steps same r next =
      let last = next below depth r.rest more m (steps_left r below depth steps) r.left in
      filled_last h s1 s2 s ss1 ts1 ts2 tiles more last.0 last.1 r
  row_join h s1 s2 (s ∷ ss1) (t ∷ ss2) ts1 ts2 below depth tiles more m steps same r next =
      filled_join h s1 s2 s t ss1 ss2 ts1 ts2 tiles more r (next below depth r.rest more m (steps_left r below depth steps) r.left)

  pub written_as_join : (h s1 s2 : Bool) (ss1 ss2 : List Token) (ts1 ts2 : List NewToken) → WrittenAs h s1 ss1 ts1
      → WrittenAs (html_behind h ss1) s2 ss2 ts2 → WrittenAs h (s1 || s2) (ss1 ++ ss2) (ts1 ++ ts2)
  written_as_join h s1 s2 ss1 ss2 ts1 ts2 p q below depth tiles more m steps same =
      let there : spelled [] tiles ≡ map lexeme ss1 ++ (map lexeme ss2 ++ more) = same ∙ parted_spelled ss1 ss2 more in
      row_join h s1 s2 ss1 ss2 ts1 ts2 below depth tiles more m steps there
      (p below depth tiles (map lexeme ss2 ++ more) (more_behind ss2 more m) steps there) q

-- a row of a node tells nothing of the parts of the one around it
unstopped_row : (h stop : Bool) (ss : List Token) (ts : List NewToken) (tiles : List Tile) (more : List Lexeme) → Row h stop ss ts tiles more → Row h false ss ts tiles more
unstopped_row h stop [] ts tiles more r = (refl, r.1)
unstopped_row h stop (s ∷ ss) ts tiles more r = record {
  inner = r.inner;
  trivia = r.trivia;
  plain = r.plain;
  kind = r.kind;
  b = r.b;
  a = r.a;
  body = r.body;
  rest = r.rest;
  split = r.split;
  left = r.left;
  is = r.is;
  stopped = λ x. absurd cc;
  no_cast = r.no_cast;
  ends = r.ends;
  spaced = r.spaced;
  k = r.k;
  c = r.c;
  e = r.e;
  us = r.us;
  first = r.first;
  others = r.others;
  tokens = r.tokens;
  free = r.free;
  lead_is = r.lead_is;
  kind_is = r.kind_is;
  text_is = r.text_is;
  spells = r.spells;
  clean_lead = r.clean_lead;
  clean = r.clean;
  lead = r.lead;
  row = r.row;
}

pub unstopped : (h stop : Bool) (ss : List Token) (ts : List NewToken) → WrittenAs h stop ss ts → WrittenAs h false ss ts
unstopped h stop ss ts p below depth tiles more m steps same =
    unstopped_row h stop ss ts tiles more (p below depth tiles more m steps same)
