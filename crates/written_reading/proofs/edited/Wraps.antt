-- Parentheses that are put round nodes.
use Rattle.std.proofs.Common.{◌≡◌, ℕ, suc, Bool, true, false, cond, not, nat_eq, List, [], ◌∷◌, ◌++◌, length, map, codes, Some, refl, sym, ap, ◌∙◌, subst}
use Rattle.std.proofs.lemmas.Bool.{eqb-true}
use Rattle.php_tree.specs.declared.version.Version.TheVariants.{V74}
use Rattle.php_tree.specs.declared.token.Token.{Token}
use Rattle.php_tree.specs.declared.token.TokenKind.{TokenKind}
use Rattle.php_spellings.specs.declared.table.Kind.{Kind}
use Rattle.php_spellings.specs.declared.table.Kind.TheVariants.{Space, Comment, Tag, Word, Keyword, Op, Close}
use Rattle.php_spellings.specs.Words.{token_of}
use Rattle.php_lexer.specs.Modes.{Mode, code, IsLongest}
use Rattle.php_lexer.specs.Lexed.{Lexeme}
use Rattle.php_relexing.specs.Tiles.{Tile, tile, joined}
use Rattle.php_relexing.specs.Spelled.{Steps}
use Rattle.php_relexing.proofs.Picked.{longest_meets}
use Rattle.tracked_changes.specs.Pieces.{after}
use Rattle.tracked_changes.specs.Draft.{NewToken, Draft}
use Rattle.tracked_changes.specs.Leads.{first_lead, without_lead}
use Rattle.tracked_changes.specs.Tokens.{put_in}
use Rattle.written_tokens.specs.tokens.Written.{new_lexeme, draft_tokens}
use Rattle.written_tokens.specs.tokens.Levels.{stack_of}
use Rattle.written_tokens.specs.tiles.ContinuesAs.{stops_cast, is_trivia, begins_token}
use Rattle.written_tokens.specs.tiles.IsRewrittenTo.{IsRewrittenTo}
use Rattle.written_tokens.specs.tiles.Going.{any_stops}
use Rattle.written_tokens.specs.tiles.Edits.{between, is_uncast, RoundsComeIn}
use Rattle.rewritten_shapes.specs.paired.Tokens.{is_edge}
use Rattle.written_reading.proofs.edited.Spelling.{Spells, spells_join, led_spells, step_longest, step_behind}
use Rattle.written_reading.proofs.edited.TileFacts.{mode_of, html_behind, stays_open, clean_append}
use Rattle.written_reading.proofs.edited.WrittenAs.{Filled, WrittenAs, news_append}
use Rattle.written_reading.proofs.edited.TileKinds.{token_like, told, token_is_no_trivia, in_code}
use Rattle.written_reading.proofs.edited.FirstTokens.{lead_of, leadless, first_lead_is, without_lead_is}

-- ---- no cast comes about

-- whether tiles of code of the kind begin with no `)`
abbrev pub begins_open : Kind → Bool
begins_open Space = false
begins_open Word = false
begins_open Keyword = false
begins_open Op = false
begins_open _ = true

not_shut : (kind : Kind) (b : ℕ) (a r : List ℕ) → begins_open kind ≡ true → IsLongest V74 code (b ∷ a ++ r) kind (suc (length a)) → nat_eq b 41 ≡ false
not_shut kind b a r h l = by_byte (nat_eq b 41) refl
  where
    by_byte : (x : Bool) → nat_eq b 41 ≡ x → x ≡ false
    by_byte false e = refl
    by_byte true e =
        let at : IsLongest V74 code (41 ∷ a ++ r) kind (suc (length a)) = subst (λ (y : ℕ). IsLongest V74 code (y ∷ a ++ r) kind (suc (length a))) (eqb-true b 41 e) l in
        absurd (let e = longest_meets begins_open V74 code (41 ∷ a) r kind h at in cc)

uncast_by : (kind : Kind) (b : ℕ) (x : Bool) → nat_eq b 41 ≡ false → stops_cast kind ≡ true → cond (stops_cast kind) (not (nat_eq b 41)) x ≡ true
uncast_by kind b x h s = ap (λ (y : Bool). cond y (not (nat_eq b 41)) x) s ∙ ap not h

-- The first tile of code that can't stand in a cast is no `)`.
pub uncast_of : (below : List Mode) (depth : ℕ) (ts rest : List Tile)
    → Steps V74 (stack_of code below depth) (ts ++ rest) → any_stops ts ≡ true → stays_open ts ≡ true
    → is_uncast ts ≡ true
uncast_of below depth [] rest steps s o = absurd cc
uncast_of below depth (tile Space b a ∷ ts) rest steps s o = uncast_of below depth ts rest (step_behind steps) s o
uncast_of below depth (tile Word b a ∷ ts) rest steps s o = uncast_of below depth ts rest (step_behind steps) s o
uncast_of below depth (tile Keyword b a ∷ ts) rest steps s o = uncast_of below depth ts rest (step_behind steps) s o
uncast_of below depth (tile Op b a ∷ ts) rest steps s o = o
uncast_of below depth (tile kind b a ∷ ts) rest steps s o =
    uncast_by kind b (is_uncast ts) (not_shut kind b a (joined (ts ++ rest)) refl (step_longest steps)) refl

like_begins : (kind : Kind) (b : ℕ) (a : List ℕ) (ts : List Tile) → is_trivia kind ≡ false → is_edge (token_like kind) ≡ false → begins_token (tile kind b a ∷ ts) ≡ true
like_begins Close b a ts p q = absurd cc
like_begins Space b a ts p q = absurd cc
like_begins Comment b a ts p q = absurd cc
like_begins Tag b a ts p q = absurd cc
like_begins kind b a ts p q = refl

begins_by : (kind : Kind) (b : ℕ) (a : List ℕ) (ts : List Tile) (k : TokenKind) → token_of kind (b ∷ a) ≡ Some k → is_edge k ≡ false → begins_token (tile kind b a ∷ ts) ≡ true
begins_by kind b a ts k e p =
    like_begins kind b a ts (token_is_no_trivia kind (b ∷ a) k e) (sym (told is_edge refl refl kind (b ∷ a) k e) ∙ p)

-- ---- parentheses

module _ (rounds : RoundsComeIn) (h : Bool) (t : Token) (ss : List Token) (edge : is_edge t.kind ≡ false) (coded : html_behind h (t ∷ ss) ≡ false) where
  wrapped_row : (d : Draft) (below : List Mode) (depth : ℕ) (tiles : List Tile) (more : List Lexeme)
      → Steps V74 (stack_of (mode_of h) below depth) tiles → Filled h true t ss (draft_tokens d) tiles more
      → Filled h true t ss (put_in (first_lead d) (codes "(")
      ∷ (draft_tokens (without_lead d) ++ put_in [] (codes ")") ∷ [])) tiles more
  wrapped_row d below depth tiles more steps f =
      let one = tile f.kind f.b f.a ∷ f.body in
      let new = tile f.k f.c f.e ∷ f.us in
      let behind : Steps V74 (stack_of (mode_of f.inner) below depth) (one ++ f.rest) =
      f.lead.source below depth (one ++ f.rest) (subst (λ (l : List Tile). Steps V74 (stack_of (mode_of h) below depth) l) f.split steps) in
      let inner : f.inner ≡ false = in_code f.inner f.kind f.b f.a (joined (f.body ++ f.rest)) t.kind f.is edge (step_longest behind) in
      let stops : any_stops one ≡ true = f.stopped refl in
      let within : Steps V74 (stack_of code below depth) (one ++ f.rest) = subst (λ (x : Bool). Steps V74 (stack_of (mode_of x) below depth) (one ++ f.rest)) inner behind in
      let become : IsRewrittenTo false true code code one new =
      subst (λ (x : Bool). IsRewrittenTo false x code code one new) stops
      (subst (λ (x : Bool). IsRewrittenTo false (any_stops one) (mode_of x) code one new) inner
      (subst (λ (x : Bool). IsRewrittenTo false (any_stops one) (mode_of f.inner) (mode_of x) one new) coded f.row)) in
      let round : IsRewrittenTo false true code code one (between 40 41 new) =
      rounds one new (begins_by f.kind f.b f.a f.body t.kind f.is edge) f.ends (uncast_of below depth one f.rest within stops f.no_cast) become in
      let lead : first_lead d ≡ f.first.lead = first_lead_is d ∙ ap lead_of f.tokens in
      let others : draft_tokens (without_lead d) ≡ record { kind = f.first.kind; lead = []; text = f.first.text } ∷ f.others = without_lead_is d ∙ ap leadless f.tokens in
      record {
        inner = false;
        trivia = f.trivia;
        plain = f.plain;
        kind = f.kind;
        b = f.b;
        a = f.a;
        body = f.body;
        rest = f.rest;
        split = f.split;
        left = f.left;
        is = f.is;
        stopped = f.stopped;
        no_cast = f.no_cast;
        ends = f.ends;
        spaced = f.spaced;
        k = Op;
        c = 40;
        e = [];
        us = new ++ tile Op 41 [] ∷ [];
        first = put_in (first_lead d) (codes "(");
        others = draft_tokens (without_lead d) ++ put_in [] (codes ")") ∷ [];
        tokens = refl;
        free = f.free;
        lead_is = f.lead_is ∙ ap after (sym lead);
        kind_is = refl;
        text_is = refl;
        spells = subst (λ (l : List NewToken). Spells (new ++ tile Op 41 [] ∷ []) (map new_lexeme (l ++ put_in [] (codes ")") ∷ []))) (sym others)
            (subst (Spells (new ++ tile Op 41 [] ∷ []))
            (sym (ap (λ (l : List Lexeme). new_lexeme
            (record { kind = f.first.kind; lead = []; text = f.first.text }) ∷ l)
            (news_append f.others (put_in [] (codes ")") ∷ []))))
            (led_spells [] refl f.k f.c f.e (new_lexeme (record
            { kind = f.first.kind; lead = []; text = f.first.text })) refl f.kind_is f.text_is
            (f.us ++ tile Op 41 [] ∷ []) (map new_lexeme f.others ++ map new_lexeme (put_in [] (codes ")") ∷ []))
            (spells_join f.us (tile Op 41 [] ∷ []) (map new_lexeme f.others) (map new_lexeme (put_in [] (codes ")") ∷ [])) f.spells (λ rest. refl))));
        clean_lead = f.clean_lead;
        clean = clean_append new (tile Op 41 [] ∷ []) f.clean refl;
        lead = subst (λ (x : Bool). IsRewrittenTo false (any_stops f.trivia) (mode_of h) (mode_of x) f.trivia f.spaced) inner f.lead;
        row = subst (λ (x : Bool). IsRewrittenTo false x code (mode_of (html_behind h (t ∷ ss))) one (between 40 41 new)) (sym stops)
            (subst (λ (x : Bool). IsRewrittenTo false true code (mode_of x) one (between 40 41 new)) (sym coded) round);
      }

  -- a node in parentheses
  pub wrapped_written_as : (d : Draft) → WrittenAs h true (t ∷ ss) (draft_tokens d)
      → WrittenAs h true (t ∷ ss) (put_in (first_lead d) (codes "(")
      ∷ (draft_tokens (without_lead d) ++ put_in [] (codes ")") ∷ []))
  wrapped_written_as d written_as below depth tiles more m steps same =
      wrapped_row d below depth tiles more steps (written_as below depth tiles more m steps same)
