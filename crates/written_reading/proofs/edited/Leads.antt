-- The trivia before a token, and tokens alone, in code or inline HTML.
use Rattle.std.proofs.Common.{◌≡◌, ℕ, suc, Bool, true, false, not, ◌&&◌, ◌||◌, nat_eq, List, [], ◌∷◌, ◌++◌, length, Some, refl, sym, ap, ◌∙◌, subst}
use Rattle.std.proofs.lemmas.Bool.{and_parts, and_from}
use Rattle.php_tree.specs.declared.version.Version.TheVariants.{V74}
use Rattle.php_tree.specs.declared.token.Token.{Token}
use Rattle.php_spellings.specs.declared.table.Kind.{Kind}
use Rattle.php_spellings.specs.declared.table.Kind.TheVariants.{
  Space,
  Comment,
  Tag,
  InlineHtml,
  Name,
  Text,
  Quote,
  Backtick,
  HeredocStart,
  Op,
  AttributeOpen,
  Close,
  Piece,
  CurlyOpen,
  DollarBrace,
  VarName,
  QuotedEnd,
}
use Rattle.php_spellings.specs.Words.{token_of}
use Rattle.php_lexer.specs.Modes.{Mode, html, code, IsLongest}
use Rattle.php_lexer.specs.Lexed.{Lexeme, lexeme}
use Rattle.php_relexing.specs.Tiles.{Tile, tile, joined}
use Rattle.php_relexing.specs.Spelled.{Steps, spelled}
use Rattle.php_relexing.proofs.Picked.{longest_meets}
use Rattle.tracked_changes.specs.Pieces.{after}
use Rattle.tracked_changes.specs.Draft.{NewToken}
use Rattle.syntax_rules.specs.HashComment.{outside, spaced}
use Rattle.written_tokens.specs.tokens.Stays.{in_quotes}
use Rattle.written_tokens.specs.tokens.Levels.{stack_of}
use Rattle.written_tokens.specs.tiles.ContinuesAs.{stops_cast, is_trivia}
use Rattle.written_tokens.specs.tiles.IsRewrittenTo.{IsRewrittenTo, IsRewrittenLoosely}
use Rattle.written_tokens.specs.tiles.Going.{any_stops}
use Rattle.written_tokens.specs.tiles.CodeTokens.{CodeTokensBecome, HtmlTokensBecome}
use Rattle.written_tokens.specs.tiles.Edits.{all_trivia}
use Rattle.written_tokens.specs.texts.Heredocs.{NowdocsBecome}
use Rattle.written_tokens.specs.names.Fronts.{Front, FrontOfRow}
use Rattle.written_tokens.specs.names.Leads.{is_hash, spaced_trivia, none_hash, SpacedAreWritten, TriviaBecome, SpacedAreTrivia}
use Rattle.rewritten_shapes.specs.paired.Tokens.{is_code_kind, is_op}
use Rattle.written_reading.specs.edited.Rows.{is_clean, all_clean}
use Rattle.written_reading.proofs.edited.Spelling.{step_longest}
use Rattle.written_reading.proofs.edited.TileFacts.{mode_of, leaves_html, stays_open}
use Rattle.written_reading.proofs.edited.WrittenAs.{or_false, Filled, has_more}
use Rattle.written_reading.proofs.edited.TileKinds.{token_like, token_is_no_trivia, is_marked, no_html, no_mark}

-- ---- trivia

-- the mode behind trivia
abbrev pub inner_mode : Bool → List Tile → Bool
inner_mode h [] = h
inner_mode h (t ∷ ts) = false

clean_by : (kind : Kind) (b : ℕ) (a : List ℕ) → is_trivia kind ≡ true → not (is_hash kind b a) ≡ true → is_clean kind b a ≡ true
clean_by Space b a p q = refl
clean_by Tag b a p q = refl
clean_by Comment b a p q = q
clean_by _ b a p q = absurd cc

pub clean_trivia : (ts : List Tile) → all_trivia ts ≡ true → none_hash ts ≡ true → all_clean ts ≡ true
clean_trivia [] p q = refl
clean_trivia (tile kind b a ∷ ts) p q =
    let f = and_parts (is_trivia kind) (all_trivia ts) p in
    let g = and_parts (not (is_hash kind b a)) (none_hash ts) q in
    and_from (is_clean kind b a) (all_clean ts) (clean_by kind b a f.0 g.0) (clean_trivia ts f.1 g.1)

-- the first token of a row of more than one
pub front_of : FrontOfRow → (tiles : List Tile) (l : Lexeme) (more : List Lexeme) → has_more more ≡ true → spelled [] tiles ≡ l ∷ more → Front [] tiles l more
front_of front tiles l [] m h = absurd cc
front_of front tiles l (x ∷ xs) m h = front [] tiles l [] x xs h

-- what is known of trivia
pub record Means : Type 0 where
  pub loosely : IsRewrittenLoosely
  pub front : FrontOfRow
  pub written : SpacedAreWritten
  pub trivia : TriviaBecome
  pub spaced : SpacedAreTrivia
  pub codes : CodeTokensBecome
  pub htmls : HtmlTokensBecome
  pub nowdocs : NowdocsBecome

module _ (means : Means) where
  html_lead : (below : List Mode) (depth : ℕ) (ts rest : List Tile) → all_trivia ts ≡ true
      → Steps V74 (stack_of html below depth) (ts ++ rest) → IsRewrittenTo false (any_stops ts) html
      (mode_of (inner_mode true ts)) ts (spaced_trivia ts)
  html_lead below depth [] rest p steps = means.loosely.nothing html
  html_lead below depth (tile Tag b a ∷ ts) rest p steps = means.trivia html (tile Tag b a ∷ ts) p refl
  html_lead below depth (tile Space b a ∷ ts) rest p steps = absurd (no_html Space (b ∷ a) (joined (ts ++ rest)) refl (step_longest steps))
  html_lead below depth (tile Comment b a ∷ ts) rest p steps = absurd (no_html Comment (b ∷ a) (joined (ts ++ rest)) refl (step_longest steps))
  html_lead below depth (tile _ b a ∷ ts) rest p steps = absurd cc

  code_lead : (ts : List Tile) → all_trivia ts ≡ true → IsRewrittenTo false (any_stops ts) code (mode_of (inner_mode false ts)) ts (spaced_trivia ts)
  code_lead [] p = means.loosely.nothing code
  code_lead (t ∷ ts) p = means.trivia code (t ∷ ts) p refl

  pub lead_becomes : (h : Bool) (below : List Mode) (depth : ℕ) (ts rest : List Tile) → all_trivia ts ≡ true
      → Steps V74 (stack_of (mode_of h) below depth) (ts ++ rest)
      → IsRewrittenTo false (any_stops ts) (mode_of h) (mode_of (inner_mode h ts)) ts (spaced_trivia ts)
  lead_becomes true below depth ts rest p steps = html_lead below depth ts rest p steps
  lead_becomes false below depth ts rest p steps = code_lead ts p

  -- the trivia at the front of a row
  pub front_becomes : (h : Bool) (below : List Mode) (depth : ℕ) (tiles : List Tile) (l : Lexeme) (more : List Lexeme)
      → (f : Front [] tiles l more) → Steps V74 (stack_of (mode_of h) below depth) tiles
      → IsRewrittenTo false (any_stops f.trivia) (mode_of h) (mode_of (inner_mode h f.trivia)) f.trivia
      (spaced_trivia f.trivia)
  front_becomes h below depth tiles l more f steps =
      lead_becomes h below depth f.trivia (tile f.kind f.b f.a ∷ f.rest) f.free
      (subst (λ (ts : List Tile). Steps V74 (stack_of (mode_of h) below depth) ts) f.whole steps)

  -- the steps behind the trivia
  pub steps_inner : (h : Bool) (below : List Mode) (depth : ℕ) (tiles : List Tile) (l : Lexeme) (more : List Lexeme)
      → (f : Front [] tiles l more) → Steps V74 (stack_of (mode_of h) below depth) tiles
      → Steps V74 (stack_of (mode_of (inner_mode h f.trivia)) below depth) (tile f.kind f.b f.a ∷ f.rest)
  steps_inner h below depth tiles l more f steps =
      (front_becomes h below depth tiles l more f steps).source below depth (tile f.kind f.b f.a ∷ f.rest)
      (subst (λ (ts : List Tile). Steps V74 (stack_of (mode_of h) below depth) ts) f.whole steps)

  -- the bytes of the written trivia
  pub lead_written : (h : Bool) (below : List Mode) (depth : ℕ) (tiles : List Tile) (l : Lexeme) (more : List Lexeme)
      → (f : Front [] tiles l more) → Steps V74 (stack_of (mode_of h) below depth) tiles
      → joined (spaced_trivia f.trivia) ≡ after (spaced outside l.lead)
  lead_written h below depth tiles l more f steps =
      sym (means.written (stack_of (mode_of h) below depth) f.trivia (tile f.kind f.b f.a ∷ f.rest) f.free
      (subst (λ (ts : List Tile). Steps V74 (stack_of (mode_of h) below depth) ts) f.whole steps))
      ∙ ap (λ (x : List ℕ). after (spaced outside x)) f.lead

  -- ---- one token

  -- one token that becomes another
  pub filled_one :
      (h stop : Bool) (below : List Mode) (depth : ℕ) (t : Token) (n : NewToken) (tiles : List Tile) (more : List Lexeme) →
      Steps V74 (stack_of (mode_of h) below depth) tiles →
      (f : Front [] tiles (lexeme t) more) →
      (k : Kind) (c : ℕ) (e : List ℕ) →
      n.lead ≡ spaced outside t.lead →
      token_of k (c ∷ e) ≡ Some n.kind →
      c ∷ e ≡ after n.text →
      (stop ≡ true → stops_cast f.kind ≡ true) →
      stays_open (tile f.kind f.b f.a ∷ []) ≡ true →
      is_clean k c e ≡ true →
      IsRewrittenTo false (any_stops (tile f.kind f.b f.a ∷ [])) (mode_of (inner_mode h f.trivia)) (mode_of (leaves_html t.kind)) (tile f.kind f.b f.a ∷ []) (tile k c e ∷ []) →
      Filled h stop t [] (n ∷ []) tiles more
  filled_one h stop below depth t n tiles more steps f k c e lead is text stopped opened clean becomes = record {
    inner = inner_mode h f.trivia;
    trivia = f.trivia;
    plain = f.free;
    kind = f.kind;
    b = f.b;
    a = f.a;
    body = [];
    rest = f.rest;
    split = f.whole;
    left = f.tokens;
    is = f.is;
    stopped = λ x. ap (λ (y : Bool). y || false) (stopped x);
    no_cast = opened;
    ends = token_is_no_trivia f.kind (f.b ∷ f.a) t.kind f.is;
    spaced = spaced_trivia f.trivia;
    k = k;
    c = c;
    e = e;
    us = [];
    first = n;
    others = [];
    tokens = refl;
    free = (means.spaced f.trivia f.free).0;
    lead_is = lead_written h below depth tiles (lexeme t) more f steps ∙ ap after (sym lead);
    kind_is = is;
    text_is = text;
    spells = λ rest. refl;
    clean_lead = clean_trivia (spaced_trivia f.trivia) (means.spaced f.trivia f.free).0 (means.spaced f.trivia f.free).1;
    clean = and_from (is_clean k c e) true clean refl;
    lead = front_becomes h below depth tiles (lexeme t) more f steps;
    row = becomes;
  }

  -- ---- tokens that stay

  kept_html : (kind : Kind) (b : ℕ) (a r : List ℕ) → IsLongest V74 html (b ∷ a ++ r) kind (suc (length a))
      → IsRewrittenTo false (any_stops (tile kind b a ∷ [])) html (mode_of (leaves_html (token_like kind)))
      (tile kind b a ∷ []) (tile kind b a ∷ [])
  kept_html Close b a r l = absurd (let e = longest_meets is_close V74 html (b ∷ a) r Close refl l in cc)
    where
      is_close : Kind → Bool
      is_close Close = true
      is_close _ = false
  kept_html kind b a r l =
      subst (λ (x : Bool). IsRewrittenTo false x html (mode_of (leaves_html (token_like kind))) (tile kind b a ∷ []) (tile kind b a ∷ [])) (sym (or_false (stops_cast kind)))
      (means.htmls kind b a)

  kept_text : (b : ℕ) (a : List ℕ) (q : Bool) → in_quotes b a ≡ q → IsRewrittenTo false true code code (tile Text b a ∷ []) (tile Text b a ∷ [])
  kept_text b a true h = means.codes Text b a h
  kept_text b a false h = means.nowdocs b a h

  kept_op : (b : ℕ) (a : List ℕ) (p q s t : Bool) → nat_eq b 40 ≡ p → nat_eq b 41 ≡ q → nat_eq b 123 ≡ s
      → nat_eq b 125 ≡ t → (p || (q || (s || t))) ≡ false → IsRewrittenTo false true code code (tile Op b a ∷ [])
      (tile Op b a ∷ [])
  kept_op b a true q s t e f g h m = absurd cc
  kept_op b a false true s t e f g h m = absurd cc
  kept_op b a false false true t e f g h m = absurd cc
  kept_op b a false false false true e f g h m = absurd cc
  kept_op b a false false false false e f g h m =
      subst (λ (x : Bool). IsRewrittenTo x true code code (tile Op b a ∷ []) (tile Op b a ∷ [])) e
      (means.codes Op b a (rw (g, h) refl))

  kept_code : (kind : Kind) (b : ℕ) (a r : List ℕ) → is_code_kind (token_like kind) ≡ true
      → (is_op (token_like kind) ≡ true → is_marked (b ∷ a) ≡ false)
      → IsLongest V74 code (b ∷ a ++ r) kind (suc (length a))
      → IsRewrittenTo false (any_stops (tile kind b a ∷ [])) code (mode_of (leaves_html (token_like kind)))
      (tile kind b a ∷ []) (tile kind b a ∷ [])
  kept_code Space b a r p m l = absurd cc
  kept_code Comment b a r p m l = absurd cc
  kept_code Tag b a r p m l = absurd cc
  kept_code Name b a r p m l = absurd cc
  kept_code Quote b a r p m l = absurd cc
  kept_code Backtick b a r p m l = absurd cc
  kept_code HeredocStart b a r p m l = absurd cc
  kept_code AttributeOpen b a r p m l = absurd cc
  kept_code Piece b a r p m l = absurd cc
  kept_code CurlyOpen b a r p m l = absurd cc
  kept_code DollarBrace b a r p m l = absurd cc
  kept_code VarName b a r p m l = absurd cc
  kept_code QuotedEnd b a r p m l = absurd cc
  kept_code InlineHtml b a r p m l = absurd (let e = longest_meets is_inline V74 code (b ∷ a) r InlineHtml refl l in cc)
    where
      is_inline : Kind → Bool
      is_inline InlineHtml = true
      is_inline _ = false
  kept_code Text b a r p m l = kept_text b a (in_quotes b a) refl
  kept_code Op b a r p m l = kept_op b a (nat_eq b 40) (nat_eq b 41) (nat_eq b 123) (nat_eq b 125) refl refl refl refl (no_mark b a r (m refl) l)
  kept_code kind b a r p m l = means.codes kind b a refl

  pub kept : (h : Bool) (kind : Kind) (b : ℕ) (a r : List ℕ) → is_code_kind (token_like kind) ≡ true
      → (is_op (token_like kind) ≡ true → is_marked (b ∷ a) ≡ false)
      → IsLongest V74 (mode_of h) (b ∷ a ++ r) kind (suc (length a))
      → IsRewrittenTo false (any_stops (tile kind b a ∷ [])) (mode_of h) (mode_of (leaves_html (token_like kind)))
      (tile kind b a ∷ []) (tile kind b a ∷ [])
  kept true kind b a r p m l = kept_html kind b a r l
  kept false kind b a r p m l = kept_code kind b a r p m l

  pub like_clean : (kind : Kind) (b : ℕ) (a : List ℕ) → is_code_kind (token_like kind) ≡ true → is_clean kind b a ≡ true
  like_clean DollarBrace b a p = absurd cc
  like_clean Comment b a p = absurd cc
  like_clean kind b a p = refl

  pub op_stops : (kind : Kind) → is_op (token_like kind) ≡ true → stops_cast kind ≡ true
  op_stops Op p = refl
  op_stops kind p = absurd cc
