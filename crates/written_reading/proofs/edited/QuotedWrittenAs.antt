-- Quoted texts as parts of code.
use Rattle.std.proofs.Common.{◌≡◌, ℕ, suc, Bool, true, false, List, [], ◌∷◌, ◌++◌, map, refl, sym, ap, ◌∙◌, subst, append-nil}
use Rattle.php_tree.specs.declared.version.Version.TheVariants.{V74}
use Rattle.php_tree.specs.declared.token.Token.{Token}
use Rattle.php_tree.specs.declared.token.TokenKind.{TokenKind}
use Rattle.php_tree.specs.declared.token.TokenKind.TheVariants as token
use Rattle.php_spellings.specs.declared.table.Kind.{Kind}
use Rattle.php_spellings.specs.declared.table.Kind.TheVariants.{Quote, Backtick, HeredocStart, Op}
use Rattle.php_spellings.specs.declared.table.Mark.{Mark}
use Rattle.php_spellings.specs.declared.table.Mark.TheVariants.{Double, Back, Here}
use Rattle.php_lexer.specs.Modes.{Mode, code, quoted, label_of}
use Rattle.php_lexer.specs.Lexed.{Lexeme, lexeme}
use Rattle.php_relexing.specs.Tiles.{Tile, tile}
use Rattle.php_relexing.specs.Spelled.{Steps}
use Rattle.tracked_changes.specs.Draft.{NewToken}
use Rattle.syntax_rules.specs.HashComment.{hash_comment}
use Rattle.written_tokens.specs.tokens.Levels.{stack_of}
use Rattle.written_tokens.specs.tiles.ContinuesAs.{is_trivia}
use Rattle.written_tokens.specs.tiles.IsRewrittenTo.{gap_behind, IsRewrittenTo}
use Rattle.written_tokens.specs.tiles.Going.{any_stops}
use Rattle.written_tokens.specs.texts.TextRows.{
  TextRow,
  quote_end,
  piece,
  escaped_piece,
  variable,
  with_offset,
  with_property,
  curly,
  dollar_name,
  dollar_row,
  opens_text,
  TextsBecome,
}
use Rattle.written_tokens.proofs.texts.Stepping.{first}
use Rattle.rewritten_shapes.specs.paired.Tokens.{is_edge}
use Rattle.rewritten_shapes.specs.paired.Tokens.{opens_text as opens_token}
use Rattle.written_reading.specs.edited.Rows.{all_clean}
use Rattle.written_reading.proofs.edited.TileFacts.{mode_of, html_behind, stays_open, gap_append, clean_append}
use Rattle.written_reading.proofs.edited.WrittenAs.{Filled, WrittenAs, more_behind}
use Rattle.written_reading.proofs.edited.TileKinds.{token_like, told}
use Rattle.written_reading.proofs.edited.Leads.{Means}
use Rattle.written_reading.proofs.edited.Insides.{Last, last_of}
use Rattle.written_reading.proofs.edited.TextWrittenAs.{TextStep, TextWrittenAs}

-- a quoted text ends in a token
text_ends : {xs ys : List Tile} → TextRow xs ys → (gap : Bool) → gap_behind gap xs ≡ false
text_ends (quote_end b a) gap = refl
text_ends (piece b a h row) gap = text_ends row false
text_ends (escaped_piece b c a e h k l row) gap = text_ends row false
text_ends (variable b a row) gap = text_ends row false
text_ends (with_offset {ts} b a ks key row) gap = gap_append false ks (tile Op 93 [] ∷ ts) ∙ text_ends row false
text_ends (with_property b a c e row) gap = text_ends row false
text_ends (curly {ts} needs stops xs ys h become row) gap = gap_append false xs (tile Op 125 [] ∷ ts) ∙ text_ends row false
text_ends (dollar_name {ts} needs stops b a xs ys become row) gap = gap_append false xs (tile Op 125 [] ∷ ts) ∙ text_ends row false
text_ends (dollar_row {ts} needs stops xs ys h become row) gap = gap_append false xs (tile Op 125 [] ∷ ts) ∙ text_ends row false

-- ---- the opening token

-- What a tile that opens a quoted text tells.
record Opening (kind : Kind) (b : ℕ) (a : List ℕ) : Type 0 where
  opens : opens_text kind ≡ true
  stays : (xs : List Tile) → stays_open (tile kind b a ∷ xs) ≡ true
  stops : (xs : List Tile) → any_stops (tile kind b a ∷ xs) ≡ true
  trivia : is_trivia kind ≡ false
  clean : all_clean (tile kind b a ∷ []) ≡ true

opening_by : (kind : Kind) (b : ℕ) (a : List ℕ) → opens_token (token_like kind) ≡ true → Opening kind b a
opening_by Quote b a h = record { opens = refl; stays = λ xs. refl; stops = λ xs. refl; trivia = refl; clean = refl }
opening_by Backtick b a h = record { opens = refl; stays = λ xs. refl; stops = λ xs. refl; trivia = refl; clean = refl }
opening_by HeredocStart b a h = record { opens = refl; stays = λ xs. refl; stops = λ xs. refl; trivia = refl; clean = refl }
opening_by kind b a h = absurd cc

opening_edge : (k : TokenKind) → opens_token k ≡ true → is_edge k ≡ false
opening_edge token.Quote h = refl
opening_edge token.HeredocStart h = refl
opening_edge token.Backtick h = refl
opening_edge k h = absurd cc

-- the mode behind it
record Entered (kind : Kind) (b : ℕ) (a : List ℕ) (rest : List Tile) (below : List Mode) (depth : ℕ) : Type 0 where
  mark : Mark
  label : List ℕ
  fresh : Bool
  steps : Steps V74 (stack_of (quoted mark label fresh) (code ∷ below) (suc depth)) rest

entered : (kind : Kind) (b : ℕ) (a : List ℕ) (rest : List Tile) (below : List Mode) (depth : ℕ)
    → opens_token (token_like kind) ≡ true → Steps V74 (stack_of code below depth) (tile kind b a ∷ rest)
    → Entered kind b a rest below depth
entered Quote b a rest below depth h steps = record { mark = Double; label = []; fresh = false; steps = (first (stack_of code below depth) Quote b a rest steps).more }
entered Backtick b a rest below depth h steps = record { mark = Back; label = []; fresh = false; steps = (first (stack_of code below depth) Backtick b a rest steps).more }
entered HeredocStart b a rest below depth h steps =
    record {
      mark = Here;
      label = label_of (b ∷ a);
      fresh = true;
      steps =
          (first (stack_of code below depth) HeredocStart b a rest steps).more;
    }
entered kind b a rest below depth h steps = absurd cc

-- ---- the text

opens_row : (kind : Kind) (b : ℕ) (a : List ℕ) (us : List Tile) → all_clean (tile kind b a ∷ []) ≡ true → all_clean us ≡ true → all_clean (tile kind b a ∷ us) ≡ true
opens_row kind b a us p q = clean_append (tile kind b a ∷ []) us p q

module _ (means : Means) (law : TextsBecome) (h starts : Bool) (t : Token) (ss : List Token) (ts : List NewToken)
    (opens : opens_token t.kind ≡ true) (coded : html_behind h (t ∷ ss) ≡ false) where
  text_row : (below : List Mode) (depth : ℕ) (tiles : List Tile) (more : List Lexeme)
      → (l : Last h t tiles (map lexeme ss ++ more) below depth) → Opening l.kind l.b l.a
      → TextStep ts starts l.rest more → Filled h false t ss (hash_comment t ∷ ts) tiles more
  text_row below depth tiles more l o r = record {
    inner = false;
    trivia = l.xs;
    plain = l.plain;
    kind = l.kind;
    b = l.b;
    a = l.a;
    body = r.xs;
    rest = r.rest;
    split = l.split ∙ ap (λ (x : List Tile). l.xs ++ tile l.kind l.b l.a ∷ x) r.split;
    left = r.left;
    is = l.is;
    stopped = λ x. absurd cc;
    no_cast = o.stays r.xs;
    ends = text_ends r.row (is_trivia l.kind);
    spaced = l.ys;
    k = l.kind;
    c = l.b;
    e = l.a;
    us = r.ys;
    first = hash_comment t;
    others = ts;
    tokens = refl;
    free = l.free;
    lead_is = l.lead;
    kind_is = l.is;
    text_is = l.text ∙ sym (append-nil t.text);
    spells = r.spells;
    clean_lead = l.clean;
    clean = opens_row l.kind l.b l.a r.ys o.clean r.clean;
    lead = l.row;
    row = subst (λ (x : Bool). IsRewrittenTo false x code (mode_of (html_behind h (t ∷ ss))) (tile l.kind l.b l.a ∷ r.xs) (tile l.kind l.b l.a ∷ r.ys)) (sym (o.stops r.xs))
        (subst (λ (x : Bool). IsRewrittenTo false true code (mode_of x) (tile l.kind l.b l.a ∷ r.xs) (tile l.kind l.b l.a ∷ r.ys)) (sym coded)
        (law l.kind l.b l.a r.xs r.ys o.opens r.row));
  }

  pub quoted_written_as : TextWrittenAs starts ss ts → WrittenAs h false (t ∷ ss) (hash_comment t ∷ ts)
  quoted_written_as written_as below depth tiles more m steps same =
      let l : Last h t tiles (map lexeme ss ++ more) below depth =
      last_of means below depth h t tiles (map lexeme ss ++ more) (opening_edge t.kind opens) (more_behind ss more m) steps same in
      let like : opens_token (token_like l.kind) ≡ true = sym (told opens_token refl refl l.kind (l.b ∷ l.a) t.kind l.is) ∙ opens in
      let e : Entered l.kind l.b l.a l.rest below depth = entered l.kind l.b l.a l.rest below depth like l.steps in
      text_row below depth tiles more l (opening_by l.kind l.b l.a like)
      (written_as e.mark e.label e.fresh (code ∷ below) (suc depth) l.rest more m e.steps l.left)
