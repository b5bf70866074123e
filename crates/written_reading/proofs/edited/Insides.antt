-- Code between two tokens, up to the second one.
use Rattle.std.proofs.Common.{◌≡◌, ℕ, Bool, true, false, List, [], ◌∷◌, ◌++◌, map, Some, refl, sym, ap, ◌∙◌, subst, append_assoc}
use Rattle.php_tree.specs.declared.version.Version.TheVariants.{V74}
use Rattle.php_tree.specs.declared.token.Token.{Token}
use Rattle.php_spellings.specs.declared.table.Kind.{Kind}
use Rattle.php_spellings.specs.Words.{token_of}
use Rattle.php_lexer.specs.Modes.{Mode, code}
use Rattle.php_lexer.specs.Lexed.{Lexeme, lexeme}
use Rattle.php_relexing.specs.Tiles.{Tile, tile, joined}
use Rattle.php_relexing.specs.Spelled.{Steps, spelled}
use Rattle.tracked_changes.specs.Pieces.{after}
use Rattle.tracked_changes.specs.Draft.{NewToken}
use Rattle.syntax_rules.specs.HashComment.{outside, spaced}
use Rattle.written_tokens.specs.tokens.Written.{new_lexeme}
use Rattle.written_tokens.specs.tokens.Levels.{stack_of}
use Rattle.written_tokens.specs.tiles.IsRewrittenTo.{IsRewrittenTo, RewritingsJoin}
use Rattle.written_tokens.specs.tiles.Going.{any_stops}
use Rattle.written_tokens.specs.tiles.Edits.{all_trivia}
use Rattle.written_tokens.specs.names.Fronts.{Front}
use Rattle.written_tokens.specs.names.Leads.{spaced_trivia}
use Rattle.rewritten_shapes.specs.paired.Tokens.{is_edge}
use Rattle.written_reading.specs.edited.Rows.{all_clean}
use Rattle.written_reading.proofs.edited.Spelling.{Spells, spells_join, led_spells, step_longest}
use Rattle.written_reading.proofs.edited.TileFacts.{mode_of, html_behind, clean_append}
use Rattle.written_reading.proofs.edited.WrittenAs.{Filled, Row, has_more, WrittenAs, steps_left, becomes_both}
use Rattle.written_reading.proofs.edited.TileKinds.{in_code}
use Rattle.written_reading.proofs.edited.Leads.{inner_mode, clean_trivia, front_of, Means, front_becomes, steps_inner, lead_written}

-- The tiles of the tokens ss up to the token u, which become those of ts up to what u becomes.
pub record Inside (ts : List NewToken) (u : Token) (tiles : List Tile) (more : List Lexeme) (below : List Mode) (depth : ℕ) : Type 0 where
  pub xs : List Tile
  pub kind : Kind
  pub b : ℕ
  pub a : List ℕ
  pub rest : List Tile
  pub split : tiles ≡ xs ++ tile kind b a ∷ rest
  pub left : spelled [] rest ≡ more
  pub is : token_of kind (b ∷ a) ≡ Some u.kind
  pub text : b ∷ a ≡ u.text
  pub steps : Steps V74 (stack_of code below depth) (tile kind b a ∷ rest)
  pub ys : List Tile
  pub clean : all_clean ys ≡ true
  pub row : IsRewrittenTo false (any_stops xs) code code xs ys
  pub spells :
      (n : NewToken) (k : Kind) (c : ℕ) (e : List ℕ) →
      n.lead ≡ spaced outside u.lead →
      token_of k (c ∷ e) ≡ Some n.kind →
      c ∷ e ≡ after n.text →
      (us : List Tile) (ls : List Lexeme) →
      Spells us ls →
      Spells (ys ++ tile k c e ∷ us) (map new_lexeme ts ++ new_lexeme n ∷ ls)

-- The trivia before a token that stands in code, where no other token comes first.
pub record Last (h : Bool) (u : Token) (tiles : List Tile) (more : List Lexeme) (below : List Mode) (depth : ℕ) : Type 0 where
  pub xs : List Tile
  pub kind : Kind
  pub b : ℕ
  pub a : List ℕ
  pub rest : List Tile
  pub split : tiles ≡ xs ++ tile kind b a ∷ rest
  pub left : spelled [] rest ≡ more
  pub is : token_of kind (b ∷ a) ≡ Some u.kind
  pub text : b ∷ a ≡ u.text
  pub steps : Steps V74 (stack_of code below depth) (tile kind b a ∷ rest)
  pub plain : all_trivia xs ≡ true
  pub ys : List Tile
  pub free : all_trivia ys ≡ true
  pub lead : joined ys ≡ after (spaced outside u.lead)
  pub clean : all_clean ys ≡ true
  pub row : IsRewrittenTo false (any_stops xs) (mode_of h) code xs ys

pub last_of : Means → (below : List Mode) (depth : ℕ) (h : Bool) (u : Token) (tiles : List Tile) (more : List Lexeme)
    → is_edge u.kind ≡ false → has_more more ≡ true → Steps V74 (stack_of (mode_of h) below depth) tiles
    → spelled [] tiles ≡ lexeme u ∷ more → Last h u tiles more below depth
last_of means below depth h u tiles more edge m steps same =
    let f : Front [] tiles (lexeme u) more = front_of means.front tiles (lexeme u) more m same in
    let behind = steps_inner means h below depth tiles (lexeme u) more f steps in
    let coded : inner_mode h f.trivia ≡ false =
    in_code (inner_mode h f.trivia) f.kind f.b f.a (joined f.rest) u.kind f.is edge (step_longest behind) in
    record {
      xs = f.trivia;
      kind = f.kind;
      b = f.b;
      a = f.a;
      rest = f.rest;
      split = f.whole;
      left = f.tokens;
      is = f.is;
      text = f.text;
      steps = subst (λ (x : Bool). Steps V74 (stack_of (mode_of x) below depth) (tile f.kind f.b f.a ∷ f.rest)) coded behind;
      plain = f.free;
      ys = spaced_trivia f.trivia;
      free = (means.spaced f.trivia f.free).0;
      lead = lead_written means h below depth tiles (lexeme u) more f steps;
      clean = clean_trivia (spaced_trivia f.trivia) (means.spaced f.trivia f.free).0 (means.spaced f.trivia f.free).1;
      row = subst (λ (x : Bool). IsRewrittenTo false (any_stops f.trivia) (mode_of h) (mode_of x) f.trivia (spaced_trivia f.trivia)) coded
          (front_becomes means h below depth tiles (lexeme u) more f steps);
    }

module _ (means : Means) (join : RewritingsJoin) (below : List Mode) (depth : ℕ) (u : Token) (more : List Lexeme) where
  inside_none : (ts : List NewToken) (tiles : List Tile) → ts ≡ [] → Last false u tiles more below depth → Inside ts u tiles more below depth
  inside_none ts tiles none l = record {
    xs = l.xs;
    kind = l.kind;
    b = l.b;
    a = l.a;
    rest = l.rest;
    split = l.split;
    left = l.left;
    is = l.is;
    text = l.text;
    steps = l.steps;
    ys = l.ys;
    clean = l.clean;
    row = l.row;
    spells = λ n k c e lead is text us ls p.
        subst (λ (x : List NewToken). Spells (l.ys ++ tile k c e ∷ us) (map new_lexeme x ++ new_lexeme n ∷ ls)) (sym none)
        (led_spells l.ys l.free k c e (new_lexeme n) (l.lead ∙ ap after (sym lead)) is text us ls p);
  }

  inside_some : (stop : Bool) (s : Token) (ss : List Token) (ts : List NewToken) (tiles : List Tile)
      → (f : Filled false stop s ss ts tiles (lexeme u ∷ more))
      → Last (html_behind false (s ∷ ss)) u f.rest more below depth → Inside ts u tiles more below depth
  inside_some stop s ss ts tiles f l =
      let one = tile f.kind f.b f.a ∷ f.body in
      let new = tile f.k f.c f.e ∷ f.us in
      record {
        xs = f.trivia ++ (one ++ l.xs);
        kind = l.kind;
        b = l.b;
        a = l.a;
        rest = l.rest;
        split =
            f.split
            ∙ ap (λ (x : List Tile). f.trivia ++ (one ++ x)) l.split
            ∙ ap (λ (x : List Tile). f.trivia ++ x) (sym (append_assoc one l.xs (tile l.kind l.b l.a ∷ l.rest)))
            ∙ sym (append_assoc f.trivia (one ++ l.xs) (tile l.kind l.b l.a ∷ l.rest));
        left = l.left;
        is = l.is;
        text = l.text;
        steps = l.steps;
        ys = f.spaced ++ (new ++ l.ys);
        clean = clean_append f.spaced (new ++ l.ys) f.clean_lead (clean_append new l.ys f.clean l.clean);
        row = becomes_both join code (mode_of f.inner) code f.trivia f.spaced (one ++ l.xs) (new ++ l.ys) f.lead
            (becomes_both join (mode_of f.inner) (mode_of (html_behind false (s ∷ ss))) code one new l.xs l.ys f.row l.row);
        spells = λ n k c e lead is text us ls p.
            subst (λ (x : List Tile). Spells x (map new_lexeme ts ++ new_lexeme n ∷ ls))
            (sym (append_assoc f.spaced (new ++ l.ys) (tile k c e ∷ us) ∙ ap (λ (x : List Tile). f.spaced ++ x) (append_assoc new l.ys (tile k c e ∷ us))))
            (subst (λ (x : List NewToken). Spells (f.spaced ++ (new ++ (l.ys ++ tile k c e ∷ us))) (map new_lexeme x ++ new_lexeme n ∷ ls)) (sym f.tokens)
            (led_spells f.spaced f.free f.k f.c f.e (new_lexeme f.first) f.lead_is f.kind_is f.text_is
            (f.us ++ (l.ys ++ tile k c e ∷ us)) (map new_lexeme f.others ++ new_lexeme n ∷ ls)
            (spells_join f.us (l.ys ++ tile k c e ∷ us) (map new_lexeme f.others) (new_lexeme n ∷ ls) f.spells
            (led_spells l.ys l.free k c e (new_lexeme n) (l.lead ∙ ap after (sym lead)) is text us ls p))));
      }

  inside_row : (stop : Bool) (ss : List Token) (ts : List NewToken) (tiles : List Tile) → is_edge u.kind ≡ false
      → has_more more ≡ true → Steps V74 (stack_of code below depth) tiles → spelled [] tiles ≡ map lexeme ss
      ++ lexeme u ∷ more → Row false stop ss ts tiles (lexeme u ∷ more) → Inside ts u tiles more below depth
  inside_row stop [] ts tiles edge m steps same r = inside_none ts tiles r.1 (last_of means below depth false u tiles more edge m steps same)
  inside_row stop (s ∷ ss) ts tiles edge m steps same r =
      inside_some stop s ss ts tiles r
      (last_of means below depth (html_behind false (s ∷ ss)) u r.rest more edge m (steps_left r below depth steps) r.left)

  -- code up to a token
  pub inside : (stop : Bool) (ss : List Token) (ts : List NewToken) (tiles : List Tile) → is_edge u.kind ≡ false
      → WrittenAs false stop ss ts → has_more more ≡ true → Steps V74 (stack_of code below depth) tiles
      → spelled [] tiles ≡ map lexeme ss ++ lexeme u ∷ more → Inside ts u tiles more below depth
  inside stop ss ts tiles edge written_as m steps same =
      inside_row stop ss ts tiles edge m steps same (written_as below depth tiles (lexeme u ∷ more) refl steps same)
