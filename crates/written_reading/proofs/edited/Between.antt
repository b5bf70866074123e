-- Code between brackets or braces.
use Rattle.std.proofs.Common.{◌≡◌, ℕ, Bool, true, false, not, nat_eq, List, [], ◌∷◌, ◌++◌, map, Some, refl, sym, ap, ◌∙◌, subst, append_assoc}
use Rattle.php_tree.specs.declared.version.Version.TheVariants.{V74}
use Rattle.php_tree.specs.declared.token.Token.{Token}
use Rattle.php_tree.specs.declared.token.TokenKind.TheVariants as token
use Rattle.php_spellings.specs.declared.table.Kind.{Kind}
use Rattle.php_spellings.specs.declared.table.Kind.TheVariants.{Op}
use Rattle.php_spellings.specs.Words.{token_of}
use Rattle.php_lexer.specs.Modes.{Mode, code}
use Rattle.php_lexer.specs.Lexed.{Lexeme, lexeme}
use Rattle.php_relexing.specs.Tiles.{Tile, tile}
use Rattle.php_relexing.specs.Spelled.{Steps}
use Rattle.tracked_changes.specs.Pieces.{after}
use Rattle.tracked_changes.specs.Draft.{NewToken}
use Rattle.syntax_rules.specs.HashComment.{outside, spaced}
use Rattle.written_tokens.specs.tokens.Levels.{stack_of}
use Rattle.written_tokens.specs.tiles.IsRewrittenTo.{IsRewrittenTo, RewritingsJoin}
use Rattle.written_tokens.specs.tiles.Going.{any_stops}
use Rattle.written_tokens.specs.tiles.Edits.{between}
use Rattle.rewritten_shapes.specs.paired.Tokens.{IsMark, is_edge}
use Rattle.written_reading.proofs.edited.Spelling.{Spells, step_behind}
use Rattle.written_reading.proofs.edited.TileFacts.{mode_of, leaves_html, html_behind, html_append, gap_append, clean_append}
use Rattle.written_reading.proofs.edited.WrittenAs.{Filled, WrittenAs, parted_spelled, more_behind, news_append}
use Rattle.written_reading.proofs.edited.TileKinds.{op_tile}
use Rattle.written_reading.proofs.edited.Leads.{Means}
use Rattle.written_reading.proofs.edited.Insides.{Inside, inside, Last, last_of}

abbrev head_of : ℕ → List ℕ → ℕ
head_of d [] = d
head_of d (x ∷ xs) = x

abbrev tail_of : List ℕ → List ℕ
tail_of [] = []
tail_of (x ∷ xs) = xs

pub tile_same : (kind : Kind) (b : ℕ) (a : List ℕ) (c : ℕ) (e : List ℕ) → b ∷ a ≡ c ∷ e → tile kind b a ≡ tile kind c e
tile_same kind b a c e h = ap (λ (l : List ℕ). tile kind (head_of b l) (tail_of l)) h

-- an operator's tile, by its text
pub mark_tile : (t : Token) (x : ℕ) → IsMark x t → (kind : Kind) (b : ℕ) (a : List ℕ) → token_of kind (b ∷ a) ≡ Some t.kind → b ∷ a ≡ t.text → tile kind b a ≡ tile Op x []
mark_tile t x mark kind b a is text =
    let same : b ∷ a ≡ x ∷ [] = text ∙ mark.text in
    ap (λ (y : Kind). tile y b a) (op_tile kind (b ∷ a) t.kind mark.kind is)
    ∙ ap (λ (y : ℕ). tile Op y a) (ap (head_of 0) same)
    ∙ ap (λ (y : List ℕ). tile Op x y) (ap tail_of same)

pub mark_edge : (t : Token) (x : ℕ) → IsMark x t → is_edge t.kind ≡ false
mark_edge t x mark = ap is_edge mark.kind

-- What the row of code between two tokens of one byte becomes.
abbrev pub BetweenIsRewritten : ℕ → ℕ → ℕ → ℕ → Type 0
BetweenIsRewritten b c x y =
    (needs stops : Bool) (ts us : List Tile) →
    IsRewrittenTo needs stops code code ts us →
    IsRewrittenTo false true code code (between b c ts) (between x y us)

-- A token of one byte leaves code above some modes.
abbrev pub OpensCode : ℕ → (List Mode → List Mode) → Type 0
OpensCode b into =
    (below : List Mode) (depth : ℕ) (rest : List Tile) →
    Steps V74 (stack_of code below depth) (tile Op b [] ∷ rest) →
    Steps V74 (stack_of code (into below) depth) rest

pub round_opens : OpensCode 40 (λ ms. ms)
round_opens below depth rest steps = step_behind steps

pub brace_opens : OpensCode 123 (λ ms. code ∷ ms)
brace_opens below depth rest steps = step_behind steps

-- an operator of one byte that is written for one of the source
pub record IsPut (x : ℕ) (t : Token) (n : NewToken) : Type 0 where
  pub lead : n.lead ≡ spaced outside t.lead
  pub kind : n.kind ≡ token.Op
  pub text : after n.text ≡ x ∷ []

module _ (means : Means) (join : RewritingsJoin) (b c x y : ℕ) (into : List Mode → List Mode) (opens : OpensCode b into)
    (law : BetweenIsRewritten b c x y) (shut : nat_eq b 41 ≡ false) where
  between_row :
      (h stop : Bool) (t u : Token) (ss : List Token) (ts : List NewToken) (n o : NewToken) (below : List Mode) (depth : ℕ) (tiles : List Tile) (more : List Lexeme) →
      IsMark b t →
      IsMark c u →
      IsPut x t n →
      IsPut y u o →
      (l : Last h t tiles (map lexeme (ss ++ u ∷ []) ++ more) below depth) →
      Inside ts u l.rest more (into below) depth →
      Filled h true t (ss ++ u ∷ []) (n ∷ (ts ++ o ∷ [])) tiles more
  between_row h stop t u ss ts n o below depth tiles more mt mu pn po l i =
      let first : tile l.kind l.b l.a ≡ tile Op b [] = mark_tile t b mt l.kind l.b l.a l.is l.text in
      let second : tile i.kind i.b i.a ≡ tile Op c [] = mark_tile u c mu i.kind i.b i.a i.is i.text in
      let coded : html_behind h (t ∷ (ss ++ u ∷ [])) ≡ false = html_append (leaves_html t.kind) ss (u ∷ []) ∙ ap leaves_html mu.kind in
      record {
        inner = false;
        trivia = l.xs;
        plain = l.plain;
        kind = Op;
        b = b;
        a = [];
        body = i.xs ++ tile Op c [] ∷ [];
        rest = i.rest;
        split =
            l.split
            ∙ ap (λ (z : Tile). l.xs ++ z ∷ l.rest) first
            ∙ ap (λ (z : List Tile). l.xs ++ tile Op b [] ∷ z)
            (i.split ∙ ap (λ (z : Tile). i.xs ++ z ∷ i.rest) second ∙ sym (append_assoc i.xs (tile Op c [] ∷ []) i.rest));
        left = i.left;
        is = ap Some (sym mt.kind);
        stopped = λ z. refl;
        no_cast = ap not shut;
        ends = gap_append false i.xs (tile Op c [] ∷ []);
        spaced = l.ys;
        k = Op;
        c = x;
        e = [];
        us = i.ys ++ tile Op y [] ∷ [];
        first = n;
        others = ts ++ o ∷ [];
        tokens = refl;
        free = l.free;
        lead_is = l.lead ∙ ap after (sym pn.lead);
        kind_is = ap Some (sym pn.kind);
        text_is = sym pn.text;
        spells = subst (Spells (i.ys ++ tile Op y [] ∷ [])) (sym (news_append ts (o ∷ [])))
            (i.spells o Op y [] po.lead (ap Some (sym po.kind)) (sym po.text) [] [] (λ rest. refl));
        clean_lead = l.clean;
        clean = clean_append i.ys (tile Op y [] ∷ []) i.clean refl;
        lead = l.row;
        row = subst (λ (z : Bool). IsRewrittenTo false true code (mode_of z) (between b c i.xs) (between x y i.ys)) (sym coded)
            (law false (any_stops i.xs) i.xs i.ys i.row);
      }

  pub between_written_as : (h stop : Bool) (t u : Token) (ss : List Token) (ts : List NewToken) (n o : NewToken)
      → IsMark b t → IsMark c u → IsPut x t n → IsPut y u o → WrittenAs false stop ss ts
      → WrittenAs h true (t ∷ (ss ++ u ∷ [])) (n ∷ (ts ++ o ∷ []))
  between_written_as h stop t u ss ts n o mt mu pn po written_as below depth tiles more m steps same =
      let l : Last h t tiles (map lexeme (ss ++ u ∷ []) ++ more) below depth =
      last_of means below depth h t tiles (map lexeme (ss ++ u ∷ []) ++ more) (mark_edge t b mt) (more_behind (ss ++ u ∷ []) more m) steps same in
      let behind : Steps V74 (stack_of code (into below) depth) l.rest =
      opens below depth l.rest (subst (λ (z : Tile). Steps V74 (stack_of code below depth) (z ∷ l.rest)) (mark_tile t b mt l.kind l.b l.a l.is l.text) l.steps) in
      between_row h stop t u ss ts n o below depth tiles more mt mu pn po l
      (inside means join (into below) depth u more stop ss ts l.rest (mark_edge u c mu) written_as m behind (l.left ∙ parted_spelled ss (u ∷ []) more))
