-- Casts that are edited.
use Rattle.std.proofs.Common.{◌≡◌, ℕ, Bool, true, false, List, [], ◌∷◌, ◌++◌, codes, Some, refl, sym, ap, ◌∙◌, subst, append_assoc}
use Rattle.php_tree.specs.declared.version.Version.TheVariants.{V74}
use Rattle.php_tree.specs.declared.token.Token.{Token}
use Rattle.php_tree.specs.declared.token.TokenKind.{TokenKind}
use Rattle.php_tree.specs.declared.token.TokenKind.TheVariants as token
use Rattle.php_spellings.specs.declared.table.Kind.{Kind}
use Rattle.php_spellings.specs.declared.table.Kind.TheVariants.{Word, Variable, Cast, Op}
use Rattle.php_lexer.specs.Modes.{Mode, code}
use Rattle.php_lexer.specs.Lexed.{Lexeme, lexeme}
use Rattle.php_relexing.specs.Tiles.{Tile, tile, joined}
use Rattle.php_relexing.specs.Spelled.{Steps}
use Rattle.tracked_changes.specs.Pieces.{after}
use Rattle.tracked_changes.specs.Draft.{NewToken}
use Rattle.syntax_rules.specs.HashComment.{outside, spaced}
use Rattle.written_tokens.specs.tokens.Written.{new_lexeme}
use Rattle.written_tokens.specs.tokens.Levels.{stack_of}
use Rattle.written_tokens.specs.tiles.IsRewrittenTo.{IsRewrittenTo}
use Rattle.written_tokens.specs.tiles.Going.{any_stops}
use Rattle.written_tokens.specs.tiles.Edits.{between, CastsBecomeFloat, CastsBecomeNull}
use Rattle.written_tokens.specs.names.Fronts.{Front}
use Rattle.rewritten_shapes.specs.paired.Tokens.{is_edge}
use Rattle.written_reading.proofs.edited.Spelling.{Spells, step_longest, step_behind}
use Rattle.written_reading.proofs.edited.TileFacts.{mode_of, leaves_html, stays_open, gap_append}
use Rattle.written_reading.proofs.edited.WrittenAs.{Filled, WrittenAs}
use Rattle.written_reading.proofs.edited.TileKinds.{in_code, cast_tile, variable_tile}
use Rattle.written_reading.proofs.edited.Leads.{inner_mode, front_of, Means, steps_inner, filled_one}
use Rattle.written_reading.proofs.edited.Insides.{Last, last_of}

cast_edge : (t : Token) → t.kind ≡ token.Cast → is_edge t.kind ≡ false
cast_edge t h = ap is_edge h

-- ---- `(real)`

-- a token `(float)` in place of the cast
pub record IsFloat (t : Token) (n : NewToken) : Type 0 where
  pub lead : n.lead ≡ spaced outside t.lead
  pub kind : n.kind ≡ token.Cast
  pub text : after n.text ≡ codes "(float)"

pub float_written_as : Means → CastsBecomeFloat → (h : Bool) (t : Token) (n : NewToken) → t.kind ≡ token.Cast → IsFloat t n → WrittenAs h false (t ∷ []) (n ∷ [])
float_written_as means law h t n cast new below depth tiles more m steps same =
    let f : Front [] tiles (lexeme t) more = front_of means.front tiles (lexeme t) more m same in
    let long = step_longest (steps_inner means h below depth tiles (lexeme t) more f steps) in
    let coded : inner_mode h f.trivia ≡ false = in_code (inner_mode h f.trivia) f.kind f.b f.a (joined f.rest) t.kind f.is (cast_edge t cast) long in
    let kind : f.kind ≡ Cast = cast_tile f.kind (f.b ∷ f.a) t.kind cast f.is in
    filled_one means h false below depth t n tiles more steps f Cast 40 (codes "float)") new.lead
    (ap Some (sym new.kind)) (sym new.text) (λ x. absurd cc)
    (subst (λ (x : Kind). stays_open (tile x f.b f.a ∷ []) ≡ true) (sym kind) refl) refl
    (subst (λ (x : Bool). IsRewrittenTo false (any_stops (tile f.kind f.b f.a ∷ [])) (mode_of x)
    (mode_of (leaves_html t.kind)) (tile f.kind f.b f.a ∷ []) (tile Cast 40 (codes "float)") ∷ [])) (sym coded)
    (subst (λ (x : TokenKind). IsRewrittenTo false (any_stops (tile f.kind f.b f.a ∷ [])) code (mode_of (leaves_html x))
    (tile f.kind f.b f.a ∷ []) (tile Cast 40 (codes "float)") ∷ [])) (sym cast)
    (subst (λ (x : Kind). IsRewrittenTo false (any_stops (tile x f.b f.a ∷ [])) code code (tile x f.b f.a ∷ []) (tile Cast 40 (codes "float)") ∷ [])) (sym kind) (law f.b f.a))))

-- ---- `(unset)`

-- the three tokens `(null)` in place of the cast and its operand
pub record IsNull (t : Token) (o n s : NewToken) : Type 0 where
  pub lead : o.lead ≡ spaced outside t.lead
  pub kind : o.kind ≡ token.Op
  pub text : after o.text ≡ codes "("
  pub null : new_lexeme n ≡ record { kind = token.Label; lead = []; text = codes "null" }
  pub shut : new_lexeme s ≡ record { kind = token.Op; lead = []; text = codes ")" }

null_spells : Spells (tile Word 110 (codes "ull") ∷ tile Op 41 [] ∷ [])
    (record { kind = token.Label; lead = []; text = codes "null" }
    ∷ record { kind = token.Op; lead = []; text = codes ")" } ∷ [])
null_spells rest = refl

null_row :
    CastsBecomeNull → (h : Bool) (t v : Token) (o n s : NewToken) (below : List Mode) (depth : ℕ) (tiles : List Tile) (more : List Lexeme) →
    t.kind ≡ token.Cast → v.kind ≡ token.Variable → IsNull t o n s →
    (l : Last h t tiles (lexeme v ∷ more) below depth) → l.kind ≡ Cast →
    (k : Last false v l.rest more below depth) → k.kind ≡ Variable →
    Filled h false t (v ∷ []) (o ∷ n ∷ s ∷ []) tiles more
null_row law h t v o n s below depth tiles more cast variable new l first k second = record {
  inner = false;
  trivia = l.xs;
  plain = l.plain;
  kind = Cast;
  b = l.b;
  a = l.a;
  body = k.xs ++ tile Variable k.b k.a ∷ [];
  rest = k.rest;
  split =
      l.split
      ∙ ap (λ (z : Kind). l.xs ++ tile z l.b l.a ∷ l.rest) first
      ∙ ap (λ (z : List Tile). l.xs ++ tile Cast l.b l.a ∷ z)
      (k.split ∙ ap (λ (z : Kind). k.xs ++ tile z k.b k.a ∷ k.rest) second ∙ sym (append_assoc k.xs (tile Variable k.b k.a ∷ []) k.rest));
  left = k.left;
  is = ap Some (sym cast);
  stopped = λ x. absurd cc;
  no_cast = refl;
  ends = gap_append false k.xs (tile Variable k.b k.a ∷ []);
  spaced = l.ys;
  k = Op;
  c = 40;
  e = [];
  us = tile Word 110 (codes "ull") ∷ tile Op 41 [] ∷ [];
  first = o;
  others = n ∷ s ∷ [];
  tokens = refl;
  free = l.free;
  lead_is = l.lead ∙ ap after (sym new.lead);
  kind_is = ap Some (sym new.kind);
  text_is = sym new.text;
  spells = subst (λ (x : Lexeme). Spells (tile Word 110 (codes "ull") ∷ tile Op 41 [] ∷ []) (x ∷ new_lexeme s ∷ [])) (sym new.null)
      (subst (λ (x : Lexeme). Spells (tile Word 110 (codes "ull") ∷ tile Op 41 [] ∷ [])
      (record { kind = token.Label; lead = []; text = codes "null" } ∷ x ∷ [])) (sym new.shut) null_spells);
  clean_lead = l.clean;
  clean = refl;
  lead = l.row;
  row = subst (λ (x : TokenKind). IsRewrittenTo false true code (mode_of (leaves_html x))
      (tile Cast l.b l.a ∷ k.xs ++ tile Variable k.b k.a ∷ []) (between 40 41 (tile Word 110 (codes "ull") ∷ [])))
      (sym variable)
      (law l.b k.b l.a k.a k.xs k.plain);
}

pub null_written_as : Means → CastsBecomeNull → (h : Bool) (t v : Token) (o n s : NewToken) → t.kind ≡ token.Cast
    → v.kind ≡ token.Variable → IsNull t o n s → WrittenAs h false (t ∷ v ∷ []) (o ∷ n ∷ s ∷ [])
null_written_as means law h t v o n s cast variable new below depth tiles more m steps same =
    let l : Last h t tiles (lexeme v ∷ more) below depth = last_of means below depth h t tiles (lexeme v ∷ more) (cast_edge t cast) refl steps same in
    let first : l.kind ≡ Cast = cast_tile l.kind (l.b ∷ l.a) t.kind cast l.is in
    let at : Steps V74 (stack_of code below depth) (tile Cast l.b l.a ∷ l.rest) =
    subst (λ (z : Kind). Steps V74 (stack_of code below depth) (tile z l.b l.a ∷ l.rest)) first l.steps in
    let behind : Steps V74 (stack_of code below depth) l.rest = step_behind at in
    let k : Last false v l.rest more below depth = last_of means below depth false v l.rest more (ap is_edge variable) m behind l.left in
    null_row law h t v o n s below depth tiles more cast variable new l first k (variable_tile k.kind (k.b ∷ k.a) v.kind variable k.is)
