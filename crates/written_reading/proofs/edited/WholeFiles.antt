-- The row of a whole file's draft.
use Rattle.std.proofs.Common.{◌≡◌, ℕ, Bool, true, false, List, [], ◌∷◌, ◌++◌, map, refl, sym, ap, ◌∙◌, subst, append_assoc, append-nil}
use Rattle.php_tree.specs.declared.version.Version.TheVariants.{V74}
use Rattle.php_tree.specs.declared.token.Token.{Token}
use Rattle.php_tree.specs.declared.token.TokenKind.{TokenKind}
use Rattle.php_tree.specs.declared.token.TokenKind.TheVariants.{End}
use Rattle.php_tree.specs.Tree.{leaves, file_leaves}
use Rattle.php_lexer.specs.Modes.{html}
use Rattle.php_lexer.specs.Lexed.{Lexeme, start, lexeme, TokensOf}
use Rattle.php_relexing.specs.Tiles.{Tile, tile, joined}
use Rattle.php_relexing.specs.Spelled.{Steps, done, spelled}
use Rattle.php_shapes.specs.Shapes.{Shape}
use Rattle.php_shapes.proofs.Walked.{file_has_shape}
use Rattle.tracked_changes.specs.Pieces.{after}
use Rattle.tracked_changes.specs.Draft.{NewToken, Draft}
use Rattle.syntax_rules.specs.Around.{at_top}
use Rattle.syntax_rules.specs.HashComment.{outside, spaced, hash_comment}
use Rattle.syntax_rules.specs.InContext.{draft_in}
use Rattle.syntax_rules.proofs.InContext.{drafted_is}
use Rattle.written_tokens.specs.tokens.Tokens.{InARow, TokensAreTiles}
use Rattle.written_tokens.specs.tokens.Written.{new_lexeme, draft_tokens}
use Rattle.written_tokens.specs.tokens.Levels.{stack_of}
use Rattle.written_tokens.specs.tiles.ContinuesAs.{ended}
use Rattle.written_tokens.specs.tiles.IsRewrittenTo.{IsRewrittenTo}
use Rattle.written_tokens.specs.tiles.Going.{any_stops}
use Rattle.written_tokens.specs.names.Fronts.{LastFront, EndOfRow}
use Rattle.written_tokens.specs.names.Leads.{spaced_trivia}
use Rattle.rewritten_shapes.specs.paired.Tokens.{has_stop}
use Rattle.rewritten_shapes.specs.paired.Laws.{ShapedFilesArePaired}
use Rattle.written_reading.specs.edited.Rows.{all_clean, DraftsHaveRows}
use Rattle.written_reading.proofs.edited.Spelling.{trivia_spelled, led_spells}
use Rattle.written_reading.proofs.edited.TileFacts.{mode_of, html_behind, clean_append}
use Rattle.written_reading.proofs.edited.WrittenAs.{Filled, Row, WrittenAs, parted_spelled, steps_left, becomes_both}
use Rattle.written_reading.proofs.edited.Leads.{Means, inner_mode, clean_trivia, lead_becomes}
use Rattle.written_reading.proofs.edited.TreeWrittenAs.{Laws}
use Rattle.written_reading.proofs.edited.ShapedTexts.{shaped_texts}
use Rattle.written_reading.proofs.edited.Trees.{paired_written_as}

-- The row of some draft's tokens and the end of the file.
record EndedRow (ts : List NewToken) (e : Token) : Type 0 where
  row : List Tile
  steps : Steps V74 start row
  clean : all_clean row ≡ true
  same : spelled [] row ≡ map new_lexeme ts ++ new_lexeme (hash_comment e) ∷ []

-- The trivia before the end.
record Ending (h : Bool) (e : Token) (rest : List Tile) : Type 0 where
  inner : Bool
  ys : List Tile
  clean : all_clean ys ≡ true
  become : IsRewrittenTo false (any_stops rest) (mode_of h) (mode_of inner) rest ys
  same : spelled [] ys ≡ new_lexeme (hash_comment e) ∷ []

end_lexeme : (e : Token) (lead : List ℕ) → e.kind ≡ End → e.text ≡ [] → lead ≡ after (spaced outside e.lead)
    → record { kind = End; lead = lead; text = [] } ≡ new_lexeme (hash_comment e)
end_lexeme e lead is text same =
    ap (λ (x : List ℕ). record { kind = End; lead = x; text = [] }) same
    ∙ ap (λ (x : TokenKind). record { kind = x; lead = after (spaced outside e.lead); text = [] }) (sym is)
    ∙ ap (λ (x : List ℕ). record { kind = e.kind; lead = after (spaced outside e.lead); text = x ++ [] }) (sym text)

ending : Means → EndOfRow → (h : Bool) (e : Token) (rest : List Tile) → Steps V74 (stack_of (mode_of h) [] 0) rest → spelled [] rest ≡ lexeme e ∷ [] → Ending h e rest
ending means ends h e rest steps same =
    let last : LastFront [] rest (lexeme e) = ends [] rest (lexeme e) same in
    let there : Steps V74 (stack_of (mode_of h) [] 0) (rest ++ []) = subst (λ (l : List Tile). Steps V74 (stack_of (mode_of h) [] 0) l) (sym (append-nil rest)) steps in
    let own = means.spaced rest last.free in
    let lead : joined (spaced_trivia rest) ≡ after (spaced outside e.lead) =
    sym (means.written (stack_of (mode_of h) [] 0) rest [] last.free there) ∙ ap (λ (x : List ℕ). after (spaced outside x)) last.lead in
    record {
      inner = inner_mode h rest;
      ys = spaced_trivia rest;
      clean = clean_trivia (spaced_trivia rest) own.0 own.1;
      become = lead_becomes means h [] 0 rest [] last.free there;
      same =
          ap (spelled []) (sym (append-nil (spaced_trivia rest)))
          ∙ trivia_spelled (spaced_trivia rest) own.0 [] []
          ∙ ap (λ (l : Lexeme). l ∷ []) (end_lexeme e (joined (spaced_trivia rest)) last.is last.text lead);
    }

ended_row : (ts us : List Tile) (h : Bool) (s : Bool) → IsRewrittenTo false s html (mode_of h) ts us → Steps V74 start ts → Steps V74 start us
ended_row ts us h s become steps =
    subst (Steps V74 start) (append-nil us)
    (become.written false [] [] 0 0 [] [] ended (subst (Steps V74 start) (sym (append-nil ts)) steps) (done refl))

module _ (laws : Laws) (ends : EndOfRow) (e : Token) where
  ended_none : (ts : List NewToken) (tiles : List Tile) → Steps V74 start tiles → spelled [] tiles ≡ lexeme e ∷ [] → ts ≡ [] → EndedRow ts e
  ended_none ts tiles steps same none =
      let last : Ending true e tiles = ending laws.means ends true e tiles steps same in
      record {
        row = last.ys;
        steps = ended_row tiles last.ys last.inner (any_stops tiles) last.become steps;
        clean = last.clean;
        same = last.same ∙ ap (λ (l : List NewToken). map new_lexeme l ++ new_lexeme (hash_comment e) ∷ []) (sym none);
      }

  ended_some : (stop : Bool) (s : Token) (ss : List Token) (ts : List NewToken) (tiles : List Tile)
      → Steps V74 start tiles → Filled true stop s ss ts tiles (lexeme e ∷ []) → EndedRow ts e
  ended_some stop s ss ts tiles steps f =
      let one = tile f.kind f.b f.a ∷ f.body in
      let new = tile f.k f.c f.e ∷ f.us in
      let h = html_behind true (s ∷ ss) in
      let last : Ending h e f.rest = ending laws.means ends h e f.rest (steps_left f [] 0 steps) f.left in
      let old = f.trivia ++ (one ++ f.rest) in
      let written = f.spaced ++ (new ++ last.ys) in
      let all : IsRewrittenTo false (any_stops old) html (mode_of last.inner) old written =
      becomes_both laws.join html (mode_of f.inner) (mode_of last.inner) f.trivia f.spaced (one ++ f.rest) (new ++ last.ys) f.lead
      (becomes_both laws.join (mode_of f.inner) (mode_of h) (mode_of last.inner) one new f.rest last.ys f.row last.become) in
      record {
        row = written;
        steps = ended_row old written last.inner (any_stops old) all (subst (Steps V74 start) f.split steps);
        clean = clean_append f.spaced (new ++ last.ys) f.clean_lead (clean_append new last.ys f.clean last.clean);
        same =
            ap (spelled []) (sym (append_assoc f.spaced new last.ys))
            ∙ led_spells f.spaced f.free f.k f.c f.e (new_lexeme f.first) f.lead_is f.kind_is f.text_is f.us (map new_lexeme f.others) f.spells last.ys
            ∙ ap (λ (l : List Lexeme). map new_lexeme (f.first ∷ f.others) ++ l) last.same
            ∙ ap (λ (l : List NewToken). map new_lexeme l ++ new_lexeme (hash_comment e) ∷ []) (sym f.tokens);
      }

  ended_by : (stop : Bool) (ss : List Token) (ts : List NewToken) (tiles : List Tile) → Steps V74 start tiles
      → spelled [] tiles ≡ map lexeme ss ++ lexeme e ∷ [] → Row true stop ss ts tiles (lexeme e ∷ []) → EndedRow ts e
  ended_by stop [] ts tiles steps same r = ended_none ts tiles steps same r.1
  ended_by stop (s ∷ ss) ts tiles steps same r = ended_some stop s ss ts tiles steps r

pub drafts_have_rows : Laws → EndOfRow → TokensAreTiles → ShapedFilesArePaired → DraftsHaveRows
drafts_have_rows laws ends tiled shaped bytes f reads traits =
    let lexed = (subst (TokensOf V74 bytes) reads.parsed.text reads.lexed).lexed in
    let all : InARow V74 start [] bytes (map lexeme (file_leaves f)) = tiled V74 start [] bytes (map lexeme (file_leaves f)) lexed in
    let shape : Shape V74 f = (file_has_shape V74 reads.tokens f reads.parsed).0 in
    let d = draft_in at_top true f.statements in
    let same : spelled [] all.tiles ≡ map lexeme (leaves f.statements) ++ lexeme f.end ∷ [] =
    all.tokens ∙ sym (append-nil (map lexeme (file_leaves f))) ∙ parted_spelled (leaves f.statements) (f.end ∷ []) [] in
    let written_as : WrittenAs true (has_stop f.statements) (leaves f.statements) (draft_tokens d) = paired_written_as laws (shaped f shape traits) at_top true true (shaped_texts f shape) in
    let r : EndedRow (draft_tokens d) f.end =
    ended_by laws ends f.end (has_stop f.statements) (leaves f.statements) (draft_tokens d) all.tiles all.steps same
    (written_as [] 0 all.tiles (lexeme f.end ∷ []) refl all.steps same) in
    record {
      row = r.row;
      steps = r.steps;
      clean = r.clean;
      same = r.same ∙ ap (λ (x : Draft). map new_lexeme (draft_tokens x) ++ new_lexeme (hash_comment f.end) ∷ []) (sym (drafted_is f.statements));
    }
