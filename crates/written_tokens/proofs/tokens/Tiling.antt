-- The tokens of any bytes stand in a row with their trivia.
use Rattle.std.proofs.Common.{◌≡◌, ℕ, zero, suc, ◌<◌, ◌≤◌, List, [], ◌∷◌, ◌++◌, length, take, drop, Some, None, refl, sym, ap, ◌∙◌, subst, arith}
use Rattle.std.proofs.lemmas.List.{take-append-drop}
use Rattle.php_tree.specs.declared.version.Version.{Version}
use Rattle.php_tree.specs.declared.token.TokenKind.{TokenKind}
use Rattle.php_spellings.specs.declared.table.Kind.{Kind}
use Rattle.php_spellings.specs.Words.{token_of}
use Rattle.php_lexer.specs.Modes.{IsLongest}
use Rattle.php_lexer.specs.Lexed.{Lexeme, Stack, Lexed, ends, trivia, token, after}
use Rattle.php_lexer.proofs.Longest.{longest_some}
use Rattle.php_relexing.specs.Tiles.{Tile, tile, joined}
use Rattle.php_relexing.specs.Spelled.{Steps, done, step}
use Rattle.written_tokens.specs.tokens.Tokens.{InARow, TokensAreTiles}

take_size : (m : ℕ) (bs : List ℕ) → m ≤ length bs → length (take m bs) ≡ m
take_size zero bs le = refl
take_size (suc m) [] le = absurd (omega arith)
take_size (suc m) (b ∷ bs) le = let ih = take_size m bs (omega arith) in omega arith

module _ (v : Version) (stack : Stack) (kind : Kind) (b m : ℕ) (bs : List ℕ)
    (h : IsLongest v stack.top (b ∷ bs) kind (suc m)) (ts : List Tile) (same : joined ts ≡ drop m bs)
    (rest : Steps v (after v stack kind (suc m) (b ∷ bs)) ts) where
  whole : take m bs ++ joined ts ≡ bs
  whole = ap (λ (u : List ℕ). take m bs ++ u) same ∙ take-append-drop m bs

  size : length (take m bs) ≡ m
  size = take_size m bs (let w = h.within in omega arith)

  abbrev Here : ℕ → List ℕ → Type 0
  Here n u = IsLongest v stack.top (b ∷ u) kind (suc n) × Steps v (after v stack kind (suc n) (b ∷ u)) ts

  placed : Here (length (take m bs)) (take m bs ++ joined ts)
  placed = subst (λ (n : ℕ). Here n (take m bs ++ joined ts)) (sym size) (subst (λ (u : List ℕ). Here m u) (sym whole) (h, rest))

  pub steps : Steps v stack (tile kind b (take m bs) ∷ ts)
  steps = step kind b (take m bs) ts placed.0 placed.1

  pub joins : joined (tile kind b (take m bs) ∷ ts) ≡ b ∷ bs
  joins = ap (λ (u : List ℕ). b ∷ u) whole

trivia_row : (v : Version) (stack : Stack) (lead bytes : List ℕ) (ts : List Lexeme) (kind : Kind) (n : ℕ)
    → IsLongest v stack.top bytes kind n → 0 < n → token_of kind (take n bytes) ≡ None
    → InARow v (after v stack kind n bytes) (lead ++ take n bytes) (drop n bytes) ts → InARow v stack lead bytes ts
trivia_row v stack lead bytes ts kind zero h some none ih = absurd (omega arith)
trivia_row v stack lead [] ts kind (suc m) h some none ih = absurd (let w = h.within in omega arith)
trivia_row v stack lead (b ∷ bs) ts kind (suc m) h some none ih = record {
  tiles = tile kind b (take m bs) ∷ ih.tiles;
  steps = steps v stack kind b m bs h ih.tiles ih.whole ih.steps;
  whole = joins v stack kind b m bs h ih.tiles ih.whole ih.steps;
  tokens = rw none ih.tokens;
}

token_row : (v : Version) (stack : Stack) (lead bytes : List ℕ) (ts : List Lexeme) (kind : Kind) (n : ℕ)
    (t : TokenKind) → IsLongest v stack.top bytes kind n → 0 < n → token_of kind (take n bytes) ≡ Some t
    → InARow v (after v stack kind n bytes) [] (drop n bytes) ts
    → InARow v stack lead bytes (record { kind = t; lead = lead; text = take n bytes } ∷ ts)
token_row v stack lead bytes ts kind zero t h some is ih = absurd (omega arith)
token_row v stack lead [] ts kind (suc m) t h some is ih = absurd (let w = h.within in omega arith)
token_row v stack lead (b ∷ bs) ts kind (suc m) t h some is ih = record {
  tiles = tile kind b (take m bs) ∷ ih.tiles;
  steps = steps v stack kind b m bs h ih.tiles ih.whole ih.steps;
  whole = joins v stack kind b m bs h ih.tiles ih.whole ih.steps;
  tokens = rw is (ap (λ (l : List Lexeme). record { kind = t; lead = lead; text = b ∷ take m bs } ∷ l) ih.tokens);
}

row_of : {v : Version} {stack : Stack} {lead bytes : List ℕ} {ts : List Lexeme} → Lexed v stack lead bytes ts → InARow v stack lead bytes ts
row_of (ends e d) = record { tiles = []; steps = done d; whole = sym e; tokens = refl }
row_of (trivia {version = v} {stack} {lead} {bytes} {ts} kind n h none rest) =
    trivia_row v stack lead bytes ts kind n h (longest_some v stack.top bytes kind n h) none (row_of rest)
row_of (token {version = v} {stack} {lead} {bytes} {ts} kind n t h is rest) = token_row v stack lead bytes ts kind n t h (longest_some v stack.top bytes kind n h) is (row_of rest)

pub tokens_are_tiles : TokensAreTiles
tokens_are_tiles v stack lead bytes ts h = row_of h
