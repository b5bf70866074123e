-- The joined bytes of tiles have the tokens that the tiles spell.
use Rattle.std.proofs.Common.{◌≡◌, ℕ, suc, Option, Some, None, List, [], ◌∷◌, ◌++◌, length, take, drop, refl, sym, ap, ◌∙◌, subst}
use Rattle.std.proofs.Math.Seq.{take-append_seam, drop-append_seam}
use Rattle.php_tree.specs.declared.version.Version.{Version}
use Rattle.php_tree.specs.declared.token.TokenKind.{TokenKind}
use Rattle.php_spellings.specs.declared.table.Kind.{Kind}
use Rattle.php_spellings.specs.Words.{token_of}
use Rattle.php_lexer.specs.Modes.{IsLongest}
use Rattle.php_lexer.specs.Lexed.{Stack, Lexed, ends, trivia, token, after}
use Rattle.php_relexing.specs.Tiles.{Tile, joined}
use Rattle.php_relexing.specs.Spelled.{Steps, done, step, lexeme_with, spelled, TilesAreTokens}

module _ (v : Version) (stack : Stack) (lead : List ℕ) (kind : Kind) (b : ℕ) (a : List ℕ) (ts : List Tile)
    (h : IsLongest v stack.top (b ∷ a ++ joined ts) kind (suc (length a)))
    (rest : (l : List ℕ) → Lexed v (after v stack kind (suc (length a)) (b ∷ a ++ joined ts)) l (joined ts)
    (spelled l ts)) where
  next : Stack
  next = after v stack kind (suc (length a)) (b ∷ a ++ joined ts)

  front : b ∷ take (length a) (a ++ joined ts) ≡ b ∷ a
  front = ap (λ (u : List ℕ). b ∷ u) (take-append_seam a (joined ts))

  back : drop (length a) (a ++ joined ts) ≡ joined ts
  back = drop-append_seam a (joined ts)

  by_kind : (o : Option TokenKind) → token_of kind (b ∷ a) ≡ o → Lexed v stack lead (b ∷ a ++ joined ts) (lexeme_with o lead (b ∷ a) (λ l. spelled l ts))
  by_kind None e =
      let none : token_of kind (b ∷ take (length a) (a ++ joined ts)) ≡ None = ap (λ (u : List ℕ). token_of kind u) front ∙ e in
      trivia kind (suc (length a)) h none (subst (λ (u : List ℕ). Lexed v
      (after v stack kind (suc (length a)) (b ∷ a ++ joined ts)) (lead ++ u) (drop (length a) (a ++ joined ts))
      (spelled (lead ++ b ∷ a) ts)) (sym front)
      (subst (λ (u : List ℕ). Lexed v (after v stack kind (suc (length a)) (b ∷ a ++ joined ts)) (lead ++ b ∷ a) u
      (spelled (lead ++ b ∷ a) ts)) (sym back) (rest (lead ++ b ∷ a))))
  by_kind (Some k) e =
      let some : token_of kind (b ∷ take (length a) (a ++ joined ts)) ≡ Some k = ap (λ (u : List ℕ). token_of kind u) front ∙ e in
      subst (λ (u : List ℕ). Lexed v stack lead (b ∷ a ++ joined ts) (record { kind = k; lead = lead; text = u } ∷ spelled [] ts)) front
      (token kind (suc (length a)) k h some (subst (λ (u : List ℕ). Lexed v (after v stack kind (suc (length a)) (b ∷ a ++ joined ts)) [] u (spelled [] ts)) (sym back) (rest [])))

lexed_of : {v : Version} {stack : Stack} {ts : List Tile} → Steps v stack ts → (lead : List ℕ) → Lexed v stack lead (joined ts) (spelled lead ts)
lexed_of (done d) lead = ends refl d
lexed_of (step {version = v} {stack = stack} kind b a ts h rest) lead = by_kind v stack lead kind b a ts h (λ l. lexed_of rest l) (token_of kind (b ∷ a)) refl

pub tiles_are_tokens : TilesAreTokens
tiles_are_tokens version stack ts lead steps = lexed_of steps lead
