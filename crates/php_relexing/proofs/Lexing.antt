-- From the longest token at a place of code to the tokens of all bytes.
use Rattle.std.proofs.Common.{◌≡◌, ℕ, suc, true, false, List, [], ◌∷◌, ◌++◌, length, take, drop, Some, None, refl, sym, ap, ◌∙◌, subst, append-nil}
use Rattle.std.proofs.lemmas.Bool.{and_parts}
use Rattle.std.proofs.Math.Seq.{take-append_seam, drop-append_seam}
use Rattle.php_tree.specs.declared.version.Version.{Version}
use Rattle.php_tree.specs.declared.token.TokenKind.{TokenKind}
use Rattle.php_spellings.specs.declared.table.Kind.{Kind}
use Rattle.php_spellings.specs.declared.table.Kind.TheVariants.{Space}
use Rattle.php_spellings.specs.Bytes.{is_space, begins}
use Rattle.php_spellings.specs.Words.{token_of}
use Rattle.php_lexer.specs.Modes.{code, stay, code_mode_step, IsLongest}
use Rattle.php_lexer.specs.Lexed.{Lexeme, Stack, Lexed, trivia, token, stepped_by, after}
use Rattle.php_relexing.proofs.Spaces.{all_space, space_is}

-- code outside of any text and brace
abbrev pub plain : Stack
plain = record { top = code; below = []; depth = 0 }

module _ (v : Version) (kind : Kind) (b : ℕ) (a s : List ℕ)
    (longest : IsLongest v code (b ∷ a ++ s) kind (suc (length a))) (stays : code_mode_step kind (b ∷ a) ≡ stay code)
    (ts : List Lexeme) where
  text : b ∷ take (length a) (a ++ s) ≡ b ∷ a
  text = ap (λ (u : List ℕ). b ∷ u) (take-append_seam a s)

  same : after v plain kind (suc (length a)) (b ∷ a ++ s) ≡ plain
  same = ap (λ (u : List ℕ). stepped_by (code_mode_step kind u) plain) text ∙ ap (λ t. stepped_by t plain) stays

  behind : (lead : List ℕ) → Lexed v plain lead s ts → Lexed v (after v plain kind (suc (length a)) (b ∷ a ++ s)) lead (drop (length a) (a ++ s)) ts
  behind lead rest =
      subst (λ (x : Stack). Lexed v x lead (drop (length a) (a ++ s)) ts) (sym same)
      (subst (λ (u : List ℕ). Lexed v plain lead u ts) (sym (drop-append_seam a s)) rest)

  -- a token of code and those behind it
  pub token_before : (k : TokenKind) (lead : List ℕ) → token_of kind (b ∷ a) ≡ Some k → Lexed v plain [] s ts
      → Lexed v plain lead (b ∷ a ++ s) (record { kind = k; lead = lead; text = b ∷ a } ∷ ts)
  token_before k lead is rest =
      subst (λ (u : List ℕ). Lexed v plain lead (b ∷ a ++ s) (record { kind = k; lead = lead; text = u } ∷ ts)) text
      (token kind (suc (length a)) k longest (ap (λ (u : List ℕ). token_of kind u) text ∙ is) (behind [] rest))

  -- trivia of code and the tokens behind them
  pub trivia_before : (lead : List ℕ) → token_of kind (b ∷ a) ≡ None → Lexed v plain (lead ++ b ∷ a) s ts → Lexed v plain lead (b ∷ a ++ s) ts
  trivia_before lead is rest =
      trivia kind (suc (length a)) longest (ap (λ (u : List ℕ). token_of kind u) text ∙ is)
      (subst (λ (u : List ℕ). Lexed v (after v plain kind (suc (length a)) (b ∷ a ++ s)) (lead ++ u) (drop (length a) (a ++ s)) ts) (sym text) (behind (lead ++ b ∷ a) rest))

-- White space goes to the lead of the token behind it.
pub spaced : (v : Version) (lead a s : List ℕ) (ts : List Lexeme) → all_space a ≡ true → begins is_space s ≡ false → Lexed v plain (lead ++ a) s ts → Lexed v plain lead (a ++ s) ts
spaced v lead [] s ts all stop rest = subst (λ (u : List ℕ). Lexed v plain u s ts) (append-nil lead) rest
spaced v lead (b ∷ a) s ts all stop rest =
    let (here, more) = and_parts (is_space b) (all_space a) all in
    trivia_before v Space b a s (space_is v b a s here more stop) refl ts lead refl rest
