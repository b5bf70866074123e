-- Tokens by their places, one more.
use Rattle.std.proofs.Common.{◌≡◌, ℕ, List, [], ◌∷◌, ◌++◌, map, All, refl, ap, ◌∙◌}
use Rattle.std.proofs.lemmas.List.{map-append}
use Rattle.std.proofs.lemmas.List.Elements.{All-push}
use Rattle.php_tree.specs.declared.token.Token.{Token}
use Rattle.php_tree.specs.declared.token.TokenKind.{TokenKind}
use Rattle.php_terminals.specs.declared.mark.Mark.{Mark}
use Rattle.php_terminals.specs.Marked.{IsMark, token_at}
use Rattle.php_lexer.specs.Views.{token_cut}

abbrev pub tokens_in : List ℕ → List Mark → List Token
tokens_in bytes ms = map (token_at bytes) ms

pub cut_is : (bytes : List ℕ) (m : Mark) (k : TokenKind) (lead at end : ℕ) → m.kind ≡ k → m.lead ≡ lead → m.start ≡ at
    → m.end ≡ end → token_at bytes m ≡ token_cut bytes k lead at end
cut_is bytes m k lead at end a b c d = rw (a, b, c, d) refl

pub one_more : (bytes : List ℕ) (ms new : List Mark) (m : Mark) (t : Token) → new ≡ ms ++ m ∷ [] → token_at bytes m ≡ t → tokens_in bytes new ≡ tokens_in bytes ms ++ t ∷ []
one_more bytes ms new m t e f = ap (tokens_in bytes) e ∙ map-append (token_at bytes) ms (m ∷ []) ∙ ap (λ (u : Token). tokens_in bytes ms ++ u ∷ []) f

pub all_more : (bytes : List ℕ) (ms new : List Mark) (m : Mark) → new ≡ ms ++ m ∷ [] → All (IsMark bytes) ms → IsMark bytes m → All (IsMark bytes) new
all_more bytes ms new m e h i = rw e (All-push (IsMark bytes) ms m h i)
