-- The last token of a file that is read is its end.
use Rattle.std.proofs.Common.{◌≡◌, ℕ, List, [], ◌∷◌, ◌++◌, map, refl, sym, ◌∙◌, subst}
use Rattle.php_tree.specs.declared.version.Version.{Version}
use Rattle.php_tree.specs.declared.token.Token.{Token}
use Rattle.php_tree.specs.declared.token.TokenKind.{TokenKind}
use Rattle.php_tree.specs.declared.token.TokenKind.TheVariants as token_kind
use Rattle.php_tree.specs.Tree.{File, leaves, file_leaves}
use Rattle.php_lexer.specs.Lexed.{Lexeme, Stack, Lexed, ends, trivia, token, start, lexeme}
use Rattle.php_reading.specs.Reading.{Reads}

abbrev last_from : TokenKind → List Lexeme → TokenKind
last_from k [] = k
last_from k (x ∷ xs) = last_from x.kind xs

last_is : {v : Version} {stack : Stack} {lead bytes : List ℕ} {ts : List Lexeme} → Lexed v stack lead bytes ts → (k : TokenKind) → last_from k ts ≡ token_kind.End
last_is (ends e d) k = refl
last_is (trivia kind n h none rest) k = last_is rest k
last_is (token kind n t h is rest) k = last_is rest t

last_leaf : (k : TokenKind) (ts : List Token) (e : Token) → last_from k (map lexeme (ts ++ e ∷ [])) ≡ e.kind
last_leaf k [] e = refl
last_leaf k (t ∷ ts) e = last_leaf t.kind ts e

pub end_is_read : (v : Version) (bytes : List ℕ) (f : File) → Reads v bytes f → f.end.kind ≡ token_kind.End
end_is_read v bytes f r =
    let lexed : Lexed v start [] bytes (map lexeme (file_leaves f)) = subst (λ (ts : List Token). Lexed v start [] bytes (map lexeme ts)) r.parsed.text r.lexed.lexed in
    sym (last_leaf token_kind.End (leaves f.statements) f.end) ∙ last_is lexed token_kind.End
