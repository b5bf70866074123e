-- Tokens of a file whose tokens stand in their places.
use Rattle.std.proofs.Common.{◌≡◌, ℕ, List, [], ◌∷◌, ◌++◌, map, refl, sym, ap, ◌∙◌, subst, append_assoc, append-nil}
use Rattle.php_tree.specs.declared.token.Token.{Token}
use Rattle.php_tree.specs.Tree.{Forest, none, leaf, node, File, leaves, token_bytes, tokens_bytes, printed, file_leaves, file_printed}
use Rattle.php_tree.specs.Places.{behind, token_at, end_of, placed, placed_file, ArePlaced}
use Rattle.php_lexer.specs.Lexed.{Lexeme, lexeme}
use Rattle.tracked_changes.specs.Draft.{Draft, no_more, new_leaf, new_node, rewritten_token, rewritten}
use Rattle.written_tokens.specs.tokens.Written.{new_lexeme, draft_tokens, RewrittenHasTokens}

-- ---- places

placed_leaves : (at : ℕ) (f : Forest) (rest : List Token) → ArePlaced (end_of at f) rest → ArePlaced at (leaves (placed at f) ++ rest)
placed_leaves at none rest h = h
placed_leaves at (leaf t f) rest h = (refl, placed_leaves (behind at t) f rest h)
placed_leaves at (node k c f) rest h =
    subst (λ (ts : List Token). ArePlaced at ts) (sym (append_assoc (leaves (placed at c)) (leaves (placed (end_of at c) f)) rest))
    (placed_leaves at c (leaves (placed (end_of at c) f) ++ rest) (placed_leaves (end_of at c) f rest h))

pub file_placed : (f : File) → ArePlaced 0 (file_leaves (placed_file f))
file_placed f = placed_leaves 0 f.statements (token_at (end_of 0 f.statements) f.end ∷ []) (refl, tt)

-- ---- bytes

bytes_append : (ts us : List Token) → tokens_bytes (ts ++ us) ≡ tokens_bytes ts ++ tokens_bytes us
bytes_append [] us = refl
bytes_append (t ∷ ts) us = ap (λ (l : List ℕ). token_bytes t ++ l) (bytes_append ts us) ∙ sym (append_assoc (token_bytes t) (tokens_bytes ts) (tokens_bytes us))

printed_leaves : (f : Forest) → tokens_bytes (leaves f) ≡ printed f
printed_leaves none = refl
printed_leaves (leaf t f) = ap (λ (l : List ℕ). token_bytes t ++ l) (printed_leaves f)
printed_leaves (node k c f) =
    bytes_append (leaves c) (leaves f)
    ∙ ap (λ (l : List ℕ). l ++ tokens_bytes (leaves f)) (printed_leaves c)
    ∙ ap (λ (l : List ℕ). printed c ++ l) (printed_leaves f)

pub file_bytes : (f : File) → tokens_bytes (file_leaves f) ≡ file_printed f
file_bytes f =
    bytes_append (leaves f.statements) (f.end ∷ [])
    ∙ ap (λ (l : List ℕ). l ++ tokens_bytes (f.end ∷ [])) (printed_leaves f.statements)
    ∙ ap (λ (l : List ℕ). printed f.statements ++ l) (append-nil (token_bytes f.end))

-- ---- the tokens of a draft

map_append : {A B : Type 0} (g : A → B) (xs ys : List A) → map g (xs ++ ys) ≡ map g xs ++ map g ys
map_append g [] ys = refl
map_append g (x ∷ xs) ys = ap (λ l. g x ∷ l) (map_append g xs ys)

lexemes_placed : (at : ℕ) (f : Forest) → map lexeme (leaves (placed at f)) ≡ map lexeme (leaves f)
lexemes_placed at none = refl
lexemes_placed at (leaf t f) = ap (λ (l : List Lexeme). lexeme t ∷ l) (lexemes_placed (behind at t) f)
lexemes_placed at (node k c f) =
    map_append lexeme (leaves (placed at c)) (leaves (placed (end_of at c) f))
    ∙ ap (λ (l : List Lexeme). l ++ map lexeme (leaves (placed (end_of at c) f))) (lexemes_placed at c)
    ∙ ap (λ (l : List Lexeme). map lexeme (leaves c) ++ l) (lexemes_placed (end_of at c) f)
    ∙ sym (map_append lexeme (leaves c) (leaves f))

lexemes_drafted : (d : Draft) → map lexeme (leaves (rewritten d)) ≡ map new_lexeme (draft_tokens d)
lexemes_drafted no_more = refl
lexemes_drafted (new_leaf t d) = ap (λ (l : List Lexeme). new_lexeme t ∷ l) (lexemes_drafted d)
lexemes_drafted (new_node k c d) =
    map_append lexeme (leaves (rewritten c)) (leaves (rewritten d))
    ∙ ap (λ (l : List Lexeme). l ++ map lexeme (leaves (rewritten d))) (lexemes_drafted c)
    ∙ ap (λ (l : List Lexeme). map new_lexeme (draft_tokens c) ++ l) (lexemes_drafted d)
    ∙ sym (map_append new_lexeme (draft_tokens c) (draft_tokens d))

pub rewritten_has_tokens : RewrittenHasTokens
rewritten_has_tokens d =
    map_append lexeme (leaves (placed 0 (rewritten d.statements))) (token_at (end_of 0 (rewritten d.statements)) (rewritten_token d.end) ∷ [])
    ∙ ap (λ (l : List Lexeme). l ++ new_lexeme d.end ∷ []) (lexemes_placed 0 (rewritten d.statements) ∙ lexemes_drafted d.statements)
    ∙ sym (map_append new_lexeme (draft_tokens d.statements) (d.end ∷ []))
