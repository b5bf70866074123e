-- What is printed, and the bytes of tokens.
use Rattle.std.proofs.Common.{◌≡◌, List, [], ◌∷◌, ◌++◌, ℕ, ◌+◌, length, refl, sym, ap, ◌∙◌, append_assoc, arith, length-append}
use Rattle.std.specs.Prelude.{IsTrue}
use Rattle.std.proofs.lemmas.Grind.{common_steps}
use Rattle.php_tree.specs.Places.{are_placed, behind}
use Rattle.php_tree.specs.declared.token.Token.{Token}
use Rattle.php_tree.specs.Tree.{Forest, File, none, leaf, node, leaves, printed, token_bytes, tokens_bytes, file_leaves, file_printed}

pub tokens_append : (xs ys : List Token) → tokens_bytes (xs ++ ys) ≡ tokens_bytes xs ++ tokens_bytes ys
tokens_append [] ys = refl
tokens_append (x ∷ xs) ys = ap (λ (bs : List ℕ). token_bytes x ++ bs) (tokens_append xs ys) ∙ sym (append_assoc (token_bytes x) (tokens_bytes xs) (tokens_bytes ys))

pub printed_tokens : (f : Forest) → printed f ≡ tokens_bytes (leaves f)
printed_tokens none = refl
printed_tokens (leaf t f) = ap (λ (bs : List ℕ). token_bytes t ++ bs) (printed_tokens f)
printed_tokens (node k c f) =
    ap (λ (bs : List ℕ). bs ++ printed f) (printed_tokens c) ∙ ap (λ (bs : List ℕ). tokens_bytes (leaves c) ++ bs) (printed_tokens f) ∙ sym (tokens_append (leaves c) (leaves f))

append_empty : (xs : List ℕ) → xs ++ [] ≡ xs
append_empty [] = refl
append_empty (x ∷ xs) = ap (λ (ys : List ℕ). x ∷ ys) (append_empty xs)

pub file_tokens : (f : File) → file_printed f ≡ tokens_bytes (file_leaves f)
file_tokens f =
    ap (λ (bs : List ℕ). bs ++ token_bytes f.end) (printed_tokens f.statements)
    ∙ ap (λ (bs : List ℕ). tokens_bytes (leaves f.statements) ++ bs) (sym (append_empty (token_bytes f.end)))
    ∙ sym (tokens_append (leaves f.statements) (f.end ∷ []))

-- ---- the place of the end

pub placed_end : (at : ℕ) (ts : List Token) (e : Token) → IsTrue (are_placed at (ts ++ e ∷ [])) → e.start ≡ at + length (tokens_bytes ts) + length e.lead
placed_end at [] e h = grind (arith, common_steps)
placed_end at (t ∷ ts) e h =
    let more : IsTrue (are_placed (behind at t) (ts ++ e ∷ [])) = grind (arith, common_steps) in
    let rest = placed_end (behind at t) ts e more in
    let a = length-append (token_bytes t) (tokens_bytes ts) in
    let b = length-append t.lead t.text in
    omega arith

pub end_length : (f : File) → IsTrue (are_placed 0 (file_leaves f)) → f.end.start + length f.end.text ≡ length (file_printed f)
end_length f h =
    let here = placed_end 0 (leaves f.statements) f.end h in
    let a = length-append (printed f.statements) (token_bytes f.end) in
    let b = length-append f.end.lead f.end.text in
    let c : length (printed f.statements) ≡ length (tokens_bytes (leaves f.statements)) = ap length (printed_tokens f.statements) in
    omega arith
