-- The laws of tokens.
use Rattle.std.proofs.Common.{◌≡◌, ℕ, ◌+◌, List, [], ◌∷◌, ◌++◌, length, take, drop, map, refl, sym, ap, ◌∙◌, subst, append_assoc}
use Rattle.std.proofs.lemmas.List.{take-append-drop, append-nil}
use Rattle.std.proofs.lemmas.Str.{IsUtf8-append, IsUtf8-nil}
use Rattle.std.specs.Str.{IsUtf8}
use Rattle.php_tree.specs.declared.version.Version.{Version}
use Rattle.php_tree.specs.declared.token.Token.{Token}
use Rattle.php_tree.specs.declared.token.TokenKind.{TokenKind}
use Rattle.php_tree.specs.Places.{ArePlaced, behind}
use Rattle.php_tree.specs.Tree.{tokens_bytes}
use Rattle.php_lexer.specs.Lexed.{Lexeme, Stack, Lexed, ends, trivia, token, start, lexeme}
use Rattle.php_lexer.specs.Laws.{OneTokenList, OneFault, NotBoth, NoByteLost, AllUtf8, Utf8Kept}
use Rattle.php_lexer.proofs.TailSeams.{token_utf8}
use Rattle.php_lexer.proofs.Single.{one_lexing, one_fault, no_stop}

-- ---- one list

abbrev token_of_parts : TokenKind → List ℕ → List ℕ → ℕ → Token
token_of_parts kind lead text start = record { kind = kind; lead = lead; text = text; start = start }

same_parts : (t u : Token) → t.kind ≡ u.kind → t.lead ≡ u.lead → t.text ≡ u.text → t.start ≡ u.start → t ≡ u
same_parts t u p q r s =
    ap (λ (k : TokenKind). token_of_parts k t.lead t.text t.start) p
    ∙ ap (λ (l : List ℕ). token_of_parts u.kind l t.text t.start) q
    ∙ ap (λ (x : List ℕ). token_of_parts u.kind u.lead x t.start) r
    ∙ ap (λ (n : ℕ). token_of_parts u.kind u.lead u.text n) s

same_token : (at : ℕ) (t u : Token) → lexeme t ≡ lexeme u → t.start ≡ at + length t.lead → u.start ≡ at + length u.lead → t ≡ u
same_token at t u e p q =
    let lead : t.lead ≡ u.lead = ap (λ (x : Lexeme). x.lead) e in
    same_parts t u (ap (λ (x : Lexeme). x.kind) e) lead (ap (λ (x : Lexeme). x.text) e) (p ∙ ap (λ (l : List ℕ). at + length l) lead ∙ sym q)

pub same_tokens : (at : ℕ) (ts us : List Token) → map lexeme ts ≡ map lexeme us → ArePlaced at ts → ArePlaced at us → ts ≡ us
same_tokens at [] [] e p q = refl
same_tokens at [] (u ∷ us) e p q = absurd cc
same_tokens at (t ∷ ts) [] e p q = absurd cc
same_tokens at (t ∷ ts) (u ∷ us) e p q =
    let head : lexeme t ≡ lexeme u = cc in
    let rest : map lexeme ts ≡ map lexeme us = cc in
    let first : t ≡ u = same_token at t u head p.0 q.0 in
    let later : ArePlaced (behind at t) us = subst (λ (x : Token). ArePlaced (behind at x) us) (sym first) q.1 in
    let others : ts ≡ us = same_tokens (behind at t) ts us rest p.1 later in
    ap (λ (x : Token). x ∷ ts) first ∙ ap (λ (xs : List Token). u ∷ xs) others

pub one_list : OneTokenList
one_list version bytes ts us p q = same_tokens 0 ts us (one_lexing p.lexed q.lexed) p.placed q.placed

pub one_stop : OneFault
one_stop version bytes f g p q = one_fault p.stops q.stops

pub not_both : NotBoth
not_both version bytes ts f p q = no_stop p.lexed [] 0 f refl q.stops

-- ---- no byte is lost

abbrev lexemes_bytes : List Lexeme → List ℕ
lexemes_bytes [] = []
lexemes_bytes (x ∷ xs) = (x.lead ++ x.text) ++ lexemes_bytes xs

joined : {v : Version} {stack : Stack} {lead bytes : List ℕ} {ts : List Lexeme} → Lexed v stack lead bytes ts → lead ++ bytes ≡ lexemes_bytes ts
joined (ends {lead = lead} {bytes = bytes} e d) = ap (λ (u : List ℕ). lead ++ u) e ∙ sym (append-nil (lead ++ []))
joined (trivia {lead = lead} {bytes = bytes} kind n h b l) =
    ap (λ (u : List ℕ). lead ++ u) (sym (take-append-drop n bytes))
    ∙ sym (append_assoc lead (take n bytes) (drop n bytes)) ∙ joined l
joined (token {lead = lead} {bytes = bytes} kind n t h b l) =
    ap (λ (u : List ℕ). lead ++ u) (sym (take-append-drop n bytes))
    ∙ sym (append_assoc lead (take n bytes) (drop n bytes)) ∙ ap (λ (u : List ℕ). (lead ++ take n bytes) ++ u)
    (joined l)

bytes_of : (ts : List Token) → lexemes_bytes (map lexeme ts) ≡ tokens_bytes ts
bytes_of [] = refl
bytes_of (t ∷ ts) = ap (λ (u : List ℕ). (t.lead ++ t.text) ++ u) (bytes_of ts)

pub no_byte_lost : NoByteLost
no_byte_lost version bytes ts p = sym (joined p.lexed ∙ bytes_of ts)

-- ---- UTF-8

abbrev LexemesUtf8 : List Lexeme → Type 0
LexemesUtf8 [] = Unit {0}
LexemesUtf8 (x ∷ xs) = (IsUtf8 x.lead × IsUtf8 x.text) × LexemesUtf8 xs

lexed_utf8 : {v : Version} {stack : Stack} {lead bytes : List ℕ} {ts : List Lexeme} → Lexed v stack lead bytes ts → IsUtf8 lead → IsUtf8 bytes → LexemesUtf8 ts
lexed_utf8 (ends e d) p q = ((p, IsUtf8-nil), tt)
lexed_utf8 (trivia {version = v} {stack} {lead} {bytes} kind n h b l) p q =
    let parts = token_utf8 v stack.top bytes kind n q h in
    lexed_utf8 l (IsUtf8-append lead (take n bytes) p parts.0) parts.1
lexed_utf8 (token {version = v} {stack} {lead} {bytes} kind n t h b l) p q =
    let parts = token_utf8 v stack.top bytes kind n q h in
    ((p, parts.0), lexed_utf8 l IsUtf8-nil parts.1)

tokens_utf8 : (ts : List Token) → LexemesUtf8 (map lexeme ts) → AllUtf8 ts
tokens_utf8 [] h = tt
tokens_utf8 (t ∷ ts) h = (h.0, tokens_utf8 ts h.1)

pub utf8_kept : Utf8Kept
utf8_kept version bytes ts u p = tokens_utf8 ts (lexed_utf8 p.lexed IsUtf8-nil u)
