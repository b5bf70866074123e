-- A rewritten file has its tokens where 7.4 has the row with names in parts.
use Rattle.std.proofs.Common.{◌≡◌, ℕ, Bool, true, false, cond, ◌&&◌, List, [], ◌∷◌, ◌++◌, map, refl, sym, ap, ◌∙◌, subst}
use Rattle.php_tree.specs.declared.version.Version.TheVariants.{V74}
use Rattle.php_tree.specs.declared.token.TokenKind.{TokenKind}
use Rattle.php_tree.specs.declared.token.TokenKind.TheVariants as token
use Rattle.php_spellings.specs.Bytes.{is_empty}
use Rattle.php_lexer.specs.Lexed.{Lexeme}
use Rattle.tracked_changes.specs.Draft.{NewToken}
use Rattle.syntax_rules.specs.Rewritten.{draft_of}
use Rattle.written_tokens.specs.tokens.Whole.{is_one, begins_label, is_backslash, before_tokens, whole_tokens}
use Rattle.written_tokens.specs.tokens.Written.{new_lexeme, draft_tokens, file_tokens}
use Rattle.written_tokens.specs.tokens.Parted.{parted}
use Rattle.written_tokens.specs.tokens.Spaced.{nameless_draft, in_parts, PartsAreWritten}
use Rattle.written_tokens.proofs.tokens.Ending.{end_is_read}
use Rattle.written_tokens.proofs.tokens.Written.{rows_are_written}
use Rattle.written_tokens.proofs.tokens.Drafted.{names_in_order}
use Rattle.written_tokens.proofs.tokens.Parted.{whole_of_parts}
use Rattle.written_tokens.proofs.tokens.Spaced.{spaces_come_first}

and_false : (x : Bool) → (x && false) ≡ false
and_false true = refl
and_false false = refl

abbrev end_of : List ℕ → List ℕ → Lexeme
end_of lead text = record { kind = token.End; lead = lead; text = text }

end_alone : (k : TokenKind) (t text : List ℕ) → is_one k t token.End text ≡ false
end_alone k t text = rw (and_false (is_backslash k t), and_false (begins_label k t)) refl

end_by : (x y : Lexeme) (ys es : List Lexeme) (b : Bool) → cond b
    (record { kind = token.Name; lead = x.lead; text = x.text ++ y.text } ∷ (ys ++ es)) (x ∷ y ∷ (ys ++ es)) ≡ cond b
    (record { kind = token.Name; lead = x.lead; text = x.text ++ y.text } ∷ ys) (x ∷ y ∷ ys) ++ es
end_by x y ys es true = refl
end_by x y ys es false = refl

end_front : (x : Lexeme) (ys : List Lexeme) (lead text : List ℕ) → before_tokens x (ys ++ end_of lead text ∷ []) ≡ before_tokens x ys ++ end_of lead text ∷ []
end_front x [] lead text = rw (end_alone x.kind x.text text) refl
end_front x (y ∷ ys) lead text = end_by x y ys (end_of lead text ∷ []) (is_one x.kind x.text y.kind y.text && is_empty y.lead)

end_whole : (xs : List Lexeme) (lead text : List ℕ) → whole_tokens (xs ++ end_of lead text ∷ []) ≡ whole_tokens xs ++ end_of lead text ∷ []
end_whole [] lead text = refl
end_whole (x ∷ xs) lead text = ap (before_tokens x) (end_whole xs lead text) ∙ end_front x (whole_tokens xs) lead text

map_append : (xs ys : List NewToken) → map new_lexeme (xs ++ ys) ≡ map new_lexeme xs ++ map new_lexeme ys
map_append [] ys = refl
map_append (x ∷ xs) ys = ap (λ (l : List Lexeme). new_lexeme x ∷ l) (map_append xs ys)

with_end : (xs : List Lexeme) (e : Lexeme) → e.kind ≡ token.End → whole_tokens (xs ++ e ∷ []) ≡ whole_tokens xs ++ e ∷ []
with_end xs e h = subst (λ (k : TokenKind). whole_tokens (xs ++ record e { kind = k } ∷ []) ≡ whole_tokens xs ++ record e { kind = k } ∷ []) (sym h) (end_whole xs e.lead e.text)

pub parts_are_written : PartsAreWritten
parts_are_written bytes f us read within texts stay steps common apart same =
    let end : f.end.kind ≡ token.End = end_is_read V74 bytes f read in
    let names : map new_lexeme (draft_tokens (draft_of f).statements) ≡ whole_tokens (map new_lexeme (parted (in_parts f))) =
    ap (map new_lexeme) (names_in_order (nameless_draft f).statements within ∙ spaces_come_first false (draft_tokens (nameless_draft f).statements) texts)
    ∙ whole_of_parts (in_parts f) stay in
    let all : map new_lexeme (file_tokens (draft_of f)) ≡ whole_tokens (map new_lexeme (parted (in_parts f)) ++ new_lexeme (nameless_draft f).end ∷ []) =
    map_append (draft_tokens (draft_of f).statements) ((draft_of f).end ∷ [])
    ∙ ap (λ (l : List Lexeme). l ++ new_lexeme (nameless_draft f).end ∷ []) names
    ∙ sym (with_end (map new_lexeme (parted (in_parts f))) (new_lexeme (nameless_draft f).end) end) in
    rows_are_written (draft_of f) us steps common apart (ap whole_tokens same ∙ sym all)
