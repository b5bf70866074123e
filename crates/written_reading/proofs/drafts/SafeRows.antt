-- No piece with `?->` comes directly behind a variable in the row of an edited file.
use Rattle.std.proofs.Common.{◌≡◌, ℕ, Bool, true, false, not, ◌&&◌, if◌then◌else◌, List, [], ◌∷◌, ◌++◌, map, refl, sym, ap, ◌∙◌, append_assoc, append-nil}
use Rattle.std.proofs.lemmas.Bool.{and_from}
use Rattle.php_tree.specs.declared.token.TokenKind.{TokenKind}
use Rattle.php_tree.specs.declared.token.TokenKind.TheVariants as kind
use Rattle.php_parser.specs.Ends.{is_end}
use Rattle.php_lexer.specs.Lexed.{Lexeme}
use Rattle.tracked_changes.specs.Pieces.{after, before}
use Rattle.tracked_changes.specs.Draft.{NewToken, Draft, no_more, new_leaf, new_node}
use Rattle.syntax_rules.specs.Around.{at_top}
use Rattle.syntax_rules.specs.SplitName as names
use Rattle.rewritten_shapes.proofs.Tabled.{drafted_is, written}
use Rattle.written_tokens.specs.tokens.Drafted.{all_whole, joins}
use Rattle.written_tokens.specs.tokens.Parted.{bare, parted}
use Rattle.written_tokens.specs.tokens.Spaced.{nameless_draft, spaces_put}
use Rattle.written_tokens.specs.tokens.Written.{begins_question, draft_tokens, is_piece, new_lexeme}
use Rattle.rewritten_shapes.proofs.paired.Asked.{both_left, both_right}
use Rattle.rewritten_shapes.proofs.paired.Pairing.{shaped_files_are_paired}
use Rattle.written_reading.specs.drafts.Apart.{TextsAreSafe, texts_apart}
use Rattle.written_tokens.specs.names.Neighbours.{is_safe, is_variable_kind}
use Rattle.written_reading.proofs.drafts.SafeTexts.{last_variable, may_come, safe, safe_drawn}
use Rattle.written_reading.proofs.drafts.Stays.{given, put}

abbrev safe_list : Bool → List NewToken → Bool
safe_list v [] = true
safe_list v (t ∷ ts) = may_come v t && safe_list (is_variable_kind t.kind) ts

list_of : (d : Draft) (rest : List NewToken) (v : Bool) → safe v d ≡ true → safe_list (last_variable v d) rest ≡ true → safe_list v (draft_tokens d ++ rest) ≡ true
list_of no_more rest v p h = h
list_of (new_leaf t d) rest v p h =
    and_from (may_come v t) (safe_list (is_variable_kind t.kind) (draft_tokens d ++ rest)) (both_left (may_come v t) (safe (is_variable_kind t.kind) d) p)
    (list_of d rest (is_variable_kind t.kind) (both_right (may_come v t) (safe (is_variable_kind t.kind) d) p) h)
list_of (new_node k c d) rest v p h =
    ap (safe_list v) (append_assoc (draft_tokens c) (draft_tokens d) rest)
    ∙ list_of c (draft_tokens d ++ rest) v (both_left (safe v c) (safe (last_variable v c) d) p)
    (list_of d rest (last_variable v c) (both_right (safe v c) (safe (last_variable v c) d) p) h)

-- a space before a token, or none, is nothing to these
given_safe : (c : Bool) (t : NewToken) (xs : List Lexeme) → texts_apart (new_lexeme t ∷ xs) ≡ true → texts_apart (new_lexeme (given c t) ∷ xs) ≡ true
given_safe true t [] h = refl
given_safe true t (y ∷ ys) h = h
given_safe false t xs h = h

head_safe : (x : Lexeme) (lead : List ℕ) (xs : List Lexeme) → texts_apart (x ∷ xs) ≡ true → texts_apart (record x { lead = lead } ∷ xs) ≡ true
head_safe x lead [] h = refl
head_safe x lead (y ∷ ys) h = h

pair_given : (t u : NewToken) (c : Bool) → may_come (is_variable_kind t.kind) u ≡ true → is_safe (new_lexeme t) (new_lexeme (given c u)) ≡ true
pair_given t u true h = h
pair_given t u false h = h

last_safe : (t : NewToken) (x : Lexeme) → x.kind ≡ kind.End → texts_apart (new_lexeme t ∷ x ∷ []) ≡ true
last_safe t x e = ap (λ (z : TokenKind). not (is_variable_kind t.kind && is_piece z && begins_question x.text) && true) e ∙ go (is_variable_kind t.kind)
  where
    go : (v : Bool) → (not (v && false && begins_question x.text) && true) ≡ true
    go true = refl
    go false = refl

second_safe : (b : Bool) (t u : NewToken) (ts : List NewToken) (x : Lexeme) (j : Bool)
    → may_come (is_variable_kind t.kind) u ≡ true → texts_apart
    (map new_lexeme (parted (spaces_put b (u ∷ ts))) ++ x ∷ []) ≡ true
    → texts_apart (new_lexeme t ∷ (map new_lexeme (if j then bare (parted (spaces_put b (u ∷ ts))) else parted (spaces_put b (u ∷ ts))) ++ x ∷ [])) ≡ true
second_safe b t u ts x true h ih =
    let first = given (put b u (joins u (all_whole ts))) u in
    and_from (is_safe (new_lexeme t) (new_lexeme first)) _ (pair_given t u (put b u (joins u (all_whole ts))) h)
    (head_safe (new_lexeme first) (after (names.deleted (before first.lead))) _ ih)
second_safe b t u ts x false h ih =
    let first = given (put b u (joins u (all_whole ts))) u in
    and_from (is_safe (new_lexeme t) (new_lexeme first)) _ (pair_given t u (put b u (joins u (all_whole ts))) h) ih

row_safe : (ts : List NewToken) (b v : Bool) (x : Lexeme) → x.kind ≡ kind.End → safe_list v ts ≡ true → texts_apart (map new_lexeme (parted (spaces_put b ts)) ++ x ∷ []) ≡ true
row_safe [] b v x e h = refl
row_safe (t ∷ []) b v x e h = given_safe (put b t false) t (x ∷ []) (last_safe t x e)
row_safe (t ∷ u ∷ ts) b v x e h =
    let rest = both_right (may_come v t) (safe_list (is_variable_kind t.kind) (u ∷ ts)) h in
    given_safe (put b t (joins t (all_whole (u ∷ ts)))) t _
    (second_safe (names.keyword_behind b t) t u ts x (joins (given (put b t (joins t (all_whole (u ∷ ts)))) t) (all_whole (spaces_put (names.keyword_behind b t) (u ∷ ts))))
    (both_left (may_come (is_variable_kind t.kind) u) (safe_list (is_variable_kind u.kind) ts) rest)
    (row_safe (u ∷ ts) (names.keyword_behind b t) (is_variable_kind t.kind) x e rest))

end_is : (sort : TokenKind) → is_end sort ≡ true → sort ≡ kind.End
end_is kind.End e = refl
end_is _ e = absurd cc

pub texts_are_safe : TextsAreSafe
texts_are_safe f s w n =
    row_safe (draft_tokens (nameless_draft f).statements) false false (new_lexeme (nameless_draft f).end) (end_is f.end.kind s.ends)
    (ap (λ (d : Draft). safe_list false (draft_tokens d)) (drafted_is f.statements)
    ∙ ap (safe_list false) (sym (append-nil (draft_tokens (written at_top true f.statements))))
    ∙ list_of (written at_top true f.statements) [] false (safe_drawn (shaped_files_are_paired f s w) n at_top true false) refl)
