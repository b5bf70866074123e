-- The front of a row.
use Rattle.std.proofs.Common.{◌≡◌, ℕ, Bool, true, false, ◌&&◌, List, [], ◌∷◌, ◌++◌, Option, Some, None, refl, sym, ap, ◌∙◌, append_assoc, append-nil}
use Rattle.std.proofs.lemmas.Bool.{and_parts, and_from}
use Rattle.php_tree.specs.declared.token.TokenKind.{TokenKind}
use Rattle.php_tree.specs.declared.token.TokenKind.TheVariants as token
use Rattle.php_spellings.specs.declared.table.Kind.{Kind}
use Rattle.php_spellings.specs.declared.table.Kind.TheVariants.{Space, Comment, Tag}
use Rattle.php_spellings.specs.Words.{token_of}
use Rattle.php_lexer.specs.Lexed.{Lexeme}
use Rattle.php_relexing.specs.Tiles.{Tile, tile, joined}
use Rattle.php_relexing.specs.Spelled.{lexeme_with, spelled}
use Rattle.written_tokens.specs.tiles.ContinuesAs.{is_trivia}
use Rattle.written_tokens.specs.tiles.Edits.{all_trivia}
use Rattle.written_tokens.specs.names.Fronts.{Front, FrontOfRow, LastFront, EndOfRow, FrontsAreSpelled}

-- ---- trivia are what has no token

pub trivia_is : (kind : Kind) (text : List ℕ) → is_trivia kind ≡ true → token_of kind text ≡ None
trivia_is Space text h = refl
trivia_is Comment text h = refl
trivia_is Tag text h = refl
trivia_is _ text h = absurd cc

pub none_is : (kind : Kind) (text : List ℕ) → token_of kind text ≡ None → is_trivia kind ≡ true
none_is Space text h = refl
none_is Comment text h = refl
none_is Tag text h = refl
none_is _ text h = absurd cc

-- ---- lists of tokens

abbrev pub is_some : List Lexeme → Bool
is_some [] = false
is_some (t ∷ ts) = true

some_behind : (ts : List Lexeme) (u : Lexeme) (us : List Lexeme) → is_some (ts ++ u ∷ us) ≡ true
some_behind [] u us = refl
some_behind (t ∷ ts) u us = refl

pub head_is : (t u : Lexeme) (ts us : List Lexeme) → t ∷ ts ≡ u ∷ us → t ≡ u
head_is t u ts us e = cc

pub tail_is : (t u : Lexeme) (ts us : List Lexeme) → t ∷ ts ≡ u ∷ us → ts ≡ us
tail_is t u ts us e = cc

spelled_by : (o : Option TokenKind) (lead text : List ℕ) (rest : List ℕ → List Lexeme) → ((l : List ℕ) → is_some (rest l) ≡ true) → is_some (lexeme_with o lead text rest) ≡ true
spelled_by None lead text rest h = h (lead ++ text)
spelled_by (Some k) lead text rest h = refl

spelled_some : (lead : List ℕ) (ts : List Tile) → is_some (spelled lead ts) ≡ true
spelled_some lead [] = refl
spelled_some lead (tile kind b a ∷ ts) = spelled_by (token_of kind (b ∷ a)) lead (b ∷ a) (λ l. spelled l ts) (λ l. spelled_some l ts)

-- ---- the front

behind_trivia : (lead : List ℕ) (kind : Kind) (b : ℕ) (a : List ℕ) (ts : List Tile) (first : Lexeme)
    (more : List Lexeme) → token_of kind (b ∷ a) ≡ None → Front (lead ++ b ∷ a) ts first more
    → Front lead (tile kind b a ∷ ts) first more
behind_trivia lead kind b a ts first more none f = record {
  trivia = tile kind b a ∷ f.trivia;
  kind = f.kind;
  b = f.b;
  a = f.a;
  rest = f.rest;
  whole = ap (λ (l : List Tile). tile kind b a ∷ l) f.whole;
  free = and_from (is_trivia kind) (all_trivia f.trivia) (none_is kind (b ∷ a) none) f.free;
  lead = sym (append_assoc lead (b ∷ a) (joined f.trivia)) ∙ f.lead;
  is = f.is;
  text = f.text;
  tokens = f.tokens;
}

at_token : (lead : List ℕ) (kind : Kind) (b : ℕ) (a : List ℕ) (ts : List Tile) (first : Lexeme) (more : List Lexeme)
    (k : TokenKind) → token_of kind (b ∷ a) ≡ Some k → record { kind = k; lead = lead; text = b ∷ a } ≡ first
    → spelled [] ts ≡ more → Front lead (tile kind b a ∷ ts) first more
at_token lead kind b a ts first more k some same others = record {
  trivia = [];
  kind = kind;
  b = b;
  a = a;
  rest = ts;
  whole = refl;
  free = refl;
  lead = append-nil lead ∙ ap (λ (t : Lexeme). t.lead) same;
  is = some ∙ ap (λ (t : Lexeme). Some t.kind) same;
  text = ap (λ (t : Lexeme). t.text) same;
  tokens = others;
}

by_kind : (lead : List ℕ) (kind : Kind) (b : ℕ) (a : List ℕ) (ts : List Tile) (first : Lexeme) (more : List Lexeme)
    → ((l : List ℕ) → spelled l ts ≡ first ∷ more → Front l ts first more) → (o : Option TokenKind)
    → token_of kind (b ∷ a) ≡ o → lexeme_with o lead (b ∷ a) (λ l. spelled l ts) ≡ first ∷ more
    → Front lead (tile kind b a ∷ ts) first more
by_kind lead kind b a ts first more ih None e h = behind_trivia lead kind b a ts first more e (ih (lead ++ b ∷ a) h)
by_kind lead kind b a ts first more ih (Some k) e h =
    at_token lead kind b a ts first more k e
    (head_is (record { kind = k; lead = lead; text = b ∷ a }) first (spelled [] ts) more h)
    (tail_is (record { kind = k; lead = lead; text = b ∷ a }) first (spelled [] ts) more h)

none_left : (lead : List ℕ) (first : Lexeme) (more : List Lexeme) → is_some more ≡ true → spelled lead [] ≡ first ∷ more → [] ≡ more
none_left lead first more some h = tail_is (record { kind = token.End; lead = lead; text = [] }) first [] more h

pub front : (lead : List ℕ) (row : List Tile) (first : Lexeme) (more : List Lexeme) → is_some more ≡ true → spelled lead row ≡ first ∷ more → Front lead row first more
front lead [] first more some h = absurd (let none : false ≡ true = ap is_some (none_left lead first more some h) ∙ some in cc)
front lead (tile kind b a ∷ ts) first more some h = by_kind lead kind b a ts first more (λ l. front l ts first more some) (token_of kind (b ∷ a)) refl h

pub front_of_row : FrontOfRow
front_of_row lead row first ts last us h = front lead row first (ts ++ last ∷ us) (some_behind ts last us) h

-- ---- the end

end_behind : (lead : List ℕ) (kind : Kind) (b : ℕ) (a : List ℕ) (ts : List Tile) (last : Lexeme)
    → token_of kind (b ∷ a) ≡ None → LastFront (lead ++ b ∷ a) ts last → LastFront lead (tile kind b a ∷ ts) last
end_behind lead kind b a ts last none f = record {
  free = and_from (is_trivia kind) (all_trivia ts) (none_is kind (b ∷ a) none) f.free;
  lead = sym (append_assoc lead (b ∷ a) (joined ts)) ∙ f.lead;
  is = f.is;
  text = f.text;
}

end_by : (lead : List ℕ) (kind : Kind) (b : ℕ) (a : List ℕ) (ts : List Tile) (last : Lexeme)
    → ((l : List ℕ) → spelled l ts ≡ last ∷ [] → LastFront l ts last) → (o : Option TokenKind)
    → token_of kind (b ∷ a) ≡ o → lexeme_with o lead (b ∷ a) (λ l. spelled l ts) ≡ last ∷ []
    → LastFront lead (tile kind b a ∷ ts) last
end_by lead kind b a ts last ih None e h = end_behind lead kind b a ts last e (ih (lead ++ b ∷ a) h)
end_by lead kind b a ts last ih (Some k) e h =
    absurd (let none : true ≡ false = sym (spelled_some [] ts) ∙ ap is_some (tail_is (record { kind = k; lead = lead; text = b ∷ a }) last (spelled [] ts) [] h) in cc)

pub end_of_row : EndOfRow
end_of_row lead [] last h =
    let same : record { kind = token.End; lead = lead; text = [] } ≡ last = head_is (record { kind = token.End; lead = lead; text = [] }) last [] [] h in
    record {
      free = refl;
      lead = append-nil lead ∙ ap (λ (t : Lexeme). t.lead) same;
      is = sym (ap (λ (t : Lexeme). t.kind) same);
      text = sym (ap (λ (t : Lexeme). t.text) same);
    }
end_of_row lead (tile kind b a ∷ ts) last h = end_by lead kind b a ts last (λ l. end_of_row l ts last) (token_of kind (b ∷ a)) refl h

-- ---- what fronts spell

pub trivia_spelled : (lead : List ℕ) (gap rest : List Tile) → all_trivia gap ≡ true → spelled lead (gap ++ rest) ≡ spelled (lead ++ joined gap) rest
trivia_spelled lead [] rest h = ap (λ (l : List ℕ). spelled l rest) (sym (append-nil lead))
trivia_spelled lead (tile kind b a ∷ gap) rest h =
    let (one, more) = and_parts (is_trivia kind) (all_trivia gap) h in
    ap (λ (o : Option TokenKind). lexeme_with o lead (b ∷ a) (λ l. spelled l (gap ++ rest))) (trivia_is kind (b ∷ a) one)
    ∙ trivia_spelled (lead ++ b ∷ a) gap rest more
    ∙ ap (λ (l : List ℕ). spelled l rest) (append_assoc lead (b ∷ a) (joined gap))

pub token_spelled : (lead : List ℕ) (kind : Kind) (b : ℕ) (a : List ℕ) (k : TokenKind) (rest : List Tile)
    → token_of kind (b ∷ a) ≡ Some k → spelled lead (tile kind b a ∷ rest) ≡ record
    { kind = k; lead = lead; text = b ∷ a } ∷ spelled [] rest
token_spelled lead kind b a k rest h = ap (λ (o : Option TokenKind). lexeme_with o lead (b ∷ a) (λ l. spelled l rest)) h

pub fronts_are_spelled : FrontsAreSpelled
fronts_are_spelled = record { trivia = trivia_spelled; token = token_spelled }
