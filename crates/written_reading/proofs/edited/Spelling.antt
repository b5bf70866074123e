-- What tiles in a row spell, part by part.
use Rattle.std.proofs.Common.{◌≡◌, ℕ, suc, true, List, [], ◌∷◌, ◌++◌, length, Option, Some, None, refl, sym, ap, ◌∙◌, append_assoc, append-nil}
use Rattle.std.proofs.lemmas.Bool.{and_parts}
use Rattle.php_tree.specs.declared.version.Version.{Version}
use Rattle.php_tree.specs.declared.token.TokenKind.{TokenKind}
use Rattle.php_spellings.specs.declared.table.Kind.{Kind}
use Rattle.php_spellings.specs.declared.table.Kind.TheVariants.{Space, Comment, Tag}
use Rattle.php_spellings.specs.Words.{token_of}
use Rattle.php_lexer.specs.Modes.{IsLongest}
use Rattle.php_lexer.specs.Lexed.{Lexeme, Stack, after}
use Rattle.php_relexing.specs.Tiles.{Tile, tile, joined}
use Rattle.php_relexing.specs.Spelled.{Steps, step, lexeme_with, spelled}
use Rattle.written_tokens.specs.tiles.ContinuesAs.{is_trivia}
use Rattle.written_tokens.specs.tiles.Edits.{all_trivia}

pub trivia_is_none : (kind : Kind) (text : List ℕ) → is_trivia kind ≡ true → token_of kind text ≡ None
trivia_is_none Space text h = refl
trivia_is_none Comment text h = refl
trivia_is_none Tag text h = refl
trivia_is_none _ text h = absurd cc

pub trivia_spelled : (ts : List Tile) → all_trivia ts ≡ true → (lead : List ℕ) (rest : List Tile) → spelled lead (ts ++ rest) ≡ spelled (lead ++ joined ts) rest
trivia_spelled [] h lead rest = ap (λ (l : List ℕ). spelled l rest) (sym (append-nil lead))
trivia_spelled (tile kind b a ∷ ts) h lead rest =
    let p = and_parts (is_trivia kind) (all_trivia ts) h in
    ap (λ (o : Option TokenKind). lexeme_with o lead (b ∷ a) (λ (l : List ℕ). spelled l (ts ++ rest))) (trivia_is_none kind (b ∷ a) p.0)
    ∙ trivia_spelled ts p.1 (lead ++ b ∷ a) rest
    ∙ ap (λ (l : List ℕ). spelled l rest) (append_assoc lead (b ∷ a) (joined ts))

pub token_spelled : (kind : Kind) (b : ℕ) (a : List ℕ) (k : TokenKind) → token_of kind (b ∷ a) ≡ Some k
    → (lead : List ℕ) (rest : List Tile) → spelled lead (tile kind b a ∷ rest) ≡ record
    { kind = k; lead = lead; text = b ∷ a } ∷ spelled [] rest
token_spelled kind b a k h lead rest =
    ap (λ (o : Option TokenKind). lexeme_with o lead (b ∷ a) (λ (l : List ℕ). spelled l rest)) h

-- The tiles spell these, whatever stands behind them.
abbrev pub Spells : List Tile → List Lexeme → Type 0
Spells us ls = (rest : List Tile) → spelled [] (us ++ rest) ≡ ls ++ spelled [] rest

pub spells_join : (us vs : List Tile) (ls ms : List Lexeme) → Spells us ls → Spells vs ms → Spells (us ++ vs) (ls ++ ms)
spells_join us vs ls ms p q rest =
    ap (spelled []) (append_assoc us vs rest)
    ∙ p (vs ++ rest)
    ∙ ap (λ (l : List Lexeme). ls ++ l) (q rest)
    ∙ sym (append_assoc ls ms (spelled [] rest))

-- trivia, a token, and what stands behind it
pub led_spells : (ts : List Tile) → all_trivia ts ≡ true → (kind : Kind) (b : ℕ) (a : List ℕ) (l : Lexeme)
    → joined ts ≡ l.lead → token_of kind (b ∷ a) ≡ Some l.kind → b ∷ a ≡ l.text → (us : List Tile) (ls : List Lexeme)
    → Spells us ls → Spells (ts ++ tile kind b a ∷ us) (l ∷ ls)
led_spells ts h kind b a l lead is text us ls p rest =
    ap (spelled []) (append_assoc ts (tile kind b a ∷ us) rest)
    ∙ trivia_spelled ts h [] (tile kind b a ∷ (us ++ rest))
    ∙ token_spelled kind b a l.kind is (joined ts) (us ++ rest)
    ∙ ap (λ (x : List ℕ). record { kind = l.kind; lead = x; text = b ∷ a } ∷ spelled [] (us ++ rest)) lead
    ∙ ap (λ (x : List ℕ). record { kind = l.kind; lead = l.lead; text = x } ∷ spelled [] (us ++ rest)) text
    ∙ ap (λ (x : List Lexeme). l ∷ x) (p rest)

pub step_longest : {v : Version} {stack : Stack} {kind : Kind} {b : ℕ} {a : List ℕ} {ts : List Tile}
    → Steps v stack (tile kind b a ∷ ts) → IsLongest v stack.top (b ∷ a ++ joined ts) kind (suc (length a))
step_longest (step kind b a ts h more) = h

pub step_behind : {v : Version} {stack : Stack} {kind : Kind} {b : ℕ} {a : List ℕ} {ts : List Tile}
    → Steps v stack (tile kind b a ∷ ts) → Steps v (after v stack kind (suc (length a)) (b ∷ a ++ joined ts)) ts
step_behind (step kind b a ts h more) = more
