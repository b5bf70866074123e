-- Trivia become trivia with spaces behind `#`.
use Rattle.std.proofs.Common.{◌≡◌, ℕ, Bool, true, false, cond, nat_eq, List, [], ◌∷◌, refl, sym, subst}
use Rattle.std.proofs.lemmas.Bool.{and_parts, eqb-true}
use Rattle.php_spellings.specs.declared.table.Kind.{Kind}
use Rattle.php_spellings.specs.declared.table.Kind.TheVariants.{Space, Comment, Tag}
use Rattle.php_spellings.specs.Bytes.{begins_by}
use Rattle.php_lexer.specs.Modes.{html, code, named, quoted, offset, property}
use Rattle.php_relexing.specs.Tiles.{Tile, tile}
use Rattle.written_tokens.specs.tiles.ContinuesAs.{stops_cast, is_trivia}
use Rattle.written_tokens.specs.tiles.IsRewrittenTo.{IsRewrittenTo}
use Rattle.written_tokens.specs.tiles.Going.{any_stops}
use Rattle.written_tokens.specs.tiles.Edits.{all_trivia}
use Rattle.written_tokens.proofs.tiles.Joins.{becomes_join, becomes_loosely}
use Rattle.written_tokens.proofs.tiles.CodeTokens.{code_tokens_become}
use Rattle.written_tokens.proofs.tiles.HtmlTokens.{html_tokens_become}
use Rattle.written_tokens.proofs.tiles.CastEdits.{hash_comments_become}
use Rattle.written_tokens.specs.names.Leads.{is_hash, spaced_tile, spaced_trivia, is_tag, TriviaBecome}

hash_tile : (b : ℕ) (a : List ℕ) (t : Bool) → is_hash Comment b a ≡ t
    → IsRewrittenTo false true code code (tile Comment b a ∷ []) (cond t (tile Comment b (32 ∷ a)) (tile Comment b a) ∷ [])
hash_tile b a true e = subst (λ (x : ℕ). IsRewrittenTo false true code code (tile Comment x a ∷ [])
    (tile Comment x (32 ∷ a) ∷ [])) (sym (eqb-true b 35 (and_parts (nat_eq b 35) (begins_by 91 a) e).0))
    (hash_comments_become a)
hash_tile b a false e = code_tokens_become Comment b a refl

one_tile : (kind : Kind) (b : ℕ) (a : List ℕ) → is_trivia kind ≡ true → IsRewrittenTo false (stops_cast kind) code code (tile kind b a ∷ []) (spaced_tile (tile kind b a) ∷ [])
one_tile Space b a h = code_tokens_become Space b a refl
one_tile Comment b a h = hash_tile b a (is_hash Comment b a) refl
one_tile Tag b a h = code_tokens_become Tag b a refl
one_tile _ b a h = absurd cc

in_code : (ts : List Tile) → all_trivia ts ≡ true → IsRewrittenTo false (any_stops ts) code code ts (spaced_trivia ts)
in_code [] h = becomes_loosely.nothing code
in_code (tile kind b a ∷ ts) h =
    let (here, more) = and_parts (is_trivia kind) (all_trivia ts) h in
    becomes_join false (stops_cast kind) false (any_stops ts) code code code (tile kind b a ∷ [])
    (spaced_tile (tile kind b a) ∷ []) ts (spaced_trivia ts) (one_tile kind b a here) (in_code ts more)

from_tag : (kind : Kind) (b : ℕ) (a : List ℕ) (ts : List Tile) → is_tag kind ≡ true → all_trivia ts ≡ true
    → IsRewrittenTo false (any_stops (tile kind b a ∷ ts)) html code (tile kind b a ∷ ts)
    (spaced_trivia (tile kind b a ∷ ts))
from_tag Tag b a ts h free = becomes_join false true false (any_stops ts) html code code (tile Tag b a ∷ [])
    (tile Tag b a ∷ []) ts (spaced_trivia ts) (html_tokens_become Tag b a) (in_code ts free)
from_tag _ b a ts h free = absurd cc

pub trivia_become : TriviaBecome
trivia_become code ts free h = in_code ts free
trivia_become html [] free h = absurd cc
trivia_become html (tile kind b a ∷ ts) free h = from_tag kind b a ts h (and_parts (is_trivia kind) (all_trivia ts) free).1
trivia_become named ts free h = absurd cc
trivia_become (quoted mark label fresh) ts free h = absurd cc
trivia_become offset ts free h = absurd cc
trivia_become property ts free h = absurd cc
