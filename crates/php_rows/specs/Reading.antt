-- The parts of a node in a row, as a forest.
use Rattle.std.specs.Prelude.{Bool, true, false, ◌≡◌, ◌<◌, ◌+◌, ℕ, suc, List, [], ◌∷◌, Option, Some, None, drop, length}
use Rattle.std.specs.Borrow.{Bor}
use Rattle.php_tree.specs.declared.kind.NodeKind.{NodeKind}
use Rattle.php_tree.specs.declared.token.Token.{Token}
use Rattle.php_tree.specs.Tree.{Forest, none, leaf, node, count}
use Rattle.php_terminals.specs.declared.mark.Mark.{Mark}
use Rattle.php_terminals.specs.Marked.{IsMark, token_at}
use Rattle.php_terminals.specs.Tokens.{tokens_in}
use Rattle.php_rows.specs.declared.flat.Flat.{Flat}
use Rattle.php_rows.specs.declared.parts.Parts.{Parts}
use Rattle.php_rows.specs.declared.parts.Step.{Step}
use Rattle.php_rows.specs.declared.parts.Step.TheVariants.{Leaf, Child}
use Rattle.php_terminals.specs.declared.tokens.Tokens.{Tokens}
use Rattle.php_rows.specs.Flatten.{read, leafed}

-- the parts still to come
abbrev pub forest_in : Parts → Forest
forest_in p = read (length p.nodes.now) p.at p.end p.nodes.now (tokens_in p.tokens)

-- the bytes of the file
abbrev pub bytes_of : Parts → List ℕ
bytes_of p = p.tokens.bytes.now

-- A token stood first, and the other parts are left.
pub record IsLeaf (m : Mark) (old new : Parts) : Type 0 where
  pub mark : IsMark (bytes_of old) m
  pub parts : forest_in old ≡ leaf (token_at (bytes_of old) m) (forest_in new)
  pub number : new.number ≡ old.number
  pub tokens : new.tokens ≡ old.tokens

-- A node stood first, with its number and its parts, and the other parts are left. The nodes inside it have the numbers
-- behind its own, and those of the other parts follow.
pub record IsChild (k : NodeKind) (n : ℕ) (c old new : Parts) : Type 0 where
  pub parts : forest_in old ≡ node k (forest_in c) (forest_in new)
  pub own : n ≡ old.number
  pub inner : c.number ≡ suc n
  pub number : new.number ≡ suc n + count (forest_in c)
  pub tokens : new.tokens ≡ old.tokens
  pub same : c.tokens ≡ old.tokens

-- what stood first, and what is left
abbrev pub IsNext : Option Step → Parts → Parts → Type 0
IsNext None old new = forest_in old ≡ none
IsNext (Some (Leaf m)) old new = IsLeaf m old new
IsNext (Some (Child k n c)) old new = IsChild k n c old new

-- whether the first part is a token
abbrev pub begins_with_token : Forest → Bool
begins_with_token none = false
begins_with_token (leaf t f) = true
begins_with_token (node k c f) = false

-- These are all tokens before the first node.
abbrev pub IsLeading : Tokens → Parts → Type 0
IsLeading ts p = (f : Forest) × ((forest_in p ≡ leafed (tokens_in ts) f) × (begins_with_token f ≡ false))

-- the first node, and those behind it
abbrev pub IsSplit : Option (Flat × Bor (List Flat)) → List Flat → Type 0
IsSplit None ns = ns ≡ []
IsSplit (Some x) ns = ns ≡ x.0 ∷ x.1.now

-- the node with a number, and those behind it
abbrev pub IsAt : Flat × Bor (List Flat) → List Flat → ℕ → Type 0
IsAt x ns id = drop id ns ≡ x.0 ∷ x.1.now

-- a token stands before the first node
abbrev pub IsBefore : ℕ → ℕ → List Flat → Type 0
IsBefore at end [] = at < end
IsBefore at end (x ∷ xs) = at < x.first

-- how many parts there are, inner ones too
abbrev pub weight : Forest → ℕ
weight none = 0
weight (leaf t f) = 1 + weight f
weight (node k c f) = 1 + (weight c + weight f)
