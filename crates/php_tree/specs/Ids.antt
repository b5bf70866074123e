-- The numbers of nodes: preorder, from 0. What each number stands for, and where.
use Rattle.std.specs.Prelude.{ℕ, ◌+◌, List, [], ◌∷◌, ◌++◌, length, Option, Some, None, slice_get}
use Rattle.span_edits.specs.declared.span.Span.{Span}
use Rattle.php_tree.specs.declared.token.Token.{Token}
use Rattle.php_tree.specs.Tree.{Forest, none, leaf, node, Tree, File, leaves}

-- the first of some tokens, if any
abbrev pub first_of : List Token → Option Token
first_of [] = None
first_of (t ∷ ts) = Some t

-- the first of some tokens, or else this one
abbrev pub first_or : List Token → Token → Token
first_or [] next = next
first_or (t ∷ ts) next = t

-- the place behind the last of some tokens, or else this one
abbrev pub stop_or : List Token → ℕ → ℕ
stop_or [] at = at
stop_or (t ∷ ts) at = stop_or ts (t.start + length t.text)

-- The place of a node by its own tokens and the one that follows: from its first token's text to the end of its last
-- one's, or the empty place before the token that follows.
abbrev pub place_of : List Token → Token → ℕ × ℕ
place_of ts next = ((first_or ts next).start, stop_or ts next.start)

-- the bounds of a span
abbrev pub bounds : Span → ℕ × ℕ
bounds s = (s.start, s.end)

-- the nodes in preorder
abbrev pub preorder : Forest → List Tree
preorder none = []
preorder (leaf t f) = preorder f
preorder (node k c f) = (k, c) ∷ preorder c ++ preorder f

-- their places in the same order, where this token follows
abbrev pub places : Forest → Token → List (ℕ × ℕ)
places none next = []
places (leaf t f) next = places f next
places (node k c f) next =
    place_of (leaves c) (first_or (leaves f) next) ∷ places c (first_or (leaves f) next) ++ places f next

-- the node with a number
abbrev pub node_at : File → ℕ → Option Tree
node_at f id = slice_get (preorder f.statements) id

-- its place: its first byte, and the byte behind its last one
abbrev pub span_at : File → ℕ → Option (ℕ × ℕ)
span_at f id = slice_get (places f.statements f.end) id
