-- The tree with the changes of a table made in its nodes.
use Rattle.std.specs.Prelude.{ℕ, suc, ◌+◌, Bool, true, false, cond, List, [], ◌∷◌}
use Rattle.php_tree.specs.declared.token.Token.{Token}
use Rattle.php_tree.specs.declared.token.TokenKind.TheVariants as token
use Rattle.php_tree.specs.declared.kind.NodeKind.TheVariants.{Paren}
use Rattle.php_tree.specs.Tree.{Forest, none, leaf, node, Tree, File, ◌+++◌, alone, leaves, count}
use Rattle.php_tree.specs.Places.{placed_file}
use Rattle.tracked_changes.specs.patches.Patches.{Patches, Wrapping, InParens, opening, closing}

-- whether there is no token
abbrev pub has_none : List Token → Bool
has_none [] = true
has_none (t ∷ ts) = false

-- the trivia before the first token
abbrev pub first_lead : List Token → List ℕ
first_lead [] = []
first_lead (t ∷ ts) = t.lead

-- the forest without the trivia before its first token
abbrev pub without_lead : Forest → Forest
without_lead none = none
without_lead (leaf t f) = leaf (record t { lead = [] }) f
without_lead (node k c f) = cond (has_none (leaves c)) (node k c (without_lead f)) (node k (without_lead c) f)

-- an operator of these bytes; its place is set with those of the whole file
abbrev pub op : List ℕ → List ℕ → Token
op lead text = record { kind = token.Op; lead = lead; text = text; start = 0 }

-- a node in parentheses: the trivia before it stand before the opening one
abbrev pub in_parens : Tree → Tree
in_parens t = (Paren, leaf (op (first_lead (leaves t.1)) (opening InParens)) (node t.0 (without_lead t.1) (leaf (op [] (closing InParens)) none)))

-- a node in its wrappings, the outermost first
abbrev pub wrapped : List Wrapping → Tree → Tree
wrapped [] t = t
wrapped (InParens ∷ ws) t = in_parens (wrapped ws t)

-- The forest, whose first node has the number `id`, with each node in its wrappings.
abbrev pub rewritten : Patches → ℕ → Forest → Forest
rewritten p id none = none
rewritten p id (leaf t f) = leaf t (rewritten p id f)
rewritten p id (node k c f) =
    alone (wrapped (p id) (k, rewritten p (suc id) c)) +++ rewritten p (suc (id + count c)) f

-- the file with its changes made, each token in its place
abbrev pub rewritten_file : Patches → File → File
rewritten_file p f = placed_file (record { statements = rewritten p 0 f.statements; end = f.end })
