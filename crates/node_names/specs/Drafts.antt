-- Parts of a node while they are read from the last one on, each text from its last byte on.
use Rattle.std.specs.Prelude.{ℕ, cond, List, ◌∷◌, ◌++◌, map, reverse, true}
use Rattle.php_tree.specs.declared.token.TokenKind.{TokenKind}
use Rattle.php_tree.specs.declared.token.TokenKind.TheVariants as kind
use Rattle.php_tree.specs.declared.token.Token.{Token}
use Rattle.scope_names.specs.Form.{Bit, Form, Part, word, child, joins, part_of as part_of_token}
use Rattle.node_names.specs.declared.draft.Draft.{Draft}
use Rattle.node_names.specs.declared.draft.Draft.TheVariants.{Word, Child}

-- the part that a draft is of
abbrev pub part_of : Draft → Part
part_of (Word is_name k t) = word is_name k (reverse t.items)
part_of Child = child

-- the parts, in order
abbrev pub stacked : List Draft → List Part
stacked ds = map part_of (reverse ds)

-- a token before a name and other parts
abbrev pub name_with : Token → TokenKind → List ℕ → List Part → List Part
name_with t k v ps = cond (joins t v) (word true kind.Name (t.text ++ v) ∷ ps) (part_of_token t ∷ word true k v ∷ ps)
