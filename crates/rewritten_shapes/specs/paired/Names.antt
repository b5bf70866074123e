-- Names with `\` among tokens: what may follow each token, within one node and at its edges.
use Rattle.std.specs.Prelude.{ℕ, if◌then◌else◌, List, codes, ◌∷◌, [], ◌==◌}
use Rattle.std.specs.Str.{bytes_eq}
use Rattle.php_tree.specs.declared.token.TokenKind.{TokenKind}
use Rattle.php_tree.specs.declared.token.TokenKind.TheVariants as kind
use Rattle.php_tree.specs.Tree.{Forest, none, leaf, node}
use Rattle.php_spellings.specs.Bytes.{begins, is_letter}
use Rattle.rewritten_shapes.specs.Laws.{is_namespace_word}

-- What a token is for names.
pub data Part : Type 0 where
  -- `\`
  root : Part
  label : Part
  -- the keyword `namespace`
  space : Part
  key : Part
  -- another operator or bracket
  mark : Part
  other : Part
  -- a label without a text, as one that is put in has in the source
  blank : Part
  -- a whole name, or a label that begins with `\`
  bad : Part

-- a token by its kind and text
abbrev pub part_by : TokenKind → List ℕ → Part
part_by kind.Label [] = blank
part_by kind.Label (b ∷ bs) = if b == 92 then bad else label
part_by kind.Keyword text = if is_namespace_word text then space else key
part_by kind.Op text = if bytes_eq text (codes "\\") then root else (if begins is_letter text then other else mark)
part_by kind.Name text = bad
part_by _ text = other

-- What stands before a token.
pub data State : Type 0 where
  failed : State
  calm : State
  -- directly behind a keyword
  keyed : State
  -- behind `\`: a label or a bracket must come next
  rooted : State
  -- behind `\` behind a keyword: a label must
  rooted_key : State
  -- behind a label or `namespace`
  worded : State
  -- the same at the edge of a node, or behind a label without a text: `\` must not come next
  edged : State

-- what stands before the next token
abbrev pub step : State → Part → State
step failed _ = failed
step rooted label = worded
step rooted mark = calm
step rooted _ = failed
step rooted_key label = worded
step rooted_key _ = failed
step edged root = failed
step keyed root = rooted_key
step _ root = rooted
step _ label = worded
step _ space = worded
step _ key = keyed
step _ mark = calm
step _ other = calm
step _ blank = edged
step _ bad = failed

-- at the edge of a node
abbrev pub edge : State → State
edge rooted = failed
edge rooted_key = failed
edge worded = edged
edge s = s

-- what stands behind parts
abbrev pub run : State → Forest → State
run s none = s
run s (leaf t f) = run (step s (part_by t.kind t.text)) f
run s (node j c f) = run (edge (run (edge s) c)) f
