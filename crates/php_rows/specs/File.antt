-- A file as a row, as the definitions see it.
use Rattle.std.specs.Prelude.{ℕ, ◌-◌, List, Option, length, map, slice_index_or, option_map}
use Rattle.php_tree.specs.declared.kind.NodeKind.{NodeKind}
use Rattle.php_tree.specs.declared.token.Token.{Token}
use Rattle.php_tree.specs.declared.token.TokenKind.TheVariants.{End}
use Rattle.php_tree.specs.declared.version.Version.{Version}
use Rattle.php_tree.specs.Tree.{File, Tree, Forest}
use Rattle.php_terminals.specs.declared.mark.Mark.{Mark}
use Rattle.php_terminals.specs.declared.terminal.Terminal.TheVariants as t
use Rattle.php_terminals.specs.Marked.{token_at}
use Rattle.php_rows.specs.declared.file.RowTree.{RowTree}
use Rattle.php_rows.specs.declared.parts.Parts.{Parts}
use Rattle.php_rows.specs.Flatten.{read}
use Rattle.php_rows.specs.Reading.{forest_in}

-- the version in which the file was read
abbrev pub version_in : RowTree → Version
version_in r = r.version

-- its bytes
abbrev pub bytes_in : RowTree → List ℕ
bytes_in r = r.bytes.items

-- its tokens
abbrev pub tokens_of : RowTree → List Token
tokens_of r = map (token_at r.bytes.items) r.marks.items

-- a token of no bytes
abbrev pub nowhere : Mark
nowhere = record { kind = End; class = t.End; lead = 0; start = 0; end = 0 }

-- the statements, and the token at the end
abbrev pub file_in : RowTree → File
file_in r = record {
  statements = read (length r.nodes.items) 0 (length r.marks.items - 1) r.nodes.items (tokens_of r);
  end = token_at r.bytes.items (slice_index_or r.marks.items (length r.marks.items - 1) nowhere);
}

-- a node by its kind and its parts
abbrev pub node_view : Option (NodeKind × Parts) → Option Tree
node_view o = option_map (λ n. (n.0, forest_in n.1)) o
