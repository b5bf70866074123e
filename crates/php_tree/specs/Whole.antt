-- A file's tree, as the definitions see it.
use Rattle.php_tree.specs.declared.file.FileTree.{FileTree}
use Rattle.php_tree.specs.declared.version.Version.{Version}
use Rattle.php_tree.specs.Tree.{File, nodes_forest}

-- the statements and the token at the end
abbrev pub file : FileTree → File
file f = record { statements = nodes_forest f.statements; end = f.end }

-- the version in which the file was read
abbrev pub version : FileTree → Version
version f = f.version
