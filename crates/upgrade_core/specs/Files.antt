-- Files of a program, as definitions see them: by path, with their bytes or their trees.
use Rattle.std.specs.Prelude.{ℕ, List}
use Rattle.php_tree.specs.Tree.{File}
use Rattle.io_ports.specs.Files as ports
use Rattle.upgrade_core.specs.declared.file.SourceFile.{SourceFile}

abbrev pub file_of : SourceFile → ports.File
file_of f = (f.path, f.bytes)

-- trees by the paths of their files
abbrev pub Trees : Type 0
Trees = List (List ℕ × File)
