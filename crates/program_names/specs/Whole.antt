-- A program, as the definitions see it.
use Rattle.program_names.specs.Files.{Files}
use Rattle.program_names.specs.declared.program.Program.{Program}

-- the files by their paths
abbrev pub files_of : Program → Files
files_of p = p.files.items
