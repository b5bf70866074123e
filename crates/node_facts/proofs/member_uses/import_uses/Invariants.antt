use Rattle.std.proofs.Common.{◌≡◌, ◌++◌, drop}
use Rattle.std.specs.Prelude.{map}
use Rattle.node_names.specs.Uses.{import_use}
use Rattle.file_declarations.specs.Imported.{import_of}
use Rattle.node_facts.specs.Seen.{uses_in}
use Rattle.node_facts.proofs.member_uses.import_uses.Given as goal

abbrev pub invariant-loop-import : goal.invariant-loop-import
invariant-loop-import l =
    uses_in l.uses.items ++ map import_use (map import_of (drop l.import-index l.imports))
    ≡ uses_in l.fn.uses.items ++ map import_use (map import_of l.imports)
