use Rattle.std.proofs.Common.{◌++◌, List, true, ap, ◌∙◌}
use Rattle.php_rows.specs.File.{file_in}
use Rattle.node_names.specs.Slots.{in_file}
use Rattle.file_declarations.specs.declared.told.Told.{Told}
use Rattle.file_declarations.proofs.FactLemmas.{told_facts}
use Rattle.program_names.proofs.telling.add_file.Goals as goal

pub returns : goal.returns
returns c =
    let law = told_facts c.args.number 0 (in_file c.args.file.now.0) true (file_in c.args.file.now.1).statements in
    c.in_ok-append.ensures.items ∙ ap (λ (ts : List Told). c.args.told.now.items ++ ts) (c.in_ok-own.ensures ∙ law)
