use Rattle.std.proofs.Common.{◌≡◌, List, ◌++◌, sym, subst}
use Rattle.std.specs.Prelude.{OnOk}
use Rattle.php_rows.specs.Reading.{forest_in}
use Rattle.file_declarations.specs.declared.role.Role.TheVariants as role
use Rattle.file_declarations.specs.declared.told.Told.{Told}
use Rattle.file_declarations.specs.NamesSite.{site_in}
use Rattle.file_declarations.proofs.TellLemmas.{told_role}
use Rattle.file_declarations.proofs.telling.tell.Goals as goal

pub returns-in-Declares : goal.returns-in-Declares
returns-in-Declares c =
    subst (λ (ts : List Told). OnOk c.tell_names.result (c.tell_names.new.told.items ≡ c.args.told.now.items ++ ts))
    (sym (told_role role.Declares c.args.at c.args.is_top c.args.kind (forest_in c.args.parts) (site_in c.args.file.now c.args.names) c.in-Declares.ensures))
    c.tell_names.ensures
