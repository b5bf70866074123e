-- The first clash, by its name and its nodes.
use Rattle.std.proofs.Common.{◌≡◌, ℕ, List, Option, Some, None, sym, ap, ◌∙◌}
use Rattle.file_declarations.specs.declared.declaration.Declaration.{Declaration}
use Rattle.program_names.specs.Entries.{paths_of}
use Rattle.program_names.specs.Files.{Files}
use Rattle.program_names.specs.Table.{table_of}
use Rattle.declared_twice.specs.declared.twice.Twice.{Twice}
use Rattle.declared_twice.specs.FirstTwice.{AreFirst}
use Rattle.resolved_names.specs.Refusals.{IsClash}

abbrev pub or_this : Declaration → Option Declaration → Declaration
or_this d None = d
or_this d (Some e) = e

same_one : (d e : Declaration) (o : Option Declaration) → o ≡ Some d → o ≡ Some e → d ≡ e
same_one d e o h k = ap (λ (x : Option Declaration). or_this d x) (sym h ∙ k)

pub clash_named : (fs : Files) (es : List ℕ) (p : Option ℕ) (t : Twice) → AreFirst fs es p t →
    IsClash (paths_of fs) (table_of fs) es p t.first.now.name.text t.first.now.at t.second.now.at
clash_named fs es p t a =
    let first = same_one a.clash.is.first t.first.now _ a.clash.is.is_first a.is_first in
    let second = same_one a.clash.is.second t.second.now _ a.clash.is.is_second a.is_second in
    record {
      i = a.i;
      j = a.j;
      clash = a.clash;
      name_is = ap (λ (d : Declaration). d.name.text) first;
      first_is = ap (λ (d : Declaration). d.at) first;
      second_is = ap (λ (d : Declaration). d.at) second;
    }
