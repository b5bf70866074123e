use Rattle.std.proofs.Common.{◌≡◌, List, []}
use Rattle.php_rows.specs.Reading.{bytes_of, forest_in, weight}
use Rattle.scope_names.specs.Form.{parts}
use Rattle.file_declarations.specs.Loose.{loose_before}
use Rattle.file_declarations.proofs.row_forms.loose_parts.Given as goal

abbrev pub invariant-parts : goal.invariant-parts
invariant-parts l = record {
  bytes : bytes_of l.left ≡ l.bytes;
  whole : loose_before l.loose.items (parts (forest_in l.left)) ≡ parts (forest_in l.fn.parts);
}

abbrev pub decreases-parts : goal.decreases-parts
decreases-parts l = weight (forest_in l.left)
