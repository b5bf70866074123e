use Rattle.std.proofs.Common.{◌≡◌, [], vec_len}
use Rattle.php_rows.specs.Reading.{forest_in}
use Rattle.scope_names.specs.Form.{parts}
use Rattle.node_names.specs.Drafts.{stacked}
use Rattle.file_declarations.specs.Loose.{loose_before}
use Rattle.file_declarations.proofs.row_forms.row_form.Given as goal

abbrev pub invariant-loop-part : goal.invariant-loop-part
invariant-loop-part l = loose_before l.loose.items (stacked l.drafts.items) ≡ parts (forest_in l.fn.parts)

abbrev pub decreases-loop-part : goal.decreases-loop-part
decreases-loop-part l = vec_len l.loose
