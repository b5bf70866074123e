use Rattle.std.proofs.Common.{◌≡◌, map, take}
use Rattle.std.specs.Option.{option_map, option_to_list}
use Rattle.review_request.specs.Fields.{values_of}
use Rattle.review_request.specs.Head.{field_parts}
use Rattle.review_request.proofs.fields.only.Given as goal

abbrev pub invariant-loop-field : goal.invariant-loop-field
invariant-loop-field l =
    values_of l.name (map field_parts (take l.field-index l.fields)) ≡ option_to_list (option_map (λ v. v.now) l.found)
