use Rattle.std.proofs.Common.{◌≡◌, ◌≤◌, ◌+◌, ◌*◌}
use Rattle.php_rows.specs.Reading.{bytes_of, forest_in, weight}
use Rattle.program_points.specs.Pieces.{Pieces, and_then, pieces}
use Rattle.program_points.specs.Chosen.{kept, pieces_to}
use Rattle.program_points.proofs.reading.+read.Given as goal

-- the parts of a node lead to those below, a node to its own parts
abbrev pub decreases-read_parts : goal.decreases-read_parts
decreases-read_parts l = 2 * weight (forest_in l.parts)

abbrev pub decreases-add_child : goal.decreases-add_child
decreases-add_child l = 2 * weight (forest_in l.parts) + 1

abbrev pub invariant-read_parts-parts : goal.invariant-read_parts-parts
invariant-read_parts-parts l = record {
  bytes : bytes_of l.left ≡ l.bytes;
  small : weight (forest_in l.left) ≤ weight (forest_in l.fn.parts);
  whole : (ps : Pieces) → pieces_to l.pieces.items (and_then (kept l.has_words (pieces l.left.number (forest_in l.left))) ps)
      ≡ pieces_to l.fn.pieces.items (and_then (kept l.has_words (pieces l.fn.parts.number (forest_in l.fn.parts))) ps);
}

abbrev pub decreases-read_parts-parts : goal.decreases-read_parts-parts
decreases-read_parts-parts l = weight (forest_in l.left)
