-- The points of a program, as the definitions see them.
use Rattle.std.specs.Prelude.{◌≡◌, ℕ, List, map, slice_get, option_map, Option, Some, None, Vec}
use Rattle.std.specs.declared.alloc.Global.{Global}
use Rattle.file_declarations.specs.declared.node_ref.NodeRef.{NodeRef}
use Rattle.php_rows.specs.declared.file.RowTree.{RowTree}
use Rattle.program_names.specs.declared.program.Program.{Program}
use Rattle.program_names.specs.Files.{Files}
use Rattle.program_names.specs.Whole.{files_of}
use Rattle.program_points.specs.declared.numbers.NodePoints.{NodePoints}
use Rattle.program_points.specs.declared.points.Points.{Points}
use Rattle.program_points.specs.Numbers.{points_at, point_count, program_edges, program_points}

-- the points of each file
abbrev pub lists_of : List (Vec (Option NodePoints) Global) → List (List (Option NodePoints))
lists_of vs = map (λ v. v.items) vs

-- the tree of the file with a number
abbrev pub tree_at : Program → ℕ → Option RowTree
tree_at p f = option_map (λ x. x.1) (slice_get (files_of p) f)

-- the points of a node
abbrev pub points_in : Points → NodeRef → Option NodePoints
points_in p at = elim (slice_get (lists_of p.numbers.items) at.file) [ None ↦ None | Some ns ↦ points_at ns at.node ]

-- These are the points of the program of these files.
pub record ArePoints (p : Points) (xs : Files) : Type 0 where
  pub count : p.count ≡ point_count xs
  pub edges : p.edges.items ≡ program_edges xs
  pub nodes : (at : NodeRef) → points_in p at ≡ program_points xs at
