-- The points of a program by their numbers: those of each node that has any, in preorder, file by file in the order of the
-- paths. The point before a node has an even number, and the one behind it the next.
use Rattle.std.specs.Prelude.{ℕ, suc, ◌+◌, if◌then◌else◌, List, [], ◌∷◌, ◌++◌, map, slice_get, Option, Some, None}
use Rattle.php_tree.specs.Tree.{Tree}
use Rattle.php_tree.specs.Ids.{preorder}
use Rattle.php_rows.specs.declared.file.RowTree.{RowTree}
use Rattle.php_rows.specs.File.{file_in}
use Rattle.file_declarations.specs.declared.node_ref.NodeRef.{NodeRef}
use Rattle.program_names.specs.Files.{Files}
use Rattle.program_points.specs.declared.point.Point.{Point}
use Rattle.program_points.specs.declared.point.Point.TheVariants.{Before, After}
use Rattle.program_points.specs.declared.file_edge.FileEdge.{FileEdge}
use Rattle.program_points.specs.declared.edge.Edge.{Edge}
use Rattle.program_points.specs.declared.numbers.NodePoints.{NodePoints}
use Rattle.program_points.specs.Pieces.{has_points}
use Rattle.program_points.specs.Edges.{file_edges}

-- the points of some nodes, from a number on
abbrev pub numbers : ℕ → List Tree → List (Option NodePoints)
numbers p [] = []
numbers p (t ∷ ts) =
    if has_points t.0 then Some (record { before = p; after = p + 1 }) ∷ numbers (p + 2) ts else None ∷ numbers p ts

-- the number behind those
abbrev pub behind_all : ℕ → List Tree → ℕ
behind_all p [] = p
behind_all p (t ∷ ts) = if has_points t.0 then behind_all (p + 2) ts else behind_all p ts

-- the points of the node with a number among these
abbrev pub points_at : List (Option NodePoints) → ℕ → Option NodePoints
points_at ns n = elim (slice_get ns n) [ None ↦ None | Some o ↦ o ]

abbrev pub before_of : Option NodePoints → ℕ
before_of None = 0
before_of (Some p) = p.before

abbrev pub after_of : Option NodePoints → ℕ
after_of None = 0
after_of (Some p) = p.after

-- the number of a point of a file with these
abbrev pub number_of : List (Option NodePoints) → Point → ℕ
number_of ns (Before n) = before_of (points_at ns n)
number_of ns (After n) = after_of (points_at ns n)

-- an edge of the file with a number
abbrev pub numbered : ℕ → List (Option NodePoints) → FileEdge → Edge
numbered f ns e = record {
  from = number_of ns e.from;
  to = number_of ns e.to;
  node = record { file = f; node = e.node };
}

-- ---- the files of a program

-- the trees of the files, in the order of the paths
abbrev pub trees_of : Files → List RowTree
trees_of xs = map (λ x. x.1) xs

-- the nodes of a file
abbrev pub nodes_of : RowTree → List Tree
nodes_of r = preorder (file_in r).statements

-- the points of each of some files, from a number on
abbrev pub file_numbers : ℕ → List RowTree → List (List (Option NodePoints))
file_numbers p [] = []
file_numbers p (r ∷ rs) = numbers p (nodes_of r) ∷ file_numbers (behind_all p (nodes_of r)) rs

-- the number behind those
abbrev pub behind_files : ℕ → List RowTree → ℕ
behind_files p [] = p
behind_files p (r ∷ rs) = behind_files (behind_all p (nodes_of r)) rs

-- the edges of some files, from the one with a number and a point with a number on
abbrev pub edges_from : ℕ → ℕ → List RowTree → List Edge
edges_from f p [] = []
edges_from f p (r ∷ rs) =
    map (numbered f (numbers p (nodes_of r))) (file_edges (file_in r).statements) ++ edges_from (suc f) (behind_all p (nodes_of r)) rs

-- how many points a program has
abbrev pub point_count : Files → ℕ
point_count xs = behind_files 0 (trees_of xs)

-- the edges of a program: file by file, in each those of its statements in the order of `Edges`
abbrev pub program_edges : Files → List Edge
program_edges xs = edges_from 0 0 (trees_of xs)

-- the points of a node of a program; none exactly where it is no expression and no statement
abbrev pub program_points : Files → NodeRef → Option NodePoints
program_points xs at = elim (slice_get (file_numbers 0 (trees_of xs)) at.file) [ None ↦ None | Some ns ↦ points_at ns at.node ]
