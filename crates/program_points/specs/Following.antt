-- Laws of edges.
use Rattle.std.specs.Prelude.{◌≡◌, ℕ, ◌+◌, ◌++◌}
use Rattle.php_tree.specs.Tree.{Forest, ◌+++◌, count}
use Rattle.program_points.specs.Edges.{Around, edges}

-- The edges inside statements that follow one another are those inside each.
abbrev pub EdgesFollow : Type 0
EdgesFollow = (around : ℕ → Around) (n : ℕ) (f g : Forest) →
    edges around n (f +++ g) ≡ edges around n f ++ edges around (n + count f) g
