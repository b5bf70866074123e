-- A tree has one proof of its order.
use Rattle.std.specs.Prelude.{List, [], ◌∷◌}
use Rattle.std.proofs.Props.{props}
use Rattle.std.specs.Ordering.{Ordering-set}
use Rattle.io_ports.specs.Files.{File, IsTree, ArePhp, IsSources}

pub tree_prop : (files : List File) → IsProp (IsTree files)
tree_prop [] = hlevel
tree_prop (f ∷ []) = hlevel
tree_prop (f ∷ g ∷ fs) = let rest : IsProp (IsTree (g ∷ fs)) = tree_prop (g ∷ fs) in hlevel (Ordering-set, rest)

pub php_prop : (files : List File) → IsProp (ArePhp files)
php_prop [] = hlevel
php_prop (f ∷ fs) = let rest : IsProp (ArePhp fs) = php_prop fs in hlevel (props, rest)

pub sources_prop : (files : List File) → IsProp (IsSources files)
sources_prop files = hlevel (tree_prop, php_prop)
