-- What the names of nodes stand for.
use Rattle.std.specs.Prelude.{◌≡◌, ℕ, if◌then◌else◌, List, [], ◌∷◌, map, Option, None}
use Rattle.php_tree.specs.declared.kind.NodeKind.{NodeKind}
use Rattle.node_names.specs.declared.name.Name.{Name}
use Rattle.node_names.specs.Compared.{Use}
use Rattle.node_names.specs.Facts.{Fact}
use Rattle.node_facts.specs.Flat.{Flat, nodes_in, start}
use Rattle.node_facts.specs.Named.{named_of}
use Rattle.file_declarations.specs.declared.declaration.Declaration.{Declaration}
use Rattle.file_declarations.specs.declared.node_ref.NodeRef.{NodeRef}
use Rattle.program_names.specs.Classes.{is_class_like, number_of}
use Rattle.program_names.specs.Table.{Table, declared_by}
use Rattle.resolved_names.specs.declared.file_names.FileNames.{FileNames}
use Rattle.resolved_names.specs.Index.{Entries, found_in}

-- the declarations of each of some uses
abbrev pub declared_each : List Declaration → List Use → List (List NodeRef)
declared_each ds us = map (λ u. declared_by u ds) us

-- the number of the class of each name
abbrev pub numbers_of : List (List ℕ) → List Name → List (Option ℕ)
numbers_of others names = map (λ n. number_of others n.text) names

-- the first of some numbers, if a node of a kind declares a class
abbrev pub first_class : List (Option ℕ) → Option ℕ
first_class [] = None
first_class (c ∷ cs) = c

abbrev pub class_of : NodeKind → List (Option ℕ) → Option ℕ
class_of k cs = if is_class_like k then first_class cs else None

-- what was found of a file whose nodes tell this
pub record IsFile (es : Entries) (ds : List Declaration) (others : List (List ℕ)) (v : FileNames) (xs : List Fact) : Type 0 where
  pub flat : Flat
  pub nodes : nodes_in flat start v.nodes.items ≡ map named_of xs
  pub uses : map (found_in es) v.uses.items ≡ declared_each ds flat.uses
  pub classes : v.classes.items ≡ numbers_of others flat.declares

-- the same of each file
abbrev pub AreFiles : Entries → List Declaration → List (List ℕ) → List FileNames → Table → Type 0
AreFiles es ds others [] [] = Unit {0}
AreFiles es ds others [] (xs ∷ t) = ⊥
AreFiles es ds others (v ∷ vs) [] = ⊥
AreFiles es ds others (v ∷ vs) (xs ∷ t) = IsFile es ds others v xs × AreFiles es ds others vs t
