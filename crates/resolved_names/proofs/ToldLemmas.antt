-- The declarations among what all files tell.
use Rattle.std.proofs.Common.{◌≡◌, ℕ, suc, zero, Bool, List, [], ◌∷◌, ◌++◌, Option, Some, None, refl, ap, ◌∙◌, append-nil}
use Rattle.node_names.specs.declared.name.Name.{Name}
use Rattle.node_names.specs.Facts.{Fact}
use Rattle.file_declarations.specs.declared.declaration.Declaration.{Declaration}
use Rattle.file_declarations.specs.declared.node_ref.NodeRef.{NodeRef}
use Rattle.file_declarations.specs.declared.told.Told.{Told}
use Rattle.file_declarations.specs.declared.told.Told.TheVariants.{Declares, Extends, Includes}
use Rattle.file_declarations.specs.Told.{declared_told, parents_told, extends_told, path_told}
use Rattle.file_declarations.specs.FactsTold.{fact_told, facts_told}
use Rattle.program_names.specs.Table.{Table, declared_at, in_nodes, in_files, all_declared}
use Rattle.program_names.specs.Told.{told_from, all_told}
use Rattle.resolved_names.specs.Index.{declared_in}

both : (xs ys : List Told) → declared_in (xs ++ ys) ≡ declared_in xs ++ declared_in ys
both [] ys = refl
both (Declares d ∷ xs) ys = ap (λ (ds : List Declaration). d ∷ ds) (both xs ys)
both (Extends c p ∷ xs) ys = both xs ys
both (Includes f path ∷ xs) ys = both xs ys

at_node : (at : NodeRef) (top : Bool) (ns : List Name) → declared_in (declared_told at top ns) ≡ declared_at at top ns
at_node at top [] = refl
at_node at top (n ∷ ns) = ap (λ (ds : List Declaration). record { name = n; at = at; is_top = top } ∷ ds) (at_node at top ns)

parents : (class : List ℕ) (ps : List (List ℕ)) (ys : List Told) → declared_in (parents_told class ps ++ ys) ≡ declared_in ys
parents class [] ys = refl
parents class (p ∷ ps) ys = parents class ps ys

extended : (ns : List Name) (ps : List (List ℕ)) → declared_in (extends_told ns ps) ≡ []
extended [] ps = refl
extended (n ∷ ns) ps = parents n.text ps (extends_told ns ps) ∙ extended ns ps

included : (f : ℕ) (o : Option (List ℕ)) → declared_in (path_told f o) ≡ []
included f None = refl
included f (Some path) = refl

of_fact : (f n : ℕ) (x : Fact) → declared_in (fact_told f n x) ≡ declared_at (record { file = f; node = n }) x.is_top x.declares
of_fact f n x =
    let at : NodeRef = record { file = f; node = n } in
    both (declared_told at x.is_top x.declares ++ extends_told x.declares x.extends) (path_told f x.includes)
    ∙ ap (λ (ds : List Declaration). declared_in (declared_told at x.is_top x.declares ++ extends_told x.declares x.extends) ++ ds) (included f x.includes)
    ∙ append-nil (declared_in (declared_told at x.is_top x.declares ++ extends_told x.declares x.extends))
    ∙ both (declared_told at x.is_top x.declares) (extends_told x.declares x.extends)
    ∙ ap (λ (ds : List Declaration). declared_in (declared_told at x.is_top x.declares) ++ ds) (extended x.declares x.extends)
    ∙ append-nil (declared_in (declared_told at x.is_top x.declares))
    ∙ at_node at x.is_top x.declares

of_facts : (f n : ℕ) (xs : List Fact) → declared_in (facts_told f n xs) ≡ in_nodes f n xs
of_facts f n [] = refl
of_facts f n (x ∷ xs) =
    both (fact_told f n x) (facts_told f (suc n) xs)
    ∙ ap (λ (ds : List Declaration). ds ++ declared_in (facts_told f (suc n) xs)) (of_fact f n x)
    ∙ ap (λ (ds : List Declaration). declared_at (record { file = f; node = n }) x.is_top x.declares ++ ds) (of_facts f (suc n) xs)

of_files : (f : ℕ) (t : Table) → declared_in (told_from f t) ≡ in_files f t
of_files f [] = refl
of_files f (xs ∷ t) =
    both (facts_told f zero xs) (told_from (suc f) t)
    ∙ ap (λ (ds : List Declaration). ds ++ declared_in (told_from (suc f) t)) (of_facts f zero xs)
    ∙ ap (λ (ds : List Declaration). in_nodes f zero xs ++ ds) (of_files (suc f) t)

-- what is told declares what is declared
pub told_declared : (t : Table) → declared_in (all_told t) ≡ all_declared t
told_declared t = of_files zero t
