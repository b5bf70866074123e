-- What the files tell, one file after another.
use Rattle.std.proofs.Common.{◌≡◌, ◌<◌, ℕ, ◌+◌, List, ◌∷◌, ◌++◌, length, get_or, drop, sym, ap, ◌∙◌, add-one}
use Rattle.std.proofs.lemmas.List.{drop_more, append_assoc}
use Rattle.php_rows.specs.declared.file.RowTree.{RowTree}
use Rattle.php_rows.specs.File.{file_in}
use Rattle.node_names.specs.Facts.{file_facts}
use Rattle.file_declarations.specs.declared.told.Told.{Told}
use Rattle.file_declarations.specs.FactsTold.{facts_told}
use Rattle.program_names.specs.Files.{Files}
use Rattle.program_names.specs.Table.{table_of}
use Rattle.program_names.specs.Told.{told_from}

-- one more file
pub told_more : (fs : Files) (i : ℕ) (x : List ℕ × RowTree) (all old new : List Told) → i < length fs → x ≡ get_or fs i x →
    old ++ told_from i (table_of (drop i fs)) ≡ all →
    new ≡ old ++ facts_told i 0 (file_facts x.0 (file_in x.1).statements) →
    new ++ told_from (i + 1) (table_of (drop (i + 1) fs)) ≡ all
told_more fs i x all old new l at so longer =
    ap (λ (ts : List Told). ts ++ rest (i + 1)) longer
    ∙ append_assoc old own (rest (i + 1))
    ∙ ap (λ (n : ℕ). old ++ (own ++ rest n)) (add-one i)
    ∙ sym (ap (λ (gs : Files). old ++ told_from i (table_of gs)) left)
    ∙ so
  where
    own : List Told
    own = facts_told i 0 (file_facts x.0 (file_in x.1).statements)

    rest : ℕ → List Told
    rest n = told_from n (table_of (drop (i + 1) fs))

    left : drop i fs ≡ x ∷ drop (i + 1) fs
    left = drop_more fs i x l ∙ ap (λ (y : List ℕ × RowTree). y ∷ drop (i + 1) fs) (sym at)
