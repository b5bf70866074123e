-- Points by their numbers, node by node and file by file.
use Rattle.std.proofs.Common.{◌≡◌, ℕ, zero, suc, ◌+◌, Bool, true, false, if◌then◌else◌, List, [], ◌∷◌, ◌++◌, length}
use Rattle.std.proofs.Common.{map, drop, slice_get, Option, Some, None, option_map, option_to_list, refl, sym, ap, ◌∙◌, append_assoc, append-nil, add-one}
use Rattle.std.proofs.lemmas.List.{length-map, map-append}
use Rattle.std.specs.Prelude.{Vec}
use Rattle.std.specs.declared.alloc.Global.{Global}
use Rattle.std.proofs.lemmas.Option.{slice_get-map}
use Rattle.std.proofs.Math.Seq.{drop-length}
use Rattle.php_tree.specs.Tree.{Tree, count}
use Rattle.php_tree.proofs.Preorder.{length-preorder}
use Rattle.php_rows.specs.declared.file.RowTree.{RowTree}
use Rattle.php_rows.specs.File.{file_in}
use Rattle.program_names.specs.Files.{Files}
use Rattle.program_points.specs.declared.numbers.NodePoints.{NodePoints}
use Rattle.program_points.specs.Pieces.{has_points}
use Rattle.program_points.specs.Edges.{file_edges}
use Rattle.file_declarations.specs.declared.node_ref.NodeRef.{NodeRef}
use Rattle.program_points.specs.declared.points.Points.{Points}
use Rattle.program_points.specs.Seen.{ArePoints, lists_of}
use Rattle.program_points.specs.Numbers.{points_at, numbers, behind_all, numbered, nodes_of, trees_of, file_numbers, behind_files, edges_from}

-- ---- one item of a list, and those behind it

drop_at : {A : Type 0} (xs : List A) (i : ℕ) → drop i xs ≡ option_to_list (slice_get xs i) ++ drop (suc i) xs
drop_at [] zero = refl
drop_at [] (suc i) = refl
drop_at (x ∷ xs) zero = refl
drop_at (x ∷ xs) (suc i) = drop_at xs i

-- past the end nothing is left
drop_past : {A : Type 0} (xs : List A) (i : ℕ) → slice_get xs i ≡ None → drop (suc i) xs ≡ []
drop_past [] i e = refl
drop_past (x ∷ xs) zero e = cc
drop_past (x ∷ xs) (suc i) e = drop_past xs i e

-- ---- nodes

by_bool : (b : Bool) (p : ℕ) (xs ys : List Tree) →
    ((q : ℕ) → numbers q (xs ++ ys) ≡ numbers q xs ++ numbers (behind_all q xs) ys) →
    (if b then Some (record { before = p; after = p + 1 }) ∷ numbers (p + 2) (xs ++ ys) else None ∷ numbers p (xs ++ ys))
    ≡ (if b then Some (record { before = p; after = p + 1 }) ∷ numbers (p + 2) xs else None ∷ numbers p xs)
    ++ numbers (if b then behind_all (p + 2) xs else behind_all p xs) ys
by_bool true p xs ys h = ap (λ ns. Some (record { before = p; after = p + 1 }) ∷ ns) (h (p + 2))
by_bool false p xs ys h = ap (λ ns. None ∷ ns) (h p)

numbers-append : (xs ys : List Tree) (p : ℕ) → numbers p (xs ++ ys) ≡ numbers p xs ++ numbers (behind_all p xs) ys
numbers-append [] ys p = refl
numbers-append (x ∷ xs) ys p = by_bool (has_points x.0) p xs ys (numbers-append xs ys)

behind_bool : (b : Bool) (p : ℕ) (xs ys : List Tree) →
    ((q : ℕ) → behind_all q (xs ++ ys) ≡ behind_all (behind_all q xs) ys) →
    (if b then behind_all (p + 2) (xs ++ ys) else behind_all p (xs ++ ys)) ≡ behind_all (if b then behind_all (p + 2) xs else behind_all p xs) ys
behind_bool true p xs ys h = h (p + 2)
behind_bool false p xs ys h = h p

behind-append : (xs ys : List Tree) (p : ℕ) → behind_all p (xs ++ ys) ≡ behind_all (behind_all p xs) ys
behind-append [] ys p = refl
behind-append (x ∷ xs) ys p = behind_bool (has_points x.0) p xs ys (behind-append xs ys)

numbers_at : (p i : ℕ) (ts : List Tree) → numbers p (drop i ts)
    ≡ numbers p (option_to_list (slice_get ts i)) ++ numbers (behind_all p (option_to_list (slice_get ts i))) (drop (i + 1) ts)
numbers_at p i ts =
    ap (numbers p) (drop_at ts i) ∙ numbers-append (option_to_list (slice_get ts i)) (drop (suc i) ts) p
    ∙ ap (λ j. numbers p (option_to_list (slice_get ts i)) ++ numbers (behind_all p (option_to_list (slice_get ts i))) (drop j ts)) (sym (add-one i))

behind_at : (p i : ℕ) (ts : List Tree) → behind_all p (drop i ts) ≡ behind_all (behind_all p (option_to_list (slice_get ts i))) (drop (i + 1) ts)
behind_at p i ts =
    ap (behind_all p) (drop_at ts i) ∙ behind-append (option_to_list (slice_get ts i)) (drop (suc i) ts) p
    ∙ ap (λ j. behind_all (behind_all p (option_to_list (slice_get ts i))) (drop j ts)) (sym (add-one i))

-- what is numbered, and what is still to be, make the whole
pub record Counted (ts : List Tree) (first p i : ℕ) (ns : List (Option NodePoints)) : Type 0 where
  pub numbers : ns ++ numbers p (drop i ts) ≡ numbers first ts
  pub behind : behind_all p (drop i ts) ≡ behind_all first ts

pub counted_first : (ts : List Tree) (p : ℕ) → Counted ts p p 0 []
counted_first ts p = record { numbers = refl; behind = refl }

pub counted_step : (ts : List Tree) (first p q i : ℕ) (ns ms : List (Option NodePoints)) → ms ≡ ns ++ numbers p (option_to_list (slice_get ts i)) →
    q ≡ behind_all p (option_to_list (slice_get ts i)) → Counted ts first p i ns → Counted ts first q (i + 1) ms
counted_step ts first p q i ns ms a b c = record {
  numbers =
      ap (λ xs. xs ++ numbers q (drop (i + 1) ts)) a
      ∙ ap (λ r. (ns ++ numbers p (option_to_list (slice_get ts i))) ++ numbers r (drop (i + 1) ts)) b
      ∙ append_assoc ns (numbers p (option_to_list (slice_get ts i))) (numbers (behind_all p (option_to_list (slice_get ts i))) (drop (i + 1) ts))
      ∙ ap (λ xs. ns ++ xs) (sym (numbers_at p i ts)) ∙ c.numbers;
  behind = ap (λ r. behind_all r (drop (i + 1) ts)) b ∙ sym (behind_at p i ts) ∙ c.behind;
}

-- as many nodes as there are have been numbered
no_nodes : (r : RowTree) (n : ℕ) → n ≡ count (file_in r).statements → drop n (nodes_of r) ≡ []
no_nodes r n e = ap (λ k. drop k (nodes_of r)) (e ∙ sym (length-preorder (file_in r).statements)) ∙ drop-length (nodes_of r)

pub counted_last : (r : RowTree) (first p n : ℕ) (ns : List (Option NodePoints)) → n ≡ count (file_in r).statements → Counted (nodes_of r) first p n ns →
    (ns ≡ numbers first (nodes_of r)) × (p ≡ behind_all first (nodes_of r))
counted_last r first p n ns e c = (
  sym (append-nil ns) ∙ sym (ap (λ ts. ns ++ numbers p ts) (no_nodes r n e)) ∙ c.numbers,
  sym (ap (behind_all p) (no_nodes r n e)) ∙ c.behind,
)

-- ---- files

file_numbers_at : (p i : ℕ) (rs : List RowTree) → file_numbers p (drop i rs)
    ≡ file_numbers p (option_to_list (slice_get rs i)) ++ file_numbers (behind_files p (option_to_list (slice_get rs i))) (drop (i + 1) rs)
file_numbers_at p i rs =
    ap (file_numbers p) (drop_at rs i) ∙ at (slice_get rs i)
    ∙ ap (λ j. file_numbers p (option_to_list (slice_get rs i)) ++ file_numbers (behind_files p (option_to_list (slice_get rs i))) (drop j rs)) (sym (add-one i))
  where
    at : (o : Option RowTree) → file_numbers p (option_to_list o ++ drop (suc i) rs)
        ≡ file_numbers p (option_to_list o) ++ file_numbers (behind_files p (option_to_list o)) (drop (suc i) rs)
    at None = refl
    at (Some r) = refl

behind_files_at : (p i : ℕ) (rs : List RowTree) → behind_files p (drop i rs) ≡ behind_files (behind_files p (option_to_list (slice_get rs i))) (drop (i + 1) rs)
behind_files_at p i rs =
    ap (behind_files p) (drop_at rs i) ∙ at (slice_get rs i)
    ∙ ap (λ j. behind_files (behind_files p (option_to_list (slice_get rs i))) (drop j rs)) (sym (add-one i))
  where
    at : (o : Option RowTree) → behind_files p (option_to_list o ++ drop (suc i) rs) ≡ behind_files (behind_files p (option_to_list o)) (drop (suc i) rs)
    at None = refl
    at (Some r) = refl

edges_at : (f p : ℕ) (rs : List RowTree) → edges_from f p (drop f rs)
    ≡ edges_from f p (option_to_list (slice_get rs f)) ++ edges_from (f + 1) (behind_files p (option_to_list (slice_get rs f))) (drop (f + 1) rs)
edges_at f p rs =
    ap (edges_from f p) (drop_at rs f) ∙ at (slice_get rs f) (drop_past rs f)
    ∙ ap (λ j. edges_from f p (option_to_list (slice_get rs f)) ++ edges_from j (behind_files p (option_to_list (slice_get rs f))) (drop j rs)) (sym (add-one f))
  where
    at : (o : Option RowTree) → (o ≡ None → drop (suc f) rs ≡ []) → edges_from f p (option_to_list o ++ drop (suc f) rs)
        ≡ edges_from f p (option_to_list o) ++ edges_from (suc f) (behind_files p (option_to_list o)) (drop (suc f) rs)
    at None past = ap (edges_from f p) (past refl) ∙ sym (ap (edges_from (suc f) p) (past refl))
    at (Some r) past =
        ap (λ es. es ++ edges_from (suc f) (behind_all p (nodes_of r)) (drop (suc f) rs))
        (sym (append-nil (map (numbered f (numbers p (nodes_of r))) (file_edges (file_in r).statements))))

no_files : (xs : Files) (n : ℕ) → n ≡ length xs → drop n (trees_of xs) ≡ []
no_files xs n e = ap (λ k. drop k (trees_of xs)) (e ∙ sym (length-map xs (λ x. x.1))) ∙ drop-length (trees_of xs)

-- the tree of a file, if there is one with that number
abbrev tree_in : Files → ℕ → List RowTree
tree_in xs f = option_to_list (option_map (λ x. x.1) (slice_get xs f))

tree_is : (xs : Files) (f : ℕ) → tree_in xs f ≡ option_to_list (slice_get (trees_of xs) f)
tree_is xs f = ap option_to_list (sym (slice_get-map (λ x. x.1) xs f))

-- what is done, and what is still to be done, make the whole
pub record Done (xs : Files) (f : ℕ) (ps : Points) : Type 0 where
  pub count : behind_files ps.count (drop f (trees_of xs)) ≡ behind_files 0 (trees_of xs)
  pub numbers : lists_of ps.numbers.items ++ file_numbers ps.count (drop f (trees_of xs)) ≡ file_numbers 0 (trees_of xs)
  pub edges : ps.edges.items ++ edges_from f ps.count (drop f (trees_of xs)) ≡ edges_from 0 0 (trees_of xs)

pub done_first : (xs : Files) (ps : Points) → ps.count ≡ 0 → ps.numbers.items ≡ [] → ps.edges.items ≡ [] → Done xs 0 ps
done_first xs ps c n e = record {
  count = ap (λ p. behind_files p (trees_of xs)) c;
  numbers = ap (λ vs. lists_of vs ++ file_numbers ps.count (trees_of xs)) n ∙ ap (λ p. file_numbers p (trees_of xs)) c;
  edges = ap (λ es. es ++ edges_from 0 ps.count (trees_of xs)) e ∙ ap (λ p. edges_from 0 p (trees_of xs)) c;
}

pub done_step : (xs : Files) (f : ℕ) (old new : Points) → new.count ≡ behind_files old.count (tree_in xs f) →
    lists_of new.numbers.items ≡ lists_of old.numbers.items ++ file_numbers old.count (tree_in xs f) →
    new.edges.items ≡ old.edges.items ++ edges_from f old.count (tree_in xs f) → Done xs f old → Done xs (f + 1) new
done_step xs f old new c n e d = record {
  count = ap (λ p. behind_files p rest) count_is ∙ sym (behind_files_at old.count f (trees_of xs)) ∙ d.count;
  numbers =
      ap (λ ls. ls ++ file_numbers new.count rest) (n ∙ ap (λ rs. lists_of old.numbers.items ++ file_numbers old.count rs) (tree_is xs f))
      ∙ ap (λ p. (lists_of old.numbers.items ++ file_numbers old.count one) ++ file_numbers p rest) count_is
      ∙ append_assoc (lists_of old.numbers.items) (file_numbers old.count one) (file_numbers (behind_files old.count one) rest)
      ∙ ap (λ ls. lists_of old.numbers.items ++ ls) (sym (file_numbers_at old.count f (trees_of xs))) ∙ d.numbers;
  edges =
      ap (λ es. es ++ edges_from (f + 1) new.count rest) (e ∙ ap (λ rs. old.edges.items ++ edges_from f old.count rs) (tree_is xs f))
      ∙ ap (λ p. (old.edges.items ++ edges_from f old.count one) ++ edges_from (f + 1) p rest) count_is
      ∙ append_assoc old.edges.items (edges_from f old.count one) (edges_from (f + 1) (behind_files old.count one) rest)
      ∙ ap (λ es. old.edges.items ++ es) (sym (edges_at f old.count (trees_of xs))) ∙ d.edges;
}
  where
    one : List RowTree
    one = option_to_list (slice_get (trees_of xs) f)

    rest : List RowTree
    rest = drop (f + 1) (trees_of xs)

    count_is : new.count ≡ behind_files old.count one
    count_is = c ∙ ap (behind_files old.count) (tree_is xs f)

-- all files are done
pub done_last : (ps : Points) (xs : Files) (n : ℕ) → n ≡ length xs → Done xs n ps → ArePoints ps xs
done_last ps xs n e d = record {
  count = sym (ap (behind_files ps.count) (no_files xs n e)) ∙ d.count;
  edges = sym (append-nil ps.edges.items) ∙ sym (ap (λ rs. ps.edges.items ++ edges_from n ps.count rs) (no_files xs n e)) ∙ d.edges;
  nodes = λ at. ap (λ (ls : List (List (Option NodePoints))). points_of ls at) lists;
}
  where
    points_of : List (List (Option NodePoints)) → NodeRef → Option NodePoints
    points_of ls at = elim (slice_get ls at.file) [ None ↦ None | Some ms ↦ points_at ms at.node ]

    lists : lists_of ps.numbers.items ≡ file_numbers 0 (trees_of xs)
    lists = sym (append-nil (lists_of ps.numbers.items)) ∙ sym (ap (λ rs. lists_of ps.numbers.items ++ file_numbers ps.count rs) (no_files xs n e)) ∙ d.numbers

-- one more file
pub lists_push : (vs : List (Vec (Option NodePoints) Global)) (v : Vec (Option NodePoints) Global) → lists_of (vs ++ v ∷ []) ≡ lists_of vs ++ v.items ∷ []
lists_push vs v = map-append (λ w. w.items) vs (v ∷ [])

pub edges_one : (f p : ℕ) (r : RowTree) → edges_from f p (r ∷ []) ≡ map (numbered f (numbers p (nodes_of r))) (file_edges (file_in r).statements)
edges_one f p r = append-nil (map (numbered f (numbers p (nodes_of r))) (file_edges (file_in r).statements))
