-- Declarations that clash, worked out by hand.
use Rattle.std.proofs.Common.{◌≡◌, ◌<◌, ℕ, zero, suc, true, List, [], ◌∷◌, map, codes, refl, sym, ap, subst, ◌∙◌, slice_get, Some, None, Option, arith, lit<}
use Rattle.std.specs.Prelude.{Contains}
use Rattle.std.proofs.lemmas.Option.{none-some, same_Some}
use Rattle.php_tree.specs.declared.kind.NodeKind.TheVariants as kind
use Rattle.php_tree.specs.declared.token.TokenKind.TheVariants as token
use Rattle.php_tree.specs.Tree.{Forest, none, leaf, node}
use Rattle.node_names.specs.declared.name_sort.NameSort.TheVariants as sort
use Rattle.node_names.specs.Facts.{Fact, file_facts}
use Rattle.file_declarations.specs.declared.declaration.Declaration.{Declaration}
use Rattle.graph_search.proofs.MarkLemmas.{only_element}
use Rattle.program_names.specs.Table.{Table, Clash, IsReached, Reaches, here, through, all_declared}
use Rattle.declared_twice.specs.Keys.{Key, key_of}

abbrev key : List ℕ → Forest → Forest
key w f = leaf (record { kind = token.Keyword; lead = []; text = w; start = 0 }) f

abbrev op : List ℕ → Forest → Forest
op w f = leaf (record { kind = token.Op; lead = []; text = w; start = 0 }) f

abbrev label : List ℕ → Forest → Forest
label w f = leaf (record { kind = token.Label; lead = []; text = w; start = 0 }) f

abbrev name : List ℕ → Forest → Forest
name w f = leaf (record { kind = token.Name; lead = []; text = w; start = 0 }) f

abbrev block : Forest → Forest
block f = node kind.Block (op (codes "{") f) none

-- function W() { }
abbrev function : List ℕ → Forest → Forest
function w f = node kind.Function (key (codes "function") (label w (op (codes "(") (op (codes ")") (block (op (codes "}") none)))))) f

-- function W() { function V() { } }
abbrev outer : List ℕ → List ℕ → Forest → Forest
outer w v f = node kind.Function (key (codes "function") (label w (op (codes "(") (op (codes ")") (block (function v (op (codes "}") none))))))) f

-- { function W() { } }
abbrev in_block : List ℕ → Forest → Forest
in_block w f = node kind.Block (op (codes "{") (function w (op (codes "}") none))) f

-- namespace W;
abbrev space : List ℕ → Forest → Forest
space w f = node kind.Namespace (key (codes "namespace") (name w (op (codes ";") none))) f

-- const W = 1;
abbrev constant : List ℕ → Forest → Forest
constant w f = node kind.Const (key (codes "const") (label w (op (codes "=") (node kind.Number none (op (codes ";") none))))) f

abbrev file : Forest → Table
file f = file_facts (codes "a.php") f ∷ []

abbrev keys : Table → List (Option Key)
keys t = map key_of (all_declared t)

-- functions are compared without case
case_of_functions : keys (file (function (codes "F") (function (codes "f") none))) ≡ Some (sort.Function, codes "f") ∷ Some (sort.Function, codes "f") ∷ []
case_of_functions = refl

-- one that is declared inside another, or in a block, does not stand there unconditionally
inside_a_function : keys (file (outer (codes "f") (codes "g") none)) ≡ Some (sort.Function, codes "f") ∷ None ∷ []
inside_a_function = refl

inside_a_block : keys (file (in_block (codes "f") none)) ≡ None ∷ []
inside_a_block = refl

-- constants are compared with case but for their namespace
case_of_constants : keys (file (space (codes "N") (constant (codes "A") (constant (codes "a") none))))
    ≡ Some (sort.Constant, codes "n\\A") ∷ Some (sort.Constant, codes "n\\a") ∷ []
case_of_constants = refl

-- function f() { } function f() { }
abbrev two : Table
two = file (function (codes "f") (function (codes "f") none))

-- its declaration at a node of a file
abbrev declared_f : ℕ → ℕ → Declaration
declared_f f n = record { name = record { sort = sort.Function; text = codes "f" }; at = record { file = f; node = n }; is_top = true }

declared_two : all_declared two ≡ declared_f 0 0 ∷ declared_f 0 2 ∷ []
declared_two = refl

abbrev reached : Reaches (codes "a.php" ∷ []) two 0 0
reached = here 0 (lit< tt)

abbrev only : Contains {X = ℕ} (0 ∷ []) 0
only = (0, lit< tt, refl)

-- two functions of one file clash
two_in_a_file : Clash (codes "a.php" ∷ []) two (0 ∷ []) None 0 1
two_in_a_file = record {
  order = lit< tt;
  first = declared_f 0 0;
  second = declared_f 0 2;
  is_first = refl;
  is_second = refl;
  once = refl;
  same = refl;
  tops = (refl, refl);
  together = (0, only, (0, only, reached), (0, only, reached));
}

-- a.php: function f() { }  b.php: function f() { }
abbrev apart : Table
apart = file_facts (codes "a.php") (function (codes "f") none) ∷ file_facts (codes "b.php") (function (codes "f") none) ∷ []

abbrev paths : List (List ℕ)
paths = codes "a.php" ∷ codes "b.php" ∷ []

-- no node includes a file
abbrev IncludesNone : List Fact → Type 0
IncludesNone [] = Unit {0}
IncludesNone (x ∷ xs) = (x.includes ≡ None) × IncludesNone xs

abbrev FilesIncludeNone : Table → Type 0
FilesIncludeNone [] = Unit {0}
FilesIncludeNone (xs ∷ t) = IncludesNone xs × FilesIncludeNone t

none_at : (xs : List Fact) → IncludesNone xs → (n : ℕ) (x : Fact) (path : List ℕ) → slice_get xs n ≡ Some x → x.includes ≡ Some path → ⊥
none_at [] h n x path at e = none-some x at
none_at (y ∷ ys) h zero x path at e = none-some path (sym h.0 ∙ ap (λ (z : Fact). z.includes) (same_Some y x at) ∙ e)
none_at (y ∷ ys) h (suc n) x path at e = none_at ys h.1 n x path at e

none_in : (t : Table) → FilesIncludeNone t → (a : ℕ) (xs : List Fact) → slice_get t a ≡ Some xs → IncludesNone xs
none_in [] h a xs e = absurd (none-some xs e)
none_in (ys ∷ t) h zero xs e = subst (λ (zs : List Fact). IncludesNone zs) (same_Some ys xs e) h.0
none_in (ys ∷ t) h (suc a) xs e = none_in t h.1 a xs e

-- so each file reaches itself alone
reaches_itself : (ps : List (List ℕ)) (t : Table) (a b : ℕ) → FilesIncludeNone t → Reaches ps t a b → a ≡ b
reaches_itself ps t _ _ h (here f w) = refl
reaches_itself ps t _ _ h (through f g k i r) = absurd (none_at i.facts (none_in t h f i.facts i.of) i.node i.fact i.path i.at i.asked)

-- and a run without another file before it the entry alone
run_reaches : (t : Table) (ps : List (List ℕ)) (e f : ℕ) → FilesIncludeNone t → IsReached ps t (e ∷ []) f → e ≡ f
run_reaches t ps e f h r = only_element e r.0 r.1 ∙ reaches_itself ps t r.0 f h r.2

-- two files that never run together do not clash
two_files_apart : (i j : ℕ) → Clash paths apart (0 ∷ 1 ∷ []) None i j → ⊥
two_files_apart i j c = at i j c.order c.is_first c.is_second
    (sym (run_reaches apart paths c.together.0 c.first.at.file none c.together.2)
    ∙ run_reaches apart paths c.together.0 c.second.at.file none c.together.3)
  where
    none : FilesIncludeNone apart
    none = ((refl, (refl, tt)), ((refl, (refl, tt)), tt))

    at : (k l : ℕ) → k < l → slice_get (all_declared apart) k ≡ Some c.first → slice_get (all_declared apart) l ≡ Some c.second → c.first.at.file ≡ c.second.at.file → ⊥
    at zero zero s a b e = omega (arith, s)
    at zero (suc zero) s a b e =
        let first : 0 ≡ c.first.at.file = ap (λ (d : Declaration). d.at.file) (same_Some (declared_f 0 0) c.first a) in
        let second : 1 ≡ c.second.at.file = ap (λ (d : Declaration). d.at.file) (same_Some (declared_f 1 0) c.second b) in
        omega (arith, first, second, e)
    at zero (suc (suc l)) s a b e = none-some c.second b
    at (suc zero) zero s a b e = omega (arith, s)
    at (suc zero) (suc zero) s a b e = omega (arith, s)
    at (suc zero) (suc (suc l)) s a b e = none-some c.second b
    at (suc (suc k)) l s a b e = none-some c.first a
