-- The rewritten tree of nested ternaries, without the table.
use Rattle.std.proofs.Common.{◌≡◌, ℕ, zero, suc, ◌+◌, ◌<◌, List, [], ◌∷◌, ◌++◌, length, Option, Some, None, refl, ap, sym, ◌∙◌, arith, slice_get, length-append, add-zero, zero-add}
use Rattle.std.specs.Prelude.{unwrap_or}
use Rattle.php_tree.specs.declared.kind.NodeKind.{NodeKind}
use Rattle.php_tree.specs.Tree.{Forest, none, leaf, node, alone, ◌+++◌, count}
use Rattle.tracked_changes.specs.patches.Patches.{Patches, Wrapping}
use Rattle.tracked_changes.specs.patches.Rewritten.{wrapped, rewritten}
use Rattle.syntax_rules.specs.NestedTernary.{around, wrappings, nested_ternary}

-- a forest with its nested ternaries in parentheses, whose first part stands leftmost in a node of a kind, if any
abbrev pub regrouped : Option NodeKind → Forest → Forest
regrouped outer none = none
regrouped outer (leaf t f) = leaf t (regrouped None f)
regrouped outer (node k c f) = alone (wrapped (around outer k) (k, regrouped (Some k) c)) +++ regrouped None f

length-wrappings : (outer : Option NodeKind) (f : Forest) → length (wrappings outer f) ≡ count f
length-wrappings outer none = refl
length-wrappings outer (leaf t f) = length-wrappings None f
length-wrappings outer (node k c f) =
    ap suc (length-append (wrappings (Some k) c) (wrappings None f)) ∙ omega (arith, length-wrappings (Some k) c, length-wrappings None f)

-- what a list has at a position, or nothing
abbrev pub entry : List (List Wrapping) → ℕ → List Wrapping
entry ws j = unwrap_or (slice_get ws j) []

pub entry-within : (ws vs : List (List Wrapping)) (j : ℕ) → j < length ws → entry (ws ++ vs) j ≡ entry ws j
entry-within [] vs j h = absurd (omega arith)
entry-within (w ∷ ws) vs zero h = refl
entry-within (w ∷ ws) vs (suc j) h = entry-within ws vs j (omega arith)

pub entry-behind : (ws vs : List (List Wrapping)) (n j : ℕ) → n ≡ length ws + j → entry (ws ++ vs) n ≡ entry vs j
entry-behind [] vs n j e = ap (entry vs) (e ∙ zero-add j)
entry-behind (w ∷ ws) vs n j e =
    let d : n ≡ suc (length ws + j) = omega arith in
    ap (entry ((w ∷ ws) ++ vs)) d ∙ entry-behind ws vs (length ws + j) j refl

-- a table that has the forest's wrappings from a number on
abbrev pub Agrees : Patches → ℕ → Option NodeKind → Forest → Type 0
Agrees p id outer f = (j : ℕ) → j < count f → p (id + j) ≡ entry (wrappings outer f) j

-- a table that agrees with a node agrees with what stands in it and behind it
pub agrees_here : (p : Patches) (id : ℕ) (outer : Option NodeKind) (k : NodeKind) (c f : Forest) → Agrees p id outer (node k c f) → p id ≡ around outer k
agrees_here p id outer k c f h = ap p (sym (add-zero id)) ∙ h 0 (omega arith)

pub agrees_inside : (p : Patches) (id : ℕ) (outer : Option NodeKind) (k : NodeKind) (c f : Forest) → Agrees p id outer (node k c f) → Agrees p (suc id) (Some k) c
agrees_inside p id outer k c f h j below =
    ap p (omega arith) ∙ h (suc j) (omega arith) ∙ entry-within (wrappings (Some k) c) (wrappings None f) j (omega (arith, length-wrappings (Some k) c))

pub agrees_after : (p : Patches) (id : ℕ) (outer : Option NodeKind) (k : NodeKind) (c f : Forest) → Agrees p id outer (node k c f) → Agrees p (suc (id + count c)) None f
agrees_after p id outer k c f h j below =
    ap p (omega arith) ∙ h (suc (count c + j)) (omega arith)
    ∙ entry-behind (wrappings (Some k) c) (wrappings None f) (count c + j) j (omega (arith, length-wrappings (Some k) c))

-- the table of a file agrees with it
pub table_agrees : (f : Forest) → Agrees (nested_ternary f) 0 None f
table_agrees f j h = ap (nested_ternary f) (zero-add j)

pub rewritten_as : (p : Patches) (id : ℕ) (outer : Option NodeKind) (f : Forest) → Agrees p id outer f → rewritten p id f ≡ regrouped outer f
rewritten_as p id outer none h = refl
rewritten_as p id outer (leaf t f) h = ap (leaf t) (rewritten_as p id None f h)
rewritten_as p id outer (node k c f) h =
    rw (
      agrees_here p id outer k c f h,
      rewritten_as p (suc id) (Some k) c (agrees_inside p id outer k c f h),
      rewritten_as p (suc (id + count c)) None f (agrees_after p id outer k c f h),
    ) refl

-- the rewritten statements of a file
pub rewritten_is : (f : Forest) → rewritten (nested_ternary f) 0 f ≡ regrouped None f
rewritten_is f = rewritten_as (nested_ternary f) 0 None f (table_agrees f)
