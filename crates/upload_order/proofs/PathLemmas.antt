-- The parts of a path, byte by byte.
use Rattle.std.proofs.Common.{◌≡◌, ℕ, suc, ◌+◌, ◌<◌, ◌≤◌, Bool, true, false, List, [], ◌∷◌, length, drop, get_or, Option, None, Some, ap, sym, ◌∙◌, refl, arith, drop-cons}
use Rattle.std.proofs.lemmas.List.{drop_all}
use Rattle.upload_order.specs.Paths.{Goes, has_parts, may_end}
use Rattle.upload_order.specs.declared.paths.Part.{Part}
use Rattle.upload_order.specs.declared.paths.Part.TheVariants.{Empty}

-- the next byte and what follows it
parted : (path : List ℕ) (i : ℕ) → i < length path → drop i path ≡ get_or path i 0 ∷ drop (i + 1) path
parted path i h = drop-cons path i 0 h ∙ ap (λ n. get_or path i 0 ∷ drop n path) (next i)
  where
    next : (i : ℕ) → suc i ≡ i + 1
    next i = omega arith

pub stops : (path : List ℕ) (i : ℕ) (part : Part) → i < length path → has_parts part (drop i path) ≡ has_parts Empty path
    → Goes part (get_or path i 0) None → false ≡ has_parts Empty path
stops path i part h so_far none = sym (none (drop (i + 1) path)) ∙ ap (has_parts part) (sym (parted path i h)) ∙ so_far

pub goes_on : (path : List ℕ) (i : ℕ) (part next : Part) → i < length path
    → has_parts part (drop i path) ≡ has_parts Empty path → Goes part (get_or path i 0) (Some next)
    → has_parts next (drop (i + 1) path) ≡ has_parts Empty path
goes_on path i part next h so_far on = sym (on (drop (i + 1) path)) ∙ ap (has_parts part) (sym (parted path i h)) ∙ so_far

pub at_end : (path : List ℕ) (n : ℕ) (part : Part) → n ≡ length path → has_parts part (drop n path) ≡ has_parts Empty path
    → may_end part ≡ has_parts Empty path
at_end path n part e so_far = ap (has_parts part) (sym (drop_all n path (omega (arith, e)))) ∙ so_far
