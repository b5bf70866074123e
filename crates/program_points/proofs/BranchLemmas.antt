-- Conditions in turn, each with its statements.
use Rattle.std.proofs.Common.{◌≡◌, ◌≤◌, ◌<◌, ℕ, zero, suc, ◌-◌, Bool, true, false, ◌||◌, if◌then◌else◌}
use Rattle.std.proofs.Common.{codes, List, [], ◌∷◌, ◌++◌, refl, sym, ap, ◌∙◌, append_assoc, append-nil, arith}
use Rattle.program_points.specs.declared.point.Point.{Point}
use Rattle.program_points.specs.declared.point.Point.TheVariants.{Before, After}
use Rattle.program_points.specs.Pieces.{Pieces, end, word, expr, stmt, other, exprs, stmts, behind, has_word, is_word}
use Rattle.program_points.specs.Rows.{Edge, edge, chain, branches, first_branch, size}

-- what stands behind a word is less
pub behind_less : (w : List ℕ) (ps : Pieces) → has_word w ps ≡ true → size (behind w ps) < size ps
behind_less w end h = cc
behind_less w (word t ps) h = at_word (is_word w t) (behind_less w ps) h
  where
    at_word : (b : Bool) → (has_word w ps ≡ true → size (behind w ps) < size ps) → (b || has_word w ps) ≡ true → size (if b then ps else behind w ps) < suc (size ps)
    at_word true rest g = omega arith
    at_word false rest g = let l = rest g in omega arith
behind_less w (expr n ps) h = let l = behind_less w ps h in omega arith
behind_less w (stmt n ps) h = let l = behind_less w ps h in omega arith
behind_less w (other k n inner ps) h = let l = behind_less w ps h in omega arith

-- one condition with its statements, and what follows
abbrev rest_of : ℕ → ℕ → ℕ → Pieces → Bool → List Edge
rest_of m n c ps b =
    if b then branches m n (After c) (behind (codes "elseif") ps) else chain n (After c) (stmts (behind (codes "else") ps)) (After n)

abbrev one_of : ℕ → ℕ → Point → Pieces → List ℕ → List Edge
one_of m n from ps cs = elim cs [
  | [] ↦ []
  | c ∷ more ↦ edge n from (Before c) ++ chain n (After c) (stmts (first_branch ps)) (After n) ++ rest_of m n c ps (has_word (codes "elseif") ps)
]

pub branches_none : (m n : ℕ) (from : Point) (ps : Pieces) → exprs (first_branch ps) ≡ [] → branches m n from ps ≡ []
branches_none zero n from ps e = refl
branches_none (suc m) n from ps e = ap (one_of m n from ps) e

pub branches_at : (m n : ℕ) (from : Point) (ps : Pieces) (c : ℕ) (cs : List ℕ) → exprs (first_branch ps) ≡ c ∷ cs →
    branches (suc m) n from ps
    ≡ edge n from (Before c) ++ chain n (After c) (stmts (first_branch ps)) (After n) ++ rest_of m n c ps (has_word (codes "elseif") ps)
branches_at m n from ps c cs e = ap (one_of m n from ps) e

-- as many turns as there are pieces are enough
pub enough : (m k n : ℕ) (from : Point) (ps : Pieces) → size ps ≤ m → size ps ≤ k → branches m n from ps ≡ branches k n from ps
enough zero zero n from ps a b = refl
enough zero (suc k) n from end a b = refl
enough zero (suc k) n from (word t ps) a b = absurd (omega arith)
enough zero (suc k) n from (expr j ps) a b = absurd (omega arith)
enough zero (suc k) n from (stmt j ps) a b = absurd (omega arith)
enough zero (suc k) n from (other j i inner ps) a b = absurd (omega arith)
enough (suc m) zero n from end a b = refl
enough (suc m) zero n from (word t ps) a b = absurd (omega arith)
enough (suc m) zero n from (expr j ps) a b = absurd (omega arith)
enough (suc m) zero n from (stmt j ps) a b = absurd (omega arith)
enough (suc m) zero n from (other j i inner ps) a b = absurd (omega arith)
enough (suc m) (suc k) n from ps a b = at_exprs (λ c. enough m k n (After c) (behind (codes "elseif") ps)) (exprs (first_branch ps)) refl
  where
    further : (c : ℕ) → (size (behind (codes "elseif") ps) ≤ m → size (behind (codes "elseif") ps) ≤ k →
        branches m n (After c) (behind (codes "elseif") ps) ≡ branches k n (After c) (behind (codes "elseif") ps)) →
        (h : Bool) → has_word (codes "elseif") ps ≡ h → rest_of m n c ps h ≡ rest_of k n c ps h
    further c less false e = refl
    further c less true e = let l = behind_less (codes "elseif") ps e in less (omega arith) (omega arith)

    at_exprs : ((c : ℕ) → size (behind (codes "elseif") ps) ≤ m → size (behind (codes "elseif") ps) ≤ k →
        branches m n (After c) (behind (codes "elseif") ps) ≡ branches k n (After c) (behind (codes "elseif") ps)) →
        (cs : List ℕ) → exprs (first_branch ps) ≡ cs → branches (suc m) n from ps ≡ branches (suc k) n from ps
    at_exprs less [] e = branches_none (suc m) n from ps e ∙ sym (branches_none (suc k) n from ps e)
    at_exprs less (c ∷ cs) e =
        branches_at m n from ps c cs e
        ∙ ap (λ es. edge n from (Before c) ++ chain n (After c) (stmts (first_branch ps)) (After n) ++ es) (further c (less c) (has_word (codes "elseif") ps) refl)
        ∙ sym (branches_at k n from ps c cs e)

-- there is a turn where there is a condition
pub some_turn : (ps : Pieces) (c : ℕ) (cs : List ℕ) → exprs (first_branch ps) ≡ c ∷ cs → size ps ≡ suc (size ps - 1)
some_turn end c cs e = cc
some_turn (word t ps) c cs e = omega arith
some_turn (expr j ps) c cs e = omega arith
some_turn (stmt j ps) c cs e = omega arith
some_turn (other j i inner ps) c cs e = omega arith

-- a further condition comes
pub branches_more : (n : ℕ) (from : Point) (ps rest : Pieces) (c : ℕ) (cs : List ℕ) → exprs (first_branch ps) ≡ c ∷ cs → has_word (codes "elseif") ps ≡ true →
    rest ≡ behind (codes "elseif") ps →
    branches (size ps) n from ps
    ≡ edge n from (Before c) ++ chain n (After c) (stmts (first_branch ps)) (After n) ++ branches (size rest) n (After c) rest
branches_more n from ps rest c cs e h r =
    let turn = some_turn ps c cs e in
    let l = behind_less (codes "elseif") ps h in
    ap (λ m. branches m n from ps) turn ∙ branches_at (size ps - 1) n from ps c cs e
    ∙ ap (λ b. edge n from (Before c) ++ chain n (After c) (stmts (first_branch ps)) (After n) ++ rest_of (size ps - 1) n c ps b) h
    ∙ ap (λ es. edge n from (Before c) ++ chain n (After c) (stmts (first_branch ps)) (After n) ++ es)
    (enough (size ps - 1) (size (behind (codes "elseif") ps)) n (After c) (behind (codes "elseif") ps) (omega arith) (omega arith)
    ∙ ap (λ qs. branches (size qs) n (After c) qs) (sym r))

-- the last condition
pub branches_last : (n : ℕ) (from : Point) (ps : Pieces) (c : ℕ) (cs : List ℕ) → exprs (first_branch ps) ≡ c ∷ cs → has_word (codes "elseif") ps ≡ false →
    branches (size ps) n from ps
    ≡ edge n from (Before c) ++ chain n (After c) (stmts (first_branch ps)) (After n) ++ chain n (After c) (stmts (behind (codes "else") ps)) (After n)
branches_last n from ps c cs e h =
    let turn = some_turn ps c cs e in
    ap (λ m. branches m n from ps) turn ∙ branches_at (size ps - 1) n from ps c cs e
    ∙ ap (λ b. edge n from (Before c) ++ chain n (After c) (stmts (first_branch ps)) (After n) ++ rest_of (size ps - 1) n c ps b) h

-- ---- behind what was there before

pub branches_done : (n : ℕ) (from : Point) (ps : Pieces) (before : List Edge) (whole : List Edge) → exprs (first_branch ps) ≡ [] →
    before ++ branches (size ps) n from ps ≡ whole → before ≡ whole
branches_done n from ps before whole e h =
    sym (append-nil before) ∙ ap (λ es. before ++ es) (sym (branches_none (size ps) n from ps e)) ∙ h

pub branches_step : (n : ℕ) (from : Point) (ps rest : Pieces) (c : ℕ) (cs : List ℕ) (before first second whole : List Edge) →
    exprs (first_branch ps) ≡ c ∷ cs → has_word (codes "elseif") ps ≡ true → rest ≡ behind (codes "elseif") ps →
    first ≡ before ++ edge n from (Before c) → second ≡ first ++ chain n (After c) (stmts (first_branch ps)) (After n) →
    before ++ branches (size ps) n from ps ≡ whole → second ++ branches (size rest) n (After c) rest ≡ whole
branches_step n from ps rest c cs before first second whole e h r a b w =
    let middle = chain n (After c) (stmts (first_branch ps)) (After n) in
    let more = branches (size rest) n (After c) rest in
    ap (λ es. es ++ more) (b ∙ ap (λ es. es ++ middle) a)
    ∙ ap (λ es. es ++ more) (append_assoc before (edge n from (Before c)) middle)
    ∙ append_assoc before (edge n from (Before c) ++ middle) more
    ∙ ap (λ es. before ++ es) (sym (branches_more n from ps rest c cs e h r)) ∙ w

pub branches_end : (n : ℕ) (from : Point) (ps rest : Pieces) (c : ℕ) (cs : List ℕ) (before first second third whole : List Edge) →
    exprs (first_branch ps) ≡ c ∷ cs → has_word (codes "elseif") ps ≡ false → rest ≡ behind (codes "else") ps →
    first ≡ before ++ edge n from (Before c) → second ≡ first ++ chain n (After c) (stmts (first_branch ps)) (After n) →
    third ≡ second ++ chain n (After c) (stmts rest) (After n) →
    before ++ branches (size ps) n from ps ≡ whole → third ≡ whole
branches_end n from ps rest c cs before first second third whole e h r a b d w =
    let middle = chain n (After c) (stmts (first_branch ps)) (After n) in
    let last : Pieces → List Edge = λ qs. chain n (After c) (stmts qs) (After n) in
    d ∙ ap (λ es. es ++ last rest) (b ∙ ap (λ es. es ++ middle) a)
    ∙ ap (λ es. es ++ last rest) (append_assoc before (edge n from (Before c)) middle)
    ∙ append_assoc before (edge n from (Before c) ++ middle) (last rest)
    ∙ ap (λ qs. before ++ (edge n from (Before c) ++ middle ++ last qs)) r
    ∙ ap (λ es. before ++ es) (sym (branches_last n from ps c cs e h)) ∙ w
