-- Edges of loops.
use Rattle.std.proofs.Common.{◌≡◌, ℕ, List, [], ◌∷◌, ◌++◌, Some, None, refl, sym, ap, ◌∙◌, append_assoc}
use Rattle.program_points.specs.declared.point.Point.{Point}
use Rattle.program_points.specs.declared.point.Point.TheVariants.{Before, After}
use Rattle.program_points.specs.Rows.{Edge, edge, run, chain, first_or, last_or, in_order, while_loop, do_loop, for_loop, exit_of, foreach_loop, head_of}
use Rattle.program_points.proofs.ChainLemmas.{run-append, last_or-append, first_or-append, chain_two, chain_after}

-- four steps behind what was there before
pub four_behind : (e a b c d : List Edge) → (((e ++ a) ++ b) ++ c) ++ d ≡ e ++ (((a ++ b) ++ c) ++ d)
four_behind e a b c d = simp append_assoc

-- from some nodes through two more lists, and behind them
pub chain_four : (n : ℕ) (from : Point) (ws xs ys zs : List ℕ) (to : Point) →
    chain n from (ws ++ xs ++ ys ++ zs) to
    ≡ run n from ws ++ run n (last_or ws from) xs ++ run n (last_or xs (last_or ws from)) ys ++ run n (last_or ys (last_or xs (last_or ws from))) zs
    ++ edge n (last_or zs (last_or ys (last_or xs (last_or ws from)))) to
chain_four n from ws xs ys zs to =
    chain_two n from (ws ++ xs ++ ys) zs to
    ∙ ap (λ es. es ++ run n (last_or (ws ++ xs ++ ys) from) zs ++ edge n (last_or zs (last_or (ws ++ xs ++ ys) from)) to)
    (run-append n from (ws ++ xs) ys ∙ ap (λ es. es ++ run n (last_or (ws ++ xs) from) ys) (run-append n from ws xs)
    ∙ ap (λ p. run n from ws ++ run n (last_or ws from) xs ++ run n p ys) (last_or-append ws xs from))
    ∙ ap (λ p. run n from ws ++ run n (last_or ws from) xs ++ run n (last_or xs (last_or ws from)) ys ++ run n p zs ++ edge n (last_or zs p) to)
    (last_or-append (ws ++ xs) ys from ∙ ap (last_or ys) (last_or-append ws xs from))

pub while_is : (n : ℕ) (cs ss : List ℕ) → while_loop n cs ss
    ≡ run n (Before n) cs ++ run n (last_or cs (Before n)) ss ++ edge n (last_or ss (last_or cs (Before n))) (first_or cs (first_or ss (Before n)))
    ++ edge n (last_or cs (Before n)) (After n)
while_is n cs ss =
    ap (λ es. es ++ edge n (last_or cs (Before n)) (After n))
    (chain_two n (Before n) cs ss (first_or (cs ++ ss) (Before n))
    ∙ ap (λ p. run n (Before n) cs ++ run n (last_or cs (Before n)) ss ++ edge n (last_or ss (last_or cs (Before n))) p) (first_or-append cs ss (Before n)))

pub do_is : (n : ℕ) (ss cs : List ℕ) → do_loop n ss cs
    ≡ run n (Before n) ss ++ run n (last_or ss (Before n)) cs ++ edge n (last_or cs (last_or ss (Before n))) (first_or ss (first_or cs (Before n)))
    ++ edge n (last_or cs (Before n)) (After n)
do_is n ss cs =
    ap (λ es. es ++ edge n (last_or cs (Before n)) (After n))
    (chain_two n (Before n) ss cs (first_or (ss ++ cs) (Before n))
    ∙ ap (λ p. run n (Before n) ss ++ run n (last_or ss (Before n)) cs ++ edge n (last_or cs (last_or ss (Before n))) p) (first_or-append ss cs (Before n)))

-- a `for` that repeats something
pub for_some : (n : ℕ) (is cs ss ts : List ℕ) (a : ℕ) → head_of (cs ++ ss ++ ts) ≡ Some a →
    for_loop n is cs ss ts ≡ chain n (Before n) (is ++ cs ++ ss ++ ts) (Before a) ++ exit_of n cs
for_some n is [] [] [] a e = cc
for_some n is [] [] (t ∷ ts) a e = let f : t ≡ a = cc in ap (λ k. chain n (Before n) (is ++ [] ++ [] ++ t ∷ ts) (Before k) ++ exit_of n []) f
for_some n is [] (s ∷ ss) ts a e = let f : s ≡ a = cc in ap (λ k. chain n (Before n) (is ++ [] ++ (s ∷ ss) ++ ts) (Before k) ++ exit_of n []) f
for_some n is (c ∷ cs) ss ts a e = let f : c ≡ a = cc in ap (λ k. chain n (Before n) (is ++ (c ∷ cs) ++ ss ++ ts) (Before k) ++ exit_of n (c ∷ cs)) f

-- one that repeats nothing
pub for_none : (n : ℕ) (is cs ss ts : List ℕ) → head_of (cs ++ ss ++ ts) ≡ None → for_loop n is cs ss ts ≡ run n (Before n) is
for_none n is [] [] [] e = refl
for_none n is [] [] (t ∷ ts) e = cc
for_none n is [] (s ∷ ss) ts e = cc
for_none n is (c ∷ cs) ss ts e = cc

pub foreach_some : (n : ℕ) (ss ts : List ℕ) (a : ℕ) → head_of ts ≡ Some a → foreach_loop n ss ts
    ≡ chain n (Before n) (ss ++ ts) (Before a) ++ edge n (last_or ss (Before n)) (After n) ++ edge n (last_or ts (last_or ss (Before n))) (After n)
foreach_some n ss [] a e = cc
foreach_some n ss (b ∷ ts) a e = let f : b ≡ a = cc in
    ap (λ k. chain n (Before n) (ss ++ b ∷ ts) (Before k) ++ edge n (last_or ss (Before n)) (After n) ++ edge n (last_or ts (After b)) (After n)) f

pub foreach_none : (n : ℕ) (ss ts : List ℕ) → head_of ts ≡ None → foreach_loop n ss ts ≡ in_order n ss
foreach_none n ss [] e = refl
foreach_none n ss (b ∷ ts) e = cc

-- ---- behind what was there before

pub while_after : (n : ℕ) (cs ss : List ℕ) (e0 e1 e2 e3 e4 : List Edge) (body again tested passed : Point) →
    body ≡ first_or ss (Before n) → again ≡ first_or cs body →
    e1 ≡ e0 ++ run n (Before n) cs → tested ≡ last_or cs (Before n) → e2 ≡ e1 ++ run n tested ss → passed ≡ last_or ss tested →
    e3 ≡ e2 ++ edge n passed again → e4 ≡ e3 ++ edge n tested (After n) → e4 ≡ e0 ++ while_loop n cs ss
while_after n cs ss e0 e1 e2 e3 e4 body again tested passed b a p1 t p2 q p3 p4 =
    p4 ∙ ap (λ es. es ++ edge n tested (After n)) (p3 ∙ ap (λ es. es ++ edge n passed again) (p2 ∙ ap (λ es. es ++ run n tested ss) p1))
    ∙ four_behind e0 (run n (Before n) cs) (run n tested ss) (edge n passed again) (edge n tested (After n))
    ∙ ap (λ p. e0 ++ (run n (Before n) cs ++ run n tested ss ++ edge n p again ++ edge n tested (After n))) q
    ∙ ap (λ p. e0 ++ (run n (Before n) cs ++ run n p ss ++ edge n (last_or ss p) again ++ edge n p (After n))) t
    ∙ ap (λ p. e0 ++ (run n (Before n) cs ++ run n (last_or cs (Before n)) ss
    ++ edge n (last_or ss (last_or cs (Before n))) p ++ edge n (last_or cs (Before n)) (After n)))
    (a ∙ ap (first_or cs) b)
    ∙ ap (λ es. e0 ++ es) (sym (while_is n cs ss))

pub do_after : (n : ℕ) (ss cs : List ℕ) (e0 e1 e2 e3 e4 : List Edge) (test again passed last tested : Point) →
    test ≡ first_or cs (Before n) → again ≡ first_or ss test →
    e1 ≡ e0 ++ run n (Before n) ss → passed ≡ last_or ss (Before n) → e2 ≡ e1 ++ run n passed cs → last ≡ last_or cs passed →
    e3 ≡ e2 ++ edge n last again → tested ≡ last_or cs (Before n) → e4 ≡ e3 ++ edge n tested (After n) → e4 ≡ e0 ++ do_loop n ss cs
do_after n ss cs e0 e1 e2 e3 e4 test again passed last tested b a p1 t p2 q p3 d p4 =
    p4 ∙ ap (λ es. es ++ edge n tested (After n)) (p3 ∙ ap (λ es. es ++ edge n last again) (p2 ∙ ap (λ es. es ++ run n passed cs) p1))
    ∙ four_behind e0 (run n (Before n) ss) (run n passed cs) (edge n last again) (edge n tested (After n))
    ∙ ap (λ p. e0 ++ (run n (Before n) ss ++ run n passed cs ++ edge n p again ++ edge n tested (After n))) q
    ∙ ap (λ p. e0 ++ (run n (Before n) ss ++ run n p cs ++ edge n (last_or cs p) again ++ edge n tested (After n))) t
    ∙ ap (λ p. e0 ++ (run n (Before n) ss ++ run n (last_or ss (Before n)) cs ++ edge n (last_or cs (last_or ss (Before n))) again ++ edge n p (After n))) d
    ∙ ap (λ p. e0 ++ (run n (Before n) ss ++ run n (last_or ss (Before n)) cs
    ++ edge n (last_or cs (last_or ss (Before n))) p ++ edge n (last_or cs (Before n)) (After n)))
    (a ∙ ap (first_or ss) b)
    ∙ ap (λ es. e0 ++ es) (sym (do_is n ss cs))

-- through four lists
pub four_after : (n : ℕ) (ws xs ys zs : List ℕ) (to : Point) (e0 e1 e2 e3 e4 e5 : List Edge) (p q r s : Point) →
    e1 ≡ e0 ++ run n (Before n) ws → p ≡ last_or ws (Before n) → e2 ≡ e1 ++ run n p xs → q ≡ last_or xs p →
    e3 ≡ e2 ++ run n q ys → r ≡ last_or ys q → e4 ≡ e3 ++ run n r zs → s ≡ last_or zs r → e5 ≡ e4 ++ edge n s to →
    e5 ≡ e0 ++ chain n (Before n) (ws ++ xs ++ ys ++ zs) to
four_after n ws xs ys zs to e0 e1 e2 e3 e4 e5 p q r s a ap1 b bq c cr d ds f =
    f ∙ ap (λ es. es ++ edge n s to) (d ∙ ap (λ es. es ++ run n r zs) (c ∙ ap (λ es. es ++ run n q ys) (b ∙ ap (λ es. es ++ run n p xs) a)))
    ∙ five e0 (run n (Before n) ws) (run n p xs) (run n q ys) (run n r zs) (edge n s to)
    ∙ ap (λ z. e0 ++ (run n (Before n) ws ++ run n p xs ++ run n q ys ++ run n r zs ++ edge n z to)) ds
    ∙ ap (λ z. e0 ++ (run n (Before n) ws ++ run n p xs ++ run n q ys ++ run n z zs ++ edge n (last_or zs z) to)) cr
    ∙ ap (λ z. e0 ++ (run n (Before n) ws ++ run n p xs ++ run n z ys ++ run n (last_or ys z) zs ++ edge n (last_or zs (last_or ys z)) to)) bq
    ∙ ap (λ z. e0 ++ (run n (Before n) ws ++ run n z xs ++ run n (last_or xs z) ys
    ++ run n (last_or ys (last_or xs z)) zs ++ edge n (last_or zs (last_or ys (last_or xs z))) to)) ap1
    ∙ ap (λ es. e0 ++ es) (sym (chain_four n (Before n) ws xs ys zs to))
  where
    five : (e a b c d f : List Edge) → ((((e ++ a) ++ b) ++ c) ++ d) ++ f ≡ e ++ ((((a ++ b) ++ c) ++ d) ++ f)
    five e a b c d f = simp append_assoc

pub for_after : (n : ℕ) (is cs ss ts : List ℕ) (a : ℕ) (e0 e5 e6 : List Edge) → head_of (cs ++ ss ++ ts) ≡ Some a →
    e5 ≡ e0 ++ chain n (Before n) (is ++ cs ++ ss ++ ts) (Before a) → e6 ≡ e5 ++ exit_of n cs → e6 ≡ e0 ++ for_loop n is cs ss ts
for_after n is cs ss ts a e0 e5 e6 h p q =
    q ∙ ap (λ es. es ++ exit_of n cs) p ∙ append_assoc e0 (chain n (Before n) (is ++ cs ++ ss ++ ts) (Before a)) (exit_of n cs)
    ∙ ap (λ es. e0 ++ es) (sym (for_some n is cs ss ts a h))

pub foreach_after : (n : ℕ) (ws xs ys zs : List ℕ) (a : ℕ) (e0 e5 e6 e7 : List Edge) (p q r s : Point) → head_of (xs ++ ys ++ zs) ≡ Some a →
    p ≡ last_or ws (Before n) → q ≡ last_or xs p → r ≡ last_or ys q → s ≡ last_or zs r →
    e5 ≡ e0 ++ chain n (Before n) (ws ++ xs ++ ys ++ zs) (Before a) → e6 ≡ e5 ++ edge n p (After n) → e7 ≡ e6 ++ edge n s (After n) →
    e7 ≡ e0 ++ foreach_loop n ws (xs ++ ys ++ zs)
foreach_after n ws xs ys zs a e0 e5 e6 e7 p q r s h pe qe re se f g k =
    k ∙ ap (λ es. es ++ edge n s (After n)) (g ∙ ap (λ es. es ++ edge n p (After n)) f)
    ∙ three e0 (chain n (Before n) (ws ++ xs ++ ys ++ zs) (Before a)) (edge n p (After n)) (edge n s (After n))
    ∙ ap (λ l. e0 ++ (chain n (Before n) l (Before a) ++ edge n p (After n) ++ edge n s (After n))) regroup
    ∙ ap (λ z. e0 ++ (chain n (Before n) (ws ++ (xs ++ ys ++ zs)) (Before a) ++ edge n p (After n) ++ edge n z (After n))) last
    ∙ ap (λ z. e0 ++ (chain n (Before n) (ws ++ (xs ++ ys ++ zs)) (Before a) ++ edge n z (After n) ++ edge n (last_or (xs ++ ys ++ zs) z) (After n))) pe
    ∙ ap (λ es. e0 ++ es) (sym (foreach_some n ws (xs ++ ys ++ zs) a h))
  where
    three : (e a b c : List Edge) → ((e ++ a) ++ b) ++ c ≡ e ++ ((a ++ b) ++ c)
    three e a b c = simp append_assoc

    regroup : ws ++ xs ++ ys ++ zs ≡ ws ++ (xs ++ ys ++ zs)
    regroup = simp append_assoc

    last : s ≡ last_or (xs ++ ys ++ zs) p
    last = se ∙ ap (last_or zs) (re ∙ ap (last_or ys) qe) ∙ ap (last_or zs) (sym (last_or-append xs ys p)) ∙ sym (last_or-append (xs ++ ys) zs p)

pub foreach_done : (n : ℕ) (ws ts : List ℕ) (e0 e1 e2 : List Edge) (p : Point) → head_of ts ≡ None →
    e1 ≡ e0 ++ run n (Before n) ws → p ≡ last_or ws (Before n) → e2 ≡ e1 ++ edge n p (After n) → e2 ≡ e0 ++ foreach_loop n ws ts
foreach_done n ws ts e0 e1 e2 p h a b c = chain_after n (Before n) p ws (After n) e0 e1 e2 a b c ∙ ap (λ es. e0 ++ es) (sym (foreach_none n ws ts h))
