-- What one run reaches that reaches a file.
use Rattle.std.proofs.Common.{◌≡◌, ◌⊎◌, inl, inr, ℕ, Bool, true, false, List, [], ◌∷◌, ◌++◌, length, replicate, sym, ap, subst, ◌∙◌}
use Rattle.std.specs.Prelude.{Contains}
use Rattle.std.proofs.lemmas.Bool.{false≢true}
use Rattle.std.proofs.lemmas.List.{length-replicate}
use Rattle.std.proofs.lemmas.List.Elements.{Contains-push, Contains-push_cases, Contains-append_left}
use Rattle.graph_search.specs.Graph.{Graph, Edge, Path, here, step, IsClosed, IsMarkedFrom, marked}
use Rattle.graph_search.proofs.MarkLemmas.{no_element}
use Rattle.declared_twice.specs.Runs.{AreMet, IsTurned, Meets}
use Rattle.declared_twice.proofs.MarkedLemmas.{closed_path, unmarked, unmarked_closed}

path_snoc : (g : Graph) (a b c : ℕ) → Path g a b → Edge g b c → Path g a c
path_snoc g _ _ c (here a) e = step a c c e (here c)
path_snoc g _ _ c (step a x b d p) e = step a x c d (path_snoc g x b c p e)

-- a path, the other way round
pub path_back : (next before : Graph) (a b : ℕ) → IsTurned next before → Path before a b → Path next b a
path_back next before _ _ t (here a) = here a
path_back next before _ _ t (step a b c e p) = path_snoc next c b a (path_back next before b c t p) (t.back a b e)

pub path_forth : (next before : Graph) (a b : ℕ) → IsTurned next before → Path next a b → Path before b a
path_forth next before _ _ t (here a) = here a
path_forth next before _ _ t (step a b c e p) = path_snoc before c b a (path_forth next before b c t p) (t.forth a b e)

-- Exactly what those of some entries lead to that are marked is marked.
pub record MetSoFar (next : Graph) (reaching : List Bool) (es : List ℕ) (ms : List Bool) : Type 0 where
  pub size : length ms ≡ length next
  pub closed : IsClosed next ms
  pub all : (e : ℕ) → Contains es e → marked reaching e ≡ true → marked ms e ≡ true
  pub sound : (b : ℕ) → marked ms b ≡ true → (e : ℕ) × Contains es e × (marked reaching e ≡ true) × Path next e b

pub met_none : (next : Graph) (reaching : List Bool) (n : ℕ) → n ≡ length next → MetSoFar next reaching [] (replicate n false)
met_none next reaching n e = record {
  size = length-replicate n false ∙ e;
  closed = unmarked_closed next n;
  all = λ x c. absurd (no_element x c);
  sound = λ b m. absurd (unmarked n b m);
}

pub met_past : (next : Graph) (reaching : List Bool) (es : List ℕ) (e : ℕ) (ms : List Bool)
    → marked reaching e ≡ false → MetSoFar next reaching es ms → MetSoFar next reaching (es ++ e ∷ []) ms
met_past next reaching es e ms h s = record {
  size = s.size;
  closed = s.closed;
  all = λ x c m. all x m (Contains-push_cases es e x c);
  sound = λ b m. let r = s.sound b m in (r.0, Contains-append_left es (e ∷ []) r.0 r.1, r.2, r.3);
}
  where
    all : (x : ℕ) → marked reaching x ≡ true → Contains es x ⊎ (e ≡ x) → marked ms x ≡ true
    all x m (inl c) = s.all x c m
    all x m (inr q) = absurd (false≢true (sym h ∙ ap (λ (y : ℕ). marked reaching y) q ∙ m))

pub met_more : (next : Graph) (reaching : List Bool) (es : List ℕ) (e : ℕ) (ms new : List Bool)
    → marked reaching e ≡ true → IsMarkedFrom next e ms new → MetSoFar next reaching es ms →
    MetSoFar next reaching (es ++ e ∷ []) new
met_more next reaching es e ms new h n s = record {
  size = n.size ∙ s.size;
  closed = n.closed;
  all = λ x c m. all x m (Contains-push_cases es e x c);
  sound = λ b m. sound b (n.sound b m);
}
  where
    all : (x : ℕ) → marked reaching x ≡ true → Contains es x ⊎ (e ≡ x) → marked new x ≡ true
    all x m (inl c) = n.kept x (s.all x c m)
    all x m (inr q) = subst (λ (y : ℕ). marked new y ≡ true) q n.reached

    sound : (b : ℕ) → (marked ms b ≡ true) ⊎ Path next e b → (x : ℕ) × Contains (es ++ e ∷ []) x × (marked reaching x ≡ true) × Path next x b
    sound b (inl m) = let r = s.sound b m in (r.0, Contains-append_left es (e ∷ []) r.0 r.1, r.2, r.3)
    sound b (inr p) = (e, Contains-push es e, h, p)

-- what the file leads to the other way round leads to it
pub met_all : (next before : Graph) (es : List ℕ) (f n : ℕ) (reaching ms : List Bool) → IsTurned next before → IsMarkedFrom before f (replicate n false) reaching →
    MetSoFar next reaching es ms → AreMet next es f ms
met_all next before es f n reaching ms t r s = record {
  size = s.size;
  sound = λ h m. sound h (s.sound h m);
  all = λ h m. closed_path next ms m.entry h s.closed
      (s.all m.entry m.among (closed_path before reaching f m.entry r.closed r.reached
      (path_forth next before m.entry f t m.first))) m.second;
}
  where
    leads : (e : ℕ) → (marked (replicate n false) e ≡ true) ⊎ Path before f e → Path next e f
    leads e (inl m) = absurd (unmarked n e m)
    leads e (inr p) = path_back next before f e t p

    sound : (h : ℕ) → (e : ℕ) × Contains es e × (marked reaching e ≡ true) × Path next e h → Meets next es f h
    sound h x = record { entry = x.0; among = x.1; first = leads x.0 (r.sound x.0 x.2); second = x.3 }
