-- Marks of what some numbers lead to.
use Rattle.std.proofs.Common.{◌≡◌, ◌<◌, ◌≤◌, ◌⊎◌, inl, inr, ℕ, Bool, true, false, List, [], ◌∷◌, ◌++◌, length, replicate, get_or, sym, subst, ◌∙◌}
use Rattle.std.specs.Prelude.{Contains}
use Rattle.std.proofs.lemmas.Bool.{cases_lt, false≢true}
use Rattle.std.proofs.lemmas.List.{get_or-replicate, get_or_past, get_or_read, length-replicate}
use Rattle.std.proofs.lemmas.List.Elements.{Contains-push, Contains-push_cases, Contains-append_left}
use Rattle.graph_search.specs.Graph.{Graph, Path, here, step, IsClosed, IsMarkedFrom, marked}
use Rattle.graph_search.proofs.MarkLemmas.{no_element}
use Rattle.declared_twice.specs.Marked.{Marked}

-- nothing is marked
pub unmarked : (n b : ℕ) → marked (replicate n false) b ≡ true → ⊥
unmarked n b m = at (cases_lt b n)
  where
    at : (b < n) ⊎ (n ≤ b) → ⊥
    at (inl l) = false≢true (sym (get_or-replicate n b false false l) ∙ m)
    at (inr l) = false≢true (sym (get_or_past (replicate n false) b false (subst (λ (k : ℕ). k ≤ b) (sym (length-replicate n false)) l)) ∙ m)

-- no mark is closed
pub unmarked_closed : (g : Graph) (n : ℕ) → IsClosed g (replicate n false)
unmarked_closed g n = λ a b m e. absurd (unmarked n a m)

-- what no number leads to
pub marked_none : (g : Graph) → Marked g [] (replicate (length g) false)
marked_none g = record {
  size = length-replicate (length g) false;
  closed = unmarked_closed g (length g);
  all = λ e c. absurd (no_element e c);
  sound = λ b m. absurd (unmarked (length g) b m);
}

-- one more number
pub marked_more : (g : Graph) (es : List ℕ) (f : ℕ) (old new : List Bool) → Marked g es old → IsMarkedFrom g f old new → Marked g (es ++ f ∷ []) new
marked_more g es f old new m n = record {
  size = n.size ∙ m.size;
  closed = n.closed;
  all = λ e c. all e (Contains-push_cases es f e c);
  sound = λ b h. sound b (n.sound b h);
}
  where
    all : (e : ℕ) → Contains es e ⊎ (f ≡ e) → marked new e ≡ true
    all e (inl c) = n.kept e (m.all e c)
    all e (inr s) = subst (λ (x : ℕ). marked new x ≡ true) s n.reached

    sound : (b : ℕ) → (marked old b ≡ true) ⊎ Path g f b → (e : ℕ) × Contains (es ++ f ∷ []) e × Path g e b
    sound b (inl h) = let s = m.sound b h in (s.0, Contains-append_left es (f ∷ []) s.0 s.1, s.2)
    sound b (inr p) = (f, Contains-push es f, p)

-- marks are closed along paths
pub closed_path : (g : Graph) (ms : List Bool) (a b : ℕ) → IsClosed g ms → marked ms a ≡ true → Path g a b → marked ms b ≡ true
closed_path g ms _ b closed m (here _) = m
closed_path g ms _ c closed m (step a b _ e p) = closed_path g ms b c closed (closed a b m e) p

-- what one of the numbers leads to is marked
pub marked_path : (g : Graph) (es : List ℕ) (ms : List Bool) (e b : ℕ) → Marked g es ms → Contains es e → Path g e b → marked ms b ≡ true
marked_path g es ms e b m c p = closed_path g ms e b m.closed (m.all e c) p

-- a mark that is read
pub mark_read : (ms : List Bool) (i : ℕ) (x b : Bool) → i < length ms → x ≡ get_or ms i x → x ≡ b → marked ms i ≡ b
mark_read ms i x b l e s = sym (get_or_read ms i x l e false) ∙ s
