-- Marks, one after another.
use Rattle.std.proofs.Common.{
  ◌≡◌,
  ◌<◌,
  ◌≤◌,
  ◌⊎◌,
  ◌≢◌,
  inl,
  inr,
  ℕ,
  zero,
  suc,
  ◌+◌,
  Bool,
  true,
  false,
  List,
  [],
  ◌∷◌,
  ◌++◌,
  length,
  take,
  drop,
  set,
  get_or,
  refl,
  sym,
  ap,
  subst,
  ◌∙◌,
  append_assoc,
  append-nil,
  arith,
}
use Rattle.std.specs.Prelude.{Contains, slice_get, Some, None, Option, unwrap_or}
use Rattle.std.proofs.lemmas.List.Elements.{Contains-append_left, Contains-append_right, Contains-append_cases, Contains-push, Contains-push_cases}
use Rattle.std.proofs.lemmas.List.{get_or-set_same, get_or-set_other, length-set}
use Rattle.std.proofs.lemmas.Bool.{cases_eq, true≢false}
use Rattle.graph_search.specs.Graph.{Graph, Edge, Path, here, step, IsClosed, IsWithin, IsMarkedFrom, marked}
use Rattle.graph_search.specs.Marks.{Marks, AreBelow}

pub some_same : {X : Type 0} (a b : X) → Some a ≡ Some b → a ≡ b
some_same a b e = ap (λ o. unwrap_or o a) e

pub no_element : (b : ℕ) → Contains [] b → ⊥
no_element b c = omega (arith, c.1)

pub only_element : (t b : ℕ) → Contains (t ∷ []) b → t ≡ b
only_element t b c = other (Contains-push_cases [] t b c)
  where
    other : Contains [] b ⊎ (t ≡ b) → t ≡ b
    other (inl h) = absurd (no_element b h)
    other (inr e) = e

-- what is marked is one of the numbers
pub marked_within : (ms : List Bool) (b : ℕ) → marked ms b ≡ true → b < length ms
marked_within [] b m = absurd (true≢false (sym m))
marked_within (x ∷ ms) zero m = omega arith
marked_within (x ∷ ms) (suc b) m = omega (arith, marked_within ms b m)

-- nothing is marked
pub marks_none : (ms : List Bool) (os : List ℕ) → Marks [] ms ms os os
marks_none ms os = record {
  size = refl;
  kept = λ b m. m;
  all = λ b c. absurd (no_element b c);
  more = [];
  longer = sym (append-nil os);
  from = λ b m. inl m;
  among = λ b c. c;
  are = λ b c. absurd (no_element b c);
}

-- a number that was marked
pub marks_old : (t : ℕ) (ms : List Bool) (os : List ℕ) → marked ms t ≡ true → Marks (t ∷ []) ms ms os os
marks_old t ms os m = record {
  size = refl;
  kept = λ b h. h;
  all = λ b c. subst (λ (x : ℕ). marked ms x ≡ true) (only_element t b c) m;
  more = [];
  longer = sym (append-nil os);
  from = λ b h. inl h;
  among = λ b c. absurd (no_element b c);
  are = λ b c. absurd (no_element b c);
}

set_old : (ms : List Bool) (t b : ℕ) → t < length ms → marked ms b ≡ true → marked (set ms t true) b ≡ true
set_old ms t b w m = at (cases_eq b t)
  where
    at : (b ≡ t) ⊎ (b ≢ t) → marked (set ms t true) b ≡ true
    at (inl e) = subst (λ (x : ℕ). marked (set ms t true) x ≡ true) (sym e) (get_or-set_same ms t true false w)
    at (inr n) = get_or-set_other ms t b true false n ∙ m

set_from : (ms : List Bool) (t b : ℕ) → marked (set ms t true) b ≡ true → (marked ms b ≡ true) ⊎ Contains (t ∷ []) b
set_from ms t b m = at (cases_eq b t)
  where
    at : (b ≡ t) ⊎ (b ≢ t) → (marked ms b ≡ true) ⊎ Contains (t ∷ []) b
    at (inl e) = inr (subst (λ (x : ℕ). Contains (t ∷ []) x) (sym e) (Contains-push [] t))
    at (inr n) = inl (sym (get_or-set_other ms t b true false n) ∙ m)

-- one that wasn't
pub marks_new : (t : ℕ) (ms : List Bool) (os : List ℕ) → t < length ms → Marks (t ∷ []) ms (set ms t true) os (os ++ t ∷ [])
marks_new t ms os w = record {
  size = length-set ms t true;
  kept = λ b h. set_old ms t b w h;
  all = λ b c. subst (λ (x : ℕ). marked (set ms t true) x ≡ true) (only_element t b c) (get_or-set_same ms t true false w);
  more = t ∷ [];
  longer = refl;
  from = λ b h. set_from ms t b h;
  among = λ b c. c;
  are = λ b c. subst (λ (x : ℕ). marked (set ms t true) x ≡ true) (only_element t b c) (get_or-set_same ms t true false w);
}

-- some numbers, and then others
pub marks_both : (ts us : List ℕ) (a b c : List Bool) (o p q : List ℕ) → Marks ts a b o p → Marks us b c p q → Marks (ts ++ us) a c o q
marks_both ts us a b c o p q m n = record {
  size = n.size ∙ m.size;
  kept = λ x h. n.kept x (m.kept x h);
  all = λ x h. either x (Contains-append_cases ts us x h);
  more = m.more ++ n.more;
  longer = n.longer ∙ ap (λ (is : List ℕ). is ++ n.more) m.longer ∙ append_assoc o m.more n.more;
  from = λ x h. origin x (n.from x h);
  among = λ x h. among x (Contains-append_cases m.more n.more x h);
  are = λ x h. are x (Contains-append_cases m.more n.more x h);
}
  where
    either : (x : ℕ) → Contains ts x ⊎ Contains us x → marked c x ≡ true
    either x (inl h) = n.kept x (m.all x h)
    either x (inr h) = n.all x h

    origin : (x : ℕ) → (marked b x ≡ true) ⊎ Contains n.more x → (marked a x ≡ true) ⊎ Contains (m.more ++ n.more) x
    origin x (inr h) = inr (Contains-append_right m.more n.more x h)
    origin x (inl h) = first x (m.from x h)
      where
        first : (y : ℕ) → (marked a y ≡ true) ⊎ Contains m.more y → (marked a y ≡ true) ⊎ Contains (m.more ++ n.more) y
        first y (inl k) = inl k
        first y (inr k) = inr (Contains-append_left m.more n.more y k)

    among : (x : ℕ) → Contains m.more x ⊎ Contains n.more x → Contains (ts ++ us) x
    among x (inl h) = Contains-append_left ts us x (m.among x h)
    among x (inr h) = Contains-append_right ts us x (n.among x h)

    are : (x : ℕ) → Contains m.more x ⊎ Contains n.more x → marked c x ≡ true
    are x (inl h) = n.kept x (m.are x h)
    are x (inr h) = n.are x h

-- ---- following what is marked

-- All that is marked beyond what was is reached, and what follows it is marked too unless it is still to be followed.
pub record Following (g : Graph) (from : ℕ) (old now : List Bool) (open_now : List ℕ) : Type 0 where
  pub size : length now ≡ length old
  pub kept : (b : ℕ) → marked old b ≡ true → marked now b ≡ true
  pub reached : marked now from ≡ true
  pub sound : (b : ℕ) → marked now b ≡ true → (marked old b ≡ true) ⊎ Path g from b
  pub opened : (b : ℕ) → Contains open_now b → Path g from b
  pub are : (b : ℕ) → Contains open_now b → marked now b ≡ true
  pub closed : (a b : ℕ) → marked now a ≡ true → Edge g a b → (marked now b ≡ true) ⊎ Contains open_now a

path_push : (g : Graph) (a b c : ℕ) → Path g a b → Edge g b c → Path g a c
path_push g _ _ c (here a) e = step a c c e (here c)
path_push g _ _ c (step a x b d p) e = step a x c d (path_push g x b c p e)

-- at the beginning
pub following_first : (g : Graph) (from : ℕ) (old now : List Bool) (os : List ℕ) → IsClosed g old → Marks (from ∷ []) old now [] os → Following g from old now os
following_first g from old now os closed m = record {
  size = m.size;
  kept = m.kept;
  reached = m.all from (Contains-push [] from);
  sound = λ b h. sound b (m.from b h);
  opened = λ b h. path b (m.among b (opened b h));
  are = λ b h. m.are b (opened b h);
  closed = λ a b h e. after a b e (m.from a h);
}
  where
    opened : (b : ℕ) → Contains os b → Contains m.more b
    opened b h = subst (λ (is : List ℕ). Contains is b) m.longer h

    path : (b : ℕ) → Contains (from ∷ []) b → Path g from b
    path b c = subst (λ (x : ℕ). Path g from x) (only_element from b c) (here from)

    sound : (b : ℕ) → (marked old b ≡ true) ⊎ Contains m.more b → (marked old b ≡ true) ⊎ Path g from b
    sound b (inl h) = inl h
    sound b (inr h) = inr (path b (m.among b h))

    after : (a b : ℕ) → Edge g a b → (marked old a ≡ true) ⊎ Contains m.more a → (marked now b ≡ true) ⊎ Contains os a
    after a b e (inl h) = inl (m.kept b (closed a b h e))
    after a b e (inr h) = inr (subst (λ (is : List ℕ). Contains is a) (sym m.longer) h)

-- one of those that are still to be followed is followed
pub following_step : (g : Graph) (from : ℕ) (old now new : List Bool) (os ps : List ℕ) (a : ℕ) (bs : List ℕ) →
    slice_get g a ≡ Some bs → Following g from old now (os ++ a ∷ []) → Marks bs now new os ps → Following g from old new ps
following_step g from old now new os ps a bs at f m = record {
  size = m.size ∙ f.size;
  kept = λ b h. m.kept b (f.kept b h);
  reached = m.kept from f.reached;
  sound = λ b h. sound b (m.from b h);
  opened = λ b h. opened b (split b h);
  are = λ b h. are b (split b h);
  closed = λ x y h e. after x y e (m.from x h);
}
  where
    edge : (b : ℕ) → Contains bs b → Edge g a b
    edge b c = record { all = bs; at = at; among = c }

    path : (b : ℕ) → Contains m.more b → Path g from b
    path b c = path_push g from a b (f.opened a (Contains-push os a)) (edge b (m.among b c))

    split : (b : ℕ) → Contains ps b → Contains os b ⊎ Contains m.more b
    split b h = Contains-append_cases os m.more b (subst (λ (is : List ℕ). Contains is b) m.longer h)

    sound : (b : ℕ) → (marked now b ≡ true) ⊎ Contains m.more b → (marked old b ≡ true) ⊎ Path g from b
    sound b (inl h) = f.sound b h
    sound b (inr h) = inr (path b h)

    opened : (b : ℕ) → Contains os b ⊎ Contains m.more b → Path g from b
    opened b (inl h) = f.opened b (Contains-append_left os (a ∷ []) b h)
    opened b (inr h) = path b h

    are : (b : ℕ) → Contains os b ⊎ Contains m.more b → marked new b ≡ true
    are b (inl h) = m.kept b (f.are b (Contains-append_left os (a ∷ []) b h))
    are b (inr h) = m.are b h

    behind : (x : ℕ) → Contains os x → Contains ps x
    behind x h = subst (λ (is : List ℕ). Contains is x) (sym m.longer) (Contains-append_left os m.more x h)

    same : (b : ℕ) (bs' : List ℕ) → slice_get g a ≡ Some bs' → Contains bs' b → Contains bs b
    same b bs' at' c = subst (λ (is : List ℕ). Contains is b) (some_same bs' bs (sym at' ∙ at)) c

    after : (x y : ℕ) → Edge g x y → (marked now x ≡ true) ⊎ Contains m.more x → (marked new y ≡ true) ⊎ Contains ps x
    after x y e (inr h) = inr (subst (λ (is : List ℕ). Contains is x) (sym m.longer) (Contains-append_right os m.more x h))
    after x y e (inl h) = was (f.closed x y h e)
      where
        is_own : Contains os x ⊎ (a ≡ x) → (marked new y ≡ true) ⊎ Contains ps x
        is_own (inl k) = inr (behind x k)
        is_own (inr s) = inl (m.all y (same y e.all (subst (λ (z : ℕ). slice_get g z ≡ Some e.all) (sym s) e.at) e.among))

        was : (marked now y ≡ true) ⊎ Contains (os ++ a ∷ []) x → (marked new y ≡ true) ⊎ Contains ps x
        was (inl k) = inl (m.kept y k)
        was (inr k) = is_own (Contains-push_cases os a x k)

-- nothing is still to be followed
pub following_last : (g : Graph) (from : ℕ) (old now : List Bool) → Following g from old now [] → IsMarkedFrom g from old now
following_last g from old now f = record {
  size = f.size;
  closed = λ a b h e. closed a b (f.closed a b h e);
  reached = f.reached;
  kept = f.kept;
  sound = f.sound;
}
  where
    closed : (a b : ℕ) → (marked now b ≡ true) ⊎ Contains [] a → marked now b ≡ true
    closed a b (inl h) = h
    closed a b (inr h) = absurd (no_element a h)
