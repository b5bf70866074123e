-- What may stand before tokens, several states together.
use Rattle.std.proofs.Common.{◌≡◌, Bool, true, false, not, ◌&&◌, ◌||◌, if◌then◌else◌, refl}
use Rattle.rewritten_shapes.specs.paired.Names.{State, calm, edged, failed, keyed, rooted, rooted_key, worded}
use Rattle.rewritten_shapes.proofs.paired.Asked.{both_left, both_right}

-- Some states that may come, or any.
pub data States : Type 0 where
  wrong : States
  at_calm : States
  at_key : States
  at_edge : States
  at_any : States
  at_word : States
  at_root : States
  at_lead : States

abbrev pub holds : States → State → Bool
holds wrong s = true
holds at_calm calm = true
holds at_key calm = true
holds at_key keyed = true
holds at_edge calm = true
holds at_edge keyed = true
holds at_edge edged = true
holds at_any calm = true
holds at_any keyed = true
holds at_any worded = true
holds at_any edged = true
holds at_word worded = true
holds at_root rooted = true
holds at_lead calm = true
holds at_lead keyed = true
holds at_lead rooted = true
holds at_lead rooted_key = true
holds _ _ = false

-- ---- tests of all states

abbrev pub all_states : (State → Bool) → Bool
all_states p =
    p failed && (p calm && (p keyed && (p rooted && (p rooted_key && (p worded && p edged)))))

pub all_are : (p : State → Bool) → all_states p ≡ true → (s : State) → p s ≡ true
all_are p e failed = both_left (p failed) _ e
all_are p e calm = both_left (p calm) _ (both_right (p failed) _ e)
all_are p e keyed = both_left (p keyed) _ (both_right (p calm) _ (both_right (p failed) _ e))
all_are p e rooted = both_left (p rooted) _ (both_right (p keyed) _ (both_right (p calm) _ (both_right (p failed) _ e)))
all_are p e rooted_key = both_left (p rooted_key) _ (both_right (p rooted) _ (both_right (p keyed) _ (both_right (p calm) _ (both_right (p failed) _ e))))
all_are p e worded = both_left (p worded) _ (both_right (p rooted_key) _ (both_right (p rooted) _ (both_right (p keyed) _ (both_right (p calm) _ (both_right (p failed) _ e)))))
all_are p e edged = both_right (p worded) _ (both_right (p rooted_key) _ (both_right (p rooted) _ (both_right (p keyed) _ (both_right (p calm) _ (both_right (p failed) _ e)))))

pub implied : (a b : Bool) → (not a || b) ≡ true → a ≡ true → b ≡ true
implied true b e h = e
implied false b e h = absurd cc

-- whether the others hold of what becomes of each state
abbrev pub covers : (State → State) → States → States → Bool
covers g a b = all_states (λ s. not (holds a s) || holds b (g s))

pub covered : (g : State → State) (a b : States) (s : State) → covers g a b ≡ true → holds a s ≡ true → holds b (g s) ≡ true
covered g a b s e h = implied (holds a s) (holds b (g s)) (all_are (λ u. not (holds a u) || holds b (g u)) e s) h

abbrev pub is_within : States → States → Bool
is_within a b = covers (λ s. s) a b

pub wider_holds : (a b : States) (s : State) → is_within a b ≡ true → holds a s ≡ true → holds b s ≡ true
wider_holds a b s e h = covered (λ u. u) a b s e h

-- ---- the fewest

-- the fewest states that pass
abbrev pub fewest : (States → Bool) → States
fewest p =
    if p at_calm then at_calm
    else (if p at_word then at_word
    else (if p at_root then at_root
    else (if p at_key then at_key
    else (if p at_edge then at_edge
    else (if p at_any then at_any
    else (if p at_lead then at_lead else wrong))))))

if_pass : (p : States → Bool) (b : Bool) (x y : States) → p x ≡ b → p y ≡ true → p (if b then x else y) ≡ true
if_pass p true x y e h = e
if_pass p false x y e h = h

fewest_pass : (p : States → Bool) → p wrong ≡ true → p (fewest p) ≡ true
fewest_pass p h =
    if_pass p (p at_calm) at_calm _ refl
    (if_pass p (p at_word) at_word _ refl
    (if_pass p (p at_root) at_root _ refl
    (if_pass p (p at_key) at_key _ refl
    (if_pass p (p at_edge) at_edge _ refl
    (if_pass p (p at_any) at_any _ refl
    (if_pass p (p at_lead) at_lead wrong refl h))))))

or_true : (b : Bool) → (b || true) ≡ true
or_true true = refl
or_true false = refl

wrong_covers : (g : State → State) (a : States) → covers g a wrong ≡ true
wrong_covers g a =
    all_true (not (holds a failed)) (not (holds a calm)) (not (holds a keyed)) (not (holds a rooted)) (not (holds a rooted_key)) (not (holds a worded)) (not (holds a edged))
  where
    all_true : (a b c d e f g : Bool) → ((a || true) && ((b || true) && ((c || true) && ((d || true) && ((e || true) && ((f || true) && (g || true))))))) ≡ true
    all_true a b c d e f g = rw (or_true a, or_true b, or_true c, or_true d, or_true e, or_true f, or_true g) refl

-- what becomes of states
abbrev pub image : (State → State) → States → States
image g a = fewest (λ b. covers g a b)

pub image_holds : (g : State → State) (a : States) (s : State) → holds a s ≡ true → holds (image g a) (g s) ≡ true
image_holds g a s h = covered g a (image g a) s (fewest_pass (λ b. covers g a b) (wrong_covers g a)) h

-- those of both
abbrev pub join : States → States → States
join a b = fewest (λ c. is_within a c && is_within b c)

join_within : (a b : States) → (is_within a (join a b) && is_within b (join a b)) ≡ true
join_within a b = fewest_pass (λ c. is_within a c && is_within b c) (rw (wrong_covers (λ s. s) a, wrong_covers (λ s. s) b) refl)

pub first_holds : (a b : States) (s : State) → holds a s ≡ true → holds (join a b) s ≡ true
first_holds a b s h = wider_holds a (join a b) s (both_left (is_within a (join a b)) (is_within b (join a b)) (join_within a b)) h

pub second_holds : (a b : States) (s : State) → holds b s ≡ true → holds (join a b) s ≡ true
second_holds a b s h = wider_holds b (join a b) s (both_right (is_within a (join a b)) (is_within b (join a b)) (join_within a b)) h

-- a function of states that are told first
abbrev pub at : (States → States) → States → States
at f wrong = f wrong
at f at_calm = f at_calm
at f at_key = f at_key
at f at_edge = f at_edge
at f at_any = f at_any
at f at_word = f at_word
at f at_root = f at_root
at f at_lead = f at_lead

pub at_is : (f : States → States) (a : States) → at f a ≡ f a
at_is f wrong = refl
at_is f at_calm = refl
at_is f at_key = refl
at_is f at_edge = refl
at_is f at_any = refl
at_is f at_word = refl
at_is f at_root = refl
at_is f at_lead = refl
