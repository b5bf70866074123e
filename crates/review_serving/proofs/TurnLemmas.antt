-- Turns, one more.
use Rattle.std.proofs.Common.{◌≡◌, ◌≤◌, ◌+◌, ◌++◌, ℕ, Bool, true, false, List, [], ◌∷◌, refl, sym, ap, subst, ◌∙◌, arith}
use Rattle.std.specs.Prelude.{Option, None, Some, Result, Ok, Err}
use Rattle.std.proofs.lemmas.List.{append-nil, append_assoc, length-append}
use mir.Val.{bool_byte}
use Rattle.io_ports.specs.Causes.{HasCause}
use Rattle.io_ports.specs.declared.fault.PortFault.{PortFault}
use Rattle.conn_ports.specs.Given.{Ended, Given, HandsOut, TakesBack}
use Rattle.conn_ports.specs.Link.{Moves}
use Rattle.review_serving.specs.Turns.{Turn, InTurn, HasServed, TakesAllBack, IsTurn, AreTurns, one_if}

-- a turn behind others
in_turn_more : {S K : Type 0} (turn : Turn S K) (es : List Ended) (e : Ended) (s s1 s2 : S) (k k1 k2 : K) (n : ℕ) (failed : Bool)
    → InTurn turn es s s1 k k1 n → turn s1 s2 k1 k2 e failed → InTurn turn (es ++ e ∷ []) s s2 k k2 (n + one_if failed)
in_turn_more turn [] e s s1 s2 k k1 k2 n failed h t = (
  s2,
  k2,
  failed,
  0,
  subst (λ x. turn x s2 k k2 e failed) h.0 (subst (λ x. turn s1 s2 x k2 e failed) h.1 t),
  (refl, refl, refl),
  rw h.2 (omega arith),
)
in_turn_more turn (x ∷ es) e s s1 s2 k k1 k2 n failed h t = (
  h.0,
  h.1,
  h.2,
  h.3 + one_if failed,
  h.4,
  in_turn_more turn es e h.0 s1 s2 h.1 k1 k2 h.3 failed h.5 t,
  rw h.6 (omega arith),
)

-- what was told goes on being told
moves_more : (es : List Ended) (e : Ended) (a b c : Option Given) → Moves (TakesAllBack es) a b
    → Moves (TakesAllBack (e ∷ [])) b c → Moves (TakesAllBack (es ++ e ∷ [])) a c
moves_more es e None b c h t = tt
moves_more es e (Some g) None c h t = absurd h
moves_more es e (Some g) (Some g1) None h t = absurd t
moves_more es e (Some g) (Some g1) (Some g2) h t =
    t ∙ rw (h, length-append es (e ∷ []), append_assoc g.back es (e ∷ []))
    (ap (λ n. record { out = n; back = g.back ++ (es ++ e ∷ []) }) (omega arith))

-- none is told of what stays
moves_none : (a b : Option Given) → b ≡ a → Moves (TakesAllBack []) a b
moves_none None b e = tt
moves_none (Some g) b e =
    subst (λ o. Moves (TakesAllBack []) (Some g) o) (sym e)
    (rw (append-nil g.back) (ap (λ n. record { out = n; back = g.back }) (omega arith)))

-- nothing was handed out
pub refused_told : (a b : Option Given) → Moves (λ (x y : Given). y ≡ x) a b → Moves (TakesAllBack []) a b
refused_told None b h = tt
refused_told (Some g) None h = absurd h
refused_told (Some g) (Some g1) h = moves_none (Some g) (Some g1) (ap (λ x. Some x) h)

-- one was handed out and taken back
pub turn_told : {L : Type 0} (link : L) (e : Ended) (a b c : Option Given) → Moves (HandsOut (Ok link)) a b
    → Moves (TakesBack e) b c → Moves (TakesAllBack (e ∷ [])) a c
turn_told link e None b c h t = tt
turn_told link e (Some g) None c h t = absurd h
turn_told link e (Some g) (Some g1) None h t = absurd t
turn_told link e (Some g) (Some g1) (Some g2) h t = t ∙ rw h refl

moves_still : (es : List Ended) (a b c : Option Given) → Moves (TakesAllBack es) a b → Moves (TakesAllBack []) b c
    → Moves (TakesAllBack es) a c
moves_still es None b c h t = tt
moves_still es (Some g) None c h t = absurd h
moves_still es (Some g) (Some g1) None h t = absurd t
moves_still es (Some g) (Some g1) (Some g2) h t =
    t ∙ rw (h, append-nil (g.back ++ es)) (ap (λ n. record { out = n; back = g.back ++ es }) (omega arith))

-- none yet
pub served_none : {S K : Type 0} (turn : Turn S K) (a b : Option Given) (s : S) (k : K) → b ≡ a → HasServed turn 0 0 a b s s k k
served_none turn a b s k e = record { ended = []; many = refl; turns = (refl, refl, refl); told = moves_none a b e }

-- one more
pub served_more : {S K : Type 0} (turn : Turn S K) (count n : ℕ) (failed : Bool) (a b c : Option Given) (s s1 s2 : S) (k k1 k2 : K)
    → HasServed turn count n a b s s1 k k1 → IsTurn turn (Ok failed) b c s1 s2 k1 k2
    → HasServed turn (count + 1) (n + one_if failed) a c s s2 k k2
served_more turn count n failed a b c s s1 s2 k k1 k2 h t = record {
  ended = h.ended ++ t.0 ∷ [];
  many = length-append h.ended (t.0 ∷ []) ∙ ap (λ m. m + 1) h.many;
  turns = in_turn_more turn h.ended t.0 s s1 s2 k k1 k2 n failed h.turns t.1;
  told = moves_more h.ended t.0 a b c h.told t.2;
}

-- where the listener refuses, those before are served
pub served_so_far : {S K : Type 0} (turn : Turn S K) (asked count n : ℕ) (fault : PortFault) (a b c : Option Given) (s s1 s2 : S) (k k1 k2 : K)
    → HasServed turn count n a b s s1 k k1 → IsTurn turn (Err fault) b c s1 s2 k1 k2 → count ≤ asked
    → AreTurns turn asked (Err fault) a c s s2 k k2
served_so_far turn asked count n fault a b c s s1 s2 k k1 k2 h t few =
    let still : HasServed turn count n a c s s1 k k1 = record {
      ended = h.ended;
      many = h.many;
      turns = h.turns;
      told = moves_still h.ended a b c h.told t.0;
    } in
    (count, n, few, subst (λ x. HasServed turn count n a c s x k k2) (sym t.1) (subst (λ x. HasServed turn count n a c s s1 k x) (sym t.2) still))

-- so from before, where the same was told
pub served_since : {S K : Type 0} (turn : Turn S K) (count n : ℕ) (a b c : Option Given) (s s1 : S) (k k1 : K) → b ≡ a
    → HasServed turn count n b c s s1 k k1 → HasServed turn count n a c s s1 k k1
served_since turn count n a b c s s1 k k1 e h = subst (λ x. HasServed turn count n x c s s1 k k1) e h

-- ---- counts

pub byte_is : (b : Bool) → bool_byte b ≡ one_if b
byte_is true = refl
byte_is false = refl

pub byte_small : (b : Bool) → bool_byte b ≤ 1
byte_small true = omega arith
byte_small false = omega arith

-- the fault of a refusal, and which of two answers it is
abbrev fault_of : {T : Type 0} → PortFault → Result T PortFault → PortFault
fault_of fault (Ok x) = fault
fault_of fault (Err other) = other

abbrev number_of : {T : Type 0} → Result T PortFault → ℕ
number_of (Ok x) = 0
number_of (Err fault) = 1

abbrev refusal : (T : Type 0) → PortFault → Result T PortFault
refusal T fault = Err fault

-- a refusal's cause, from a count that is the same
pub cause_from : {T U : Type 0} (before there now : ℕ) (fault : PortFault) → there ≡ before
    → HasCause {T = T} there now (Err fault) → HasCause {T = U} before now (Err fault)
cause_from {T} {U} before there now fault e h = subst (λ n. HasCause {T = U} n now (Err fault)) e (record {
  later = h.later;
  ok = h.ok;
  failed = λ is. h.failed (ap (refusal T) (ap (fault_of {T = U} fault) is));
  memory = λ is. h.memory (ap (refusal T) (ap (fault_of {T = U} fault) is));
})

pub cause_none : {T : Type 0} (before now : ℕ) (x : T) → now ≡ before → HasCause before now (Ok x)
cause_none {T} before now x e = record {
  later = rw e (omega arith);
  ok = e;
  failed = λ is. let bad : 0 ≡ 1 = ap (number_of {T = T}) is in absurd (omega arith);
  memory = λ is. e;
}
