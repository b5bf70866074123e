-- Connections that are answered in turn, over what a service and a keeper hold.
use Rattle.std.specs.Prelude.{◌≡◌, ◌≤◌, ◌+◌, ◌++◌, ℕ, Bool, true, false, List, [], ◌∷◌, length, Option, IfSome, Result, Ok, Err}
use Rattle.io_ports.specs.declared.fault.PortFault.{PortFault}
use Rattle.conn_ports.specs.Given.{Ended, Given}
use Rattle.conn_ports.specs.Link.{Link, IsFresh, Moves}

-- whether an answer failed
abbrev pub is_failed : {X F : Type 0} → Result X F → Bool
is_failed (Ok x) = false
is_failed (Err fault) = true

abbrev pub one_if : Bool → ℕ
one_if true = 1
one_if false = 0

-- What a turn does: to the service, to the keeper, to the connection that is given back, and whether it failed.
abbrev pub Turn : Type 0 → Type 0 → Type 1
Turn S K = S → S → K → K → Ended → Bool → Type 0

-- A connection of which no call was made was answered, and is given back as it stands then.
pub record IsAnswered
    {C S K F : Type 0} (link : C → Option Link) (faults : C → ℕ) (answers : S → S → K → K → C → C → Result ℕ F → Type 0)
    (s s' : S) (k k' : K) (ended : Ended) (failed : Bool) : Type 0 where
  pub before : C
  pub after : C
  pub came : Result ℕ F
  pub calm : faults before ≡ 0
  pub fresh : IfSome (link before) IsFresh
  pub answer : answers s s' k k' before after came
  pub is : failed ≡ is_failed came
  pub back : ended ≡ record { link = link after; faults = faults after }

-- Turns on these connections, in their order, of which so many failed.
abbrev pub InTurn : {S K : Type 0} → Turn S K → List Ended → S → S → K → K → ℕ → Type 0
InTurn turn [] s s' k k' n = (s' ≡ s) × (k' ≡ k) × (n ≡ 0)
InTurn {S} {K} turn (e ∷ es) s s' k k' n =
    (s1 : S) × (k1 : K) × (failed : Bool) × (m : ℕ)
    × turn s s1 k k1 e failed × InTurn turn es s1 s' k1 k' m × (n ≡ one_if failed + m)

-- exactly these were handed out, and all of them taken back, in order
abbrev pub TakesAllBack : List Ended → Given → Given → Type 0
TakesAllBack es before now = now ≡ record { out = before.out + length es; back = before.back ++ es }

-- So many connections were taken, answered in turn and given back, of which so many failed.
pub record HasServed
    {S K : Type 0} (turn : Turn S K) (count failed : ℕ) (given given' : Option Given) (s s' : S) (k k' : K) : Type 0 where
  pub ended : List Ended
  pub many : length ended ≡ count
  pub turns : InTurn turn ended s s' k k' failed
  pub told : Moves (TakesAllBack ended) given given'

-- Exactly as many as were asked for, or those before the listener refused.
abbrev pub AreTurns : {S K : Type 0} → Turn S K → ℕ → Result ℕ PortFault → Option Given → Option Given → S → S → K → K → Type 0
AreTurns turn asked (Ok failed) given given' s s' k k' = HasServed turn asked failed given given' s s' k k'
AreTurns turn asked (Err fault) given given' s s' k k' =
    (count : ℕ) × (failed : ℕ) × (count ≤ asked) × HasServed turn count failed given given' s s' k k'

-- one turn, unless the listener refuses
abbrev pub IsTurn : {S K : Type 0} → Turn S K → Result Bool PortFault → Option Given → Option Given → S → S → K → K → Type 0
IsTurn turn (Ok failed) given given' s s' k k' =
    (e : Ended) × turn s s' k k' e failed × Moves (TakesAllBack (e ∷ [])) given given'
IsTurn turn (Err fault) given given' s s' k k' = Moves (TakesAllBack []) given given' × (s' ≡ s) × (k' ≡ k)
