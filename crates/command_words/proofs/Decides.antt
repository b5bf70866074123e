-- What a parse that succeeds or fails says of the words.
use Rattle.std.proofs.Common.{◌≡◌, true, List, [], ◌∷◌, refl, ap, sym, ◌∙◌, subst, codes, inl, inr}
use Rattle.std.specs.Prelude.{◌⊎◌, Option, None}
use Rattle.clap.specs.Faults.{fault_of, is_simple_and_free}
use Rattle.clap.specs.Kinds.{Kinds, IsAmong, HasKind}
use Rattle.clap.specs.Matches.{first_value, found_of}
use Rattle.clap.specs.Values.{kind_of}
use Rattle.clap.specs.Walk.{Row, Text, first_of}
use Rattle.clap.specs.Simple.{App, HasMatchesOf, matches_of, is_simple}
use Rattle.clap.proofs.OnLiterals.{clap_on_literals}
use Rattle.clap.proofs.WalkLemmas.{first_value-rows}
use Rattle.clap.specs.declared.error.Error.{Error}
use Rattle.clap.specs.declared.error.ErrorKind.{ErrorKind}
use Rattle.clap.specs.declared.error.ErrorKind.TheVariants as kind
use Rattle.clap.specs.declared.parser.matches.ArgMatches.{ArgMatches}
use Rattle.command_words.specs.Words.{unless_faulty, settings_in, with_settings}

-- the command is one of which `clap` says exactly what it takes
is_exact : (name : Text) → is_simple_and_free (with_settings name) ≡ true
unfolding clap_on_literals
is_exact name = refl

is_plain : (name : Text) → is_simple (with_settings name) ≡ true
unfolding clap_on_literals
is_plain name = refl

-- words that are taken
pub taken : (app : App) (name : Text) (words : List Text) (m : ArgMatches) (t : Option Text) → app ≡ with_settings name
    → (is_simple_and_free app ≡ true → fault_of app words ≡ []) → HasMatchesOf app words m
    → t ≡ first_value (found_of m) (codes "settings") → t ≡ settings_in (with_settings name) words
taken app name words m t e faults has is =
    let none : fault_of (with_settings name) words ≡ [] =
    subst (λ (a : App). is_simple_and_free a ≡ true → fault_of a words ≡ []) e faults (is_exact name) in
    let rows = (subst (λ (a : App). HasMatchesOf a words m) e has (is_plain name)).0 in
    is ∙ first_value-rows (found_of m) (codes "settings") ∙ ap (λ (rs : List Row). first_of (codes "settings") rs) rows
    ∙ ap (λ (ks : Kinds). unless_faulty ks (first_of (codes "settings") (matches_of (with_settings name) words))) (sym none)

-- a fault leaves nothing
pub some_fault : {X : Type 0} (k : ErrorKind) (ks : Kinds) (t : Option X) → IsAmong k ks → None ≡ unless_faulty ks t
some_fault k [] t h = absurd h
some_fault k (x ∷ ks) t h = refl

-- words that are refused
pub refused : (app : App) (name : Text) (words : List Text) (x : Error) → app ≡ with_settings name
    → (is_simple_and_free app ≡ true → HasKind (fault_of app words) x) → (kind_of x ≡ kind.OutOfMemory → ⊥)
    → None ≡ settings_in (with_settings name) words
refused app name words x e faults other =
    by (subst (λ (a : App). is_simple_and_free a ≡ true → HasKind (fault_of a words) x) e faults (is_exact name))
  where
    by : (kind_of x ≡ kind.OutOfMemory) ⊎ IsAmong (kind_of x) (fault_of (with_settings name) words)
        → None ≡ settings_in (with_settings name) words
    by (inl h) = absurd (other h)
    by (inr h) = some_fault (kind_of x) (fault_of (with_settings name) words)
        (first_of (codes "settings") (matches_of (with_settings name) words)) h
