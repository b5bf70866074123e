-- What stands before and behind the first byte that passes a test.
use Rattle.std.proofs.Common.{◌≡◌, ℕ, ◌+◌, ◌-◌, ◌<◌, ◌≤◌, Bool, true, false, cond, List, [], length, take, drop, Option, None, Some, ap, sym, ◌∙◌, refl, arith}
use Rattle.std.specs.Prelude.{nat_lt}
use Rattle.std.specs.List.{after_first, before_first, position, position_or_len}
use Rattle.std.proofs.lemmas.List.{take_all, drop_all}
use Rattle.std.proofs.lemmas.Option.{cond_some}

module _ (p : ℕ → Bool) (path : List ℕ) where
  at : (i : ℕ) → Some i ≡ position p path → position_or_len p path ≡ i
  at i e = (cond_some (nat_lt (position_or_len p path) (length path)) (position_or_len p path) i (sym e)).1

  nowhere : (t : Bool) → nat_lt (position_or_len p path) (length path) ≡ t
      → None ≡ cond t (Some (position_or_len p path)) None → length path ≤ position_or_len p path
  nowhere true t e = cc
  nowhere false t e = grind (arith, t)

  past : None ≡ position p path → length path ≤ position_or_len p path
  past e = nowhere (nat_lt (position_or_len p path) (length path)) refl e

  pub before_some : (i : ℕ) → Some i ≡ position p path → take i path ≡ before_first p path
  before_some i e = ap (λ n. take n path) (sym (at i e))

  pub before_none : None ≡ position p path → path ≡ before_first p path
  before_none e = sym (take_all (position_or_len p path) path (past e))

  pub after_some : (i : ℕ) → Some i ≡ position p path → drop (i + 1) path ≡ after_first p path
  after_some i e = ap (λ n. drop (n + 1) path) (sym (at i e))

  pub after_none : None ≡ position p path → [] ≡ after_first p path
  after_none e = sym (drop_all (position_or_len p path + 1) path (omega (arith, past e)))
