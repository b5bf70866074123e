-- Expressions that stand alone, and the longest one from a place on.
use Rattle.std.specs.Prelude.{◌≡◌, ℕ, ◌-◌, ◌<◌, ◌≤◌, List, [], length, take, drop}
use Rattle.php_tree.specs.declared.token.Token.{Token}
use Rattle.php_tree.specs.declared.version.Version.{Version}
use Rattle.php_tree.specs.Tree.{Tree}
use Rattle.php_forms.specs.declared.item.Sort.TheVariants.{Operand}
use Rattle.php_exprs.specs.Reading.{Reads}

-- the tokens from one place to another
abbrev pub between : ℕ → ℕ → List Token → List Token
between from to ts = take (to - from) (drop from ts)

-- All of the tokens are this expression, and it is at most so many nodes deep.
abbrev pub IsExpression : Version → ℕ → List Token → Tree → Type 0
IsExpression v d ts t = Reads v (Operand 24) d ts t []

-- The tokens are no expression within the depth.
abbrev pub IsNone : Version → ℕ → List Token → Type 0
IsNone v d ts = (t : Tree) → IsExpression v d ts t → ⊥

-- The expression starts at a place and ends before another one, and none that starts there ends behind it.
pub record IsLongest (v : Version) (d : ℕ) (ts : List Token) (from : ℕ) (t : Tree) (to : ℕ) : Type 0 where
  pub after : from ≤ to
  pub within : to ≤ length ts
  pub is : IsExpression v d (between from to ts) t
  pub longest : (n : ℕ) → to < n → n ≤ length ts → IsNone v d (between from n ts)

-- No expression within the depth starts at a place.
abbrev pub HasNoExpression : Version → ℕ → List Token → ℕ → Type 0
HasNoExpression v d ts from = (n : ℕ) → from ≤ n → n ≤ length ts → IsNone v d (between from n ts)
