-- What the parser's functions answer, beside the parser on lists.
use Rattle.std.specs.Prelude.{length, ◌+◌, ◌≡◌, ℕ, zero, suc, ◌≤◌, ◌<◌, List, [], ◌∷◌, Option, Some, None, Result, Ok, Err}
use Rattle.php_tree.specs.declared.token.Token.{Token}
use Rattle.php_tree.specs.declared.version.Version.{Version}
use Rattle.php_rows.specs.declared.row.Row.{Row}
use Rattle.php_grammar.specs.Tables.{php}
use Rattle.php_exprs.specs.declared.build.Closed.{Closed}
use Rattle.php_exprs.specs.Built.{Added, AddedNode, IsClosed, State, behind}
use Rattle.php_tree.specs.Tree.{Forest, Tree, ◌+++◌, depth}
use Rattle.php_forms.specs.declared.item.Sort.{Sort}
use Rattle.php_forms.specs.declared.item.Group.{Group}
use Rattle.php_forms.specs.declared.item.Item.{Item}
use Rattle.php_exprs.specs.declared.fault.ParseFault.{ParseFault}
use Rattle.php_exprs.specs.declared.fault.ParseFault.TheVariants.{NotInGrammar, Memory}
use Rattle.php_forms.specs.Grammar.{Tables}
use Rattle.php_exprs.specs.Parsing.{◌>>=◌, given, Read, Steps, items_at, run_at, repeats_at, walk, under, grow, parse}
use Rattle.php_tree.specs.Tree.{none, leaf, node}
use Rattle.php_terminals.specs.declared.terminal.Terminal.{Terminal}
use Rattle.php_forms.specs.declared.item.Item.TheVariants.{Word, Node, Part, Repeats, Span}

-- Parts were added by what was read.
abbrev pub Extends : Result (Unit {0}) ParseFault → Version → List Token → State → State → ℕ → Read Forest → Type 0
Extends (Ok x) v all old new d (Some y) = Added v all old new y.0 × (behind all new.0 ≡ y.1) × (depth y.0 ≤ d)
Extends (Ok x) v all old new d None = ⊥
Extends (Err NotInGrammar) v all old new d read = read ≡ None
Extends (Err Memory) v all old new d read = Unit {0}

-- A node was added by what was read.
abbrev pub GivesTree : Result Closed ParseFault → Version → List Token → Row → Row → ℕ → Read Tree → Type 0
GivesTree (Ok c) v all old new d (Some y) = AddedNode all old new y.0 × IsClosed v c y.0 × (behind all new ≡ y.1) × (depth y.0.1 < d)
GivesTree (Ok c) v all old new d None = ⊥
GivesTree (Err NotInGrammar) v all old new d read = read ≡ None
GivesTree (Err Memory) v all old new d read = Unit {0}

unfoldable pub node_at : Tables → ℕ → Sort → List Token → Read Tree
node_at T d = parse T 7 d

unfoldable pub inner_at : Tables → ℕ → ℕ → Steps
inner_at T d n = under T (node_at T d) n

unfoldable pub parts_at : Tables → ℕ → ℕ → Steps
parts_at T d n = items_at T (node_at T d) (inner_at T d n)

unfoldable pub repeated_at : Tables → ℕ → ℕ → ℕ → Group → List Token → Read Forest
repeated_at T d n = repeats_at T (inner_at T d n)

abbrev pub word_at : Tables → Terminal → List Token → Read Forest
word_at T c [] = None
word_at T c (t ∷ ts) = given (T.accepts c t) (Some (leaf t none, ts))

abbrev pub as_part : Tree × List Token → Forest × List Token
as_part x = (node x.0.0 x.0.1 none, x.1)

unfoldable pub item_at : Tables → ℕ → ℕ → Item → List Token → Read Forest
item_at T d n (Word c) ts = word_at T c ts
item_at T d n (Node s) ts = node_at T d s ts >>= λ x. Some (as_part x)
item_at T d n (Part g) ts = inner_at T d n (T.parts g ts) ts
item_at T d n (Repeats g) ts = repeated_at T d n (length ts) g ts
item_at T d n Span ts = run_at (T.span ts) ts

-- d is one less than the depth of the node
unfoldable pub grown_at : Tables → ℕ → ℕ → Sort → Tree → List Token → Read Tree
grown_at T d n = grow T (parts_at T d 7) (suc d) n

-- parts before what was read
abbrev pub with_front : Forest → Read Forest → Read Forest
with_front f read = read >>= λ y. Some (f +++ y.0, y.1)

-- the first items were read, and the others are still to come
pub record Walked (v : Version) (all : List Token) (d n : ℕ) (form items : List Item) (old new : State) : Type 0 where
  pub parts : Forest
  pub added : Added v all old new parts
  pub low : depth parts ≤ d
  pub same : parts_at (php v) d n form (behind all old.0) ≡ with_front parts (parts_at (php v) d n items (behind all new.0))

-- some repeats of a group were read, and the others are still to come
pub record Repeated (v : Version) (all : List Token) (d n : ℕ) (g : Group) (old new : State) : Type 0 where
  pub parts : Forest
  pub fuel : ℕ
  pub added : Added v all old new parts
  pub low : depth parts ≤ d
  pub enough : length (behind all new.0) ≤ fuel
  pub same : repeated_at (php v) d n (length (behind all old.0)) g (behind all old.0) ≡ with_front parts (repeated_at (php v) d n fuel g (behind all new.0))

-- so many tokens
unfoldable pub run_read : ℕ → List Token → Read Forest
run_read n ts = run_at n ts
