-- Which nodes ask for the version, by their kinds and operators.
use Rattle.std.specs.Prelude.{◌≡◌, ℕ, is_some, Bool, true, false, not, ◌&&◌, IsTrue, codes, List, [], All}
use Rattle.std.specs.Str.{bytes_eq}
use Rattle.php_tree.specs.declared.version.Version.{Version}
use Rattle.php_tree.specs.declared.kind.NodeKind.{NodeKind}
use Rattle.php_tree.specs.declared.kind.NodeKind.TheVariants as kind
use Rattle.php_tree.specs.Tree.{Forest, none, leaf, node}
use Rattle.php_meaning.specs.runs.World.{Bytes}
use Rattle.php_meaning.specs.runs.Input.{Input}
use Rattle.php_meaning.specs.literals.Literals.{constant_named}
use Rattle.php_meaning.specs.Rules.{first_text}
use Rattle.scope_names.specs.Form.{form, texts}
use Rattle.php_meaning.specs.runs.Run.{Program, Mark, run}
use Rattle.php_meaning.specs.laws.Laws.{KeepsMeaning, KeepsRuns}

-- Whether a node may ask, by its kind and its own tokens. The operator `.` never asks, nor does a constant that is there
-- from the start.
abbrev pub may_ask : NodeKind → List Bytes → Bool
may_ask kind.Binary own = not (bytes_eq (codes ".") (first_text own))
may_ask kind.Constant own = not (is_some (constant_named own))
may_ask kind.Block own = false
may_ask kind.Empty own = false
may_ask kind.Html own = false
may_ask kind.ExprStmt own = false
may_ask kind.Echo own = false
may_ask kind.If own = false
may_ask kind.Number own = false
may_ask kind.Text own = false
may_ask kind.Paren own = false
may_ask kind.Ternary own = false
may_ask kind.ShortTernary own = false
may_ask k own = true

-- whether no node may ask
abbrev pub asks_nothing : Forest → Bool
asks_nothing none = true
asks_nothing (leaf t f) = asks_nothing f
asks_nothing (node k c f) = not (may_ask k (texts (form c))) && (asks_nothing c && asks_nothing f)

-- A program without such nodes asks nowhere, in either version.
abbrev pub AsksNowhere : Type 0
AsksNowhere =
    (v : Version) (p : Program) (marks : List Mark) (entry : Bytes) (input : Input) (n : ℕ)
    → All (λ f. IsTrue (asks_nothing f.1)) p.files → (run v p marks entry input n).asked ≡ []

-- What keeps the meaning of such a program keeps each of its runs that stays inside.
abbrev pub InsideIsCovered : Type 0
InsideIsCovered =
    (source written : Program) (marks : List Mark)
    → All (λ f. IsTrue (asks_nothing f.1)) source.files → KeepsMeaning source marks written → KeepsRuns source marks written
