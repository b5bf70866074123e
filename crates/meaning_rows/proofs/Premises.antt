-- Rows that show that the premises of the claims on runs can be met, and that marks stop a run.
use Rattle.std.proofs.Common.{◌≡◌, ℕ, List, [], ◌∷◌, refl, true, false, codes, None}
use Rattle.php_tree.specs.declared.token.TokenKind.TheVariants as token
use Rattle.php_tree.specs.declared.kind.NodeKind.TheVariants as kind
use Rattle.php_tree.specs.declared.version.Version.TheVariants.{V74}
use Rattle.php_tree.specs.Tree.{Forest, none, node}
use Rattle.builtin_tables.specs.Beyond.{beyond_functions, beyond_classes, beyond_constants}
use Rattle.builtin_tables.specs.Builtins.{builtin_rows}
use Rattle.builtin_tables.specs.Constants.{named_constants, word_constants}
use Rattle.builtin_tables.specs.Named.{is_same_name}
use Rattle.builtin_tables.specs.Newer.{newer_functions, newer_classes, newer_constants}
use Rattle.php_meaning.specs.Cause.{CompileMark, StopMark}
use Rattle.php_meaning.specs.runs.World.{Bytes, End, Going}
use Rattle.php_meaning.specs.runs.Run.{Answer, Mark, StopAt, CompileOf, run}
use Rattle.php_meaning.specs.laws.Asking.{asks_nothing}
use Rattle.php_meaning.specs.laws.Laws.{IsCovered}
use Rattle.meaning_rows.specs.Words.{t, file, ended, outside, input, without_place}

-- <?php echo 'a' . 1;
abbrev joined_tree : Forest
joined_tree =
    node kind.Echo (t token.Keyword "echo"
    (node kind.Binary (node kind.Text (t token.Text "'a'" none)
    (t token.Op "." (node kind.Number (t token.Int "1" none) none)))
    (t token.Semi ";" none))) none

-- <?php echo 0 == 'a';
abbrev compared_tree : Forest
compared_tree =
    node kind.Echo (t token.Keyword "echo"
    (node kind.Binary (node kind.Number (t token.Int "0" none)
    (t token.Op "==" (node kind.Text (t token.Text "'a'" none) none)))
    (t token.Semi ";" none))) none

-- its 7.4 run with marks and so many turns
abbrev marked : List Mark → ℕ → Forest → Answer
marked marks n f = run V74 (record { files = file f; prepend = None }) marks (codes "a.php") input n

-- one file has no node that may ask, the other has one
joining_asks_nothing : asks_nothing joined_tree ≡ true
joining_asks_nothing = refl

comparing_may_ask : asks_nothing compared_tree ≡ false
comparing_may_ask = refl

-- a run that ends is covered, and so is one that goes on
ended_is_covered : IsCovered (marked [] 10 joined_tree)
unfolding builtin_rows named_constants word_constants is_same_name newer_functions newer_classes newer_constants beyond_functions beyond_classes beyond_constants
ended_is_covered = record { inside = tt; unasked = refl }

has_ended : (marked [] 10 joined_tree).end ≡ ended
unfolding builtin_rows named_constants word_constants is_same_name newer_functions newer_classes newer_constants beyond_functions beyond_classes beyond_constants
has_ended = refl

going_is_covered : IsCovered (marked [] 0 joined_tree)
unfolding builtin_rows named_constants word_constants is_same_name newer_functions newer_classes newer_constants beyond_functions beyond_classes beyond_constants
going_is_covered = record { inside = tt; unasked = refl }

goes_on : (marked [] 0 joined_tree).end ≡ Going
unfolding builtin_rows named_constants word_constants is_same_name newer_functions newer_classes newer_constants beyond_functions beyond_classes beyond_constants
goes_on = refl

-- a file with a mark isn't started, and a node with one isn't left
file_is_marked : without_place (marked (CompileOf (codes "a.php") ∷ []) 10 joined_tree).end ≡ outside CompileMark
unfolding builtin_rows named_constants word_constants is_same_name newer_functions newer_classes newer_constants beyond_functions beyond_classes beyond_constants
file_is_marked = refl

node_is_marked : without_place (marked (StopAt (codes "a.php") 1 ∷ []) 10 joined_tree).end ≡ outside StopMark
unfolding builtin_rows named_constants word_constants is_same_name newer_functions newer_classes newer_constants beyond_functions beyond_classes beyond_constants
node_is_marked = refl

-- a mark of another file stops nothing
other_is_marked : (marked (CompileOf (codes "b.php") ∷ []) 10 joined_tree).end ≡ ended
unfolding builtin_rows named_constants word_constants is_same_name newer_functions newer_classes newer_constants beyond_functions beyond_classes beyond_constants
other_is_marked = refl
