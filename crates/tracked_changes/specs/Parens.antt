-- Parentheses round nodes: two insertions each.
use Rattle.std.specs.Prelude.{◌≡◌, codes, List, [], ◌∷◌}
use Rattle.php_tree.specs.declared.kind.NodeKind.TheVariants.{Paren}
use Rattle.php_tree.specs.Tree.{alone, File, file_leaves, file_printed}
use Rattle.php_tree.specs.Places.{ArePlaced}
use Rattle.tracked_changes.specs.patches.Patches.{Patches, Wrapping, InParens}
use Rattle.tracked_changes.specs.patches.Rewritten as patched
use Rattle.tracked_changes.specs.patches.Changes as table
use Rattle.tracked_changes.specs.patches.Laws.{HaveTokens}
use Rattle.tracked_changes.specs.Draft.{no_more, new_leaf, new_node, source, rewritten, rewritten_file, unchanged_token}
use Rattle.tracked_changes.specs.Edits.{edits}
use Rattle.tracked_changes.specs.Tokens.{put_in}
use Rattle.tracked_changes.specs.Leads.{first_lead, without_lead}
use Rattle.tracked_changes.specs.Walk.{NewTree, new_alone, NodesKeepBytes, Rewriting, drafted_file}

-- A node in parentheses: the opening one is put in behind the trivia before the node, the closing one behind its last text.
abbrev pub in_parens : NewTree → NewTree
in_parens t = (
  Paren,
  new_leaf (put_in (first_lead t.1) (codes "("))
      (new_node t.0 (without_lead t.1) (new_leaf (put_in [] (codes ")")) no_more)),
)

-- a node in its wrappings, the outermost first
abbrev pub in_wrappings : List Wrapping → NewTree → NewTree
in_wrappings [] t = t
in_wrappings (InParens ∷ ws) t = in_parens (in_wrappings ws t)

-- the rewriting that puts each node of a table in its wrappings
abbrev pub wrapping : Patches → Rewriting
wrapping p = record { of_token = unchanged_token; of_node = λ id source t. in_wrappings (p id) t }

-- Parentheses keep the source's bytes, and once the changes are made a Paren node stands round the node.
abbrev pub ParensStandRound : Type 0
ParensStandRound = NodesKeepBytes in_parens
    × ((t : NewTree) → rewritten (new_alone (in_parens t)) ≡ alone (patched.in_parens (t.0, rewritten t.1)))

-- For a whole file and any table of wrappings: the source is the file, printed, and the rewritten file is the one that the
-- table says.
pub record IsWrapped (p : Patches) (f : File) : Type 0 where
  pub bytes : source (drafted_file (wrapping p) f) ≡ file_printed f
  pub tree : rewritten_file (drafted_file (wrapping p) f) ≡ patched.rewritten_file p f

abbrev pub WrappingIsRewritten : Type 0
WrappingIsRewritten = (p : Patches) (f : File) → IsWrapped p f

-- Its edits are those of the table, where tokens stand in their places and each node that is changed has a token.
abbrev pub WrappingHasEdits : Type 0
WrappingHasEdits = (p : Patches) (f : File) → ArePlaced 0 (file_leaves f) → HaveTokens p 0 f.statements
    → edits (drafted_file (wrapping p) f) ≡ table.edits p f
