-- Trees that have the shape of the grammar. No token that follows a node is looked at.
use Rattle.std.specs.Prelude.{◌≡◌, ℕ, ◌+◌, ◌-◌, Bool, true, false, not, cond, ◌&&◌, nat_eq}
use Rattle.php_tree.specs.declared.kind.NodeKind.{NodeKind}
use Rattle.php_tree.specs.declared.token.Token.{Token}
use Rattle.php_tree.specs.declared.version.Version.{Version}
use Rattle.php_tree.specs.Tree.{File, Forest, Tree, none, leaf, node, ◌+++◌}
use Rattle.php_terminals.specs.declared.terminal.Terminal.{Terminal}
use Rattle.php_grammar.specs.Accepts.{accepts}
use Rattle.php_terminals.specs.Classify.{terminal}
use Rattle.php_terminals.specs.Indents.{is_misindented}
use Rattle.php_terminals.specs.Marks.{closes, opens}
use Rattle.php_parser.specs.Ends.{is_end}
use Rattle.php_shapes.specs.Forms.{form}
use Rattle.php_shapes.specs.Nearest.{is_nearest}
use Rattle.php_shapes.specs.Notation.{Rule, nothing, word, kind, place, inside, ◌~◌, ◌|||◌, many, tokens}
use Rattle.php_shapes.specs.Places.{Place, Operand, may_stand}
use Rattle.php_shapes.specs.Statements.{statements}

-- Whether parts are tokens alone, each bracket with one that closes it, where so many brackets are open.
abbrev pub is_balanced : ℕ → Forest → Bool
is_balanced n none = nat_eq n 0
is_balanced n (leaf x f) =
    cond (opens (terminal x)) (is_balanced (n + 1) f)
    (cond (closes (terminal x)) (not (nat_eq n 0) && is_balanced (n - 1) f) (is_balanced n f))
is_balanced n (node j b f) = false

-- Fits v r f: the parts are what the rule says.
-- IsNode v k c: a node of the kind, with these parts, has the shape.
mutual
  pub data Fits (v : Version) : Rule → Forest → Type 0 where
    -- no part
    is_nothing : Fits v nothing none
    -- a token of the class
    is_word : {c : Terminal} {x : Token} → accepts v c x ≡ true → Fits v (word c) (leaf x none)
    -- a node of the kind
    is_kind : {k : NodeKind} {c : Forest} → IsNode v k c → Fits v (kind k) (node k c none)
    -- a node that may stand at the place
    is_place : {p : Place} {k : NodeKind} {c : Forest} → may_stand v p (k, c) ≡ true → IsNode v k c → Fits v (place p) (node k c none)
    -- a node of the kind, with parts of its own at this place
    is_inside : {k : NodeKind} {r : Rule} {c : Forest} → Fits v r c → is_nearest c ≡ true → Fits v (inside k r) (node k c none)
    -- one rule, and then another
    is_both : {r s : Rule} {f g h : Forest} → Fits v r g → Fits v s h → f ≡ g +++ h → Fits v (r ~ s) f
    -- one rule
    is_first : {r s : Rule} {f : Forest} → Fits v r f → Fits v (r ||| s) f
    -- another rule
    is_second : {r s : Rule} {f : Forest} → Fits v s f → Fits v (r ||| s) f
    -- a rule no more times
    no_more : {r : Rule} → Fits v (many r) none
    -- a rule once more
    once_more : {r : Rule} {f g h : Forest} → Fits v r g → Fits v (many r) h → f ≡ g +++ h → Fits v (many r) f
    -- tokens, each bracket with one that closes it
    is_tokens : {f : Forest} → is_balanced 0 f ≡ true → Fits v tokens f

  pub data IsNode (v : Version) : NodeKind → Forest → Type 0 where
    -- Its parts are those of its kind's form, each `else` and each `=>` belongs to the nearest node that could take it,
    -- and the lines of a heredoc have the indentation of its closing line.
    is_node : {k : NodeKind} {c : Forest} → Fits v (form v k) c → is_nearest c ≡ true → is_misindented (k, c) ≡ false → IsNode v k c

-- An expression.
pub record IsExpression (v : Version) (x : Tree) : Type 0 where
  pub stands : may_stand v (Operand 24) x ≡ true
  pub shaped : IsNode v x.0 x.1

-- A file: its statements, and the token at its end. How deep nodes may stand in one another is no part of it.
pub record Shape (v : Version) (f : File) : Type 0 where
  pub shaped : Fits v statements f.statements
  pub ends : is_end f.end.kind ≡ true
