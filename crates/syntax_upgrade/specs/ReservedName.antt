-- Words that 8.3 refuses where 7.4 takes them as labels: `match`, `readonly`, `mixed` and `never`. (PHP manual, "List of Keywords"
-- and "List of other reserved words"; RFC on match expressions; UPGRADING 8.0, 8.1 and 8.3.)
use Rattle.std.specs.Prelude.{ℕ, zero, suc, Bool, true, false, not, ◌&&◌, ◌||◌, if◌then◌else◌, List, [], ◌∷◌, ◌++◌}
use Rattle.php_tree.specs.declared.kind.NodeKind.{NodeKind}
use Rattle.php_tree.specs.declared.kind.NodeKind.TheVariants as k
use Rattle.php_tree.specs.Tree.{Forest, none, leaf, node, Tree}
use Rattle.php_tree.specs.Places.{behind, end_of}
use Rattle.php_terminals.specs.declared.terminal.Terminal.{Terminal}
use Rattle.php_terminals.specs.declared.terminal.Terminal.TheVariants as t
use Rattle.php_terminals.specs.Classify.{terminal}
use Rattle.syntax_upgrade.specs.NameHeads.{head_at}
use Rattle.php_tree.specs.declared.token.Token.{Token}
use Rattle.rule_tables.specs.declared.cause.Cause.TheVariants.{Always}
use Rattle.rule_tables.specs.declared.rule.RuleId.TheVariants as rule
use Rattle.syntax_upgrade.specs.Found.{Report, at_token}

-- ---- classes of tokens

-- `match`
abbrev pub is_match : Terminal → Bool
is_match t.Match = true
is_match _ = false

-- `match` or `readonly`
abbrev pub is_keyword_now : Terminal → Bool
is_keyword_now t.Match = true
is_keyword_now t.Readonly = true
is_keyword_now _ = false

-- `mixed` or `never`
abbrev pub is_type_now : Terminal → Bool
is_type_now t.MixedOrNever = true
is_type_now _ = false

-- what stands before the name that a class, an interface or a trait declares
abbrev pub declares : Terminal → Bool
declares t.Class = true
declares t.Interface = true
declares t.Trait = true
declares _ = false

-- `function` or `const`
abbrev pub is_of_code : Terminal → Bool
is_of_code t.Function = true
is_of_code t.Const = true
is_of_code _ = false

abbrev pub is_double_colon : Terminal → Bool
is_double_colon t.DoubleColon = true
is_double_colon _ = false

abbrev pub is_brace : Terminal → Bool
is_brace t.OpenBrace = true
is_brace _ = false

abbrev pub is_comma : Terminal → Bool
is_comma t.Comma = true
is_comma _ = false

abbrev pub is_as : Terminal → Bool
is_as t.As = true
is_as _ = false

abbrev pub is_root : Terminal → Bool
is_root t.Backslash = true
is_root _ = false

-- ---- where a token stands in its node

-- how many tokens stand before it
pub data Rank : Type 0 where
  first : Rank
  second : Rank
  later : Rank

abbrev pub behind_rank : Rank → Rank
behind_rank first = second
behind_rank _ = later

-- The class of the token or the name directly before it (`End` where that is a node, or nothing), whether a brace was opened
-- before it, and of a use where it stands, whether names are classes', and whether this one is.
pub record Standing : Type 0 where
  pub before : Terminal
  pub in_braces : Bool
  pub rank : Rank
  pub of_classes : Bool
  pub of_class : Bool

abbrev pub at_first : Standing
at_first = record { before = t.End; in_braces = false; rank = first; of_classes = false; of_class = false }

-- whether names are classes' behind a token: a use's are, where `function` or `const` doesn't stand behind its first word
abbrev pub are_classes : Rank → Bool → Terminal → Bool
are_classes second classes x = not (is_of_code x)
are_classes _ classes x = classes

-- whether the next name is a class's: each name of a group has a word of its own
abbrev pub is_class_next : Rank → Bool → Bool → Terminal → Bool
is_class_next first classes class x = true
is_class_next second classes class x = not (is_of_code x)
is_class_next later classes class x = if is_comma x then classes else class && not (is_of_code x)

-- behind a token or a name, and behind a node
abbrev pub past : Standing → Terminal → Standing
past s x = record {
  before = x;
  in_braces = s.in_braces || is_brace x;
  rank = behind_rank s.rank;
  of_classes = are_classes s.rank s.of_classes x;
  of_class = is_class_next s.rank s.of_classes s.of_class x;
}

abbrev pub past_node : Standing → Standing
past_node s = record s { before = t.End }

-- the class of a token, or of the name with `\` that begins with it, by how many tokens stand behind it in its name
abbrev pub class_by : ℕ → Terminal → Terminal
class_by zero x = x
class_by (suc more) x = t.QualifiedName

-- the class of the next token or name, `End` where that is a node, or nothing
abbrev pub next : Forest → Terminal
next none = t.End
next (leaf x f) = class_by (head_at x f).more (terminal x)
next (node j b f) = t.End

-- ---- what is refused

-- whether a use gives a class the name that ends in a token of this class, before one of another: no alias and no group's braces
-- stand behind it
abbrev pub gives_type : Bool → Terminal → Terminal → Bool
gives_type of_class x y = of_class && is_type_now x && not (is_as y || is_root y)

-- a name that is declared, or one behind `extends` or `implements`
abbrev pub in_class : Standing → Terminal → Bool
in_class s x = is_keyword_now x || declares s.before && is_type_now x

-- Whether 8.3 refuses a token of a class, a whole name or no name, that stands so in a node, before one of another class.
abbrev pub refuses : NodeKind → Standing → Terminal → Terminal → Bool
-- the name of a function, and the name of one that is called
refuses k.Function s x y = is_match x
refuses k.Call s x y = is_match x
-- names of classes, and constants that are read
refuses k.Constant s x y = is_keyword_now x
refuses k.TypeName s x y = is_keyword_now x
refuses k.New s x y = is_keyword_now x
refuses k.InstanceOf s x y = is_keyword_now x
refuses k.Try s x y = is_keyword_now x
refuses k.ClassConstant s x y = is_keyword_now x && not (is_double_colon s.before)
refuses k.StaticProp s x y = is_keyword_now x && not (is_double_colon s.before)
refuses k.StaticCall s x y = is_keyword_now x && not (is_double_colon s.before)
refuses k.TraitUse s x y = is_keyword_now x && not s.in_braces
-- names that are declared
refuses k.Class s x y = in_class s x
refuses k.Interface s x y = in_class s x
refuses k.Trait s x y = in_class s x
refuses k.Const s x y = is_keyword_now x
-- names that are imported
refuses k.Use s x y = is_keyword_now x || gives_type s.of_class x y
-- other labels
refuses k.Goto s x y = is_keyword_now x
refuses k.LabelStmt s x y = is_keyword_now x
refuses k.Declare s x y = is_keyword_now x
refuses _ s x y = false

-- the same for the last token of a name with `\`
abbrev pub refuses_last : NodeKind → Standing → Terminal → Terminal → Bool
refuses_last k.Use s x y = gives_type s.of_class x y
refuses_last _ s x y = false

-- whether 8.3 refuses a token of this class in some node
abbrev pub is_doubtful : Terminal → Bool
is_doubtful x = is_keyword_now x || is_type_now x

-- whether nothing of a node of this kind is refused
abbrev pub is_quiet : NodeKind → Bool
is_quiet k.Function = false
is_quiet k.Call = false
is_quiet k.Constant = false
is_quiet k.TypeName = false
is_quiet k.New = false
is_quiet k.InstanceOf = false
is_quiet k.Try = false
is_quiet k.ClassConstant = false
is_quiet k.StaticProp = false
is_quiet k.StaticCall = false
is_quiet k.TraitUse = false
is_quiet k.Class = false
is_quiet k.Interface = false
is_quiet k.Trait = false
is_quiet k.Const = false
is_quiet k.Use = false
is_quiet k.Goto = false
is_quiet k.LabelStmt = false
is_quiet k.Declare = false
is_quiet _ = true

-- whether no token stands behind it in its name
abbrev pub is_last : ℕ → Bool
is_last zero = true
is_last (suc more) = false

-- a token that is refused: nothing can be written in its place
abbrev pub refused : ℕ → Token → Report
refused at x = at_token rule.ReservedName Always at x

abbrev pub refused_if : Bool → ℕ → Token → List Report
refused_if is_refused at x = if is_refused then refused at x ∷ [] else []

-- Those of a node's own tokens that 8.3 refuses, the first so many of them inside a name.
abbrev pub refused_tokens : NodeKind → Standing → ℕ → ℕ → Forest → List Report
refused_tokens kind s more at none = []
refused_tokens kind s zero at (leaf x f) =
    refused_if (is_last (head_at x f).more && refuses kind s (terminal x) (next f)) at x
    ++ refused_tokens kind (past s (class_by (head_at x f).more (terminal x))) (head_at x f).more (behind at x) f
refused_tokens kind s (suc more) at (leaf x f) =
    refused_if (is_last more && refuses_last kind s (terminal x) (next f)) at x ++ refused_tokens kind s more (behind at x) f
refused_tokens kind s more at (node j b f) = refused_tokens kind (past_node s) zero (end_of at b) f

abbrev pub of_reserved : ℕ → Tree → List Report
of_reserved at n = refused_tokens n.0 at_first zero at n.1
