-- Where nodes end, and which sorts read which nodes.
use Rattle.std.proofs.Common.{◌≡◌, ℕ, ◌<◌, ◌≤◌, Bool, true, false, ◌||◌, List, ◌⊎◌, inl, nat_eq}
use Rattle.php_tree.specs.declared.kind.NodeKind.{NodeKind}
use Rattle.php_tree.specs.declared.kind.NodeKind.TheVariants as k
use Rattle.php_tree.specs.declared.token.Token.{Token}
use Rattle.php_tree.specs.declared.version.Version.{Version}
use Rattle.php_tree.specs.declared.version.Version.TheVariants.{V74, V83}
use Rattle.php_tree.specs.Tree.{Forest, Tree, count}
use Rattle.php_terminals.specs.declared.terminal.Terminal.{Terminal}
use Rattle.php_terminals.specs.declared.terminal.Terminal.TheVariants as t
use Rattle.php_terminals.specs.Ahead.{first_of}
use Rattle.php_forms.specs.declared.item.Sort.{Sort}
use Rattle.php_forms.specs.declared.item.Sort.TheVariants as s
use Rattle.php_forms.specs.Grammar.{Spells}
use Rattle.php_grammar.specs.Edges.{edge}
use Rattle.php_grammar.specs.Bases.{is_callee, is_class_base, is_list, is_member_base, is_offset_base, is_target}
use Rattle.php_grammar.specs.Levels.{binary_level, left_limit}
use Rattle.php_grammar.specs.Tables.{php}
use Rattle.php_shapes.specs.Nearest.{ends_in_if, ends_in_yield, goes_on_if, is_open_if, is_open_yield, is_to}
use Rattle.php_shapes.specs.Places.{Place, Statement, Member, Operand, Target, TargetOrList, ClassName, Embedded, is_expression, may_stand}
use Rattle.php_shapes.specs.Shapes.{IsNode}
use Rattle.php_shapes.proofs.ReadFirst.{begins_statement}

-- ---- where nodes stop

-- what may follow an expression, other than a `=>` or an operator
abbrev pub closes_expression : Terminal → Bool
closes_expression t.Semi = true
closes_expression t.Comma = true
closes_expression t.CloseParen = true
closes_expression t.CloseBracket = true
closes_expression t.CloseBrace = true
closes_expression t.Colon = true
closes_expression t.As = true
closes_expression t.End = true
closes_expression _ = false

-- what may follow a statement, other than `else` and `elseif`
abbrev pub closes_statement : Terminal → Bool
closes_statement t.CloseBrace = true
closes_statement t.End = true
closes_statement t.Case = true
closes_statement t.Default = true
closes_statement t.EndDeclare = true
closes_statement t.EndFor = true
closes_statement t.EndForeach = true
closes_statement t.EndIf = true
closes_statement t.EndSwitch = true
closes_statement t.EndWhile = true
closes_statement t.While = true
closes_statement c = begins_statement c

-- what may follow a case
abbrev pub closes_case : Terminal → Bool
closes_case t.Case = true
closes_case t.Default = true
closes_case t.CloseBrace = true
closes_case t.EndSwitch = true
closes_case _ = false

-- what may follow a type
abbrev pub closes_type : Terminal → Bool
closes_type t.Variable = true
closes_type t.Ampersand = true
closes_type t.Ellipsis = true
closes_type t.OpenBrace = true
closes_type t.Semi = true
closes_type t.DoubleArrow = true
closes_type _ = false

-- what may follow a parameter, and an item
abbrev pub closes_item : Terminal → Bool
closes_item t.Comma = true
closes_item t.CloseParen = true
closes_item t.CloseBracket = true
closes_item _ = false

-- what may follow what is written, other than an operator
abbrev pub closes_target : Terminal → Bool
closes_target t.DoubleArrow = true
closes_target c = closes_item c

abbrev pub closes_args : Terminal → Bool
closes_args t.CloseParen = true
closes_args _ = false

-- what may follow a variable expression in a quoted text
abbrev pub closes_embedded : Terminal → Bool
closes_embedded t.CloseBrace = true
closes_embedded _ = false

-- whether a node of a sort ends before a token of a class, whatever the node is
abbrev pub stops : Sort → Terminal → Bool
stops (s.Operand m) c = closes_expression c
stops s.Statement c = closes_statement c
stops s.Case c = closes_case c
stops s.Param c = closes_item c
stops s.TypeName c = closes_type c
stops s.Args c = closes_args c
stops s.Item c = closes_item c
stops s.Target c = closes_target c
stops s.Block c = true
stops s.Member c = true
stops s.SimpleVariable c = true
stops s.PlainVariable c = true
stops s.Embedded c = closes_embedded c
stops _ c = false

-- the level of an operator between an expression and what follows, or 0
abbrev pub behind_level : Version → Terminal → ℕ
behind_level v t.InstanceOf = 4
behind_level v t.Question = 18
behind_level v c = binary_level v c

-- the loosest edge of what stands before it
abbrev pub behind_limit : Version → Terminal → ℕ
behind_limit v t.InstanceOf = 4
behind_limit v t.Question = 18
behind_limit v c = left_limit v c

-- whether a node ends in a `yield` that could take a `=>`
abbrev pub is_open_for_arrow : Tree → Bool
is_open_for_arrow x = is_open_yield x.0 x.1 || ends_in_yield false x.1

-- whether a node ends in an `if` that could take an `else`
abbrev pub is_open_for_else : Tree → Bool
is_open_for_else x = is_open_if x.0 x.1 || ends_in_if false x.1

-- An expression ends before a token of a class: before a closing one, before a `=>`, or before a looser operator.
abbrev pub Ends : Version → ℕ → Tree → Terminal → Type 0
Ends v m x c =
    (closes_expression c ≡ true)
    ⊎ ((is_to c ≡ true) × (is_open_for_arrow x ≡ false))
    ⊎ ((edge v x ≤ behind_limit v c) × (m < behind_level v c))

-- A statement ends before a token of a class: an `else` or `elseif` isn't its own.
abbrev pub EndsStatement : Tree → Terminal → Type 0
EndsStatement x c = (closes_statement c ≡ true) ⊎ ((goes_on_if c ≡ true) × (is_open_for_else x ≡ false))

-- What may stand behind an expression that is left of it: a class that a base, or what is written, goes on with.
abbrev pub goes_behind : Version → NodeKind → Terminal → Bool
goes_behind v j t.OpenBracket = is_offset_base j
goes_behind V74 j t.OpenBrace = is_offset_base j
goes_behind V83 j t.OpenBrace = false
goes_behind v j t.Arrow = is_member_base j
goes_behind v j t.DoubleColon = is_class_base j
goes_behind v j t.OpenParen = is_callee j
goes_behind v j t.Assign = is_target j || is_list j
goes_behind v j t.CompoundAssign = is_target j
goes_behind v j t.Step = is_target j
goes_behind v j _ = false

-- A token of a class may stand behind an expression: one that closes, or an operator that the expression is left of.
abbrev pub Behind : Version → Tree → Terminal → Type 0
Behind v x c =
    (closes_expression c ≡ true)
    ⊎ ((is_to c ≡ true) × (is_open_for_arrow x ≡ false))
    ⊎ ((edge v x ≤ behind_limit v c) × (0 < behind_level v c))

-- A node of a sort ends before these tokens.
abbrev pub Stopped : Version → Sort → Tree → List Token → Type 0
Stopped v (s.Operand m) x rest = Ends v m x (first_of rest)
Stopped v s.Statement x rest = EndsStatement x (first_of rest)
Stopped v s.Place x rest = Behind v x (first_of rest)
Stopped v s.ClassRef x rest = Behind v x (first_of rest) ⊎ (first_of rest ≡ t.OpenParen)
Stopped v s.Entry x rest = ((closes_item (first_of rest) ≡ true) × ((is_target x.0 || is_list x.0) ≡ true))
    ⊎ ((first_of rest ≡ t.DoubleArrow) × (is_expression x.0 ≡ true) × (is_open_for_arrow x ≡ false))
Stopped v sort x rest = stops sort (first_of rest) ≡ true

pub stopped : (v : Version) (sort : Sort) (x : Tree) (rest : List Token) → stops sort (first_of rest) ≡ true → Stopped v sort x rest
stopped v (s.Operand m) x rest h = inl h
stopped v s.Statement x rest h = inl h
stopped v s.Case x rest h = h
stopped v s.Param x rest h = h
stopped v s.TypeName x rest h = h
stopped v s.Args x rest h = h
stopped v s.Item x rest h = h
stopped v s.Target x rest h = h
stopped v s.Block x rest h = h
stopped v s.Member x rest h = h
stopped v s.SimpleVariable x rest h = h
stopped v s.PlainVariable x rest h = h
stopped v s.Embedded x rest h = h
stopped v s.ListItem x rest h = absurd cc
stopped v s.Entry x rest h = absurd cc
stopped v s.Place x rest h = absurd cc
stopped v s.ClassRef x rest h = absurd cc
stopped v s.Interpolated x rest h = absurd cc

-- ---- which sorts read which nodes

-- the sort that reads what may stand at a place
abbrev pub suits : Place → Sort → Bool
suits Statement s.Statement = true
suits Member s.Member = true
suits (Operand n) (s.Operand m) = nat_eq n m
suits Target s.Place = true
suits TargetOrList s.Target = true
suits TargetOrList s.Entry = true
suits (Operand n) s.Entry = nat_eq n 24
suits ClassName s.ClassRef = true
suits Embedded s.Embedded = true
suits _ _ = false

-- the sort that reads nodes of a kind
abbrev pub reads_kind : NodeKind → Sort → Bool
reads_kind k.Block s.Block = true
reads_kind k.Case s.Case = true
reads_kind k.Param s.Param = true
reads_kind k.TypeName s.TypeName = true
reads_kind k.Args s.Args = true
reads_kind k.Item s.Item = true
reads_kind k.Variable s.SimpleVariable = true
reads_kind _ _ = false

-- Nodes of fewer than n nodes that have the shape are read.
pub record Below (v : Version) (n : ℕ) : Type 0 where
  -- at a place
  pub placed : (p : Place) (sort : Sort) (j : NodeKind) (c : Forest) (rest : List Token) → suits p sort ≡ true
      → count c < n → may_stand v p (j, c) ≡ true → IsNode v j c → Stopped v sort (j, c) rest
      → Spells (php v) sort (j, c) rest
  -- by their kind
  pub kinded : (j : NodeKind) (sort : Sort) (c : Forest) (rest : List Token) → reads_kind j sort ≡ true → count c < n
      → IsNode v j c → Stopped v sort (j, c) rest → Spells (php v) sort (j, c) rest
