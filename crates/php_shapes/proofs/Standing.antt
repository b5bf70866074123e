-- What is known of nodes as they grow, by the sort of their place.
use Rattle.std.proofs.Common.{◌≡◌, ℕ, Bool, true, false, cond, ◌&&◌, ◌||◌, nat_le, List, Option, Some, None, refl, sym, ◌∙◌}
use Rattle.std.specs.Prelude.{IfSome}
use Rattle.php_tree.specs.declared.kind.NodeKind.{NodeKind}
use Rattle.php_tree.specs.declared.kind.NodeKind.TheVariants as k
use Rattle.php_tree.specs.declared.token.Token.{Token}
use Rattle.php_tree.specs.declared.version.Version.{Version}
use Rattle.php_tree.specs.Tree.{Forest, none, node}
use Rattle.php_terminals.specs.declared.terminal.Terminal.TheVariants as t
use Rattle.php_terminals.specs.Ahead.{first_of}
use Rattle.php_terminals.specs.Indents.{is_misindented}
use Rattle.php_forms.specs.declared.item.Sort.{Sort}
use Rattle.php_forms.specs.declared.item.Sort.TheVariants as s
use Rattle.php_forms.specs.declared.item.Item.{Item}
use Rattle.php_forms.specs.Forms.{or_else, when}
use Rattle.php_forms.specs.Grammar.{Form}
use Rattle.php_grammar.specs.Bases.{is_list, is_variable}
use Rattle.php_grammar.specs.Levels.{level}
use Rattle.php_shapes.specs.Atoms as at
use Rattle.php_shapes.specs.Quoted as qu
use Rattle.php_shapes.specs.Forms.{form}
use Rattle.php_shapes.specs.Nearest.{goes_on_if, is_nearest, is_open_if, is_open_yield, is_to}
use Rattle.php_shapes.specs.Notation.{Rule, word, place, ◌~◌, ◌|||◌, expr}
use Rattle.php_shapes.specs.Places.{TargetOrList, begins_with_class_name, begins_with_variable, is_class_name, is_expression, is_member, is_prefix, is_statement}
use Rattle.php_shapes.specs.Shapes.{Fits}
use Rattle.php_shapes.proofs.Entries.{Meet, entries}
use Rattle.php_shapes.proofs.Sequences.{Gives}
use Rattle.php_shapes.proofs.Follows.{false_is}

-- ---- what is known of a node

-- a node that could take the next token has no such token behind it
abbrev pub Closed : NodeKind → Forest → List Token → Type 0
Closed k c rest = (is_open_if k c ≡ true → goes_on_if (first_of rest) ≡ false) × (is_open_yield k c ≡ true → is_to (first_of rest) ≡ false)

-- an expression or a list form
abbrev pub is_operand : NodeKind → Bool
is_operand k = is_expression k || is_list k

-- its own operator is of a level or a tighter one, or it may stand behind any operator
abbrev pub is_tight : Version → ℕ → NodeKind → Forest → Bool
is_tight v limit k c = nat_le (level v (k, c)) limit || is_prefix k

-- the parts of an item of a list form
abbrev pub list_item_parts : Rule
list_item_parts =
    word t.Ampersand ~ place TargetOrList
    ||| place TargetOrList
    ||| expr ~ word t.DoubleArrow ~ at.by_ref ~ place TargetOrList

-- Parts of a node of a kind, whose lines have the indentation.
pub record Made (v : Version) (k : NodeKind) (c : Forest) : Type 0 where
  pub fits : Fits v (form v k) c
  pub fine : is_misindented (k, c) ≡ false

-- What is known of a node of a sort that may still go on.
abbrev pub Stands : Version → Sort → NodeKind → Forest → Type 0
Stands v s.Statement j c = Made v j c × (is_statement j ≡ true)
Stands v s.Block j c = Made v j c × (j ≡ k.Block)
Stands v s.Case j c = Made v j c × (j ≡ k.Case)
Stands v s.Member j c = Made v j c × (is_member j ≡ true)
Stands v s.Param j c = Made v j c × (j ≡ k.Param)
Stands v s.TypeName j c = Made v j c × (j ≡ k.TypeName)
Stands v s.Args j c = Made v j c × (j ≡ k.Args)
Stands v s.Item j c = Made v j c × (j ≡ k.Item)
Stands v s.ListItem j c = Fits v list_item_parts c × (j ≡ k.Item)
Stands v (s.Operand limit) j c = Fits v (form v j) c × (is_operand j ≡ true) × (is_tight v limit j c ≡ true)
Stands v s.Entry j c = Fits v (form v j) c × (is_operand j ≡ true) × (is_tight v 24 j c ≡ true)
Stands v s.Target j c = Fits v (form v j) c
Stands v s.Place j c = Fits v (form v j) c
Stands v s.SimpleVariable j c = Made v j c × (j ≡ k.Variable)
Stands v s.PlainVariable j c = Fits v (word t.Variable) c × (j ≡ k.Variable)
Stands v s.ClassRef j c = Made v j c × (is_class_name j && begins_with_class_name c ≡ true)
Stands v s.Embedded j c = Made v j c × (begins_with_variable (node j c none) ≡ true)
Stands v s.Interpolated j c = (is_nearest c ≡ true → Fits v qu.interpolated (node j c none)) × (is_variable j ≡ true → (j ≡ k.Variable) × Fits v (word t.Variable) c)

-- A form with which a node of a sort begins.
pub record Good (v : Version) (s : Sort) (fm : Form) : Type 0 where
  pub good : (c : Forest) (rest : List Token) → Meet v (entries v fm.1) c rest → Stands v s fm.0 c × Closed fm.0 c rest

-- ---- kinds that take no token behind them, and hold no text

abbrev pub is_closed : NodeKind → Bool
is_closed k.If = false
is_closed k.Yield = false
is_closed _ = true

abbrev pub is_quiet : NodeKind → Bool
is_quiet k.If = false
is_quiet k.Yield = false
is_quiet k.Text = false
is_quiet k.Quoted = false
is_quiet _ = true

quiet_closed : (k : NodeKind) → is_quiet k ≡ true → is_closed k ≡ true
quiet_closed k.If e = e
quiet_closed k.Yield e = e
quiet_closed _ e = refl

if_shut : (k : NodeKind) (c : Forest) → is_closed k ≡ true → is_open_if k c ≡ false
if_shut k.If c e = false_is e
if_shut _ c e = refl

yield_shut : (k : NodeKind) (c : Forest) → is_closed k ≡ true → is_open_yield k c ≡ false
yield_shut k.Yield c e = false_is e
yield_shut _ c e = refl

pub closed : (k : NodeKind) (c : Forest) (rest : List Token) → is_closed k ≡ true → Closed k c rest
closed k c rest e = (λ d. false_is (sym (if_shut k c e) ∙ d), λ d. false_is (sym (yield_shut k c e) ∙ d))

pub quiet_fine : (k : NodeKind) (c : Forest) → is_quiet k ≡ true → is_misindented (k, c) ≡ false
unfolding is_misindented
quiet_fine k.Text c e = false_is e
quiet_fine k.Quoted c e = false_is e
quiet_fine _ c e = refl

pub made : (v : Version) (k : NodeKind) (is : List Item) → is_quiet k ≡ true → Gives v (entries v is) (form v k)
    → (c : Forest) (rest : List Token) → Meet v (entries v is) c rest → Made v k c
made v k is e p c rest m = record { fits = p c rest m; fine = quiet_fine k c e }

pub quiet : (k : NodeKind) (c : Forest) (rest : List Token) → is_quiet k ≡ true → Closed k c rest
quiet k c rest e = closed k c rest (quiet_closed k e)

-- ---- forms that tests choose

module _ (P : Form → Type 0) where
  pub cond_form : (b : Bool) (f g : Form) → P f → P g → P (cond b f g)
  cond_form true f g p q = p
  cond_form false f g p q = q

  pub cond_option : (b : Bool) (o q : Option Form) → (b ≡ true → IfSome o P) → (b ≡ false → IfSome q P) → IfSome (cond b o q) P
  cond_option true o q f g = f refl
  cond_option false o q f g = g refl

  pub when_form : (b : Bool) (f : Form) → (b ≡ true → P f) → IfSome (when b f) P
  when_form true f p = p refl
  when_form false f p = tt

  pub or_else_form : (o q : Option Form) → IfSome o P → IfSome q P → IfSome (or_else o q) P
  or_else_form None q p r = r
  or_else_form (Some f) q p r = p
