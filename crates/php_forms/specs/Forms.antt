-- Forms as the code has them, and words that their tables share.
use Rattle.std.specs.Prelude.{Bool, List, ◌∷◌, [], Option, Some, None, cond, option_map}
use Rattle.std.specs.Borrow.{Bor}
use Rattle.php_tree.specs.declared.kind.NodeKind.{NodeKind}
use Rattle.php_tree.specs.declared.kind.NodeKind.TheVariants as k
use Rattle.php_terminals.specs.declared.terminal.Terminal.TheVariants as t
use Rattle.php_forms.specs.declared.item.Sort.TheVariants.{Operand}
use Rattle.php_forms.specs.declared.item.Item.{Item}
use Rattle.php_forms.specs.declared.item.Item.TheVariants.{Word, Node}
use Rattle.php_forms.specs.Grammar.{Form}

-- any expression
abbrev pub any : Item
any = Node (Operand 24)

-- a form, without where its items lie in memory
abbrev pub form_view : Option (NodeKind × Bor (List Item)) → Option Form
form_view o = option_map (λ f. (f.0, f.1.now)) o

-- a form where a test holds
abbrev pub when : Bool → Form → Option Form
when b form = cond b (Some form) None

-- the first form, or else the second
abbrev pub or_else : Option Form → Option Form → Option Form
or_else None other = other
or_else (Some f) other = Some f

-- a form that no tokens have: the node neither ends nor goes on, so there is no tree
abbrev pub refused : Option Form
refused = Some (k.Empty, Word t.Never ∷ [])
