-- Statements and members of every kind are read as they were.
use Rattle.std.proofs.Common.{◌≡◌, ℕ, ◌≤◌, true, List}
use Rattle.php_tree.specs.declared.kind.NodeKind.{NodeKind}
use Rattle.php_tree.specs.declared.kind.NodeKind.TheVariants as k
use Rattle.php_tree.specs.declared.token.Token.{Token}
use Rattle.php_tree.specs.declared.version.Version.{Version}
use Rattle.php_tree.specs.Tree.{Forest, count}
use Rattle.php_terminals.specs.Ahead.{first_of}
use Rattle.php_forms.specs.declared.item.Sort.TheVariants as s
use Rattle.php_forms.specs.Grammar.{Grows}
use Rattle.php_grammar.specs.Tables.{php}
use Rattle.php_shapes.specs.Places.{is_member, is_statement}
use Rattle.php_shapes.specs.Shapes.{IsNode}
use Rattle.php_shapes.proofs.ReadEnds.{Below, EndsStatement}
use Rattle.php_shapes.proofs.ReadMatch.{false_true}
use Rattle.php_shapes.proofs.ReadStatements.{
  block_grows,
  break_grows,
  continue_grows,
  declare_grows,
  do_grows,
  echo_grows,
  empty_grows,
  for_grows,
  foreach_grows,
  global_grows,
  goto_grows,
  html_grows,
  return_grows,
  switch_grows,
  throw_grows,
  try_grows,
  unset_grows,
  while_grows,
}
use Rattle.php_shapes.proofs.ReadIfs.{if_grows}
use Rattle.php_shapes.proofs.ReadIfColons.{if_colons_grows}
use Rattle.php_shapes.proofs.ReadDeclarations.{class_grows, const_grows, function_grows, interface_grows, label_grows, statics_grows, trait_grows}
use Rattle.php_shapes.proofs.ReadClassMembers.{class_const_grows, method_grows, property_grows}
use Rattle.php_shapes.proofs.ReadTraitUses.{trait_use_grows}
use Rattle.php_shapes.proofs.ReadExpressionStatements.{expression_grows}
use Rattle.php_shapes.proofs.ReadNamespaces.{namespace_grows}
use Rattle.php_shapes.proofs.ReadWholeUses.{use_grows}

-- A statement is read as it was, where it ends.
pub statement_grows : (v : Version) (n : ℕ) → Below v n → (j : NodeKind) (c : Forest) (rest : List Token)
    → count c ≤ n → is_statement j ≡ true → IsNode v j c → EndsStatement (j, c) (first_of rest)
    → Grows (php v) s.Statement j c rest
statement_grows v n below k.Block c rest le h x e = block_grows v n below c rest le x e
statement_grows v n below k.Empty c rest le h x e = empty_grows v n below c rest le x e
statement_grows v n below k.ExprStmt c rest le h x e = expression_grows v n below c rest le x e
statement_grows v n below k.Echo c rest le h x e = echo_grows v n below c rest le x e
statement_grows v n below k.Html c rest le h x e = html_grows v n below c rest le x e
statement_grows v n below k.Return c rest le h x e = return_grows v n below c rest le x e
statement_grows v n below k.If c rest le h x e = if_grows v n below c rest le x e
statement_grows v n below k.IfAlt c rest le h x e = if_colons_grows v n below c rest le x e
statement_grows v n below k.While c rest le h x e = while_grows v n below c rest le x e
statement_grows v n below k.DoWhile c rest le h x e = do_grows v n below c rest le x e
statement_grows v n below k.For c rest le h x e = for_grows v n below c rest le x e
statement_grows v n below k.Foreach c rest le h x e = foreach_grows v n below c rest le x e
statement_grows v n below k.Switch c rest le h x e = switch_grows v n below c rest le x e
statement_grows v n below k.Break c rest le h x e = break_grows v n below c rest le x e
statement_grows v n below k.Continue c rest le h x e = continue_grows v n below c rest le x e
statement_grows v n below k.Global c rest le h x e = global_grows v n below c rest le x e
statement_grows v n below k.Statics c rest le h x e = statics_grows v n below c rest le x e
statement_grows v n below k.Unset c rest le h x e = unset_grows v n below c rest le x e
statement_grows v n below k.Throw c rest le h x e = throw_grows v n below c rest le x e
statement_grows v n below k.Try c rest le h x e = try_grows v n below c rest le x e
statement_grows v n below k.Function c rest le h x e = function_grows v n below c rest le x e
statement_grows v n below k.Class c rest le h x e = class_grows v n below c rest le x e
statement_grows v n below k.Interface c rest le h x e = interface_grows v n below c rest le x e
statement_grows v n below k.Trait c rest le h x e = trait_grows v n below c rest le x e
statement_grows v n below k.Const c rest le h x e = const_grows v n below c rest le x e
statement_grows v n below k.Namespace c rest le h x e = namespace_grows v n below c rest le x e
statement_grows v n below k.Use c rest le h x e = use_grows v n below c rest le x e
statement_grows v n below k.Declare c rest le h x e = declare_grows v n below c rest le x e
statement_grows v n below k.Goto c rest le h x e = goto_grows v n below c rest le x e
statement_grows v n below k.LabelStmt c rest le h x e = label_grows v n below c rest le x e
statement_grows v n below j c rest le h x e = absurd (false_true h)

-- A member is read as it was, whatever follows.
pub member_grows : (v : Version) (n : ℕ) → Below v n → (j : NodeKind) (c : Forest) (rest : List Token) → count c ≤ n
    → is_member j ≡ true → IsNode v j c → Grows (php v) s.Member j c rest
member_grows v n below k.Property c rest le h x = property_grows v n below c rest le x
member_grows v n below k.ClassConst c rest le h x = class_const_grows v n below c rest le x
member_grows v n below k.Method c rest le h x = method_grows v n below c rest le x
member_grows v n below k.TraitUse c rest le h x = trait_use_grows v n below c rest le x
member_grows v n below j c rest le h x = absurd (false_true h)
