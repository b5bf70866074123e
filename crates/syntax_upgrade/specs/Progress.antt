-- The parts of a node that are left, by its rule.
use Rattle.std.specs.Prelude.{Bool, Option}
use Rattle.php_tree.specs.Tree.{Forest}
use Rattle.syntax_rules.specs.declared.rules.Rules.{Rules}
use Rattle.syntax_rules.specs.Around.{Around}
use Rattle.syntax_upgrade.specs.declared.progress.Progress as declared
use Rattle.syntax_upgrade.specs.declared.progress.Progress.TheVariants as code
use Rattle.syntax_upgrade.specs.Written.{Written}
use Rattle.syntax_upgrade.specs.NamesWalked.{walked}
use Rattle.syntax_upgrade.specs.Heads.{own_of}
use Rattle.syntax_upgrade.specs.Inside.{float_walked}
use Rattle.syntax_upgrade.specs.Roles.{role_of}
use Rattle.syntax_upgrade.specs.Texts.{text_walked}

-- the parts that are left, the next of them the first of its node or not
abbrev pub left_walked : Rules → declared.Progress → (Bool → Option Around) → Bool → Forest → Written → Written
left_walked r (code.Names braces inner) around i f w = walked r (own_of r braces) around i inner f w
left_walked r code.Float around i f w = float_walked r around i f w
left_walked r (code.Quoted role) around i f w = text_walked r around i (role_of role) f w
