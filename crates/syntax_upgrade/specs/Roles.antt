-- The code's roles are those of a quoted text's tokens.
use Rattle.syntax_upgrade.specs.declared.dollar_brace.Role as declared
use Rattle.syntax_upgrade.specs.declared.dollar_brace.Role.TheVariants as code
use Rattle.syntax_upgrade.specs.Texts.{Role, other, named, closing}

abbrev pub role_of : declared.Role → Role
role_of code.Other = other
role_of code.Named = named
role_of code.Closing = closing
