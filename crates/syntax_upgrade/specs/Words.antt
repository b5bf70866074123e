-- A token, as the walk sees it.
use Rattle.php_tree.specs.declared.token.Token.{Token}
use Rattle.syntax_upgrade.specs.declared.word.Word.{Word}

-- the token of the tree
abbrev pub seen : Word → Token
seen w = record { kind = w.kind; lead = w.lead.now; text = w.text.now; start = w.start }

-- two of them
abbrev pub both_seen : Word × Word → Token × Token
both_seen p = (seen p.0, seen p.1)
