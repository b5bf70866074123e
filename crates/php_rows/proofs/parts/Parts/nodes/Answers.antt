use Rattle.std.proofs.Common.{◌≡◌, length}
use Rattle.php_terminals.specs.Tokens.{tokens_in}
use Rattle.php_rows.proofs.KindsRead.{kinds_read}
use Rattle.php_rows.proofs.parts.Parts.nodes.Goals as goal

pub returns : goal.returns
returns c = let p = c.args.self in kinds_read (length p.nodes.now) p.at p.end p.nodes.now (tokens_in p.tokens) p.nested
