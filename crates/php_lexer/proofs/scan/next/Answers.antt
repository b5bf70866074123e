use Rattle.std.proofs.Common.{sym}
use Rattle.php_lexer.specs.Views.{mode_of}
use Rattle.php_lexer.proofs.Longest.{scanned_longest, scanned_none, scanned_within, scanned_some}
use Rattle.php_lexer.proofs.scan.next.Goals as goal

pub returns-clause-found : goal.returns-clause-found
returns-clause-found c = scanned_longest c.args.version (mode_of c.args.bytes.now c.args.mode) c.args.here.now c.scanned.result (sym c.scanned.ensures)

pub returns-clause-none : goal.returns-clause-none
returns-clause-none c = scanned_none c.args.version (mode_of c.args.bytes.now c.args.mode) c.args.here.now c.scanned.result (sym c.scanned.ensures)

pub returns-clause-some : goal.returns-clause-some
returns-clause-some c = scanned_some c.args.version (mode_of c.args.bytes.now c.args.mode) c.args.here.now c.scanned.result (sym c.scanned.ensures)

pub returns-clause-within : goal.returns-clause-within
returns-clause-within c = scanned_within c.args.version (mode_of c.args.bytes.now c.args.mode) c.args.here.now c.scanned.result (sym c.scanned.ensures)
