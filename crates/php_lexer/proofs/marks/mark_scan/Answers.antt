use Rattle.std.proofs.Common.{◌≡◌, false, sym, arith}
use Rattle.std.proofs.lemmas.Bool.Decides.{nat_tests}
use Rattle.php_lexer.proofs.Dispatch.{other_scan, has, marks}
use Rattle.php_lexer.proofs.marks.mark_scan.Goals as goal

pub returns-in_default : goal.returns-in_default
returns-in_default c =
    let none : has marks c.args.first ≡ false = grind (arith, nat_tests) in
    sym (other_scan c.args.first c.args.rest.now none c.requires.no_letter c.requires.no_space c.requires.no_digit)
