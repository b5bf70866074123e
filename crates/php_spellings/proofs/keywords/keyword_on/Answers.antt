use Rattle.std.proofs.Common.{◌≡◌, false, refl, arith}
use Rattle.std.proofs.lemmas.Bool.Decides.{nat_tests}
use Rattle.php_spellings.proofs.KeywordLemmas.{none_by_letter, has_letter, letters}
use Rattle.php_spellings.proofs.keywords.keyword_on.Goals as goal

pub returns-in_default : goal.returns-in_default
returns-in_default c =
    let none : has_letter letters c.args.letter ≡ false = grind (arith, nat_tests) in
    rw (none_by_letter c.args.letter none) refl
