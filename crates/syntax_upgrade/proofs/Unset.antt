-- The cast `(unset)` of a variable, written.
use Rattle.std.proofs.Common.{◌≡◌, Bool, true, false, refl, codes}
use Rattle.php_tree.specs.declared.token.TokenKind.TheVariants as token
use Rattle.tracked_changes.specs.Tokens.{put_also}
use Rattle.tracked_changes.specs.Walk.{NewTree}
use Rattle.syntax_rules.specs.UnsetCast.{opening, unset_cast}
use Rattle.syntax_rules.specs.SplitName.{whole_names}
use Rattle.syntax_upgrade.specs.Writing.{Recorded, also_next}
use Rattle.syntax_upgrade.specs.Inside.{null_for}
use Rattle.syntax_upgrade.specs.Written.{Written, token_next, draft_next}

-- tokens put in by the edit just before go on with it
also_so : (n : Bool) (r : Recorded) (b : Bool)
    → token_next n (put_also token.Op (codes ")")) (token_next n (put_also token.Label (codes "null")) (record { recorded = r; behind = b; parens = 0 }))
    ≡ record { recorded = also_next (codes ")") (also_next (codes "null") r); behind = b; parens = 0 }
also_so true r true = refl
also_so true r false = refl
also_so false r true = refl
also_so false r false = refl

pub unset_written : (n : Bool) (t : NewTree) (w : Written)
    → draft_next n (whole_names n (unset_cast t).1) w ≡ token_next n (null_for t.1) w
unset_written n t w = also_so n (token_next n (opening t.1) w).recorded (token_next n (opening t.1) w).behind
