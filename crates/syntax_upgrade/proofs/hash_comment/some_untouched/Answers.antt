use Rattle.std.proofs.Common.{◌≡◌, ℕ, ◌<◌, List, [], ◌∷◌, OnOk, length, subst, arith}
use Rattle.syntax_rules.specs.HashComment.{untouched}
use Rattle.syntax_upgrade.specs.Writing.{Recorded, kept_next, pieces_next}
use Rattle.syntax_upgrade.proofs.Spaced.{kept_whole}
use Rattle.syntax_upgrade.proofs.hash_comment.some_untouched.Goals as goal

untouched_is : (bs : List ℕ) (r : Recorded) → 0 < length bs → kept_next bs r ≡ pieces_next (untouched bs) r
untouched_is [] r l = absurd (omega (arith, l))
untouched_is (b ∷ bs) r l = kept_whole b bs r

pub returns : goal.returns
returns c =
    subst (λ (x : Recorded). OnOk c.kept.result (c.kept.new.self ≡ x)) (untouched_is c.args.lead.now c.args.recorder.now c.requires) c.kept.ensures
