use Rattle.std.proofs.Common.{◌≡◌, ℕ, ◌<◌, ◌==◌, false, List, [], ◌∷◌, OnOk, length, subst, sym, arith}
use Rattle.std.specs.List.{list_any}
use Rattle.syntax_rules.specs.HashComment.{outside, spaced}
use Rattle.syntax_upgrade.specs.Writing.{Recorded, kept_next, pieces_next}
use Rattle.syntax_upgrade.proofs.Spaced.{no_hash}
use Rattle.syntax_upgrade.proofs.hash_comment.plain.Goals as goal

plain_is : (bs : List ℕ) (r : Recorded) → 0 < length bs → list_any (λ x. x == 35) bs ≡ false → kept_next bs r ≡ pieces_next (spaced outside bs) r
plain_is [] r l h = absurd (omega (arith, l))
plain_is (b ∷ bs) r l h = sym (no_hash outside b bs r h)

pub returns : goal.returns
returns c =
    subst (λ (x : Recorded). OnOk c.kept.result (c.kept.new.self ≡ x))
    (plain_is c.args.lead.now c.args.recorder.now c.requires.some c.requires.none)
    c.kept.ensures
