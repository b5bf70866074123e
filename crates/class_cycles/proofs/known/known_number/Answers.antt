use Rattle.std.proofs.Common.{◌≡◌, ℕ, List, Option, ap, ◌∙◌}
use Rattle.std.specs.Prelude.{codes}
use Rattle.std.specs.Str.{bytes_eq}
use Rattle.program_names.specs.Classes.{known_classes}
use Rattle.class_cycles.specs.Others.{found_or}
use Rattle.class_cycles.proofs.OtherLemmas.{place_from_first}
use Rattle.class_cycles.proofs.known.known_number.Goals as goal

behind : (n known : List ℕ) (place : ℕ) (o p q : Option ℕ) → o ≡ found_or (bytes_eq n known) place p → p ≡ q → o ≡ found_or (bytes_eq n known) place q
behind n known place o p q e f = e ∙ ap (λ (r : Option ℕ). found_or (bytes_eq n known) place r) f

pub returns : goal.returns
returns c =
    let n = c.args.class.now in
    behind n (codes "stdclass") 0 c.known_at.result c.known_at-first.result _ c.known_at.ensures (
    behind n (codes "throwable") 1 c.known_at-first.result c.known_at-second.result _ c.known_at-first.ensures (
    behind n (codes "exception") 2 c.known_at-second.result c.known_at-third.result _ c.known_at-second.ensures (
    behind n (codes "error") 3 c.known_at-third.result c.known_at-fourth.result _ c.known_at-third.ensures (
    behind n (codes "typeerror") 4 c.known_at-fourth.result c.known_at-fifth.result _ c.known_at-fourth.ensures (
    behind n (codes "argumentcounterror") 5 c.known_at-fifth.result c.known_at-sixth.result _ c.known_at-fifth.ensures (
    behind n (codes "arithmeticerror") 6 c.known_at-sixth.result c.known_at-seventh.result _ c.known_at-sixth.ensures (
    behind n (codes "divisionbyzeroerror") 7 c.known_at-seventh.result c.known_at-eighth.result _ c.known_at-seventh.ensures (
    behind n (codes "errorexception") 8 c.known_at-eighth.result c.known_at-ninth.result _ c.known_at-eighth.ensures (
    behind n (codes "logicexception") 9 c.known_at-ninth.result c.known_at-tenth.result _ c.known_at-ninth.ensures (
    c.known_at-tenth.ensures))))))))))
    ∙ place_from_first n known_classes
