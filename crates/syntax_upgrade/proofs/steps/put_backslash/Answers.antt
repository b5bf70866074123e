use Rattle.std.proofs.Common.{◌≡◌, ℕ, List, OnOk, codes, subst, ap, ◌∙◌}
use Rattle.syntax_rules.specs.Together.{token_by}
use Rattle.syntax_upgrade.specs.NamesWalked.{Head}
use Rattle.syntax_upgrade.specs.Steps.{recorded_next}
use Rattle.syntax_upgrade.specs.Words.{seen}
use Rattle.syntax_upgrade.specs.Writing.{changed_next, kept_next}
use Rattle.syntax_upgrade.specs.Written.{Written}
use Rattle.syntax_upgrade.proofs.Bare.{backslash_steps, bare_some}
use Rattle.syntax_upgrade.proofs.steps.put_backslash.Goals as goal

pub split_last-requires : goal.split_last-requires
split_last-requires c = bare_some c.args.token.text.now c.requires

pub returns : goal.returns
returns c =
    let t = seen c.args.token in
    let r = c.args.rules in
    let w = c.args.writer.now in
    let h : Head = record { more = 0; token = token_by r t } in
    let put = λ (l : List ℕ) (x : Written). recorded_next (kept_next l) x in
    let slash = λ (x : Written). recorded_next (changed_next (codes "\\")) x in
    subst (λ (x : Written). OnOk c.kept-2.result (c.kept-2.new.self ≡ x))
    (ap (λ (l : List ℕ). put l c.changed.new.self) c.split_last.ensures.last
    ∙ ap (put _) (c.in_ok-changed.ensures
    ∙ ap slash (c.in_ok-kept.ensures
    ∙ ap (λ (f : List ℕ). put f c.begin.new.self) c.split_last.ensures.front
    ∙ ap (put _) (c.in_ok-begin.ensures h (c.alone.ensures r))))
    ∙ backslash_steps r t w (bare_some t.text c.requires) c.requires)
    c.kept-2.ensures
