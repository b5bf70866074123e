use Rattle.std.proofs.Common.{◌≡◌, OnOk, codes, subst, ap, ◌∙◌}
use Rattle.syntax_rules.specs.DollarBrace.{dollar_name}
use Rattle.syntax_rules.specs.HashComment.{lead_by}
use Rattle.syntax_rules.specs.Together.{token_by}
use Rattle.syntax_upgrade.specs.NamesWalked.{Head}
use Rattle.syntax_upgrade.specs.Steps.{recorded_next}
use Rattle.syntax_upgrade.specs.Words.{seen}
use Rattle.syntax_upgrade.specs.Writing.{also_next, kept_next, pieces_next}
use Rattle.syntax_upgrade.specs.Written.{Written}
use Rattle.syntax_upgrade.proofs.Stepping.{name_steps}
use Rattle.syntax_upgrade.proofs.dollar_brace.name.Goals as goal

pub returns : goal.returns
returns c =
    let t = seen c.args.token in
    let r = c.args.rules in
    let h : Head = record { more = 0; token = dollar_name (token_by r t) } in
    subst (λ (x : Written). OnOk c.kept.result (c.kept.new.self ≡ x))
    (ap (recorded_next (kept_next t.text)) (c.in_ok-trivia.ensures
    ∙ ap (recorded_next (pieces_next (lead_by r.hash_comments t.lead)))
    (c.in_ok-also.ensures ∙ ap (recorded_next (also_next (codes "$")))
    (c.in_ok-begin.ensures h (c.as_dollar_name.ensures r))))
    ∙ name_steps r t c.args.writer.now)
    c.kept.ensures
