use Rattle.std.proofs.Common.{◌≡◌, true, IfOk, sym, ◌∙◌}
use Rattle.syntax_upgrade.specs.NamesWalked.{are_one}
use Rattle.syntax_upgrade.specs.declared.split_name.Ahead.{Ahead}
use Rattle.syntax_upgrade.specs.Heads.{own_of}
use Rattle.syntax_upgrade.specs.Words.{seen}
use Rattle.syntax_upgrade.proofs.Own.{joined_in}
use Rattle.syntax_upgrade.proofs.split_name.in_front.Goals as goal

pub returns-then-are_one : goal.returns-then-are_one
returns-then-are_one c = λ r o e.
    let own = own_of r c.args.braces (seen c.args.token) in
    joined_in c.args.delete c.in-Some.ahead o own (λ (x : Ahead). IfOk c.joined.result (λ a. a ≡ x)) (sym c.in-Some.is ∙ e)
    (λ h k.
    let one : are_one c.args.delete own h.token ≡ true = sym (c.are_one.ensures h k) ∙ c.if-are_one.true in
    rw one (c.joined.ensures r h c.args.braces k))
