use Rattle.std.proofs.Common.{sym, ap, ◌∙◌}
use Rattle.syntax_upgrade.specs.Heads.{own_of, shown, shown_if_any}
use Rattle.syntax_upgrade.specs.NamesWalked.{begins}
use Rattle.syntax_upgrade.specs.Words.{seen}
use Rattle.syntax_upgrade.proofs.Fronts.{ahead_is, loose_head, no_ahead}
use Rattle.syntax_upgrade.proofs.split_name.head_of_parts.Goals as goal

pub returns-then-not-may_go_on : goal.returns-then-not-may_go_on
returns-then-not-may_go_on c = λ r f e.
    let own = own_of r c.args.braces in
    let t = seen c.args.token in
    c.alone.ensures r
    ∙ sym (ap shown (loose_head c.args.delete (own t) (begins c.args.delete own f) (sym c.may_go_on.ensures ∙ c.if-not-may_go_on.true)))

pub returns-in-Some : goal.returns-in-Some
returns-in-Some c = λ r f e.
    ahead_is _ _ (sym c.in-Some.is ∙ c.in_ok-ahead.ensures r ∙ ap (λ v. shown_if_any (begins c.args.delete (own_of r c.args.braces) v)) e)

pub returns-in-None : goal.returns-in-None
returns-in-None c = λ r f e.
    no_ahead _ (sym c.in-None.is ∙ c.in_ok-ahead.ensures r ∙ ap (λ v. shown_if_any (begins c.args.delete (own_of r c.args.braces) v)) e)
