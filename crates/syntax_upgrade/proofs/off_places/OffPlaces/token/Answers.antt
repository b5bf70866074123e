use Rattle.std.proofs.Common.{◌≡◌, ap, sym, ◌∙◌, arith}
use Rattle.php_rows.specs.Reading.{forest_in}
use Rattle.syntax_rules.specs.Together.{token_by}
use Rattle.syntax_upgrade.specs.declared.split_name.Ahead.{Ahead}
use Rattle.syntax_upgrade.specs.NamesWalked.{Head}
use Rattle.syntax_upgrade.specs.OffPlaces.{head_by}
use Rattle.syntax_upgrade.specs.Words.{seen}
use Rattle.syntax_upgrade.proofs.OffSteps.{looked, unlooked}
use Rattle.syntax_upgrade.proofs.off_places.OffPlaces.token.Goals as goal

pub returns-then-keeps_names : goal.returns-then-keeps_names
returns-then-keeps_names c = λ around i.
    let r = c.args.rules in
    let x = seen c.args.token in
    let z : c.args.inner ≡ 0 = omega (arith, c.if-inner-gt0.false) in
    let h : Head = record { more = 0; token = token_by r x } in
    unlooked r around i c.args.at x (forest_in c.args.behind) c.args.self.now c.args.inner h c.first.new.self z
    (sym c.keeps_names.ensures ∙ c.if-keeps_names.true) (c.in_ok-first.ensures h (c.alone.ensures r))

pub returns : goal.returns
returns c = λ around i.
    let r = c.args.rules in
    let x = seen c.args.token in
    let f = forest_in c.args.behind in
    let z : c.args.inner ≡ 0 = omega (arith, c.if-inner-gt0.false) in
    let h = c.in_ok-ahead.ensures r f c.requires in
    looked r around i c.args.at x f c.args.self.now c.args.inner c.in_ok-ahead.ahead.more c.first-2.new.self z
    (sym c.keeps_names.ensures ∙ c.if-keeps_names.false) (ap (λ (a : Ahead). a.more) h) (c.in_ok-first-2.ensures (head_by r x f) h)
