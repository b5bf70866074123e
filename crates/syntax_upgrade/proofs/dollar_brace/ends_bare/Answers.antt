use Rattle.std.proofs.Common.{ap, sym, ◌∙◌, arith}
use Rattle.std.proofs.lemmas.List.{drop_all}
use Rattle.syntax_upgrade.proofs.Bare.{bare_all, bare_behind}
use Rattle.syntax_upgrade.proofs.dollar_brace.ends_bare.Goals as goal

pub returns : goal.returns
returns c =
    let text = c.args.text.now in
    let i = c.loop-byte.byte-index in
    let none = drop_all i text (omega (arith, c.loop-byte-test.false)) in
    sym (ap (bare_behind c.loop-byte.is_bare c.loop-byte.is_escaped) none) ∙ c.loop-byte.invariant ∙ bare_all text
