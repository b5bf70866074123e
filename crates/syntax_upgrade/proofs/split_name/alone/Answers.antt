use Rattle.std.proofs.Common.{refl}
use Rattle.syntax_upgrade.specs.Words.{seen}
use Rattle.syntax_upgrade.proofs.Own.{own_lead, own_text}
use Rattle.syntax_upgrade.proofs.split_name.alone.Goals as goal

pub returns : goal.returns
returns c = λ r.
    let b = c.args.braces in
    let t = seen c.args.token in
    rw (c.kind_in.ensures, c.begins_root.ensures, c.is_nothing.ensures, c.begins_root-2.ensures, c.is_nothing-2.ensures, own_text b t, own_lead r b t) refl
