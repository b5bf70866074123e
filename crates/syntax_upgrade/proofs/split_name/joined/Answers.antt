use Rattle.std.proofs.Common.{refl}
use Rattle.syntax_upgrade.specs.Words.{seen}
use Rattle.syntax_upgrade.proofs.Own.{one_nothing, one_root, own_lead}
use Rattle.syntax_upgrade.proofs.split_name.joined.Goals as goal

pub returns : goal.returns
returns c = λ r h b e.
    let t = seen c.args.token in
    rw (
      c.in_ok-more.ensures,
      c.is_rooted.ensures,
      c.is_empty.ensures,
      c.begins_root.ensures,
      c.is_nothing-empty.ensures,
      c.begins_root-2.ensures,
      c.is_nothing.ensures,
      one_root r b t h.token,
      one_nothing r b t h.token,
      own_lead r b t,
      e,
    ) refl
