use Rattle.upgrade_core.proofs.Refusals.{refused}
use Rattle.upgrade_core.proofs.reading.tree_of.Goals as goal

pub returns-in_ok-refused-in-Err : goal.returns-in_ok-refused-in-Err
returns-in_ok-refused-in-Err c =
    refused c.args.bytes.items c.in-Err.fault c.requires c.in-Err.ensures.only c.in-Err.ensures.fault c.in_ok-refused-in-Err.ensures
