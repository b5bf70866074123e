use Rattle.std.proofs.Common.{◌≡◌, ◌++◌, length, take, drop, rules}
use Rattle.upgrade_cli.proofs.Slices.{written_back}
use Rattle.upgrade_cli.proofs.top.run.Goals as goal

pub returns-clause-fault : goal.returns-clause-fault
returns-clause-fault g c =
    let written : take c.args.sinks.now.len (c.run_into.new.sinks ++ drop (length c.run_into.new.sinks) c.args.sinks.now.items) ≡ c.run_into.new.sinks =
    written_back c.args.sinks.now.len c.run_into.new.sinks (drop (length c.run_into.new.sinks) c.args.sinks.now.items) (search rules) in
    λ e. rw written (rw c.as_mut_slice.ensures.value at (c.run_into.ensures.fault e))

pub returns-clause-fault_line : goal.returns-clause-fault_line
returns-clause-fault_line g c =
    let written : take c.args.sinks.now.len (c.run_into.new.sinks ++ drop (length c.run_into.new.sinks) c.args.sinks.now.items) ≡ c.run_into.new.sinks =
    written_back c.args.sinks.now.len c.run_into.new.sinks (drop (length c.run_into.new.sinks) c.args.sinks.now.items) (search rules) in
    rw written (rw c.as_mut_slice.ensures.value at c.run_into.ensures.fault_line)
