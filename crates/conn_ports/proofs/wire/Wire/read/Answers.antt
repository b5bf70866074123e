use Rattle.std.proofs.Common.{arith}
use Rattle.std.proofs.lemmas.Grind.{common_steps}
use Rattle.conn_ports.proofs.WireLemmas.{reads_piece}
use Rattle.conn_ports.proofs.wire.Wire.read.Goals as goal

pub returns-clause-read : goal.returns-clause-read
returns-clause-read c =
    reads_piece c.args.max c.args.self.now.at c.min-count.result c.args.self.now.input.items c.args.self.now.written.items
    c.args.into.now.items c.extend_from_slice.new.self.items
    (omega arith) (omega arith) (λ none. omega (arith, none)) (grind (arith, common_steps))
