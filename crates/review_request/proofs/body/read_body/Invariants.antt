use Rattle.std.proofs.Common.{◌≡◌, ◌-◌, ◌≤◌, vec_len}
use Rattle.review_request.specs.Taken.{TookAll}
use Rattle.review_request.proofs.body.read_body.Given as goal

abbrev pub invariant-more : goal.invariant-more
invariant-more g l = record {
  few : vec_len l.bytes ≤ l.length;
  took : TookAll l.bytes.items (g.C.Conn.link l.fn.conn) (g.C.Conn.link l.conn);
  calm : g.C.Conn.faults l.conn ≡ g.C.Conn.faults l.fn.conn;
}

abbrev pub decreases-more : goal.decreases-more
decreases-more g l = l.length - vec_len l.bytes
