use Rattle.std.proofs.Common.{◌≡◌, ◌-◌, ◌≤◌, vec_len}
use Rattle.review_request.proofs.ScanLemmas.{ScannedTo}
use Rattle.review_request.specs.Taken.{TookAll}
use Rattle.review_request.proofs.head_bytes.read_head.Given as goal

abbrev pub invariant-scan : goal.invariant-scan
invariant-scan g l = record {
  few : vec_len l.bytes ≤ 16384;
  took : TookAll l.bytes.items (g.C.Conn.link l.fn.conn) (g.C.Conn.link l.conn);
  calm : g.C.Conn.faults l.conn ≡ g.C.Conn.faults l.fn.conn;
  so_far : ScannedTo l.bytes.items l.scan.line l.scan.begun;
}

abbrev pub decreases-scan : goal.decreases-scan
decreases-scan g l = 16384 - vec_len l.bytes
