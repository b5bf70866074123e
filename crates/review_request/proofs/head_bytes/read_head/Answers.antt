use Rattle.std.proofs.Common.{arith}
use Rattle.review_request.proofs.ScanLemmas.{scan_open}
use Rattle.review_request.proofs.head_bytes.read_head.Goals as goal

pub returns-clause-end : goal.returns-clause-end
returns-clause-end g c =
    (omega arith, scan_open c.scan.bytes.items c.scan.scan.line c.scan.scan.begun c.scan.invariant.so_far)
