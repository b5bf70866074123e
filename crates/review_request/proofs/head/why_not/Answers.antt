use Rattle.std.proofs.Common.{arith, length}
use Rattle.review_request.proofs.HeadLemmas.{bad_head, long_head}
use Rattle.review_request.proofs.head.why_not.Goals as goal

pub returns-in-Some : goal.returns-in-Some
returns-in-Some c =
    long_head c.args.bytes.now c.whole_head.new.headers c.in-Some._spans c.in-Some.ensures c.requires.many

pub returns-in-None : goal.returns-in-None
returns-in-None c =
    bad_head c.args.bytes.now (length c.as_mut_slice.result.now) c.whole_head.new.headers
    (omega (arith, c.in_ok-headers.ensures.len, c.as_mut_slice.ensures.len)) c.in-None.ensures
