use Rattle.std.proofs.Common.{◌≡◌, subst}
use Rattle.review_request.specs.Head.{IsParsed}
use Rattle.review_request.specs.HeadBytes.{IsHeadEnd}
use Rattle.review_request.proofs.ReadingLemmas.{frame_said}
use Rattle.review_request.specs.declared.head_bytes.HeadEnd.TheVariants.{Cut}
use Rattle.review_request.proofs.frame.frame_of.Goals as goal

pub returns-in_ok-head-in-Ended : goal.returns-in_ok-head-in-Ended
returns-in_ok-head-in-Ended c =
    frame_said c.args.bytes.now (c.args.end ≡ Cut) c.in_ok-head-in-Ended.head c.frame_in.result
    (subst (IsHeadEnd c.args.bytes.now) c.in-Ended.is c.requires.end)
    (subst (IsParsed c.args.bytes.now) c.in_ok-head-in-Ended.was c.in_ok-parse_head-in-Ended.ensures)
    c.frame_in.ensures
