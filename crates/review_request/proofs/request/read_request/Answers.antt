use Rattle.std.proofs.Common.{◌≡◌, ℕ, List, Option, Ok, Err, ap, sym, subst, ◌∙◌, arith}
use Rattle.std.proofs.lemmas.Result.{err_from_is_err_and}
use Rattle.review_request.proofs.ReadingLemmas.{body_cut, body_failed, head_refused, request_read}
use Rattle.review_request.specs.Reading.{FrameOf, HeadGives, Reading}
use Rattle.review_request.specs.declared.head_bytes.HeadEnd.TheVariants.{Cut}
use Rattle.review_request.proofs.request.read_request.Goals as goal

pub returns-in_err-frame-clause-reading : goal.returns-in_err-frame-clause-reading
returns-in_err-frame-clause-reading g c =
    let exit = err_from_is_err_and c.from_residual-in_err-frame.result c.from_residual-in_err-frame.ensures.1 in
    subst (Reading (g.C.Conn.link c.args.conn.now) (g.C.Conn.link c.read_head.new.conn)) (sym (exit.1 ∙ ap Err exit.2))
    (head_refused (g.C.Conn.link c.args.conn.now) (g.C.Conn.link c.read_head.new.conn) c.read_head.new.bytes.items
    c.in_ok-end.end c.in_err-frame.field-0.0 c.read_head.ensures.took (omega (arith, c.read_head.ensures.most, c.read_head.new.bytes.ok)) c.in_ok-end.ensures.cut
    (subst (λ b. FrameOf b (c.in_ok-end.end ≡ Cut) (Err c.in_err-frame.field-0.0)) c.as_slice.ensures.value c.in_err-frame.ensures))

pub returns-in_err-read_body-clause-reading : goal.returns-in_err-read_body-clause-reading
returns-in_err-read_body-clause-reading g c =
    let exit = err_from_is_err_and c.from_residual-in_err-read_body.result c.from_residual-in_err-read_body.ensures.1 in
    subst (Reading (g.C.Conn.link c.args.conn.now) (g.C.Conn.link c.read_body.new.conn)) (sym (exit.1 ∙ ap Err exit.2))
    (body_failed (g.C.Conn.link c.args.conn.now) (g.C.Conn.link c.read_head.new.conn) (g.C.Conn.link c.read_body.new.conn)
    c.read_head.new.bytes.items c.read_body.new.bytes.items c.in_ok-frame.frame c.in_err-read_body.field-0.0
    c.read_head.ensures.took (omega (arith, c.read_head.ensures.most, c.read_head.new.bytes.ok)) c.read_body.ensures.took
    (subst (λ b. HeadGives b (Ok c.in_ok-frame.frame)) c.as_slice.ensures.value c.in_ok-frame.ensures)
    (omega (arith, c.read_body.ensures.most, c.read_body.new.bytes.ok)))

pub returns-then-not-branch-clause-reading : goal.returns-then-not-branch-clause-reading
returns-then-not-branch-clause-reading g c =
    body_cut (g.C.Conn.link c.args.conn.now) (g.C.Conn.link c.read_head.new.conn) (g.C.Conn.link c.read_body.new.conn)
    c.read_head.new.bytes.items c.read_body.new.bytes.items c.in_ok-frame.frame c.read_head.ensures.took
    (omega (arith, c.read_head.ensures.most, c.read_head.new.bytes.ok)) c.read_body.ensures.took
    (subst (λ b. HeadGives b (Ok c.in_ok-frame.frame)) c.as_slice.ensures.value c.in_ok-frame.ensures)
    (omega (arith, c.in_ok-read_body.ensures.short c.if-not-branch.true, c.read_body.new.bytes.ok)) (c.in_ok-read_body.ensures.ended c.if-not-branch.true)

pub returns-clause-reading : goal.returns-clause-reading
returns-clause-reading g c =
    request_read (g.C.Conn.link c.args.conn.now) (g.C.Conn.link c.read_head.new.conn) (g.C.Conn.link c.read_body.new.conn)
    c.read_head.new.bytes.items c.in_ok-frame.frame
    (record { ask = c.in_ok-frame.frame.ask; owner = c.in_ok-frame.frame.owner; key = c.in_ok-frame.frame.key; body = c.read_body.new.bytes })
    c.read_head.ensures.took (omega (arith, c.read_head.ensures.most, c.read_head.new.bytes.ok)) c.read_body.ensures.took
    (subst (λ b. HeadGives b (Ok c.in_ok-frame.frame)) c.as_slice.ensures.value c.in_ok-frame.ensures)
    (ap (λ n. record { ask = c.in_ok-frame.frame.ask; owner = c.in_ok-frame.frame.owner; key = c.in_ok-frame.frame.key; length = n })
    (omega (arith, c.in_ok-read_body.ensures.whole c.if-not-branch.false, c.read_body.new.bytes.ok)))
