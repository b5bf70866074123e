use Rattle.std.proofs.Common.{◌≡◌, ap, ◌∙◌}
use Rattle.review_answers.specs.Answers.{answer_of}
use Rattle.review_http.proofs.ServeLemmas.{sent_whole}
use Rattle.review_http.proofs.serve.deliver.Goals as goal

pub returns-clause-sent : goal.returns-clause-sent
returns-clause-sent g c =
    sent_whole c.args.said.now.code c.args.said.now.body.items c.as_slice-2.result.now (g.C.Conn.link c.args.conn.now)
    (g.C.Conn.link c.write.new.self) c.number.result c.number.ensures
    (c.as_slice-2.ensures.value ∙ c.in_ok-bytes.ensures ∙ ap (answer_of c.args.said.now.code) c.as_slice.ensures.value)
    c.in_ok-write.ensures.written
