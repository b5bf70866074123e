use Rattle.std.proofs.Common.{refl}
use Rattle.conn_ports.specs.Given.{Ended}
use Rattle.review_serving.proofs.TurnLemmas.{refused_told, turn_told}
use Rattle.review_serving.proofs.serving.answer_next.Goals as goal

pub returns-in-Err-clause-turn : goal.returns-in-Err-clause-turn
returns-in-Err-clause-turn g c = (
  refused_told (g.L.Listener.given c.args.listener.now) (g.L.Listener.given c.next.new.self) c.in-Err.ensures.told,
  refl,
  refl,
)

pub returns-clause-turn : goal.returns-clause-turn
returns-clause-turn g c =
    let e : Ended = record {
      link = g.L.Link.Conn.link c.answer.new.conn;
      faults = g.L.Link.Conn.faults c.answer.new.conn;
    } in (
      e,
      record {
        before = c.in-Ok.conn;
        after = c.answer.new.conn;
        came = c.answer.result;
        calm = c.in-Ok.ensures.calm;
        fresh = c.in-Ok.ensures.fresh;
        answer = c.answer.ensures;
        is = c.is_err-failed.ensures.value;
        back = refl;
      },
      turn_told c.in-Ok.conn e (g.L.Listener.given c.args.listener.now) (g.L.Listener.given c.next.new.self)
          (g.L.Listener.given c.ended.new.self) c.in-Ok.ensures.told c.ended.ensures.told,
    )
