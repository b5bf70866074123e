use Rattle.std.proofs.Common.{◌≡◌, ◌≤◌}
use Rattle.review_serving.specs.Turns.{HasServed, IsAnswered}
use Rattle.review_serving.proofs.serving.serve.Given as goal

abbrev pub invariant-loop-turn : goal.invariant-loop-turn
invariant-loop-turn g l =
    HasServed (IsAnswered g.L.Link.Conn.link g.L.Link.Conn.faults g.S.Service.answers) l._turn l.faults
    (g.L.Listener.given l.initial.listener) (g.L.Listener.given l.listener) l.initial.service l.service l.initial.keeper l.keeper
    × (g.L.Listener.faults l.listener ≡ g.L.Listener.faults l.initial.listener)
    × (l.faults ≤ l._turn)
