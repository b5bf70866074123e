use Rattle.review_request.proofs.RouteLemmas.{six_routes}
use Rattle.review_request.proofs.route.routes.Goals as goal

pub returns : goal.returns
returns c =
    six_routes c.new-router.result c.insert.new.self c.insert-2.new.self c.insert-3.new.self c.insert-4.new.self
    c.insert-5.new.self c.insert-6.new.self c.new-router.ensures c.in_ok-insert.ensures c.in_ok-insert-2.ensures
    c.in_ok-insert-3.ensures c.in_ok-insert-4.ensures c.in_ok-insert-5.ensures c.in_ok-insert-6.ensures
