-- The routes, put in one after another.
use Rattle.std.proofs.Common.{◌≡◌, ℕ, List, [], Result, Ok, Err, ap, ◌∙◌, refl, codes}
use Rattle.matchit.specs.Route.{Scan, parse_route}
use Rattle.matchit.specs.Router.{InsertsRead, RouteOf}
use Rattle.matchit.specs.Rows.{RowsOf}
use Rattle.matchit.specs.declared.error.InsertError.{InsertError}
use Rattle.review_request.specs.Routes.{routes, with_read, with_route}
use Rattle.review_request.specs.declared.route.Route.{Route}
use Rattle.review_request.specs.declared.route.Route.TheVariants.{Jobs, Job, File, Reports, Report, Close}

abbrev Rows : Type 0
Rows = RowsOf (RouteOf Route)

-- one route more
one_more : (read : Result Scan InsertError) (route : Route) (old new : Rows) → InsertsRead read route old new (Ok tt)
    → new ≡ with_read read route old
one_more (Ok scan) route old new p = p.1
one_more (Err e) route old new p = p.0

next : (text : List ℕ) (route : Route) (old new before : Rows) → old ≡ before
    → InsertsRead (parse_route text) route old new (Ok tt) → new ≡ with_route text route before
next text route old new before e p = one_more (parse_route text) route old new p ∙ ap (λ rows. with_route text route rows) e

pub six_routes : (none a b c d e f : Rows) → none ≡ []
    → InsertsRead (parse_route (codes "/jobs")) Jobs none a (Ok tt)
    → InsertsRead (parse_route (codes "/jobs/{job}")) Job a b (Ok tt)
    → InsertsRead (parse_route (codes "/jobs/{job}/files/{n}")) File b c (Ok tt)
    → InsertsRead (parse_route (codes "/jobs/{job}/reports")) Reports c d (Ok tt)
    → InsertsRead (parse_route (codes "/jobs/{job}/reports/{n}")) Report d e (Ok tt)
    → InsertsRead (parse_route (codes "/jobs/{job}/close")) Close e f (Ok tt)
    → f ≡ routes
unfolding routes
six_routes none a b c d e f p q1 q2 q3 q4 q5 q6 =
    next (codes "/jobs/{job}/close") Close e f _
    (next (codes "/jobs/{job}/reports/{n}") Report d e _
    (next (codes "/jobs/{job}/reports") Reports c d _
    (next (codes "/jobs/{job}/files/{n}") File b c _
    (next (codes "/jobs/{job}") Job a b _
    (next (codes "/jobs") Jobs none a [] p q1) q2) q3) q4) q5) q6
