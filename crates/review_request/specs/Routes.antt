-- The six routes, and what a path asks for: the route that `matchit` by its definition finds, with the path's numbers.
use Rattle.std.specs.Prelude.{ℕ, zero, suc, ◌==◌, Bool, List, [], codes, Option, None, Some, Result, Ok, Err, option_and_then}
use Rattle.std.specs.List.{before_first, after_first}
use Rattle.std.specs.Option.{option_map}
use Rattle.matchit.specs.Order.{placed}
use Rattle.matchit.specs.Route.{Scan, parse_route}
use Rattle.matchit.specs.Router.{RouteOf, route_from}
use Rattle.matchit.specs.Rows.{RowsOf}
use Rattle.matchit.specs.Seek.{first}
use Rattle.matchit.specs.declared.error.InsertError.{InsertError}
use Rattle.review_request.specs.Numbers.{path_number}
use Rattle.review_request.specs.declared.route.Ask.{Ask}
use Rattle.review_request.specs.declared.route.Ask.TheVariants as ask
use Rattle.review_request.specs.declared.route.Route.{Route}
use Rattle.review_request.specs.declared.route.Route.TheVariants.{Jobs, Job, File, Reports, Report, Close}

-- the routes with one more, which reads as this
abbrev pub with_read : Result Scan InsertError → Route → RowsOf (RouteOf Route) → RowsOf (RouteOf Route)
with_read (Ok scan) route rows = placed (scan.pattern, route_from scan route) rows
with_read (Err e) route rows = rows

abbrev pub with_route : List ℕ → Route → RowsOf (RouteOf Route) → RowsOf (RouteOf Route)
with_route text route rows = with_read (parse_route text) route rows

-- the routes
unfoldable pub routes : RowsOf (RouteOf Route)
routes =
    with_route (codes "/jobs/{job}/close") Close
    (with_route (codes "/jobs/{job}/reports/{n}") Report
    (with_route (codes "/jobs/{job}/reports") Reports
    (with_route (codes "/jobs/{job}/files/{n}") File
    (with_route (codes "/jobs/{job}") Job
    (with_route (codes "/jobs") Jobs [])))))

abbrev pub is_slash : ℕ → Bool
is_slash b = b == 47

-- what stands behind so many slashes of a path, up to the next one
abbrev pub part : ℕ → List ℕ → List ℕ
part zero path = before_first is_slash path
part (suc n) path = part n (after_first is_slash path)

-- what a route asks for, by the number of the job and the number of the file or report
abbrev pub ask_by : Route → Option ℕ → Option ℕ → Option Ask
ask_by Jobs job n = Some ask.Add
ask_by Job job n = option_map (λ j. ask.Head j) job
ask_by Reports job n = option_map (λ j. ask.Reports j) job
ask_by Close job n = option_map (λ j. ask.Close j) job
ask_by File job n = option_and_then (λ j. option_map (λ k. ask.File j k) n) job
ask_by Report job n = option_and_then (λ j. option_map (λ k. ask.Judge j k) n) job

-- what a route asks for, with the numbers of this path
abbrev pub ask_in : List ℕ → Route → Option Ask
ask_in path route = ask_by route (path_number (part 2 path)) (path_number (part 4 path))

-- what a path asks for, if it has a route
abbrev pub ask_at : List ℕ → Option Ask
ask_at path = option_and_then (λ found. ask_in path found.value) (first routes path)
