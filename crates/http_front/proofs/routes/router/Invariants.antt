use Rattle.std.proofs.Common.{◌≡◌, drop, map, fold}
use Rattle.http_front.specs.Routes.{route_shown, with_route, table}
use Rattle.http_front.proofs.routes.router.Given as goal

abbrev pub invariant-loop-row : goal.invariant-loop-row
invariant-loop-row l = fold with_route l.router (map route_shown (drop l.row-index l.rows)) ≡ table
