-- Steps of the table of paths, and of paths.
use Rattle.std.proofs.Common.{◌≡◌, inl, inr, ℕ, ◌<◌, List, [], length, take, ap, ◌∙◌, arith, take_all, Bor, Option, None, Some, MatchOption, Result, Ok, Err}
use Rattle.std.specs.Prelude.{◌==◌}
use Rattle.std.specs.List.{position_or_len, before_first, after_first}
use Rattle.std.proofs.lemmas.List.{drop_all}
use Rattle.matchit.specs.Rows.{RowsOf}
use Rattle.matchit.specs.Route.{Scan, parse_route}
use Rattle.matchit.specs.Router.{RouteOf, InsertsRead}
use Rattle.matchit.specs.declared.error.InsertError.{InsertError}
use Rattle.http_front.specs.declared.goals.Goal.{Goal}
use Rattle.http_front.specs.Routes.{with_scan, with_route, segment_behind}

inserted_by : (parsed : Result Scan InsertError) (goal : Goal) (old new : RowsOf (RouteOf Goal)) (u : Unit {0}) → InsertsRead parsed goal old new (Ok u)
    → new ≡ with_scan goal old parsed
inserted_by (Ok scan) goal old new u h = h.1
inserted_by (Err error) goal old new u (same, inl e) = cc
inserted_by (Err error) goal old new u (same, inr e) = cc

-- a route that was put into the router is one more of the table
pub inserted : (path : List ℕ) (goal : Goal) (old new : RowsOf (RouteOf Goal)) (u : Unit {0}) → InsertsRead (parse_route path) goal old new (Ok u)
    → new ≡ with_route old (path, goal)
unfolding with_route
inserted path goal old new u h = inserted_by (parse_route path) goal old new u h

-- a path that is too short has no segment
pub short_segment : (front : ℕ) (path : List ℕ) → length path < front → segment_behind front path ≡ []
unfolding segment_behind
short_segment front path h = ap (before_first (λ b. b == 47)) (drop_all front path (omega (arith, h)))

-- what stands before the first question mark
pub cut_cases : (text : List ℕ) (r : Option (Bor (List ℕ) × Bor (List ℕ))) → MatchOption r (position_or_len (λ b. b == 63) text ≡ length text)
    (λ x. (position_or_len (λ b. b == 63) text < length text) × (x.0.now ≡ before_first (λ b. b == 63) text) × (x.1.now ≡ after_first (λ b. b == 63) text))
    → MatchOption r (before_first (λ b. b == 63) text ≡ text) (λ x. x.0.now ≡ before_first (λ b. b == 63) text)
cut_cases text None h = ap (λ n. take n text) h ∙ take_all (length text) text (omega arith)
cut_cases text (Some x) h = h.1
