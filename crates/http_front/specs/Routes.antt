-- The paths of the wiki, each with its one method.
use Rattle.std.specs.Prelude.{ℕ, ◌==◌, List, [], ◌∷◌, codes, drop, fold, Option, option_map, Result, Ok, Err}
use Rattle.std.specs.Borrow.{Bor}
use Rattle.std.specs.List.{before_first}
use Rattle.matchit.specs.Rows.{RowsOf}
use Rattle.matchit.specs.Order.{placed}
use Rattle.matchit.specs.Seek.{first}
use Rattle.matchit.specs.Route.{Scan, parse_route}
use Rattle.matchit.specs.Router.{RouteOf, route_from}
use Rattle.matchit.specs.declared.error.InsertError.{InsertError}
use Rattle.http_front.specs.declared.goals.Verb.{Verb}
use Rattle.http_front.specs.declared.goals.Verb.TheVariants.{Get, Post}
use Rattle.http_front.specs.declared.goals.Goal.{Goal}
use Rattle.http_front.specs.declared.goals.Goal.TheVariants.{Index, NewWord, Line, Article, Session, Editor, EditorFile}
use Rattle.http_front.specs.declared.goals.OnArticle.TheVariants as on_article
use Rattle.http_front.specs.declared.goals.InSession.TheVariants as in_session

-- the paths, and what each is for
abbrev pub routes : List (List ℕ × Goal)
routes =
    (codes "/", Index)
    ∷ (codes "/word", NewWord)
    ∷ (codes "/article/{word}", Article on_article.Read)
    ∷ (codes "/article/{word}/add", Article on_article.Add)
    ∷ (codes "/article/{word}/edit", Article on_article.Edit)
    ∷ (codes "/article/{word}/remove", Article on_article.Remove)
    ∷ (codes "/article/{word}/retract", Article on_article.Retract)
    ∷ (codes "/article/{word}/reassert", Article on_article.Reassert)
    ∷ (codes "/article/{word}/open", Article on_article.Open)
    ∷ (codes "/session/{n}", Session in_session.Menu)
    ∷ (codes "/session/{n}/type", Session in_session.Type)
    ∷ (codes "/session/{n}/back", Session in_session.Back)
    ∷ (codes "/session/{n}/refresh", Session in_session.Refresh)
    ∷ (codes "/session/{n}/commit", Session in_session.Commit)
    ∷ (codes "/session/{n}/drop", Session in_session.Drop)
    ∷ (codes "/api", Line)
    ∷ (codes "/editor", Editor)
    ∷ (codes "/editor/{file}", EditorFile)
    ∷ []

-- a row of a table, as a path and what it is for
abbrev pub route_shown : Bor (List ℕ) × Goal → List ℕ × Goal
route_shown row = (row.0.now, row.1)

-- pages and files are got, and all else is posted
abbrev pub verb_of : Goal → Verb
verb_of Index = Get
verb_of (Article on_article.Read) = Get
verb_of (Session in_session.Menu) = Get
verb_of Editor = Get
verb_of EditorFile = Get
verb_of other = Post

abbrev pub verb_name : Verb → List ℕ
verb_name Get = codes "GET"
verb_name Post = codes "POST"

-- the rows of a router with one route more
abbrev pub with_scan : Goal → RowsOf (RouteOf Goal) → Result Scan InsertError → RowsOf (RouteOf Goal)
with_scan goal rows (Ok scan) = placed (scan.pattern, route_from scan goal) rows
with_scan goal rows (Err error) = rows

unfoldable pub with_route : RowsOf (RouteOf Goal) → List ℕ × Goal → RowsOf (RouteOf Goal)
with_route rows route = with_scan route.1 rows (parse_route route.0)

-- the router's rows of the paths
unfoldable pub table : RowsOf (RouteOf Goal)
table = fold with_route [] routes

-- what a path is for, if the wiki has it
unfoldable pub goal_at : List ℕ → Option Goal
goal_at path = option_map (λ route. route.value) (first table path)

-- the path of a request's target: what stands before a question mark
unfoldable pub path_of : List ℕ → List ℕ
path_of target = before_first (λ b. b == 63) target

-- the segment behind so many bytes
unfoldable pub segment_behind : ℕ → List ℕ → List ℕ
segment_behind front path = before_first (λ b. b == 47) (drop front path)

-- the segment behind `/article/` or `/session/`, which are equally long
unfoldable pub segment_of : List ℕ → List ℕ
segment_of path = segment_behind 9 path

-- the segment behind `/editor/`
unfoldable pub file_segment : List ℕ → List ℕ
file_segment path = segment_behind 8 path
