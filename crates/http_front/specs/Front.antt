-- The request of a connection's bytes (RFC 9112, with one request a connection and no transfer coding).
use Rattle.std.specs.Prelude.{◌≡◌, ◌==◌, ◌≤◌, ◌+◌, ◌<◌, ◌⊎◌, ◌||◌, ℕ, Bool, true, false, List, [], ◌∷◌, length, map, take, drop, if◌then◌else◌, nat_lt, Option, Some, None, option_map, IsTrue}
use Rattle.std.specs.Option.{option_map_or}
use Rattle.std.specs.Str.{bytes_eq}
use Rattle.httparse.specs.Grammar.{RequestHead, print_request, ReadsRequest, HasNoRequest, NeverHasRequest, MayBecomeRequest}
use Rattle.httparse.specs.Spans.{name_and_value, RequestOverflows, RequestExceeds}
use Rattle.editor_names.specs.Names.{file_named}
use Rattle.wiki_talk.specs.declared.requests.Request.{Request}
use Rattle.wire_json.specs.Told.{gives_line}
use Rattle.http_front.specs.declared.goals.Goal.{Goal}
use Rattle.http_front.specs.declared.goals.Goal.TheVariants.{Line, Article, Session, Editor, EditorFile}
use Rattle.http_front.specs.declared.seen.Then.{Then}
use Rattle.http_front.specs.declared.seen.Own.{Own}
use Rattle.http_front.specs.declared.seen.Own.TheVariants as own
use Rattle.http_front.specs.declared.seen.Seen.{Seen}
use Rattle.http_front.specs.declared.seen.Seen.TheVariants as seen
use Rattle.http_front.specs.declared.seen.Head.{Head}
use Rattle.http_front.specs.declared.seen.Begun.{Begun}
use Rattle.http_front.specs.declared.seen.Begun.TheVariants as begun
use Rattle.http_front.specs.declared.limits.TheConstants.{MOST_HEAD, MOST_BODY, MOST_FIELDS}
use Rattle.http_front.specs.Numbers.{short_number}
use Rattle.http_front.specs.Fields.{has_transfer_coding, is_bad_host, body_length, is_foreign}
use Rattle.http_front.specs.Routes.{verb_of, verb_name, goal_at, path_of, segment_of, file_segment}
use Rattle.http_front.specs.Forms.{decoded}
use Rattle.http_front.specs.Asked.{asked}

-- ---- the head

-- the response has this status, and tells no method
abbrev pub refused : ℕ → Begun
refused status = begun.Refuse status None

-- the word that a path for this names, of its segment
abbrev pub word_in : Goal → List ℕ → List ℕ
word_in (Article on_it) segment = decoded segment
word_in other segment = []

-- the session that a path for this names, if its segment is a number; 0 where it names none
abbrev pub session_in : Goal → List ℕ → Option ℕ
session_in (Session in_it) segment = short_number (decoded segment)
session_in other segment = Some 0

-- the file that a path for this names, if a file of the editor page has its name; the way to the page names none
abbrev pub own_in : Goal → List ℕ → Option (Option Own)
own_in Editor segment = Some (Some own.Way)
own_in EditorFile segment = option_map (λ file. Some (own.File file)) (file_named (decoded segment))
own_in other segment = Some None

-- the same where the session is known
unfoldable pub begun_in : Goal → List ℕ → ℕ → ℕ → ℕ → Begun
begun_in goal path session start length =
    option_map_or (λ answer. begun.Head (record {
      goal = goal;
      word = word_in goal (segment_of path);
      session = session;
      own = answer;
      start = start;
      length = length;
    }))
    (own_in goal (file_segment path)) (refused 404)

-- the head of a request for this, with its path, its number of bytes, and the length of its body
unfoldable pub begun_for : Goal → List ℕ → ℕ → ℕ → Begun
begun_for goal path start length =
    option_map_or (λ session. begun_in goal path session start length) (session_in goal (segment_of path)) (refused 400)

-- the method must be that of the path
unfoldable pub begun_by : Goal → List ℕ → List ℕ → ℕ → ℕ → Begun
begun_by goal method path start length =
    if bytes_eq method (verb_name (verb_of goal)) then begun_for goal path start length else begun.Refuse 405 (Some (verb_of goal))

-- the wiki must have the path
unfoldable pub begun_at : List ℕ → List ℕ → ℕ → ℕ → Begun
begun_at method path start length =
    option_map_or (λ goal. begun_by goal method path start length) (goal_at path) (refused 404)

-- the body must have one length, which isn't too great
unfoldable pub begun_with : List ℕ → List ℕ → ℕ → Option ℕ → Begun
begun_with method path start told =
    option_map_or (λ length. if nat_lt MOST_BODY length then refused 413 else begun_at method path start length) told (refused 400)

-- what a whole head is, of its method, its target, its version, its fields and its number of bytes: the refusals in their order
unfoldable pub begun_of : List ℕ → List ℕ → ℕ → List (List ℕ × List ℕ) → ℕ → Begun
begun_of method target minor fields start =
    if has_transfer_coding fields then refused 501 else (
    if is_bad_host minor fields then refused 400 else (
    if is_foreign method fields then refused 403 else
    begun_with method (path_of target) start (body_length fields)))

-- the bytes in which the head must end
abbrev pub head_part : List ℕ → List ℕ
head_part bytes = take MOST_HEAD bytes

-- how many of these bytes are newlines
abbrev pub newlines : List ℕ → ℕ
newlines [] = 0
newlines (b ∷ bytes) = (if b == 10 then 1 else 0) + newlines bytes

-- the byte is a carriage return or a newline
abbrev pub is_line_end : ℕ → Bool
is_line_end b = b == 13 || b == 10

-- these bytes from the first that is neither a carriage return nor a newline
abbrev pub after_blank : List ℕ → List ℕ
after_blank [] = []
after_blank (b ∷ bytes) = if is_line_end b then after_blank bytes else b ∷ bytes

-- these bytes begin a head that has too many fields however they go on, and that many lines have come
abbrev pub HasTooManyFields : List ℕ → Type 0
HasTooManyFields bytes = RequestOverflows MOST_FIELDS bytes × RequestExceeds MOST_FIELDS bytes × (MOST_FIELDS + 2 ≤ newlines (after_blank bytes))

-- however they go on, these bytes begin with no head, or a head that they begin has too many fields
abbrev pub IsNoHead : List ℕ → Type 0
IsNoHead bytes = NeverHasRequest bytes ⊎ HasTooManyFields bytes

-- these bytes begin with no head yet, but may when they go on, and fewer lines of it have come than make too many fields
abbrev pub IsHalfHead : List ℕ → Type 0
IsHalfHead bytes = HasNoRequest bytes × MayBecomeRequest bytes × (newlines (after_blank bytes) < MOST_FIELDS + 2)

-- where half a head has come, more is waited for unless there are too many bytes already
abbrev pub half_begun : ℕ → Begun
half_begun come = if nat_lt come MOST_HEAD then begun.Wait else refused 413

-- these bytes begin with a head that has at most 64 fields
abbrev pub BeginsWith : RequestHead → List ℕ → Type 0
BeginsWith head bytes = ReadsRequest bytes head (drop (length (print_request head)) bytes) × (length head.fields ≤ MOST_FIELDS)

-- what a head of the grammar is
abbrev pub begun_by_head : RequestHead → Begun
begun_by_head head = begun_of head.method head.target head.minor (map name_and_value head.fields) (length (print_request head))

-- what the bytes of a connection are as a head
abbrev pub Begins : List ℕ → Begun → Type 0
Begins bytes begun =
    (IsNoHead (head_part bytes) × (begun ≡ refused 400))
    ⊎ ((IsHalfHead (head_part bytes) × (begun ≡ half_begun (length bytes)))
    ⊎ ((head : RequestHead) × BeginsWith head (head_part bytes) × (begun ≡ begun_by_head head)))

-- ---- the request

-- a line that is no request has a page of its own
abbrev pub is_line : Goal → Bool
is_line Line = true
is_line other = false

-- the request that a body is, if it is one
abbrev pub seen_of : Goal → Option (Request × Then) → Seen
seen_of goal None = seen.Refuse 400 None (is_line goal)
seen_of goal (Some request) = seen.Ask request.0 request.1

-- the request with a head and a body: the program answers it by itself, or the wiki is asked
abbrev pub seen_with : Option Own → Head → List ℕ → Seen
seen_with (Some answer) head body = seen.Own answer
seen_with None head body = seen_of head.goal (asked head.goal head.word head.session body)

-- the request with a head, of the connection's bytes: it waits until the whole body is there, and what comes after isn't looked at
unfoldable pub seen_after : Head → List ℕ → Seen
seen_after head bytes =
    if nat_lt (length bytes) head.start then seen.Wait else (
    if nat_lt (length (drop head.start bytes)) head.length then seen.Wait else
    seen_with head.own head (take head.length (drop head.start bytes)))

-- what the bytes are, of what they are as a head
abbrev pub seen_by : Begun → List ℕ → Seen
seen_by begun.Wait bytes = seen.Wait
seen_by (begun.Refuse status allow) bytes = seen.Refuse status allow false
seen_by (begun.Head head) bytes = seen_after head bytes

-- what the bytes of a connection are: wait, a refusal, or a request with its response
abbrev pub Sees : List ℕ → Seen → Type 0
Sees bytes seen = (begun : Begun) × Begins bytes begun × (seen ≡ seen_by begun bytes)

-- if what the bytes ask for is a grammar, its line isn't too long
abbrev pub AsksInLine : Seen → Type 0
AsksInLine (seen.Ask request answer) = IsTrue (gives_line request)
AsksInLine other = Unit {0}
