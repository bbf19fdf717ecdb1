-- What is known of a head that was read, and that it is read again in what comes later.
use Rattle.std.proofs.Common.{◌≡◌, ℕ, zero, suc, ◌+◌, ◌<◌, ◌≤◌, List, [], ◌∷◌, ◌++◌, Bool, true, false, length, take, drop, map, refl, sym, ap, ◌∙◌, subst, arith, inl, inr, Option, Ok, take_all}
use Rattle.std.proofs.lemmas.List.{length-map, length-take-le}
use Rattle.std.proofs.lemmas.Bool.{cases_lt}
use Rattle.matchit.proofs.ConflictLemmas.{head-of, tail-of}
use Rattle.std.specs.Prelude.{if◌then◌else◌, nat_lt, IsUtf8}
use Rattle.httparse.specs.declared.spans.HeaderSpan.{HeaderSpan}
use Rattle.httparse.specs.declared.spans.RequestSpans.{RequestSpans}
use Rattle.httparse.specs.Grammar.{RequestHead, print_request, ReadsRequest, HasNoRequest, NeverHasRequest, MayBecomeRequest}
use Rattle.httparse.specs.Spans.{span_bytes, header_bytes, name_and_value, IsRequestWithin, IsRequestAt, IsRequestOf, RequestOverflows, RequestExceeds}
use Rattle.httparse.specs.declared.Status.{Status}
use Rattle.httparse.specs.declared.Status.TheVariants.{Complete, Partial}
use Rattle.httparse.specs.Outcome.{IfComplete, OnPartial}
use Rattle.http_front.specs.declared.seen.Head.{Head}
use Rattle.http_front.specs.declared.goals.Verb.{Verb}
use Rattle.http_front.specs.declared.seen.Seen.{Seen}
use Rattle.http_front.specs.declared.seen.Seen.TheVariants as seen
use Rattle.http_front.specs.declared.seen.Begun.{Begun}
use Rattle.http_front.specs.declared.seen.Begun.TheVariants as begun
use Rattle.http_front.specs.declared.limits.TheConstants.{MOST_HEAD, MOST_FIELDS}
use Rattle.http_front.specs.Front.{refused, half_begun, begun_of, begun_by_head, head_part, newlines, after_blank, IsNoHead, IsHalfHead, BeginsWith, Begins, Sees, seen_after}
use Rattle.http_front.proofs.ExceedLemmas.{exceeds_newlines}
use Rattle.http_front.proofs.LineLemmas.{many_fields}

-- so few bytes are all of the bytes in which the head must end
pub short_part : (bytes : List ℕ) → length bytes ≤ MOST_HEAD → bytes ≡ head_part bytes
short_part bytes h = sym (take_all MOST_HEAD bytes h)

-- the spans of a head say what the head says
begun_same : (part : List ℕ) (headers : List HeaderSpan) (r : RequestSpans) (h : RequestHead) → IsRequestAt part headers r h
    → begun_of (span_bytes part r.method) (span_bytes part r.path) r.version (map (header_bytes part) (take r.headers headers)) r.len ≡ begun_by_head h
begun_same part headers r h at =
    let fields = map (header_bytes part) (take r.headers headers) in
    ap (λ x. begun_of x (span_bytes part r.path) r.version fields r.len) at.method
    ∙ ap (λ x. begun_of h.method x r.version fields r.len) at.path
    ∙ ap (λ x. begun_of h.method h.target x fields r.len) at.version
    ∙ ap (λ x. begun_of h.method h.target h.minor x r.len) at.fields
    ∙ ap (λ x. begun_of h.method h.target h.minor (map name_and_value h.fields) x) at.len

fields_fit : (part : List ℕ) (headers : List HeaderSpan) (r : RequestSpans) (h : RequestHead) → IsRequestAt part headers r h → r.headers ≤ length headers
    → length h.fields ≤ length headers
fields_fit part headers r h at fits =
    let same = ap length at.fields in
    omega (
      arith,
      fits,
      same,
      length-map (take r.headers headers) (header_bytes part),
      length-map h.fields name_and_value,
      length-take-le r.headers headers fits,
    )

whole_by : (bytes part : List ℕ) (headers : List HeaderSpan) (r : RequestSpans) (begun : Begun) → part ≡ head_part bytes → length headers ≡ MOST_FIELDS
    → IsRequestWithin part headers r → (whole : IsRequestOf part headers r)
    → begun ≡ begun_by_head whole.0 → Begins bytes begun
whole_by bytes part headers r begun is room within (h, at) told =
    let fits = fields_fit part headers r h at within.section.count_fits in
    let reads : ReadsRequest part h (drop (length (print_request h)) part) = subst (λ n. ReadsRequest part h (drop n part)) at.len at.reads in
    let begins : BeginsWith h part = (reads, omega (arith, fits, room)) in
    inr (inr (h, subst (BeginsWith h) is begins, told))

-- the spans of a whole head were told
pub begins_whole : (bytes part method target : List ℕ) (headers spans : List HeaderSpan) (r : RequestSpans) (begun : Begun) → part ≡ head_part bytes
    → length headers ≡ MOST_FIELDS → spans ≡ take r.headers headers
    → method ≡ span_bytes part r.method → target ≡ span_bytes part r.path → IsRequestWithin part headers r → IsRequestOf part headers r
    → begun ≡ begun_of method target r.version (map (header_bytes part) spans) r.len → Begins bytes begun
begins_whole bytes part method target headers spans r begun is room cut by at within whole told =
    let same =
    ap (λ x. begun_of x target r.version (map (header_bytes part) spans) r.len) by
    ∙ ap (λ x. begun_of (span_bytes part r.method) x r.version (map (header_bytes part) spans) r.len) at
    ∙ ap (λ x. begun_of (span_bytes part r.method) (span_bytes part r.path) r.version (map (header_bytes part) x) r.len) cut in
    whole_by bytes part headers r begun is room within whole (told ∙ same ∙ begun_same part headers r whole.0 whole.1)

-- what holds of an answer that is complete
pub of_complete : {A : Type 0} (E : Type 0) (P : A → Type 0) (s : Status A) (x : A) → s ≡ Complete x → IfComplete {A = A} {E = E} (Ok s) P → P x
of_complete {A} E P s x is h = subst (λ t. IfComplete {A = A} {E = E} (Ok t) P) is h

-- what holds of an answer that isn't
pub of_partial : {A : Type 0} (E : Type 0) (P : Type 0) (s : Status A) → s ≡ Partial → OnPartial {A = A} {E = E} (Ok s) P → P
of_partial {A} E P s is h = subst (λ t. OnPartial {A = A} {E = E} (Ok t) P) is h

-- a target that was read is a text
pub target_text : (part target : List ℕ) (headers : List HeaderSpan) (r : RequestSpans) → target ≡ span_bytes part r.path → IsRequestOf part headers r
    → IsUtf8 target
target_text part target headers r at whole = subst IsUtf8 (sym (at ∙ whole.1.path)) whole.1.reads.0.target_text

-- no whole head has come: half of one, or one with too many fields
pub begins_part : (bytes part : List ℕ) (begun : Begun) → part ≡ head_part bytes → HasNoRequest part → MayBecomeRequest part
    → (MOST_FIELDS + 2 ≤ newlines (after_blank part) → begun ≡ refused 400)
    → (newlines (after_blank part) < MOST_FIELDS + 2 → begun ≡ half_begun (length bytes))
    → Begins bytes begun
begins_part bytes part begun is none may many few =
    elim (cases_lt (newlines (after_blank part)) (MOST_FIELDS + 2)) [
      | inl lines ↦ inr (inl (subst IsHalfHead is (none, may, lines), few lines))
      | inr lines ↦ inl (subst IsNoHead is (inr (many_fields part none may lines)), many lines)
    ]

pub begins_never : (bytes part : List ℕ) (begun : Begun) → part ≡ head_part bytes → NeverHasRequest part → begun ≡ refused 400 → Begins bytes begun
begins_never bytes part begun is never told = inl (subst IsNoHead is (inl never), told)

pub begins_exceeds : (bytes part : List ℕ) (begun : Begun) → part ≡ head_part bytes → RequestOverflows MOST_FIELDS part → RequestExceeds MOST_FIELDS part
    → begun ≡ refused 400 → Begins bytes begun
begins_exceeds bytes part begun is overflows exceeds told = inl (subst IsNoHead is (inr (overflows, exceeds, exceeds_newlines MOST_FIELDS part exceeds)), told)

-- a prefix of the first bytes stays one when more bytes come
pub prefix_stays : (n : ℕ) (bytes more front rest : List ℕ) → take n bytes ≡ front ++ rest
    → take n (bytes ++ more) ≡ front ++ drop (length front) (take n (bytes ++ more))
prefix_stays n bytes more [] rest h = refl
prefix_stays zero bytes more (x ∷ front) rest h = cc
prefix_stays (suc n) [] more (x ∷ front) rest h = cc
prefix_stays (suc n) (b ∷ bytes) more (x ∷ front) rest h =
    let head : b ≡ x = head-of b x (take n bytes) (front ++ rest) h in
    let tail : take n bytes ≡ front ++ rest = tail-of b x (take n bytes) (front ++ rest) h in
    ap (λ y. y ∷ take n (bytes ++ more)) head ∙ ap (λ ys. x ∷ ys) (prefix_stays n bytes more front rest tail)

no_half : (b : Bool) (head : Head) → begun.Head head ≡ (if b then begun.Wait else refused 413) → ⊥
no_half true head h = cc
no_half false head h = cc

pub begins_on : (bytes more : List ℕ) (head : Head) → Begins bytes (begun.Head head) → Begins (bytes ++ more) (begun.Head head)
begins_on bytes more head (inl refuses) = cc
begins_on bytes more head (inr (inl half)) = absurd (no_half (nat_lt (length bytes) MOST_HEAD) head half.1)
begins_on bytes more head (inr (inr whole)) =
    let h = whole.0 in
    inr (inr (h, ((whole.1.0.0, prefix_stays MOST_HEAD bytes more (print_request h) _ whole.1.0.1), whole.1.1), whole.2))

-- with a head that was read before, the bytes of a connection are what they are without
pub sees_on : (bytes more : List ℕ) (head : Head) → Begins bytes (begun.Head head) → Sees (bytes ++ more) (seen_after head (bytes ++ more))
sees_on bytes more head begins = (begun.Head head, begins_on bytes more head begins, refl)

pub sees_same : (before more bytes : List ℕ) (head : Head) (seen : Seen) → Begins before (begun.Head head) → bytes ≡ before ++ more
    → seen ≡ seen_after head bytes → Sees bytes seen
sees_same before more bytes head seen begins is told =
    subst (Sees bytes) (sym told) (subst (λ bs. Sees bs (seen_after head bs)) (sym is) (sees_on before more head begins))

pub sees_wait : (bytes : List ℕ) → Begins bytes begun.Wait → Sees bytes seen.Wait
sees_wait bytes begins = (begun.Wait, begins, refl)

pub sees_refusal : (bytes : List ℕ) (status : ℕ) (allow : Option Verb) → Begins bytes (begun.Refuse status allow) → Sees bytes (seen.Refuse status allow false)
sees_refusal bytes status allow begins = (begun.Refuse status allow, begins, refl)

pub sees_head : (bytes : List ℕ) (head : Head) (seen : Seen) → Begins bytes (begun.Head head) → seen ≡ seen_after head bytes → Sees bytes seen
sees_head bytes head seen begins told = (begun.Head head, begins, told)
