-- What a session sees of a wiki with a history is a function of what it hears.
use Rattle.std.proofs.Common.{◌≡◌, ℕ, ◌≤◌, List, [], ◌∷◌, ◌++◌, map, Option, Some, None, option_map, refl, sym, ap, subst, ◌∙◌, arith}
use Rattle.std.specs.List.{flat_map}
use Rattle.std.specs.Option.{option_map_or}
use Rattle.codeco_terms.specs.GrammarParts.{GrammarParts}
use Rattle.plain_wiki.specs.Sessions.{PlainSession}
use Rattle.wiki_talk.specs.declared.replies.Reply.{Reply}
use Rattle.wiki_talk.specs.declared.replies.Reply.TheVariants as replies
use Rattle.wiki_talk.specs.declared.requests.Request.{Request}
use Rattle.wiki_talk.specs.declared.requests.Request.TheVariants as requests
use Rattle.wiki_talk.specs.declared.requests.ArticleRequest.TheVariants as of_article
use Rattle.wiki_talk.specs.declared.requests.LineRequest.{LineRequest}
use Rattle.wiki_talk.specs.declared.requests.LineRequest.TheVariants as lines
use Rattle.wiki_talk.specs.Turns.{Exchange, answered, no_request, Turns}
use Rattle.plain_wiki.specs.State.{State, first_state}
use Rattle.plain_wiki.specs.Places.{session_numbered}
use Rattle.plain_wiki.specs.Step.{Step}
use Rattle.wiki_parts.specs.Spending.{IsCutOff}
use Rattle.wiki_core.specs.Holding.{Holding, first_holding}
use Rattle.wiki_core.specs.Stepping.{KeptStep}
use Rattle.wiki_core.specs.Apart as apart
use Rattle.wiki_core.proofs.SeenLemmas.{Own, own, own_of, RiseTo}
use Rattle.wiki_core.proofs.HearLemmas.{Seen, Follows, seen_is, follows_one, follows_append}
use Rattle.wiki_core.proofs.RunLemmas.{seen, shared_is, IsApt, begin_shows}
use Rattle.wiki_core.proofs.ApartLemmas.{open_step, before_step, none_seen, none_follows, opens_by, tokens_seen}
use Rattle.turning.specs.Turning.{Recalling, without_history, KeptTurn}
use Rattle.turning.specs.Laws.{IsRun, exchange_of, exchanges_of, TokensAreOwn}
use Rattle.turning.proofs.MoveLemmas.{KeepsSessions, keeps_same, moved}

-- ---- runs as sessions hear them

-- a request is one step with some budget, and what is no request leaves the grammar, the words and the sessions
abbrev HearTurn : State → Exchange Request Reply → State → Type 0
HearTurn old (answered request reply) new = (budget : ℕ) × Step (IsCutOff budget) old request reply new
HearTurn old no_request new = KeepsSessions old new

abbrev HearTurns : State → List (Exchange Request Reply) → State → Type 0
HearTurns first [] last = last ≡ first
HearTurns first (exchange ∷ exchanges) last = (next : State) × HearTurn first exchange next × HearTurns next exchanges last

hear_lines : (of_lines : List (Exchange LineRequest Reply)) (first last : Recalling) → Turns KeptTurn first of_lines last
    → HearTurns first.wiki.state (map exchange_of of_lines) last.wiki.state
hear_lines [] first last turns = ap (λ (r : Recalling). r.wiki.state) turns
hear_lines (answered (lines.Step request) reply ∷ of_lines) first last (next, turn, turns) =
    (next.wiki.state, (first.wiki.budget, turn.0.step), hear_lines of_lines next last turns)
hear_lines (answered lines.Undo reply ∷ of_lines) first last (next, turn, turns) = (
  next.wiki.state,
  moved first.wiki first.past first.future replies.Undo reply next.wiki next.past next.future turn,
  hear_lines of_lines next last turns,
)
hear_lines (answered lines.Redo reply ∷ of_lines) first last (next, turn, turns) = (
  next.wiki.state,
  moved first.wiki first.future first.past replies.Redo reply next.wiki next.future next.past turn,
  hear_lines of_lines next last turns,
)
hear_lines (no_request ∷ of_lines) first last (next, same, turns) = (
  next.wiki.state,
  keeps_same first.wiki.state next.wiki.state (ap (λ (r : Recalling). r.wiki.state) same),
  hear_lines of_lines next last turns,
)

hear_steps : (more : List (Exchange Request Reply)) (first last : Holding) → Turns KeptStep first more last → HearTurns first.state more last.state
hear_steps [] first last turns = ap (λ (w : Holding). w.state) turns
hear_steps (answered request reply ∷ more) first last (next, step, turns) =
    (next.state, (first.budget, step.step), hear_steps more next last turns)
hear_steps (no_request ∷ more) first last (next, same, turns) =
    (next.state, keeps_same first.state next.state (ap (λ (w : Holding). w.state) same), hear_steps more next last turns)

hear_both : (one other : List (Exchange Request Reply)) (first mid last : State) → HearTurns first one mid → HearTurns mid other last
    → HearTurns first (one ++ other) last
hear_both [] other first mid last turns rest = subst (λ (s : State). HearTurns s other last) turns rest
hear_both (exchange ∷ one) other first mid last (next, turn, turns) rest = (next, turn, hear_both one other next mid last turns rest)

hear_run : (first : Recalling) (of_lines : List (Exchange LineRequest Reply)) (more : List (Exchange Request Reply)) (last : Holding)
    → IsRun first of_lines more last → HearTurns first.wiki.state (exchanges_of of_lines more) last.state
hear_run first of_lines more last run =
    hear_both (map exchange_of of_lines) more first.wiki.state run.mid.wiki.state last.state (hear_lines of_lines first run.mid run.turns)
    (hear_steps more run.mid.wiki last run.steps)

-- ---- what a session sees

-- where sessions stay, each sees what it saw
seen_kept : (old new : State) (number : ℕ) → KeepsSessions old new → seen new number ≡ seen old number
seen_kept old new number keeps =
    seen_is (seen new number) (seen old number) (shared_is old.stored new.stored keeps.grammar keeps.words)
    (ap (λ (sessions : List PlainSession). own_of sessions number) keeps.sessions)

pub apt_kept : (old new : State) → KeepsSessions old new → IsApt old → IsApt new
apt_kept old new keeps apt =
    subst (λ (n : ℕ). RiseTo 0 n new.sessions) (sym keeps.last) (subst (RiseTo 0 old.last) (sym keeps.sessions) apt)

-- all turns while the session is open
run_open : (number : ℕ) (exchanges : List (Exchange Request Reply)) (old last : State) → IsApt old
    → number ≤ old.last → HearTurns old exchanges last
    → Follows (seen old number) (flat_map (apart.heard_open number) exchanges) (seen last number)
run_open number [] old last apt below turns = ap (λ (s : State). seen s number) turns
run_open number (no_request ∷ exchanges) old last apt below (next, keeps, rest) =
    subst (λ (s : Seen). Follows s (flat_map (apart.heard_open number) exchanges) (seen last number)) (seen_kept old next number keeps)
    (run_open number exchanges next last (apt_kept old next keeps apt)
    (subst (λ (n : ℕ). number ≤ n) (sym keeps.last) below) rest)
run_open number (answered request reply ∷ exchanges) old last apt below (next, (budget, step), rest) =
    let shows = open_step (IsCutOff budget) old next number apt below request reply step in
    let later = shows.later in
    follows_append (seen old number) (apart.heard_open number (answered request reply)) (seen next number) (flat_map (apart.heard_open number) exchanges)
    (seen last number) shows.follows
    (run_open number exchanges next last shows.apt (omega (arith, below, later)) rest)

-- all turns from before the session is open
run_before : (number : ℕ) (exchanges : List (Exchange Request Reply)) (old last : State) → IsApt old
    → session_numbered old number ≡ None
    → HearTurns old exchanges last → Follows (seen old number) (apart.heard_by number exchanges) (seen last number)
run_before number [] old last apt none turns = ap (λ (s : State). seen s number) turns
run_before number (no_request ∷ exchanges) old last apt none (next, keeps, rest) =
    subst (λ (s : Seen). Follows s (apart.heard_by number exchanges) (seen last number)) (seen_kept old next number keeps)
    (run_before number exchanges next last (apt_kept old next keeps apt)
    (none_seen (session_numbered next number)
    (ap (λ (s : Seen). s.own) (seen_kept old next number keeps) ∙ ap (option_map own) none)) rest)
run_before number (answered request reply ∷ exchanges) old last apt none (next, (budget, step), rest) =
    by_case (apart.opened_by number (answered request reply)) refl (run_before number exchanges next last)
  where
    by_case : (o : Option (List ℕ)) → apart.opened_by number (answered request reply) ≡ o
        → (IsApt next → session_numbered next number ≡ None → HearTurns next exchanges last
        → Follows (seen next number) (apart.heard_by number exchanges) (seen last number))
        → Follows (seen old number)
        (option_map_or (λ form. apart.opened form ∷ flat_map (apart.heard_open number) exchanges) o
        (apart.heard_of_words (answered request reply) ++ apart.heard_by number exchanges)) (seen last number)
    by_case None is going_on =
        let shows = before_step (IsCutOff budget) old next number apt none request reply is step in
        let still = none_seen (session_numbered next number)
        (none_follows (seen old number) (seen next number) request reply shows.follows (ap (option_map own) none)) in
        follows_append (seen old number) (apart.heard_of_words (answered request reply)) (seen next number) (apart.heard_by number exchanges)
        (seen last number) shows.follows
        (going_on shows.apt still rest)
    by_case (Some form) is going_on =
        let opens = opens_by number request reply form is in
        let step_on : Step (IsCutOff budget) old (requests.OnArticle form of_article.Open) (replies.Open number) next =
        subst (λ (r : Reply). Step (IsCutOff budget) old (requests.OnArticle form of_article.Open) r next) opens.told
        (subst (λ (q : Request). Step (IsCutOff budget) old q reply next) opens.asked step) in
        let shows = begin_shows (IsCutOff budget) old next number apt form none step_on in
        follows_append (seen old number) (apart.opened form ∷ []) (seen next number) (flat_map (apart.heard_open number) exchanges) (seen last number)
        shows.0.follows
        (run_open number exchanges next last shows.0.apt shows.1 rest)

-- a session's tokens are a function of the grammar and of what the session heard
pub tokens_own_recalling : (g : GrammarParts) → TokensAreOwn g
tokens_own_recalling g budget its_budget of_lines its_lines more its_more last its_last number its_number run its_run same =
    let heard : List apart.Heard = apart.heard_by number (exchanges_of of_lines more) in
    let follows = run_before number (exchanges_of of_lines more) (first_state g) last.state (omega arith) refl
    (hear_run (without_history (first_holding g budget)) of_lines more last run) in
    let its_follows = run_before its_number (exchanges_of its_lines its_more) (first_state g) its_last.state (omega arith) refl
    (hear_run (without_history (first_holding g its_budget)) its_lines its_more its_last its_run) in
    let seen_same = follows_one (seen (first_state g) number) heard (seen last.state number) (seen its_last.state its_number) follows
    (subst (λ (hs : List apart.Heard). Follows (seen (first_state g) number) hs (seen its_last.state its_number)) (sym same) its_follows) in
    tokens_seen last.state number ∙ ap (λ (s : Seen). option_map (λ (o : Own). o.tokens) s.own) (sym seen_same)
    ∙ sym (tokens_seen its_last.state its_number)
