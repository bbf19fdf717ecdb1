-- A run of lines leaves a wiki ready: what it shows is read as it was. And each change of its requests fits a short line.
use Rattle.std.proofs.Common.{ℕ, List, [], ◌∷◌, ◌++◌, map, All, sym, subst}
use Rattle.std.proofs.lemmas.List.Elements.{All-nil, All-cons, All-head, All-tail, All-append}
use Rattle.codeco_terms.specs.GrammarParts.{GrammarParts}
use Rattle.codeco_checked.specs.Sound.{IsSound}
use Rattle.lexicon.specs.Words.{Listed}
use Rattle.wiki_talk.specs.declared.replies.Reply.{Reply}
use Rattle.wiki_talk.specs.declared.replies.Reply.TheVariants as replies
use Rattle.wiki_talk.specs.declared.requests.Request.{Request}
use Rattle.wiki_talk.specs.declared.requests.LineRequest.{LineRequest}
use Rattle.wiki_talk.specs.declared.requests.LineRequest.TheVariants as lines
use Rattle.wiki_talk.specs.Turns.{Exchange, answered, no_request, Turns}
use Rattle.plain_wiki.specs.State.{State}
use Rattle.plain_wiki.specs.Knowledge.{Spending}
use Rattle.plain_wiki.specs.Step.{Step}
use Rattle.wiki_parts.specs.Spending.{IsCutOff}
use Rattle.wiki_core.specs.Holding.{Holding, first_holding}
use Rattle.wiki_core.specs.Stepping.{KeptStep}
use Rattle.wiki_core.specs.Journaled as core
use Rattle.wiki_core.specs.Journaled.{changes_by, changes_of, IsHeld, GivesUnraised, NoneIsRaised, AreUtf8, FitsLine}
use Rattle.wiki_core.proofs.GrammarLemmas.{stays_utf8}
use Rattle.wiki_core.proofs.ReadyLemmas.{AreReady}
use Rattle.wiki_core.proofs.AgainLemmas.{AreShortSessions}
use Rattle.wiki_core.proofs.StandsLemmas.{IsReady, stays_ready, first_ready}
use Rattle.wiki_core.proofs.LineLemmas.{step_fits, all_from_each}
use Rattle.turning.specs.Turning.{Recalling, without_history, KeptTurn}
use Rattle.turning.specs.Laws.{exchange_of, ChangesFitLines}
use Rattle.turning.proofs.MoveLemmas.{KeepsSessions, moved}
use Rattle.turning.proofs.HearingLemmas.{apt_kept}

-- a wiki that is ready, over a grammar whose terminals are in UTF-8
pub record IsReadyPlain (state : State) : Type 0 where
  pub ready : IsReady state
  pub utf8 : AreUtf8 state.stored.grammar.terminals

ready_kept : (old new : State) → KeepsSessions old new → IsReadyPlain old → IsReadyPlain new
ready_kept old new keeps plain = record {
  ready = record {
    stored =
        subst (λ (g : GrammarParts). AreReady g new.stored.words) (sym keeps.grammar)
        (subst (λ (words : Listed). AreReady old.stored.grammar words) (sym keeps.words) plain.ready.stored);
    apt = apt_kept old new keeps plain.ready.apt;
    short = subst AreShortSessions (sym keeps.sessions) plain.ready.short;
  };
  utf8 = subst (λ (g : GrammarParts). AreUtf8 g.terminals) (sym keeps.grammar) plain.utf8;
}

ready_step : (IsSpent : Spending) (old new : State) (request : Request) (reply : Reply) → IsHeld request → GivesUnraised request
    → Step IsSpent old request reply new → IsReadyPlain old → IsReadyPlain new
ready_step IsSpent old new request reply held unraised step plain = record {
  ready = stays_ready IsSpent old reply new plain.ready request held.utf8 unraised step;
  utf8 = stays_utf8 IsSpent old reply new request held.utf8 plain.utf8 step;
}

-- what is asked in both parts of a run is asked in each
pub asked_parts : (P : Request → Type 0) (one other : List (Exchange Request Reply)) → All P (core.asked_of (one ++ other))
    → All P (core.asked_of one) × All P (core.asked_of other)
asked_parts P [] other all = (All-nil P, all)
asked_parts P (answered request reply ∷ one) other all =
    let rest = asked_parts P one other (All-tail P request (core.asked_of (one ++ other)) all) in
    (All-cons P request (core.asked_of one) (All-head P request (core.asked_of (one ++ other)) all) rest.0, rest.1)
asked_parts P (no_request ∷ one) other all = asked_parts P one other all

ready_lines : (of_lines : List (Exchange LineRequest Reply)) (first last : Recalling) → Turns KeptTurn first of_lines last
    → All GivesUnraised (core.asked_of (map exchange_of of_lines)) → IsReadyPlain first.wiki.state → IsReadyPlain last.wiki.state
ready_lines [] first last turns unraised plain = subst (λ (r : Recalling). IsReadyPlain r.wiki.state) (sym turns) plain
ready_lines (answered (lines.Step request) reply ∷ of_lines) first last (next, turn, turns) unraised plain =
    let asked = core.asked_of (map exchange_of of_lines) in
    ready_lines of_lines next last turns (All-tail GivesUnraised request asked unraised)
    (ready_step (IsCutOff first.wiki.budget) first.wiki.state next.wiki.state request reply turn.0.held (All-head GivesUnraised request asked unraised)
    turn.0.step plain)
ready_lines (answered lines.Undo reply ∷ of_lines) first last (next, turn, turns) unraised plain =
    ready_lines of_lines next last turns unraised (ready_kept first.wiki.state next.wiki.state
    (moved first.wiki first.past first.future replies.Undo reply next.wiki next.past next.future turn) plain)
ready_lines (answered lines.Redo reply ∷ of_lines) first last (next, turn, turns) unraised plain =
    ready_lines of_lines next last turns unraised (ready_kept first.wiki.state next.wiki.state
    (moved first.wiki first.future first.past replies.Redo reply next.wiki next.future next.past turn) plain)
ready_lines (no_request ∷ of_lines) first last (next, same, turns) unraised plain =
    ready_lines of_lines next last turns unraised (subst (λ (r : Recalling). IsReadyPlain r.wiki.state) (sym same) plain)

-- Where lines were turned, the wiki is ready, if it was.
pub lines_ready : (g : GrammarParts) → IsSound g → NoneIsRaised g.terminals → AreUtf8 g.terminals → (budget : ℕ)
    (of_lines : List (Exchange LineRequest Reply)) (last : Recalling) → Turns KeptTurn (without_history (first_holding g budget)) of_lines last
    → All GivesUnraised (core.asked_of (map exchange_of of_lines)) → IsReadyPlain last.wiki.state
lines_ready g sound apart utf8 budget of_lines last turns unraised =
    ready_lines of_lines (without_history (first_holding g budget)) last turns unraised
    (record { ready = first_ready g sound apart; utf8 = utf8 })

-- ---- changes in lines

steps_fit : (more : List (Exchange Request Reply)) (first last : Holding) → IsReadyPlain first.state → All GivesUnraised (core.asked_of more)
    → Turns KeptStep first more last → All FitsLine (changes_of more)
steps_fit [] first last plain unraised turns = All-nil FitsLine
steps_fit (no_request ∷ more) first last plain unraised (next, same, turns) =
    steps_fit more next last (subst (λ (w : Holding). IsReadyPlain w.state) (sym same) plain) unraised turns
steps_fit (answered request reply ∷ more) first last plain unraised (next, step, turns) =
    All-append FitsLine (changes_by request reply) (changes_of more)
    (all_from_each (changes_by request reply)
    (step_fits (IsCutOff first.budget) first.state plain.ready plain.utf8 reply next.state request step.held.utf8 step.held.place step.step))
    (steps_fit more next last
    (ready_step (IsCutOff first.budget) first.state next.state request reply step.held (All-head GivesUnraised request (core.asked_of more) unraised)
    step.step plain)
    (All-tail GivesUnraised request (core.asked_of more) unraised) turns)

-- each change of a run's requests fits a short line
pub changes_fit_recalling : (g : GrammarParts) → IsSound g → NoneIsRaised g.terminals → AreUtf8 g.terminals → ChangesFitLines g
changes_fit_recalling g sound apart utf8 budget of_lines more last run unraised =
    let asked = asked_parts GivesUnraised (map exchange_of of_lines) more unraised in
    steps_fit more run.mid.wiki last (lines_ready g sound apart utf8 budget of_lines run.mid run.turns asked.0) asked.1 run.steps
