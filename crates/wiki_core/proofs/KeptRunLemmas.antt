-- The same of runs of a wiki with the model that it keeps.
use Rattle.std.proofs.Common.{◌≡◌, ℕ, ◌++◌, List, [], ◌∷◌, All, refl, ap, subst, ◌∙◌}
use Rattle.codeco_terms.specs.GrammarParts.{GrammarParts}
use Rattle.codeco_checked.specs.Sound.{IsSound}
use Rattle.wiki_talk.specs.declared.replies.Reply.{Reply}
use Rattle.wiki_talk.specs.declared.requests.Request.{Request}
use Rattle.wiki_talk.specs.Turns.{Exchange, answered, no_request, Turns}
use Rattle.plain_wiki.specs.State.{first_state}
use Rattle.plain_wiki.specs.Step.{Step}
use Rattle.wiki_parts.specs.Spending.{IsCutOff}
use Rattle.wiki_core.specs.Holding.{Holding, first_holding}
use Rattle.wiki_core.specs.Stepping.{KeptStep}
use Rattle.wiki_core.specs.Journaled.{asked_of, changes_of, GivesUtf8, HasShortPlace, GivesUnraised, SpendsNone, NoneIsRaised, AreUtf8, FitsLine}
use Rattle.wiki_core.proofs.StandsLemmas.{stands_again}
use Rattle.wiki_core.proofs.LineLemmas.{changes_fit}

-- a run is one of the plain wiki, with the budget that the wiki has
pub plain_turns : (budget : ℕ) (exchanges : List (Exchange Request Reply)) (first last : Holding) → first.budget ≡ budget
    → Turns KeptStep first exchanges last → Turns (Step (IsCutOff budget)) first.state exchanges last.state
plain_turns budget [] first last is turns = ap (λ (w : Holding). w.state) turns
plain_turns budget (answered request reply ∷ exchanges) first last is (next, step, turns) = (
  next.state,
  subst (λ (n : ℕ). Step (IsCutOff n) first.state request reply next.state) is step.step,
  plain_turns budget exchanges next last (step.budget ∙ is) turns,
)
plain_turns budget (no_request ∷ exchanges) first last is (next, same, turns) =
    (next.state, ap (λ (w : Holding). w.state) same, plain_turns budget exchanges next last (ap (λ (w : Holding). w.budget) same ∙ is) turns)

-- the state between two parts of a run
pub turns_part : {S Q R : Type 0} (step : S → Q → R → S → Type 0) (one other : List (Exchange Q R)) (first last : S) → Turns step first (one ++ other) last
    → (mid : S) × Turns step first one mid × Turns step mid other last
turns_part step [] other first last turns = (first, refl, turns)
turns_part step (exchange ∷ one) other first last (next, turn, turns) =
    let rest = turns_part step one other next last turns in
    (rest.0, (next, turn, rest.1), rest.2)

-- What stands is what is read, of runs of a wiki with the model that it keeps.
pub stands_again_kept : (g : GrammarParts) → IsSound g → NoneIsRaised g.terminals → (budget its_budget : ℕ)
    (former exchanges again : List (Exchange Request Reply)) (last its_last : Holding)
    → Turns KeptStep (first_holding g budget) (former ++ exchanges) last → Turns KeptStep (first_holding g its_budget) again its_last
    → asked_of again ≡ asked_of former ++ changes_of exchanges → All GivesUtf8 (asked_of former) → All GivesUtf8 (asked_of exchanges)
    → All GivesUnraised (asked_of former) → All GivesUnraised (asked_of exchanges)
    → SpendsNone former → SpendsNone exchanges → SpendsNone again → its_last.state.stored ≡ last.state.stored
stands_again_kept g sound apart budget its_budget former exchanges again last its_last turns its_turns =
    let parts = turns_part (Step (IsCutOff budget)) former exchanges (first_state g) last.state
    (plain_turns budget (former ++ exchanges) (first_holding g budget) last refl turns) in
    stands_again g sound apart budget its_budget former exchanges again parts.0 last.state its_last.state parts.1 parts.2
    (plain_turns its_budget again (first_holding g its_budget) its_last refl its_turns)

-- Each change fits a short line, of such a run.
pub changes_fit_kept : (g : GrammarParts) → IsSound g → NoneIsRaised g.terminals → AreUtf8 g.terminals → (budget : ℕ)
    (exchanges : List (Exchange Request Reply)) (last : Holding) → Turns KeptStep (first_holding g budget) exchanges last
    → All GivesUtf8 (asked_of exchanges) → All GivesUnraised (asked_of exchanges) → All HasShortPlace (asked_of exchanges) → All FitsLine (changes_of exchanges)
changes_fit_kept g sound apart utf8 budget exchanges last turns =
    changes_fit g sound apart utf8 budget exchanges last.state (plain_turns budget exchanges (first_holding g budget) last refl turns)
