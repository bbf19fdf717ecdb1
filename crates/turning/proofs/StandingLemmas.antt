-- What stands after a run of a wiki with a history stands after what its lines asked and the changes of its requests.
use Rattle.std.proofs.Common.{◌≡◌, ◌++◌, ◌||◌, Bool, false, List, [], ◌∷◌, map, All, inl, inr, refl, sym, ap, subst, ◌∙◌}
use Rattle.std.specs.List.{list_any}
use Rattle.std.proofs.lemmas.List.Elements.{All-head, All-tail}
use Rattle.codeco_terms.specs.GrammarParts.{GrammarParts}
use Rattle.codeco_checked.specs.Sound.{IsSound}
use Rattle.wiki_talk.specs.declared.replies.Reply.{Reply}
use Rattle.wiki_talk.specs.declared.requests.Request.{Request}
use Rattle.wiki_talk.specs.declared.requests.LineRequest.{LineRequest}
use Rattle.wiki_talk.specs.declared.requests.LineRequest.TheVariants as lines
use Rattle.wiki_talk.specs.Turns.{Exchange, answered, no_request, Turns}
use Rattle.plain_wiki.specs.State.{Stored, State}
use Rattle.wiki_parts.specs.Spending.{IsCutOff}
use Rattle.wiki_core.specs.Holding.{Holding, first_holding}
use Rattle.wiki_core.specs.Stepping.{KeptStep}
use Rattle.wiki_core.specs.Journaled as core
use Rattle.wiki_core.specs.Journaled.{changes_of, tells_spent, is_spent_in, SpendsNone, GivesUnraised, NoneIsRaised, AreUtf8}
use Rattle.wiki_core.proofs.AgainLemmas.{IsMade, reply_again, spent_again, step_made}
use Rattle.wiki_core.proofs.StandsLemmas.{IsReady, stays_ready, neither, made_again}
use Rattle.turning.specs.Turning.{Recalling, without_history, KeptTurn}
use Rattle.turning.specs.Laws.{exchange_of, asked_of, StandsAgain}
use Rattle.turning.proofs.ReadyLemmas.{lines_ready, asked_parts}
use Rattle.turning.proofs.TwinLemmas.{AreTwins, spends, turn_alike}

-- ---- what is asked

-- lines one after another, none of which is told that a budget was spent
abbrev Asks : Recalling → List LineRequest → Recalling → Type 0
Asks first [] last = last ≡ first
Asks first (request ∷ requests) last =
    (reply : Reply) × (next : Recalling) × KeptTurn first request reply next × (spends request reply ≡ false) × Asks next requests last

-- a run of lines asks what its lines asked
asks_lines : (exchanges : List (Exchange LineRequest Reply)) (first last : Recalling) → Turns KeptTurn first exchanges last
    → SpendsNone (map exchange_of exchanges) → Asks first (asked_of exchanges) last
asks_lines [] first last turns kept = turns
asks_lines (answered request reply ∷ exchanges) first last (next, turn, turns) kept =
    let both = neither (spends request reply) (list_any is_spent_in (map exchange_of exchanges)) kept in
    (reply, next, turn, both.0, asks_lines exchanges next last turns both.1)
asks_lines (no_request ∷ exchanges) first last (next, same, turns) kept =
    subst (λ (r : Recalling). Asks r (asked_of exchanges) last) same (asks_lines exchanges next last turns kept)

-- neither part of a run spends a budget
spends_parts : (one other : List (Exchange Request Reply)) → SpendsNone (one ++ other) → SpendsNone one × SpendsNone other
spends_parts [] other kept = (refl, kept)
spends_parts (exchange ∷ one) other kept =
    let both = neither (is_spent_in exchange) (list_any is_spent_in (one ++ other)) kept in
    let rest = spends_parts one other both.1 in
    (ap (λ (b : Bool). b || list_any is_spent_in one) both.0 ∙ rest.0, rest.1)

-- lines that are asked again lead to a twin, and then the others are asked
asks_again : (asked more : List LineRequest) (first last other its_last : Recalling) → AreTwins first other
    → Asks first asked last → Asks other (asked ++ more) its_last → (mid : Recalling) × AreTwins last mid × Asks mid more its_last
asks_again [] more first last other its_last twins same again = (other, subst (λ (r : Recalling). AreTwins r other) (sym same) twins, again)
asks_again (request ∷ asked) more first last other its_last twins (reply, next, turn, kept, rest)
    (its_reply, its_next, its_turn, its_kept, its_rest) =
    asks_again asked more next last its_next its_last (turn_alike first other request reply its_reply next its_next twins turn its_turn kept
    its_kept) rest its_rest

-- ---- changes that are made again

-- the changes of a run's requests, asked over the same words and sentences
made_run : (more : List (Exchange Request Reply)) (first last : Holding) (other its_last : Recalling) → IsReady first.state → Turns KeptStep first more last
    → All GivesUnraised (core.asked_of more) → SpendsNone more → other.wiki.state.stored ≡ first.state.stored
    → Asks other (map lines.Step (changes_of more)) its_last
    → its_last.wiki.state.stored ≡ last.state.stored
made_run [] first last other its_last ready turns unraised kept same asks =
    subst (λ (w : Holding). its_last.wiki.state.stored ≡ w.state.stored) (sym turns)
    (subst (λ (r : Recalling). r.wiki.state.stored ≡ first.state.stored) (sym asks) same)
made_run (no_request ∷ more) first last other its_last ready (next, is, turns) unraised kept same asks =
    made_run more next last other its_last (subst (λ (w : Holding). IsReady w.state) (sym is) ready) turns unraised kept
    (subst (λ (w : Holding). other.wiki.state.stored ≡ w.state.stored) (sym is) same) asks
made_run (answered request reply ∷ more) first last other its_last ready (next, step, turns) unraised kept same asks =
    by (step_made (IsCutOff first.budget) first.state reply next.state ready.stored request ready.short step.step)
    (λ it alike asked. made_run more next last it its_last later turns (All-tail GivesUnraised request (core.asked_of more) unraised) both.1 alike asked)
  where
    both : (tells_spent reply ≡ false) × (list_any is_spent_in more ≡ false)
    both = neither (tells_spent reply) (list_any is_spent_in more) kept

    later : IsReady next.state
    later = stays_ready (IsCutOff first.budget) first.state reply next.state ready request step.held.utf8
        (All-head GivesUnraised request (core.asked_of more) unraised) step.step

    by : IsMade (IsCutOff first.budget) first.state.stored request reply next.state.stored
        → ((it : Recalling) → it.wiki.state.stored ≡ next.state.stored → Asks it (map lines.Step (changes_of more)) its_last
        → its_last.wiki.state.stored ≡ last.state.stored)
        → its_last.wiki.state.stored ≡ last.state.stored
    by (inl (none, is)) going_on =
        going_on other
        (subst (λ (p : Stored). other.wiki.state.stored ≡ p) (sym is) same)
        (subst (λ (changes : List Request). Asks other (map lines.Step (changes ++ changes_of more)) its_last) none asks)
    by (inr (change, only_one, own, made)) going_on =
        let first_asks : Asks other (lines.Step change ∷ map lines.Step (changes_of more)) its_last =
        subst (λ (changes : List Request). Asks other (map lines.Step (changes ++ changes_of more)) its_last) only_one asks in
        going_on first_asks.1
        (made_again (IsCutOff first.budget) (IsCutOff other.wiki.budget) first.state.stored next.state.stored change (reply_again reply) made
        (spent_again reply ∙ both.0) own other.wiki.state first_asks.1.wiki.state first_asks.0 same first_asks.2.0.step first_asks.3)
        first_asks.4

-- What stands is what is read.
pub stands_again_recalling : (g : GrammarParts) → IsSound g → NoneIsRaised g.terminals → AreUtf8 g.terminals → StandsAgain g
stands_again_recalling g sound apart utf8 budget its_budget of_lines again more last its_last run its_turns same unraised kept its_kept =
    let first : Recalling = without_history (first_holding g budget) in
    let other : Recalling = without_history (first_holding g its_budget) in
    let halves = spends_parts (map exchange_of of_lines) more kept in
    let asks : Asks other (asked_of of_lines ++ map lines.Step (changes_of more)) its_last =
    subst (λ (asked : List LineRequest). Asks other asked its_last) same (asks_lines again other its_last its_turns its_kept) in
    let mid = asks_again (asked_of of_lines) (map lines.Step (changes_of more)) first run.mid other its_last
    (record { state = refl; past = refl; future = refl }) (asks_lines of_lines first run.mid run.turns halves.0) asks in
    let asked = asked_parts GivesUnraised (map exchange_of of_lines) more unraised in
    let ready = lines_ready g sound apart utf8 budget of_lines run.mid run.turns asked.0 in
    made_run more run.mid.wiki last mid.0 its_last ready.ready run.steps asked.1 halves.1 (alike run.mid mid.0 mid.1.state) mid.2
  where
    alike : (one other : Recalling) → other.wiki.state ≡ one.wiki.state → other.wiki.state.stored ≡ one.wiki.state.stored
    alike one other same = ap (λ (s : State). s.stored) same
