use Rattle.std.proofs.Common.{◌≡◌, ℕ, ◌<◌, List, get_or, All, Contains}
use Rattle.std.proofs.lemmas.List.Elements.{All-contains_itself}
use Rattle.wiki_base.specs.declared.numbers.WordId.{WordId}
use Rattle.logic_terms.specs.Concept.{Concept, Claim}
use Rattle.answers.specs.Answered.{denied, IsUnknown}
use Rattle.wiki_parts.specs.Spending.{IsCutOff}
use Rattle.wiki_parts.proofs.NameLemmas.{rise_pairs}
use Rattle.wiki_parts.proofs.answering.answers_of.Goals as goal

-- a name of which it isn't known is one whose search was cut off
cut_off : (claims : List Claim) (names : List WordId) (budget : ℕ) (concept : Concept) (unknown : List WordId)
    → All (IsUnknown claims names budget concept) unknown → All (λ name. IsCutOff budget (denied claims concept name) names) unknown
cut_off claims names budget concept unknown all k d within =
    let one : IsUnknown claims names budget concept (get_or unknown k d) = all k d within in
    record { knowledge = one.knowledge; absorbed = one.absorbed; longer = one.longer }

-- names that are in one list are not in another
apart_each : (sure unsure : List WordId) → ((n : WordId) → Contains sure n → ¬ Contains unsure n) → All (λ name. ¬ Contains unsure name) sure
apart_each sure unsure apart k d within = apart (get_or sure k d) (All-contains_itself sure k d within)

pub returns-clause-answer : goal.returns-clause-answer
returns-clause-answer c =
    let answers = c.in_ok-answers.answers in
    record {
      answers = record { in_order = rise_pairs answers.yes c.as_slice.ensures.rising; among = c.in_ok-answers.ensures.given.0 };
      doubts = record { in_order = rise_pairs answers.unknown c.as_slice-2.ensures.rising; among = c.in_ok-answers.ensures.given.1 };
      apart = apart_each answers.yes answers.unknown c.in_ok-answers.ensures.apart;
      sure = c.in_ok-answers.ensures.yes;
      cut_off = cut_off _ c.args.names.now c.args.budget _ answers.unknown c.in_ok-answers.ensures.unknown;
      others = c.in_ok-answers.ensures.others;
    }
