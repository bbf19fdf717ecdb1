use Rattle.std.proofs.Common.{ℕ, List, subst}
use Rattle.codeco_terms.specs.GrammarParts.{GrammarParts}
use Rattle.lexicon.specs.Words.{Listed}
use Rattle.wiki_parts.specs.Found.{meaning_shown}
use Rattle.plain_wiki.specs.Meanings.{Means}
use Rattle.wiki_core.proofs.PartLemmas.{matched, fit_class}
use Rattle.wiki_core.proofs.wiki.Wiki.meaning_of.Goals as goal

pub returns : goal.returns
returns c =
    let state = c.args.self.now.state.stored in
    let tokens = c.args.sentence.now.tokens in
    let meaning = meaning_shown c.in-Some.sense in
    let means : Means state.grammar state.words tokens meaning =
    subst (λ (ts : List (List ℕ)). Means state.grammar state.words ts meaning) c.get.ensures
    (subst (λ (g : GrammarParts). Means g state.words c.get.result.now meaning) c.grammar.ensures.grammar
    (subst (λ (words : Listed). Means c.grammar.result.now words c.get.result.now meaning) c.lexicon.ensures
    (matched _ (λ found. Means c.grammar.result.now c.lexicon.result.now c.get.result.now (meaning_shown found)) c.in_ok-sense.field-0 c.in-Some.sense
    c.in-Some.is
    c.in_ok-sense.ensures.means))) in
    record {
      status = c.told.ensures.status;
      meaning = meaning;
      means = means;
      axioms = c.told.ensures.axioms;
      class = c.told.ensures.class;
      fit = fit_class state.grammar state.words c.is_fit.ensures.grammar c.is_fit.ensures.words.apart tokens meaning means c.told.result.class
          c.told.ensures.class;
    }
