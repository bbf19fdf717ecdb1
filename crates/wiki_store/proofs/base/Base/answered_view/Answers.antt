use Rattle.std.proofs.Common.{Bool, ℕ, List, MatchBool, refl, sym, ap, subst, ◌∙◌}
use Rattle.codeco_terms.specs.GrammarParts.{GrammarParts}
use Rattle.derivation_trees.specs.Cutting.{shown}
use Rattle.logic_terms.specs.Shown.{concept_of}
use Rattle.wiki_parts.specs.Holding.{Holding}
use Rattle.wiki_parts.specs.Spending.{IsCutOff}
use Rattle.plain_wiki.specs.State.{Stored}
use Rattle.plain_wiki.specs.Telling.{AreAnswersTo, TellsNoName, spelled}
use Rattle.wiki_store.specs.Spending.{KeptHasDoubts}
use Rattle.wiki_store.proofs.base.Base.answered_view.Goals as goal

pub returns-clause-tells : goal.returns-clause-tells
returns-clause-tells c =
    let state : Stored = c.args.self.now.state in
    let tokens = c.args.sentence.now.tokens in
    let answers = c.args.answers.now in
    let told : AreAnswersTo (IsCutOff c.args.self.now.budget) state tokens c.in_ok-spelled.field-0 c.in_ok-spelled-2.field-0 =
    record {
      concept = concept_of c.args.class.now;
      means = c.requires.means;
      claims = c.requires.answers.claims;
      known = c.requires.answers.known;
      yes = answers.yes;
      doubtful = answers.unknown;
      answer = c.requires.answers.answer;
      answers_told = c.in_ok-spelled.ensures ∙ ap (λ (h : Holding). spelled h.state.words answers.yes) c.self.view_is;
      unknown_told = c.in_ok-spelled-2.ensures ∙ ap (λ (h : Holding). spelled h.state.words answers.unknown) c.self.view_is;
    } in
    record {
      status = refl;
      text = c.in_ok-show.ensures.exact ∙ ap (λ (ts : List (List ℕ)). shown c.grammar-grammar.result.now.terminals ts) c.get.ensures
          ∙ ap (λ (g : GrammarParts). shown g.terminals tokens)
          (c.grammar-grammar.ensures.grammar ∙ ap (λ (h : Holding). h.state.grammar) c.self.view_is);
      names =
          subst (λ (b : Bool). MatchBool b (AreAnswersTo (IsCutOff c.args.self.now.budget) state tokens c.in_ok-spelled.field-0 c.in_ok-spelled-2.field-0)
          (TellsNoName (record {
            status = c.args.sentence.now.status;
            text = c.in_ok-show.field-0;
            answers = c.in_ok-spelled.field-0;
            unknown = c.in_ok-spelled-2.field-0;
          })))
          (sym c.requires.asks) told;
    }

pub returns-clause-unknown : goal.returns-clause-unknown
returns-clause-unknown c =
    let tokens = c.args.sentence.now.tokens in
    let answers = c.args.answers.now in
    let doubts : KeptHasDoubts c.args.self.now tokens c.in_ok-spelled-2.field-0 =
    record {
      concept = concept_of c.args.class.now;
      means = c.requires.means;
      doubtful = answers.unknown;
      told = c.in_ok-spelled-2.ensures ∙ ap (λ (h : Holding). spelled h.state.words answers.unknown) c.self.view_is;
      there = c.requires.answers.there;
    } in
    subst (λ (b : Bool). MatchBool b (KeptHasDoubts c.args.self.now tokens c.in_ok-spelled-2.field-0) (Unit {0})) (sym c.requires.asks) doubts
