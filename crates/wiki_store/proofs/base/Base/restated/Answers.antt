use Rattle.std.proofs.Common.{◌+◌, ◌≤◌, ℕ, List, length, sym, subst, arith}
use Rattle.std.proofs.lemmas.List.{length-map}
use Rattle.wiki_base.specs.declared.tokens.TheConstants.{MOST_TOKENS}
use Rattle.wiki_parts.specs.declared.meanings.Sense.{Sense}
use Rattle.wiki_parts.specs.Found.{meaning_shown}
use Rattle.wiki_parts.specs.Kept.{meanings_in}
use Rattle.plain_wiki.specs.Meanings.{Means}
use Rattle.wiki_store.proofs.JudgeLemmas.{means-at}
use Rattle.wiki_store.proofs.KeepingLemmas.{as_many}
use Rattle.wiki_store.proofs.StepLemmas.{can-change, has-place}
use Rattle.wiki_store.proofs.base.Base.restated.Goals as goal

pub get-requires : goal.get-requires
get-requires c =
    let mean = c.senses_of-senses.ensures c.in_ok-article.article.now c.in_ok-article.ensures.there in
    let many = as_many c.args.self.now.state.grammar c.args.self.now.state.words c.in_ok-article.article.now.sentences
    (meanings_in c.senses_of-senses.result.now) mean in
    let same = length-map c.senses_of-senses.result.now meaning_shown in
    omega (arith, many, same, c.in_ok-sentence.ensures.within)

pub returns-clause-can : goal.returns-clause-can
returns-clause-can c =
    let state = c.args.self.now.state in
    let article = c.in_ok-article.article.now in
    let sentence = c.in_ok-sentence.sentence.now in
    record {
      changes = can-change state.articles article.word article c.in_ok-article.ensures.there c.in_ok-can_change.ensures.open;
      rises = omega arith;
      narrow = omega arith;
      place = has-place state.articles article.word article (c.args.at + 1) c.in_ok-article.ensures.there (omega (arith, c.in_ok-sentence.ensures.within));
      room = λ same. absurd (omega (arith, same));
      few = subst (λ (ts : List (List ℕ)). length ts ≤ MOST_TOKENS) (sym c.in_ok-copy.ensures) c.in_ok-sentence.ensures.stored.few;
      means =
          subst (λ (m : Sense). Means state.grammar state.words c.in_ok-copy.field-0 (meaning_shown m)) (sym c.in_ok-copy-2.ensures)
          (subst (λ (ts : List (List ℕ)). Means state.grammar state.words ts (meaning_shown c.get.result.now)) (sym c.in_ok-copy.ensures)
          (means-at state.grammar state.words article.sentences c.senses_of-senses.result.now c.args.at sentence c.get.result.now
          (c.senses_of-senses.ensures article c.in_ok-article.ensures.there) c.in_ok-sentence.ensures.here c.get.ensures));
    }
