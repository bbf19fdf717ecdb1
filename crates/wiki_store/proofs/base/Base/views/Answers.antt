use Rattle.std.proofs.Common.{◌≡◌, ◌+◌, List, length, take, sym, subst, arith}
use Rattle.std.specs.List.{AllZip}
use Rattle.std.proofs.lemmas.List.{length-map}
use Rattle.wiki_talk.specs.declared.replies.SentenceView.{SentenceView}
use Rattle.wiki_parts.specs.Found.{meaning_shown}
use Rattle.wiki_parts.specs.Kept.{meanings_in}
use Rattle.plain_wiki.specs.Telling.{TellsSentence}
use Rattle.wiki_parts.specs.Spending.{IsCutOff}
use Rattle.wiki_store.specs.Spending.{KeptHasUnknown}
use Rattle.wiki_store.proofs.KeepingLemmas.{as_many}
use Rattle.wiki_store.proofs.ReadLemmas.{meant-at, told-more}
use Rattle.wiki_store.proofs.base.Base.views.Goals as goal

pub bounds-senses-place : goal.bounds-senses-place
bounds-senses-place c =
    let many : length (meanings_in c.args.senses.now) ≡ length c.args.sentences.now =
    as_many c.args.self.now.state.grammar c.args.self.now.state.words c.args.sentences.now (meanings_in c.args.senses.now) c.requires.mean in
    let same : length (meanings_in c.args.senses.now) ≡ length c.args.senses.now = length-map c.args.senses.now meaning_shown in
    omega (arith, many, same, c.loop-place-test.true)

pub view-requires-clause-means : goal.view-requires-clause-means
view-requires-clause-means c =
    (meant-at c.args.self.now.state.grammar c.args.self.now.state.words c.args.sentences.now c.args.senses.now c.requires.mean c.loop-place.place
    c.index-sentences-place.result
    c.index-senses-place.result c.loop-place-test.true c.index-sentences-place.is c.index-senses-place.is).0

pub view-requires-clause-fits : goal.view-requires-clause-fits
view-requires-clause-fits c =
    (meant-at c.args.self.now.state.grammar c.args.self.now.state.words c.args.sentences.now c.args.senses.now c.requires.mean c.loop-place.place
    c.index-sentences-place.result
    c.index-senses-place.result c.loop-place-test.true c.index-sentences-place.is c.index-senses-place.is).1

pub loop-place-preserved : goal.loop-place-preserved
loop-place-preserved c =
    record {
      tells =
          subst (λ (views : List SentenceView). AllZip (TellsSentence (IsCutOff c.args.self.now.budget) c.args.self.now.state)
          (take (c.loop-place.place + 1) c.args.sentences.now) views)
          (sym c.in_ok-push.ensures.ok)
          (told-more (TellsSentence (IsCutOff c.args.self.now.budget) c.args.self.now.state) c.args.sentences.now c.loop-place.views c.loop-place.place
          c.index-sentences-place.result
          c.in_ok-view.field-0
          c.loop-place.invariant.tells c.loop-place-test.true c.index-sentences-place.is c.in_ok-view.ensures.tells);
      unknown =
          subst (λ (views : List SentenceView). AllZip (KeptHasUnknown c.args.self.now) (take (c.loop-place.place + 1) c.args.sentences.now) views)
          (sym c.in_ok-push.ensures.ok)
          (told-more (KeptHasUnknown c.args.self.now) c.args.sentences.now c.loop-place.views c.loop-place.place c.index-sentences-place.result
          c.in_ok-view.field-0
          c.loop-place.invariant.unknown c.loop-place-test.true c.index-sentences-place.is c.in_ok-view.ensures.unknown);
      absorbed = c.loop-place.invariant.absorbed;
      remembered = c.view.ensures.remembered;
    }

pub view-requires-clause-absorbed : goal.view-requires-clause-absorbed
view-requires-clause-absorbed c = c.loop-place.invariant.absorbed
