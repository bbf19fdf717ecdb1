use Rattle.std.proofs.Common.{◌≡◌, ◌≤◌, List, Some, None, length, sym, ◌∙◌, subst, arith}
use Rattle.std.specs.List.{slice_get}
use Rattle.wiki_base.specs.declared.tokens.TheConstants.{MOST_TOKENS}
use Rattle.wiki_base.proofs.ListLaws.{slice_get_at}
use Rattle.wiki_store.proofs.JudgeLemmas.{all-in-at}
use Rattle.articles.specs.declared.sentences.Sentence.{Sentence}
use Rattle.wiki_parts.specs.declared.meanings.Sense.{Sense}
use Rattle.wiki_parts.specs.Kept.{MeanEach, meanings_in}
use Rattle.plain_wiki.specs.Places.{placed_in, all_placed}
use Rattle.plain_wiki.specs.Causes.{KeepsMeaning}
use Rattle.wiki_store.proofs.AroundLemmas.{mean_at}
use Rattle.wiki_store.proofs.KeepingLemmas.{as_many_lists}
use Rattle.wiki_store.proofs.FindLemmas.{found_place, passed_place, next_whole, no_place, none_left_in}
use Rattle.wiki_store.proofs.rewording.first_broken.Goals as goal

pub broken_in-requires-clause-short : goal.broken_in-requires-clause-short
broken_in-requires-clause-short c =
    let here : slice_get c.args.articles.now c.loop-place.place ≡ Some c.index-articles-place.result =
    slice_get_at c.args.articles.now c.loop-place.place c.index-articles-place.result (omega (arith, c.loop-place-test.true, c.min-count.ensures))
    c.index-articles-place.is in
    all-in-at (λ (s : Sentence). length s.tokens ≤ MOST_TOKENS) c.args.articles.now c.loop-place.place c.index-articles-place.result here c.requires.short

pub returns-then-is_some : goal.returns-then-is_some
returns-then-is_some c = λ g words mean others.
    let place = c.loop-place.place in
    let a = c.index-articles-place.result in
    let own = c.index-senses-place.result in
    let here : slice_get c.args.articles.now place ≡ Some a =
    slice_get_at c.args.articles.now place a (omega (arith, c.loop-place-test.true, c.min-count.ensures)) c.index-articles-place.is in
    let meant : slice_get c.args.senses.now place ≡ Some own =
    slice_get_at c.args.senses.now place own (omega (arith, c.loop-place-test.true, c.min-count.ensures)) c.index-senses-place.is in
    let each = subst (λ (ms : List Sense). MeanEach g words a.sentences (meanings_in ms)) (sym c.as_slice.ensures)
    (mean_at g words c.args.articles.now c.args.senses.now place a own mean here meant) in
    found_place (λ placed. KeepsMeaning g words c.args.grammar.now c.args.lexicon.now placed.sentence.tokens) c.args.articles.now place a c.in_ok-found.found
    here
    (sym c.is_some.ensures ∙ c.if-is_some.true)
    (c.in_ok-found.ensures g words each others) (c.loop-place.invariant g words mean others)

pub loop-place-preserved : goal.loop-place-preserved
loop-place-preserved c = λ g words mean others found rest.
    let place = c.loop-place.place in
    let a = c.index-articles-place.result in
    let own = c.index-senses-place.result in
    let here : slice_get c.args.articles.now place ≡ Some a =
    slice_get_at c.args.articles.now place a (omega (arith, c.loop-place-test.true, c.min-count.ensures)) c.index-articles-place.is in
    let meant : slice_get c.args.senses.now place ≡ Some own =
    slice_get_at c.args.senses.now place own (omega (arith, c.loop-place-test.true, c.min-count.ensures)) c.index-senses-place.is in
    let each = subst (λ (ms : List Sense). MeanEach g words a.sentences (meanings_in ms)) (sym c.as_slice.ensures)
    (mean_at g words c.args.articles.now c.args.senses.now place a own mean here meant) in
    c.loop-place.invariant g words mean others found
    (next_whole (λ placed. KeepsMeaning g words c.args.grammar.now c.args.lexicon.now placed.sentence.tokens) c.args.articles.now place a found here
    (passed_place (λ placed. KeepsMeaning g words c.args.grammar.now c.args.lexicon.now placed.sentence.tokens) (placed_in a) c.in_ok-found.found
    (sym c.is_some.ensures ∙ c.if-is_some.false) (c.in_ok-found.ensures g words each others)) rest)

pub returns : goal.returns
returns c = λ g words mean others.
    let many = as_many_lists g words c.args.articles.now c.args.senses.now mean in
    let past : length c.args.articles.now ≤ c.loop-place.place = omega (arith, many, c.loop-place-test.false, c.min-count.ensures) in
    no_place (λ placed. KeepsMeaning g words c.args.grammar.now c.args.lexicon.now placed.sentence.tokens) (all_placed c.args.articles.now)
    (c.loop-place.invariant g words mean others None
    (none_left_in (λ placed. KeepsMeaning g words c.args.grammar.now c.args.lexicon.now placed.sentence.tokens) c.args.articles.now c.loop-place.place past))
