use Rattle.std.proofs.Common.{◌≡◌, ◌≤◌, List, Some, None, length, ap, subst, arith}
use Rattle.std.specs.List.{slice_get}
use Rattle.wiki_base.proofs.ListLaws.{slice_get_at}
use Rattle.articles.specs.declared.sentences.Sentence.{Sentence}
use Rattle.plain_wiki.specs.Places.{placed_in}
use Rattle.plain_wiki.specs.Causes.{KeepsMeaning}
use Rattle.wiki_store.proofs.FindLemmas.{as_many_sense, told_broken, still_kept, no_place, none_left}
use Rattle.wiki_store.proofs.rewording.broken_in.Goals as goal

pub returns-then-not-kept : goal.returns-then-not-kept
returns-then-not-kept c = λ g words mean others.
    let at = c.loop-at.at in
    let s = c.index-sentences-at.result in
    let m = c.index-senses-at.result in
    let here : slice_get c.args.article.now.sentences at ≡ Some s =
    subst (λ (ss : List Sentence). slice_get ss at ≡ Some s) c.as_slice-sentences.ensures
    (slice_get_at c.as_slice-sentences.result.now at s (omega (arith, c.loop-at-test.true, c.min-count.ensures)) c.index-sentences-at.is) in
    let meant : slice_get c.args.senses.now at ≡ Some m =
    slice_get_at c.args.senses.now at m (omega (arith, c.loop-at-test.true, c.min-count.ensures)) c.index-senses-at.is in
    told_broken g words c.args.grammar.now c.args.lexicon.now c.args.article.now c.args.senses.now at s m c.in_ok-kept.kept here meant mean
    (λ means. c.in_ok-kept.ensures g words means others) c.if-not-kept.true
    (c.loop-at.invariant g words mean others)

pub loop-at-preserved : goal.loop-at-preserved
loop-at-preserved c = λ g words mean others found rest.
    let at = c.loop-at.at in
    let s = c.index-sentences-at.result in
    let m = c.index-senses-at.result in
    let here : slice_get c.args.article.now.sentences at ≡ Some s =
    subst (λ (ss : List Sentence). slice_get ss at ≡ Some s) c.as_slice-sentences.ensures
    (slice_get_at c.as_slice-sentences.result.now at s (omega (arith, c.loop-at-test.true, c.min-count.ensures)) c.index-sentences-at.is) in
    let meant : slice_get c.args.senses.now at ≡ Some m =
    slice_get_at c.args.senses.now at m (omega (arith, c.loop-at-test.true, c.min-count.ensures)) c.index-senses-at.is in
    c.loop-at.invariant g words mean others found
    (still_kept g words c.args.grammar.now c.args.lexicon.now c.args.article.now c.args.senses.now at s m c.in_ok-kept.kept here meant mean
    (λ means. c.in_ok-kept.ensures g words means others) c.if-not-kept.false found rest)

pub returns : goal.returns
returns c = λ g words mean others.
    let many = as_many_sense g words c.args.article.now.sentences c.args.senses.now mean in
    let slice : length c.as_slice-sentences.result.now ≡ length c.args.article.now.sentences =
    ap (λ (ss : List Sentence). length ss) c.as_slice-sentences.ensures in
    let past : length c.args.article.now.sentences ≤ c.loop-at.at = omega (arith, many, slice, c.loop-at-test.false, c.min-count.ensures) in
    no_place (λ placed. KeepsMeaning g words c.args.grammar.now c.args.lexicon.now placed.sentence.tokens) (placed_in c.args.article.now)
    (c.loop-at.invariant g words mean others None
    (none_left (λ placed. KeepsMeaning g words c.args.grammar.now c.args.lexicon.now placed.sentence.tokens) c.args.article.now.word
    c.args.article.now.sentences c.loop-at.at past))
