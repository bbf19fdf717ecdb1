use Rattle.std.proofs.Common.{◌+◌, ◌-◌, sym, arith}
use Rattle.std.proofs.lemmas.List.{length-take-le}
use Rattle.wiki_store.proofs.JoiningLemmas.{front, before, between, known-long, counted, stand}
use Rattle.wiki_store.proofs.joining.span_of.Goals as goal

pub count_in-before-requires : goal.count_in-before-requires
unfolding front
count_in-before-requires c =
    let long = known-long c.requires.there in
    omega (arith, long, c.requires.total)

pub slice_bounds-count_of-end : goal.slice_bounds-count_of-end
slice_bounds-count_of-end c =
    let count = counted c.requires.there c.index-articles-place.result c.as_slice-sentences.ensures c.as_slice-meant.ensures c.index-senses-place.is in
    sym (length-take-le c.args.stretch.now.from c.as_slice-sentences.result.now (omega (arith, count.0, c.requires.there.rises, c.requires.there.within)))

pub slice_bounds-count_of-end-2 : goal.slice_bounds-count_of-end-2
slice_bounds-count_of-end-2 c =
    let count = counted c.requires.there c.index-articles-place.result c.as_slice-sentences.ensures c.as_slice-meant.ensures c.index-senses-place.is in
    sym (length-take-le c.args.stretch.now.from c.as_slice-meant.result.now (omega (arith, count.1, c.requires.there.rises, c.requires.there.within)))

pub slice_bounds-count_of-end-3 : goal.slice_bounds-count_of-end-3
slice_bounds-count_of-end-3 c =
    let count = counted c.requires.there c.index-articles-place.result c.as_slice-sentences.ensures c.as_slice-meant.ensures c.index-senses-place.is in
    sym (length-take-le c.args.stretch.now.to c.as_slice-sentences.result.now (omega (arith, count.0, c.requires.there.within)))

pub slice_bounds-count_of-end-4 : goal.slice_bounds-count_of-end-4
slice_bounds-count_of-end-4 c =
    let count = counted c.requires.there c.index-articles-place.result c.as_slice-sentences.ensures c.as_slice-meant.ensures c.index-senses-place.is in
    sym (length-take-le c.args.stretch.now.to c.as_slice-meant.result.now (omega (arith, count.1, c.requires.there.within)))

pub count_of-own-requires : goal.count_of-own-requires
unfolding before
count_of-own-requires c =
    let count = counted c.requires.there c.index-articles-place.result c.as_slice-sentences.ensures c.as_slice-meant.ensures c.index-senses-place.is in
    let long = known-long c.requires.there in
    omega (arith, count.2, long, c.requires.total)

pub count_of-upto-requires : goal.count_of-upto-requires
unfolding before between
count_of-upto-requires c =
    let count = counted c.requires.there c.index-articles-place.result c.as_slice-sentences.ensures c.as_slice-meant.ensures c.index-senses-place.is in
    let long = known-long c.requires.there in
    omega (arith, count.3, long, c.requires.total)

pub overflow_add-result : goal.overflow_add-result
unfolding front before
overflow_add-result c =
    let count = counted c.requires.there c.index-articles-place.result c.as_slice-sentences.ensures c.as_slice-meant.ensures c.index-senses-place.is in
    let long = known-long c.requires.there in
    omega (arith, count.2, long, c.requires.total, c.count_in-before.ensures, c.count_of-own.ensures)

pub overflow_sub-result : goal.overflow_sub-result
unfolding before between
overflow_sub-result c =
    let count = counted c.requires.there c.index-articles-place.result c.as_slice-sentences.ensures c.as_slice-meant.ensures c.index-senses-place.is in
    omega (arith, count.2, count.3, c.count_of-own.ensures, c.count_of-upto.ensures)

pub returns-clause-within : goal.returns-clause-within
unfolding front before between
returns-clause-within c =
    let count = counted c.requires.there c.index-articles-place.result c.as_slice-sentences.ensures c.as_slice-meant.ensures c.index-senses-place.is in
    let long = known-long c.requires.there in
    omega (arith, count.2, count.3, long, c.count_in-before.ensures, c.count_of-own.ensures, c.count_of-upto.ensures)

pub returns-clause-around : goal.returns-clause-around
unfolding front before between
returns-clause-around c =
    let count = counted c.requires.there c.index-articles-place.result c.as_slice-sentences.ensures c.as_slice-meant.ensures c.index-senses-place.is in
    stand c.requires.there (c.count_in-before.result + c.count_of-own.result) (c.count_of-upto.result - c.count_of-own.result)
    (omega (arith, count.2, c.count_in-before.ensures, c.count_of-own.ensures))
    (omega (arith, count.2, count.3, c.count_of-own.ensures, c.count_of-upto.ensures))
