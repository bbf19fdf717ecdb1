use Rattle.std.proofs.Common.{List, Option, None, refl, sym, subst}
use Rattle.std.specs.Option.{option_copied}
use Rattle.wiki_base.specs.declared.numbers.Place.{Place}
use Rattle.articles.specs.declared.article.Article.{Article}
use Rattle.wiki_parts.specs.declared.meanings.Sense.{Sense}
use Rattle.wiki_parts.specs.Holding.{Holding}
use Rattle.wiki_parts.specs.Kept.{MeanInEach}
use Rattle.plain_wiki.specs.Places.{all_placed}
use Rattle.plain_wiki.specs.Causes.{KeepsMeaning}
use Rattle.plain_wiki.specs.State.{Stored}
use Rattle.wiki_parts.specs.Sound.{IsSound}
use Rattle.wiki_store.specs.Rewording.{PassesOthers, FindsPlace}
use Rattle.wiki_store.proofs.FindLemmas.{place_lives, broken_place, finds_none, passed_place}
use Rattle.wiki_store.proofs.base.Base.unbroken.Goals as goal

pub breaks-requires : goal.breaks-requires
breaks-requires c =
    let inside : Stored = record {
      grammar = c.self.inside.grammar;
      words = c.self.inside.lexicon;
      articles = c.self.inside.articles;
    } in
    let state = c.args.self.now.state in
    let others = subst (λ (h : Holding). PassesOthers h.state.grammar h.state.words c.args.grammar.now c.args.lexicon.now (option_copied c.args.forms))
    (sym c.self.view_is) c.requires.others in
    let mean : MeanInEach inside.grammar inside.words c.as_slice.result.now c.deref.result.now =
    subst (λ (ms : List (List Sense)). MeanInEach inside.grammar inside.words c.as_slice.result.now ms) (sym c.deref.ensures.value)
    (subst (λ (xs : List Article). MeanInEach inside.grammar inside.words xs c.self.inside.senses.items) (sym c.as_slice.ensures.articles)
    c.self.invariant.0.mean) in
    let here = subst (λ (xs : List Article). FindsPlace
    (λ placed. KeepsMeaning inside.grammar inside.words c.args.grammar.now c.args.lexicon.now placed.sentence.tokens)
    (all_placed xs) c.in_ok-found.found)
    c.as_slice.ensures.articles (c.in_ok-found.ensures inside.grammar inside.words mean others) in
    let there : FindsPlace (λ placed. KeepsMeaning state.grammar state.words c.args.grammar.now c.args.lexicon.now placed.sentence.tokens)
    (all_placed state.articles)
    c.in_ok-found.found =
    subst (λ (h : Holding). FindsPlace (λ placed. KeepsMeaning h.state.grammar h.state.words c.args.grammar.now c.args.lexicon.now placed.sentence.tokens)
    (all_placed h.state.articles) c.in_ok-found.found) c.self.view_is here in
    let sound : IsSound state = subst (λ (h : Holding). IsSound h.state) c.self.view_is c.self.invariant.0.sound in
    place_lives (λ placed. KeepsMeaning state.grammar state.words c.args.grammar.now c.args.lexicon.now placed.sentence.tokens) state sound c.in-Some.place
    (subst (λ (o : Option Place). FindsPlace (λ placed. KeepsMeaning state.grammar state.words c.args.grammar.now c.args.lexicon.now placed.sentence.tokens)
    (all_placed state.articles) o) c.in-Some.is there)

pub returns-in_ok-breaks-in-Some-clause-refused : goal.returns-in_ok-breaks-in-Some-clause-refused
returns-in_ok-breaks-in-Some-clause-refused c =
    let inside : Stored = record {
      grammar = c.self.inside.grammar;
      words = c.self.inside.lexicon;
      articles = c.self.inside.articles;
    } in
    let state = c.args.self.now.state in
    let others = subst (λ (h : Holding). PassesOthers h.state.grammar h.state.words c.args.grammar.now c.args.lexicon.now (option_copied c.args.forms))
    (sym c.self.view_is) c.requires.others in
    let mean : MeanInEach inside.grammar inside.words c.as_slice.result.now c.deref.result.now =
    subst (λ (ms : List (List Sense)). MeanInEach inside.grammar inside.words c.as_slice.result.now ms) (sym c.deref.ensures.value)
    (subst (λ (xs : List Article). MeanInEach inside.grammar inside.words xs c.self.inside.senses.items) (sym c.as_slice.ensures.articles)
    c.self.invariant.0.mean) in
    let here = subst (λ (xs : List Article). FindsPlace
    (λ placed. KeepsMeaning inside.grammar inside.words c.args.grammar.now c.args.lexicon.now placed.sentence.tokens)
    (all_placed xs) c.in_ok-found.found)
    c.as_slice.ensures.articles (c.in_ok-found.ensures inside.grammar inside.words mean others) in
    let there : FindsPlace (λ placed. KeepsMeaning state.grammar state.words c.args.grammar.now c.args.lexicon.now placed.sentence.tokens)
    (all_placed state.articles)
    c.in_ok-found.found =
    subst (λ (h : Holding). FindsPlace (λ placed. KeepsMeaning h.state.grammar h.state.words c.args.grammar.now c.args.lexicon.now placed.sentence.tokens)
    (all_placed h.state.articles) c.in_ok-found.found) c.self.view_is here in
    broken_place state c.args.grammar.now c.args.lexicon.now c.in-Some.place
    (subst (λ (o : Option Place). FindsPlace (λ placed. KeepsMeaning state.grammar state.words c.args.grammar.now c.args.lexicon.now placed.sentence.tokens)
    (all_placed state.articles) o) c.in-Some.is there)
    c.in_ok-breaks-in-Some.field-0 c.in_ok-breaks-in-Some.ensures

pub returns-in-None-clause-keep : goal.returns-in-None-clause-keep
returns-in-None-clause-keep c =
    let inside : Stored = record {
      grammar = c.self.inside.grammar;
      words = c.self.inside.lexicon;
      articles = c.self.inside.articles;
    } in
    let state = c.args.self.now.state in
    let others = subst (λ (h : Holding). PassesOthers h.state.grammar h.state.words c.args.grammar.now c.args.lexicon.now (option_copied c.args.forms))
    (sym c.self.view_is) c.requires.others in
    let mean : MeanInEach inside.grammar inside.words c.as_slice.result.now c.deref.result.now =
    subst (λ (ms : List (List Sense)). MeanInEach inside.grammar inside.words c.as_slice.result.now ms) (sym c.deref.ensures.value)
    (subst (λ (xs : List Article). MeanInEach inside.grammar inside.words xs c.self.inside.senses.items) (sym c.as_slice.ensures.articles)
    c.self.invariant.0.mean) in
    let here = subst (λ (xs : List Article). FindsPlace
    (λ placed. KeepsMeaning inside.grammar inside.words c.args.grammar.now c.args.lexicon.now placed.sentence.tokens)
    (all_placed xs) c.in_ok-found.found)
    c.as_slice.ensures.articles (c.in_ok-found.ensures inside.grammar inside.words mean others) in
    let there : FindsPlace (λ placed. KeepsMeaning state.grammar state.words c.args.grammar.now c.args.lexicon.now placed.sentence.tokens)
    (all_placed state.articles)
    c.in_ok-found.found =
    subst (λ (h : Holding). FindsPlace (λ placed. KeepsMeaning h.state.grammar h.state.words c.args.grammar.now c.args.lexicon.now placed.sentence.tokens)
    (all_placed h.state.articles) c.in_ok-found.found) c.self.view_is here in
    finds_none (λ placed. KeepsMeaning state.grammar state.words c.args.grammar.now c.args.lexicon.now placed.sentence.tokens) (all_placed state.articles)
    (passed_place (λ placed. KeepsMeaning state.grammar state.words c.args.grammar.now c.args.lexicon.now placed.sentence.tokens) (all_placed state.articles)
    None refl
    (subst (λ (o : Option Place). FindsPlace (λ placed. KeepsMeaning state.grammar state.words c.args.grammar.now c.args.lexicon.now placed.sentence.tokens)
    (all_placed state.articles) o) c.in-None.is there))
