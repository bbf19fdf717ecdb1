use Rattle.std.proofs.Common.{IsSome, is_some, sym, ap, subst, ◌∙◌}
use Rattle.std.proofs.lemmas.Bool.{false≢true}
use Rattle.lexicon.specs.Words.{forms_of}
use Rattle.wiki_parts.specs.Holding.{Holding}
use Rattle.wiki_parts.proofs.UseLemmas.{lives-article}
use Rattle.wiki_store.proofs.KeepingLemmas.{few_there}
use Rattle.wiki_store.proofs.base.Base.article.Goals as goal

pub unreachable-requires : goal.unreachable-requires
unreachable-requires c =
    let lives : IsSome (forms_of c.self.inside.lexicon.live c.args.word) =
    subst (λ (h : Holding). IsSome (forms_of h.state.words.live c.args.word)) (sym c.self.view_is) c.requires in
    let there = lives-article c.self.inside.articles c.self.inside.lexicon.live c.args.word c.self.invariant.0.sound.articles lives in
    absurd (false≢true (ap is_some c.in-None.ensures ∙ there))

pub returns-clause-few : goal.returns-clause-few
returns-clause-few c = few_there c.self.inside.articles c.args.word _ (sym c.in-Some.ensures) c.self.invariant.0.sound.few
