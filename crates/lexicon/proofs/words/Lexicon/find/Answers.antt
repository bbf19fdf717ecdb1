use Rattle.std.proofs.Common.{◌≡◌, Option, Some, None, IfSome, IsSome, sym, subst, ◌∙◌}
use Rattle.std.specs.HashMap.{get_by_text}
use Rattle.wiki_base.specs.declared.numbers.WordId.{WordId}
use Rattle.lexicon.specs.Words.{Listed, owner, forms_of}
use Rattle.lexicon.proofs.Owners.{owner_lives}
use Rattle.lexicon.proofs.words.Lexicon.find.Goals as goal

-- the word that has the form lives
pub returns-clause-lives : goal.returns-clause-lives
returns-clause-lives c = found c.copied.result
    (c.copied.ensures ∙ c.get.ensures.value
    ∙ subst (λ (listed : Listed). get_by_text c.self.inside.index c.args.form.now ≡ owner listed.live c.args.form.now) c.self.view_is
    (c.self.invariant.1 c.args.form.now))
  where
    found : (o : Option WordId) → o ≡ owner c.args.self.now.live c.args.form.now → IfSome o (λ id. IsSome (forms_of c.args.self.now.live id))
    found None is = tt
    found (Some id) is = owner_lives c.args.self.now.live c.args.form.now id (sym is)
