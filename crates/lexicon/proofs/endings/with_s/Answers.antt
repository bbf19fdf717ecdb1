use Rattle.std.proofs.Common.{[], ◌∷◌, sym, subst}
use Rattle.wiki_base.specs.Text.{IsText}
use Rattle.lexicon.proofs.Letters.{letters-es, letters-ies, letters-s, text-with_letters, text-past_y}
use Rattle.lexicon.proofs.endings.with_s.Goals as goal

-- each ending is of letters
pub extended-requires-clause-letters : goal.extended-requires-clause-letters
extended-requires-clause-letters c = λ few. text-with_letters c.as_str-text.result.now (101 ∷ 115 ∷ []) c.as_str-text.utf8
    (subst (λ t. IsText t) (sym c.as_str-text.ensures.value) c.as_str-text.ensures.text) letters-es few

pub extended-requires-in-Some-clause-letters : goal.extended-requires-in-Some-clause-letters
extended-requires-in-Some-clause-letters c =
    λ few. text-past_y c.as_str-text.result.now c.in-Some.stem.now (105 ∷ 101 ∷ 115 ∷ []) c.as_str-text.utf8
    (subst (λ t. IsText t) (sym c.as_str-text.ensures.value) c.as_str-text.ensures.text) c.in-Some.ensures letters-ies few

pub extended-requires-in-None-clause-letters : goal.extended-requires-in-None-clause-letters
extended-requires-in-None-clause-letters c =
    λ few. text-with_letters c.as_str-text.result.now (115 ∷ []) c.as_str-text.utf8
    (subst (λ t. IsText t) (sym c.as_str-text.ensures.value) c.as_str-text.ensures.text) letters-s few
