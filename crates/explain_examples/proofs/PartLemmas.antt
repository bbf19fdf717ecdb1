-- Parts that are fit, and one more.
use Rattle.std.proofs.Common.{◌≡◌, List, [], ◌∷◌, ◌++◌, All, refl, sym, ap, subst}
use Rattle.std.specs.Prelude.{IsTrue}
use Rattle.std.proofs.lemmas.List.Elements.{All-push}
use Rattle.wiki_base.specs.declared.numbers.WordId.{WordId}
use Rattle.logic_terms.specs.Concept.{Claim}
use Rattle.logic_terms.specs.Plain.{are_plain}
use Rattle.logic_terms.specs.Shown.{claims_of}
use Rattle.absorb.specs.Mentioned.{are_over}
use Rattle.explain.specs.declared.part.Part.{Part}
use Rattle.explain.specs.Answers.{claims_in}

-- the axioms of each part are over the names and plain
pub record AreFit (names : List WordId) (parts : List Part) : Type 0 where
  pub over : All (λ claims. IsTrue (are_over names claims)) (claims_in parts)
  pub plain : All (λ claims. IsTrue (are_plain claims)) (claims_in parts)

claims_more : (parts : List Part) (part : Part) → claims_in (parts ++ part ∷ []) ≡ claims_in parts ++ claims_of part.axioms ∷ []
claims_more [] part = refl
claims_more (p ∷ ps) part = ap (λ l. claims_of p.axioms ∷ l) (claims_more ps part)

pub one_more : (names : List WordId) (parts : List Part) (part : Part) → AreFit names parts → IsTrue (are_over names (claims_of part.axioms))
    → IsTrue (are_plain (claims_of part.axioms)) → AreFit names (parts ++ part ∷ [])
one_more names parts part fit over plain = record {
  over = subst (All (λ claims. IsTrue (are_over names claims))) (sym (claims_more parts part))
      (All-push (λ claims. IsTrue (are_over names claims)) (claims_in parts) (claims_of part.axioms) fit.over over);
  plain = subst (All (λ claims. IsTrue (are_plain claims))) (sym (claims_more parts part))
      (All-push (λ claims. IsTrue (are_plain claims)) (claims_in parts) (claims_of part.axioms) fit.plain plain);
}
