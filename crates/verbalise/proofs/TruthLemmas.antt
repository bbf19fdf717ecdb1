-- What is read as exactly one axiom is true where the axiom is: the structure of a derivation's skeleton introduces each referent
-- once, and the mapping of such a structure keeps its truth.
use Rattle.std.proofs.Common.{◌≡◌, ◌↔◌, ℕ, Bool, true, false, cond, List, [], ◌∷◌, Option, Some, None, Result, Ok, Err, All, refl, sym, ◌∙◌}
use Rattle.std.proofs.lemmas.List.Elements.{All-cons, All-nil, All-head}
use Rattle.codeco_terms.specs.GrammarParts.{GrammarParts}
use Rattle.codeco_checked.specs.Sound.{IsSound}
use Rattle.lexicon.specs.Words.{Listed}
use Rattle.derivation_trees.specs.declared.skeletons.Skeleton.{Skeleton}
use Rattle.logic_terms.specs.declared.cause.Cause.{Cause}
use Rattle.logic_terms.specs.Concept.{Claim}
use Rattle.logic_terms.specs.Structure.{Structure}
use Rattle.logic_terms.specs.Free.{free_in}
use Rattle.logic_terms.specs.Interpretation.{Interpretation}
use Rattle.logic_terms.specs.Reading.{Holds, IsModel, IsTrueUnder}
use Rattle.ace_to_owl.specs.Mapping.{axioms_stated}
use Rattle.ace_to_owl.proofs.Keeps.{statement_reads}
use Rattle.drs_build.specs.Nodes.{meaning_of}
use Rattle.drs_build.specs.Built.{is_question}
use Rattle.drs_build.proofs.DerivedLemmas.{derived_once, least_derived}
use Rattle.verbalise.specs.Readings.{Understood, question, stating, statement_by, statement, skeleton_read, ReadsAs}
use Rattle.verbalise.specs.Spoken.{AreTrueTogether}

mapped : (made : Result (List Claim) Cause) (claims : List Claim) → stating claims ≡ statement_by made → made ≡ Ok claims
mapped (Ok given) claims h = cc
mapped (Err cause) claims h = cc

closed : (k : Structure) (free : Option ℕ) (claims : List Claim) → stating claims ≡ statement k free → axioms_stated k ≡ Ok claims
closed k None claims h = mapped (axioms_stated k) claims h
closed k (Some referent) claims h = cc

stated : (k : Structure) (free : Option ℕ) (asks : Bool) (claims : List Claim) → stating claims ≡ cond asks question (statement k free)
    → axioms_stated k ≡ Ok claims
stated k free true claims h = cc
stated k free false claims h = closed k free claims h

-- the mapping of a skeleton that states axioms
skeleton_stated : (g : GrammarParts) (sk : Skeleton) (claims : List Claim) → stating claims ≡ skeleton_read g sk
    → axioms_stated (meaning_of g sk).says ≡ Ok claims
skeleton_stated g sk claims h = stated (meaning_of g sk).says (free_in [] (meaning_of g sk).says) (is_question g sk) claims h

-- a model of one axiom is an interpretation in which it is true
model_of_one : (i : Interpretation) (claim : Claim) → IsModel i (claim ∷ []) ↔ Holds i claim
model_of_one i claim = (λ h. All-head (Holds i) claim [] h, λ h. All-cons (Holds i) claim [] h (All-nil (Holds i)))

pub true_together : (g : GrammarParts) (words : Listed) (tokens : List (List ℕ)) (claim : Claim) → IsSound g
    → ReadsAs g words tokens (stating (claim ∷ [])) → AreTrueTogether g words tokens claim
true_together g words tokens claim sound reads = record {
  least = reads.least;
  is_least = reads.is_least;
  same = λ i lawful f.
      let both = statement_reads (meaning_of g reads.least).says (claim ∷ []) (skeleton_stated g reads.least (claim ∷ []) reads.is)
      (derived_once g reads.least sound (least_derived g words tokens reads.least reads.is_least)) i lawful f in
      (λ h. (model_of_one i claim).0 (both.0 h), λ h. both.1 ((model_of_one i claim).1 h));
}
