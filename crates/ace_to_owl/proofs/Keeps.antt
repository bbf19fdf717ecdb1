-- The laws of truth in the words of the contracts.
use Rattle.std.proofs.Common.{◌≡◌, ℕ, ◌==◌, ◌||◌, false, List, [], ◌∷◌, Option, Some, None, Ok, Contains, Decides, refl, sym, ap, ◌∙◌, inl, inr}
use Rattle.std.proofs.lemmas.Bool.{eq-eqb, or_cases, eqb-true, both_ways}
use Rattle.logic_terms.specs.declared.structures.Thing.{Thing}
use Rattle.logic_terms.specs.declared.structures.Thing.TheVariants.{Ref, Name}
use Rattle.logic_terms.specs.Concept.{Concept, Claim}
use Rattle.logic_terms.specs.Structure.{Structure, referents_in}
use Rattle.logic_terms.specs.Free.{is_bound}
use Rattle.logic_terms.specs.Introduced.{introduced_in, IntroducesOnce}
use Rattle.logic_terms.specs.Meaning.{is_in, all_hold}
use Rattle.logic_terms.specs.Truth.{giving, is_true}
use Rattle.logic_terms.specs.Reading.{IsIn, IsModel, IsTrueUnder}
use Rattle.logic_terms.proofs.MeaningLemmas.{list_any-Contains, is_in-Decides, all_hold-Decides}
use Rattle.logic_terms.proofs.Extensions.{is_true-Decides}
use Rattle.ace_to_owl.specs.Mapping.{without, class_asked, axioms_stated}
use Rattle.ace_to_owl.specs.Rolling.{roll}
use Rattle.ace_to_owl.specs.Truths.{RollsTruly, SameTruth, SameReading, AnswersTruly, AnswersByReading}
use Rattle.ace_to_owl.proofs.Fresh.{fresh_once, not_both}
use Rattle.ace_to_owl.proofs.RollTruth.{roll_true}
use Rattle.ace_to_owl.proofs.StatementTruth.{statement_true, question_true}

pub roll_keeps : (root : Option Thing) (k : Structure) (c : Concept) → roll root k ≡ Ok c → RollsTruly root k c
roll_keeps None k c made once outside i f x stands =
    roll_true i [] None k c (fresh_once [] k once (λ q none own. both_ways false refl none)) tt made f x stands
roll_keeps (Some (Name name)) k c made once outside i f x stands =
    roll_true i [] (Some (Name name)) k c (fresh_once [] k once (λ q none own. both_ways false refl none)) tt made f x stands
roll_keeps (Some (Ref r)) k c made once outside i f x stands =
    roll_true i (r ∷ []) (Some (Ref r)) k c
    (fresh_once (r ∷ []) k once
    (λ q root own. elim (or_cases (r == q) false root) [
      | inl same ↦ not_both (is_bound (introduced_in k) r) outside (ap (is_bound (introduced_in k)) (eqb-true r q same) ∙ own)
      | inr is_not ↦ both_ways false refl is_not
    ]))
    (ap (λ b. b || false) (eq-eqb r r refl)) made f x stands

pub statement_keeps : (k : Structure) (claims : List Claim) → axioms_stated k ≡ Ok claims → IntroducesOnce k → SameTruth k claims
statement_keeps k claims made once i lawful f = statement_true k claims made once i lawful f

pub statement_reads : (k : Structure) (claims : List Claim) → axioms_stated k ≡ Ok claims → IntroducesOnce k → SameReading k claims
statement_reads k claims made once i lawful f =
    let same : is_true i k f ≡ all_hold i claims = statement_keeps k claims made once i lawful f in
    let left : Decides (is_true i k f) (IsTrueUnder i k f) = is_true-Decides i k f in
    let right : Decides (all_hold i claims) (IsModel i claims) = all_hold-Decides i claims in
    (λ h. right.0 (sym same ∙ left.1 h), λ h. left.0 (same ∙ right.1 h))

pub question_keeps : (k : Structure) (asked : ℕ) (c : Concept) → class_asked k asked ≡ Ok c → IntroducesOnce k
    → Contains (referents_in k) asked → AnswersTruly k asked c
question_keeps k asked c made once own i f x = question_true k asked c made once ((list_any-Contains (referents_in k) asked).1 own) i f x

pub question_reads : (k : Structure) (asked : ℕ) (c : Concept) → class_asked k asked ≡ Ok c → IntroducesOnce k
    → Contains (referents_in k) asked → AnswersByReading k asked c
question_reads k asked c made once own i f x =
    let same : is_in i c x ≡ is_true i (without asked k) (giving f asked x) = question_keeps k asked c made once own i f x in
    let left : Decides (is_in i c x) (IsIn i c x) = is_in-Decides i c x in
    let right : Decides (is_true i (without asked k) (giving f asked x)) (IsTrueUnder i (without asked k) (giving f asked x)) =
    is_true-Decides i (without asked k) (giving f asked x) in
    (λ h. right.0 (sym same ∙ left.1 h), λ h. left.0 (same ∙ right.1 h))
