-- Rolling up, by the lists of a structure.
use Rattle.std.proofs.Common.{◌≡◌, ℕ, List, [], ◌∷◌, ◌++◌, Option, Result, Ok, Err, map, refl, sym, ap, ◌∙◌, append_assoc}
use Rattle.logic_terms.specs.declared.structures.Thing.{Thing}
use Rattle.logic_terms.specs.declared.cause.Cause.{Cause}
use Rattle.logic_terms.specs.Structure.{Condition, Structure, conditions_from, referents_in, conditions_in}
use Rattle.ace_to_owl.specs.declared.fault.Fault.{Fault}
use Rattle.ace_to_owl.specs.declared.fault.Fault.TheVariants.{Outside, Memory}
use Rattle.ace_to_owl.specs.Answers.{Agrees}
use Rattle.ace_to_owl.specs.Outcomes.{next}
use Rattle.ace_to_owl.specs.Parts.{Part, class_of_tree}
use Rattle.ace_to_owl.specs.Rolling.{roll, roll_with, parts, part_of}
use Rattle.ace_to_owl.proofs.TermsLemmas.{structure_by}

pub roll_by : (root : Option Thing) (k : Structure) (rs : List ℕ) (cs : List Condition) → rs ≡ referents_in k → cs ≡ conditions_in k
    → next (parts root rs (conditions_from cs)) (class_of_tree rs) ≡ roll root k
roll_by root k rs cs referents conditions =
    (λ j. next (parts root (referents j) (conditions_from (conditions j))) (class_of_tree (referents j))) ∙ sym (ap (roll root) (structure_by k))

pub roll_with_by : (root : Option Thing) (k : Structure) (last : List ℕ → Result Part Cause) (rs : List ℕ) (cs : List Condition) → rs ≡ referents_in k
    → cs ≡ conditions_in k → next (parts root rs (conditions_from cs)) (λ ps. next (last rs) (λ p. class_of_tree rs (ps ++ p ∷ []))) ≡ roll_with root k last
roll_with_by root k last rs cs referents conditions =
    (λ j. next (parts root (referents j) (conditions_from (conditions j))) (λ ps. next (last (referents j)) (λ p. class_of_tree (referents j) (ps ++ p ∷ []))))
    ∙ sym (ap (λ s. roll_with root s last) (structure_by k))

-- the first cause ends everything
pub stopped : {X Y Z W : Type 0} (f : X → Y) (g : Z → W) (e : Fault) (wanted : Result Y Cause) (step : Y → Result W Cause) → Agrees f (Err e) wanted
    → Agrees g (Err e) (next wanted step)
stopped f g (Outside cause) wanted step agrees = ap (λ w. next w step) agrees
stopped f g Memory wanted step agrees = tt

-- what conditions give, one after another, behind those that were passed: what is left decides
module _ (root : Option Thing) (rs : List ℕ) (whole : Result (List Part) Cause) (now rest : List Condition) (c : Condition) (made : List Part)
    (first : now ≡ c ∷ rest) (left : next (parts root rs (conditions_from now)) (λ ps. Ok (made ++ ps)) ≡ whole) where
  here : next (next (part_of root rs c) (λ p. next (parts root rs (conditions_from rest)) (λ ps. Ok (p ∷ ps)))) (λ ps. Ok (made ++ ps)) ≡ whole
  here = ap (λ ds. next (parts root rs (conditions_from ds)) (λ ps. Ok (made ++ ps))) (sym first) ∙ left

  pub parts_stop : {X : Type 0} (shown : X → Part) (e : Fault) → Agrees shown (Err e) (part_of root rs c) → Agrees (λ (xs : List X). map shown xs) (Err e) whole
  parts_stop shown (Outside cause) agrees =
      sym here ∙ ap (λ w. next (next w (λ p. next (parts root rs (conditions_from rest)) (λ ps. Ok (p ∷ ps)))) (λ ps. Ok (made ++ ps))) agrees
  parts_stop shown Memory agrees = tt

  more_by : (p : Part) (w : Result (List Part) Cause) → next (next w (λ ps. Ok (p ∷ ps))) (λ ps. Ok (made ++ ps)) ≡ next w (λ ps. Ok ((made ++ p ∷ []) ++ ps))
  more_by p (Ok ps) = ap Ok (sym (append_assoc made (p ∷ []) ps))
  more_by p (Err cause) = refl

  pub parts_go : (p : Part) (more : List Part) → part_of root rs c ≡ Ok p → more ≡ made ++ p ∷ []
      → next (parts root rs (conditions_from rest)) (λ ps. Ok (more ++ ps)) ≡ whole
  parts_go p more gives on =
      ap (λ m. next (parts root rs (conditions_from rest)) (λ ps. Ok (m ++ ps))) on
      ∙ sym (more_by p (parts root rs (conditions_from rest)))
      ∙ sym (ap (λ w. next (next w (λ q. next (parts root rs (conditions_from rest)) (λ ps. Ok (q ∷ ps)))) (λ ps. Ok (made ++ ps))) gives)
      ∙ here
