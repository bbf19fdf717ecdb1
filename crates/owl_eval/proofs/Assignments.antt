-- Laws of assignments that are built up referent by referent.
use Rattle.std.proofs.Common.{◌≡◌, ℕ, suc, ◌+◌, ◌-◌, ◌<◌, ◌&&◌, Bool, List, [], ◌∷◌, ◌++◌, length, get_or, take, Result, Ok, Err, IsTrue, IfOk, refl, ap, ◌∙◌, arith}
use Rattle.std.specs.Prelude.{◌↔◌}
use Rattle.std.specs.Bool.{Decides}
use Rattle.std.proofs.lemmas.Bool.Decides.{Decides-at}
use Rattle.std.proofs.lemmas.List.{take_more}
use Rattle.lists.specs.declared.memory.Memory.{Memory}
use Rattle.logic_terms.specs.Free.{IsClosed}
use Rattle.logic_terms.specs.Reading.{IsTrueUnder}
use Rattle.logic_terms.proofs.Closed.{is_true-closed}
use Rattle.logic_terms.proofs.Extensions.{is_true-Decides}
use Rattle.logic_terms.specs.Structure.{Structure, Conditions, Condition, Implication, no_condition, also_condition, structure, conditions_from, condition_list, conditions_in, referents_in}
use Rattle.logic_terms.specs.Interpretation.{Interpretation}
use Rattle.logic_terms.specs.Meaning.{implies}
use Rattle.logic_terms.specs.Truth.{giving, some_extension, each_extension, is_true, all_true, condition_true, implies_test}
use Rattle.owl_eval.specs.Assigned.{assigned, assigned_from, nothing_given, each_condition, carries_over}

assigned_from-push : (f : ℕ → ℕ) (es : List (ℕ × ℕ)) (e : ℕ × ℕ) → assigned_from f (es ++ e ∷ []) ≡ giving (assigned_from f es) e.0 e.1
assigned_from-push f [] e = refl
assigned_from-push f (d ∷ es) e = assigned_from-push (giving f d.0 d.1) es e

pub assigned-push : (es : List (ℕ × ℕ)) (e : ℕ × ℕ) → assigned (es ++ e ∷ []) ≡ giving (assigned es) e.0 e.1
assigned-push es e = assigned_from-push nothing_given es e

pub assigned_more : (es : List (ℕ × ℕ)) (k q : ℕ) → k < length es
    → assigned (take (k + 1) es) q ≡ giving (assigned (take k es)) (get_or es k (0, 0)).0 (get_or es k (0, 0)).1 q
assigned_more es k q lt =
    ap (λ xs. assigned xs q) (take_more es k (0, 0) lt) ∙ (λ j. assigned-push (take k es) (get_or es k (0, 0)) j q)

-- the conditions of a list are true where each of them is
all_from : (i : Interpretation) (cs : List Condition) (f : ℕ → ℕ) → each_condition i cs f ≡ all_true i (conditions_from cs) f
all_from i [] f = refl
all_from i (c ∷ cs) f = ap (λ b. condition_true i c f && b) (all_from i cs f)

some_all : (i : Interpretation) (rs : List ℕ) (cs : List Condition) (f : ℕ → ℕ)
    → some_extension i.size rs (each_condition i cs) f ≡ is_true i (structure rs (conditions_from cs)) f
some_all i rs cs f = λ j. some_extension i.size rs (λ g. all_from i cs g j) f

each_all : (i : Interpretation) (rs : List ℕ) (cs : List Condition) (l : Structure) (f : ℕ → ℕ)
    → each_extension i.size rs (carries_over i cs l) f ≡ implies_test i (structure rs (conditions_from cs)) (is_true i l) f
each_all i rs cs l f = λ j. each_extension i.size rs (λ g. implies (all_from i cs g j) (is_true i l g)) f

-- what is true in an assignment that was built with one more referent
pub after_push : (test : (ℕ → ℕ) → Bool) (start es fs : List (ℕ × ℕ)) (r x : ℕ) → fs ≡ es ++ (r, x) ∷ [] → es ≡ start
    → test (assigned fs) ≡ test (giving (assigned start) r x)
after_push test start es fs r x pushed same =
    ap (λ z. test (assigned z)) pushed ∙ (ap test (assigned-push es (r, x)) ∙ ap (λ z. test (giving (assigned z) r x)) same)

-- a structure from its own parts
back_again : (cs : Conditions) → conditions_from (condition_list cs) ≡ cs
back_again no_condition = refl
back_again (also_condition c cs) = ap (also_condition c) (back_again cs)

whole_again : (k : Structure) → structure (referents_in k) (conditions_from (conditions_in k)) ≡ k
whole_again (structure rs cs) = ap (structure rs) (back_again cs)

module _ (i : Interpretation) (k : Structure) (rs : List ℕ) (cs : List Condition) (f : ℕ → ℕ) (referents : rs ≡ referents_in k)
    (conditions : cs ≡ conditions_in k) where
  pub of_structure : some_extension i.size rs (each_condition i cs) f ≡ is_true i k f
  of_structure =
      some_all i rs cs f
      ∙ (ap (λ qs. is_true i (structure qs (conditions_from cs)) f) referents
      ∙ (ap (λ ds. is_true i (structure (referents_in k) (conditions_from ds)) f) conditions
      ∙ ap (λ w. is_true i w f) (whole_again k)))

  pub of_implication : (l : Structure) → each_extension i.size rs (carries_over i cs l) f ≡ condition_true i (Implication k l) f
  of_implication l =
      each_all i rs cs l f
      ∙ (ap (λ qs. implies_test i (structure qs (conditions_from cs)) (is_true i l) f) referents
      ∙ (ap (λ ds. implies_test i (structure (referents_in k) (conditions_from ds)) (is_true i l) f) conditions
      ∙ ap (λ w. implies_test i w (is_true i l) f) (whole_again k)))

-- what a pop leaves of a list that was pushed to
take_front : {X : Type 0} (es ys : List X) → take (length es) (es ++ ys) ≡ es
take_front [] ys = refl
take_front (e ∷ es) ys = ap (λ rest. e ∷ rest) (take_front es ys)

length_pushed : {X : Type 0} (es : List X) (e : X) → length (es ++ e ∷ []) ≡ suc (length es)
length_pushed [] e = refl
length_pushed (d ∷ es) e = ap suc (length_pushed es e)

pub popped : {X : Type 0} (es s t : List X) (e : X) (n : ℕ) → s ≡ es ++ e ∷ [] → n ≡ length s → t ≡ take (n - 1) s → t ≡ es
popped es s t e n pushed count rest =
    let size : n - 1 ≡ length es = omega (arith, count, ap length pushed, length_pushed es e) in
    rest ∙ (ap (λ m. take m s) size ∙ (ap (take (length es)) pushed ∙ take_front es (e ∷ [])))

-- what is true of an answer's test holds of what it decides
pub ok_decides : (r : Result Bool Memory) (b : Bool) (P : Type 0) → IfOk r (λ answer. answer ≡ b) → Decides b P → IfOk r (λ answer. IsTrue answer ↔ P)
ok_decides (Ok answer) b P same decides = Decides-at answer b same decides
ok_decides (Err e) b P same decides = tt

-- the same under every assignment, for a structure with no free referent
pub ok_closed : (r : Result Bool Memory) (i : Interpretation) (k : Structure) (g : ℕ → ℕ) → IfOk r (λ answer. answer ≡ is_true i k g)
    → IfOk r (λ answer. IsClosed k → (f : ℕ → ℕ) → IsTrue answer ↔ IsTrueUnder i k f)
ok_closed (Ok answer) i k g same = λ closed f. Decides-at answer (is_true i k f) (same ∙ is_true-closed i k closed g f) (is_true-Decides i k f)
ok_closed (Err e) i k g same = tt
