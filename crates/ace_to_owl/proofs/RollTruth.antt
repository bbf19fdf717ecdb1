-- An element is in the class that a structure rolls up to exactly where the structure is true with it for the root.
use Rattle.std.proofs.Common.{◌≡◌, ℕ, ◌&&◌, Bool, true, false, List, [], ◌∷◌, ◌++◌, Option, Result, Ok, refl, sym, ap, ◌∙◌, subst}
use Rattle.std.specs.Prelude.{not, ◌||◌}
use Rattle.std.specs.List.{list_all}
use Rattle.std.proofs.lemmas.List.Folds.{list_all-append}
use Rattle.std.proofs.lemmas.Bool.{and_from}
use Rattle.std.proofs.Math.Bool.{or-false, and-true, not-not}
use Rattle.wiki_base.proofs.BoolLaws.{and_first, and_second}
use Rattle.logic_terms.specs.declared.structures.Thing.{Thing}
use Rattle.logic_terms.specs.declared.cause.Cause.{Cause}
use Rattle.logic_terms.specs.Concept.{Concept, UnionOf, no_concept, also_concept}
use Rattle.logic_terms.specs.Complement.{complement}
use Rattle.logic_terms.specs.Structure.{Condition, Conditions, Structure, IsA, AreRelated, AreSame, Negation, Implication, Disjunction, no_condition, also_condition, structure, referents_in}
use Rattle.logic_terms.specs.Free.{is_bound}
use Rattle.logic_terms.specs.Interpretation.{Interpretation}
use Rattle.logic_terms.specs.Meaning.{is_in}
use Rattle.logic_terms.specs.Truth.{is_true, implies_test, all_true, condition_true}
use Rattle.logic_terms.proofs.ComplementLemmas.{is_in-complement}
use Rattle.ace_to_owl.specs.Outcomes.{next}
use Rattle.ace_to_owl.specs.Terms.{open_terms}
use Rattle.ace_to_owl.specs.Parts.{Part, At, class_of_tree}
use Rattle.ace_to_owl.specs.Truths.{Stands}
use Rattle.ace_to_owl.specs.Rolling.{member, is_foreign, holder, held, negated_class, either_class, negation_part, roll, roll_with, parts, part_of}
use Rattle.ace_to_owl.proofs.TreeTruth.{part_true}
use Rattle.ace_to_owl.proofs.TreeMeaning.{value, within, tree_meaning}
use Rattle.ace_to_owl.proofs.RollMeaning.{Went, went, ok_same, Covered, fresh_in, fresh_in_all, fresh_in_condition, stands_on, extension_same, Sound, sound_at, noun_by, relation_by, never_same, Holding, holding, not_each}

-- what the parts of conditions say together
pub record AllSound (i : Interpretation) (root : Option Thing) (rs : List ℕ) (ps : List Part) (cs : Conditions) : Type 0 where
  pub inside : list_all (within rs) ps ≡ true
  pub truth : (g : ℕ → ℕ) (x : ℕ) → Stands i g root x → list_all (part_true i (value x g)) ps ≡ all_true i cs g

-- a class that is made at the holder of a condition says what the condition says
held_sound : (i : Interpretation) (bound : List ℕ) (root : Option Thing) (rs : List ℕ) (c : Condition) (make : Option Thing → Result Concept Cause) (p : Part)
    → Covered root bound → held root rs c make ≡ Ok p
    → ((v : Option Thing) (d : Concept) → Covered v (bound ++ rs) → make v ≡ Ok d → (g : ℕ → ℕ) (x : ℕ) → Stands i g v x → is_in i d x ≡ condition_true i c g)
    → Sound i root rs p c
held_sound i bound root rs c make p cover e meaning =
    let w : Went (holder root rs (open_terms root c)) (λ h. next (make h.0) (λ k. Ok (At h.1 k))) p =
    went (holder root rs (open_terms root c)) (λ h. next (make h.0) (λ k. Ok (At h.1 k))) p e in
    let v : Went (make w.from.0) (λ k. Ok (At w.from.1 k)) p = went (make w.from.0) (λ k. Ok (At w.from.1 k)) p w.after in
    let h : Holding i root bound rs w.from = holding i root bound rs (open_terms root c) w.from cover w.first in
    sound_at i root rs p (At w.from.1 v.from) c (ok_same (At w.from.1 v.from) p v.after)
    (record {
      inside = h.inside;
      truth = λ g x stands. meaning w.from.0 v.from h.covered v.first g (value x g w.from.1) (h.stands g x stands);
    })

-- the complement of what is made
negated_made : (i : Interpretation) (w : Result Concept Cause) (d : Concept) (x : ℕ) (b : Bool) → negated_class w ≡ Ok d
    → ((c : Concept) → w ≡ Ok c → is_in i c x ≡ b) → is_in i d x ≡ not b
negated_made i w d x b e meaning =
    let v : Went w (λ c. Ok (complement c)) d = went w (λ c. Ok (complement c)) d e in
    sym (ap (λ c. is_in i c x) (ok_same (complement v.from) d v.after))
    ∙ is_in-complement i v.from x
    ∙ ap not (meaning v.from v.first)

-- one or the other of what is made
either_made : (i : Interpretation) (w v : Result Concept Cause) (d : Concept) (x : ℕ) (a b : Bool) → either_class w v ≡ Ok d
    → ((c : Concept) → w ≡ Ok c → is_in i c x ≡ a) → ((c : Concept) → v ≡ Ok c → is_in i c x ≡ b) → is_in i d x ≡ (a || b)
either_made i w v d x a b e left right =
    let one : Went w (λ c. next v (λ k. Ok (UnionOf (also_concept c (also_concept k no_concept))))) d =
    went w (λ c. next v (λ k. Ok (UnionOf (also_concept c (also_concept k no_concept))))) d e in
    let two : Went v (λ k. Ok (UnionOf (also_concept one.from (also_concept k no_concept)))) d =
    went v (λ k. Ok (UnionOf (also_concept one.from (also_concept k no_concept)))) d one.after in
    sym (ap (λ c. is_in i c x) (ok_same (UnionOf (also_concept one.from (also_concept two.from no_concept))) d two.after))
    ∙ (λ j. left one.from one.first j || (right two.from two.first j || false))
    ∙ ap (λ z. a || z) (or-false b)

-- one more part at the end
more_parts : (test : Part → Bool) (ps : List Part) (p : Part) → list_all test (ps ++ p ∷ []) ≡ (list_all test ps && test p)
more_parts test ps p = list_all-append test ps (p ∷ []) ∙ ap (λ b. list_all test ps && b) (and-true (test p))

mutual
  pub roll_true : (i : Interpretation) (bound : List ℕ) (root : Option Thing) (k : Structure) (c : Concept) → fresh_in bound k ≡ true → Covered root bound
      → roll root k ≡ Ok c → (f : ℕ → ℕ) (x : ℕ) → Stands i f root x → is_in i c x ≡ is_true i k f
  roll_true i bound root (structure rs cs) c fresh cover made f x stands =
      let w : Went (parts root rs cs) (class_of_tree rs) c = went (parts root rs cs) (class_of_tree rs) c made in
      let s : AllSound i root rs w.from cs =
      parts_sound i bound root rs cs w.from (and_second (list_all (λ r. not (is_bound bound r)) rs) (fresh_in_all (bound ++ rs) cs) fresh) cover w.first in
      tree_meaning i rs w.from c w.after s.inside f x
      ∙ extension_same i.size rs (λ g. list_all (part_true i (value x g)) w.from) (λ g. all_true i cs g) f
      (λ g keep. s.truth g x (stands_on i f g root bound rs x (and_first (list_all (λ r. not (is_bound bound r)) rs) (fresh_in_all (bound ++ rs) cs) fresh)
      cover keep stands))

  -- with a last part that says that another structure is not true
  pub roll_with_true : (i : Interpretation) (bound : List ℕ) (root : Option Thing) (k l : Structure) (c : Concept) → fresh_in bound k ≡ true
      → Covered root bound → ((p : Part) → negation_part (λ w. roll w l) l root (referents_in k) ≡ Ok p → Sound i root (referents_in k) p (Negation l))
      → roll_with root k (negation_part (λ w. roll w l) l root) ≡ Ok c → (f : ℕ → ℕ) (x : ℕ) → Stands i f root x
      → is_in i c x ≡ not (implies_test i k (is_true i l) f)
  roll_with_true i bound root (structure rs cs) l c fresh cover sound made f x stands =
      let last : List ℕ → Result Part Cause = negation_part (λ w. roll w l) l root in
      let w : Went (parts root rs cs) (λ ps. next (last rs) (λ p. class_of_tree rs (ps ++ p ∷ []))) c =
      went (parts root rs cs) (λ ps. next (last rs) (λ p. class_of_tree rs (ps ++ p ∷ []))) c made in
      let v : Went (last rs) (λ p. class_of_tree rs (w.from ++ p ∷ [])) c = went (last rs) (λ p. class_of_tree rs (w.from ++ p ∷ [])) c w.after in
      let s : AllSound i root rs w.from cs =
      parts_sound i bound root rs cs w.from (and_second (list_all (λ r. not (is_bound bound r)) rs) (fresh_in_all (bound ++ rs) cs) fresh) cover w.first in
      let n : Sound i root rs v.from (Negation l) = sound v.from v.first in
      tree_meaning i rs (w.from ++ v.from ∷ []) c v.after
      (more_parts (within rs) w.from v.from ∙ and_from (list_all (within rs) w.from) (within rs v.from) s.inside n.inside) f x
      ∙ extension_same i.size rs (λ g. list_all (part_true i (value x g)) (w.from ++ v.from ∷ [])) (λ g. all_true i cs g && not (is_true i l g)) f
      (λ g keep.
      let at : Stands i g root x = stands_on i f g root bound rs x (and_first (list_all (λ r. not (is_bound bound r)) rs) (fresh_in_all (bound ++ rs) cs) fresh)
      cover keep stands in
      more_parts (part_true i (value x g)) w.from v.from ∙ (λ j. s.truth g x at j && n.truth g x at j))
      ∙ not_each i.size rs (λ g. all_true i cs g) (λ g. is_true i l g) f

  pub parts_sound : (i : Interpretation) (bound : List ℕ) (root : Option Thing) (rs : List ℕ) (cs : Conditions) (ps : List Part)
      → fresh_in_all (bound ++ rs) cs ≡ true → Covered root bound → parts root rs cs ≡ Ok ps → AllSound i root rs ps cs
  parts_sound i bound root rs no_condition ps fresh cover e =
      subst (λ qs. AllSound i root rs qs no_condition) (ok_same [] ps e) (record { inside = refl; truth = λ g x stands. refl })
  parts_sound i bound root rs (also_condition c cs) ps fresh cover e =
      let w : Went (part_of root rs c) (λ p. next (parts root rs cs) (λ qs. Ok (p ∷ qs))) ps =
      went (part_of root rs c) (λ p. next (parts root rs cs) (λ qs. Ok (p ∷ qs))) ps e in
      let v : Went (parts root rs cs) (λ qs. Ok (w.from ∷ qs)) ps = went (parts root rs cs) (λ qs. Ok (w.from ∷ qs)) ps w.after in
      let one : Sound i root rs w.from c =
      part_sound i bound root rs c w.from (and_first (fresh_in_condition (bound ++ rs) c) (fresh_in_all (bound ++ rs) cs) fresh) cover w.first in
      let more : AllSound i root rs v.from cs =
      parts_sound i bound root rs cs v.from (and_second (fresh_in_condition (bound ++ rs) c) (fresh_in_all (bound ++ rs) cs) fresh) cover v.first in
      subst (λ qs. AllSound i root rs qs (also_condition c cs)) (ok_same (w.from ∷ v.from) ps v.after)
      (record {
        inside = and_from (within rs w.from) (list_all (within rs) v.from) one.inside more.inside;
        truth = λ g x stands. λ j. one.truth g x stands j && more.truth g x stands j;
      })

  pub part_sound : (i : Interpretation) (bound : List ℕ) (root : Option Thing) (rs : List ℕ) (c : Condition) (p : Part)
      → fresh_in_condition (bound ++ rs) c ≡ true → Covered root bound → part_of root rs c ≡ Ok p → Sound i root rs p c
  part_sound i bound root rs (IsA noun t) p fresh cover e =
      noun_by i root bound rs noun t p (is_foreign root rs t) (member root rs t) cover refl e
  part_sound i bound root rs (AreRelated word t u) p fresh cover e =
      relation_by i root bound rs word t u p (is_foreign root rs t || is_foreign root rs u) (member root rs t) (member root rs u) cover refl refl e
  part_sound i bound root rs (AreSame t u) p fresh cover e = absurd (never_same p (is_foreign root rs t || is_foreign root rs u) e)
  part_sound i bound root rs (Negation k) p fresh cover e =
      held_sound i bound root rs (Negation k) (λ v. negated_class (roll v k)) p cover e
      (λ v d covers made g x stands. negated_made i (roll v k) d x (is_true i k g) made
      (λ c rolled. roll_true i (bound ++ rs) v k c fresh covers rolled g x stands))
  part_sound i bound root rs (Implication k l) p fresh cover e =
      let here : fresh_in (bound ++ rs) k ≡ true = and_first (fresh_in (bound ++ rs) k) (fresh_in ((bound ++ rs) ++ referents_in k) l) fresh in
      let there : fresh_in ((bound ++ rs) ++ referents_in k) l ≡ true =
      and_second (fresh_in (bound ++ rs) k) (fresh_in ((bound ++ rs) ++ referents_in k) l) fresh in
      held_sound i bound root rs (Implication k l) (λ v. negated_class (roll_with v k (negation_part (λ w. roll w l) l v))) p cover e
      (λ v d covers made g x stands.
      negated_made i (roll_with v k (negation_part (λ w. roll w l) l v)) d x (not (implies_test i k (is_true i l) g)) made
      (λ c rolled. roll_with_true i (bound ++ rs) v k l c here covers
      (λ q last. held_sound i (bound ++ rs) v (referents_in k) (Negation l) (λ w. negated_class (roll w l)) q covers last
      (λ w a coverw madew h y standsw. negated_made i (roll w l) a y (is_true i l h) madew
      (λ b rolledw. roll_true i ((bound ++ rs) ++ referents_in k) w l b there coverw rolledw h y standsw)))
      rolled g x stands)
      ∙ not-not (implies_test i k (is_true i l) g))
  part_sound i bound root rs (Disjunction k l) p fresh cover e =
      held_sound i bound root rs (Disjunction k l) (λ v. either_class (roll v k) (roll v l)) p cover e
      (λ v d covers made g x stands.
      either_made i (roll v k) (roll v l) d x (is_true i k g) (is_true i l g) made
      (λ c rolled. roll_true i (bound ++ rs) v k c (and_first (fresh_in (bound ++ rs) k) (fresh_in (bound ++ rs) l) fresh) covers rolled g x stands)
      (λ c rolled. roll_true i (bound ++ rs) v l c (and_second (fresh_in (bound ++ rs) k) (fresh_in (bound ++ rs) l) fresh) covers rolled g x stands))
