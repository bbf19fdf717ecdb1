-- The names in what is mapped are those of the structure: each name in it passes a test that each of the structure's passes.
use Rattle.std.proofs.Common.{◌≡◌, ℕ, zero, suc, ◌==◌, ◌&&◌, ◌||◌, Bool, true, false, List, [], ◌∷◌, ◌++◌, length, map, Option, Some, None, Result, Ok, Err, refl, sym, ap, ◌∙◌}
use Rattle.std.specs.Prelude.{not, if◌then◌else◌, filter}
use Rattle.std.specs.List.{list_any, list_all, filter_map, cons_option}
use Rattle.std.specs.Option.{option_or}
use Rattle.std.proofs.lemmas.List.Folds.{list_all-append}
use Rattle.std.proofs.lemmas.Bool.{and_from}
use Rattle.std.proofs.Math.Bool.{and-true}
use Rattle.wiki_base.specs.declared.numbers.WordId.{WordId}
use Rattle.wiki_base.proofs.BoolLaws.{and_first, and_second}
use Rattle.absorb.proofs.NamedLemmas.{names_in-complement}
use Rattle.logic_terms.specs.declared.structures.Thing.{Thing}
use Rattle.logic_terms.specs.declared.structures.Thing.TheVariants.{Ref, Name}
use Rattle.logic_terms.specs.declared.expressions.Role.{Role}
use Rattle.logic_terms.specs.declared.cause.Cause.{Cause}
use Rattle.logic_terms.specs.declared.cause.Cause.TheVariants.{Shared, Cycle, NoRoot}
use Rattle.logic_terms.specs.Concept.{Concept, Everything, Atomic, UnionOf, SomeValuesFrom, HasValue, no_concept, also_concept, concepts_from, Claim, SubClassOf, SubPropertyOf, ClassAssertion, TransitiveProperty}
use Rattle.logic_terms.specs.Complement.{complement}
use Rattle.logic_terms.specs.Free.{is_bound}
use Rattle.logic_terms.specs.Structure.{Condition, Conditions, Structure, IsA, AreRelated, AreSame, Negation, Implication, Disjunction, no_condition, also_condition, structure, conditions_from, condition_list, referents_in}
use Rattle.absorb.specs.Mentioned.{names_in, names_in_each, names_in_claim}
use Rattle.ace_to_owl.specs.Outcomes.{next}
use Rattle.ace_to_owl.specs.Terms.{open_terms, terms_of, terms_in, terms_in_all, terms_in_condition, first_name, referents_among}
use Rattle.ace_to_owl.specs.Parts.{Part, At, Edge, straight, inverse, intersection, leads, part_at, class_at, tree_fault, class_of_tree}
use Rattle.ace_to_owl.specs.Rolling.{member, is_foreign, value_part, edge_part, holder, held, negated_class, either_class, negation_part, roll, roll_with, parts, part_of}
use Rattle.ace_to_owl.specs.Mapping.{without, class_asked, subclass_claim, member_claim, only_condition, only_fact, denied_claim, is_pair, role_claim, subrole_claim, two_conditions, referents_related, lead_on, chain_claim, transitive_claim, plain_claim, alone, other_claim, leading_claim, nameless_claim, named_claim, used_claim, compound_claim, claim_alone, own_terms, together, referents_with, conditions_with, claim_together, claim_at, claims_after, axioms_stated}
use Rattle.ace_to_owl.proofs.RollMeaning.{Went, went, no_err, ok_same, never_same}
use Rattle.wiki_parts.proofs.Mentions.{thing_passes, names_pass, names_pass_all, names_pass_in}

module _ (test : WordId → Bool) where
  -- each name in a class, in what a part gives, and in an axiom
  abbrev passes : Concept → Bool
  passes c = list_all test (names_in c)

  abbrev part_passes : Part → Bool
  part_passes (At n c) = passes c
  part_passes (Edge word a b) = true

  abbrev option_passes : Option Concept → Bool
  option_passes (Some c) = passes c
  option_passes None = true

  abbrev pub claim_passes : Claim → Bool
  claim_passes claim = list_all test (names_in_claim claim)

  abbrev maybe_passes : Option Claim → Bool
  maybe_passes (Some claim) = claim_passes claim
  maybe_passes None = true

  abbrev pub claims_pass : List Claim → Bool
  claims_pass claims = list_all claim_passes claims

  joined_pass : (xs ys : List WordId) → list_all test xs ≡ true → list_all test ys ≡ true → list_all test (xs ++ ys) ≡ true
  joined_pass xs ys h g = list_all-append test xs ys ∙ and_from (list_all test xs) (list_all test ys) h g

  complement_passes : (c : Concept) → passes c ≡ true → passes (complement c) ≡ true
  complement_passes c h = ap (list_all test) (names_in-complement c) ∙ h

  either_passes : (c d : Concept) → passes c ≡ true → passes d ≡ true → passes (UnionOf (also_concept c (also_concept d no_concept))) ≡ true
  either_passes c d h g = joined_pass (names_in c) (names_in d ++ []) h (joined_pass (names_in d) [] g refl)

  each_passes : (cs : List Concept) → list_all passes cs ≡ true → list_all test (names_in_each (concepts_from cs)) ≡ true
  each_passes [] h = refl
  each_passes (c ∷ cs) h = joined_pass (names_in c) (names_in_each (concepts_from cs)) (and_first (passes c) (list_all passes cs) h)
      (each_passes cs (and_second (passes c) (list_all passes cs) h))

  intersection_passes : (cs : List Concept) → list_all passes cs ≡ true → passes (intersection cs) ≡ true
  intersection_passes [] h = refl
  intersection_passes (c ∷ []) h = and_first (passes c) true h
  intersection_passes (c ∷ d ∷ cs) h = each_passes (c ∷ d ∷ cs) h

  -- what parts give at a member
  front_passes : (o : Option Concept) (cs : List Concept) → list_all passes (cons_option o cs) ≡ (option_passes o && list_all passes cs)
  front_passes (Some c) cs = refl
  front_passes None cs = refl

  gifts_pass : (f : Part → Option Concept) (ps : List Part) → list_all part_passes ps ≡ true → ((p : Part) → part_passes p ≡ true → option_passes (f p) ≡ true)
      → list_all passes (filter_map f ps) ≡ true
  gifts_pass f [] h each = refl
  gifts_pass f (p ∷ ps) h each =
      front_passes (f p) (filter_map f ps)
      ∙ and_from (option_passes (f p)) (list_all passes (filter_map f ps)) (each p (and_first (part_passes p) (list_all part_passes ps) h))
      (gifts_pass f ps (and_second (part_passes p) (list_all part_passes ps) h) each)

  there_passes : (b : Bool) (c : Concept) → passes c ≡ true → option_passes (if b then Some c else None) ≡ true
  there_passes true c h = h
  there_passes false c h = refl

  child_passes : (s t : Bool) (r q : Role) (c d : Concept) → passes c ≡ true → passes d ≡ true
      → option_passes (if s then Some (SomeValuesFrom r c) else if t then Some (SomeValuesFrom q d) else None) ≡ true
  child_passes true t r q c d h g = h
  child_passes false true r q c d h g = g
  child_passes false false r q c d h g = refl

  part_at_passes : (cl : ℕ → Concept) (way : List ℕ) (n : ℕ) → ((m : ℕ) → passes (cl m) ≡ true) → (p : Part) → part_passes p ≡ true
      → option_passes (part_at cl way n p) ≡ true
  part_at_passes cl way n each (At k c) h = there_passes (k == n) c h
  part_at_passes cl way n each (Edge word a b) h =
      child_passes (leads way n a b) (leads way n b a) (straight word) (inverse word) (cl b) (cl a) (each b) (each a)

  class_at_passes : (depth : ℕ) (ps : List Part) (above : List ℕ) (n : ℕ) → list_all part_passes ps ≡ true → passes (class_at depth ps above n) ≡ true
  class_at_passes zero ps above n h = refl
  class_at_passes (suc depth) ps above n h =
      intersection_passes (filter_map (part_at (class_at depth ps (above ++ n ∷ [])) (above ++ n ∷ []) n) ps)
      (gifts_pass (part_at (class_at depth ps (above ++ n ∷ [])) (above ++ n ∷ []) n) ps h
      (part_at_passes (class_at depth ps (above ++ n ∷ [])) (above ++ n ∷ []) n (λ m. class_at_passes depth ps (above ++ n ∷ []) m h)))

  tree_passes : (rs : List ℕ) (ps : List Part) (c : Concept) → class_of_tree rs ps ≡ Ok c → list_all part_passes ps ≡ true → passes c ≡ true
  tree_passes rs ps c e h = by (tree_fault rs ps) e
    where
      by : (o : Option Cause) → ◌≡◌ {A = Result Concept Cause} (elim o [ Some cause ↦ Err cause | None ↦ Ok (class_at (length ps) ps [] 0) ]) (Ok c)
          → passes c ≡ true
      by (Some cause) g = absurd (no_err cause c g)
      by None g = sym (ap passes (ok_same (class_at (length ps) ps [] 0) c g)) ∙ class_at_passes (length ps) ps [] 0 h

  -- what conditions give
  held_passes : (root : Option Thing) (rs : List ℕ) (c : Condition) (make : Option Thing → Result Concept Cause) (p : Part) → held root rs c make ≡ Ok p
      → ((v : Option Thing) (d : Concept) → make v ≡ Ok d → passes d ≡ true) → part_passes p ≡ true
  held_passes root rs c make p e each =
      let w : Went (holder root rs (open_terms root c)) (λ h. next (make h.0) (λ k. Ok (At h.1 k))) p =
      went (holder root rs (open_terms root c)) (λ h. next (make h.0) (λ k. Ok (At h.1 k))) p e in
      let v : Went (make w.from.0) (λ k. Ok (At w.from.1 k)) p = went (make w.from.0) (λ k. Ok (At w.from.1 k)) p w.after in
      sym (ap part_passes (ok_same (At w.from.1 v.from) p v.after)) ∙ each w.from.0 v.from v.first

  negated_passes : (w : Result Concept Cause) (d : Concept) → negated_class w ≡ Ok d → ((c : Concept) → w ≡ Ok c → passes c ≡ true) → passes d ≡ true
  negated_passes w d e each =
      let v : Went w (λ c. Ok (complement c)) d = went w (λ c. Ok (complement c)) d e in
      sym (ap passes (ok_same (complement v.from) d v.after)) ∙ complement_passes v.from (each v.from v.first)

  both_pass : (w v : Result Concept Cause) (d : Concept) → either_class w v ≡ Ok d → ((c : Concept) → w ≡ Ok c → passes c ≡ true)
      → ((c : Concept) → v ≡ Ok c → passes c ≡ true) → passes d ≡ true
  both_pass w v d e left right =
      let one : Went w (λ c. next v (λ k. Ok (UnionOf (also_concept c (also_concept k no_concept))))) d =
      went w (λ c. next v (λ k. Ok (UnionOf (also_concept c (also_concept k no_concept))))) d e in
      let two : Went v (λ k. Ok (UnionOf (also_concept one.from (also_concept k no_concept)))) d =
      went v (λ k. Ok (UnionOf (also_concept one.from (also_concept k no_concept)))) d one.after in
      sym (ap passes (ok_same (UnionOf (also_concept one.from (also_concept two.from no_concept))) d two.after))
      ∙ either_passes one.from two.from (left one.from one.first) (right two.from two.first)

  noun_passes : (noun : WordId) (p : Part) (foreign : Bool) (o : Option ℕ)
      → (if foreign then Err Shared else elim o [ Some n ↦ Ok (At n (Atomic noun)) | None ↦ Err NoRoot ]) ≡ Ok p → part_passes p ≡ true
  noun_passes noun p true o e = absurd (no_err Shared p e)
  noun_passes noun p false (Some n) e = sym (ap part_passes (ok_same (At n (Atomic noun)) p e))
  noun_passes noun p false None e = absurd (no_err NoRoot p e)

  value_passes : (n : ℕ) (role : Role) (t : Thing) (p : Part) → thing_passes test t ≡ true → value_part n role t ≡ Ok p → part_passes p ≡ true
  value_passes n role (Name name) p h e = sym (ap part_passes (ok_same (At n (HasValue role name)) p e)) ∙ and-true (test name) ∙ h
  value_passes n role (Ref q) p h e = absurd (no_err Shared p e)

  edge_passes : (word : WordId) (n m : ℕ) (p : Part) (same : Bool) → (if same then Err Cycle else Ok (Edge word n m)) ≡ Ok p → part_passes p ≡ true
  edge_passes word n m p true e = absurd (no_err Cycle p e)
  edge_passes word n m p false e = sym (ap part_passes (ok_same (Edge word n m) p e))

  relation_passes : (word : WordId) (t u : Thing) (p : Part) (foreign : Bool) (o q : Option ℕ) → thing_passes test t ≡ true → thing_passes test u ≡ true
      → (if foreign then Err Shared else elim o [
        | Some n ↦ elim q [ Some m ↦ edge_part word n m | None ↦ value_part n (straight word) u ]
        | None ↦
            elim q [ Some m ↦ value_part m (inverse word) t | None ↦ Err NoRoot ]
      ]) ≡ Ok p → part_passes p ≡ true
  relation_passes word t u p true o q h g e = absurd (no_err Shared p e)
  relation_passes word t u p false (Some n) (Some m) h g e = edge_passes word n m p (n == m) e
  relation_passes word t u p false (Some n) None h g e = value_passes n (straight word) u p g e
  relation_passes word t u p false None (Some m) h g e = value_passes m (inverse word) t p h e
  relation_passes word t u p false None None h g e = absurd (no_err NoRoot p e)

  mutual
    roll_passes : (root : Option Thing) (k : Structure) (c : Concept) → names_pass test k ≡ true → roll root k ≡ Ok c → passes c ≡ true
    roll_passes root (structure rs cs) c ok e =
        let w : Went (parts root rs cs) (class_of_tree rs) c = went (parts root rs cs) (class_of_tree rs) c e in
        tree_passes rs w.from c w.after (parts_pass root rs cs w.from ok w.first)

    roll_with_passes : (root : Option Thing) (k : Structure) (last : List ℕ → Result Part Cause) (c : Concept) → names_pass test k ≡ true
        → ((rs : List ℕ) (p : Part) → last rs ≡ Ok p → part_passes p ≡ true) → roll_with root k last ≡ Ok c → passes c ≡ true
    roll_with_passes root (structure rs cs) last c ok each e =
        let w : Went (parts root rs cs) (λ ps. next (last rs) (λ p. class_of_tree rs (ps ++ p ∷ []))) c =
        went (parts root rs cs) (λ ps. next (last rs) (λ p. class_of_tree rs (ps ++ p ∷ []))) c e in
        let v : Went (last rs) (λ p. class_of_tree rs (w.from ++ p ∷ [])) c = went (last rs) (λ p. class_of_tree rs (w.from ++ p ∷ [])) c w.after in
        tree_passes rs (w.from ++ v.from ∷ []) c v.after
        (list_all-append part_passes w.from (v.from ∷ [])
        ∙ and_from (list_all part_passes w.from) (part_passes v.from && true) (parts_pass root rs cs w.from ok w.first)
        (and-true (part_passes v.from) ∙ each rs v.from v.first))

    parts_pass : (root : Option Thing) (rs : List ℕ) (cs : Conditions) (ps : List Part) → names_pass_all test cs ≡ true → parts root rs cs ≡ Ok ps
        → list_all part_passes ps ≡ true
    parts_pass root rs no_condition ps ok e = sym (ap (list_all part_passes) (ok_same [] ps e))
    parts_pass root rs (also_condition c cs) ps ok e =
        let w : Went (part_of root rs c) (λ p. next (parts root rs cs) (λ qs. Ok (p ∷ qs))) ps =
        went (part_of root rs c) (λ p. next (parts root rs cs) (λ qs. Ok (p ∷ qs))) ps e in
        let v : Went (parts root rs cs) (λ qs. Ok (w.from ∷ qs)) ps = went (parts root rs cs) (λ qs. Ok (w.from ∷ qs)) ps w.after in
        sym (ap (list_all part_passes) (ok_same (w.from ∷ v.from) ps v.after))
        ∙ and_from (part_passes w.from) (list_all part_passes v.from)
        (part_passes_of root rs c w.from (and_first (names_pass_in test c) (names_pass_all test cs) ok) w.first)
        (parts_pass root rs cs v.from (and_second (names_pass_in test c) (names_pass_all test cs) ok) v.first)

    part_passes_of : (root : Option Thing) (rs : List ℕ) (c : Condition) (p : Part) → names_pass_in test c ≡ true → part_of root rs c ≡ Ok p
        → part_passes p ≡ true
    part_passes_of root rs (IsA noun t) p ok e = noun_passes noun p (is_foreign root rs t) (member root rs t) e
    part_passes_of root rs (AreRelated word t u) p ok e =
        relation_passes word t u p (is_foreign root rs t || is_foreign root rs u) (member root rs t) (member root rs u)
        (and_first (thing_passes test t) (thing_passes test u) ok) (and_second (thing_passes test t) (thing_passes test u) ok) e
    part_passes_of root rs (AreSame t u) p ok e = absurd (never_same p (is_foreign root rs t || is_foreign root rs u) e)
    part_passes_of root rs (Negation k) p ok e =
        held_passes root rs (Negation k) (λ v. negated_class (roll v k)) p e
        (λ v d made. negated_passes (roll v k) d made (λ c rolled. roll_passes v k c ok rolled))
    part_passes_of root rs (Implication k l) p ok e =
        held_passes root rs (Implication k l) (λ v. negated_class (roll_with v k (negation_part (λ w. roll w l) l v))) p e
        (λ v d made.
        negated_passes (roll_with v k (negation_part (λ w. roll w l) l v)) d made
        (λ c rolled. roll_with_passes v k (negation_part (λ w. roll w l) l v) c (and_first (names_pass test k) (names_pass test l) ok)
        (λ qs q last. held_passes v qs (Negation l) (λ w. negated_class (roll w l)) q last
        (λ w a madew. negated_passes (roll w l) a madew (λ b rolledw. roll_passes w l b (and_second (names_pass test k) (names_pass test l) ok) rolledw)))
        rolled))
    part_passes_of root rs (Disjunction k l) p ok e =
        held_passes root rs (Disjunction k l) (λ v. either_class (roll v k) (roll v l)) p e
        (λ v d made. both_pass (roll v k) (roll v l) d made (λ c rolled. roll_passes v k c (and_first (names_pass test k) (names_pass test l) ok) rolled)
        (λ c rolled. roll_passes v l c (and_second (names_pass test k) (names_pass test l) ok) rolled))

  -- an axiom that may be there
  two_names : (a b : WordId) → test a ≡ true → test b ≡ true → list_all test (a ∷ b ∷ []) ≡ true
  two_names a b h g = and_from (test a) (test b && true) h (and-true (test b) ∙ g)

  denied_passes : (d : Condition) → names_pass_in test d ≡ true → maybe_passes (denied_claim d) ≡ true
  denied_passes (IsA noun t) ok = refl
  denied_passes (AreRelated word (Name a) (Name b)) ok = two_names a b (and_first (test a) (test b) ok) (and_second (test a) (test b) ok)
  denied_passes (AreRelated word (Name a) (Ref r)) ok = refl
  denied_passes (AreRelated word (Ref r) t) ok = refl
  denied_passes (AreSame (Name a) (Name b)) ok = two_names a b (and_first (test a) (test b) ok) (and_second (test a) (test b) ok)
  denied_passes (AreSame (Name a) (Ref r)) ok = refl
  denied_passes (AreSame (Ref r) t) ok = refl
  denied_passes (Negation k) ok = refl
  denied_passes (Implication k l) ok = refl
  denied_passes (Disjunction k l) ok = refl

  abbrev condition_passes : Option Condition → Bool
  condition_passes (Some c) = names_pass_in test c
  condition_passes None = true

  only_passes : (k : Structure) → names_pass test k ≡ true → condition_passes (only_condition k) ≡ true
  only_passes (structure rs no_condition) ok = refl
  only_passes (structure rs (also_condition c no_condition)) ok = and_first (names_pass_in test c) true ok
  only_passes (structure rs (also_condition c (also_condition d cs))) ok = refl

  fact_passes : (k : Structure) → names_pass test k ≡ true → condition_passes (only_fact k) ≡ true
  fact_passes (structure [] cs) ok = only_passes (structure [] cs) ok
  fact_passes (structure (r ∷ rs) cs) ok = refl

  negation_passes : (o : Option Condition) → condition_passes o ≡ true → maybe_passes (elim o [ Some d ↦ denied_claim d | None ↦ None ]) ≡ true
  negation_passes (Some d) ok = denied_passes d ok
  negation_passes None ok = refl

  pair_passes : (pair straight_on swapped : Bool) (r s t u : Role)
      → maybe_passes (if not pair then None else if straight_on then Some (SubPropertyOf r s) else if swapped then Some (SubPropertyOf t u) else None) ≡ true
  pair_passes false straight_on swapped r s t u = refl
  pair_passes true true swapped r s t u = refl
  pair_passes true false true r s t u = refl
  pair_passes true false false r s t u = refl

  role_passes : (rs : List ℕ) (c d : Condition) → maybe_passes (role_claim rs c d) ≡ true
  role_passes rs (AreRelated below (Ref x) (Ref y)) (AreRelated above (Ref u) (Ref v)) =
      pair_passes (is_pair rs x y) ((u == x) && (v == y)) ((u == y) && (v == x)) (straight below) (straight above) (straight below) (inverse above)
  role_passes rs (AreRelated below (Ref x) (Ref y)) (AreRelated above (Ref u) (Name b)) = refl
  role_passes rs (AreRelated below (Ref x) (Ref y)) (AreRelated above (Name a) t) = refl
  role_passes rs (AreRelated below (Ref x) (Ref y)) (IsA noun t) = refl
  role_passes rs (AreRelated below (Ref x) (Ref y)) (AreSame t u) = refl
  role_passes rs (AreRelated below (Ref x) (Ref y)) (Negation k) = refl
  role_passes rs (AreRelated below (Ref x) (Ref y)) (Implication k m) = refl
  role_passes rs (AreRelated below (Ref x) (Ref y)) (Disjunction k m) = refl
  role_passes rs (AreRelated below (Ref x) (Name b)) d = refl
  role_passes rs (AreRelated below (Name a) t) d = refl
  role_passes rs (IsA noun t) d = refl
  role_passes rs (AreSame t u) d = refl
  role_passes rs (Negation k) d = refl
  role_passes rs (Implication k m) d = refl
  role_passes rs (Disjunction k m) d = refl

  subrole_passes : (rs : List ℕ) (o q : Option Condition)
      → maybe_passes (elim o [ Some c ↦ elim q [ Some d ↦ role_claim rs c d | None ↦ None ] | None ↦ None ]) ≡ true
  subrole_passes rs (Some c) (Some d) = role_passes rs c d
  subrole_passes rs (Some c) None = refl
  subrole_passes rs None q = refl

  chain_ends_passes : (b : Bool) (word : WordId) → maybe_passes (if b then Some (TransitiveProperty word) else None) ≡ true
  chain_ends_passes true word = refl
  chain_ends_passes false word = refl

  chain_passes : (rs : List ℕ) (o p q : Option (WordId × ℕ × ℕ)) → maybe_passes (chain_claim rs o p q) ≡ true
  chain_passes rs (Some one) (Some other) (Some whole) = chain_ends_passes (lead_on rs one other whole || lead_on rs other one whole) one.0
  chain_passes rs (Some one) (Some other) None = refl
  chain_passes rs (Some one) None q = refl
  chain_passes rs None p q = refl

  transitive_passes : (rs : List ℕ) (o : Option (Condition × Condition)) (q : Option Condition)
      → maybe_passes (elim o [
        | Some p ↦ elim q [
          | Some e ↦ chain_claim rs (referents_related p.0) (referents_related p.1) (referents_related e)
          | None ↦ None
        ]
        | None ↦ None
      ]) ≡ true
  transitive_passes rs (Some p) (Some e) = chain_passes rs (referents_related p.0) (referents_related p.1) (referents_related e)
  transitive_passes rs (Some p) None = refl
  transitive_passes rs None q = refl

  first_passes : (o p : Option Claim) → maybe_passes o ≡ true → maybe_passes p ≡ true → maybe_passes (option_or o p) ≡ true
  first_passes (Some claim) p h g = h
  first_passes None p h g = g

  as_it_stands_passes : (c : Condition) → names_pass_in test c ≡ true → maybe_passes (plain_claim c) ≡ true
  as_it_stands_passes (IsA noun (Name a)) ok = and-true (test a) ∙ ok
  as_it_stands_passes (IsA noun (Ref r)) ok = refl
  as_it_stands_passes (AreRelated word (Name a) (Name b)) ok = two_names a b (and_first (test a) (test b) ok) (and_second (test a) (test b) ok)
  as_it_stands_passes (AreRelated word (Name a) (Ref r)) ok = refl
  as_it_stands_passes (AreRelated word (Ref r) t) ok = refl
  as_it_stands_passes (AreSame (Name a) (Name b)) ok = two_names a b (and_first (test a) (test b) ok) (and_second (test a) (test b) ok)
  as_it_stands_passes (AreSame (Name a) (Ref r)) ok = refl
  as_it_stands_passes (AreSame (Ref r) t) ok = refl
  as_it_stands_passes (Negation k) ok = negation_passes (only_fact k) (fact_passes k ok)
  as_it_stands_passes (Implication k l) ok =
      first_passes (subrole_claim k l) (transitive_claim k l) (subrole_passes (referents_in k) (only_condition k) (only_fact l))
      (transitive_passes (referents_in k) (two_conditions k) (only_fact l))
  as_it_stands_passes (Disjunction k l) ok = refl

  -- the first name among terms
  abbrev term_list_passes : List Thing → Bool
  term_list_passes ts = list_all (thing_passes test) ts

  terms_join : (xs ys : List Thing) → term_list_passes xs ≡ true → term_list_passes ys ≡ true → term_list_passes (xs ++ ys) ≡ true
  terms_join xs ys h g = list_all-append (thing_passes test) xs ys ∙ and_from (term_list_passes xs) (term_list_passes ys) h g

  term_passes : (bound : List ℕ) (t : Thing) → thing_passes test t ≡ true → term_list_passes (terms_of bound t) ≡ true
  term_passes bound (Ref r) ok = by (is_bound bound r)
    where
      by : (b : Bool) → term_list_passes (if b then [] else Ref r ∷ []) ≡ true
      by true = refl
      by false = refl
  term_passes bound (Name name) ok = and-true (test name) ∙ ok

  mutual
    terms_pass : (bound : List ℕ) (k : Structure) → names_pass test k ≡ true → term_list_passes (terms_in bound k) ≡ true
    terms_pass bound (structure rs cs) ok = terms_pass_all (bound ++ rs) cs ok

    terms_pass_all : (bound : List ℕ) (cs : Conditions) → names_pass_all test cs ≡ true → term_list_passes (terms_in_all bound cs) ≡ true
    terms_pass_all bound no_condition ok = refl
    terms_pass_all bound (also_condition c cs) ok =
        terms_join (terms_in_condition bound c) (terms_in_all bound cs) (terms_pass_in bound c (and_first (names_pass_in test c) (names_pass_all test cs) ok))
        (terms_pass_all bound cs (and_second (names_pass_in test c) (names_pass_all test cs) ok))

    terms_pass_in : (bound : List ℕ) (c : Condition) → names_pass_in test c ≡ true → term_list_passes (terms_in_condition bound c) ≡ true
    terms_pass_in bound (IsA noun t) ok = term_passes bound t ok
    terms_pass_in bound (AreRelated word t u) ok =
        terms_join (terms_of bound t) (terms_of bound u) (term_passes bound t (and_first (thing_passes test t) (thing_passes test u) ok))
        (term_passes bound u (and_second (thing_passes test t) (thing_passes test u) ok))
    terms_pass_in bound (AreSame t u) ok =
        terms_join (terms_of bound t) (terms_of bound u) (term_passes bound t (and_first (thing_passes test t) (thing_passes test u) ok))
        (term_passes bound u (and_second (thing_passes test t) (thing_passes test u) ok))
    terms_pass_in bound (Negation k) ok = terms_pass bound k ok
    terms_pass_in bound (Implication k l) ok =
        terms_join (terms_in bound k) (terms_in (bound ++ referents_in k) l) (terms_pass bound k (and_first (names_pass test k) (names_pass test l) ok))
        (terms_pass (bound ++ referents_in k) l (and_second (names_pass test k) (names_pass test l) ok))
    terms_pass_in bound (Disjunction k l) ok =
        terms_join (terms_in bound k) (terms_in bound l) (terms_pass bound k (and_first (names_pass test k) (names_pass test l) ok))
        (terms_pass bound l (and_second (names_pass test k) (names_pass test l) ok))

  abbrev name_passes : Option WordId → Bool
  name_passes (Some name) = test name
  name_passes None = true

  first_name_passes : (ts : List Thing) → term_list_passes ts ≡ true → name_passes (first_name ts) ≡ true
  first_name_passes [] ok = refl
  first_name_passes (Ref r ∷ ts) ok = first_name_passes ts ok
  first_name_passes (Name name ∷ ts) ok = and_first (test name) (term_list_passes ts) ok

  -- the axioms that are made by rolling up
  member_passes : (name : WordId) (k : Structure) (claim : Claim) → test name ≡ true → names_pass test k ≡ true → member_claim name k ≡ Ok claim
      → claim_passes claim ≡ true
  member_passes name k claim named ok e =
      let w : Went (roll (Some (Name name)) k) (λ c. Ok (ClassAssertion c name)) claim =
      went (roll (Some (Name name)) k) (λ c. Ok (ClassAssertion c name)) claim e in
      sym (ap claim_passes (ok_same (ClassAssertion w.from name) claim w.after))
      ∙ and_from (test name) (passes w.from) named (roll_passes (Some (Name name)) k w.from ok w.first)

  without_passes : (x : ℕ) (k : Structure) → names_pass test (without x k) ≡ names_pass test k
  without_passes x (structure rs cs) = refl

  subclass_passes : (x : ℕ) (k l : Structure) (claim : Claim) → names_pass test k ≡ true → names_pass test l ≡ true → subclass_claim x k l ≡ Ok claim
      → claim_passes claim ≡ true
  subclass_passes x k l claim ok_k ok_l e =
      let w : Went (roll (Some (Ref x)) (without x k)) (λ c. next (roll (Some (Ref x)) l) (λ d. Ok (SubClassOf c d))) claim =
      went (roll (Some (Ref x)) (without x k)) (λ c. next (roll (Some (Ref x)) l) (λ d. Ok (SubClassOf c d))) claim e in
      let v : Went (roll (Some (Ref x)) l) (λ d. Ok (SubClassOf w.from d)) claim = went (roll (Some (Ref x)) l) (λ d. Ok (SubClassOf w.from d)) claim w.after in
      sym (ap claim_passes (ok_same (SubClassOf w.from v.from) claim v.after))
      ∙ joined_pass (names_in w.from) (names_in v.from) (roll_passes (Some (Ref x)) (without x k) w.from (without_passes x k ∙ ok_k) w.first)
      (roll_passes (Some (Ref x)) l v.from ok_l v.first)

  alone_passes : (c : Condition) → names_pass_in test c ≡ true → names_pass test (alone c) ≡ true
  alone_passes c ok = and-true (names_pass_in test c) ∙ ok

  other_passes : (c : Condition) (claim : Claim) → names_pass_in test c ≡ true → other_claim c ≡ Ok claim → claim_passes claim ≡ true
  other_passes c claim ok e =
      let w : Went (roll None (alone c)) (λ d. Ok (SubClassOf Everything d)) claim = went (roll None (alone c)) (λ d. Ok (SubClassOf Everything d)) claim e in
      sym (ap claim_passes (ok_same (SubClassOf Everything w.from) claim w.after)) ∙ roll_passes None (alone c) w.from (alone_passes c ok) w.first

  leading_passes : (k l : Structure) (rs : List ℕ) (claim : Claim) → names_pass_in test (Implication k l) ≡ true → leading_claim k l rs ≡ Ok claim
      → claim_passes claim ≡ true
  leading_passes k l [] claim ok e = other_passes (Implication k l) claim ok e
  leading_passes k l (x ∷ xs) claim ok e =
      subclass_passes x k l claim (and_first (names_pass test k) (names_pass test l) ok) (and_second (names_pass test k) (names_pass test l) ok) e

  nameless_passes : (c : Condition) (claim : Claim) → names_pass_in test c ≡ true → nameless_claim c ≡ Ok claim → claim_passes claim ≡ true
  nameless_passes (Implication k l) claim ok e = leading_passes k l (referents_in k) claim ok e
  nameless_passes (IsA noun t) claim ok e = other_passes (IsA noun t) claim ok e
  nameless_passes (AreRelated word t u) claim ok e = other_passes (AreRelated word t u) claim ok e
  nameless_passes (AreSame t u) claim ok e = other_passes (AreSame t u) claim ok e
  nameless_passes (Negation k) claim ok e = other_passes (Negation k) claim ok e
  nameless_passes (Disjunction k l) claim ok e = other_passes (Disjunction k l) claim ok e

  named_by_passes : (c : Condition) (claim : Claim) (o : Option WordId) → names_pass_in test c ≡ true → name_passes o ≡ true
      → ◌≡◌ {A = Result Claim Cause} (elim o [ Some name ↦ member_claim name (alone c) | None ↦ nameless_claim c ]) (Ok claim) → claim_passes claim ≡ true
  named_by_passes c claim (Some name) ok named e = member_passes name (alone c) claim named (alone_passes c ok) e
  named_by_passes c claim None ok named e = nameless_passes c claim ok e

  named_passes : (c : Condition) (claim : Claim) → names_pass_in test c ≡ true → named_claim c ≡ Ok claim → claim_passes claim ≡ true
  named_passes c claim ok e = named_by_passes c claim (first_name (terms_in_condition [] c)) ok
      (first_name_passes (terms_in_condition [] c) (terms_pass_in [] c ok)) e

  used_passes : (k l : Structure) (used : List ℕ) (claim : Claim) → names_pass_in test (Implication k l) ≡ true → used_claim k l used ≡ Ok claim
      → claim_passes claim ≡ true
  used_passes k l [] claim ok e = named_passes (Implication k l) claim ok e
  used_passes k l (x ∷ xs) claim ok e = by (list_all (λ q. q == x) xs) e
    where
      by : (b : Bool) → (if b then subclass_claim x k l else Err Shared) ≡ Ok claim → claim_passes claim ≡ true
      by true h = subclass_passes x k l claim (and_first (names_pass test k) (names_pass test l) ok) (and_second (names_pass test k) (names_pass test l) ok) h
      by false h = absurd (no_err Shared claim h)

  compound_passes : (c : Condition) (claim : Claim) → names_pass_in test c ≡ true → compound_claim c ≡ Ok claim → claim_passes claim ≡ true
  compound_passes (Implication k l) claim ok e = used_passes k l (referents_among (referents_in k) (terms_in [] l)) claim ok e
  compound_passes (IsA noun t) claim ok e = named_passes (IsA noun t) claim ok e
  compound_passes (AreRelated word t u) claim ok e = named_passes (AreRelated word t u) claim ok e
  compound_passes (AreSame t u) claim ok e = named_passes (AreSame t u) claim ok e
  compound_passes (Negation k) claim ok e = named_passes (Negation k) claim ok e
  compound_passes (Disjunction k l) claim ok e = named_passes (Disjunction k l) claim ok e

  alone_by_passes : (c : Condition) (claim : Claim) (o : Option Claim) → names_pass_in test c ≡ true → maybe_passes o ≡ true
      → ◌≡◌ {A = Result Claim Cause} (elim o [ Some plain ↦ Ok plain | None ↦ compound_claim c ]) (Ok claim) → claim_passes claim ≡ true
  alone_by_passes c claim (Some plain) ok h e = sym (ap claim_passes (ok_same plain claim e)) ∙ h
  alone_by_passes c claim None ok h e = compound_passes c claim ok e

  alone_claim_passes : (c : Condition) (claim : Claim) → names_pass_in test c ≡ true → claim_alone c ≡ Ok claim → claim_passes claim ≡ true
  alone_claim_passes c claim ok e = alone_by_passes c claim (plain_claim c) ok (as_it_stands_passes c ok) e

  -- conditions in a list
  abbrev listed_pass : List Condition → Bool
  listed_pass cs = list_all (names_pass_in test) cs

  from_list : (cs : List Condition) → listed_pass cs ≡ true → names_pass_all test (conditions_from cs) ≡ true
  from_list [] ok = refl
  from_list (c ∷ cs) ok = and_from (names_pass_in test c) (names_pass_all test (conditions_from cs)) (and_first (names_pass_in test c) (listed_pass cs) ok)
      (from_list cs (and_second (names_pass_in test c) (listed_pass cs) ok))

  to_list : (cs : Conditions) → names_pass_all test cs ≡ true → listed_pass (condition_list cs) ≡ true
  to_list no_condition ok = refl
  to_list (also_condition c cs) ok = and_from (names_pass_in test c) (listed_pass (condition_list cs))
      (and_first (names_pass_in test c) (names_pass_all test cs) ok) (to_list cs (and_second (names_pass_in test c) (names_pass_all test cs) ok))

  filter_passes : (q : Condition → Bool) (cs : List Condition) → listed_pass cs ≡ true → listed_pass (filter q cs) ≡ true
  filter_passes q [] ok = refl
  filter_passes q (c ∷ cs) ok = by (q c) (filter_passes q cs (and_second (names_pass_in test c) (listed_pass cs) ok))
    where
      by : (b : Bool) → listed_pass (filter q cs) ≡ true → listed_pass (if b then c ∷ filter q cs else filter q cs) ≡ true
      by true rest = and_from (names_pass_in test c) (listed_pass (filter q cs)) (and_first (names_pass_in test c) (listed_pass cs) ok) rest
      by false rest = rest

  together_passes : (rs : List ℕ) (cs : List Condition) (claim : Claim) → listed_pass cs ≡ true → claim_together rs cs ≡ Ok claim → claim_passes claim ≡ true
  together_passes rs cs claim ok e = by (first_name (terms_in_all [] (conditions_from cs)))
      (first_name_passes (terms_in_all [] (conditions_from cs)) (terms_pass_all [] (conditions_from cs) (from_list cs ok))) e
    where
      by : (o : Option WordId) → name_passes o ≡ true
          → ◌≡◌ {A = Result Claim Cause} (elim o [ Some name ↦ member_claim name (structure rs (conditions_from cs)) | None ↦ Err NoRoot ]) (Ok claim)
          → claim_passes claim ≡ true
      by (Some name) named h = member_passes name (structure rs (conditions_from cs)) claim named (from_list cs ok) h
      by None named h = absurd (no_err NoRoot claim h)

  some_passes : (w : Result Claim Cause) (o : Option Claim) → next w (λ claim. Ok (Some claim)) ≡ Ok o
      → ((claim : Claim) → w ≡ Ok claim → claim_passes claim ≡ true) → maybe_passes o ≡ true
  some_passes w o e each =
      let v : Went w (λ claim. Ok (Some claim)) o = went w (λ claim. Ok (Some claim)) o e in
      sym (ap maybe_passes (ok_same (Some v.from) o v.after)) ∙ each v.from v.first

  at_by_passes : (alone_one together_one : Result Claim Cause) (o : Option Claim) (none was : Bool)
      → ((claim : Claim) → alone_one ≡ Ok claim → claim_passes claim ≡ true) → ((claim : Claim) → together_one ≡ Ok claim → claim_passes claim ≡ true)
      → (if none then next alone_one (λ claim. Ok (Some claim)) else if was then Ok None else next together_one (λ claim. Ok (Some claim))) ≡ Ok o
      → maybe_passes o ≡ true
  at_by_passes alone_one together_one o true was left right e = some_passes alone_one o e left
  at_by_passes alone_one together_one o false true left right e = sym (ap maybe_passes (ok_same None o e))
  at_by_passes alone_one together_one o false false left right e = some_passes together_one o e right

  at_passes : (rs : List ℕ) (gs : List (List ℕ)) (all : List Condition) (before : List (List ℕ)) (own : List ℕ) (c : Condition) (o : Option Claim)
      → listed_pass all ≡ true → names_pass_in test c ≡ true → claim_at rs gs all before own c ≡ Ok o → maybe_passes o ≡ true
  at_passes rs gs all before own c o ok_all ok e =
      at_by_passes (claim_alone c) (claim_together (referents_with gs own rs) (conditions_with rs gs own all)) o (length own == 0)
      (list_any (together gs own) before)
      (λ claim h. alone_claim_passes c claim ok h)
      (λ claim h. together_passes (referents_with gs own rs) (conditions_with rs gs own all) claim
      (filter_passes (λ d. together gs own (own_terms rs d)) all ok_all) h) e

  more_pass : (o : Option Claim) (claims : List Claim) → claims_pass (cons_option o claims) ≡ (maybe_passes o && claims_pass claims)
  more_pass (Some claim) claims = refl
  more_pass None claims = refl

  after_pass : (rs : List ℕ) (gs : List (List ℕ)) (all : List Condition) (before : List (List ℕ)) (cs : List Condition) (claims : List Claim)
      → listed_pass all ≡ true → listed_pass cs ≡ true → claims_after rs gs all before cs ≡ Ok claims → claims_pass claims ≡ true
  after_pass rs gs all before [] claims ok_all ok e = sym (ap claims_pass (ok_same [] claims e))
  after_pass rs gs all before (c ∷ cs) claims ok_all ok e =
      let w : Went (claim_at rs gs all before (own_terms rs c) c)
      (λ claim. next (claims_after rs gs all (before ++ own_terms rs c ∷ []) cs) (λ more. Ok (cons_option claim more))) claims =
      went (claim_at rs gs all before (own_terms rs c) c)
      (λ claim. next (claims_after rs gs all (before ++ own_terms rs c ∷ []) cs) (λ more. Ok (cons_option claim more))) claims e in
      let v : Went (claims_after rs gs all (before ++ own_terms rs c ∷ []) cs) (λ more. Ok (cons_option w.from more)) claims =
      went (claims_after rs gs all (before ++ own_terms rs c ∷ []) cs) (λ more. Ok (cons_option w.from more)) claims w.after in
      sym (ap claims_pass (ok_same (cons_option w.from v.from) claims v.after))
      ∙ more_pass w.from v.from
      ∙ and_from (maybe_passes w.from) (claims_pass v.from)
      (at_passes rs gs all before (own_terms rs c) c w.from ok_all (and_first (names_pass_in test c) (listed_pass cs) ok) w.first)
      (after_pass rs gs all (before ++ own_terms rs c ∷ []) cs v.from ok_all (and_second (names_pass_in test c) (listed_pass cs) ok) v.first)

  -- each name in the axioms of a statement, and in the class of a question
  pub statement_passes : (k : Structure) (claims : List Claim) → names_pass test k ≡ true → axioms_stated k ≡ Ok claims → claims_pass claims ≡ true
  statement_passes (structure rs cs) claims ok e =
      after_pass rs (map (own_terms rs) (condition_list cs)) (condition_list cs) [] (condition_list cs) claims (to_list cs ok) (to_list cs ok) e

  pub question_passes : (k : Structure) (asked : ℕ) (c : Concept) → names_pass test k ≡ true → class_asked k asked ≡ Ok c → list_all test (names_in c) ≡ true
  question_passes k asked c ok e = roll_passes (Some (Ref asked)) (without asked k) c (without_passes asked k ∙ ok) e
