-- What is mapped is in negation normal form, with at least two members in each intersection and union.
use Rattle.std.proofs.Common.{◌≡◌, ℕ, zero, suc, ◌==◌, ◌&&◌, ◌||◌, Bool, true, false, List, [], ◌∷◌, ◌++◌, length, map, Option, Some, None, Result, Ok, Err, refl, sym, ap, ◌∙◌}
use Rattle.std.specs.Prelude.{not, if◌then◌else◌}
use Rattle.std.specs.List.{list_any, list_all, filter_map, cons_option}
use Rattle.std.specs.Option.{option_or}
use Rattle.std.proofs.lemmas.List.Folds.{list_all-append}
use Rattle.std.proofs.lemmas.Bool.{and_from}
use Rattle.std.proofs.Math.Bool.{and-true}
use Rattle.wiki_base.specs.declared.numbers.WordId.{WordId}
use Rattle.wiki_base.proofs.BoolLaws.{and_first, and_second}
use Rattle.logic_terms.specs.declared.structures.Thing.{Thing}
use Rattle.logic_terms.specs.declared.structures.Thing.TheVariants.{Ref, Name}
use Rattle.logic_terms.specs.declared.expressions.Role.{Role}
use Rattle.logic_terms.specs.declared.cause.Cause.{Cause}
use Rattle.logic_terms.specs.declared.cause.Cause.TheVariants.{Shared, Cycle, NoRoot}
use Rattle.logic_terms.specs.Concept.{Concept, Everything, Atomic, UnionOf, SomeValuesFrom, HasValue, no_concept, also_concept, concepts_from, Claim, SubClassOf, SubPropertyOf, ClassAssertion, TransitiveProperty}
use Rattle.logic_terms.specs.Complement.{complement, is_normal, each_normal, is_wide, each_wide}
use Rattle.logic_terms.specs.Plain.{is_plain, is_plain_claim, are_plain}
use Rattle.logic_terms.specs.Structure.{Condition, Conditions, Structure, IsA, AreRelated, AreSame, Negation, Implication, Disjunction, no_condition, also_condition, structure, conditions_from, condition_list, referents_in}
use Rattle.logic_terms.proofs.ComplementLemmas.{is_normal-complement, is_wide-complement}
use Rattle.ace_to_owl.specs.Outcomes.{next}
use Rattle.ace_to_owl.specs.Terms.{open_terms, terms_in, terms_in_all, terms_in_condition, first_name, referents_among}
use Rattle.ace_to_owl.specs.Parts.{Part, At, Edge, straight, inverse, intersection, leads, part_at, class_at, tree_fault, class_of_tree}
use Rattle.ace_to_owl.specs.Rolling.{member, is_foreign, value_part, edge_part, holder, held, negated_class, either_class, negation_part, roll, roll_with, parts, part_of}
use Rattle.ace_to_owl.specs.Mapping.{without, class_asked, subclass_claim, member_claim, only_condition, only_fact, denied_claim, is_pair, role_claim, subrole_claim, two_conditions, referents_related, chain_claim, lead_on, transitive_claim, plain_claim, alone, other_claim, leading_claim, nameless_claim, named_claim, used_claim, compound_claim, claim_alone, own_terms, together, referents_with, conditions_with, claim_together, claim_at, claims_after, axioms_stated}
use Rattle.ace_to_owl.proofs.RollMeaning.{Went, went, no_err, ok_same, never_same}

-- the class that a part gives, and one that may be there
abbrev pub is_plain_part : Part → Bool
is_plain_part (At n c) = is_plain c
is_plain_part (Edge word a b) = true

abbrev pub is_plain_option : Option Concept → Bool
is_plain_option (Some c) = is_plain c
is_plain_option None = true

plain_complement : (c : Concept) → is_plain c ≡ true → is_plain (complement c) ≡ true
plain_complement c h =
    and_from (is_normal (complement c)) (is_wide (complement c)) (is_normal-complement c) (is_wide-complement c ∙ and_second (is_normal c) (is_wide c) h)

plain_either : (c d : Concept) → is_plain c ≡ true → is_plain d ≡ true → is_plain (UnionOf (also_concept c (also_concept d no_concept))) ≡ true
plain_either c d h g =
    and_from (is_normal c && (is_normal d && true)) (is_wide c && (is_wide d && true))
    (and_from (is_normal c) (is_normal d && true) (and_first (is_normal c) (is_wide c) h) (and-true (is_normal d) ∙ and_first (is_normal d) (is_wide d) g))
    (and_from (is_wide c) (is_wide d && true) (and_second (is_normal c) (is_wide c) h) (and-true (is_wide d) ∙ and_second (is_normal d) (is_wide d) g))

each_normal_from : (cs : List Concept) → list_all is_plain cs ≡ true → each_normal (concepts_from cs) ≡ true
each_normal_from [] h = refl
each_normal_from (c ∷ cs) h =
    and_from (is_normal c) (each_normal (concepts_from cs)) (and_first (is_normal c) (is_wide c) (and_first (is_plain c) (list_all is_plain cs) h))
    (each_normal_from cs (and_second (is_plain c) (list_all is_plain cs) h))

each_wide_from : (cs : List Concept) → list_all is_plain cs ≡ true → each_wide (concepts_from cs) ≡ true
each_wide_from [] h = refl
each_wide_from (c ∷ cs) h =
    and_from (is_wide c) (each_wide (concepts_from cs)) (and_second (is_normal c) (is_wide c) (and_first (is_plain c) (list_all is_plain cs) h))
    (each_wide_from cs (and_second (is_plain c) (list_all is_plain cs) h))

plain_intersection : (cs : List Concept) → list_all is_plain cs ≡ true → is_plain (intersection cs) ≡ true
plain_intersection [] h = refl
plain_intersection (c ∷ []) h = and_first (is_plain c) true h
plain_intersection (c ∷ d ∷ cs) h =
    and_from (each_normal (concepts_from (c ∷ d ∷ cs))) (each_wide (concepts_from (c ∷ d ∷ cs))) (each_normal_from (c ∷ d ∷ cs) h)
    (each_wide_from (c ∷ d ∷ cs) h)

-- what parts give at a member
plain_front : (o : Option Concept) (cs : List Concept) → list_all is_plain (cons_option o cs) ≡ (is_plain_option o && list_all is_plain cs)
plain_front (Some c) cs = refl
plain_front None cs = refl

plain_gifts : (f : Part → Option Concept) (ps : List Part) → list_all is_plain_part ps ≡ true
    → ((p : Part) → is_plain_part p ≡ true → is_plain_option (f p) ≡ true) → list_all is_plain (filter_map f ps) ≡ true
plain_gifts f [] h each = refl
plain_gifts f (p ∷ ps) h each =
    plain_front (f p) (filter_map f ps)
    ∙ and_from (is_plain_option (f p)) (list_all is_plain (filter_map f ps)) (each p (and_first (is_plain_part p) (list_all is_plain_part ps) h))
    (plain_gifts f ps (and_second (is_plain_part p) (list_all is_plain_part ps) h) each)

plain_there : (b : Bool) (c : Concept) → is_plain c ≡ true → is_plain_option (if b then Some c else None) ≡ true
plain_there true c h = h
plain_there false c h = refl

plain_child : (s t : Bool) (r q : Role) (c d : Concept) → is_plain c ≡ true → is_plain d ≡ true
    → is_plain_option (if s then Some (SomeValuesFrom r c) else if t then Some (SomeValuesFrom q d) else None) ≡ true
plain_child true t r q c d h g = h
plain_child false true r q c d h g = g
plain_child false false r q c d h g = refl

plain_part_at : (cl : ℕ → Concept) (way : List ℕ) (n : ℕ) → ((m : ℕ) → is_plain (cl m) ≡ true) → (p : Part) → is_plain_part p ≡ true
    → is_plain_option (part_at cl way n p) ≡ true
plain_part_at cl way n each (At k c) h = plain_there (k == n) c h
plain_part_at cl way n each (Edge word a b) h = plain_child (leads way n a b) (leads way n b a) (straight word) (inverse word) (cl b) (cl a) (each b) (each a)

plain_class_at : (depth : ℕ) (ps : List Part) (above : List ℕ) (n : ℕ) → list_all is_plain_part ps ≡ true → is_plain (class_at depth ps above n) ≡ true
plain_class_at zero ps above n h = refl
plain_class_at (suc depth) ps above n h =
    plain_intersection (filter_map (part_at (class_at depth ps (above ++ n ∷ [])) (above ++ n ∷ []) n) ps)
    (plain_gifts (part_at (class_at depth ps (above ++ n ∷ [])) (above ++ n ∷ []) n) ps h
    (plain_part_at (class_at depth ps (above ++ n ∷ [])) (above ++ n ∷ []) n (λ m. plain_class_at depth ps (above ++ n ∷ []) m h)))

pub plain_tree : (rs : List ℕ) (ps : List Part) (c : Concept) → class_of_tree rs ps ≡ Ok c → list_all is_plain_part ps ≡ true → is_plain c ≡ true
plain_tree rs ps c e h = by (tree_fault rs ps) e
  where
    by : (o : Option Cause) → ◌≡◌ {A = Result Concept Cause} (elim o [ Some cause ↦ Err cause | None ↦ Ok (class_at (length ps) ps [] 0) ]) (Ok c)
        → is_plain c ≡ true
    by (Some cause) g = absurd (no_err cause c g)
    by None g = sym (ap is_plain (ok_same (class_at (length ps) ps [] 0) c g)) ∙ plain_class_at (length ps) ps [] 0 h

-- what conditions give
plain_held : (root : Option Thing) (rs : List ℕ) (c : Condition) (make : Option Thing → Result Concept Cause) (p : Part) → held root rs c make ≡ Ok p
    → ((v : Option Thing) (d : Concept) → make v ≡ Ok d → is_plain d ≡ true) → is_plain_part p ≡ true
plain_held root rs c make p e each =
    let w : Went (holder root rs (open_terms root c)) (λ h. next (make h.0) (λ k. Ok (At h.1 k))) p =
    went (holder root rs (open_terms root c)) (λ h. next (make h.0) (λ k. Ok (At h.1 k))) p e in
    let v : Went (make w.from.0) (λ k. Ok (At w.from.1 k)) p = went (make w.from.0) (λ k. Ok (At w.from.1 k)) p w.after in
    sym (ap is_plain_part (ok_same (At w.from.1 v.from) p v.after)) ∙ each w.from.0 v.from v.first

plain_negated : (w : Result Concept Cause) (d : Concept) → negated_class w ≡ Ok d → ((c : Concept) → w ≡ Ok c → is_plain c ≡ true) → is_plain d ≡ true
plain_negated w d e each =
    let v : Went w (λ c. Ok (complement c)) d = went w (λ c. Ok (complement c)) d e in
    sym (ap is_plain (ok_same (complement v.from) d v.after)) ∙ plain_complement v.from (each v.from v.first)

plain_both : (w v : Result Concept Cause) (d : Concept) → either_class w v ≡ Ok d → ((c : Concept) → w ≡ Ok c → is_plain c ≡ true)
    → ((c : Concept) → v ≡ Ok c → is_plain c ≡ true) → is_plain d ≡ true
plain_both w v d e left right =
    let one : Went w (λ c. next v (λ k. Ok (UnionOf (also_concept c (also_concept k no_concept))))) d =
    went w (λ c. next v (λ k. Ok (UnionOf (also_concept c (also_concept k no_concept))))) d e in
    let two : Went v (λ k. Ok (UnionOf (also_concept one.from (also_concept k no_concept)))) d =
    went v (λ k. Ok (UnionOf (also_concept one.from (also_concept k no_concept)))) d one.after in
    sym (ap is_plain (ok_same (UnionOf (also_concept one.from (also_concept two.from no_concept))) d two.after))
    ∙ plain_either one.from two.from (left one.from one.first) (right two.from two.first)

plain_noun : (noun : WordId) (p : Part) (foreign : Bool) (o : Option ℕ)
    → (if foreign then Err Shared else elim o [ Some n ↦ Ok (At n (Atomic noun)) | None ↦ Err NoRoot ]) ≡ Ok p → is_plain_part p ≡ true
plain_noun noun p true o e = absurd (no_err Shared p e)
plain_noun noun p false (Some n) e = sym (ap is_plain_part (ok_same (At n (Atomic noun)) p e))
plain_noun noun p false None e = absurd (no_err NoRoot p e)

plain_value : (n : ℕ) (role : Role) (t : Thing) (p : Part) → value_part n role t ≡ Ok p → is_plain_part p ≡ true
plain_value n role (Name name) p e = sym (ap is_plain_part (ok_same (At n (HasValue role name)) p e))
plain_value n role (Ref q) p e = absurd (no_err Shared p e)

plain_edge : (word : WordId) (n m : ℕ) (p : Part) (same : Bool) → (if same then Err Cycle else Ok (Edge word n m)) ≡ Ok p → is_plain_part p ≡ true
plain_edge word n m p true e = absurd (no_err Cycle p e)
plain_edge word n m p false e = sym (ap is_plain_part (ok_same (Edge word n m) p e))

plain_relation : (word : WordId) (t u : Thing) (p : Part) (foreign : Bool) (o q : Option ℕ)
    → (if foreign then Err Shared else elim o [
      | Some n ↦ elim q [ Some m ↦ edge_part word n m | None ↦ value_part n (straight word) u ]
      | None ↦
          elim q [ Some m ↦ value_part m (inverse word) t | None ↦ Err NoRoot ]
    ]) ≡ Ok p → is_plain_part p ≡ true
plain_relation word t u p true o q e = absurd (no_err Shared p e)
plain_relation word t u p false (Some n) (Some m) e = plain_edge word n m p (n == m) e
plain_relation word t u p false (Some n) None e = plain_value n (straight word) u p e
plain_relation word t u p false None (Some m) e = plain_value m (inverse word) t p e
plain_relation word t u p false None None e = absurd (no_err NoRoot p e)

mutual
  pub plain_roll : (root : Option Thing) (k : Structure) (c : Concept) → roll root k ≡ Ok c → is_plain c ≡ true
  plain_roll root (structure rs cs) c e =
      let w : Went (parts root rs cs) (class_of_tree rs) c = went (parts root rs cs) (class_of_tree rs) c e in
      plain_tree rs w.from c w.after (plain_parts root rs cs w.from w.first)

  pub plain_roll_with : (root : Option Thing) (k : Structure) (last : List ℕ → Result Part Cause) (c : Concept)
      → ((rs : List ℕ) (p : Part) → last rs ≡ Ok p → is_plain_part p ≡ true) → roll_with root k last ≡ Ok c → is_plain c ≡ true
  plain_roll_with root (structure rs cs) last c each e =
      let w : Went (parts root rs cs) (λ ps. next (last rs) (λ p. class_of_tree rs (ps ++ p ∷ []))) c =
      went (parts root rs cs) (λ ps. next (last rs) (λ p. class_of_tree rs (ps ++ p ∷ []))) c e in
      let v : Went (last rs) (λ p. class_of_tree rs (w.from ++ p ∷ [])) c = went (last rs) (λ p. class_of_tree rs (w.from ++ p ∷ [])) c w.after in
      plain_tree rs (w.from ++ v.from ∷ []) c v.after
      (list_all-append is_plain_part w.from (v.from ∷ [])
      ∙ and_from (list_all is_plain_part w.from) (is_plain_part v.from && true) (plain_parts root rs cs w.from w.first)
      (and-true (is_plain_part v.from) ∙ each rs v.from v.first))

  pub plain_parts : (root : Option Thing) (rs : List ℕ) (cs : Conditions) (ps : List Part) → parts root rs cs ≡ Ok ps → list_all is_plain_part ps ≡ true
  plain_parts root rs no_condition ps e = sym (ap (list_all is_plain_part) (ok_same [] ps e))
  plain_parts root rs (also_condition c cs) ps e =
      let w : Went (part_of root rs c) (λ p. next (parts root rs cs) (λ qs. Ok (p ∷ qs))) ps =
      went (part_of root rs c) (λ p. next (parts root rs cs) (λ qs. Ok (p ∷ qs))) ps e in
      let v : Went (parts root rs cs) (λ qs. Ok (w.from ∷ qs)) ps = went (parts root rs cs) (λ qs. Ok (w.from ∷ qs)) ps w.after in
      sym (ap (list_all is_plain_part) (ok_same (w.from ∷ v.from) ps v.after))
      ∙ and_from (is_plain_part w.from) (list_all is_plain_part v.from) (plain_part root rs c w.from w.first) (plain_parts root rs cs v.from v.first)

  pub plain_part : (root : Option Thing) (rs : List ℕ) (c : Condition) (p : Part) → part_of root rs c ≡ Ok p → is_plain_part p ≡ true
  plain_part root rs (IsA noun t) p e = plain_noun noun p (is_foreign root rs t) (member root rs t) e
  plain_part root rs (AreRelated word t u) p e =
      plain_relation word t u p (is_foreign root rs t || is_foreign root rs u) (member root rs t) (member root rs u) e
  plain_part root rs (AreSame t u) p e = absurd (never_same p (is_foreign root rs t || is_foreign root rs u) e)
  plain_part root rs (Negation k) p e =
      plain_held root rs (Negation k) (λ v. negated_class (roll v k)) p e (λ v d made. plain_negated (roll v k) d made (λ c rolled. plain_roll v k c rolled))
  plain_part root rs (Implication k l) p e =
      plain_held root rs (Implication k l) (λ v. negated_class (roll_with v k (negation_part (λ w. roll w l) l v))) p e
      (λ v d made.
      plain_negated (roll_with v k (negation_part (λ w. roll w l) l v)) d made
      (λ c rolled. plain_roll_with v k (negation_part (λ w. roll w l) l v) c
      (λ qs q last. plain_held v qs (Negation l) (λ w. negated_class (roll w l)) q last
      (λ w a madew. plain_negated (roll w l) a madew (λ b rolledw. plain_roll w l b rolledw)))
      rolled))
  plain_part root rs (Disjunction k l) p e =
      plain_held root rs (Disjunction k l) (λ v. either_class (roll v k) (roll v l)) p e
      (λ v d made. plain_both (roll v k) (roll v l) d made (λ c rolled. plain_roll v k c rolled) (λ c rolled. plain_roll v l c rolled))

-- an axiom that may be there
abbrev pub is_plain_maybe : Option Claim → Bool
is_plain_maybe (Some claim) = is_plain_claim claim
is_plain_maybe None = true

plain_denied : (d : Condition) → is_plain_maybe (denied_claim d) ≡ true
plain_denied (IsA noun t) = refl
plain_denied (AreRelated word (Name a) (Name b)) = refl
plain_denied (AreRelated word (Name a) (Ref r)) = refl
plain_denied (AreRelated word (Ref r) t) = refl
plain_denied (AreSame (Name a) (Name b)) = refl
plain_denied (AreSame (Name a) (Ref r)) = refl
plain_denied (AreSame (Ref r) t) = refl
plain_denied (Negation k) = refl
plain_denied (Implication k l) = refl
plain_denied (Disjunction k l) = refl

plain_negation : (o : Option Condition) → is_plain_maybe (elim o [ Some d ↦ denied_claim d | None ↦ None ]) ≡ true
plain_negation (Some d) = plain_denied d
plain_negation None = refl

plain_pair : (pair straight_on swapped : Bool) (r s t u : Role)
    → is_plain_maybe (if not pair then None else if straight_on then Some (SubPropertyOf r s) else if swapped then Some (SubPropertyOf t u) else None) ≡ true
plain_pair false straight_on swapped r s t u = refl
plain_pair true true swapped r s t u = refl
plain_pair true false true r s t u = refl
plain_pair true false false r s t u = refl

plain_role : (rs : List ℕ) (c d : Condition) → is_plain_maybe (role_claim rs c d) ≡ true
plain_role rs (AreRelated below (Ref x) (Ref y)) (AreRelated above (Ref u) (Ref v)) =
    plain_pair (is_pair rs x y) ((u == x) && (v == y)) ((u == y) && (v == x)) (straight below) (straight above) (straight below) (inverse above)
plain_role rs (AreRelated below (Ref x) (Ref y)) (AreRelated above (Ref u) (Name b)) = refl
plain_role rs (AreRelated below (Ref x) (Ref y)) (AreRelated above (Name a) t) = refl
plain_role rs (AreRelated below (Ref x) (Ref y)) (IsA noun t) = refl
plain_role rs (AreRelated below (Ref x) (Ref y)) (AreSame t u) = refl
plain_role rs (AreRelated below (Ref x) (Ref y)) (Negation k) = refl
plain_role rs (AreRelated below (Ref x) (Ref y)) (Implication k m) = refl
plain_role rs (AreRelated below (Ref x) (Ref y)) (Disjunction k m) = refl
plain_role rs (AreRelated below (Ref x) (Name b)) d = refl
plain_role rs (AreRelated below (Name a) t) d = refl
plain_role rs (IsA noun t) d = refl
plain_role rs (AreSame t u) d = refl
plain_role rs (Negation k) d = refl
plain_role rs (Implication k m) d = refl
plain_role rs (Disjunction k m) d = refl

plain_subrole : (rs : List ℕ) (o q : Option Condition)
    → is_plain_maybe (elim o [ Some c ↦ elim q [ Some d ↦ role_claim rs c d | None ↦ None ] | None ↦ None ]) ≡ true
plain_subrole rs (Some c) (Some d) = plain_role rs c d
plain_subrole rs (Some c) None = refl
plain_subrole rs None q = refl

plain_chain : (rs : List ℕ) (o p q : Option (WordId × ℕ × ℕ)) → is_plain_maybe (chain_claim rs o p q) ≡ true
plain_chain rs (Some o) (Some p) (Some q) = by (lead_on rs o p q || lead_on rs p o q)
  where
    by : (b : Bool) → is_plain_maybe (if b then Some (TransitiveProperty o.0) else None) ≡ true
    by true = refl
    by false = refl
plain_chain rs (Some o) (Some p) None = refl
plain_chain rs (Some o) None q = refl
plain_chain rs None p q = refl

plain_transitive : (rs : List ℕ) (o : Option (Condition × Condition)) (q : Option Condition)
    → is_plain_maybe (elim o [
      | Some p ↦ elim q [ Some e ↦ chain_claim rs (referents_related p.0) (referents_related p.1) (referents_related e) | None ↦ None ]
      | None ↦ None
    ]) ≡ true
plain_transitive rs (Some p) (Some e) = plain_chain rs (referents_related p.0) (referents_related p.1) (referents_related e)
plain_transitive rs (Some p) None = refl
plain_transitive rs None q = refl

plain_either_claim : (o p : Option Claim) → is_plain_maybe o ≡ true → is_plain_maybe p ≡ true → is_plain_maybe (option_or o p) ≡ true
plain_either_claim (Some claim) p h g = h
plain_either_claim None p h g = g

plain_as_it_stands : (c : Condition) → is_plain_maybe (plain_claim c) ≡ true
plain_as_it_stands (IsA noun (Name a)) = refl
plain_as_it_stands (IsA noun (Ref r)) = refl
plain_as_it_stands (AreRelated word (Name a) (Name b)) = refl
plain_as_it_stands (AreRelated word (Name a) (Ref r)) = refl
plain_as_it_stands (AreRelated word (Ref r) t) = refl
plain_as_it_stands (AreSame (Name a) (Name b)) = refl
plain_as_it_stands (AreSame (Name a) (Ref r)) = refl
plain_as_it_stands (AreSame (Ref r) t) = refl
plain_as_it_stands (Negation k) = plain_negation (only_fact k)
plain_as_it_stands (Implication k l) =
    plain_either_claim (subrole_claim k l) (transitive_claim k l) (plain_subrole (referents_in k) (only_condition k) (only_fact l))
    (plain_transitive (referents_in k) (two_conditions k) (only_fact l))
plain_as_it_stands (Disjunction k l) = refl

-- the axioms that are made by rolling up
plain_member : (name : WordId) (k : Structure) (claim : Claim) → member_claim name k ≡ Ok claim → is_plain_claim claim ≡ true
plain_member name k claim e =
    let w : Went (roll (Some (Name name)) k) (λ c. Ok (ClassAssertion c name)) claim =
    went (roll (Some (Name name)) k) (λ c. Ok (ClassAssertion c name)) claim e in
    sym (ap is_plain_claim (ok_same (ClassAssertion w.from name) claim w.after)) ∙ plain_roll (Some (Name name)) k w.from w.first

plain_subclass : (x : ℕ) (k l : Structure) (claim : Claim) → subclass_claim x k l ≡ Ok claim → is_plain_claim claim ≡ true
plain_subclass x k l claim e =
    let w : Went (roll (Some (Ref x)) (without x k)) (λ c. next (roll (Some (Ref x)) l) (λ d. Ok (SubClassOf c d))) claim =
    went (roll (Some (Ref x)) (without x k)) (λ c. next (roll (Some (Ref x)) l) (λ d. Ok (SubClassOf c d))) claim e in
    let v : Went (roll (Some (Ref x)) l) (λ d. Ok (SubClassOf w.from d)) claim = went (roll (Some (Ref x)) l) (λ d. Ok (SubClassOf w.from d)) claim w.after in
    sym (ap is_plain_claim (ok_same (SubClassOf w.from v.from) claim v.after))
    ∙ and_from (is_plain w.from) (is_plain v.from) (plain_roll (Some (Ref x)) (without x k) w.from w.first) (plain_roll (Some (Ref x)) l v.from v.first)

plain_other : (c : Condition) (claim : Claim) → other_claim c ≡ Ok claim → is_plain_claim claim ≡ true
plain_other c claim e =
    let w : Went (roll None (alone c)) (λ d. Ok (SubClassOf Everything d)) claim = went (roll None (alone c)) (λ d. Ok (SubClassOf Everything d)) claim e in
    sym (ap is_plain_claim (ok_same (SubClassOf Everything w.from) claim w.after)) ∙ plain_roll None (alone c) w.from w.first

plain_leading : (k l : Structure) (rs : List ℕ) (claim : Claim) → leading_claim k l rs ≡ Ok claim → is_plain_claim claim ≡ true
plain_leading k l [] claim e = plain_other (Implication k l) claim e
plain_leading k l (x ∷ xs) claim e = plain_subclass x k l claim e

plain_nameless : (c : Condition) (claim : Claim) → nameless_claim c ≡ Ok claim → is_plain_claim claim ≡ true
plain_nameless (Implication k l) claim e = plain_leading k l (referents_in k) claim e
plain_nameless (IsA noun t) claim e = plain_other (IsA noun t) claim e
plain_nameless (AreRelated word t u) claim e = plain_other (AreRelated word t u) claim e
plain_nameless (AreSame t u) claim e = plain_other (AreSame t u) claim e
plain_nameless (Negation k) claim e = plain_other (Negation k) claim e
plain_nameless (Disjunction k l) claim e = plain_other (Disjunction k l) claim e

plain_named_by : (c : Condition) (claim : Claim) (o : Option WordId)
    → ◌≡◌ {A = Result Claim Cause} (elim o [ Some name ↦ member_claim name (alone c) | None ↦ nameless_claim c ]) (Ok claim) → is_plain_claim claim ≡ true
plain_named_by c claim (Some name) e = plain_member name (alone c) claim e
plain_named_by c claim None e = plain_nameless c claim e

plain_named : (c : Condition) (claim : Claim) → named_claim c ≡ Ok claim → is_plain_claim claim ≡ true
plain_named c claim e = plain_named_by c claim (first_name (terms_in_condition [] c)) e

plain_used : (k l : Structure) (used : List ℕ) (claim : Claim) → used_claim k l used ≡ Ok claim → is_plain_claim claim ≡ true
plain_used k l [] claim e = plain_named (Implication k l) claim e
plain_used k l (x ∷ xs) claim e = by (list_all (λ q. q == x) xs) e
  where
    by : (b : Bool) → (if b then subclass_claim x k l else Err Shared) ≡ Ok claim → is_plain_claim claim ≡ true
    by true h = plain_subclass x k l claim h
    by false h = absurd (no_err Shared claim h)

plain_compound : (c : Condition) (claim : Claim) → compound_claim c ≡ Ok claim → is_plain_claim claim ≡ true
plain_compound (Implication k l) claim e = plain_used k l (referents_among (referents_in k) (terms_in [] l)) claim e
plain_compound (IsA noun t) claim e = plain_named (IsA noun t) claim e
plain_compound (AreRelated word t u) claim e = plain_named (AreRelated word t u) claim e
plain_compound (AreSame t u) claim e = plain_named (AreSame t u) claim e
plain_compound (Negation k) claim e = plain_named (Negation k) claim e
plain_compound (Disjunction k l) claim e = plain_named (Disjunction k l) claim e

plain_alone_by : (c : Condition) (claim : Claim) (o : Option Claim) → is_plain_maybe o ≡ true
    → ◌≡◌ {A = Result Claim Cause} (elim o [ Some plain ↦ Ok plain | None ↦ compound_claim c ]) (Ok claim) → is_plain_claim claim ≡ true
plain_alone_by c claim (Some plain) h e = sym (ap is_plain_claim (ok_same plain claim e)) ∙ h
plain_alone_by c claim None h e = plain_compound c claim e

plain_alone : (c : Condition) (claim : Claim) → claim_alone c ≡ Ok claim → is_plain_claim claim ≡ true
plain_alone c claim e = plain_alone_by c claim (plain_claim c) (plain_as_it_stands c) e

plain_together : (rs : List ℕ) (cs : List Condition) (claim : Claim) → claim_together rs cs ≡ Ok claim → is_plain_claim claim ≡ true
plain_together rs cs claim e = by (first_name (terms_in_all [] (conditions_from cs))) e
  where
    by : (o : Option WordId) → ◌≡◌ {A = Result Claim Cause} (elim o [ Some name ↦ member_claim name (structure rs (conditions_from cs)) | None ↦ Err NoRoot ])
        (Ok claim) → is_plain_claim claim ≡ true
    by (Some name) h = plain_member name (structure rs (conditions_from cs)) claim h
    by None h = absurd (no_err NoRoot claim h)

plain_some : (w : Result Claim Cause) (o : Option Claim) → next w (λ claim. Ok (Some claim)) ≡ Ok o
    → ((claim : Claim) → w ≡ Ok claim → is_plain_claim claim ≡ true) → is_plain_maybe o ≡ true
plain_some w o e each =
    let v : Went w (λ claim. Ok (Some claim)) o = went w (λ claim. Ok (Some claim)) o e in
    sym (ap is_plain_maybe (ok_same (Some v.from) o v.after)) ∙ each v.from v.first

plain_at_by : (alone_claim together_claim : Result Claim Cause) (o : Option Claim) (none was : Bool)
    → ((claim : Claim) → alone_claim ≡ Ok claim → is_plain_claim claim ≡ true) → ((claim : Claim) → together_claim ≡ Ok claim → is_plain_claim claim ≡ true)
    → (if none then next alone_claim (λ claim. Ok (Some claim)) else if was then Ok None else next together_claim (λ claim. Ok (Some claim))) ≡ Ok o
    → is_plain_maybe o ≡ true
plain_at_by alone_claim together_claim o true was left right e = plain_some alone_claim o e left
plain_at_by alone_claim together_claim o false true left right e = sym (ap is_plain_maybe (ok_same None o e))
plain_at_by alone_claim together_claim o false false left right e = plain_some together_claim o e right

plain_at : (rs : List ℕ) (gs : List (List ℕ)) (all : List Condition) (before : List (List ℕ)) (own : List ℕ) (c : Condition) (o : Option Claim)
    → claim_at rs gs all before own c ≡ Ok o → is_plain_maybe o ≡ true
plain_at rs gs all before own c o e =
    plain_at_by (claim_alone c) (claim_together (referents_with gs own rs) (conditions_with rs gs own all)) o (length own == 0)
    (list_any (together gs own) before)
    (plain_alone c) (plain_together (referents_with gs own rs) (conditions_with rs gs own all)) e

plain_more : (o : Option Claim) (claims : List Claim) → are_plain (cons_option o claims) ≡ (is_plain_maybe o && are_plain claims)
plain_more (Some claim) claims = refl
plain_more None claims = refl

plain_after : (rs : List ℕ) (gs : List (List ℕ)) (all : List Condition) (before : List (List ℕ)) (cs : List Condition) (claims : List Claim)
    → claims_after rs gs all before cs ≡ Ok claims → are_plain claims ≡ true
plain_after rs gs all before [] claims e = sym (ap are_plain (ok_same [] claims e))
plain_after rs gs all before (c ∷ cs) claims e =
    let w : Went (claim_at rs gs all before (own_terms rs c) c)
    (λ claim. next (claims_after rs gs all (before ++ own_terms rs c ∷ []) cs) (λ more. Ok (cons_option claim more))) claims =
    went (claim_at rs gs all before (own_terms rs c) c)
    (λ claim. next (claims_after rs gs all (before ++ own_terms rs c ∷ []) cs) (λ more. Ok (cons_option claim more))) claims e in
    let v : Went (claims_after rs gs all (before ++ own_terms rs c ∷ []) cs) (λ more. Ok (cons_option w.from more)) claims =
    went (claims_after rs gs all (before ++ own_terms rs c ∷ []) cs) (λ more. Ok (cons_option w.from more)) claims w.after in
    sym (ap are_plain (ok_same (cons_option w.from v.from) claims v.after))
    ∙ plain_more w.from v.from
    ∙ and_from (is_plain_maybe w.from) (are_plain v.from) (plain_at rs gs all before (own_terms rs c) c w.from w.first)
    (plain_after rs gs all (before ++ own_terms rs c ∷ []) cs v.from v.first)

-- the axioms of a statement, and the class of a question
pub statement_plain : (k : Structure) (claims : List Claim) → axioms_stated k ≡ Ok claims → are_plain claims ≡ true
statement_plain (structure rs cs) claims e =
    plain_after rs (map (own_terms rs) (condition_list cs)) (condition_list cs) [] (condition_list cs) claims e

pub question_plain : (k : Structure) (asked : ℕ) (c : Concept) → class_asked k asked ≡ Ok c → is_plain c ≡ true
question_plain k asked c e = plain_roll (Some (Ref asked)) (without asked k) c e
