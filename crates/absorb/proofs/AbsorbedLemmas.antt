-- What absorption makes of axioms is lawful, plain where they are, and has the same models.
use Rattle.std.proofs.Common.{◌≡◌, ℕ, ◌<◌, ◌≤◌, ◌&&◌, ◌||◌, Bool, true, false, List, [], ◌∷◌, ◌++◌, map, length, get_or, All, Contains, Some, refl, sym, ap, ◌∙◌, subst, inl, inr, arith}
use Rattle.std.specs.Prelude.{◌⊎◌, ◌↔◌, IsTrue, AllPairs, nat_lt}
use Rattle.std.specs.List.{list_all}
use Rattle.std.specs.Map.{lookup}
use Rattle.std.proofs.lemmas.Bool.{and_parts, and_from}
use Rattle.std.proofs.lemmas.Bool.Decides.{Decides-by_and}
use Rattle.std.proofs.lemmas.List.Elements.{All-contains, Contains-get_or}
use Rattle.wiki_base.specs.declared.numbers.WordId.{WordId}
use Rattle.logic_terms.specs.declared.expressions.Role.{Role}
use Rattle.logic_terms.specs.Concept.{Concept, Claim, Everything, Atomic, SubClassOf, SubPropertyOf, ClassAssertion, PropertyAssertion, SameIndividual, DifferentIndividuals, TransitiveProperty}
use Rattle.logic_terms.specs.Interpretation.{Interpretation, is_word, words_above, words_rise, element_of, Relates}
use Rattle.logic_terms.specs.Meaning.{holds}
use Rattle.logic_terms.specs.Reading.{Holds, IsModel}
use Rattle.logic_terms.specs.Names.{names_above, names_rise}
use Rattle.logic_terms.specs.Plain.{is_plain, are_plain, is_plain_theory}
use Rattle.logic_terms.specs.Same.{same_role, inverse}
use Rattle.logic_terms.specs.Theory.{Theory, representative, is_given, names_given, IsLawful, IsModelOf}
use Rattle.logic_terms.proofs.MeaningLemmas.{holds-Decides, all_hold-Decides}
use Rattle.absorb.specs.Closure.{Reaches}
use Rattle.absorb.specs.Hierarchy.{IsAtOrBelow, AreDistinct}
use Rattle.absorb.specs.Mentioned.{names_in, is_among, are_over}
use Rattle.absorb.specs.Pieces.{Piece, Equality, RoleInclusion, Assertion, Related, Difference, Transitivity, Unfolding, General}
use Rattle.absorb.specs.Sorted.{Sorted, sorted}
use Rattle.absorb.specs.Absorbed.{AreEquated, Represents, IsPutBelow, IsAbsorbed}
use Rattle.absorb.proofs.ClosureLemmas as closure
use Rattle.absorb.proofs.HierarchyLemmas.{is_word-Decides, is_below-Decides, inverse-inverse}
use Rattle.absorb.proofs.RepresentativeLemmas.{joined_back, lookup_given, same_word}
use Rattle.absorb.proofs.PieceLemmas.{piece_holds, holds-all_pieces, Relates-inverse, Relates-turned}
use Rattle.absorb.proofs.SortedLemmas.{all_sorted, all_sorted-sorted}
use Rattle.absorb.proofs.NamedLemmas.{piece_over, over-all_pieces, is_given-among, names_given-over, piece_plain, plain-all_pieces}

-- a test that each item passes, and back
pub each_passes : {X : Type 0} (test : X → Bool) (xs : List X) → list_all test xs ≡ true → All (λ x. test x ≡ true) xs
each_passes test xs = (Decides-by_and test (λ x. test x ≡ true) (list_all test) (λ x. (λ h. h, λ h. h)) refl (λ _ _. refl) xs).0

pub all_pass : {X : Type 0} (test : X → Bool) (xs : List X) → All (λ x. test x ≡ true) xs → list_all test xs ≡ true
all_pass test xs = (Decides-by_and test (λ x. test x ≡ true) (list_all test) (λ x. (λ h. h, λ h. h)) refl (λ _ _. refl) xs).1

-- what each sorted piece passes, kind by kind
pub record PassEach (test : Piece → Bool) (s : Sorted) : Type 0 where
  pub equalities : All (λ e. test (Equality e.0 e.1) ≡ true) s.equalities
  pub role_inclusions : All (λ e. test (RoleInclusion e.0 e.1) ≡ true) s.role_inclusions
  pub assertions : All (λ e. test (Assertion e.0 e.1) ≡ true) s.assertions
  pub edges : All (λ e. test (Related e.0 e.1 e.2) ≡ true) s.edges
  pub differences : All (λ e. test (Difference e.0 e.1) ≡ true) s.differences
  pub transitive : All (λ w. test (Transitivity w) ≡ true) s.transitive
  pub unfoldings : All (λ e. test (Unfolding e.0 e.1) ≡ true) s.unfoldings
  pub general : All (λ c. test (General c) ≡ true) s.general

pass_each : (test : Piece → Bool) (s : Sorted) → all_sorted test s ≡ true → PassEach test s
pass_each test s h =
    let e = list_all (λ e. test (Equality e.0 e.1)) s.equalities in
    let r = list_all (λ e. test (RoleInclusion e.0 e.1)) s.role_inclusions in
    let a = list_all (λ e. test (Assertion e.0 e.1)) s.assertions in
    let g = list_all (λ e. test (Related e.0 e.1 e.2)) s.edges in
    let d = list_all (λ e. test (Difference e.0 e.1)) s.differences in
    let w = list_all (λ w. test (Transitivity w)) s.transitive in
    let u = list_all (λ e. test (Unfolding e.0 e.1)) s.unfoldings in
    let n = list_all (λ c. test (General c)) s.general in
    let p1 = and_parts e (r && (a && (g && (d && (w && (u && n)))))) h in
    let p2 = and_parts r (a && (g && (d && (w && (u && n))))) p1.1 in
    let p3 = and_parts a (g && (d && (w && (u && n)))) p2.1 in
    let p4 = and_parts g (d && (w && (u && n))) p3.1 in
    let p5 = and_parts d (w && (u && n)) p4.1 in
    let p6 = and_parts w (u && n) p5.1 in
    let p7 = and_parts u n p6.1 in
    record {
      equalities = each_passes (λ e. test (Equality e.0 e.1)) s.equalities p1.0;
      role_inclusions = each_passes (λ e. test (RoleInclusion e.0 e.1)) s.role_inclusions p2.0;
      assertions = each_passes (λ e. test (Assertion e.0 e.1)) s.assertions p3.0;
      edges = each_passes (λ e. test (Related e.0 e.1 e.2)) s.edges p4.0;
      differences = each_passes (λ e. test (Difference e.0 e.1)) s.differences p5.0;
      transitive = each_passes (λ w. test (Transitivity w)) s.transitive p6.0;
      unfoldings = each_passes (λ e. test (Unfolding e.0 e.1)) s.unfoldings p7.0;
      general = each_passes (λ c. test (General c)) s.general p7.1;
    }

pass_all : (test : Piece → Bool) (s : Sorted) → PassEach test s → all_sorted test s ≡ true
pass_all test s p =
    let e = list_all (λ e. test (Equality e.0 e.1)) s.equalities in
    let r = list_all (λ e. test (RoleInclusion e.0 e.1)) s.role_inclusions in
    let a = list_all (λ e. test (Assertion e.0 e.1)) s.assertions in
    let g = list_all (λ e. test (Related e.0 e.1 e.2)) s.edges in
    let d = list_all (λ e. test (Difference e.0 e.1)) s.differences in
    let w = list_all (λ w. test (Transitivity w)) s.transitive in
    let u = list_all (λ e. test (Unfolding e.0 e.1)) s.unfoldings in
    let n = list_all (λ c. test (General c)) s.general in
    and_from e (r && (a && (g && (d && (w && (u && n)))))) (all_pass (λ e. test (Equality e.0 e.1)) s.equalities p.equalities)
    (and_from r (a && (g && (d && (w && (u && n))))) (all_pass (λ e. test (RoleInclusion e.0 e.1)) s.role_inclusions p.role_inclusions)
    (and_from a (g && (d && (w && (u && n)))) (all_pass (λ e. test (Assertion e.0 e.1)) s.assertions p.assertions)
    (and_from g (d && (w && (u && n))) (all_pass (λ e. test (Related e.0 e.1 e.2)) s.edges p.edges)
    (and_from d (w && (u && n)) (all_pass (λ e. test (Difference e.0 e.1)) s.differences p.differences)
    (and_from w (u && n) (all_pass (λ w. test (Transitivity w)) s.transitive p.transitive)
    (and_from u n (all_pass (λ e. test (Unfolding e.0 e.1)) s.unfoldings p.unfoldings) (all_pass (λ c. test (General c)) s.general p.general)))))))

pub over_each : (names : List WordId) (claims : List Claim) → are_over names claims ≡ true → PassEach (piece_over names) (sorted claims)
over_each names claims h = pass_each (piece_over names) (sorted claims) (all_sorted-sorted (piece_over names) claims ∙ over-all_pieces names claims h)

-- the names of equalities are given
pub equalities_over : (names : List WordId) (claims : List Claim) → are_over names claims ≡ true
    → list_all (λ e. is_among names e.0 && is_among names e.1) (sorted claims).equalities ≡ true
equalities_over names claims h =
    all_pass (λ e. is_among names e.0 && is_among names e.1) (sorted claims).equalities
    (λ k d lt. two names (get_or (sorted claims).equalities k d) ((over_each names claims h).equalities k d lt))
  where
    two : (names : List WordId) (e : WordId × WordId) → list_all (is_among names) (e.0 ∷ e.1 ∷ []) ≡ true → (is_among names e.0 && is_among names e.1) ≡ true
    two names e t =
        let p = and_parts (is_among names e.0) (is_among names e.1 && true) t in
        and_from (is_among names e.0) (is_among names e.1) p.0 (and_parts (is_among names e.1) true p.1).0

words_rise-names : (es : List (WordId × WordId)) → words_rise es ≡ names_rise (map (λ (e : WordId × WordId). e.0) es)
words_rise-names [] = refl
words_rise-names (e ∷ es) = go e.0 es
  where
    go : (w : WordId) (es : List (WordId × WordId)) → words_above w es ≡ names_above w (map (λ (e : WordId × WordId). e.0) es)
    go w [] = refl
    go w (e ∷ es) = ap (λ b. nat_lt w.0 e.0.0 && b) (go e.0 es)

-- representatives of joined names are one
same_representative : (ps : List (WordId × WordId)) (x y r s : WordId) → Reaches (AreEquated ps) x y → Represents ps x r → Represents ps y s → r ≡ s
same_representative ps x y r s link of_x of_y =
    let down = of_x.least s (closure.join (AreEquated ps) x y s link of_y.joined) in
    let up = of_y.least r (closure.join (AreEquated ps) y x r (joined_back ps x y link) of_x.joined) in
    same_word r s (omega arith)

module _ (claims : List Claim) (names : List WordId) (k : Theory) (made : IsAbsorbed claims names k) (given : are_over names claims ≡ true) where
  ps : List (WordId × WordId)
  ps = (sorted claims).equalities

  among_here : (name : WordId) → is_among names name ≡ true → is_among (map (λ (e : WordId × WordId). e.0) k.names) name ≡ true
  among_here name h = ap (λ ns. is_among ns name) made.given ∙ h

  entry : (name : WordId) → is_among names name ≡ true → (r : WordId) × (lookup (is_word name) k.names ≡ Some r) × Contains k.names (name, r)
  entry name h = lookup_given k.names name (among_here name h)

  of_entry : (e : WordId × WordId) → Contains k.names e → Represents (sorted claims).equalities e.0 e.1
  of_entry e h = All-contains (λ e. Represents (sorted claims).equalities e.0 e.1) k.names e made.representatives h

  in_equality : (e : WordId × WordId) → Contains (sorted claims).equalities e → (is_among names e.0 ≡ true) × (is_among names e.1 ≡ true)
  in_equality e h =
      let t = All-contains (λ e. (is_among names e.0 && is_among names e.1) ≡ true) (sorted claims).equalities e
      (each_passes (λ e. is_among names e.0 && is_among names e.1) (sorted claims).equalities (equalities_over names claims given)) h in
      and_parts (is_among names e.0) (is_among names e.1) t

  stays_among : (x y : WordId) → Reaches (AreEquated (sorted claims).equalities) x y → is_among names x ≡ true → is_among names y ≡ true
  stays_among x y r h =
      closure.kept (AreEquated (sorted claims).equalities) (λ u v. is_among names u ≡ true → is_among names v ≡ true) (λ u t. t)
      (λ u v w before step t. elim step [ inl one ↦ (in_equality (v, w) one).1 | inr other ↦ (in_equality (w, v) other).0 ]) x y r h

  name_among : (e : WordId × WordId) → Contains k.names e → is_among names e.0 ≡ true
  name_among e (j, lt, at) = sym (ap (λ ns. is_among ns e.0) made.given) ∙ go k.names j e lt at
    where
      go : (es : List (WordId × WordId)) (j : ℕ) (e : WordId × WordId) → j < length es → get_or es j e ≡ e
          → is_among (map (λ (f : WordId × WordId). f.0) es) e.0 ≡ true
      go [] j e lt at = absurd (omega arith)
      go (f ∷ es) Prim.Native.Nat.zero e lt at =
          Rattle.std.proofs.lemmas.Bool.or_left (is_word e.0 f.0) (is_among (map (λ (f : WordId × WordId). f.0) es) e.0)
          ((is_word-Decides e.0 f.0).1 (sym (ap (λ q. q.0) at)))
      go (f ∷ es) (Prim.Native.Nat.suc j) e lt at =
          Rattle.std.proofs.lemmas.Bool.or_right (is_word e.0 f.0) (is_among (map (λ (f : WordId × WordId). f.0) es) e.0) (go es j e (omega arith) at)

  at_or_below : (r s : Role) → IsAtOrBelow k.hierarchy r s → Reaches (IsPutBelow (sorted claims).role_inclusions) r s
  at_or_below r s h = (made.hierarchy r s).0 ((is_below-Decides k r s).1 h)

  below_from : (r s : Role) → Reaches (IsPutBelow (sorted claims).role_inclusions) r s → IsAtOrBelow k.hierarchy r s
  below_from r s h = (is_below-Decides k r s).0 ((made.hierarchy r s).1 h)

  turn_step : (r s : Role) → IsPutBelow (sorted claims).role_inclusions r s → IsPutBelow (sorted claims).role_inclusions (inverse r) (inverse s)
  turn_step r s h = elim h [
    | inl plain ↦ inr (subst (λ q. Contains (sorted claims).role_inclusions q) (λ j. (sym (inverse-inverse r) j, sym (inverse-inverse s) j)) plain)
    | inr turned ↦ inl turned
  ]

  turn_all : (r s : Role) → Reaches (IsPutBelow (sorted claims).role_inclusions) r s
      → Reaches (IsPutBelow (sorted claims).role_inclusions) (inverse r) (inverse s)
  turn_all r s h =
      closure.kept (IsPutBelow (sorted claims).role_inclusions) (λ x y. Reaches (IsPutBelow (sorted claims).role_inclusions) (inverse x) (inverse y))
      (λ x. (0, refl))
      (λ x y z before step. closure.onward (IsPutBelow (sorted claims).role_inclusions) (inverse x) (inverse y) (inverse z) before (turn_step y z step)) r s h

  overs : PassEach (piece_over names) (sorted claims)
  overs = over_each names claims given

  given_here : (name : WordId) → is_among names name ≡ true → is_given k name ≡ true
  given_here name h = is_given-among k name ∙ among_here name h

  class_here : (c : Concept) → list_all (is_among names) (names_in c) ≡ true → names_given k c ≡ true
  class_here c h = names_given-over k c (ap (λ ns. list_all (is_among ns) (names_in c)) made.given ∙ h)

  pub lawful : names_rise names ≡ true → IsLawful k
  lawful rise = record {
    rising = words_rise-names k.names ∙ ap names_rise made.given ∙ rise;
    representatives = λ j d lt. own (get_or k.names j d) (Contains-get_or k.names j d lt);
    assertions = subst (All (λ e. IsTrue (is_given k e.0 && names_given k e.1))) (sym made.assertions)
        (λ j d lt. asserted (get_or (sorted claims).assertions j d) (overs.assertions j d lt));
    edges = subst (All (λ e. IsTrue (is_given k e.1 && is_given k e.2))) (sym made.edges)
        (λ j d lt. two (get_or (sorted claims).edges j d).1 (get_or (sorted claims).edges j d).2 (overs.edges j d lt));
    differences = subst (All (λ e. IsTrue (is_given k e.0 && is_given k e.1))) (sym made.differences)
        (λ j d lt. two (get_or (sorted claims).differences j d).0 (get_or (sorted claims).differences j d).1 (overs.differences j d lt));
    unfoldings = subst (All (λ e. IsTrue (names_given k e.1))) (sym made.unfoldings)
        (λ j d lt. class_here (get_or (sorted claims).unfoldings j d).1 (overs.unfoldings j d lt));
    general = subst (All (λ c. IsTrue (names_given k c))) (sym made.general)
        (λ j d lt. class_here (get_or (sorted claims).general j d) (overs.general j d lt));
    transitive = λ r s t h l. (made.hierarchy r t).1
        (closure.join (IsPutBelow (sorted claims).role_inclusions) r s t ((made.hierarchy r s).0 h) ((made.hierarchy s t).0 l));
    inverses = λ r s h. (made.hierarchy (inverse r) (inverse s)).1 (turn_all r s ((made.hierarchy r s).0 h));
  }
    where
      own : (e : WordId × WordId) → Contains k.names e → representative k e.1 ≡ Some e.1
      own e here =
          let rep = of_entry e here in
          let its = entry e.1 (stays_among e.0 e.1 rep.joined (name_among e here)) in
          its.1 ∙ ap Some (same_representative (sorted claims).equalities e.1 e.0 its.0 e.1 (joined_back (sorted claims).equalities e.0 e.1 rep.joined)
          (of_entry (e.1, its.0) its.2) rep)

      two : (a b : WordId) → list_all (is_among names) (a ∷ b ∷ []) ≡ true → (is_given k a && is_given k b) ≡ true
      two a b t =
          let p = and_parts (is_among names a) (is_among names b && true) t in
          and_from (is_given k a) (is_given k b) (given_here a p.0) (given_here b (and_parts (is_among names b) true p.1).0)

      asserted : (e : WordId × Concept) → list_all (is_among names) (e.0 ∷ names_in e.1) ≡ true → (is_given k e.0 && names_given k e.1) ≡ true
      asserted e t =
          let p = and_parts (is_among names e.0) (list_all (is_among names) (names_in e.1)) t in
          and_from (is_given k e.0) (names_given k e.1) (given_here e.0 p.0) (class_here e.1 p.1)

  pub plain_theory : are_plain claims ≡ true → is_plain_theory k ≡ true
  plain_theory h =
      let each = pass_each piece_plain (sorted claims) (all_sorted-sorted piece_plain claims ∙ plain-all_pieces claims h) in
      and_from (list_all (λ e. is_plain e.1) k.assertions) (list_all (λ e. is_plain e.1) k.unfoldings && list_all is_plain k.general)
      (ap (list_all (λ e. is_plain e.1)) made.assertions ∙ all_pass (λ e. is_plain e.1) (sorted claims).assertions each.assertions)
      (and_from (list_all (λ e. is_plain e.1) k.unfoldings) (list_all is_plain k.general)
      (ap (list_all (λ e. is_plain e.1)) made.unfoldings
      ∙ all_pass (λ e. is_plain e.1) (sorted claims).unfoldings
      (λ j d lt. (and_parts (is_plain (Atomic (get_or (sorted claims).unfoldings j d).0)) (is_plain (get_or (sorted claims).unfoldings j d).1)
      (each.unfoldings j d lt)).1))
      (ap (list_all is_plain) made.general
      ∙ all_pass is_plain (sorted claims).general
      (λ j d lt. (and_parts (is_plain Everything) (is_plain (get_or (sorted claims).general j d)) (each.general j d lt)).1)))

  -- a model of the axioms is one of the knowledge
  pub model_of : (i : Interpretation) → IsModel i claims → IsModelOf i k
  model_of i model = record {
    names = λ j d lt. same_element (get_or k.names j d).0 (get_or k.names j d).1 (made.representatives j d lt).joined;
    hierarchy = λ j d lt. included (get_or k.hierarchy j d).0 (get_or k.hierarchy j d).1
        (at_or_below (get_or k.hierarchy j d).0 (get_or k.hierarchy j d).1 (inr (Contains-get_or k.hierarchy j d lt)));
    transitive = λ j d lt. led_on (get_or k.transitive j d) ((made.transitive (get_or k.transitive j d)).0 (Contains-get_or k.transitive j d lt));
    assertions = subst (All (λ e. Holds i (ClassAssertion e.1 e.0))) (sym made.assertions)
        (λ j d lt. true_claim (ClassAssertion (get_or (sorted claims).assertions j d).1 (get_or (sorted claims).assertions j d).0) (each.assertions j d lt));
    edges = subst (All (λ e. Holds i (PropertyAssertion e.0 e.1 e.2))) (sym made.edges)
        (λ j d lt. true_claim (PropertyAssertion (get_or (sorted claims).edges j d).0 (get_or (sorted claims).edges j d).1 (get_or (sorted claims).edges j d).2)
        (each.edges j d lt));
    differences = subst (All (λ e. Holds i (DifferentIndividuals e.0 e.1))) (sym made.differences)
        (λ j d lt. true_claim (DifferentIndividuals (get_or (sorted claims).differences j d).0 (get_or (sorted claims).differences j d).1)
        (each.differences j d lt));
    unfoldings = subst (All (λ e. Holds i (SubClassOf (Atomic e.0) e.1))) (sym made.unfoldings)
        (λ j d lt. true_claim (SubClassOf (Atomic (get_or (sorted claims).unfoldings j d).0) (get_or (sorted claims).unfoldings j d).1)
        (each.unfoldings j d lt));
    general = subst (All (λ c. Holds i (SubClassOf Everything c))) (sym made.general)
        (λ j d lt. true_claim (SubClassOf Everything (get_or (sorted claims).general j d)) (each.general j d lt));
  }
    where
      each : PassEach (piece_holds i) (sorted claims)
      each = pass_each (piece_holds i) (sorted claims)
          (all_sorted-sorted (piece_holds i) claims ∙ holds-all_pieces i claims ∙ (all_hold-Decides i claims).1 model)

      true_claim : (claim : Claim) → holds i claim ≡ true → Holds i claim
      true_claim claim h = (holds-Decides i claim).0 h

      led_on : (w : WordId) → Contains (sorted claims).transitive w → Holds i (TransitiveProperty w)
      led_on w h = true_claim (TransitiveProperty w)
          (All-contains (λ w. piece_holds i (Transitivity w) ≡ true) (sorted claims).transitive w each.transitive h)

      equal : (e : WordId × WordId) → Contains (sorted claims).equalities e → element_of i e.0 ≡ element_of i e.1
      equal e h = true_claim (SameIndividual e.0 e.1)
          (All-contains (λ e. piece_holds i (Equality e.0 e.1) ≡ true) (sorted claims).equalities e each.equalities h)

      same_element : (x y : WordId) → Reaches (AreEquated (sorted claims).equalities) x y → element_of i x ≡ element_of i y
      same_element x y r =
          closure.kept (AreEquated (sorted claims).equalities) (λ u v. element_of i u ≡ element_of i v) (λ u. refl)
          (λ u v w before step. before ∙ elim step [ inl one ↦ equal (v, w) one | inr other ↦ sym (equal (w, v) other) ]) x y r

      put : (p : Role × Role) → Contains (sorted claims).role_inclusions p → Holds i (SubPropertyOf p.0 p.1)
      put p h = true_claim (SubPropertyOf p.0 p.1)
          (All-contains (λ p. piece_holds i (RoleInclusion p.0 p.1) ≡ true) (sorted claims).role_inclusions p each.role_inclusions h)

      one_step : (r s : Role) → IsPutBelow (sorted claims).role_inclusions r s → Holds i (SubPropertyOf r s)
      one_step r s h = elim h [
        | inl plain ↦ put (r, s) plain
        | inr turned ↦ λ x ltx y lty related. Relates-turned i s x y (put (inverse r, inverse s) turned y lty x ltx (Relates-inverse i r x y related))
      ]

      included : (r s : Role) → Reaches (IsPutBelow (sorted claims).role_inclusions) r s → Holds i (SubPropertyOf r s)
      included r s h =
          closure.kept (IsPutBelow (sorted claims).role_inclusions) (λ u v. Holds i (SubPropertyOf u v)) (λ u x ltx y lty related. related)
          (λ u v w before step x ltx y lty related. one_step v w step x ltx y lty (before x ltx y lty related)) r s h

  -- and back
  pub model_from : (i : Interpretation) → IsModelOf i k → IsModel i claims
  model_from i model =
      (all_hold-Decides i claims).0 (sym (all_sorted-sorted (piece_holds i) claims ∙ holds-all_pieces i claims)
      ∙ pass_all (piece_holds i) (sorted claims) (record {
        equalities = λ j d lt. test (SameIndividual (get_or (sorted claims).equalities j d).0 (get_or (sorted claims).equalities j d).1)
            (equal (get_or (sorted claims).equalities j d) (Contains-get_or (sorted claims).equalities j d lt));
        role_inclusions = λ j d lt. test (SubPropertyOf (get_or (sorted claims).role_inclusions j d).0 (get_or (sorted claims).role_inclusions j d).1)
            (included (get_or (sorted claims).role_inclusions j d).0 (get_or (sorted claims).role_inclusions j d).1
            (below_from (get_or (sorted claims).role_inclusions j d).0 (get_or (sorted claims).role_inclusions j d).1
            (closure.at_once (IsPutBelow (sorted claims).role_inclusions) (get_or (sorted claims).role_inclusions j d).0
            (get_or (sorted claims).role_inclusions j d).1 (inl (Contains-get_or (sorted claims).role_inclusions j d lt)))));
        assertions = λ j d lt. test (ClassAssertion (get_or (sorted claims).assertions j d).1 (get_or (sorted claims).assertions j d).0)
            (subst (All (λ e. Holds i (ClassAssertion e.1 e.0))) made.assertions model.assertions j d lt);
        edges = λ j d lt. test (PropertyAssertion (get_or (sorted claims).edges j d).0 (get_or (sorted claims).edges j d).1
            (get_or (sorted claims).edges j d).2) (subst (All (λ e. Holds i (PropertyAssertion e.0 e.1 e.2))) made.edges model.edges j d lt);
        differences = λ j d lt. test (DifferentIndividuals (get_or (sorted claims).differences j d).0 (get_or (sorted claims).differences j d).1)
            (subst (All (λ e. Holds i (DifferentIndividuals e.0 e.1))) made.differences model.differences j d lt);
        transitive = λ j d lt. test (TransitiveProperty (get_or (sorted claims).transitive j d))
            (All-contains (λ w. Holds i (TransitiveProperty w)) k.transitive (get_or (sorted claims).transitive j d) model.transitive
            ((made.transitive (get_or (sorted claims).transitive j d)).1 (Contains-get_or (sorted claims).transitive j d lt)));
        unfoldings = λ j d lt. test (SubClassOf (Atomic (get_or (sorted claims).unfoldings j d).0) (get_or (sorted claims).unfoldings j d).1)
            (subst (All (λ e. Holds i (SubClassOf (Atomic e.0) e.1))) made.unfoldings model.unfoldings j d lt);
        general = λ j d lt. test (SubClassOf Everything (get_or (sorted claims).general j d))
            (subst (All (λ c. Holds i (SubClassOf Everything c))) made.general model.general j d lt);
      }))
    where
      test : (claim : Claim) → Holds i claim → holds i claim ≡ true
      test claim h = (holds-Decides i claim).1 h

      same_as : (e : WordId × WordId) → Contains k.names e → element_of i e.0 ≡ element_of i e.1
      same_as e h = All-contains (λ e. Holds i (SameIndividual e.0 e.1)) k.names e model.names h

      equal : (e : WordId × WordId) → Contains (sorted claims).equalities e → element_of i e.0 ≡ element_of i e.1
      equal e h =
          let among = in_equality e h in
          let one = entry e.0 among.0 in
          let other = entry e.1 among.1 in
          let same = same_representative (sorted claims).equalities e.0 e.1 one.0 other.0
          (closure.at_once (AreEquated (sorted claims).equalities) e.0 e.1 (inl h)) (of_entry (e.0, one.0) one.2) (of_entry (e.1, other.0) other.2) in
          same_as (e.0, one.0) one.2 ∙ ap (element_of i) same ∙ sym (same_as (e.1, other.0) other.2)

      included : (r s : Role) → IsAtOrBelow k.hierarchy r s → Holds i (SubPropertyOf r s)
      included r s h = elim h [
        | inl same ↦ λ x ltx y lty related. subst (λ q. Relates i q x y) same related
        | inr pair ↦ All-contains (λ p. Holds i (SubPropertyOf p.0 p.1)) k.hierarchy (r, s) model.hierarchy pair
      ]

-- knowledge of the lists that were made is what absorption makes
pub absorbed_from : (claims : List Claim) (names : List WordId) (k : Theory) (ns equalities : List (WordId × WordId)) (hs inclusions : List (Role × Role))
    (ts words : List WordId)
    → equalities ≡ (sorted claims).equalities → inclusions ≡ (sorted claims).role_inclusions → k.names ≡ ns → k.hierarchy ≡ hs
    → words ≡ (sorted claims).transitive → k.transitive ≡ ts → IsTrue (names_rise ts) → ((w : WordId) → Contains ts w ↔ Contains words w)
    → map (λ (e : WordId × WordId). e.0) ns ≡ names → All (λ e. Represents equalities e.0 e.1) ns
    → ((r s : Role) → IsAtOrBelow hs r s ↔ Reaches (IsPutBelow inclusions) r s) → AreDistinct hs → k.assertions ≡ (sorted claims).assertions
    → k.edges ≡ (sorted claims).edges → k.differences ≡ (sorted claims).differences → k.unfoldings ≡ (sorted claims).unfoldings
    → k.general ≡ (sorted claims).general → IsAbsorbed claims names k
absorbed_from claims names k ns equalities hs inclusions ts words same_e same_i same_n same_h same_w same_t rise leads given least closed distinct a e d u g =
    record {
      given = ap (map (λ (e : WordId × WordId). e.0)) same_n ∙ given;
      representatives = subst (λ es. All (λ e. Represents (sorted claims).equalities e.0 e.1) es) (sym same_n)
          (subst (λ qs. All (λ e. Represents qs e.0 e.1) ns) same_e least);
      hierarchy = λ r s. (
        λ h. subst (λ qs. Reaches (IsPutBelow qs) r s) same_i ((closed r s).0 (subst (λ ps. IsAtOrBelow ps r s) same_h ((is_below-Decides k r s).0 h))),
        λ h. (is_below-Decides k r s).1 (subst (λ ps. IsAtOrBelow ps r s) (sym same_h)
            ((closed r s).1 (subst (λ qs. Reaches (IsPutBelow qs) r s) (sym same_i) h))),
      );
      different = subst (λ ps. All (λ p. same_role p.0 p.1 ≡ false) ps) (sym same_h) distinct.different;
      once = subst (λ ps. AllPairs (λ p q. (same_role p.0 q.0 && same_role p.1 q.1) ≡ false) ps) (sym same_h) distinct.once;
      rising = ap names_rise same_t ∙ rise;
      transitive = λ w. (
        λ h. subst (λ vs. Contains vs w) same_w ((leads w).0 (subst (λ vs. Contains vs w) same_t h)),
        λ h. subst (λ vs. Contains vs w) (sym same_t) ((leads w).1 (subst (λ vs. Contains vs w) (sym same_w) h)),
      );
      assertions = a;
      edges = e;
      differences = d;
      unfoldings = u;
      general = g;
    }
