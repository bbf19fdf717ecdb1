-- A relation word is transitive exactly where the sentence that says so is true.
use Rattle.std.proofs.Common.{◌≡◌, ℕ, ◌<◌, ◌==◌, ◌&&◌, ◌||◌, Bool, true, false, List, [], ◌∷◌, Option, Some, None, Contains, Decides, refl, sym, ap, ◌∙◌, subst, inl, inr, arith}
use Rattle.std.specs.Prelude.{not, nat_lt, unwrap_or, if◌then◌else◌}
use Rattle.std.specs.List.{list_all}
use Rattle.std.specs.Map.{lookup}
use Rattle.std.proofs.lemmas.Bool.{eq-eqb, or_cases, eqb-true, ltb-true, and_parts, cases_Bool, cond-true, cond-false, not-true, both_ways}
use Rattle.std.proofs.lemmas.Bool.Decides.{Decides-at, Decides-like, same_from_decides}
use Rattle.std.proofs.lemmas.List.Elements.{Contains-append_cases, Contains-push_cases}
use Rattle.std.proofs.lemmas.Option.{same_Some}
use Rattle.wiki_base.specs.declared.numbers.WordId.{WordId}
use Rattle.wiki_base.proofs.BoolLaws.{and_first, and_second}
use Rattle.logic_terms.proofs.SameLemmas.{word_equal}
use Rattle.logic_terms.specs.declared.structures.Thing.TheVariants.{Ref, Name}
use Rattle.logic_terms.specs.Concept.{Claim, TransitiveProperty}
use Rattle.logic_terms.specs.Structure.{Condition, Structure, IsA, AreRelated, AreSame, Negation, Implication, Disjunction, no_condition, also_condition, structure, referents_in}
use Rattle.logic_terms.specs.Free.{is_bound}
use Rattle.logic_terms.specs.Interpretation.{Interpretation, is_interpretation, is_word, words_rise, pairs_of}
use Rattle.logic_terms.specs.Meaning.{holds}
use Rattle.logic_terms.specs.Truth.{giving, is_true, condition_true}
use Rattle.logic_terms.specs.Reading.{Holds, Extends, IsTrueUnder}
use Rattle.logic_terms.proofs.MeaningLemmas.{list_any-Contains, list_any-Contains_pair, holds-Decides}
use Rattle.logic_terms.proofs.Extensions.{same_at, other_at, is_true-Decides, condition_true-Decides}
use Rattle.ace_to_owl.specs.Mapping.{only_fact, two_conditions, referents_related, is_triple, lead_on, chain_claim}

nothing_there : {X : Type 0} (x : X) → ◌≡◌ {A = Option X} None (Some x) → ⊥
nothing_there x e = let flip : true ≡ false = ap (λ o. elim o [ Some k ↦ false | None ↦ true ]) e in cc

-- the pairs of a word are of elements
no_member : {X : Type 0} (x : X) → Contains [] x → ⊥
no_member x (j, lt, at) = absurd (omega arith)

pairs_below : (size : ℕ) (ps : List (ℕ × ℕ)) → list_all (λ p. nat_lt p.0 size && nat_lt p.1 size) ps ≡ true → (a b : ℕ) → Contains ps (a, b)
    → (a < size) × (b < size)
pairs_below size [] h a b there = absurd (no_member (a, b) there)
pairs_below size (p ∷ ps) h a b there =
    let two = and_parts (nat_lt p.0 size && nat_lt p.1 size) (list_all (λ p. nat_lt p.0 size && nat_lt p.1 size) ps) h in
    elim (Contains-append_cases (p ∷ []) ps (a, b) there) [
      | inl here ↦ elim (Contains-push_cases [] p (a, b) here) [
        | inl none ↦ absurd (no_member (a, b) none)
        | inr same ↦ (let ends = and_parts (nat_lt p.0 size) (nat_lt p.1 size) two.0 in
            subst (λ (q : ℕ × ℕ). (q.0 < size) × (q.1 < size)) same (ltb-true p.0 size ends.0, ltb-true p.1 size ends.1))
      ]
      | inr later ↦ pairs_below size ps two.1 a b later
    ]

word_below : (size : ℕ) (word : WordId) (es : List (WordId × List (ℕ × ℕ)))
    → list_all (λ e. list_all (λ p. nat_lt p.0 size && nat_lt p.1 size) e.1) es ≡ true → (a b : ℕ)
    → Contains (unwrap_or (lookup (is_word word) es) []) (a, b) → (a < size) × (b < size)
word_below size word [] h a b there = absurd (no_member (a, b) there)
word_below size word (e ∷ es) h a b there =
    let two = and_parts (list_all (λ p. nat_lt p.0 size && nat_lt p.1 size) e.1)
    (list_all (λ e. list_all (λ p. nat_lt p.0 size && nat_lt p.1 size) e.1) es) h in
    elim (cases_Bool (is_word word e.0)) [
      | inl same ↦ pairs_below size e.1 two.0 a b
          (subst (λ o. Contains (unwrap_or o []) (a, b)) (cond-true (is_word word e.0) (Some e.1) (lookup (is_word word) es) same) there)
      | inr other ↦ word_below size word es two.1 a b
          (subst (λ o. Contains (unwrap_or o []) (a, b)) (cond-false (is_word word e.0) (Some e.1) (lookup (is_word word) es) other) there)
    ]

below : (i : Interpretation) → is_interpretation i ≡ true → (word : WordId) (a b : ℕ) → Contains (pairs_of i word) (a, b) → (a < i.size) × (b < i.size)
below i lawful word =
    word_below i.size word i.relations
    (and_second (nat_lt 0 i.size && words_rise i.names && words_rise i.classes && words_rise i.relations && list_all (λ e. nat_lt e.1 i.size) i.names
    && list_all (λ e. list_all (λ x. nat_lt x i.size) e.1) i.classes)
    (list_all (λ e. list_all (λ p. nat_lt p.0 i.size && nat_lt p.1 i.size) e.1) i.relations) lawful)

-- three different referents that are the only ones of a list
record Three (rs : List ℕ) (x y z : ℕ) : Type 0 where
  first : Contains rs x
  second : Contains rs y
  third : Contains rs z
  only : (q : ℕ) → Contains rs q → ((x == q) || (y == q) || (z == q)) ≡ true
  apart : ¬ (x ≡ y)
  behind : ¬ (y ≡ z)
  ends : ¬ (x ≡ z)

member_passes : (test : ℕ → Bool) (rs : List ℕ) → list_all test rs ≡ true → (q : ℕ) → Contains rs q → test q ≡ true
member_passes test [] h q there = absurd (no_member q there)
member_passes test (r ∷ rs) h q there = elim (Contains-append_cases (r ∷ []) rs q there) [
  | inl here ↦ elim (Contains-push_cases [] r q here) [
    | inl none ↦ absurd (no_member q none)
    | inr same ↦ subst (λ p. test p ≡ true) same (and_first (test r) (list_all test rs) h)
  ]
  | inr later ↦ member_passes test rs (and_second (test r) (list_all test rs) h) q later
]

differ : (x y : ℕ) → not (x == y) ≡ true → ¬ (x ≡ y)
differ x y h same = both_ways (x == y) (not-true (x == y) h) (eq-eqb x y same)

three_of : (rs : List ℕ) (x y z : ℕ) → is_triple rs x y z ≡ true → Three rs x y z
three_of rs x y z h =
    let g = and_parts (is_bound rs x && is_bound rs y && is_bound rs z && list_all (λ q. (x == q) || (y == q) || (z == q)) rs && not (x == y) && not (y == z))
    (not (x == z)) h in
    let f = and_parts (is_bound rs x && is_bound rs y && is_bound rs z && list_all (λ q. (x == q) || (y == q) || (z == q)) rs && not (x == y)) (not (y == z))
    g.0 in
    let e = and_parts (is_bound rs x && is_bound rs y && is_bound rs z && list_all (λ q. (x == q) || (y == q) || (z == q)) rs) (not (x == y)) f.0 in
    let d = and_parts (is_bound rs x && is_bound rs y && is_bound rs z) (list_all (λ q. (x == q) || (y == q) || (z == q)) rs) e.0 in
    let c = and_parts (is_bound rs x && is_bound rs y) (is_bound rs z) d.0 in
    let b = and_parts (is_bound rs x) (is_bound rs y) c.0 in
    record {
      first = (list_any-Contains rs x).0 b.0;
      second = (list_any-Contains rs y).0 b.1;
      third = (list_any-Contains rs z).0 c.1;
      only = member_passes (λ q. (x == q) || (y == q) || (z == q)) rs d.1;
      apart = differ x y e.1;
      behind = differ y z f.1;
      ends = differ x z g.1;
    }

module _ (i : Interpretation) (lawful : is_interpretation i ≡ true) (w : WordId) (rs : List ℕ) (x y z : ℕ) (three : Three rs x y z) (l : Structure)
    (right : (g : ℕ → ℕ) → Decides (is_true i l g) (Contains (pairs_of i w) (g x, g z))) (f : ℕ → ℕ) where
  says_on : Holds i (TransitiveProperty w) → (g : ℕ → ℕ) → Contains (pairs_of i w) (g x, g y) → Contains (pairs_of i w) (g y, g z) → IsTrueUnder i l g
  says_on leads g one other = (is_true-Decides i l g).0 ((right g).1 (leads (g x) (g y) (g z) one other))

  holds_from : ((g : ℕ → ℕ) → Extends i.size rs f g → Contains (pairs_of i w) (g x, g y) → Contains (pairs_of i w) (g y, g z) → IsTrueUnder i l g)
      → Holds i (TransitiveProperty w)
  holds_from all a b c one other =
      let g : ℕ → ℕ = giving (giving (giving f x a) y b) z c in
      let at_z : giving (giving (giving f x a) y b) z c z ≡ c = same_at (giving (giving f x a) y b) z c z refl in
      let at_y : giving (giving (giving f x a) y b) z c y ≡ b =
      other_at (giving (giving f x a) y b) z c y (λ e. three.behind (sym e)) ∙ same_at (giving f x a) y b y refl in
      let at_x : giving (giving (giving f x a) y b) z c x ≡ a =
      other_at (giving (giving f x a) y b) z c x (λ e. three.ends (sym e))
      ∙ (other_at (giving f x a) y b x (λ e. three.apart (sym e)) ∙ same_at f x a x refl) in
      let low = below i lawful w a b one in
      let high = below i lawful w b c other in
      let extends : Extends i.size rs f (giving (giving (giving f x a) y b) z c) = record {
        introduced = λ q own. elim (or_cases ((x == q) || (y == q)) (z == q) (three.only q own)) [
          | inl near ↦ elim (or_cases (x == q) (y == q) near) [
            | inl here ↦ subst (λ m. m < i.size) (sym (sym (ap g (eqb-true x q here)) ∙ at_x)) low.0
            | inr here ↦ subst (λ m. m < i.size) (sym (sym (ap g (eqb-true y q here)) ∙ at_y)) low.1
          ]
          | inr here ↦ subst (λ m. m < i.size) (sym (sym (ap g (eqb-true z q here)) ∙ at_z)) high.1
        ];
        others = λ q out.
            other_at (giving (giving f x a) y b) z c q (λ here. out (subst (Contains rs) here three.third))
            ∙ (other_at (giving f x a) y b q (λ here. out (subst (Contains rs) here three.second))
            ∙ other_at f x a q (λ here. out (subst (Contains rs) here three.first)));
      } in
      let first : Contains (pairs_of i w) (g x, g y) =
      subst (λ e. Contains (pairs_of i w) (e, g y)) (sym at_x) (subst (λ e. Contains (pairs_of i w) (a, e)) (sym at_y) one) in
      let second : Contains (pairs_of i w) (g y, g z) =
      subst (λ e. Contains (pairs_of i w) (e, g z)) (sym at_y) (subst (λ e. Contains (pairs_of i w) (b, e)) (sym at_z) other) in
      subst (λ e. Contains (pairs_of i w) (e, c)) at_x
      (subst (λ e. Contains (pairs_of i w) (g x, e)) at_z ((right g).0 ((is_true-Decides i l g).1 (all g extends first second))))

  abbrev chain : Condition
  chain = Implication (structure rs (also_condition (AreRelated w (Ref x) (Ref y)) (also_condition (AreRelated w (Ref y) (Ref z)) no_condition))) l

  abbrev turned : Condition
  turned = Implication (structure rs (also_condition (AreRelated w (Ref y) (Ref z)) (also_condition (AreRelated w (Ref x) (Ref y)) no_condition))) l

  chain_holds : holds i (TransitiveProperty w) ≡ condition_true i chain f
  chain_holds =
      same_from_decides (holds i (TransitiveProperty w)) (condition_true i chain f)
      (Decides-like (holds i (TransitiveProperty w)) (λ leads g extends all. says_on leads g all.0 all.1.0)
      (λ all. holds_from (λ g extends one other. all g extends (one, (other, tt)))) (holds-Decides i (TransitiveProperty w)))
      (condition_true-Decides i chain f)

  turned_holds : holds i (TransitiveProperty w) ≡ condition_true i turned f
  turned_holds =
      same_from_decides (holds i (TransitiveProperty w)) (condition_true i turned f)
      (Decides-like (holds i (TransitiveProperty w)) (λ leads g extends all. says_on leads g all.1.0 all.0)
      (λ all. holds_from (λ g extends one other. all g extends (other, (one, tt)))) (holds-Decides i (TransitiveProperty w)))
      (condition_true-Decides i turned f)

two_is : (k : Structure) (p : Condition × Condition) → two_conditions k ≡ Some p
    → k ≡ structure (referents_in k) (also_condition p.0 (also_condition p.1 no_condition))
two_is (structure rs no_condition) p e = absurd (nothing_there p e)
two_is (structure rs (also_condition c no_condition)) p e = absurd (nothing_there p e)
two_is (structure rs (also_condition c (also_condition d no_condition))) p e =
    ap (λ (q : Condition × Condition). structure rs (also_condition q.0 (also_condition q.1 no_condition))) (same_Some (c, d) p e)
two_is (structure rs (also_condition c (also_condition d (also_condition b cs)))) p e = absurd (nothing_there p e)

related_is : (c : Condition) (p : WordId × ℕ × ℕ) → referents_related c ≡ Some p → c ≡ AreRelated p.0 (Ref p.1) (Ref p.2)
related_is (AreRelated word (Ref x) (Ref y)) p e = ap (λ (q : WordId × ℕ × ℕ). AreRelated q.0 (Ref q.1) (Ref q.2)) (same_Some (word, x, y) p e)
related_is (AreRelated word (Ref x) (Name b)) p e = absurd (nothing_there p e)
related_is (AreRelated word (Name a) t) p e = absurd (nothing_there p e)
related_is (IsA noun t) p e = absurd (nothing_there p e)
related_is (AreSame t u) p e = absurd (nothing_there p e)
related_is (Negation k) p e = absurd (nothing_there p e)
related_is (Implication k m) p e = absurd (nothing_there p e)
related_is (Disjunction k m) p e = absurd (nothing_there p e)

-- what relations that lead on are
record Leads (rs : List ℕ) (p q r : WordId × ℕ × ℕ) : Type 0 where
  next : AreRelated q.0 (Ref q.1) (Ref q.2) ≡ AreRelated p.0 (Ref p.2) (Ref q.2)
  last : AreRelated r.0 (Ref r.1) (Ref r.2) ≡ AreRelated p.0 (Ref p.1) (Ref q.2)
  word : q.0 ≡ p.0
  three : Three rs p.1 p.2 q.2

leads_of : (rs : List ℕ) (p q r : WordId × ℕ × ℕ) → lead_on rs p q r ≡ true → Leads rs p q r
leads_of rs p q r h =
    let e = and_parts (is_word p.0 q.0 && is_word p.0 r.0 && (p.2 == q.1) && (p.1 == r.1) && (q.2 == r.2)) (is_triple rs p.1 p.2 q.2) h in
    let d = and_parts (is_word p.0 q.0 && is_word p.0 r.0 && (p.2 == q.1) && (p.1 == r.1)) (q.2 == r.2) e.0 in
    let c = and_parts (is_word p.0 q.0 && is_word p.0 r.0 && (p.2 == q.1)) (p.1 == r.1) d.0 in
    let b = and_parts (is_word p.0 q.0 && is_word p.0 r.0) (p.2 == q.1) c.0 in
    let a = and_parts (is_word p.0 q.0) (is_word p.0 r.0) b.0 in
    let one = word_equal p.0 q.0 a.0 in
    let other = word_equal p.0 r.0 a.1 in
    record {
      next = sym (λ j. AreRelated (one j) (Ref (eqb-true p.2 q.1 b.1 j)) (Ref q.2));
      last = sym (λ j. AreRelated (other j) (Ref (eqb-true p.1 r.1 c.1 j)) (Ref (eqb-true q.2 r.2 d.1 j)));
      word = sym one;
      three = three_of rs p.1 p.2 q.2 e.1;
    }

-- the claim of two relations on the left and one on the right says what they say
module _ (i : Interpretation) (lawful : is_interpretation i ≡ true) (rs : List ℕ) (c d e : Condition) (l : Structure)
    (right : (f : ℕ → ℕ) → is_true i l f ≡ condition_true i e f) (claim : Claim) where
  abbrev stated : Condition
  stated = Implication (structure rs (also_condition c (also_condition d no_condition))) l

  ends_related : (w : WordId) (x z : ℕ) → e ≡ AreRelated w (Ref x) (Ref z) → (g : ℕ → ℕ) → Decides (is_true i l g) (Contains (pairs_of i w) (g x, g z))
  ends_related w x z is g =
      Decides-at (is_true i l g) (condition_true i (AreRelated w (Ref x) (Ref z)) g) (right g ∙ ap (λ b. condition_true i b g) is)
      (list_any-Contains_pair (pairs_of i w) (g x) (g z))

  module _ (p q r : WordId × ℕ × ℕ) (is_c : c ≡ AreRelated p.0 (Ref p.1) (Ref p.2)) (is_d : d ≡ AreRelated q.0 (Ref q.1) (Ref q.2))
      (is_e : e ≡ AreRelated r.0 (Ref r.1) (Ref r.2)) where
    forth : Leads rs p q r → (f : ℕ → ℕ) → holds i (TransitiveProperty p.0) ≡ condition_true i stated f
    forth leads f =
        chain_holds i lawful p.0 rs p.1 p.2 q.2 leads.three l (ends_related p.0 p.1 q.2 (is_e ∙ leads.last)) f
        ∙ sym (λ j. condition_true i (Implication (structure rs (also_condition (is_c j) (also_condition ((is_d ∙ leads.next) j) no_condition))) l) f)

    back : Leads rs q p r → (f : ℕ → ℕ) → holds i (TransitiveProperty p.0) ≡ condition_true i stated f
    back leads f =
        ap (λ w. holds i (TransitiveProperty w)) leads.word
        ∙ turned_holds i lawful q.0 rs q.1 q.2 p.2 leads.three l (ends_related q.0 q.1 p.2 (is_e ∙ leads.last)) f
        ∙ sym (λ j. condition_true i (Implication (structure rs (also_condition ((is_c ∙ leads.next) j) (also_condition (is_d j) no_condition))) l) f)

    pub says : chain_claim rs (Some p) (Some q) (Some r) ≡ Some claim → (f : ℕ → ℕ) → holds i claim ≡ condition_true i stated f
    says made f = by (lead_on rs p q r) (lead_on rs q p r) refl refl made
      where
        by : (one other : Bool) → lead_on rs p q r ≡ one → lead_on rs q p r ≡ other
            → (if one || other then Some (TransitiveProperty p.0) else None) ≡ Some claim → holds i claim ≡ condition_true i stated f
        by true other is_one is_other h = ap (holds i) (sym (same_Some (TransitiveProperty p.0) claim h)) ∙ forth (leads_of rs p q r is_one) f
        by false true is_one is_other h = ap (holds i) (sym (same_Some (TransitiveProperty p.0) claim h)) ∙ back (leads_of rs q p r is_other) f
        by false false is_one is_other h = absurd (nothing_there claim h)

  chain_says : (o p q : Option (WordId × ℕ × ℕ)) → referents_related c ≡ o → referents_related d ≡ p → referents_related e ≡ q
      → chain_claim rs o p q ≡ Some claim → (f : ℕ → ℕ) → holds i claim ≡ condition_true i stated f
  chain_says (Some o) (Some p) (Some q) is_c is_d is_e made = says o p q (related_is c o is_c) (related_is d p is_d) (related_is e q is_e) made
  chain_says (Some o) (Some p) None is_c is_d is_e made = absurd (nothing_there claim made)
  chain_says (Some o) None q is_c is_d is_e made = absurd (nothing_there claim made)
  chain_says None p q is_c is_d is_e made = absurd (nothing_there claim made)

pub transitive_says : (i : Interpretation) → is_interpretation i ≡ true
    → (k l : Structure) (claim : Claim) (o : Option (Condition × Condition)) (p : Option Condition)
    → two_conditions k ≡ o → only_fact l ≡ p → ((e : Condition) → only_fact l ≡ Some e → (f : ℕ → ℕ) → is_true i l f ≡ condition_true i e f)
    → (elim o [
      | Some c ↦ elim p [ Some e ↦ chain_claim (referents_in k) (referents_related c.0) (referents_related c.1) (referents_related e) | None ↦ None ]
      | None ↦ None
    ]) ≡ Some claim
    → (f : ℕ → ℕ) → holds i claim ≡ condition_true i (Implication k l) f
transitive_says i lawful k l claim (Some c) (Some e) is_c is_e right made f =
    chain_says i lawful (referents_in k) c.0 c.1 e l (right e is_e) claim (referents_related c.0) (referents_related c.1) (referents_related e) refl refl refl
    made f
    ∙ ap (λ s. condition_true i (Implication s l) f) (sym (two_is k c is_c))
transitive_says i lawful k l claim (Some c) None is_c is_e right made f = absurd (nothing_there claim made)
transitive_says i lawful k l claim None p is_c is_e right made f = absurd (nothing_there claim made)
