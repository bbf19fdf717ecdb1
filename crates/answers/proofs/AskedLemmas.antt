-- The answers to names one by one.
use Rattle.std.proofs.Common.{◌≡◌, ℕ, zero, suc, ◌<◌, ◌≤◌, ◌&&◌, true, List, [], ◌∷◌, ◌++◌, length, get_or, take, All, Contains, refl, sym, ap, ◌∙◌, subst, inl, inr, arith}
use Rattle.std.specs.Prelude.{◌⊎◌, ◌↔◌}
use Rattle.std.specs.List.{list_all}
use Rattle.std.proofs.lemmas.Bool.{cases_Bool, and_parts, and_from, or_left, or_right, eq-eqb, ltb-true, not_from_false, not-true}
use Rattle.std.proofs.lemmas.Bool.Decides.{not_from_Decides}
use Rattle.std.proofs.lemmas.Option.{slice_get-get_or}
use Rattle.std.proofs.lemmas.List.{take_all}
use Rattle.std.proofs.lemmas.List.Folds.{list_all-append}
use Rattle.std.proofs.lemmas.List.Elements.{All-push, All-nil, All-weaker, Contains-append_left, Contains-push, Contains-push_cases, All-contains}
use Rattle.wiki_base.specs.declared.numbers.WordId.{WordId}
use Rattle.absorb.proofs.NamedLemmas.{names_in-complement}
use Rattle.logic_terms.specs.Concept.{Concept, Claim, ClassAssertion}
use Rattle.logic_terms.specs.Complement.{complement, is_normal, is_wide}
use Rattle.logic_terms.specs.Interpretation.{Interpretation, element_of, is_word}
use Rattle.logic_terms.specs.Meaning.{is_in, holds, all_hold}
use Rattle.logic_terms.specs.Names.{names_above, names_rise}
use Rattle.logic_terms.specs.Plain.{is_plain, is_plain_claim, are_plain}
use Rattle.logic_terms.specs.Reading.{IsIn, IsModel}
use Rattle.logic_terms.proofs.ComplementLemmas.{is_in-complement, is_normal-complement, is_wide-complement}
use Rattle.logic_terms.proofs.MeaningLemmas.{is_in-Decides, all_hold-Decides}
use Rattle.absorb.specs.Mentioned.{names_in, names_in_claim, is_among, are_over}
use Rattle.reasoner.specs.Verdicts.{IsFiniteModel, HaveNoModel, SpendsAll}
use Rattle.tableau_rules.specs.Graph.{Graph}
use Rattle.answers.specs.Answered.{denied, IsInAll, IsOutsideSome, IsUnknown}

-- outside a class is in its complement
outside_complement : (i : Interpretation) (c : Concept) (x : ℕ) → ¬ IsIn i c x → is_in i (complement c) x ≡ true
outside_complement i c x out = elim (cases_Bool (is_in i c x)) [
  | inl inside ↦ absurd (out ((is_in-Decides i c x).0 inside))
  | inr outside ↦ is_in-complement i c x ∙ not_from_false (is_in i c x) outside
]

pub complement_outside : (i : Interpretation) (c : Concept) (x : ℕ) → is_in i (complement c) x ≡ true → ¬ IsIn i c x
complement_outside i c x h = not_from_Decides (is_in i c x) (is_in-Decides i c x) (not-true (is_in i c x) (sym (is_in-complement i c x) ∙ h))

denied_hold : (i : Interpretation) (claims : List Claim) (c : Concept) (name : WordId)
    → all_hold i (denied claims c name) ≡ (all_hold i claims && (is_in i (complement c) (element_of i name) && true))
denied_hold i claims c name = list_all-append (holds i) claims (ClassAssertion (complement c) name ∷ [])

-- what is pushed on a copy of the axioms makes them the axioms with the denial
pub denied_is : (pushed copied lent claims : List Claim) (d c : Concept) (name : WordId) → pushed ≡ copied ++ ClassAssertion d name ∷ [] → copied ≡ lent
    → lent ≡ claims → d ≡ complement c → pushed ≡ denied claims c name
denied_is pushed copied lent claims d c name push copy part exact = push ∙ (λ j. (copy ∙ part) j ++ ClassAssertion (exact j) name ∷ [])

-- a model of the axioms that has the name outside the class is one of the axioms with the denial, and back
pub denied_model : (i : Interpretation) (claims : List Claim) (c : Concept) (name : WordId) → IsModel i claims → ¬ IsIn i c (element_of i name)
    → IsModel i (denied claims c name)
denied_model i claims c name m out =
    (all_hold-Decides i (denied claims c name)).0
    (denied_hold i claims c name ∙ and_from (all_hold i claims) (is_in i (complement c) (element_of i name) && true) ((all_hold-Decides i claims).1 m)
    (and_from (is_in i (complement c) (element_of i name)) true (outside_complement i c (element_of i name) out) refl))

pub denied_parts : (i : Interpretation) (claims : List Claim) (c : Concept) (name : WordId) → IsModel i (denied claims c name)
    → IsModel i claims × ¬ IsIn i c (element_of i name)
denied_parts i claims c name m =
    let two = and_parts (all_hold i claims) (is_in i (complement c) (element_of i name) && true)
    (sym (denied_hold i claims c name) ∙ (all_hold-Decides i (denied claims c name)).1 m) in
    ((all_hold-Decides i claims).0 two.0, complement_outside i c (element_of i name) (and_parts (is_in i (complement c) (element_of i name)) true two.1).0)

-- where no model denies it, the name is in the class in all
pub in_all : (claims : List Claim) (c : Concept) (name : WordId) → HaveNoModel (denied claims c name) → IsInAll claims c name
in_all claims c name none i sound m = elim (cases_Bool (is_in i c (element_of i name))) [
  | inl inside ↦ (is_in-Decides i c (element_of i name)).0 inside
  | inr outside ↦ absurd (none i (
    sound,
    denied_model i claims c name m (not_from_Decides (is_in i c (element_of i name)) (is_in-Decides i c (element_of i name)) outside),
  ))
]

pub outside_some : (claims : List Claim) (c : Concept) (name : WordId) (i : Interpretation) → IsFiniteModel i (denied claims c name)
    → IsOutsideSome claims c name
outside_some claims c name i m =
    let parts = denied_parts i claims c name m.1 in (i, m.0, parts.0, parts.1)

pub kept_has : (i : Interpretation) (claims : List Claim) (c : Concept) (name : WordId) → IsModel i claims → ¬ IsModel i (denied claims c name)
    → IsIn i c (element_of i name)
kept_has i claims c name m not_denied = elim (cases_Bool (is_in i c (element_of i name))) [
  | inl inside ↦ (is_in-Decides i c (element_of i name)).0 inside
  | inr outside ↦ absurd (not_denied (denied_model i claims c name m
      (not_from_Decides (is_in i c (element_of i name)) (is_in-Decides i c (element_of i name)) outside)))
]

pub unknown_from : (claims : List Claim) (names : List WordId) (budget : ℕ) (c : Concept) (name : WordId) (g : Graph)
    → SpendsAll (denied claims c name) names budget g → IsUnknown claims names budget c name
unknown_from claims names budget c name g s = record { knowledge = s.knowledge; absorbed = s.absorbed; longer = s.cut.longer }

-- the denial is over the given names, and plain
pub over_denied : (names : List WordId) (claims : List Claim) (c : Concept) (name : WordId) → are_over names claims ≡ true → is_among names name ≡ true
    → list_all (is_among names) (names_in c) ≡ true → are_over names (denied claims c name) ≡ true
over_denied names claims c name kept among inside =
    list_all-append (λ claim. list_all (is_among names) (names_in_claim claim)) claims (ClassAssertion (complement c) name ∷ [])
    ∙ and_from (are_over names claims) ((is_among names name && list_all (is_among names) (names_in (complement c))) && true) kept
    (and_from (is_among names name && list_all (is_among names) (names_in (complement c))) true
    (and_from (is_among names name) (list_all (is_among names) (names_in (complement c))) among
    (ap (list_all (is_among names)) (names_in-complement c) ∙ inside)) refl)

pub plain_denied : (claims : List Claim) (c : Concept) (name : WordId) → are_plain claims ≡ true → is_plain c ≡ true → are_plain (denied claims c name) ≡ true
plain_denied claims c name kept plain =
    list_all-append is_plain_claim claims (ClassAssertion (complement c) name ∷ [])
    ∙ and_from (are_plain claims) (is_plain (complement c) && true) kept
    (and_from (is_plain (complement c)) true
    (and_from (is_normal (complement c)) (is_wide (complement c)) (is_normal-complement c)
    (is_wide-complement c ∙ (and_parts (is_normal c) (is_wide c) plain).1)) refl)

-- the names before a place have smaller numbers
above_all : (n : WordId) (ns : List WordId) → names_above n ns ≡ true → (j : ℕ) (d : WordId) → j < length ns → n.0 < (get_or ns j d).0
above_all n [] up j d lt = absurd (omega arith)
above_all n (m ∷ ns) up zero d lt = ltb-true n.0 m.0 (and_parts (Rattle.std.specs.Prelude.nat_lt n.0 m.0) (names_above m ns) up).0
above_all n (m ∷ ns) up (suc j) d lt =
    let two = and_parts (Rattle.std.specs.Prelude.nat_lt n.0 m.0) (names_above m ns) up in
    let a = ltb-true n.0 m.0 two.0 in
    let b = above_all m ns two.1 j d (omega arith) in
    omega arith

pub rises_on : (n : WordId) (ns : List WordId) → names_rise (n ∷ ns) ≡ true → names_rise ns ≡ true
rises_on n [] up = refl
rises_on n (m ∷ ns) up = (and_parts (Rattle.std.specs.Prelude.nat_lt n.0 m.0) (names_above m ns) up).1

pub below_place : (ns : List WordId) → names_rise ns ≡ true → (k : ℕ) (name : WordId)
    → Rattle.std.specs.Prelude.slice_get ns k ≡ Rattle.std.specs.Prelude.Some name → (n : WordId) → Contains (take k ns) n → n.0 < name.0
below_place [] up k name at n h = cc
below_place (m ∷ ns) up zero name at n (j, lt, is) = absurd (omega arith)
below_place (m ∷ ns) up (suc k) name at n (zero, lt, is) =
    let within = Rattle.std.proofs.lemmas.Option.slice_get_within ns k name at in
    let it = Rattle.std.proofs.lemmas.Option.get_or_from_slice_get ns k name name at in
    let low = above_all m ns up k name within in
    subst (λ w. w.0 < name.0) is (subst (λ w. m.0 < w.0) it low)
below_place (m ∷ ns) up (suc k) name at n (suc j, lt, is) = below_place ns (rises_on m ns up) k name at n (j, omega arith, is)

-- what the answers to the names so far have
pub record AskedSoFar (kept : Interpretation) (claims : List Claim) (names : List WordId) (budget : ℕ) (c : Concept) (passed yes unknown : List WordId) : Type 0
  where
    pub all_yes : All (IsInAll claims c) yes
    pub all_unknown : All (IsUnknown claims names budget c) unknown
    pub kept_has_unknown : All (λ n. IsIn kept c (element_of kept n)) unknown
    pub others : (n : WordId) → Contains passed n → ¬ Contains yes n → ¬ Contains unknown n → IsOutsideSome claims c n
    pub given_yes : All (Contains passed) yes
    pub given_unknown : All (Contains passed) unknown
    pub apart : (n : WordId) → Contains yes n → ¬ Contains unknown n

module _ (kept : Interpretation) (claims : List Claim) (names : List WordId) (budget : ℕ) (c : Concept) where
  pub asked_none : AskedSoFar kept claims names budget c [] [] []
  asked_none = record {
    all_yes = All-nil (IsInAll claims c);
    all_unknown = All-nil (IsUnknown claims names budget c);
    kept_has_unknown = All-nil (λ n. IsIn kept c (element_of kept n));
    others = λ n h out out'. absurd (nothing n h);
    given_yes = All-nil (Contains []);
    given_unknown = All-nil (Contains []);
    apart = λ n h h'. nothing n h;
  }
    where
      nothing : (n : WordId) → Contains [] n → ⊥
      nothing n (j, lt, at) = absurd (omega arith)

  module _ (passed yes unknown : List WordId) (so_far : AskedSoFar kept claims names budget c passed yes unknown) (name : WordId)
      (fresh : ¬ Contains passed name) where
    wider : (ns : List WordId) → All (Contains passed) ns → All (Contains (passed ++ name ∷ [])) ns
    wider ns h = All-weaker (Contains passed) (Contains (passed ++ name ∷ [])) (λ n there. Contains-append_left passed (name ∷ []) n there) ns h

    not_in : (ns : List WordId) → All (Contains passed) ns → ¬ Contains ns name
    not_in ns h there = fresh (All-contains (Contains passed) ns name h there)

    pub one_yes : IsInAll claims c name → AskedSoFar kept claims names budget c (passed ++ name ∷ []) (yes ++ name ∷ []) unknown
    one_yes is = record {
      all_yes = All-push (IsInAll claims c) yes name so_far.all_yes is;
      all_unknown = so_far.all_unknown;
      kept_has_unknown = so_far.kept_has_unknown;
      others = λ n h out out'. elim (Contains-push_cases passed name n h) [
        | inl old ↦ so_far.others n old (λ there. out (Contains-append_left yes (name ∷ []) n there)) out'
        | inr new ↦ absurd (out (subst (λ m. Contains (yes ++ name ∷ []) m) new (Contains-push yes name)))
      ];
      given_yes = All-push (Contains (passed ++ name ∷ [])) yes name (wider yes so_far.given_yes) (Contains-push passed name);
      given_unknown = wider unknown so_far.given_unknown;
      apart = λ n h there. elim (Contains-push_cases yes name n h) [
        | inl old ↦ so_far.apart n old there
        | inr new ↦ not_in unknown so_far.given_unknown (subst (λ m. Contains unknown m) (sym new) there)
      ];
    }

    pub one_unknown : IsUnknown claims names budget c name → IsIn kept c (element_of kept name)
        → AskedSoFar kept claims names budget c (passed ++ name ∷ []) yes (unknown ++ name ∷ [])
    one_unknown is has = record {
      all_yes = so_far.all_yes;
      all_unknown = All-push (IsUnknown claims names budget c) unknown name so_far.all_unknown is;
      kept_has_unknown = All-push (λ n. IsIn kept c (element_of kept n)) unknown name so_far.kept_has_unknown has;
      others = λ n h out out'. elim (Contains-push_cases passed name n h) [
        | inl old ↦ so_far.others n old out (λ there. out' (Contains-append_left unknown (name ∷ []) n there))
        | inr new ↦ absurd (out' (subst (λ m. Contains (unknown ++ name ∷ []) m) new (Contains-push unknown name)))
      ];
      given_yes = wider yes so_far.given_yes;
      given_unknown = All-push (Contains (passed ++ name ∷ [])) unknown name (wider unknown so_far.given_unknown) (Contains-push passed name);
      apart = λ n h there. elim (Contains-push_cases unknown name n there) [
        | inl old ↦ so_far.apart n h old
        | inr new ↦ not_in yes so_far.given_yes (subst (λ m. Contains yes m) (sym new) h)
      ];
    }

    pub one_no : IsOutsideSome claims c name → AskedSoFar kept claims names budget c (passed ++ name ∷ []) yes unknown
    one_no is = record {
      all_yes = so_far.all_yes;
      all_unknown = so_far.all_unknown;
      kept_has_unknown = so_far.kept_has_unknown;
      others = λ n h out out'. elim (Contains-push_cases passed name n h) [
        | inl old ↦ so_far.others n old out out'
        | inr new ↦ subst (IsOutsideSome claims c) new is
      ];
      given_yes = wider yes so_far.given_yes;
      given_unknown = wider unknown so_far.given_unknown;
      apart = so_far.apart;
    }

-- a name that stands at a place of a list is among its names
pub among_at : (ns : List WordId) (j : ℕ) (d : WordId) → j < length ns → is_among ns (get_or ns j d) ≡ true
among_at [] j d lt = absurd (omega arith)
among_at (n ∷ ns) zero d lt = or_left (is_word n n) (is_among ns n) (eq-eqb n.0 n.0 refl)
among_at (n ∷ ns) (suc j) d lt = or_right (is_word (get_or ns j d) n) (is_among ns (get_or ns j d)) (among_at ns j d (omega arith))

module _ (ns : List WordId) (up : names_rise ns ≡ true) (i : ℕ) (d : WordId) (lt : i < length ns) where
  -- names from before a place have smaller numbers than the one there, which is not among them
  pub all_below : (ms : List WordId) → All (Contains (take i ns)) ms → All (λ n. n.0 < (get_or ns i d).0) ms
  all_below ms h = All-weaker (Contains (take i ns)) (λ n. n.0 < (get_or ns i d).0)
      (λ n there. below_place ns up i (get_or ns i d) (slice_get-get_or ns i d lt) n there) ms h

  pub not_before : ¬ Contains (take i ns) (get_or ns i d)
  not_before there = let less = below_place ns up i (get_or ns i d) (slice_get-get_or ns i d lt) (get_or ns i d) there in omega arith

module _ (kept : Interpretation) (claims : List Claim) (names : List WordId) (budget : ℕ) (c : Concept) where
  pub asked_as : {passed passed' sure sure' unknown unknown' : List WordId} → passed' ≡ passed → sure' ≡ sure → unknown' ≡ unknown
      → AskedSoFar kept claims names budget c passed sure unknown → AskedSoFar kept claims names budget c passed' sure' unknown'
  asked_as {passed} {passed'} {sure} {sure'} {unknown} {unknown'} p y u h =
      subst (λ ps. AskedSoFar kept claims names budget c ps sure' unknown') (sym p)
      (subst (λ ys. AskedSoFar kept claims names budget c passed ys unknown') (sym y)
      (subst (λ us. AskedSoFar kept claims names budget c passed sure us) (sym u) h))

  -- all names are passed at the end
  pub asked_all : (ns : List WordId) (i : ℕ) (sure unknown : List WordId) → ns ≡ names → length ns ≤ i
      → AskedSoFar kept claims names budget c (take i ns) sure unknown → AskedSoFar kept claims names budget c names sure unknown
  asked_all ns i sure unknown is past h = subst (λ ps. AskedSoFar kept claims names budget c ps sure unknown) (take_all i ns past ∙ is) h
