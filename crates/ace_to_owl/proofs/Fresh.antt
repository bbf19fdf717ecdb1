-- Where each referent is introduced once, none is introduced again inside.
use Rattle.std.proofs.Common.{◌≡◌, ℕ, ◌==◌, ◌||◌, Bool, true, false, List, [], ◌∷◌, ◌++◌, refl, sym, ap, ◌∙◌, subst, inl, inr}
use Rattle.std.specs.Prelude.{◌⊎◌, not, cond}
use Rattle.std.specs.List.{list_all, filter}
use Rattle.std.proofs.lemmas.Bool.{eq-eqb, or_cases, or_right, and_from, eqb-true}
use Rattle.std.proofs.lemmas.List.Folds.{list_any-append}
use Rattle.wiki_base.proofs.BoolLaws.{and_first, and_second}
use Rattle.logic_terms.specs.Structure.{Condition, Conditions, Structure, IsA, AreRelated, AreSame, Negation, Implication, Disjunction, no_condition, also_condition, structure, referents_in}
use Rattle.logic_terms.specs.Free.{is_bound}
use Rattle.logic_terms.specs.Introduced.{introduced_in, introduced_in_all, introduced_in_condition, all_distinct}
use Rattle.ace_to_owl.proofs.RollMeaning.{fresh_in, fresh_in_all, fresh_in_condition}

-- two lists have no referent in common
abbrev pub Disjoint : List ℕ → List ℕ → Type 0
Disjoint xs ys = (q : ℕ) → is_bound xs q ≡ true → is_bound ys q ≡ true → ⊥

pub bound_left : (xs ys : List ℕ) (q : ℕ) → is_bound xs q ≡ true → is_bound (xs ++ ys) q ≡ true
bound_left xs ys q h = list_any-append (λ p. p == q) xs ys ∙ ap (λ b. b || is_bound ys q) h

pub bound_right : (xs ys : List ℕ) (q : ℕ) → is_bound ys q ≡ true → is_bound (xs ++ ys) q ≡ true
bound_right xs ys q h = list_any-append (λ p. p == q) xs ys ∙ or_right (is_bound xs q) (is_bound ys q) h

pub bound_cases : (xs ys : List ℕ) (q : ℕ) → is_bound (xs ++ ys) q ≡ true → (is_bound xs q ≡ true) ⊎ (is_bound ys q ≡ true)
bound_cases xs ys q h = or_cases (is_bound xs q) (is_bound ys q) (sym (list_any-append (λ p. p == q) xs ys) ∙ h)

pub not_both : (b : Bool) → not b ≡ true → b ≡ true → ⊥
not_both true h g = let flip : false ≡ true = h in cc
not_both false h g = let flip : false ≡ true = g in cc

pub not_from : (b : Bool) → (b ≡ true → ⊥) → not b ≡ true
not_from true h = absurd (h refl)
not_from false h = refl

-- what a list without repetition is made of
pub record Apart (xs ys : List ℕ) : Type 0 where
  pub first : all_distinct xs ≡ true
  pub second : all_distinct ys ≡ true
  pub disjoint : Disjoint xs ys

pub apart_of : (xs ys : List ℕ) → all_distinct (xs ++ ys) ≡ true → Apart xs ys
apart_of [] ys h = record { first = refl; second = h; disjoint = λ q in_none in_ys. (let flip : false ≡ true = in_none in cc) }
apart_of (x ∷ xs) ys h =
    let out : not (is_bound (xs ++ ys) x) ≡ true = and_first (not (is_bound (xs ++ ys) x)) (all_distinct (xs ++ ys)) h in
    let rest : Apart xs ys = apart_of xs ys (and_second (not (is_bound (xs ++ ys) x)) (all_distinct (xs ++ ys)) h) in
    record {
      first = and_from (not (is_bound xs x)) (all_distinct xs) (not_from (is_bound xs x) (λ g. not_both (is_bound (xs ++ ys) x) out (bound_left xs ys x g)))
          rest.first;
      second = rest.second;
      disjoint = λ q in_xs in_ys. elim (or_cases (x == q) (is_bound xs q) in_xs) [
        | inl here ↦ not_both (is_bound (xs ++ ys) x) out (bound_right xs ys x (subst (λ z. is_bound ys z ≡ true) (sym (eqb-true x q here)) in_ys))
        | inr later ↦ rest.disjoint q later in_ys
      ];
    }

-- none of these referents is among those
pub all_out : (bound rs : List ℕ) → Disjoint bound rs → list_all (λ r. not (is_bound bound r)) rs ≡ true
all_out bound [] apart = refl
all_out bound (r ∷ rs) apart =
    and_from (not (is_bound bound r)) (list_all (λ p. not (is_bound bound p)) rs)
    (not_from (is_bound bound r) (λ g. apart r g (ap (λ b. b || is_bound rs r) (eq-eqb r r refl))))
    (all_out bound rs (λ q g h. apart q g (or_right (r == q) (is_bound rs q) h)))

pub referents_introduced : (k : Structure) (q : ℕ) → is_bound (referents_in k) q ≡ true → is_bound (introduced_in k) q ≡ true
referents_introduced (structure rs cs) q h = bound_left rs (introduced_in_all cs) q h

-- what is introduced once is fresh, where nothing of it is bound around it
mutual
  pub fresh_once : (bound : List ℕ) (k : Structure) → all_distinct (introduced_in k) ≡ true → Disjoint bound (introduced_in k) → fresh_in bound k ≡ true
  fresh_once bound (structure rs cs) once out =
      let two : Apart rs (introduced_in_all cs) = apart_of rs (introduced_in_all cs) once in
      and_from (list_all (λ r. not (is_bound bound r)) rs) (fresh_in_all (bound ++ rs) cs)
      (all_out bound rs (λ q g h. out q g (bound_left rs (introduced_in_all cs) q h)))
      (fresh_once_all (bound ++ rs) cs two.second
      (λ q g h. elim (bound_cases bound rs q g) [
        | inl outside ↦ out q outside (bound_right rs (introduced_in_all cs) q h)
        | inr inside ↦ two.disjoint q inside h
      ]))

  pub fresh_once_all : (bound : List ℕ) (cs : Conditions) → all_distinct (introduced_in_all cs) ≡ true → Disjoint bound (introduced_in_all cs)
      → fresh_in_all bound cs ≡ true
  fresh_once_all bound no_condition once out = refl
  fresh_once_all bound (also_condition c cs) once out =
      let two : Apart (introduced_in_condition c) (introduced_in_all cs) = apart_of (introduced_in_condition c) (introduced_in_all cs) once in
      and_from (fresh_in_condition bound c) (fresh_in_all bound cs)
      (fresh_once_condition bound c two.first (λ q g h. out q g (bound_left (introduced_in_condition c) (introduced_in_all cs) q h)))
      (fresh_once_all bound cs two.second (λ q g h. out q g (bound_right (introduced_in_condition c) (introduced_in_all cs) q h)))

  pub fresh_once_condition : (bound : List ℕ) (c : Condition) → all_distinct (introduced_in_condition c) ≡ true → Disjoint bound (introduced_in_condition c)
      → fresh_in_condition bound c ≡ true
  fresh_once_condition bound (IsA noun thing) once out = refl
  fresh_once_condition bound (AreRelated word from to) once out = refl
  fresh_once_condition bound (AreSame one other) once out = refl
  fresh_once_condition bound (Negation k) once out = fresh_once bound k once out
  fresh_once_condition bound (Implication k l) once out =
      let two : Apart (introduced_in k) (introduced_in l) = apart_of (introduced_in k) (introduced_in l) once in
      and_from (fresh_in bound k) (fresh_in (bound ++ referents_in k) l)
      (fresh_once bound k two.first (λ q g h. out q g (bound_left (introduced_in k) (introduced_in l) q h)))
      (fresh_once (bound ++ referents_in k) l two.second
      (λ q g h. elim (bound_cases bound (referents_in k) q g) [
        | inl outside ↦ out q outside (bound_right (introduced_in k) (introduced_in l) q h)
        | inr inside ↦ two.disjoint q (referents_introduced k q inside) h
      ]))
  fresh_once_condition bound (Disjunction k l) once out =
      let two : Apart (introduced_in k) (introduced_in l) = apart_of (introduced_in k) (introduced_in l) once in
      and_from (fresh_in bound k) (fresh_in bound l)
      (fresh_once bound k two.first (λ q g h. out q g (bound_left (introduced_in k) (introduced_in l) q h)))
      (fresh_once bound l two.second (λ q g h. out q g (bound_right (introduced_in k) (introduced_in l) q h)))

-- each of these referents is among those
abbrev pub Among : List ℕ → List ℕ → Type 0
Among fewer bound = (q : ℕ) → is_bound fewer q ≡ true → is_bound bound q ≡ true

among_more : (fewer bound rs : List ℕ) → Among fewer bound → Among (fewer ++ rs) (bound ++ rs)
among_more fewer bound rs less q h = elim (bound_cases fewer rs q h) [
  | inl outside ↦ bound_left bound rs q (less q outside)
  | inr inside ↦ bound_right bound rs q inside
]

out_less : (fewer bound rs : List ℕ) → Among fewer bound → list_all (λ r. not (is_bound bound r)) rs ≡ true → list_all (λ r. not (is_bound fewer r)) rs ≡ true
out_less fewer bound [] less h = refl
out_less fewer bound (r ∷ rs) less h =
    and_from (not (is_bound fewer r)) (list_all (λ p. not (is_bound fewer p)) rs)
    (not_from (is_bound fewer r) (λ g. not_both (is_bound bound r) (and_first (not (is_bound bound r)) (list_all (λ p. not (is_bound bound p)) rs) h)
    (less r g)))
    (out_less fewer bound rs less (and_second (not (is_bound bound r)) (list_all (λ p. not (is_bound bound p)) rs) h))

-- what is fresh stays so where less is bound
mutual
  pub fresh_less : (fewer bound : List ℕ) (k : Structure) → Among fewer bound → fresh_in bound k ≡ true → fresh_in fewer k ≡ true
  fresh_less fewer bound (structure rs cs) less h =
      and_from (list_all (λ r. not (is_bound fewer r)) rs) (fresh_in_all (fewer ++ rs) cs)
      (out_less fewer bound rs less (and_first (list_all (λ r. not (is_bound bound r)) rs) (fresh_in_all (bound ++ rs) cs) h))
      (fresh_less_all (fewer ++ rs) (bound ++ rs) cs (among_more fewer bound rs less)
      (and_second (list_all (λ r. not (is_bound bound r)) rs) (fresh_in_all (bound ++ rs) cs) h))

  pub fresh_less_all : (fewer bound : List ℕ) (cs : Conditions) → Among fewer bound → fresh_in_all bound cs ≡ true → fresh_in_all fewer cs ≡ true
  fresh_less_all fewer bound no_condition less h = refl
  fresh_less_all fewer bound (also_condition c cs) less h =
      and_from (fresh_in_condition fewer c) (fresh_in_all fewer cs)
      (fresh_less_condition fewer bound c less (and_first (fresh_in_condition bound c) (fresh_in_all bound cs) h))
      (fresh_less_all fewer bound cs less (and_second (fresh_in_condition bound c) (fresh_in_all bound cs) h))

  pub fresh_less_condition : (fewer bound : List ℕ) (c : Condition) → Among fewer bound → fresh_in_condition bound c ≡ true → fresh_in_condition fewer c ≡ true
  fresh_less_condition fewer bound (IsA noun thing) less h = refl
  fresh_less_condition fewer bound (AreRelated word from to) less h = refl
  fresh_less_condition fewer bound (AreSame one other) less h = refl
  fresh_less_condition fewer bound (Negation k) less h = fresh_less fewer bound k less h
  fresh_less_condition fewer bound (Implication k l) less h =
      and_from (fresh_in fewer k) (fresh_in (fewer ++ referents_in k) l)
      (fresh_less fewer bound k less (and_first (fresh_in bound k) (fresh_in (bound ++ referents_in k) l) h))
      (fresh_less (fewer ++ referents_in k) (bound ++ referents_in k) l (among_more fewer bound (referents_in k) less)
      (and_second (fresh_in bound k) (fresh_in (bound ++ referents_in k) l) h))
  fresh_less_condition fewer bound (Disjunction k l) less h =
      and_from (fresh_in fewer k) (fresh_in fewer l)
      (fresh_less fewer bound k less (and_first (fresh_in bound k) (fresh_in bound l) h))
      (fresh_less fewer bound l less (and_second (fresh_in bound k) (fresh_in bound l) h))

-- what a test keeps of a list
kept_cond : (t : Bool) (p : ℕ) (kept : List ℕ) (q : ℕ) → is_bound (cond t (p ∷ kept) kept) q ≡ true → (((p ≡ q) × (t ≡ true)) ⊎ (is_bound kept q ≡ true))
kept_cond true p kept q h = elim (or_cases (p == q) (is_bound kept q) h) [ inl here ↦ inl (eqb-true p q here, refl) | inr later ↦ inr later ]
kept_cond false p kept q h = inr h

pub bound_filter : (test : ℕ → Bool) (rs : List ℕ) (q : ℕ) → is_bound (filter test rs) q ≡ true → (is_bound rs q ≡ true) × (test q ≡ true)
bound_filter test [] q h = let flip : false ≡ true = h in (h, cc)
bound_filter test (r ∷ rs) q h = elim (kept_cond (test r) r (filter test rs) q h) [
  | inl here ↦ (ap (λ b. b || is_bound rs q) (eq-eqb r q here.0), sym (ap test here.0) ∙ here.1)
  | inr later ↦ (let w : (is_bound rs q ≡ true) × (test q ≡ true) = bound_filter test rs q later in (or_right (r == q) (is_bound rs q) w.0, w.1))
]

add_cond : (t : Bool) (p : ℕ) (kept : List ℕ) (q : ℕ) → is_bound kept q ≡ true → is_bound (cond t (p ∷ kept) kept) q ≡ true
add_cond true p kept q h = or_right (p == q) (is_bound kept q) h
add_cond false p kept q h = h

pub filter_bound : (test : ℕ → Bool) (rs : List ℕ) (q : ℕ) → is_bound rs q ≡ true → test q ≡ true → is_bound (filter test rs) q ≡ true
filter_bound test [] q h t = h
filter_bound test (r ∷ rs) q h t = elim (or_cases (r == q) (is_bound rs q) h) [
  | inl here ↦ ap (λ b. is_bound (cond b (r ∷ filter test rs) (filter test rs)) q) (ap test (eqb-true r q here) ∙ t)
      ∙ ap (λ b. b || is_bound (filter test rs) q) here
  | inr later ↦ add_cond (test r) r (filter test rs) q (filter_bound test rs q later t)
]
