-- The truth of a structure rests on what an assignment gives to its terms alone.
use Rattle.std.proofs.Common.{◌≡◌, ℕ, ◌==◌, ◌&&◌, ◌||◌, Bool, true, false, List, [], ◌∷◌, ◌++◌, refl, sym, ap, ◌∙◌, inl, inr}
use Rattle.std.specs.Prelude.{◌⊎◌, not, if◌then◌else◌}
use Rattle.std.specs.List.{list_any}
use Rattle.std.proofs.lemmas.Bool.{cases_eq, cases_Bool, eq-eqb, ne_eqb, or_cases, or_right}
use Rattle.std.proofs.lemmas.List.Folds.{list_any-append}
use Rattle.logic_terms.specs.declared.structures.Thing.{Thing}
use Rattle.logic_terms.specs.declared.structures.Thing.TheVariants.{Ref, Name}
use Rattle.logic_terms.specs.Structure.{Condition, Conditions, Structure, IsA, AreRelated, AreSame, Negation, Implication, Disjunction, no_condition, also_condition, structure, referents_in}
use Rattle.logic_terms.specs.Free.{is_bound}
use Rattle.logic_terms.specs.Interpretation.{Interpretation, has_element, has_pair}
use Rattle.logic_terms.specs.Meaning.{some_below, each_below, implies}
use Rattle.logic_terms.specs.Truth.{giving, some_extension, each_extension, thing_in, is_true, implies_test, all_true, condition_true}
use Rattle.logic_terms.proofs.Extensions.{same_at, other_at}
use Rattle.ace_to_owl.specs.Terms.{terms_of, terms_in, terms_in_all, terms_in_condition, same_thing, referents_among}
use Rattle.ace_to_owl.proofs.Fresh.{bound_cases}

-- whether a referent is among terms
abbrev pub has_term : List Thing → ℕ → Bool
has_term ts q = list_any (λ t. same_thing t (Ref q)) ts

-- two assignments give the same where a test passes
abbrev pub Alike : (ℕ → Bool) → (ℕ → ℕ) → (ℕ → ℕ) → Type 0
Alike test f g = (q : ℕ) → test q ≡ true → f q ≡ g q

given_alike : (test : ℕ → Bool) (f g : ℕ → ℕ) (r x : ℕ) → Alike test f g → Alike (λ q. (r == q) || test q) (giving f r x) (giving g r x)
given_alike test f g r x same q h = elim (cases_eq r q) [
  | inl here ↦ same_at f r x q here ∙ sym (same_at g r x q here)
  | inr ne ↦ other_at f r x q ne ∙ same q (sym (ap (λ b. b || test q) (ne_eqb r q ne)) ∙ h) ∙ sym (other_at g r x q ne)
]

or_around : (a b c : Bool) → ((a || b) || c) ≡ true → (b || (a || c)) ≡ true
or_around true b c h = or_right b true refl
or_around false b c h = h

some_alike : (n : ℕ) (rs : List ℕ) (test : ℕ → Bool) (one other : (ℕ → ℕ) → Bool) (f g : ℕ → ℕ) → Alike test f g
    → ((k l : ℕ → ℕ) → Alike (λ q. is_bound rs q || test q) k l → one k ≡ other l) → some_extension n rs one f ≡ some_extension n rs other g
some_alike n [] test one other f g same each = each f g same
some_alike n (r ∷ rs) test one other f g same each =
    ap (some_below n) (λ j x. some_alike n rs (λ q. (r == q) || test q) one other (giving f r x) (giving g r x) (given_alike test f g r x same)
    (λ k l alike. each k l (λ q h. alike q (or_around (r == q) (is_bound rs q) (test q) h))) j)

each_alike : (n : ℕ) (rs : List ℕ) (test : ℕ → Bool) (one other : (ℕ → ℕ) → Bool) (f g : ℕ → ℕ) → Alike test f g
    → ((k l : ℕ → ℕ) → Alike (λ q. is_bound rs q || test q) k l → one k ≡ other l) → each_extension n rs one f ≡ each_extension n rs other g
each_alike n [] test one other f g same each = each f g same
each_alike n (r ∷ rs) test one other f g same each =
    ap (each_below n) (λ j x. each_alike n rs (λ q. (r == q) || test q) one other (giving f r x) (giving g r x) (given_alike test f g r x same)
    (λ k l alike. each k l (λ q h. alike q (or_around (r == q) (is_bound rs q) (test q) h))) j)

-- where a referent is bound around a place or open there
abbrev pub is_used : List ℕ → List Thing → ℕ → Bool
is_used bound ts q = is_bound bound q || has_term ts q

thing_alike : (i : Interpretation) (bound : List ℕ) (t : Thing) (f g : ℕ → ℕ) → Alike (is_used bound (terms_of bound t)) f g → thing_in i f t ≡ thing_in i g t
thing_alike i bound (Name a) f g same = refl
thing_alike i bound (Ref r) f g same = elim (cases_Bool (is_bound bound r)) [
  | inl is_so ↦ same r (ap (λ b. b || has_term (terms_of bound (Ref r)) r) is_so)
  | inr is_not ↦ same r (or_right (is_bound bound r) (has_term (terms_of bound (Ref r)) r)
      (ap (λ b. has_term (if b then [] else Ref r ∷ []) r) is_not ∙ ap (λ b. b || false) (eq-eqb r r refl)))
]

left_terms : (bound : List ℕ) (ts us : List Thing) (f g : ℕ → ℕ) → Alike (is_used bound (ts ++ us)) f g → Alike (is_used bound ts) f g
left_terms bound ts us f g same q h = same q (elim (or_cases (is_bound bound q) (has_term ts q) h) [
  | inl is_so ↦ ap (λ b. b || has_term (ts ++ us) q) is_so
  | inr is_so ↦ or_right (is_bound bound q) (has_term (ts ++ us) q) (list_any-append (λ t. same_thing t (Ref q)) ts us ∙ ap (λ b. b || has_term us q) is_so)
])

right_terms : (bound : List ℕ) (ts us : List Thing) (f g : ℕ → ℕ) → Alike (is_used bound (ts ++ us)) f g → Alike (is_used bound us) f g
right_terms bound ts us f g same q h = same q (elim (or_cases (is_bound bound q) (has_term us q) h) [
  | inl is_so ↦ ap (λ b. b || has_term (ts ++ us) q) is_so
  | inr is_so ↦ or_right (is_bound bound q) (has_term (ts ++ us) q)
      (list_any-append (λ t. same_thing t (Ref q)) ts us ∙ or_right (has_term ts q) (has_term us q) is_so)
])

-- what is bound outside and inside
inner : (bound rs : List ℕ) (ts : List Thing) (k l : ℕ → ℕ) → Alike (λ q. is_bound rs q || is_used bound ts q) k l → Alike (is_used (bound ++ rs) ts) k l
inner bound rs ts k l alike q h = alike q (elim (or_cases (is_bound (bound ++ rs) q) (has_term ts q) h) [
  | inl is_so ↦ elim (bound_cases bound rs q is_so) [
    | inl outside ↦ or_right (is_bound rs q) (is_used bound ts q) (ap (λ b. b || has_term ts q) outside)
    | inr inside ↦ ap (λ b. b || is_used bound ts q) inside
  ]
  | inr is_so ↦ or_right (is_bound rs q) (is_used bound ts q) (or_right (is_bound bound q) (has_term ts q) is_so)
])

mutual
  pub true_alike : (i : Interpretation) (bound : List ℕ) (k : Structure) (f g : ℕ → ℕ) → Alike (is_used bound (terms_in bound k)) f g
      → is_true i k f ≡ is_true i k g
  true_alike i bound (structure rs cs) f g same =
      some_alike i.size rs (is_used bound (terms_in_all (bound ++ rs) cs)) (λ h. all_true i cs h) (λ h. all_true i cs h) f g same
      (λ k l alike. all_alike i (bound ++ rs) cs k l (inner bound rs (terms_in_all (bound ++ rs) cs) k l alike))

  -- the right side rests on what its terms have
  pub implies_alike : (i : Interpretation) (bound : List ℕ) (k l : Structure) (f g : ℕ → ℕ)
      → Alike (is_used bound (terms_in bound k ++ terms_in (bound ++ referents_in k) l)) f g
      → ((u v : ℕ → ℕ) → Alike (is_used (bound ++ referents_in k) (terms_in (bound ++ referents_in k) l)) u v → is_true i l u ≡ is_true i l v)
      → implies_test i k (is_true i l) f ≡ implies_test i k (is_true i l) g
  implies_alike i bound (structure rs cs) l f g same right =
      let ts : List Thing = terms_in_all (bound ++ rs) cs in
      let us : List Thing = terms_in (bound ++ rs) l in
      each_alike i.size rs (is_used bound (ts ++ us)) (λ h. implies (all_true i cs h) (is_true i l h)) (λ h. implies (all_true i cs h) (is_true i l h)) f g same
      (λ u v alike.
      let both : Alike (is_used (bound ++ rs) (ts ++ us)) u v = inner bound rs (ts ++ us) u v alike in
      λ j. implies (all_alike i (bound ++ rs) cs u v (left_terms (bound ++ rs) ts us u v both) j) (right u v (right_terms (bound ++ rs) ts us u v both) j))

  pub all_alike : (i : Interpretation) (bound : List ℕ) (cs : Conditions) (f g : ℕ → ℕ) → Alike (is_used bound (terms_in_all bound cs)) f g
      → all_true i cs f ≡ all_true i cs g
  all_alike i bound no_condition f g same = refl
  all_alike i bound (also_condition c cs) f g same =
      λ j. condition_alike i bound c f g (left_terms bound (terms_in_condition bound c) (terms_in_all bound cs) f g same) j
      && all_alike i bound cs f g (right_terms bound (terms_in_condition bound c) (terms_in_all bound cs) f g same) j

  pub condition_alike : (i : Interpretation) (bound : List ℕ) (c : Condition) (f g : ℕ → ℕ) → Alike (is_used bound (terms_in_condition bound c)) f g
      → condition_true i c f ≡ condition_true i c g
  condition_alike i bound (IsA noun t) f g same = ap (has_element i noun) (thing_alike i bound t f g same)
  condition_alike i bound (AreRelated word t u) f g same =
      λ j. has_pair i word (thing_alike i bound t f g (left_terms bound (terms_of bound t) (terms_of bound u) f g same) j)
      (thing_alike i bound u f g (right_terms bound (terms_of bound t) (terms_of bound u) f g same) j)
  condition_alike i bound (AreSame t u) f g same =
      λ j. thing_alike i bound t f g (left_terms bound (terms_of bound t) (terms_of bound u) f g same) j == thing_alike i bound u f g
      (right_terms bound (terms_of bound t) (terms_of bound u) f g same) j
  condition_alike i bound (Negation k) f g same = ap not (true_alike i bound k f g same)
  condition_alike i bound (Implication k l) f g same =
      implies_alike i bound k l f g same (λ u v alike. true_alike i (bound ++ referents_in k) l u v alike)
  condition_alike i bound (Disjunction k l) f g same =
      λ j. true_alike i bound k f g (left_terms bound (terms_in bound k) (terms_in bound l) f g same) j
      || true_alike i bound l f g (right_terms bound (terms_in bound k) (terms_in bound l) f g same) j

-- a referent of a structure that is among a condition's terms is one of its own terms
has_own_by : (rs : List ℕ) (r : ℕ) (more : List ℕ) (q : ℕ) (t : Bool) → is_bound rs r ≡ t → is_bound rs q ≡ true → (r ≡ q) ⊎ (is_bound more q ≡ true)
    → is_bound (if t then r ∷ more else more) q ≡ true
has_own_by rs r more q true is own h = elim h [
  | inl here ↦ ap (λ b. b || is_bound more q) (eq-eqb r q here)
  | inr later ↦
      or_right (r == q) (is_bound more q) later
]
has_own_by rs r more q false is own h = elim h [
  | inl here ↦ (let flip : true ≡ false = sym own ∙ sym (ap (is_bound rs) here) ∙ is in cc)
  | inr later ↦ later
]

pub has_own : (rs : List ℕ) (ts : List Thing) (q : ℕ) → is_bound rs q ≡ true → has_term ts q ≡ true → is_bound (referents_among rs ts) q ≡ true
has_own rs [] q own h = h
has_own rs (Name a ∷ ts) q own h = has_own rs ts q own h
has_own rs (Ref r ∷ ts) q own h =
    has_own_by rs r (referents_among rs ts) q (is_bound rs r) refl own
    (elim (or_cases (r == q) (has_term ts q) h) [
      | inl here ↦ inl ((Rattle.std.proofs.lemmas.Bool.Decides.Decides-eqb r q).0 here)
      | inr later ↦ inr (has_own rs ts q own later)
    ])

-- and its own terms are referents of the structure
own_cond : (rs : List ℕ) (r : ℕ) (more : List ℕ) (q : ℕ) (t : Bool) → is_bound rs r ≡ t → (is_bound more q ≡ true → is_bound rs q ≡ true)
    → is_bound (if t then r ∷ more else more) q ≡ true → is_bound rs q ≡ true
own_cond rs r more q true is ih h = elim (or_cases (r == q) (is_bound more q) h) [
  | inl here ↦ sym (ap (is_bound rs) ((Rattle.std.proofs.lemmas.Bool.Decides.Decides-eqb r q).0 here)) ∙ is
  | inr later ↦ ih later
]
own_cond rs r more q false is ih h = ih h

pub own_bound : (rs : List ℕ) (ts : List Thing) (q : ℕ) → is_bound (referents_among rs ts) q ≡ true → is_bound rs q ≡ true
own_bound rs [] q h = let flip : false ≡ true = h in cc
own_bound rs (Name a ∷ ts) q h = own_bound rs ts q h
own_bound rs (Ref r ∷ ts) q h = own_cond rs r (referents_among rs ts) q (is_bound rs r) refl (own_bound rs ts q) h
