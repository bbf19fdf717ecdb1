-- An element is in the class of a structure where the structure is true with it for the root.
use Rattle.std.proofs.Common.{◌≡◌, ℕ, ◌+◌, ◌==◌, ◌&&◌, ◌||◌, Bool, true, false, List, [], ◌∷◌, ◌++◌, Option, Some, None, Result, Ok, Err, refl, sym, ap, ◌∙◌, subst, inl, inr}
use Rattle.std.specs.Prelude.{◌⊎◌, not, if◌then◌else◌}
use Rattle.std.specs.List.{list_any, list_all}
use Rattle.std.proofs.lemmas.Bool.{cases_Bool, eq-eqb, ne_eqb, or_right as or_more, and_from, eqb-true, both_ways, or_cases}
use Rattle.std.proofs.lemmas.List.Folds.{list_any-append}
use Rattle.wiki_base.specs.declared.numbers.WordId.{WordId}
use Rattle.wiki_base.proofs.BoolLaws.{and_first, and_second}
use Rattle.logic_terms.specs.declared.structures.Thing.{Thing}
use Rattle.logic_terms.specs.declared.structures.Thing.TheVariants.{Ref, Name}
use Rattle.logic_terms.specs.declared.cause.Cause.{Cause}
use Rattle.logic_terms.specs.declared.cause.Cause.TheVariants.{Shared, Cycle, NoRoot, Equality}
use Rattle.logic_terms.specs.Concept.{Atomic, HasValue}
use Rattle.logic_terms.specs.Structure.{Condition, Conditions, Structure, IsA, AreRelated, AreSame, Negation, Implication, Disjunction, no_condition, also_condition, structure, referents_in}
use Rattle.logic_terms.specs.Free.{is_bound}
use Rattle.logic_terms.specs.Interpretation.{Interpretation, element_of, has_element, has_pair}
use Rattle.logic_terms.specs.Meaning.{some_below, implies}
use Rattle.logic_terms.specs.Truth.{giving, some_extension, each_extension, thing_in, condition_true}
use Rattle.logic_terms.proofs.Extensions.{other_at}
use Rattle.ace_to_owl.specs.Outcomes.{next}
use Rattle.ace_to_owl.specs.Terms.{same_thing, is_root}
use Rattle.ace_to_owl.specs.Truths.{Stands}
use Rattle.ace_to_owl.specs.Parts.{Part, At, Edge, straight, inverse}
use Rattle.ace_to_owl.specs.Rolling.{own_member, member, edge_part, value_part, held_at, holder}
use Rattle.ace_to_owl.proofs.TreeTruth.{part_true}
use Rattle.ace_to_owl.proofs.TreeMeaning.{value, value_own, is_member, within}

-- what a step that went well came from
pub record Went {X Y : Type 0} (w : Result X Cause) (step : X → Result Y Cause) (y : Y) : Type 0 where
  pub from : X
  pub first : w ≡ Ok from
  pub after : step from ≡ Ok y

pub no_err : {Y : Type 0} (cause : Cause) (y : Y) → Err cause ≡ Ok y → ⊥
no_err cause y e = let flip : true ≡ false = ap (λ r. elim r [ Ok v ↦ false | Err v ↦ true ]) e in cc

pub ok_same : {Y : Type 0} (x y : Y) → ◌≡◌ {A = Result Y Cause} (Ok x) (Ok y) → x ≡ y
ok_same x y e = ap (λ r. elim r [ Ok v ↦ v | Err v ↦ x ]) e

pub went : {X Y : Type 0} (w : Result X Cause) (step : X → Result Y Cause) (y : Y) → next w step ≡ Ok y → Went w step y
went (Ok x) step y e = record { from = x; first = refl; after = e }
went (Err cause) step y e = absurd (no_err cause y e)

-- a root that is a referent is one of these, or none of these
abbrev pub Covered : Option Thing → List ℕ → Type 0
Covered None bound = Unit {0}
Covered (Some (Ref q)) bound = is_bound bound q ≡ true
Covered (Some (Name name)) bound = Unit {0}

-- no structure inside introduces a referent that is bound around it
abbrev mutual
  pub fresh_in : List ℕ → Structure → Bool
  fresh_in bound (structure rs cs) = list_all (λ r. not (is_bound bound r)) rs && fresh_in_all (bound ++ rs) cs

  pub fresh_in_all : List ℕ → Conditions → Bool
  fresh_in_all bound no_condition = true
  fresh_in_all bound (also_condition c cs) = fresh_in_condition bound c && fresh_in_all bound cs

  pub fresh_in_condition : List ℕ → Condition → Bool
  fresh_in_condition bound (IsA noun thing) = true
  fresh_in_condition bound (AreRelated word from to) = true
  fresh_in_condition bound (AreSame one other) = true
  fresh_in_condition bound (Negation k) = fresh_in bound k
  fresh_in_condition bound (Implication k l) = fresh_in bound k && fresh_in (bound ++ referents_in k) l
  fresh_in_condition bound (Disjunction k l) = fresh_in bound k && fresh_in bound l

-- a root keeps its element where others are given theirs
pub stands_on : (i : Interpretation) (f g : ℕ → ℕ) (root : Option Thing) (bound rs : List ℕ) (x : ℕ) → list_all (λ r. not (is_bound bound r)) rs ≡ true
    → Covered root bound → ((q : ℕ) → is_bound rs q ≡ false → g q ≡ f q) → Stands i f root x → Stands i g root x
stands_on i f g None bound rs x fresh cover keep stands = tt
stands_on i f g (Some (Name name)) bound rs x fresh cover keep stands = stands
stands_on i f g (Some (Ref q)) bound rs x fresh cover keep stands = keep q (out rs fresh) ∙ stands
  where
    not_true : (b : Bool) → not b ≡ true → b ≡ true → ⊥
    not_true true h g = let flip : false ≡ true = h in cc
    not_true false h g = let flip : false ≡ true = g in cc

    out : (rs : List ℕ) → list_all (λ r. not (is_bound bound r)) rs ≡ true → is_bound rs q ≡ false
    out [] h = refl
    out (r ∷ rs) h =
        ap (λ b. b || is_bound rs q) (ne_eqb r q
        (λ same. not_true (is_bound bound r) (and_first (not (is_bound bound r)) (list_all (λ p. not (is_bound bound p)) rs) h)
        (ap (is_bound bound) same ∙ cover)))
        ∙ out rs (and_second (not (is_bound bound r)) (list_all (λ p. not (is_bound bound p)) rs) h)

-- tests that agree on the extensions of an assignment
pub extension_same : (n : ℕ) (rs : List ℕ) (test other : (ℕ → ℕ) → Bool) (f : ℕ → ℕ)
    → ((g : ℕ → ℕ) → ((q : ℕ) → is_bound rs q ≡ false → g q ≡ f q) → test g ≡ other g) → some_extension n rs test f ≡ some_extension n rs other f
extension_same n [] test other f same = same f (λ q h. refl)
extension_same n (r ∷ rs) test other f same =
    ap (some_below n) (λ j x. extension_same n rs test other (giving f r x) (λ g keep. same g (λ q out. keep q (later q out) ∙ other_at f r x q (differ q out)))
    j)
  where
    differ : (q : ℕ) → ((r == q) || is_bound rs q) ≡ false → r ≡ q → ⊥
    differ q out same_ = both_ways ((r == q) || is_bound rs q) out (ap (λ b. b || is_bound rs q) (eq-eqb r q same_))

    later : (q : ℕ) → ((r == q) || is_bound rs q) ≡ false → is_bound rs q ≡ false
    later q out = elim (cases_Bool (is_bound rs q)) [
      | inl is_so ↦ absurd (both_ways ((r == q) || is_bound rs q) out (or_more (r == q) (is_bound rs q) is_so))
      | inr is_not ↦ is_not
    ]
      where
        or_more : (a b : Bool) → b ≡ true → (a || b) ≡ true
        or_more true b h = refl
        or_more false b h = h

-- a thing that is the root has its element
same_word : (i : Interpretation) (a b : WordId) → (a.0 == b.0) ≡ true → element_of i a ≡ element_of i b
same_word i a b e = ap (λ n. Rattle.std.specs.Prelude.unwrap_or (Rattle.std.specs.Map.lookup (λ o. n == o.0) i.names) 0) (eqb-true a.0 b.0 e)

same_elements : (i : Interpretation) (g : ℕ → ℕ) (r t : Thing) → same_thing r t ≡ true → thing_in i g r ≡ thing_in i g t
same_elements i g (Ref r) (Ref q) e = ap g (eqb-true r q e)
same_elements i g (Ref r) (Name b) e = let flip : false ≡ true = e in cc
same_elements i g (Name a) (Ref q) e = let flip : false ≡ true = e in cc
same_elements i g (Name a) (Name b) e = same_word i a b e

root_element : (i : Interpretation) (g : ℕ → ℕ) (root : Option Thing) (t : Thing) (x : ℕ) → is_root root t ≡ true → Stands i g root x → thing_in i g t ≡ x
root_element i g None t x e stands = let flip : false ≡ true = e in cc
root_element i g (Some r) t x e stands = sym (same_elements i g r t e) ∙ stands

some_same : (n m : ℕ) → Some n ≡ Some m → n ≡ m
some_same n m e = ap (λ o. elim o [ Some k ↦ k | None ↦ n ]) e

none_some : (n : ℕ) → ◌≡◌ {A = Option ℕ} None (Some n) → ⊥
none_some n e = let flip : true ≡ false = ap (λ o. elim o [ Some k ↦ false | None ↦ true ]) e in cc

-- what is known of a thing that is a member
pub record Membership (i : Interpretation) (root : Option Thing) (bound rs : List ℕ) (t : Thing) (n : ℕ) : Type 0 where
  pub element : (g : ℕ → ℕ) (x : ℕ) → Stands i g root x → thing_in i g t ≡ value x g n
  pub inside : is_member rs n ≡ true
  pub covered : Covered (Some t) (bound ++ rs)

bound_member : (rs : List ℕ) (q : ℕ) → is_bound rs q ≡ true → list_any (λ r. (r + 1) == (q + 1)) rs ≡ true
bound_member [] q h = h
bound_member (r ∷ rs) q h = elim (or_cases (r == q) (is_bound rs q) h) [
  | inl here ↦ ap (λ b. b || list_any (λ p. (p + 1) == (q + 1)) rs) (eq-eqb (r + 1) (q + 1) (ap (λ n. n + 1) (eqb-true r q here)))
  | inr later ↦ or_more ((r + 1) == (q + 1)) (list_any (λ p. (p + 1) == (q + 1)) rs) (bound_member rs q later)
]

bound_left : (bound rs : List ℕ) (q : ℕ) → is_bound bound q ≡ true → is_bound (bound ++ rs) q ≡ true
bound_left bound rs q h = list_any-append (λ p. p == q) bound rs ∙ ap (λ b. b || is_bound rs q) h

bound_right : (bound rs : List ℕ) (q : ℕ) → is_bound rs q ≡ true → is_bound (bound ++ rs) q ≡ true
bound_right bound rs q h = list_any-append (λ p. p == q) bound rs ∙ or_more (is_bound bound q) (is_bound rs q) h

covered_root : (root : Option Thing) (t : Thing) (bound rs : List ℕ) → is_root root t ≡ true → Covered root bound → Covered (Some t) (bound ++ rs)
covered_root None t bound rs e cover = let flip : false ≡ true = e in cc
covered_root (Some (Ref r)) (Ref q) bound rs e cover = bound_left bound rs q (ap (is_bound bound) (sym (eqb-true r q e)) ∙ cover)
covered_root (Some (Ref r)) (Name b) bound rs e cover = tt
covered_root (Some (Name a)) (Ref q) bound rs e cover = let flip : false ≡ true = e in cc
covered_root (Some (Name a)) (Name b) bound rs e cover = tt

own_membership : (i : Interpretation) (root : Option Thing) (bound rs : List ℕ) (t : Thing) (n : ℕ) → own_member rs t ≡ Some n → Membership i root bound rs t n
own_membership i root bound rs (Name a) n e = absurd (none_some n e)
own_membership i root bound rs (Ref q) n e = elim (cases_Bool (is_bound rs q)) [
  | inl own ↦ (let same : q + 1 ≡ n = some_same (q + 1) n (sym (ap (λ b. if b then Some (q + 1) else None) own) ∙ e) in
      record {
        element = λ g x stands. sym (value_own x g q) ∙ ap (value x g) same;
        inside = subst (λ m. is_member rs m ≡ true) same (or_more ((q + 1) == 0) (list_any (λ r. (r + 1) == (q + 1)) rs) (bound_member rs q own));
        covered = bound_right bound rs q own;
      })
  | inr free ↦ absurd (none_some n (sym (ap (λ b. if b then Some (q + 1) else None) free) ∙ e))
]

pub membership : (i : Interpretation) (root : Option Thing) (bound rs : List ℕ) (t : Thing) (n : ℕ) → Covered root bound → member root rs t ≡ Some n
    → Membership i root bound rs t n
membership i root bound rs t n cover e = elim (cases_Bool (is_root root t)) [
  | inl is_so ↦ (let same : 0 ≡ n = some_same 0 n (sym (ap (λ b. if b then Some 0 else own_member rs t) is_so) ∙ e) in
      record {
        element = λ g x stands. root_element i g root t x is_so stands ∙ ap (value x g) same;
        inside = subst (λ m. is_member rs m ≡ true) same refl;
        covered = covered_root root t bound rs is_so cover;
      })
  | inr is_not ↦ own_membership i root bound rs t n (sym (ap (λ b. if b then Some 0 else own_member rs t) is_not) ∙ e)
]

-- what a part says, and of whom
pub record Sound (i : Interpretation) (root : Option Thing) (rs : List ℕ) (p : Part) (c : Condition) : Type 0 where
  pub inside : within rs p ≡ true
  pub truth : (g : ℕ → ℕ) (x : ℕ) → Stands i g root x → part_true i (value x g) p ≡ condition_true i c g

pub sound_at : (i : Interpretation) (root : Option Thing) (rs : List ℕ) (p q : Part) (c : Condition) → q ≡ p → Sound i root rs q c → Sound i root rs p c
sound_at i root rs p q c same s = subst (λ r. Sound i root rs r c) same s

pub noun_by : (i : Interpretation) (root : Option Thing) (bound rs : List ℕ) (noun : WordId) (t : Thing) (p : Part) (foreign : Bool) (o : Option ℕ)
    → Covered root bound → member root rs t ≡ o → (if foreign then Err Shared else elim o [ Some n ↦ Ok (At n (Atomic noun)) | None ↦ Err NoRoot ]) ≡ Ok p
    → Sound i root rs p (IsA noun t)
noun_by i root bound rs noun t p true o cover is e = absurd (no_err Shared p e)
noun_by i root bound rs noun t p false None cover is e = absurd (no_err NoRoot p e)
noun_by i root bound rs noun t p false (Some n) cover is e =
    let m : Membership i root bound rs t n = membership i root bound rs t n cover is in
    sound_at i root rs p (At n (Atomic noun)) (IsA noun t) (ok_same (At n (Atomic noun)) p e)
    (record { inside = m.inside; truth = λ g x stands. ap (has_element i noun) (sym (m.element g x stands)) })

value_of : (i : Interpretation) (root : Option Thing) (rs : List ℕ) (word : WordId) (t u : Thing) (n : ℕ) (p : Part) → is_member rs n ≡ true
    → ((g : ℕ → ℕ) (x : ℕ) → Stands i g root x → thing_in i g t ≡ value x g n) → value_part n (straight word) u ≡ Ok p → Sound i root rs p (AreRelated word t u)
value_of i root rs word t (Ref q) n p inside element e = absurd (no_err Shared p e)
value_of i root rs word t (Name b) n p inside element e =
    sound_at i root rs p (At n (HasValue (straight word) b)) (AreRelated word t (Name b)) (ok_same (At n (HasValue (straight word) b)) p e)
    (record { inside = inside; truth = λ g x stands. ap (λ y. has_pair i word y (element_of i b)) (sym (element g x stands)) })

inverse_of : (i : Interpretation) (root : Option Thing) (rs : List ℕ) (word : WordId) (t u : Thing) (n : ℕ) (p : Part) → is_member rs n ≡ true
    → ((g : ℕ → ℕ) (x : ℕ) → Stands i g root x → thing_in i g u ≡ value x g n) → value_part n (inverse word) t ≡ Ok p → Sound i root rs p (AreRelated word t u)
inverse_of i root rs word (Ref q) u n p inside element e = absurd (no_err Shared p e)
inverse_of i root rs word (Name a) u n p inside element e =
    sound_at i root rs p (At n (HasValue (inverse word) a)) (AreRelated word (Name a) u) (ok_same (At n (HasValue (inverse word) a)) p e)
    (record { inside = inside; truth = λ g x stands. ap (has_pair i word (element_of i a)) (sym (element g x stands)) })

edge_of : (i : Interpretation) (root : Option Thing) (rs : List ℕ) (word : WordId) (t u : Thing) (n m : ℕ) (p : Part) (same : Bool) → is_member rs n ≡ true
    → is_member rs m ≡ true → ((g : ℕ → ℕ) (x : ℕ) → Stands i g root x → thing_in i g t ≡ value x g n)
    → ((g : ℕ → ℕ) (x : ℕ) → Stands i g root x → thing_in i g u ≡ value x g m) → (if same then Err Cycle else Ok (Edge word n m)) ≡ Ok p
    → Sound i root rs p (AreRelated word t u)
edge_of i root rs word t u n m p true inn inm elt elu e = absurd (no_err Cycle p e)
edge_of i root rs word t u n m p false inn inm elt elu e =
    sound_at i root rs p (Edge word n m) (AreRelated word t u) (ok_same (Edge word n m) p e)
    (record {
      inside = and_from (is_member rs n) (is_member rs m) inn inm;
      truth = λ g x stands. λ j. has_pair i word (sym (elt g x stands) j) (sym (elu g x stands) j);
    })

pub relation_by : (i : Interpretation) (root : Option Thing) (bound rs : List ℕ) (word : WordId) (t u : Thing) (p : Part) (foreign : Bool) (o q : Option ℕ)
    → Covered root bound → member root rs t ≡ o → member root rs u ≡ q
    → (if foreign then Err Shared else elim o [
      | Some n ↦ elim q [ Some m ↦ edge_part word n m | None ↦ value_part n (straight word) u ]
      | None ↦
          elim q [ Some m ↦ value_part m (inverse word) t | None ↦ Err NoRoot ]
    ]) ≡ Ok p → Sound i root rs p (AreRelated word t u)
relation_by i root bound rs word t u p true o q cover is_t is_u e = absurd (no_err Shared p e)
relation_by i root bound rs word t u p false (Some n) (Some m) cover is_t is_u e =
    let a : Membership i root bound rs t n = membership i root bound rs t n cover is_t in
    let b : Membership i root bound rs u m = membership i root bound rs u m cover is_u in
    edge_of i root rs word t u n m p (n == m) a.inside b.inside a.element b.element e
relation_by i root bound rs word t u p false (Some n) None cover is_t is_u e =
    let a : Membership i root bound rs t n = membership i root bound rs t n cover is_t in
    value_of i root rs word t u n p a.inside a.element e
relation_by i root bound rs word t u p false None (Some m) cover is_t is_u e =
    let b : Membership i root bound rs u m = membership i root bound rs u m cover is_u in
    inverse_of i root rs word t u m p b.inside b.element e
relation_by i root bound rs word t u p false None None cover is_t is_u e = absurd (no_err NoRoot p e)

pub never_same : (p : Part) (foreign : Bool) → (if foreign then Err Shared else Err Equality) ≡ Ok p → ⊥
never_same p true e = no_err Shared p e
never_same p false e = no_err Equality p e

-- what is known of the term that holds a condition
pub record Holding (i : Interpretation) (root : Option Thing) (bound rs : List ℕ) (h : Option Thing × ℕ) : Type 0 where
  pub stands : (g : ℕ → ℕ) (x : ℕ) → Stands i g root x → Stands i g h.0 (value x g h.1)
  pub inside : is_member rs h.1 ≡ true
  pub covered : Covered h.0 (bound ++ rs)

covered_more : (root : Option Thing) (bound rs : List ℕ) → Covered root bound → Covered root (bound ++ rs)
covered_more None bound rs cover = tt
covered_more (Some (Ref q)) bound rs cover = bound_left bound rs q cover
covered_more (Some (Name a)) bound rs cover = tt

held_by : (i : Interpretation) (root : Option Thing) (bound rs : List ℕ) (t : Thing) (h : Option Thing × ℕ) (o : Option ℕ) → Covered root bound
    → member root rs t ≡ o → ◌≡◌ {A = Result (Option Thing × ℕ) Cause} (elim o [ Some n ↦ Ok (Some t, n) | None ↦ Err Shared ]) (Ok h)
    → Holding i root bound rs h
held_by i root bound rs t h None cover is e = absurd (no_err Shared h e)
held_by i root bound rs t h (Some n) cover is e =
    let m : Membership i root bound rs t n = membership i root bound rs t n cover is in
    subst (Holding i root bound rs) (ok_same (Some t, n) h e)
    (record { stands = m.element; inside = m.inside; covered = m.covered })

holder_by : (i : Interpretation) (root : Option Thing) (bound rs : List ℕ) (t : Thing) (h : Option Thing × ℕ) (alone : Bool) → Covered root bound
    → (if alone then held_at root rs t else Err Shared) ≡ Ok h → Holding i root bound rs h
holder_by i root bound rs t h true cover e = held_by i root bound rs t h (member root rs t) cover refl e
holder_by i root bound rs t h false cover e = absurd (no_err Shared h e)

pub holding : (i : Interpretation) (root : Option Thing) (bound rs : List ℕ) (ts : List Thing) (h : Option Thing × ℕ) → Covered root bound
    → holder root rs ts ≡ Ok h → Holding i root bound rs h
holding i root bound rs [] h cover e =
    subst (Holding i root bound rs) (ok_same (root, 0) h e)
    (record { stands = λ g x stands. stands; inside = refl; covered = covered_more root bound rs cover })
holding i root bound rs (t ∷ ts) h cover e = holder_by i root bound rs t h (list_all (same_thing t) ts) cover e

-- an extension that makes one true and another false, and the lack of one
pub not_each : (n : ℕ) (rs : List ℕ) (a b : (ℕ → ℕ) → Bool) (f : ℕ → ℕ)
    → some_extension n rs (λ g. a g && not (b g)) f ≡ not (each_extension n rs (λ g. implies (a g) (b g)) f)
not_each n [] a b f = by (a f) (b f)
  where
    by : (p q : Bool) → (p && not q) ≡ not (implies p q)
    by true q = refl
    by false q = refl
not_each n (r ∷ rs) a b f =
    ap (some_below n) (λ j x. not_each n rs a b (giving f r x) j)
    ∙ Rattle.logic_terms.proofs.ComplementLemmas.some_below-not n (λ x. each_extension n rs (λ g. implies (a g) (b g)) (giving f r x))
