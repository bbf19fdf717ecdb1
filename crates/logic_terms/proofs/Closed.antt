-- The truth of a structure rests on its free referents alone.
use Rattle.std.proofs.Common.{◌≡◌, ℕ, ◌==◌, ◌&&◌, ◌||◌, Bool, true, false, List, [], ◌∷◌, ◌++◌, Option, Some, None, refl, sym, ap, ◌∙◌, inl, inr}
use Rattle.std.specs.Prelude.{not, if◌then◌else◌}
use Rattle.std.specs.Option.{option_or}
use Rattle.std.proofs.lemmas.Bool.{cases_eq, ne_eqb, or_right}
use Rattle.std.proofs.lemmas.List.Folds.{list_any-append}
use Rattle.logic_terms.specs.declared.structures.Thing.{Thing}
use Rattle.logic_terms.specs.declared.structures.Thing.TheVariants.{Ref, Name}
use Rattle.logic_terms.specs.Structure.{Condition, Conditions, Structure, IsA, AreRelated, AreSame, Negation, Implication, Disjunction, no_condition, also_condition, structure, referents_in}
use Rattle.logic_terms.specs.Interpretation.{Interpretation, has_element, has_pair}
use Rattle.logic_terms.specs.Meaning.{some_below, each_below, implies}
use Rattle.logic_terms.specs.Truth.{giving, some_extension, each_extension, thing_in, is_true, implies_test, all_true, condition_true}
use Rattle.logic_terms.specs.Free.{is_bound, free_thing, free_in, free_in_all, free_in_condition, IsClosed}
use Rattle.logic_terms.proofs.Extensions.{same_at, other_at}

-- two assignments give each bound referent one element
abbrev pub Agree : List ℕ → (ℕ → ℕ) → (ℕ → ℕ) → Type 0
Agree bound f g = (r : ℕ) → is_bound bound r ≡ true → f r ≡ g r

agree_more : (bound : List ℕ) (f g : ℕ → ℕ) (r x : ℕ) → Agree bound f g → Agree (r ∷ bound) (giving f r x) (giving g r x)
agree_more bound f g r x agree q h = elim (cases_eq r q) [
  | inl same ↦ same_at f r x q same ∙ sym (same_at g r x q same)
  | inr ne ↦ other_at f r x q ne ∙ agree q (sym (ap (λ b. b || is_bound bound q) (ne_eqb r q ne)) ∙ h) ∙ sym (other_at g r x q ne)
]

moved_in : (a b c : Bool) → (a || (b || c)) ≡ true → (b || (a || c)) ≡ true
moved_in true b c h = or_right b true refl
moved_in false b c h = h

-- where a referent stands among the bound ones says nothing
agree_moved : (r : ℕ) (rs bound : List ℕ) (f g : ℕ → ℕ) → Agree (rs ++ (r ∷ bound)) f g → Agree ((r ∷ rs) ++ bound) f g
agree_moved r rs bound f g agree q h =
    agree q
    (list_any-append (λ p. p == q) rs (r ∷ bound)
    ∙ moved_in (r == q) (is_bound rs q) (is_bound bound q)
    (sym (ap (λ b. (r == q) || b) (list_any-append (λ p. p == q) rs bound)) ∙ h))

some_agree : (n : ℕ) (rs : List ℕ) (test : (ℕ → ℕ) → Bool) (bound : List ℕ) → ((f g : ℕ → ℕ) → Agree (rs ++ bound) f g → test f ≡ test g) → (f g : ℕ → ℕ)
    → Agree bound f g → some_extension n rs test f ≡ some_extension n rs test g
some_agree n [] test bound keep f g agree = keep f g agree
some_agree n (r ∷ rs) test bound keep f g agree =
    ap (some_below n) (λ j x. some_agree n rs test (r ∷ bound) (λ f' g' a. keep f' g' (agree_moved r rs bound f' g' a)) (giving f r x) (giving g r x)
    (agree_more bound f g r x agree) j)

each_agree : (n : ℕ) (rs : List ℕ) (test : (ℕ → ℕ) → Bool) (bound : List ℕ) → ((f g : ℕ → ℕ) → Agree (rs ++ bound) f g → test f ≡ test g) → (f g : ℕ → ℕ)
    → Agree bound f g → each_extension n rs test f ≡ each_extension n rs test g
each_agree n [] test bound keep f g agree = keep f g agree
each_agree n (r ∷ rs) test bound keep f g agree =
    ap (each_below n) (λ j x. each_agree n rs test (r ∷ bound) (λ f' g' a. keep f' g' (agree_moved r rs bound f' g' a)) (giving f r x) (giving g r x)
    (agree_more bound f g r x agree) j)

-- what has no first free referent has none on either side
none_left : (a b : Option ℕ) → option_or a b ≡ None → a ≡ None
none_left None b h = refl
none_left (Some r) b h = cc

none_right : (a b : Option ℕ) → option_or a b ≡ None → b ≡ None
none_right None b h = h
none_right (Some r) b h = cc

bound_if : (b : Bool) (r : ℕ) → (if b then None else Some r) ≡ None → b ≡ true
bound_if true r h = refl
bound_if false r h = cc

thing_agree : (i : Interpretation) (t : Thing) (bound : List ℕ) (f g : ℕ → ℕ) → Agree bound f g → free_thing bound t ≡ None → thing_in i f t ≡ thing_in i g t
thing_agree i (Ref r) bound f g agree h = agree r (bound_if (is_bound bound r) r h)
thing_agree i (Name name) bound f g agree h = refl

mutual
  pub is_true-agree : (i : Interpretation) (k : Structure) (bound : List ℕ) (f g : ℕ → ℕ) → Agree bound f g → free_in bound k ≡ None
      → is_true i k f ≡ is_true i k g
  is_true-agree i (structure rs cs) bound f g agree none =
      some_agree i.size rs (λ h. all_true i cs h) bound (λ f' g' a. all_true-agree i cs (rs ++ bound) f' g' a none) f g agree

  -- the right side's truth is known to rest on its free referents
  pub implies_test-agree : (i : Interpretation) (k l : Structure)
      → ((bound : List ℕ) (f g : ℕ → ℕ) → Agree bound f g → free_in bound l ≡ None → is_true i l f ≡ is_true i l g) → (bound : List ℕ) (f g : ℕ → ℕ)
      → Agree bound f g → free_in bound k ≡ None → free_in (referents_in k ++ bound) l ≡ None
      → implies_test i k (is_true i l) f ≡ implies_test i k (is_true i l) g
  implies_test-agree i (structure rs cs) l right bound f g agree none_k none_l =
      each_agree i.size rs (λ h. implies (all_true i cs h) (is_true i l h)) bound
      (λ f' g' a. ap (λ b. implies b (is_true i l f')) (all_true-agree i cs (rs ++ bound) f' g' a none_k)
      ∙ ap (implies (all_true i cs g')) (right (rs ++ bound) f' g' a none_l)) f g agree

  pub all_true-agree : (i : Interpretation) (cs : Conditions) (bound : List ℕ) (f g : ℕ → ℕ) → Agree bound f g → free_in_all bound cs ≡ None
      → all_true i cs f ≡ all_true i cs g
  all_true-agree i no_condition bound f g agree none = refl
  all_true-agree i (also_condition c cs) bound f g agree none =
      ap (λ b. b && all_true i cs f) (condition_true-agree i c bound f g agree (none_left (free_in_condition bound c) (free_in_all bound cs) none))
      ∙ ap (λ b. condition_true i c g && b) (all_true-agree i cs bound f g agree (none_right (free_in_condition bound c) (free_in_all bound cs) none))

  pub condition_true-agree : (i : Interpretation) (c : Condition) (bound : List ℕ) (f g : ℕ → ℕ) → Agree bound f g → free_in_condition bound c ≡ None
      → condition_true i c f ≡ condition_true i c g
  condition_true-agree i (IsA noun thing) bound f g agree none =
      ap (has_element i noun) (thing_agree i thing bound f g agree none)
  condition_true-agree i (AreRelated word from to) bound f g agree none =
      ap (λ x. has_pair i word x (thing_in i f to)) (thing_agree i from bound f g agree (none_left (free_thing bound from) (free_thing bound to) none))
      ∙ ap (has_pair i word (thing_in i g from)) (thing_agree i to bound f g agree (none_right (free_thing bound from) (free_thing bound to) none))
  condition_true-agree i (AreSame one other) bound f g agree none =
      ap (λ x. x == thing_in i f other) (thing_agree i one bound f g agree (none_left (free_thing bound one) (free_thing bound other) none))
      ∙ ap (λ y. thing_in i g one == y) (thing_agree i other bound f g agree (none_right (free_thing bound one) (free_thing bound other) none))
  condition_true-agree i (Negation k) bound f g agree none = ap not (is_true-agree i k bound f g agree none)
  condition_true-agree i (Implication k l) bound f g agree none =
      implies_test-agree i k l (λ b f' g' a n. is_true-agree i l b f' g' a n) bound f g agree
      (none_left (free_in bound k) (free_in (referents_in k ++ bound) l) none)
      (none_right (free_in bound k) (free_in (referents_in k ++ bound) l) none)
  condition_true-agree i (Disjunction k l) bound f g agree none =
      ap (λ b. b || is_true i l f) (is_true-agree i k bound f g agree (none_left (free_in bound k) (free_in bound l) none))
      ∙ ap (λ b. is_true i k g || b) (is_true-agree i l bound f g agree (none_right (free_in bound k) (free_in bound l) none))

-- a structure with no free referent is true under every assignment or under none
pub is_true-closed : (i : Interpretation) (k : Structure) → IsClosed k → (f g : ℕ → ℕ) → is_true i k f ≡ is_true i k g
is_true-closed i k closed f g = is_true-agree i k [] f g (λ r h. cc) closed
