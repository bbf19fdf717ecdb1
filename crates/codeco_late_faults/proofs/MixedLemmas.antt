-- One variable in features of different values: each feature is compared with the first at which the variable stands.
use Rattle.std.proofs.Common.{◌≡◌, ℕ, zero, suc, ◌+◌, ◌<◌, ◌≤◌, Bool, true, false, not, ◌&&◌, ◌||◌, eqb, List, [], ◌∷◌, length, get_or, set, drop, replicate, refl, sym, ap, ◌∙◌, inl, inr, Option, Some, None, add-one, drop-cons, get_or-set_other}
use Rattle.std.specs.List.{list_any}
use Rattle.std.specs.Option.{option_map_or}
use Rattle.std.proofs.lemmas.List.{get_or-set_same}
use Rattle.std.proofs.lemmas.Bool.{cases_eq, eq-eqb, ne_eqb, eqb-true, not-false, or_left, and_right}
use Rattle.std.proofs.Math.Bool.{or-false as or_none, or_assoc}
use Rattle.wiki_base.proofs.BoolLaws.{or-turn as or_turn}
use Rattle.wiki_base.proofs.NumberLaws.{eqb_comm}
use Rattle.wiki_base.proofs.ListLaws.{drop_past}
use Rattle.codeco_terms.specs.declared.values.Term.{Term}
use Rattle.codeco_terms.specs.declared.values.Term.TheVariants.{Val, Var}
use Rattle.codeco_terms.specs.declared.values.Value.{Value}
use Rattle.codeco_terms.specs.GrammarParts.{GrammarParts}
use Rattle.codeco_checked.specs.Faults.{values_of, same_values, same_variable}
use Rattle.codeco_late_faults.specs.Tables.{class_in, is_mixed, has_mixed_variable}
use Rattle.codeco_late_faults.proofs.ClassLemmas.{class_same}

-- the term is a variable for which another class is known
abbrev pub clashes_with : ℕ → List (Option ℕ) → Term → Bool
clashes_with c m (Val v) = false
clashes_with c m (Var x) = option_map_or (λ k. not (eqb k c)) (get_or m x None) false

abbrev pub class_of : GrammarParts → ℕ → ℕ
class_of g f = class_in g.features (values_of g f)

abbrev pub clashes : GrammarParts → List (Option ℕ) → ℕ × Term → Bool
clashes g m f = clashes_with (class_of g f.0) m f.1

-- what is left decides: a variable for which another class is known, or one that is mixed in what is left
abbrev pub LeftDecides : GrammarParts → List (ℕ × Term) → ℕ → List (Option ℕ) → Bool → Type 0
LeftDecides g feats i m all = (list_any (clashes g m) (drop i feats) || has_mixed_variable g (drop i feats)) ≡ all

pub any_same : {X : Type 0} (p q : X → Bool) (xs : List X) → ((x : X) → p x ≡ q x) → list_any p xs ≡ list_any q xs
any_same p q [] h = refl
any_same p q (x ∷ xs) h = ap (λ b. b || list_any p xs) (h x) ∙ ap (λ b. q x || b) (any_same p q xs h)

any_or : {X : Type 0} (p q : X → Bool) (xs : List X) → list_any (λ x. p x || q x) xs ≡ (list_any p xs || list_any q xs)
any_or p q [] = refl
any_or p q (x ∷ xs) = ap (λ b. (p x || q x) || b) (any_or p q xs) ∙ or_turn (p x) (q x) (list_any p xs) (list_any q xs)

any_none : {X : Type 0} (p : X → Bool) (xs : List X) → ((x : X) → p x ≡ false) → list_any p xs ≡ false
any_none p [] h = refl
any_none p (x ∷ xs) h = ap (λ b. b || list_any p xs) (h x) ∙ any_none p xs h

or_self : (a : Bool) → (a || a) ≡ a
or_self true = refl
or_self false = refl

or_twice : (a b : Bool) → (a || (a || b)) ≡ (a || b)
or_twice true b = refl
or_twice false b = refl

variable_sym : (t u : Term) → same_variable t u ≡ same_variable u t
variable_sym (Val v) (Val w) = refl
variable_sym (Val v) (Var y) = refl
variable_sym (Var x) (Val w) = refl
variable_sym (Var x) (Var y) = ap (λ b. b || false) (eqb_comm x y)

mixed_class : (g : GrammarParts) (f h : ℕ × Term) → is_mixed g f h ≡ (same_variable f.1 h.1 && not (eqb (class_of g f.0) (class_of g h.0)))
mixed_class g f h = ap (λ b. same_variable f.1 h.1 && not b) (class_same g.features f.0 h.0)

mixed_sym : (g : GrammarParts) (f h : ℕ × Term) → is_mixed g f h ≡ is_mixed g h f
mixed_sym g f h =
    mixed_class g f h ∙ ap (λ b. b && not (eqb (class_of g f.0) (class_of g h.0))) (variable_sym f.1 h.1)
    ∙ ap (λ b. same_variable h.1 f.1 && not b) (eqb_comm (class_of g f.0) (class_of g h.0)) ∙ sym (mixed_class g h f)

mixed_self : (g : GrammarParts) (f : ℕ × Term) → is_mixed g f f ≡ false
mixed_self g f = mixed_class g f f ∙ and_right (same_variable f.1 f.1) (not (eqb (class_of g f.0) (class_of g f.0)))
    (ap not (eq-eqb (class_of g f.0) (class_of g f.0) refl))

-- a variable is mixed where it is in the first feature and a later one, or in two later ones
mixed_cons : (g : GrammarParts) (f : ℕ × Term) (rest : List (ℕ × Term))
    → has_mixed_variable g (f ∷ rest) ≡ (list_any (is_mixed g f) rest || has_mixed_variable g rest)
mixed_cons g f rest =
    ap (λ b. (b || list_any (is_mixed g f) rest) || list_any (λ h. is_mixed g h f || list_any (is_mixed g h) rest) rest) (mixed_self g f)
    ∙ ap (λ b. list_any (is_mixed g f) rest || b)
    (any_or (λ h. is_mixed g h f) (λ h. list_any (is_mixed g h) rest) rest
    ∙ ap (λ b. b || has_mixed_variable g rest) (any_same (λ h. is_mixed g h f) (is_mixed g f) rest (λ h. mixed_sym g h f)))
    ∙ or_twice (list_any (is_mixed g f) rest) (has_mixed_variable g rest)

known_class : (o : Option ℕ) (c d : ℕ) → option_map_or (λ k. not (eqb k c)) o false ≡ false
    → (option_map_or (λ k. not (eqb k d)) o false || not (eqb c d)) ≡ not (eqb c d)
known_class None c d h = refl
known_class (Some k) c d h =
    let same = eqb-true k c (not-false (eqb k c) h) in
    ap (λ n. not (eqb n d) || not (eqb c d)) same ∙ or_self (not (eqb c d))

-- once a class is known for the variable, it clashes with what clashed before and with what is mixed with this
clash_at : (c d x : ℕ) (m : List (Option ℕ)) (t : Term) → x < length m → option_map_or (λ k. not (eqb k c)) (get_or m x None) false ≡ false
    → clashes_with d (set m x (Some c)) t ≡ (clashes_with d m t || (same_variable (Var x) t && not (eqb c d)))
clash_at c d x m (Val v) lt h = refl
clash_at c d x m (Var y) lt h =
    elim (cases_eq y x) [
      | inl same ↦
          ap (λ n. option_map_or (λ k. not (eqb k d)) (get_or (set m x (Some c)) n None) false) same
          ∙ ap (λ o. option_map_or (λ k. not (eqb k d)) o false) (get_or-set_same m x (Some c) None lt)
          ∙ sym (known_class (get_or m x None) c d h)
          ∙ ap (λ n. option_map_or (λ k. not (eqb k d)) (get_or m n None) false || not (eqb c d)) (sym same)
          ∙ ap (λ b. option_map_or (λ k. not (eqb k d)) (get_or m y None) false || (b && not (eqb c d))) (sym (or_left (eqb x y) false (eq-eqb x y (sym same))))
      | inr other ↦
          ap (λ o. option_map_or (λ k. not (eqb k d)) o false) (get_or-set_other m x y (Some c) None other)
          ∙ sym (or_none (option_map_or (λ k. not (eqb k d)) (get_or m y None) false))
          ∙ ap (λ b. option_map_or (λ k. not (eqb k d)) (get_or m y None) false || ((b || false) && not (eqb c d))) (sym (ne_eqb x y (λ e. other (sym e))))
    ]

at_place : (feats : List (ℕ × Term)) (i : ℕ) (d : ℕ × Term) → i < length feats → drop i feats ≡ get_or feats i d ∷ drop (i + 1) feats
at_place feats i d lt = rw (add-one, drop-cons feats i d) refl

-- at a feature with a variable for which no other class is known
pub mixed_next : (g : GrammarParts) (feats : List (ℕ × Term)) (i : ℕ) (d : ℕ × Term) (x : ℕ) (m : List (Option ℕ)) (c : ℕ) (all : Bool) → i < length feats
    → (get_or feats i d).1 ≡ Var x → x < length m → c ≡ class_of g (get_or feats i d).0 → option_map_or (λ k. not (eqb k c)) (get_or m x None) false ≡ false
    → LeftDecides g feats i m all → LeftDecides g feats (i + 1) (set m x (Some c)) all
mixed_next g feats i d x m c all lt is room class none left =
    let f = get_or feats i d in
    let rest = drop (i + 1) feats in
    let old = list_any (clashes g m) rest in
    let with_f = list_any (is_mixed g f) rest in
    let here : clashes g m f ≡ false = ap (clashes_with (class_of g f.0) m) is
    ∙ ap (λ n. option_map_or (λ k. not (eqb k n)) (get_or m x None) false) (sym class) ∙ none in
    let each : (h : ℕ × Term) → clashes g (set m x (Some c)) h ≡ (clashes g m h || is_mixed g f h) = λ h.
    clash_at c (class_of g h.0) x m h.1 room none ∙ ap (λ t. clashes g m h || (same_variable t h.1 && not (eqb c (class_of g h.0)))) (sym is)
    ∙ ap (λ n. clashes g m h || (same_variable f.1 h.1 && not (eqb n (class_of g h.0)))) class ∙ ap (λ b. clashes g m h || b) (sym (mixed_class g f h)) in
    ap (λ b. b || has_mixed_variable g rest)
    (any_same (clashes g (set m x (Some c))) (λ h. clashes g m h || is_mixed g f h) rest each ∙ any_or (clashes g m) (is_mixed g f) rest)
    ∙ or_assoc old with_f (has_mixed_variable g rest)
    ∙ ap (λ b. old || b) (sym (mixed_cons g f rest))
    ∙ ap (λ b. (b || old) || has_mixed_variable g (f ∷ rest)) (sym here)
    ∙ ap (λ fs. list_any (clashes g m) fs || has_mixed_variable g fs) (sym (at_place feats i d lt))
    ∙ left

-- at a feature with a value
pub mixed_skip : (g : GrammarParts) (feats : List (ℕ × Term)) (i : ℕ) (d : ℕ × Term) (v : Value) (m : List (Option ℕ)) (all : Bool) → i < length feats
    → (get_or feats i d).1 ≡ Val v → LeftDecides g feats i m all → LeftDecides g feats (i + 1) m all
mixed_skip g feats i d v m all lt is left =
    let f = get_or feats i d in
    let rest = drop (i + 1) feats in
    let here : clashes g m f ≡ false = ap (clashes_with (class_of g f.0) m) is in
    let none : list_any (is_mixed g f) rest ≡ false =
    any_none (is_mixed g f) rest (λ h. ap (λ t. same_variable t h.1 && not (same_values (values_of g f.0) (values_of g h.0))) is) in
    ap (λ b. list_any (clashes g m) rest || (b || has_mixed_variable g rest)) (sym none)
    ∙ ap (λ b. list_any (clashes g m) rest || b) (sym (mixed_cons g f rest))
    ∙ ap (λ b. (b || list_any (clashes g m) rest) || has_mixed_variable g (f ∷ rest)) (sym here)
    ∙ ap (λ fs. list_any (clashes g m) fs || has_mixed_variable g fs) (sym (at_place feats i d lt))
    ∙ left

pub mixed_other : (g : GrammarParts) (feats : List (ℕ × Term)) (i : ℕ) (d : ℕ × Term) (m : List (Option ℕ)) (all : Bool) → i < length feats
    → ((x : ℕ) → (get_or feats i d).1 ≡ Var x → ⊥) → LeftDecides g feats i m all → LeftDecides g feats (i + 1) m all
mixed_other g feats i d m all lt none left = by_term (get_or feats i d).1 refl
  where
    by_term : (t : Term) → (get_or feats i d).1 ≡ t → LeftDecides g feats (i + 1) m all
    by_term (Val v) e = mixed_skip g feats i d v m all lt e left
    by_term (Var x) e = absurd (none x e)

-- at a feature with a variable for which another class is known
pub mixed_stop : (g : GrammarParts) (feats : List (ℕ × Term)) (i : ℕ) (d : ℕ × Term) (x : ℕ) (m : List (Option ℕ)) (c : ℕ) (all : Bool) → i < length feats
    → (get_or feats i d).1 ≡ Var x → c ≡ class_of g (get_or feats i d).0 → option_map_or (λ k. not (eqb k c)) (get_or m x None) false ≡ true
    → LeftDecides g feats i m all → true ≡ all
mixed_stop g feats i d x m c all lt is class clash left =
    let f = get_or feats i d in
    let rest = drop (i + 1) feats in
    let here : clashes g m f ≡ true = ap (clashes_with (class_of g f.0) m) is ∙ ap (λ n. option_map_or (λ k. not (eqb k n)) (get_or m x None) false) (sym class)
    ∙ clash in
    sym (ap (λ b. (b || list_any (clashes g m) rest) || has_mixed_variable g (f ∷ rest)) here)
    ∙ ap (λ fs. list_any (clashes g m) fs || has_mixed_variable g fs) (sym (at_place feats i d lt)) ∙ left

pub mixed_end : (g : GrammarParts) (feats : List (ℕ × Term)) (i : ℕ) (m : List (Option ℕ)) (all : Bool) → length feats ≤ i → LeftDecides g feats i m all
    → false ≡ all
mixed_end g feats i m all le left = ap (λ fs. list_any (clashes g m) fs || has_mixed_variable g fs) (sym (drop_past feats i le)) ∙ left

nothing_known : (n x : ℕ) → ◌≡◌ {A = Option ℕ} (get_or (replicate n None) x None) None
nothing_known zero x = refl
nothing_known (suc n) zero = refl
nothing_known (suc n) (suc x) = nothing_known n x

no_clash : (n c : ℕ) (t : Term) → clashes_with c (replicate n None) t ≡ false
no_clash n c (Val v) = refl
no_clash n c (Var x) = ap (λ o. option_map_or (λ k. not (eqb k c)) o false) (nothing_known n x)

pub mixed_begin : (g : GrammarParts) (feats : List (ℕ × Term)) (n : ℕ) → LeftDecides g feats 0 (replicate n None) (has_mixed_variable g feats)
mixed_begin g feats n = ap (λ b. b || has_mixed_variable g feats) (any_none (clashes g (replicate n None)) feats (λ f. no_clash n (class_of g f.0) f.1))
