-- The interpretation that is made of a finished branch is a model of its knowledge.
use Rattle.std.proofs.Common.{◌≡◌, ℕ, ◌+◌, ◌<◌, ◌≤◌, ◌&&◌, true, false, List, [], ◌∷◌, length, Contains, Option, Some, None, unwrap_or, refl, sym, ap, ◌∙◌, subst, inl, inr, arith}
use Rattle.std.specs.Prelude.{◌↔◌, nat_lt, IsPermutation, Result, Ok, Err, IfOk}
use Rattle.std.specs.List.{list_all}
use Rattle.std.specs.Map.{lookup}
use Rattle.std.specs.Option.{option_map_or, option_and_then}
use Rattle.std.specs.Ordering.{nat_cmp}
use Rattle.std.specs.declared.cmp.Ordering.{Ordering}
use Rattle.std.proofs.lemmas.Bool.{cases_Bool, and_from, cond-true, cond-false, lt-ltb}
use Rattle.std.proofs.lemmas.List.Sorted.{Contains-permutation, IsPermutation-refl, IsPermutation-sym}
use Rattle.wiki_base.specs.declared.numbers.WordId.{WordId}
use Rattle.tableau_rules.proofs.Ancestors.{indirectly-none}
use Rattle.logic_terms.specs.Interpretation.{Interpretation, is_interpretation, is_word, words_above, words_rise, elements_of, pairs_of}
use Rattle.logic_terms.specs.Plain.{is_plain_theory}
use Rattle.logic_terms.specs.Theory.{Theory, representative, IsLawful, IsModelOf}
use Rattle.owl_eval.specs.Given.{AreArranged}
use Rattle.owl_eval.specs.Pairs.{pair_cmp}
use Rattle.owl_eval.proofs.Arranged.{is_interpretation-arranged}
use Rattle.tableau_rules.specs.Graph.{Graph}
use Rattle.tableau_rules.specs.Neighbours.{node_of, place_in, roots}
use Rattle.tableau_rules.specs.Branches.{IsBranch, is_finished}
use Rattle.branch_model.specs.Elements.{ArePlaced}
use Rattle.branch_model.specs.Extents.{extents, links, stand_of}
use Rattle.branch_model.specs.Related.{Closes}
use Rattle.branch_model.specs.Named.{element_named, named_elements}
use Rattle.branch_model.proofs.EntriesLemmas.{items_of}
use Rattle.branch_model.proofs.ExtentsLemmas.{adds_extents, adds_links, all_extents, fit_links}
use Rattle.branch_model.proofs.Pictured.{place_of, pictures, stands_within}
use Rattle.branch_model.proofs.Sound.{IsSound}
use Rattle.branch_model.proofs.ModelOf.{branch_sound, is_model}

-- arranged lists have the same items
arranged_items : {X : Type 0} (cmp : X → X → Ordering) (v : WordId) (es fs : List (WordId × List X)) → AreArranged cmp es fs
    → IsPermutation (items_of v es) (items_of v fs)
arranged_items cmp v [] [] h = IsPermutation-refl []
arranged_items cmp v [] (f ∷ fs) h = absurd h
arranged_items cmp v (e ∷ es) [] h = absurd h
arranged_items {X} cmp v (e ∷ es) (f ∷ fs) h = elim (cases_Bool (is_word v e.0)) [
  | inl here ↦ (let there : is_word v f.0 ≡ true = sym (ap (is_word v) h.0.word) ∙ here in
      subst (λ xs. IsPermutation xs (items_of v (f ∷ fs))) (sym (ap (λ o. unwrap_or o []) (cond-true (is_word v e.0) (Some e.1) (lookup (is_word v) es) here)))
      (subst (λ ys. IsPermutation e.1 ys) (sym (ap (λ o. unwrap_or o []) (cond-true (is_word v f.0) (Some f.1) (lookup (is_word v) fs) there))) h.0.same))
  | inr past ↦ (let there : is_word v f.0 ≡ false = sym (ap (is_word v) h.0.word) ∙ past in
      subst (λ xs. IsPermutation xs (items_of v (f ∷ fs))) (sym (ap (λ o. unwrap_or o []) (cond-false (is_word v e.0) (Some e.1) (lookup (is_word v) es) past)))
      (subst (λ ys. IsPermutation (items_of v es) ys) (sym (ap (λ o. unwrap_or o []) (cond-false (is_word v f.0) (Some f.1) (lookup (is_word v) fs) there)))
      (arranged_items cmp v es fs h.1)))
]

both_have : {X : Type 0} (xs ys : List X) (x : X) → IsPermutation xs ys → Contains ys x ↔ Contains xs x
both_have xs ys x p = (λ h. Contains-permutation ys xs x (IsPermutation-sym xs ys p) h, λ h. Contains-permutation xs ys x p h)

-- the elements of names
named_lookup : (k : Theory) (stands : List (Option ℕ)) (es : List (WordId × WordId)) (name r : WordId) → lookup (is_word name) es ≡ Some r
    → lookup (is_word name) (named_elements k stands es) ≡ Some (element_named k stands name)
named_lookup k stands [] name r h = cc
named_lookup k stands (e ∷ es) name r h = elim (cases_Bool (is_word name e.0)) [
  | inl here ↦ cond-true (is_word name e.0) (Some (element_named k stands e.0)) (lookup (is_word name) (named_elements k stands es)) here
      ∙ ap (λ n. Some (element_named k stands n)) (sym (same name e.0 here))
  | inr past ↦ cond-false (is_word name e.0) (Some (element_named k stands e.0)) (lookup (is_word name) (named_elements k stands es)) past
      ∙ named_lookup k stands es name r (sym (cond-false (is_word name e.0) (Some e.1) (lookup (is_word name) es) past) ∙ h)
]
  where
    same : (a b : WordId) → is_word a b ≡ true → a ≡ b
    same a b t = λ j. record { 0 = Rattle.std.proofs.lemmas.Bool.eqb-true a.0 b.0 t j }

node_element : (k : Theory) (stands : List (Option ℕ)) (name : WordId) (y : ℕ) → node_of k name ≡ Some y
    → unwrap_or (lookup (is_word name) (named_elements k stands k.names)) 0 ≡ place_of stands y
node_element k stands name y at = by (representative k name) refl
  where
    by : (o : Option WordId) → representative k name ≡ o → unwrap_or (lookup (is_word name) (named_elements k stands k.names)) 0 ≡ place_of stands y
    by None rep = let none : node_of k name ≡ None = ap (option_and_then (place_in (roots k))) rep in absurd (gone (sym none ∙ at))
      where
        gone : None ≡ Some y → ⊥
        gone h = cc
    by (Some r) rep =
        ap (λ o. unwrap_or o 0) (named_lookup k stands k.names name r rep)
        ∙ ap (λ o. option_map_or (λ x. unwrap_or (stand_of stands x) 0) o 0) at

named_above : (k : Theory) (stands : List (Option ℕ)) (w : WordId) (es : List (WordId × WordId)) → words_above w (named_elements k stands es) ≡ words_above w es
named_above k stands w [] = refl
named_above k stands w (e ∷ es) = ap (λ b. nat_lt w.0 e.0.0 && b) (named_above k stands e.0 es)

named_rise : (k : Theory) (stands : List (Option ℕ)) (es : List (WordId × WordId)) → words_rise (named_elements k stands es) ≡ words_rise es
named_rise k stands [] = refl
named_rise k stands (e ∷ es) = named_above k stands e.0 es

module _ (k : Theory) (lawful : IsLawful k) (plain : is_plain_theory k ≡ true) (g : Graph) (branch : IsBranch k g) (owners : List ℕ) (stands : List (Option ℕ))
    (placed : ArePlaced k g (length g.nodes) owners stands) where
  sound : IsSound k g
  sound = branch_sound k lawful plain branch

  some_owner : 0 < length owners
  some_owner =
      let s = placed.shown 0 sound.some (indirectly-none k g 0 sound.first) in
      let lt = Rattle.std.proofs.lemmas.Option.slice_get_within owners s.0 s.1 s.3 in omega arith

  named_below : (names : List (WordId × WordId)) → list_all (λ e. nat_lt e.1 (length owners)) (named_elements k stands names) ≡ true
  named_below [] = refl
  named_below (e ∷ names) = and_from (nat_lt (element_named k stands e.0) (length owners))
      (list_all (λ e. nat_lt e.1 (length owners)) (named_elements k stands names)) (lt-ltb (element_named k stands e.0) (length owners) (by (node_of k e.0)))
      (named_below names)
    where
      inner : (o : Option ℕ) (x : ℕ) → stand_of stands x ≡ o → unwrap_or o 0 < length owners
      inner None x at = some_owner
      inner (Some a) x at = stands_within k lawful g sound owners stands placed x a at

      by : (o : Option ℕ) → option_map_or (λ x. unwrap_or (stand_of stands x) 0) o 0 < length owners
      by None = some_owner
      by (Some x) = inner (stand_of stands x) x refl

  -- what the lists make is an interpretation
  pub fits_all : (rs : List (WordId × List (ℕ × ℕ))) → Closes k (links k stands g.edges []) rs → is_interpretation (record {
    size = length owners;
    names = named_elements k stands k.names;
    classes = extents g 0 owners [];
    relations = rs;
  }) ≡ true
  fits_all rs closes =
      and_from (nat_lt 0 (length owners) && words_rise (named_elements k stands k.names) && words_rise (extents g 0 owners [])
      && words_rise rs && list_all (λ e. nat_lt e.1 (length owners)) (named_elements k stands k.names)
      && list_all (λ e. list_all (λ x. nat_lt x (length owners)) e.1) (extents g 0 owners []))
      (list_all (λ e. list_all (λ p. nat_lt p.0 (length owners) && nat_lt p.1 (length owners)) e.1) rs)
      (and_from (nat_lt 0 (length owners) && words_rise (named_elements k stands k.names) && words_rise (extents g 0 owners [])
      && words_rise rs && list_all (λ e. nat_lt e.1 (length owners)) (named_elements k stands k.names))
      (list_all (λ e. list_all (λ x. nat_lt x (length owners)) e.1) (extents g 0 owners []))
      (and_from (nat_lt 0 (length owners) && words_rise (named_elements k stands k.names) && words_rise (extents g 0 owners [])
      && words_rise rs)
      (list_all (λ e. nat_lt e.1 (length owners)) (named_elements k stands k.names))
      (and_from (nat_lt 0 (length owners) && words_rise (named_elements k stands k.names) && words_rise (extents g 0 owners []))
      (words_rise rs)
      (and_from (nat_lt 0 (length owners) && words_rise (named_elements k stands k.names)) (words_rise (extents g 0 owners []))
      (and_from (nat_lt 0 (length owners)) (words_rise (named_elements k stands k.names)) (lt-ltb 0 (length owners) some_owner)
      (named_rise k stands k.names ∙ lawful.rising))
      (adds_extents g 0 owners [] refl).rises) closes.rises)
      (named_below k.names))
      (all_extents (length owners) g 0 owners [] (zero_plus (length owners)) refl))
      (closes.within (length owners) (fit_links (length owners) k stands (stands_within k lawful g sound owners stands placed) g.edges [] refl))
    where
      zero_plus : (n : ℕ) → 0 + n ≤ n
      zero_plus n = omega arith

  -- and so is what puts them in order, a model of the knowledge
  module _ (finished : is_finished k g ≡ true) (i : Interpretation) (size : i.size ≡ length owners) (names : i.names ≡ named_elements k stands k.names)
      (classes : AreArranged nat_cmp (extents g 0 owners []) i.classes) (rs : List (WordId × List (ℕ × ℕ)))
      (closes : Closes k (links k stands g.edges []) rs) (relations : AreArranged pair_cmp rs i.relations) where
    pub made_model : IsModelOf i k
    made_model =
        is_model k lawful plain g sound finished i (place_of stands)
        (pictures k lawful g sound owners stands placed i size (extents g 0 owners []) (adds_extents g 0 owners [] refl) (links k stands g.edges [])
        (adds_links k stands g.edges [] refl)
        (λ v x. both_have (items_of v (extents g 0 owners [])) (elements_of i v) x (arranged_items nat_cmp v (extents g 0 owners []) i.classes classes))
        (λ v p. let same = both_have (items_of v rs) (pairs_of i v) p (arranged_items pair_cmp v rs i.relations relations) in
        (λ h. (closes.pairs v p).0 (same.0 h), λ h. same.1 ((closes.pairs v p).1 h)))
        (λ name y at. ap (λ es. unwrap_or (lookup (is_word name) es) 0) names ∙ node_element k stands name y at))

    pub made_sound : is_interpretation i ≡ true
    made_sound =
        (λ j. is_interpretation (record { size = size j; names = names j; classes = i.classes; relations = i.relations }))
        ∙ sym (is_interpretation-arranged (length owners) (named_elements k stands k.names) (extents g 0 owners []) i.classes rs
        i.relations classes relations)
        ∙ fits_all rs closes

  -- lists that are these make an interpretation, and `Interp::new` a model
  module _ (size : ℕ) (names : List (WordId × ℕ)) (cs : List (WordId × List ℕ)) (rs : List (WordId × List (ℕ × ℕ))) (size_is : size ≡ length owners)
      (names_are : names ≡ named_elements k stands k.names) (classes_are : cs ≡ extents g 0 owners []) (closes : Closes k (links k stands g.edges []) rs) where
    pub lists_fit : is_interpretation (record { size = size; names = names; classes = cs; relations = rs }) ≡ true
    lists_fit = (λ j. is_interpretation (record { size = size_is j; names = names_are j; classes = classes_are j; relations = rs })) ∙ fits_all rs closes

    pub lists_model : {E : Type 0} (made : Result Interpretation E) → is_finished k g ≡ true → IfOk made (λ i. i.size ≡ size) → IfOk made (λ i. i.names ≡ names)
        → IfOk made (λ i. AreArranged nat_cmp cs i.classes) → IfOk made (λ i. AreArranged pair_cmp rs i.relations) → IfOk made (λ i. IsModelOf i k)
    lists_model (Ok i) finished size_of names_of classes_of relations_of =
        made_model finished i (size_of ∙ size_is) (names_of ∙ names_are) (subst (λ es. AreArranged nat_cmp es i.classes) classes_are classes_of) rs closes
        relations_of
    lists_model (Err e) finished size_of names_of classes_of relations_of = tt
