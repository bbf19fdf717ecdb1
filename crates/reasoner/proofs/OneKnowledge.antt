-- All that absorption may make of the same axioms and names counts alike: the same names, classes and transitive words.
use Rattle.std.proofs.Common.{◌≡◌, ℕ, zero, suc, ◌+◌, ◌*◌, ◌^◌, ◌<◌, ◌≤◌, ◌⊎◌, true, List, [], ◌∷◌, ◌++◌, map, length, All, Contains, refl, sym, ap, ◌∙◌, subst, inl, inr, arith}
use Rattle.std.specs.Prelude.{IsTrue, not, nat_lt}
use Rattle.std.specs.List.{list_any}
use Rattle.std.proofs.lemmas.Bool.{and_parts, ltb-true}
use Rattle.std.proofs.lemmas.List.{length-map}
use Rattle.wiki_base.specs.declared.numbers.WordId.{WordId}
use Rattle.logic_terms.specs.Concept.{Concept, Claim}
use Rattle.logic_terms.specs.Names.{names_above, names_rise}
use Rattle.logic_terms.specs.Theory.{Theory}
use Rattle.absorb.specs.Absorbed.{IsAbsorbed, Represents}
use Rattle.absorb.specs.Sorted.{sorted}
use Rattle.absorb.proofs.RepresentativeLemmas.{same_word}
use Rattle.tableau_rules.specs.Branches.{asserted, first_node, first_nodes, start}
use Rattle.tableau_rules.specs.Neighbours.{roots_in, roots}
use Rattle.tableau_rules.specs.Searching.{IsLonger}
use Rattle.tableau_bounds.specs.Enough.{all_occurrences, own_occurrences, class_count, enough_without_choices, enough_without_new_nodes}
use Rattle.tableau_bounds.specs.Fragments.{is_union, is_existential, is_without_unions, is_without_existentials}
use Rattle.tableau_bounds.proofs.Parts.{length-moved}
use Rattle.tableau_bounds.proofs.Straight.{longer_without_choices, longer_without_new_nodes}

-- names, each with its representative
module _ (equalities : List (WordId × WordId)) where
  same_representative : (name r s : WordId) → Represents equalities name r → Represents equalities name s → r ≡ s
  same_representative name r s one other =
      same_word r s (between r.0 s.0 (one.least s other.joined) (other.least r one.joined))
    where
      between : (a b : ℕ) → a ≤ b → b ≤ a → a ≡ b
      between a b le up = omega arith

  same_entries : (es fs : List (WordId × WordId)) → map (λ (e : WordId × WordId). e.0) es ≡ map (λ (e : WordId × WordId). e.0) fs
      → All (λ e. Represents equalities e.0 e.1) es → All (λ e. Represents equalities e.0 e.1) fs → es ≡ fs
  same_entries [] [] same one other = refl
  same_entries [] (f ∷ fs) same one other = cc
  same_entries (e ∷ es) [] same one other = cc
  same_entries (e ∷ es) (f ∷ fs) same one other =
      let name : e.0 ≡ f.0 = cc in
      let behind : map (λ (e : WordId × WordId). e.0) es ≡ map (λ (e : WordId × WordId). e.0) fs = cc in
      let representative : e.1 ≡ f.1 =
      same_representative f.0 e.1 f.1 (subst (λ n. Represents equalities n e.1) name (one zero e (omega arith))) (other zero f (omega arith)) in
      let rest : es ≡ fs = same_entries es fs behind (λ i d lt. one (suc i) d (omega arith)) (λ i d lt. other (suc i) d (omega arith)) in
      λ j. (name j, representative j) ∷ rest j

-- words that rise
here_or_later : (v : WordId) (vs : List WordId) (w : WordId) → Contains (v ∷ vs) w → (v ≡ w) ⊎ Contains vs w
here_or_later v vs w (zero, lt, at) = inl at
here_or_later v vs w (suc i, lt, at) = inr (i, omega arith, at)

none_there : (w : WordId) → Contains [] w → ⊥
none_there w (i, lt, at) = omega arith

first_there : (v : WordId) (vs : List WordId) → Contains (v ∷ vs) v
first_there v vs = (zero, omega arith, refl)

later_there : (v : WordId) (vs : List WordId) (w : WordId) → Contains vs w → Contains (v ∷ vs) w
later_there v vs w (i, lt, at) = (suc i, omega arith, at)

all_above : (v : WordId) (vs : List WordId) → names_above v vs ≡ true → (w : WordId) → Contains vs w → v.0 < w.0
all_above v [] up w there = absurd (none_there w there)
all_above v (u ∷ us) up w there =
    let parts = and_parts (nat_lt v.0 u.0) (names_above u us) up in
    let lt = ltb-true v.0 u.0 parts.0 in
    elim (here_or_later u us w there) [
      | inl here ↦ subst (λ z. v.0 < z.0) here lt
      | inr later ↦ through v.0 u.0 w.0 lt (all_above u us parts.1 w later)
    ]
  where
    through : (a b c : ℕ) → a < b → b < c → a < c
    through a b c lt up = omega arith

rise_behind : (v : WordId) (vs : List WordId) → names_above v vs ≡ true → names_rise vs ≡ true
rise_behind v [] up = refl
rise_behind v (u ∷ us) up = (and_parts (nat_lt v.0 u.0) (names_above u us) up).1

-- words that rise are at most as many as those that they are among
few_among : (vs ws : List WordId) → names_rise vs ≡ true → names_rise ws ≡ true → ((w : WordId) → Contains vs w → Contains ws w) → length vs ≤ length ws
few_among [] ws up rise among = omega arith
few_among (v ∷ vs) [] up rise among = absurd (none_there v (among v (first_there v vs)))
few_among (v ∷ vs) (w ∷ ws) up rise among = elim (here_or_later w ws v (among v (first_there v vs))) [
  | inl same ↦ both (length vs) (length ws) (few_among vs ws (rise_behind v vs up) (rise_behind w ws rise) (λ u there.
      elim (here_or_later w ws u (among u (later_there v vs u there))) [
        | inl first ↦ absurd (apart v.0 u.0 (all_above v vs up u there) (ap (λ z. z.0) (sym same ∙ first)))
        | inr later ↦ later
      ]))
  | inr past ↦ one_more (length (v ∷ vs)) (length ws) (few_among (v ∷ vs) ws up (rise_behind w ws rise) (λ u there.
      elim (here_or_later w ws u (among u there)) [
        | inl first ↦ absurd (low w.0 v.0 u.0 (all_above w ws rise v past) (least v vs up u there) (ap (λ z. z.0) first))
        | inr later ↦ later
      ]))
]
  where
    both : (a b : ℕ) → a ≤ b → suc a ≤ suc b
    both a b le = omega arith

    one_more : (a b : ℕ) → a ≤ b → a ≤ suc b
    one_more a b le = omega arith

    apart : (a b : ℕ) → a < b → a ≡ b → ⊥
    apart a b lt same = omega arith

    low : (a b c : ℕ) → a < b → b ≤ c → a ≡ c → ⊥
    low a b c lt le same = omega arith

    least : (x : WordId) (xs : List WordId) → names_above x xs ≡ true → (u : WordId) → Contains (x ∷ xs) u → x.0 ≤ u.0
    least x xs rises u there = elim (here_or_later x xs u there) [
      | inl first ↦ same_le x.0 u.0 (ap (λ z. z.0) first)
      | inr later ↦ lt_le x.0 u.0 (all_above x xs rises u later)
    ]
      where
        same_le : (a b : ℕ) → a ≡ b → a ≤ b
        same_le a b e = omega arith

        lt_le : (a b : ℕ) → a < b → a ≤ b
        lt_le a b lt = omega arith

same_count : (vs ws : List WordId) → names_rise vs ≡ true → names_rise ws ≡ true → ((w : WordId) → Contains vs w → Contains ws w)
    → ((w : WordId) → Contains ws w → Contains vs w) → length vs ≡ length ws
same_count vs ws up rise one other = between (length vs) (length ws) (few_among vs ws up rise one) (few_among ws vs rise up other)
  where
    between : (a b : ℕ) → a ≤ b → b ≤ a → a ≡ b
    between a b le up = omega arith

-- as many first nodes as roots, or one
first_count : (k : Theory) (l : Theory) (rs : List WordId) → length (first_nodes k rs) ≡ length (first_nodes l rs)
first_count k l [] = refl
first_count k l (r ∷ rs) = length-map (r ∷ rs) (λ q. first_node k (asserted k q)) ∙ sym (length-map (r ∷ rs) (λ q. first_node l (asserted l q)))

module _ (claims : List Claim) (names : List WordId) (k l : Theory) (one : IsAbsorbed claims names k) (other : IsAbsorbed claims names l) where
  same_occurrences : own_occurrences k ≡ own_occurrences l
  same_occurrences = λ j. all_occurrences (map (λ (e : WordId × Concept). e.1) ((one.assertions ∙ sym other.assertions) j)
      ++ (map (λ (e : WordId × Concept). e.1) ((one.unfoldings ∙ sym other.unfoldings) j) ++ (one.general ∙ sym other.general) j))

  same_words : length k.transitive ≡ length l.transitive
  same_words = same_count k.transitive l.transitive one.rising other.rising (λ w h. (other.transitive w).1 ((one.transitive w).0 h))
      (λ w h. (one.transitive w).1 ((other.transitive w).0 h))

  same_classes : class_count k ≡ class_count l
  same_classes =
      length-moved (own_occurrences k) k.transitive
      ∙ ((λ j. length (same_occurrences j) * (1 + 2 * same_words j)) ∙ sym (length-moved (own_occurrences l) l.transitive))

  same_first : length (start k).nodes ≡ length (start l).nodes
  same_first =
      first_count k l (roots k)
      ∙ ap (λ es. length (first_nodes l (roots_in es)))
      (same_entries (sorted claims).equalities k.names l.names (one.given ∙ sym other.given) one.representatives other.representatives)

module _ (claims : List Claim) (names : List WordId) (k : Theory) (absorbed : IsAbsorbed claims names k) (budget : ℕ) (longer : IsLonger k budget) where
  pub below_without_choices : (l : Theory) → IsAbsorbed claims names l → IsTrue (is_without_unions l) → budget < enough_without_choices l
  below_without_choices l made unions =
      let first = same_first claims names k l absorbed made in
      let classes = same_classes claims names k l absorbed made in
      let unions_too : IsTrue (is_without_unions k) =
      ap (λ cs. not (list_any is_union cs)) (same_occurrences claims names k l absorbed made) ∙ unions in
      let same : enough_without_choices k ≡ enough_without_choices l =
      λ j. (first j * (classes j + 1) ^ (2 ^ classes j + 1)) * (2 * classes j + 1) in
      subst (λ n. budget < n) same (longer_without_choices k unions_too budget longer)

  pub below_without_new_nodes : (l : Theory) → IsAbsorbed claims names l → IsTrue (is_without_unions l) → IsTrue (is_without_existentials l)
      → budget < enough_without_new_nodes l
  below_without_new_nodes l made unions existentials =
      let first = same_first claims names k l absorbed made in
      let classes = same_classes claims names k l absorbed made in
      let occurrences = same_occurrences claims names k l absorbed made in
      let unions_too : IsTrue (is_without_unions k) = ap (λ cs. not (list_any is_union cs)) occurrences ∙ unions in
      let existentials_too : IsTrue (is_without_existentials k) = ap (λ cs. not (list_any is_existential cs)) occurrences ∙ existentials in
      let same : enough_without_new_nodes k ≡ enough_without_new_nodes l = λ j. first j * (2 * classes j + 1) in
      subst (λ n. budget < n) same (longer_without_new_nodes k unions_too existentials_too budget longer)
