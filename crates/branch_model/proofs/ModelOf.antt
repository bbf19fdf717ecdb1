-- What pictures a finished branch of lawful knowledge is a model of the knowledge.
use Rattle.std.proofs.Common.{◌≡◌, ℕ, suc, ◌+◌, ◌<◌, ◌≤◌, ◌==◌, ◌&&◌, ◌||◌, Bool, true, false, List, [], ◌∷◌, ◌++◌, length, get_or, Contains, Some, None, slice_get, refl, sym, ap, ◌∙◌, subst, inl, inr, arith}
use Rattle.std.specs.Prelude.{not, is_some}
use Rattle.std.specs.List.{list_any, list_all}
use Rattle.std.proofs.lemmas.Bool.{and_parts, and_from, or_cases, or_parts, or_left, or_right, not-true, lt-ltb}
use Rattle.std.proofs.lemmas.List.Elements.{Contains-get_or}
use Rattle.wiki_base.specs.declared.numbers.WordId.{WordId}
use Rattle.wiki_base.proofs.ListLaws.{all_at}
use Rattle.tableau_rules.proofs.Roots.{node_within}
use Rattle.logic_terms.proofs.SameLemmas.{same_role-self, same_concept-self}
use Rattle.tableau_rules.proofs.Labels.{each_has}
use Rattle.tableau_rules.proofs.Ancestors.{indirectly-none}
use Rattle.logic_terms.specs.declared.expressions.Role.{Role}
use Rattle.logic_terms.specs.Concept.{Concept, Atomic}
use Rattle.logic_terms.specs.Complement.{is_normal, is_wide}
use Rattle.logic_terms.specs.Plain.{is_plain, is_plain_theory}
use Rattle.logic_terms.specs.Interpretation.{Interpretation, is_word, element_of, elements_of, Relates}
use Rattle.logic_terms.specs.Reading.{IsIn}
use Rattle.logic_terms.specs.Same.{same_role, has_concept, inverse}
use Rattle.logic_terms.specs.Theory.{Theory, representative, is_below, is_given, names_given, IsLawful, IsModelOf}
use Rattle.tableau_rules.specs.declared.step.Step.{Step}
use Rattle.tableau_rules.specs.Graph.{Graph, label_at}
use Rattle.tableau_rules.specs.Neighbours.{roots, node_of}
use Rattle.tableau_rules.specs.Blocking.{is_anonymous, is_blocked, is_directly_blocked, is_indirectly_blocked, has_twin, ancestors, blocks}
use Rattle.tableau_rules.specs.Clashes.{passes, are_joined, has_clash}
use Rattle.tableau_rules.specs.Rules.{unfoldings_of, first_step}
use Rattle.tableau_rules.specs.Branches.{IsBranch, begun, stepped, is_finished}
use Rattle.branch_model.proofs.Paths.{related_up, related_on}
use Rattle.branch_model.proofs.Rest.{unfold_done, differ}
use Rattle.branch_model.proofs.Sound.{IsSound, fits, after_sound}
use Rattle.branch_model.proofs.Start.{root_of, given_node, same_node, entry_has, start_sound}
use Rattle.branch_model.proofs.Truth.{Pictures, truth}

-- the classes of lawful plain knowledge fit
fits_from : (k : Theory) (c : Concept) → is_plain c ≡ true → names_given k c ≡ true → fits k c ≡ true
fits_from k c p g = and_from (is_normal c) (names_given k c) (and_parts (is_normal c) (is_wide c) p).0 g

all_items : {X : Type 0} (test : X → Bool) (xs : List X) → ((j : ℕ) (d : X) → j < length xs → test (get_or xs j d) ≡ true) → list_all test xs ≡ true
all_items test [] h = refl
all_items test (x ∷ xs) h = and_from (test x) (list_all test xs) (h 0 x (omega arith)) (all_items test xs (λ j d lt. h (suc j) d (omega arith)))

module _ (k : Theory) (lawful : IsLawful k) (plain : is_plain_theory k ≡ true) where
  plain_parts : (list_all (λ e. is_plain e.1) k.assertions ≡ true) × ((list_all (λ e. is_plain e.1) k.unfoldings ≡ true) × (list_all is_plain k.general ≡ true))
  plain_parts =
      let one = and_parts (list_all (λ e. is_plain e.1) k.assertions) (list_all (λ e. is_plain e.1) k.unfoldings && list_all is_plain k.general) plain in
      (one.0, and_parts (list_all (λ e. is_plain e.1) k.unfoldings) (list_all is_plain k.general) one.1)

  fit_assertions : list_all (λ e. fits k e.1) k.assertions ≡ true
  fit_assertions = all_items (λ e. fits k e.1) k.assertions
      (λ j d lt. fits_from k (get_or k.assertions j d).1 (all_at (λ e. is_plain e.1) k.assertions j d plain_parts.0 lt)
      (and_parts (is_given k (get_or k.assertions j d).0) (names_given k (get_or k.assertions j d).1) (lawful.assertions j d lt)).1)

  fit_unfoldings : list_all (λ e. fits k e.1) k.unfoldings ≡ true
  fit_unfoldings = all_items (λ e. fits k e.1) k.unfoldings
      (λ j d lt. fits_from k (get_or k.unfoldings j d).1 (all_at (λ e. is_plain e.1) k.unfoldings j d plain_parts.1.0 lt) (lawful.unfoldings j d lt))

  fit_general : list_all (fits k) k.general ≡ true
  fit_general = all_items (fits k) k.general
      (λ j d lt. fits_from k (get_or k.general j d) (all_at is_plain k.general j d plain_parts.1.1 lt) (lawful.general j d lt))

  -- every branch is sound
  pub branch_sound : {g : Graph} → IsBranch k g → IsSound k g
  branch_sound begun = start_sound k fit_assertions fit_general
  branch_sound (stepped g s choice b applied below) = after_sound k g (branch_sound b) fit_unfoldings fit_general (node_within k) s choice

  module _ (g : Graph) (sound : IsSound k g) (finished : is_finished k g ≡ true) (i : Interpretation) (place : ℕ → ℕ) (pictures : Pictures k g i place) where
    none_of : (o : Rattle.std.proofs.Common.Option Step) → not (is_some o) ≡ true → o ≡ None
    none_of None h = refl
    none_of (Some s) h = cc

    ended : (has_clash k g ≡ false) × (first_step k g ≡ None)
    ended =
        let two = and_parts (not (has_clash k g)) (not (is_some (first_step k g))) finished in
        (not-true (has_clash k g) two.0, none_of (first_step k g) two.1)

    -- the node of a given name is there, and is not blocked
    named : (name : WordId) → is_given k name ≡ true → (y : ℕ) × (node_of k name ≡ Some y) × (y < length g.nodes) × (is_blocked k g y ≡ false)
    named name given =
        let node = given_node k lawful name given in
        let low = node_within k name node.0 node.1 in
        (node.0, node.1, sound.named node.0 low, open_root node.0 low)
      where
        open_root : (y : ℕ) → y < length (roots k) → is_blocked k g y ≡ false
        open_root y low =
            let not_anonymous : is_anonymous k y ≡ false = ap not (lt-ltb y (length (roots k)) low) in
            Rattle.std.proofs.lemmas.Bool.or_from (is_directly_blocked k g y) (is_indirectly_blocked k g y)
            (Rattle.std.proofs.lemmas.Bool.and_left (is_anonymous k y) (has_twin k g y (ancestors g y) && not (blocks k g (ancestors g y))) not_anonymous)
            (indirectly-none k g y (sound.rooted y low))

    true_at : (c : Concept) → fits k c ≡ true → (x : ℕ) → x < length g.nodes → is_blocked k g x ≡ false → has_concept (label_at g x) c ≡ true
        → IsIn i c (place x)
    true_at c fit x lt clear has =
        let two = and_parts (is_normal c) (names_given k c) fit in
        truth k lawful g i place pictures ended.1 ended.0 named c two.0 two.1 x lt clear has

    free_of : (x : ℕ) → is_blocked k g x ≡ false → is_indirectly_blocked k g x ≡ false
    free_of x clear = (or_parts (is_directly_blocked k g x) (is_indirectly_blocked k g x) clear).1

    pair_below : (j : ℕ) (d : Role × Role) → j < length k.hierarchy → is_below k (get_or k.hierarchy j d).0 (get_or k.hierarchy j d).1 ≡ true
    pair_below j d lt =
        or_right (same_role (get_or k.hierarchy j d).0 (get_or k.hierarchy j d).1)
        (list_any (λ p. same_role p.0 (get_or k.hierarchy j d).0 && same_role p.1 (get_or k.hierarchy j d).1) k.hierarchy)
        (Rattle.std.proofs.lemmas.List.Folds.list_any_at (λ p. same_role p.0 (get_or k.hierarchy j d).0 && same_role p.1 (get_or k.hierarchy j d).1) k.hierarchy
        j d lt
        (and_from (same_role (get_or k.hierarchy j d).0 (get_or k.hierarchy j d).0) (same_role (get_or k.hierarchy j d).1 (get_or k.hierarchy j d).1)
        (same_role-self (get_or k.hierarchy j d).0) (same_role-self (get_or k.hierarchy j d).1)))

    pub is_model : IsModelOf i k
    is_model = record {
      names = λ j d lt.
          let node = same_node k lawful j d lt in
          pictures.names (get_or k.names j d).0 node.0 node.1 ∙ sym (pictures.names (get_or k.names j d).1 node.0 node.2);
      hierarchy = λ j d lt e below f low related.
          pictures.relates (get_or k.hierarchy j d).1 e f
          (related_up k lawful g place (get_or k.hierarchy j d).0 (get_or k.hierarchy j d).1 (pair_below j d lt) e f
          (pictures.related (get_or k.hierarchy j d).0 e f related));
      transitive = λ j d lt x y z one other.
          let t : Role = record { id = get_or k.transitive j d; inverted = false } in
          pictures.relates t x z
          (related_on k lawful g place t (word_there k.transitive j d lt) x y z (pictures.related t x y one) (pictures.related t y z other));
      assertions = λ j d lt.
          let given = and_parts (is_given k (get_or k.assertions j d).0) (names_given k (get_or k.assertions j d).1) (lawful.assertions j d lt) in
          let node = named (get_or k.assertions j d).0 given.0 in
          subst (IsIn i (get_or k.assertions j d).1) (sym (pictures.names (get_or k.assertions j d).0 node.0 node.1))
          (true_at (get_or k.assertions j d).1 (all_at (λ e. fits k e.1) k.assertions j d fit_assertions lt) node.0 node.2 node.3
          (sound.asserted j d lt node.0 node.1));
      edges = λ j d lt.
          let given = and_parts (is_given k (get_or k.edges j d).1) (is_given k (get_or k.edges j d).2) (lawful.edges j d lt) in
          let one = named (get_or k.edges j d).1 given.0 in
          let other = named (get_or k.edges j d).2 given.1 in
          subst (λ a. Relates i (get_or k.edges j d).0 a (element_of i (get_or k.edges j d).2)) (sym (pictures.names (get_or k.edges j d).1 one.0 one.1))
          (subst (Relates i (get_or k.edges j d).0 (place one.0)) (sym (pictures.names (get_or k.edges j d).2 other.0 other.1))
          (pictures.relates (get_or k.edges j d).0 (place one.0) (place other.0)
          (inl (one.0, other.0, one.2, other.2, free_of one.0 one.3, free_of other.0 other.3, refl, refl, sound.stated j d lt one.0 other.0 one.1 other.1))));
      differences = λ j d lt same. apart j d lt same;
      unfoldings = λ j d lt e below inside.
          let z = pictures.reached e below in
          let has : has_concept (label_at g z.0) (Atomic (get_or k.unfoldings j d).0) ≡ true =
          pictures.classes (get_or k.unfoldings j d).0 z.0 z.1 (free_of z.0 z.2)
          (subst (Contains (elements_of i (get_or k.unfoldings j d).0)) (sym z.3) inside) in
          let all = unfold_done k g ended.1 z.0 z.1 (free_of z.0 z.2) (get_or k.unfoldings j d).0 has in
          let there = entry_has (λ u. is_word (get_or k.unfoldings j d).0 u.0) k.unfoldings j d lt
          (Rattle.std.proofs.lemmas.Bool.eq-eqb (get_or k.unfoldings j d).0.0 (get_or k.unfoldings j d).0.0 refl) in
          subst (IsIn i (get_or k.unfoldings j d).1) z.3
          (true_at (get_or k.unfoldings j d).1 (all_at (λ e. fits k e.1) k.unfoldings j d fit_unfoldings lt) z.0 z.1 z.2
          (each_has (has_concept (label_at g z.0)) (unfoldings_of k (get_or k.unfoldings j d).0) (get_or k.unfoldings j d).1 all there));
      general = λ j d lt e below inside.
          let z = pictures.reached e below in
          subst (IsIn i (get_or k.general j d)) z.3
          (true_at (get_or k.general j d) (all_at (fits k) k.general j d fit_general lt) z.0 z.1 z.2
          (sound.general z.0 (get_or k.general j d) z.1 (here k.general j d lt)));
    }
      where
        here : (cs : List Concept) (j : ℕ) (d : Concept) → j < length cs → has_concept cs (get_or cs j d) ≡ true
        here cs j d lt = Rattle.std.proofs.lemmas.List.Folds.list_any_at (λ c. Rattle.logic_terms.specs.Same.same_concept c (get_or cs j d)) cs j d lt
            (same_concept-self (get_or cs j d))

        word_there : (words : List WordId) (j : ℕ) (d : WordId) → j < length words → list_any (is_word (get_or words j d)) words ≡ true
        word_there words j d lt = Rattle.std.proofs.lemmas.List.Folds.list_any_at (is_word (get_or words j d)) words j d lt
            (Rattle.std.proofs.lemmas.Bool.eq-eqb (get_or words j d).0 (get_or words j d).0 refl)

        both : {b : Bool} → b ≡ true → b ≡ false → ⊥
        both t f = cc

        apart : (j : ℕ) (d : WordId × WordId) → j < length k.differences → element_of i (get_or k.differences j d).0 ≡ element_of i (get_or k.differences j d).1
            → ⊥
        apart j d lt same =
            let given = and_parts (is_given k (get_or k.differences j d).0) (is_given k (get_or k.differences j d).1) (lawful.differences j d lt) in
            let one = named (get_or k.differences j d).0 given.0 in
            let other = named (get_or k.differences j d).1 given.1 in
            let places : place one.0 ≡ place other.0 =
            sym (pictures.names (get_or k.differences j d).0 one.0 one.1) ∙ same ∙ pictures.names (get_or k.differences j d).1 other.0 other.1 in
            let node : one.0 ≡ other.0 = pictures.alone one.0 other.0 (get_or k.differences j d).1 one.2 (free_of one.0 one.3) other.1 places in
            let root = root_of k (get_or k.differences j d).0 one.0 one.1 in
            let root' = root_of k (get_or k.differences j d).1 other.0 other.1 in
            let is : Some root.0 ≡ Some root'.0 = sym root.2 ∙ ap (slice_get (roots k)) node ∙ root'.2 in
            let rep : root.0 ≡ root'.0 = cc in
            let yes : are_joined k (get_or k.differences j d).0 (get_or k.differences j d).1 ≡ true =
            ap (λ o. passes o (λ r. passes (representative k (get_or k.differences j d).1) (is_word r))) root.1
            ∙ ap (λ o. passes o (is_word root.0)) root'.1 ∙ ap (is_word root.0) (sym rep) ∙ Rattle.std.proofs.lemmas.Bool.eq-eqb root.0.0 root.0.0 refl in
            let differ' : are_joined k (get_or k.differences j d).0 (get_or k.differences j d).1 ≡ false =
            differ k g ended.0 (get_or k.differences j d) (Contains-get_or k.differences j d lt) in
            both yes differ'
