-- What transitive roles carry along holds where it comes.
use Rattle.std.proofs.Common.{◌≡◌, ℕ, ◌<◌, ◌&&◌, Bool, true, false, List, [], ◌∷◌, map, filter, cond, Some, Contains, MatchBool, subst, refl, sym, ◌∙◌}
use Rattle.std.specs.Prelude.{not}
use Rattle.std.specs.List.{list_all, flat_map}
use Rattle.std.proofs.lemmas.Bool.{and_from}
use Rattle.std.proofs.lemmas.List.Folds.{list_all-map}
use Rattle.wiki_base.specs.declared.numbers.WordId.{WordId}
use Rattle.wiki_base.proofs.BoolLaws.{and_first, and_second}
use Rattle.wiki_base.proofs.ListLaws.{all_weaken, flat_all}
use Rattle.logic_terms.specs.declared.expressions.Role.{Role}
use Rattle.logic_terms.specs.Concept.{Concept, ComplementOf, AllValuesFrom, HasValue, SubPropertyOf, TransitiveProperty}
use Rattle.logic_terms.specs.Interpretation.{Interpretation, element_of, pairs_of, relates}
use Rattle.logic_terms.specs.Meaning.{is_in, implies, holds}
use Rattle.logic_terms.specs.Reading.{Holds}
use Rattle.logic_terms.specs.Theory.{Theory, is_below}
use Rattle.logic_terms.proofs.MeaningLemmas.{each_below-Decides, relates-Decides, holds-Decides}
use Rattle.tableau_rules.specs.Carrying.{role_of_all, along, both_ways}
use Rattle.closure_check.proofs.Basics.{implied, not_both, each_at}
use Rattle.closure_check.proofs.Fitting.{sub_role}

implies_from : (a b : Bool) → (a ≡ true → b ≡ true) → implies a b ≡ true
implies_from true b h = h refl
implies_from false b h = refl

not_from : (a : Bool) → (a ≡ true → ⊥) → not a ≡ true
not_from true h = absurd (h refl)
not_from false h = refl

-- a role of a transitive word leads on
leads_on : (i : Interpretation) (t : Role) → holds i (TransitiveProperty t.id) ≡ true → (a b c : ℕ) → relates i t a b ≡ true → relates i t b c ≡ true
    → relates i t a c ≡ true
leads_on i t h a b c one other =
    (relates-Decides i t a c).1
    (go t.inverted ((holds-Decides i (TransitiveProperty t.id)).0 h) ((relates-Decides i t a b).0 one) ((relates-Decides i t b c).0 other))
  where
    go : (v : Bool) → Holds i (TransitiveProperty t.id) → MatchBool v (Contains (pairs_of i t.id) (b, a)) (Contains (pairs_of i t.id) (a, b))
        → MatchBool v (Contains (pairs_of i t.id) (c, b)) (Contains (pairs_of i t.id) (b, c))
        → MatchBool v (Contains (pairs_of i t.id) (c, a)) (Contains (pairs_of i t.id) (a, c))
    go true leads one other = leads c b a other one
    go false leads one other = leads a b c one other

-- those that are kept pass, where each that is kept does
all_filtered : {X : Type 0} (test keep : X → Bool) (xs : List X) → list_all (λ x. implies (keep x) (test x)) xs ≡ true → list_all test (filter keep xs) ≡ true
all_filtered test keep [] h = refl
all_filtered test keep (x ∷ xs) h =
    go (keep x) (all_filtered test keep xs (and_second (implies (keep x) (test x)) (list_all (λ y. implies (keep y) (test y)) xs) h))
    (and_first (implies (keep x) (test x)) (list_all (λ y. implies (keep y) (test y)) xs) h)
  where
    go : (b : Bool) → list_all test (filter keep xs) ≡ true → implies b (test x) ≡ true → list_all test (cond b (x ∷ filter keep xs) (filter keep xs)) ≡ true
    go true rest here = and_from (test x) (list_all test (filter keep xs)) here rest
    go false rest here = rest

module _ (i : Interpretation) (k : Theory) (hierarchy : list_all (λ p. holds i (SubPropertyOf p.0 p.1)) k.hierarchy ≡ true)
    (named : (name : WordId) → element_of i name < i.size) where
  -- what is said of all successors by a role holds of those by a transitive role below it, at each of these
  along_in : (d : Concept) (role t : Role) → role_of_all d ≡ Some role → holds i (TransitiveProperty t.id) ≡ true → is_below k t role ≡ true → (a b : ℕ)
      → a < i.size → is_in i d a ≡ true → relates i t a b ≡ true → is_in i (along t d) b ≡ true
  along_in (AllValuesFrom s e) role t is leads below a b la inside near =
      let same : s ≡ role = cc in
      (each_below-Decides i.size (λ z. implies (relates i t b z) (is_in i e z)) (λ z. implies (relates i t b z) (is_in i e z) ≡ true) (λ z. (λ h. h, λ h. h))).1
      (λ z lz. implies_from (relates i t b z) (is_in i e z) (λ far.
      implied (relates i s a z) (is_in i e z) (each_at i.size (λ y. implies (relates i s a y) (is_in i e y)) z inside lz)
      (sub_role i k hierarchy t s a z la lz (subst (λ r. is_below k t r ≡ true) (sym same) below) (leads_on i t leads a b z near far))))
  along_in (ComplementOf (HasValue s name)) role t is leads below a b la inside near =
      let same : s ≡ role = cc in
      not_from (relates i t b (element_of i name)) (λ far.
      not_both (relates i s a (element_of i name))
      (sub_role i k hierarchy t s a (element_of i name) la (named name) (subst (λ r. is_below k t r ≡ true) (sym same) below)
      (leads_on i t leads a b (element_of i name) near far))
      inside)
  along_in _ role t is leads below a b la inside near = cc

  -- all that is carried by the roles below, of those that relate two elements
  pub carried_in : (d : Concept) (role : Role) → role_of_all d ≡ Some role → (a b : ℕ) → a < i.size → is_in i d a ≡ true → (near : Role → Bool)
      → ((t : Role) → near t ≡ true → relates i t a b ≡ true) → (words : List WordId) → list_all (λ w. holds i (TransitiveProperty w)) words ≡ true
      → list_all (λ e. is_in i e b) (map (λ t. along t d) (filter near (filter (λ t. is_below k t role) (flat_map both_ways words)))) ≡ true
  carried_in d role is a b la inside near pair words leads =
      list_all-map (λ e. is_in i e b) (λ t. along t d) (filter near (filter (λ t. is_below k t role) (flat_map both_ways words)))
      ∙ all_filtered (λ t. is_in i (along t d) b) near (filter (λ t. is_below k t role) (flat_map both_ways words))
      (all_filtered (λ t. implies (near t) (is_in i (along t d) b)) (λ t. is_below k t role) (flat_map both_ways words)
      (flat_all one both_ways words (all_weaken (λ w. holds i (TransitiveProperty w)) (λ w. list_all one (both_ways w)) both words leads)))
    where
      one : Role → Bool
      one t = implies (is_below k t role) (implies (near t) (is_in i (along t d) b))

      passed : (t : Role) → holds i (TransitiveProperty t.id) ≡ true → one t ≡ true
      passed t h =
          implies_from (is_below k t role) (implies (near t) (is_in i (along t d) b)) (λ below.
          implies_from (near t) (is_in i (along t d) b) (λ is_near. along_in d role t is h below a b la inside (pair t is_near)))

      both : (w : WordId) → holds i (TransitiveProperty w) ≡ true → list_all one (both_ways w) ≡ true
      both w h =
          let plain : Role = record { id = w; inverted = false } in
          let turned : Role = record { id = w; inverted = true } in
          and_from (one plain) (one turned && true) (passed plain h) (and_from (one turned) true (passed turned h) refl)
