-- One more node gets its element.
use Rattle.std.proofs.Common.{◌≡◌, ℕ, ◌+◌, ◌<◌, Bool, true, false, List, [], ◌∷◌, ◌++◌, length, Option, Some, None, slice_get, refl, sym, ap, ◌∙◌, subst, inl, inr, arith, length-append}
use Rattle.std.specs.Prelude.{◌⊎◌}
use Rattle.std.proofs.lemmas.Bool.{cases_eq, cases_lt, or_from}
use Rattle.std.proofs.lemmas.Option.{slice_get_within}
use Rattle.tableau_rules.proofs.Labels.{get_push_old, get_push_new}
use Rattle.logic_terms.specs.Theory.{Theory}
use Rattle.tableau_rules.specs.Graph.{Graph}
use Rattle.tableau_rules.specs.Blocking.{is_blocked, is_directly_blocked, is_indirectly_blocked}
use Rattle.branch_model.specs.Elements.{IsTwin, StandsFor, ArePlaced}
use Rattle.branch_model.proofs.Climb.{directly_parts}

no_item : {X : Type 0} (j : ℕ) (x : X) → slice_get {X = X} [] j ≡ Some x → ⊥
no_item j x h = cc

pub placed_none : (k : Theory) (g : Graph) → ArePlaced k g 0 [] []
placed_none k g = record {
  all = refl;
  hidden = λ x lt blocked. absurd (omega arith);
  shown = λ x lt free. absurd (omega arith);
  owned = λ e z at. absurd (no_item e z at);
}

-- a number below one more is below, or it is that
below_or_at : (x n : ℕ) → x < n + 1 → (x < n) ⊎ (x ≡ n)
below_or_at x n lt = elim (cases_eq x n) [ inl same ↦ inr same | inr other ↦ inl (omega arith) ]

module _ (k : Theory) (g : Graph) (n : ℕ) (owners : List ℕ) (stands : List (Option ℕ)) (placed : ArePlaced k g n owners stands) where
  old : (s : Option ℕ) (x : ℕ) → x < n → slice_get (stands ++ s ∷ []) x ≡ slice_get stands x
  old s x lt = get_push_old stands s x (subst (λ m. x < m) (sym placed.all) lt)

  new : (s : Option ℕ) → slice_get (stands ++ s ∷ []) n ≡ Some s
  new s = subst (λ m. slice_get (stands ++ s ∷ []) m ≡ Some s) placed.all (get_push_new stands s)

  count : (s : Option ℕ) → length (stands ++ s ∷ []) ≡ n + 1
  count s = length-append stands (s ∷ []) ∙ ap (λ m. m + 1) placed.all

  owned_still : (s : Option ℕ) (e z : ℕ) → slice_get owners e ≡ Some z
      → (z < n + 1) × (is_blocked k g z ≡ false) × (slice_get (stands ++ s ∷ []) z ≡ Some (Some e))
  owned_still s e z at = let o = placed.owned e z at in (omega (arith, o.0), o.1, old s z o.0 ∙ o.2)

  pub placed_hidden : is_indirectly_blocked k g n ≡ true → ArePlaced k g (n + 1) owners (stands ++ None ∷ [])
  placed_hidden blocked = record {
    all = count None;
    hidden = λ x lt h. elim (below_or_at x n lt) [
      | inl below ↦ old None x below ∙ placed.hidden x below h
      | inr at ↦
          subst (λ y. slice_get (stands ++ None ∷ []) y ≡ Some None) (sym at) (new None)
    ];
    shown = λ x lt free. elim (below_or_at x n lt) [
      | inl below ↦ (let s = placed.shown x below free in (s.0, s.1, old None x below ∙ s.2, s.3, s.4))
      | inr at ↦ absurd (both blocked (subst (λ y. is_indirectly_blocked k g y ≡ false) at free))
    ];
    owned = owned_still None;
  }
    where
      both : {b : Bool} → b ≡ true → b ≡ false → ⊥
      both t f = cc

  pub placed_twin : (z : ℕ) (s : Option ℕ) → is_directly_blocked k g n ≡ true → IsTwin k g n z → slice_get stands z ≡ Some s
      → ArePlaced k g (n + 1) owners (stands ++ s ∷ [])
  placed_twin z s blocked twin at_z = record {
    all = count s;
    hidden = λ x lt h. elim (below_or_at x n lt) [
      | inl below ↦ old s x below ∙ placed.hidden x below h
      | inr at ↦
          absurd (both (subst (λ y. is_indirectly_blocked k g y ≡ true) at h) (directly_parts k g n blocked).1.1)
    ];
    shown = λ x lt free. elim (below_or_at x n lt) [
      | inl below ↦ (let t = placed.shown x below free in (t.0, t.1, old s x below ∙ t.2, t.3, t.4))
      | inr at ↦ subst (λ y. (e : ℕ) × (w : ℕ) × (slice_get (stands ++ s ∷ []) y ≡ Some (Some e)) × (slice_get owners e ≡ Some w) × StandsFor k g y w) (sym at)
          here
    ];
    owned = owned_still s;
  }
    where
      both : {b : Bool} → b ≡ true → b ≡ false → ⊥
      both t f = cc

      one_some : {X : Type 0} {a b : X} → Some a ≡ Some b → a ≡ b
      one_some h = cc

      free_z : is_indirectly_blocked k g z ≡ false
      free_z = (Rattle.std.proofs.lemmas.Bool.or_parts (is_directly_blocked k g z) (is_indirectly_blocked k g z) twin.unblocked).1

      here : (e : ℕ) × (w : ℕ) × (slice_get (stands ++ s ∷ []) n ≡ Some (Some e)) × (slice_get owners e ≡ Some w) × StandsFor k g n w
      here =
          let t = placed.shown z twin.before free_z in
          let is_s : s ≡ Some t.0 = one_some (sym at_z ∙ t.2) in
          let own : z ≡ t.1 = by_kind t.1 t.4 in
          (t.0, t.1, new s ∙ ap Some is_s, t.3, inr (blocked, subst (λ w. IsTwin k g n w) own twin))
        where
          by_kind : (w : ℕ) → StandsFor k g z w → z ≡ w
          by_kind w h = elim h [
            | inl own ↦ own.1
            | inr other ↦ absurd (both other.0
                (Rattle.std.proofs.lemmas.Bool.or_parts (is_directly_blocked k g z) (is_indirectly_blocked k g z) twin.unblocked).0)
          ]

  pub placed_own : is_directly_blocked k g n ≡ false → is_indirectly_blocked k g n ≡ false
      → ArePlaced k g (n + 1) (owners ++ n ∷ []) (stands ++ Some (length owners) ∷ [])
  placed_own direct free_n = record {
    all = count (Some (length owners));
    hidden = λ x lt h. elim (below_or_at x n lt) [
      | inl below ↦ old (Some (length owners)) x below ∙ placed.hidden x below h
      | inr at ↦
          absurd (both (subst (λ y. is_indirectly_blocked k g y ≡ true) at h) free_n)
    ];
    shown = λ x lt free. elim (below_or_at x n lt) [
      | inl below ↦ (let t = placed.shown x below free in
          (t.0, t.1, old (Some (length owners)) x below ∙ t.2, get_push_old owners n t.0 (slice_get_within owners t.0 t.1 t.3) ∙ t.3, t.4))
      | inr at ↦ subst (λ y. (e : ℕ) × (w : ℕ) × (slice_get (stands ++ Some (length owners) ∷ []) y ≡ Some (Some e)) × (slice_get (owners ++ n ∷ []) e ≡ Some w)
          × StandsFor k g y w) (sym at) (
            length owners,
            n,
            new (Some (length owners)),
            get_push_new owners n,
            inl (or_from (is_directly_blocked k g n) (is_indirectly_blocked k g n) direct free_n, refl),
          )
    ];
    owned = λ e z at. elim (cases_lt e (length owners)) [
      | inl below ↦ owned_still (Some (length owners)) e z (sym (get_push_old owners n e below) ∙ at)
      | inr past ↦ (let lt = slice_get_within (owners ++ n ∷ []) e z at in
          let is : e ≡ length owners = omega (arith, length-append owners (n ∷ [])) in
          let own : n ≡ z = one_some (sym (get_push_new owners n) ∙ ap (slice_get (owners ++ n ∷ [])) (sym is) ∙ at) in (
            subst (λ w. w < n + 1) own (omega arith),
            subst (λ w. is_blocked k g w ≡ false) own (or_from (is_directly_blocked k g n) (is_indirectly_blocked k g n) direct free_n),
            subst (λ w. slice_get (stands ++ Some (length owners) ∷ []) w ≡ Some (Some e)) own (new (Some (length owners)) ∙ ap (λ d. Some (Some d)) (sym is)),
          ))
    ];
  }
    where
      both : {b : Bool} → b ≡ true → b ≡ false → ⊥
      both t f = cc

      one_some : {X : Type 0} {a b : X} → Some a ≡ Some b → a ≡ b
      one_some h = cc
