-- Paths that stand for others.
use Rattle.std.proofs.Common.{◌≡◌, ℕ, ◌<◌, List, [], ◌∷◌, ◌++◌, map, length, get_or, ◌⊎◌, inl, inr, Some, refl, sym, ap, subst, ◌∙◌}
use Rattle.std.specs.Prelude.{slice_get, slice_set}
use Rattle.std.proofs.lemmas.Option.{slice_get-get_or}
use Rattle.codeco_terms.specs.declared.values.Value.{Value}
use Rattle.codeco_terms.specs.declared.elements.Element.{Element}
use Rattle.derivation_trees.specs.Settings.{Setting}
use Rattle.derivations.specs.Enumeration as enumeration
use Rattle.derivations.proofs.Members.{Among, among_left, among_right, among_map}
use Rattle.derivations.proofs.SoundLemmas.{Mapped, from_map, either_among}
use Rattle.chart_trees.specs.declared.paths.Path.{Path}
use Rattle.chart_trees.specs.Order.{Lower, AtMost, codes}
use Rattle.chart_trees.specs.Paths.{path_of}
use Rattle.chart_trees.specs.Ways.{IsNoLater, StepTo, AreStepsOf}
use Rattle.chart_trees.specs.Earliest.{Stands, IsPut, StandFor}
use Rattle.chart_trees.proofs.OrderLemmas.{lower_trans, at_most_trans}
use Rattle.chart_trees.proofs.WayLemmas.{no_later_same}
use Rattle.chart_trees.proofs.OutcomeLemmas.{among_at, set_among, set_has, set_keeps}

abbrev Order : List ℕ → List ℕ → List ℕ → List ℕ → Type 0
Order found code found' code' = Lower found found' ⊎ ((found ≡ found') × AtMost code code')

order_trans : (f g h c d e : List ℕ) → Order f c g d → Order g d h e → Order f c h e
order_trans f g h c d e (inl a) (inl b) = inl (lower_trans f g h a b)
order_trans f g h c d e (inl a) (inr b) = inl (subst (Lower f) b.0 a)
order_trans f g h c d e (inr a) (inl b) = inl (subst (λ l. Lower l h) (sym a.0) b)
order_trans f g h c d e (inr a) (inr b) = inr (a.0 ∙ b.0, at_most_trans c d e a.1 b.1)

pub no_later_trans : (p q r : enumeration.Path) → IsNoLater p q → IsNoLater q r → IsNoLater p r
no_later_trans p q r a b = record {
  at = a.at ∙ b.at;
  own = a.own ∙ b.own;
  order = order_trans p.found q.found r.found (codes p.children) (codes q.children) (codes r.children) a.order b.order;
}

pub stands_itself : (paths : List Path) (p : Path) → Among paths p → Stands paths (path_of p)
stands_itself paths p m = (p, m, no_later_same (path_of p))

-- one that was looked at stands for the new one, or the new one for it
pub seat_taken : (paths : List Path) (i : ℕ) (old new : Path) → i < length paths → old ≡ get_or paths i old → IsNoLater (path_of old) (path_of new)
    → Stands paths (path_of new)
seat_taken paths i old new lt is less = (old, among_at paths i old old lt is, less)

pub seat_at : (paths : List Path) (i : ℕ) (old new : Path) → i < length paths → old ≡ get_or paths i old → IsNoLater (path_of new) (path_of old)
    → (x : Path) × (slice_get paths i ≡ Some x) × IsNoLater (path_of new) (path_of x)
seat_at paths i old new lt is less = (old, slice_get-get_or paths i old lt ∙ ap Some (sym is), less)

pub put_taken : (x : Path) (paths seen : List Path) → seen ≡ paths → Stands seen (path_of x) → IsPut x paths paths
put_taken x paths seen e h = record {
  sound = λ p m. inl m;
  kept = λ p m. stands_itself paths p m;
  new = subst (λ l. Stands l (path_of x)) e h;
}

pub put_free : (x : Path) (before after : List Path) → after ≡ before ++ x ∷ [] → IsPut x before after
put_free x before after e = subst (IsPut x before) (sym e) (record {
  sound = λ p m. by p (either_among before (x ∷ []) p m);
  kept = λ p m. stands_itself (before ++ x ∷ []) p (among_left before (x ∷ []) p m);
  new = stands_itself (before ++ x ∷ []) x (among_right before (x ∷ []) x (inl refl));
})
  where
    by : (p : Path) → Among before p ⊎ Among (x ∷ []) p → Among before p ⊎ (p ≡ x)
    by p (inl m) = inl m
    by p (inr (inl m)) = inr m
    by p (inr (inr m)) = absurd m

pub put_at : (x : Path) (before seen after : List Path) (i : ℕ) → seen ≡ before → after ≡ slice_set before i x
    → (old : Path) × (slice_get seen i ≡ Some old) × IsNoLater (path_of x) (path_of old) → IsPut x before after
put_at x before seen after i e f h = subst (IsPut x before) (sym f) (record {
  sound = λ p m. set_among before i x p m;
  kept = λ p m. by p (set_keeps before i x h.0 p at m);
  new = stands_itself (slice_set before i x) x (set_has before i x h.0 at);
})
  where
    at : slice_get before i ≡ Some h.0
    at = ap (λ l. slice_get l i) (sym e) ∙ h.1

    by : (p : Path) → Among (slice_set before i x) p ⊎ (p ≡ h.0) → Stands (slice_set before i x) (path_of p)
    by p (inl m) = stands_itself (slice_set before i x) p m
    by p (inr k) = subst (λ (y : Path). Stands (slice_set before i x) (path_of y)) (sym k) (x, set_has before i x h.0 at, h.2)

-- what is left to look at, and what stands for the others
pub record SoFar (all rest out : List Path) : Type 0 where
  pub sound : (p : Path) → Among rest p ⊎ Among out p → Among all p
  pub least : (p : Path) → Among all p → Among rest p ⊎ Stands out (path_of p)

pub so_far_none : (all out : List Path) → out ≡ [] → SoFar all all out
so_far_none all out is = record { sound = λ p m. by p m; least = λ p m. inl m }
  where
    by : (p : Path) → Among all p ⊎ Among out p → Among all p
    by p (inl m) = m
    by p (inr m) = absurd (subst (λ l. Among l p) is m)

pub so_far_more : (all rest left out more : List Path) (x : Path) → rest ≡ left ++ x ∷ [] → SoFar all rest out → IsPut x out more → SoFar all left more
so_far_more all rest left out more x is so put = record { sound = λ p m. sound p m; least = λ p m. least p (so.least p m) }
  where
    in_rest : (p : Path) → Among (left ++ x ∷ []) p → Among rest p
    in_rest p m = subst (λ l. Among l p) (sym is) m

    from : (p : Path) → Among out p ⊎ (p ≡ x) → Among all p
    from p (inl m) = so.sound p (inr m)
    from p (inr e) = so.sound p (inl (in_rest p (among_right left (x ∷ []) p (inl e))))

    sound : (p : Path) → Among left p ⊎ Among more p → Among all p
    sound p (inl m) = so.sound p (inl (in_rest p (among_left left (x ∷ []) p m)))
    sound p (inr m) = from p (put.sound p m)

    stands : (p : Path) → Stands out (path_of p) → Stands more (path_of p)
    stands p h =
        let k = put.kept h.0 h.1 in
        (k.0, k.1, no_later_trans (path_of k.0) (path_of h.0) (path_of p) k.2 h.2)

    split : (p : Path) → Among left p ⊎ Among (x ∷ []) p → Among left p ⊎ Stands more (path_of p)
    split p (inl m) = inl m
    split p (inr (inl e)) = inr (subst (λ (y : Path). Stands more (path_of y)) (sym e) put.new)
    split p (inr (inr m)) = absurd m

    least : (p : Path) → Among rest p ⊎ Stands out (path_of p) → Among left p ⊎ Stands more (path_of p)
    least p (inl m) = split p (either_among left (x ∷ []) p (subst (λ l. Among l p) is m))
    least p (inr h) = inr (stands p h)

pub so_far_done : (all rest out : List Path) → rest ≡ [] → SoFar all rest out → StandFor all out
so_far_done all rest out is so = record { sound = λ p m. so.sound p (inr m); least = λ p m. by p (so.least p m) }
  where
    by : (p : Path) → Among rest p ⊎ Stands out (path_of p) → Stands out (path_of p)
    by p (inl m) = absurd (subst (λ l. Among l p) is m)
    by p (inr h) = h

pub stand_same : (paths : List Path) → StandFor paths paths
stand_same paths = record { sound = λ p m. m; least = λ p m. stands_itself paths p m }

-- paths that stand for the steps are steps
pub steps_left : (s : Setting) (values : List (ℕ × Value)) (e : Element) (paths : List enumeration.Path) (news left : List Path)
    → AreStepsOf s values e paths (map path_of news) → StandFor news left → AreStepsOf s values e paths (map path_of left)
steps_left s values e paths news left steps stand = record {
  sound = λ x m. sound x (from_map path_of left x m);
  least = λ p q x m less led. least p q x m
      less led;
}
  where
    sound : (x : enumeration.Path) → Mapped path_of left x → (p : enumeration.Path) × Among paths p × StepTo s values e p x
    sound x one =
        let r = steps.sound (path_of one.from) (among_map path_of news one.from (stand.sound one.from one.among)) in
        (r.0, r.1, subst (StepTo s values e r.0) (sym one.is) r.2)

    held : (x y : enumeration.Path) → Mapped path_of news y → IsNoLater y x → (z : enumeration.Path) × Among (map path_of left) z × IsNoLater z x
    held x y one less =
        let k = stand.least one.from one.among in (
          path_of k.0,
          among_map path_of left k.0 k.1,
          no_later_trans (path_of k.0) (path_of one.from) x k.2 (subst (λ r. IsNoLater r x) one.is less),
        )

    least : (p q x : enumeration.Path) → Among paths p → IsNoLater p q → StepTo s values e q x
        → (z : enumeration.Path) × Among (map path_of left) z × IsNoLater z x
    least p q x m less led = let r = steps.least p q x m less led in held x r.0 (from_map path_of news r.0 r.1) r.2
