-- Lists of states with equal ones left out.
use Rattle.std.proofs.Common.{◌≡◌, ℕ, ◌<◌, List, [], ◌∷◌, ◌++◌, length, get_or, Some, sym, ap, ◌∙◌, subst, inl, inr, ◌⊎◌}
use Rattle.std.proofs.lemmas.Option.{slice_get-get_or}
use Rattle.codeco_terms.specs.declared.elements.Element.{Element}
use Rattle.codeco_terms.specs.declared.rules.Rule.{Rule}
use Rattle.derivation_trees.specs.Settings.{Setting}
use Rattle.derivation_trees.specs.Derives.{At}
use Rattle.chart_table.specs.declared.states.State.{State}
use Rattle.chart_table.specs.Branches.{OneOf, Extends}
use Rattle.chart_table.specs.Steps.{at_of, Covers}
use Rattle.chart_table.specs.Ends.{AreSteps}
use Rattle.chart_table.specs.Merging.{HasState, CoverAlso, CoverAlike}
use Rattle.chart_table.proofs.BranchLemmas.{Binds}
use Rattle.chart_table.proofs.OneOfLemmas.{one_of_slice}

pub covers_left : (v : Binds) (at : At) (one other : List State) → Covers v at one → Covers v at (one ++ other)
covers_left v at [] other h = absurd h
covers_left v at (x ∷ xs) other (inl h) = inl h
covers_left v at (x ∷ xs) other (inr h) = inr (covers_left v at xs other h)

pub covers_right : (v : Binds) (at : At) (one other : List State) → Covers v at other → Covers v at (one ++ other)
covers_right v at [] other h = h
covers_right v at (x ∷ xs) other h = inr (covers_right v at xs other h)

pub covers_either : (v : Binds) (at : At) (one other : List State) → Covers v at (one ++ other) → Covers v at one ⊎ Covers v at other
covers_either v at [] other h = inr h
covers_either v at (x ∷ xs) other (inl h) = inl (inl h)
covers_either v at (x ∷ xs) other (inr h) = elim (covers_either v at xs other h) [ inl a ↦ inl (inr a) | inr b ↦ inr b ]

-- a state that is there covers nothing more
covers_of : (v : Binds) (at : At) (states : List State) (state : State) → OneOf states state → Covers v at (state ∷ []) → Covers v at states
covers_of v at states state one (inr h) = absurd h
covers_of v at [] state one (inl h) = absurd one
covers_of v at (x ∷ xs) state (inl is) (inl h) = inl (subst (λ y. Extends v y.binds × (at_of y ≡ at)) (sym is) h)
covers_of v at (x ∷ xs) state (inr one) (inl h) = inr (covers_of v at xs state one (inl h))

pub state_there : (states : List State) (i : ℕ) (state other : State) → i < length states → state ≡ get_or states i state → state ≡ other → HasState states
    other
state_there states i state other lt is same v at h =
    covers_of v at states state (one_of_slice states i state (slice_get-get_or states i state lt ∙ ap Some (sym is)))
    (subst (λ x. Covers v at (x ∷ [])) (sym same) h)

pub also_there : (states : List State) (state : State) → HasState states state → CoverAlso states state states
also_there states state has = record { kept = λ v at h. h; new = has; only = λ v at h. inl h }

pub also_added : (states after : List State) (state : State) → after ≡ states ++ state ∷ [] → CoverAlso states state after
also_added states after state is = subst (CoverAlso states state) (sym is) (record {
  kept = λ v at h. covers_left v at states (state ∷ []) h;
  new = λ v at h. covers_right v at states (state ∷ []) h;
  only = λ v at h. covers_either v at states (state ∷ []) h;
})

-- where what is left and what was gathered cover is where all did
pub record Gathered (all rest out : List State) : Type 0 where
  pub forth : (v : Binds) (at : At) → Covers v at all → Covers v at rest ⊎ Covers v at out
  pub back : (v : Binds) (at : At) → Covers v at rest ⊎ Covers v at out → Covers v at all

pub gathered_none : (all out : List State) → out ≡ [] → Gathered all all out
gathered_none all out is = record { forth = λ v at h. inl h; back = λ v at h. back v at h }
  where
    back : (v : Binds) (at : At) → Covers v at all ⊎ Covers v at out → Covers v at all
    back v at (inl h) = h
    back v at (inr h) = absurd (subst (Covers v at) is h)

pub gathered_more : (all rest left out more : List State) (state : State) → rest ≡ left ++ state ∷ [] → Gathered all rest out → CoverAlso out state more
    → Gathered all left more
gathered_more all rest left out more state is g also = record {
  forth = λ v at h. forth v at (g.forth v at h);
  back = λ v at h. back v at h;
}
  where
    split : (v : Binds) (at : At) → Covers v at left ⊎ Covers v at (state ∷ []) → Covers v at left ⊎ Covers v at more
    split v at (inl h) = inl h
    split v at (inr h) = inr (also.new v at h)

    forth : (v : Binds) (at : At) → Covers v at rest ⊎ Covers v at out → Covers v at left ⊎ Covers v at more
    forth v at (inl h) = split v at (covers_either v at left (state ∷ []) (subst (Covers v at) is h))
    forth v at (inr h) = inr (also.kept v at h)

    from : (v : Binds) (at : At) → Covers v at out ⊎ Covers v at (state ∷ []) → Covers v at all
    from v at (inl h) = g.back v at (inr h)
    from v at (inr h) = g.back v at (inl (subst (Covers v at) (sym is) (covers_right v at left (state ∷ []) h)))

    back : (v : Binds) (at : At) → Covers v at left ⊎ Covers v at more → Covers v at all
    back v at (inl h) = g.back v at (inl (subst (Covers v at) (sym is) (covers_left v at left (state ∷ []) h)))
    back v at (inr h) = from v at (also.only v at h)

pub gathered_done : (all rest out : List State) → rest ≡ [] → Gathered all rest out → CoverAlike all out
gathered_done all rest out is g = record {
  forth = λ v at h. one v at (g.forth v at h);
  back = λ v at h. g.back v at (inr h);
}
  where
    one : (v : Binds) (at : At) → Covers v at rest ⊎ Covers v at out → Covers v at out
    one v at (inl h) = absurd (subst (Covers v at) is h)
    one v at (inr h) = h

pub alike_same : (states : List State) → CoverAlike states states
alike_same states = record { forth = λ v at h. h; back = λ v at h. h }

-- states that cover alike are the steps alike
pub steps_alike : (s : Setting) (rule : Rule) (n : ℕ) (e : Element) (states news others : List State) → AreSteps s rule n e states news → CoverAlike news others
    → AreSteps s rule n e states others
steps_alike s rule n e states news others steps alike = record {
  forth = λ v own after instance from leads. alike.forth v after (steps.forth v own after instance from leads);
  back = λ v own after instance from covers. steps.back v own after instance from (alike.back v after covers);
}
