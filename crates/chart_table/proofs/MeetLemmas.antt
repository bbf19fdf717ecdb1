-- How one assignment meets values, feature by feature.
use Rattle.std.proofs.Common.{◌≡◌, ℕ, ◌+◌, ◌<◌, List, [], ◌∷◌, ◌++◌, length, take, drop, get_or, Bool, true, false, refl, ap, ◌∙◌}
use Rattle.std.specs.Prelude.{if◌then◌else◌, ◌==◌}
use Rattle.std.proofs.lemmas.List.{drop_more, map-append, take_more, append-nil}
use Rattle.codeco_terms.specs.declared.values.Value.{Value}
use Rattle.codeco_terms.specs.declared.values.Term.{Term}
use Rattle.codeco_terms.specs.declared.values.Term.TheVariants.{Var}
use Rattle.chart_table.specs.Branches.{restricted, meeting_one, meeting, chosen_for, closing}
use Rattle.chart_table.specs.Ends.{as_terms}

abbrev pub Binds : Type 0
Binds = List (ℕ × Value)

-- no assignment meets anything
pub meeting_one_none : (p : ℕ × Value) (feats : List (ℕ × Term)) → meeting_one p feats [] ≡ []
meeting_one_none p [] = refl
meeting_one_none p (q ∷ feats) = ap (meeting_one p feats) (both (p.0 == q.0)) ∙ meeting_one_none p feats
  where
    both : (b : Bool) → (if b then restricted q.1 (p.1 ∷ []) [] else []) ≡ []
    both true = refl
    both false = refl

pub meeting_none : (vals : Binds) (feats : List (ℕ × Term)) → meeting vals feats [] ≡ []
meeting_none [] feats = refl
meeting_none (p ∷ vals) feats = ap (meeting vals feats) (meeting_one_none p feats) ∙ meeting_none vals feats

-- one feature more
pub one_step : (p : ℕ × Value) (feats : List (ℕ × Term)) (i : ℕ) (d : ℕ × Term) (bs news : List Binds) → i < length feats
    → (if p.0 == (get_or feats i d).0 then restricted (get_or feats i d).1 (p.1 ∷ []) bs else bs) ≡ news
    → meeting_one p (drop i feats) bs ≡ meeting_one p (drop (i + 1) feats) news
one_step p feats i d bs news lt step =
    ap (λ fs. meeting_one p fs bs) (drop_more feats i d lt) ∙ ap (meeting_one p (drop (i + 1) feats)) step

-- one value more
pub pair_step : (vals : Binds) (feats : List (ℕ × Term)) (i : ℕ) (d : ℕ × Value) (bs news : List Binds) → i < length vals
    → meeting_one (get_or vals i d) feats bs ≡ news → meeting (drop i vals) feats bs ≡ meeting (drop (i + 1) vals) feats news
pair_step vals feats i d bs news lt step =
    ap (λ ps. meeting ps feats bs) (drop_more vals i d lt) ∙ ap (meeting (drop (i + 1) vals) feats) step

closing_append : (choices : Term → List Value) (one other : List (ℕ × Term)) (bs : List Binds)
    → closing choices (one ++ other) bs ≡ closing choices other (closing choices one bs)
closing_append choices [] other bs = refl
closing_append choices (q ∷ one) other bs = closing_append choices one other _

-- one variable more has its value
pub bound_more : (choices : Term → List Value) (bound : Binds) (numbers : List ℕ) (i d : ℕ) → i < length numbers
    → closing choices (as_terms (take i numbers)) (bound ∷ []) ≡ bound ∷ []
    → chosen_for (Var (get_or numbers i d)) (choices (Var (get_or numbers i d))) bound ≡ bound ∷ []
    → closing choices (as_terms (take (i + 1) numbers)) (bound ∷ []) ≡ bound ∷ []
bound_more choices bound numbers i d lt before one =
    let n = get_or numbers i d in
    ap (λ ns. closing choices (as_terms ns) (bound ∷ [])) (take_more numbers i d lt)
    ∙ ap (λ ts. closing choices ts (bound ∷ [])) (map-append (λ x. (0, Var x)) (take i numbers) (n ∷ []))
    ∙ closing_append choices (as_terms (take i numbers)) (as_terms (n ∷ [])) (bound ∷ [])
    ∙ ap (closing choices (as_terms (n ∷ []))) before ∙ append-nil (chosen_for (Var n) (choices (Var n)) bound) ∙ one
