-- The lines of reasons, and what is told of parts.
use Rattle.std.proofs.Common.{◌≡◌, ◌≤◌, ◌<◌, ◌+◌, ℕ, List, [], ◌∷◌, ◌++◌, length, map, take, get_or, All, Option, Some, None, append-nil, inl, refl, sym, ap, subst, ◌∙◌}
use Rattle.std.specs.Prelude.{option_map}
use Rattle.std.specs.List.{AllZip, slice_get, flat_map}
use Rattle.std.specs.Option.{option_map_or}
use Rattle.std.proofs.lemmas.List.{take_more, flat_map_more, map-append, take_at, length-append}
use Rattle.std.proofs.lemmas.List.Elements.{All-nil, All-cons, All-head, All-tail, All-append}
use Rattle.std.proofs.lemmas.Option.{slice_get-map}
use Rattle.wiki_base.specs.declared.numbers.Place.{Place}
use Rattle.wiki_base.specs.declared.numbers.WordId.{WordId}
use Rattle.logic_terms.specs.Concept.{Claim}
use Rattle.logic_terms.specs.Shown.{claims_of}
use Rattle.owl_eval.specs.declared.checked.CheckedModel.{CheckedModel}
use Rattle.owl_eval.specs.Checked.{kept_interp, kept_claims}
use Rattle.reasoner.specs.Verdicts.{IsFiniteModel, HaveNoModel}
use Rattle.tableau_rules.specs.declared.step.Closed.{Closed}
use Rattle.explain.specs.declared.why.Why.{Why}
use Rattle.explain.specs.declared.why.Why.TheVariants.{Reason}
use Rattle.explain.specs.declared.part.Part.{Part}
use Rattle.explain.specs.Answers.{claims_in, IfReason}
use Rattle.explain.specs.Reasons.{stated_at, without, IsReason}
use Rattle.plain_wiki.specs.State.{Stored}
use Rattle.plain_wiki.specs.Knowledge.{HaveModel}
use Rattle.wiki_core.specs.Parts.{place_of, AreParts}
use Rattle.retelling.specs.Cases.{TellsCounted}
use Rattle.retelling.specs.Why.{line_at, reason_lines, TellsOf}

-- the line of a place among these, if it is one
abbrev pub line_of_kept : Stored → List Place → ℕ → List ℕ
line_of_kept state places k = option_map_or (line_at state) (slice_get places k) []

-- one line more
pub line_more : (state : Stored) (places : List Place) (kept : List ℕ) (i : ℕ) (lines after : List ℕ) → lines ≡ reason_lines state places (take i kept)
    → i < length kept
    → after ≡ lines ++ line_of_kept state places (get_or kept i 0) → after ≡ reason_lines state places (take (i + 1) kept)
line_more state places kept i lines after so_far within added =
    added ∙ ap (λ (l : List ℕ). l ++ line_of_kept state places (get_or kept i 0)) so_far
    ∙ flat_map_more (line_of_kept state places) [] (take i kept) (get_or kept i 0)
    ∙ ap (flat_map (line_of_kept state places)) (sym (take_more kept i 0 within))

-- the line of the part at a place, if there is one
pub line_of_part : (state : Stored) (parts : List Part) (k : ℕ) (part : Option Part) → slice_get parts k ≡ part
    → line_of_kept state (map place_of parts) k ≡ option_map_or (λ (p : Part). line_at state (place_of p)) part []
line_of_part state parts k part here =
    ap (λ (o : Option Place). option_map_or (line_at state) o []) (slice_get-map place_of parts k ∙ ap (option_map place_of) here) ∙ by part
  where
    by : (o : Option Part) → option_map_or (line_at state) (option_map place_of o) [] ≡ option_map_or (λ (p : Part). line_at state (place_of p)) o []
    by None = refl
    by (Some p) = refl

-- of each kept place the others have a model
pub each_needed : (parts : List (List Claim)) (all kept : List ℕ) (models : List CheckedModel)
    → AllZip (λ k m. kept_claims m ≡ stated_at parts (without k all)) kept models → All (λ m. IsFiniteModel (kept_interp m) (kept_claims m)) models
    → All (λ k. HaveModel (stated_at parts (without k all))) kept
each_needed parts all [] [] zipped finite = All-nil (λ (k : ℕ). HaveModel (stated_at parts (without k all)))
each_needed parts all [] (m ∷ models) zipped finite = absurd zipped
each_needed parts all (k ∷ kept) [] zipped finite = absurd zipped
each_needed parts all (k ∷ kept) (m ∷ models) zipped finite =
    let IsFinite : CheckedModel → Type 0 = λ m. IsFiniteModel (kept_interp m) (kept_claims m) in
    All-cons (λ (n : ℕ). HaveModel (stated_at parts (without n all))) k kept
    (kept_interp m, subst (IsFiniteModel (kept_interp m)) zipped.0 (All-head IsFinite m models finite))
    (each_needed parts all kept models zipped.1 (All-tail IsFinite m models finite))

-- ---- what is told of the sentences that count

pub of_counted : (state : Stored) (budget : ℕ) (taken : Option Place) (parts : List Part) (text : List ℕ) → AreParts state taken parts
    → TellsOf state budget (map place_of (take (length parts) parts)) (claims_in parts) text → TellsCounted state budget taken [] text
of_counted state budget taken parts text are tells = record {
  places = map place_of (take (length parts) parts);
  are = ap (map place_of) (take_all parts) ∙ are.places;
  own = claims_in parts;
  stated = are.stated;
  tells = subst (λ (css : List (List Claim)). TellsOf state budget (map place_of (take (length parts) parts)) css text)
      (sym (append-nil (claims_in parts))) tells;
}
  where
    take_all : (xs : List Part) → take (length xs) xs ≡ xs
    take_all xs = ap (take (length xs)) (sym (append-nil xs)) ∙ take_at xs [] (length xs) refl

-- the same with a further part behind them
pub of_counted_more : (state : Stored) (budget : ℕ) (taken : Option Place) (parts after : List Part) (more : Part) (claims : List Claim) (text : List ℕ)
    → AreParts state taken parts → after ≡ parts ++ more ∷ [] → claims_of more.axioms ≡ claims
    → TellsOf state budget (map place_of (take (length parts) after)) (claims_in after) text → TellsCounted state budget taken (claims ∷ []) text
of_counted_more state budget taken parts after more claims text are added is tells = record {
  places = map place_of (take (length parts) after);
  are = ap (λ (ps : List Part). map place_of (take (length parts) ps)) added ∙ ap (map place_of) (take_at parts (more ∷ []) (length parts) refl) ∙ are.places;
  own = claims_in parts;
  stated = are.stated;
  tells = subst (λ (css : List (List Claim)). TellsOf state budget (map place_of (take (length parts) after)) css text)
      (ap claims_in added ∙ map-append (λ (part : Part). claims_of part.axioms) parts (more ∷ [])
      ∙ ap (λ (cs : List Claim). claims_in parts ++ cs ∷ []) is) tells;
}

-- with a further fit part all are fit
pub fit_more : (P : List Claim → Type 0) (parts after : List Part) (more : Part) (claims : List Claim) → All P (claims_in parts) → after ≡ parts ++ more ∷ []
    → claims_of more.axioms ≡ claims → P claims → All P (claims_in after)
fit_more P parts after more claims all added is fit =
    subst (All P) (sym (ap claims_in added ∙ map-append (λ (part : Part). claims_of part.axioms) parts (more ∷ [])))
    (All-append P (claims_in parts) (claims_of more.axioms ∷ []) all
    (All-cons P (claims_of more.axioms) [] (subst P (sym is) fit) (All-nil P)))

-- what is told where there is a reason
pub tells_reason : (state : Stored) (budget : ℕ) (places : List Place) (parts : List (List Claim)) (why : Why) (kept : List ℕ) (closed : Closed)
    (models : List CheckedModel) (text : List ℕ) → why ≡ Reason kept closed models → IfReason why (λ kept _ _. IsReason parts kept)
    → IfReason why (λ kept _ _. HaveNoModel (stated_at parts kept))
    → IfReason why (λ kept _ models. AllZip (λ k m. kept_claims m ≡ stated_at parts (without k kept)) kept models)
    → All (λ m. IsFiniteModel (kept_interp m) (kept_claims m)) models → text ≡ reason_lines state places kept → TellsOf state budget places parts text
tells_reason state budget places parts why kept closed models text is reason none others finite told = inl (record {
  kept = kept;
  reason = subst (λ (w : Why). IfReason w (λ kept _ _. IsReason parts kept)) is reason;
  contradicts = subst (λ (w : Why). IfReason w (λ kept _ _. HaveNoModel (stated_at parts kept))) is none;
  each_needed = each_needed parts kept kept models
      (subst (λ (w : Why). IfReason w (λ kept _ models. AllZip (λ k m. kept_claims m ≡ stated_at parts (without k kept)) kept models)) is others) finite;
  told = told;
})
