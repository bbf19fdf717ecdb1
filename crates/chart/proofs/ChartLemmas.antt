-- What a chart keeps, as its tokens come and go.
use Rattle.std.proofs.Common.{◌≡◌, ℕ, suc, zero, ◌+◌, ◌<◌, ◌≤◌, List, [], ◌∷◌, ◌++◌, Bool, true, false, map, length, take, length-append, Some, refl, sym, ap, ◌∙◌, subst, arith, rules, IsTrue, ◌↔◌, nat_lt}
use Rattle.std.specs.Prelude.{slice_get}
use Rattle.std.proofs.lemmas.Option.{same_Some}
use Rattle.std.proofs.lemmas.Bool.Decides.{nat_tests}
use Rattle.std.proofs.lemmas.List.{take-append-le, take-take, take_all, length-take-le, map_push}
use Rattle.codeco_terms.specs.declared.categories.Ground.{Ground}
use Rattle.codeco_terms.specs.GrammarParts.{GrammarParts}
use Rattle.derivation_trees.specs.Trees.{Node}
use Rattle.derivation_trees.specs.Settings.{Setting}
use Rattle.derivation_trees.specs.Derives.{IsDerivation}
use Rattle.wiki_base.specs.declared.tokens.TheConstants.{MOST_TOKENS}
use Rattle.wiki_base.proofs.ListLaws.{slice_get-append, slice_get-take, length_mapped}
use Rattle.chart_table.specs.declared.choices.Plan.{Plan}
use Rattle.chart_table.specs.Choices.{EachPlan}
use Rattle.chart_table.proofs.TableLemmas.{slice_end}
use Rattle.chart.specs.Charts.{first_of, IsChart}

-- the tokens have a derivation
abbrev pub Derived : Setting → Type 0
Derived s = (tree : Node) × IsDerivation s tree

abbrev pub setting : GrammarParts → List (List ℕ) → List (List Ground) → Setting
setting g tokens readings = record { grammar = g; tokens = tokens; readings = readings }

setting_same : (g : GrammarParts) (t u : List (List ℕ)) (r q : List (List Ground)) → t ≡ u → r ≡ q → setting g t r ≡ setting g u q
setting_same g t u r q a b = ap (λ x. setting g x r) a ∙ ap (setting g u) b

-- no tokens
none_told : (g : GrammarParts) (plans : List Plan) (told_of : Bool) → EachPlan g g.rules plans → IsTrue told_of ↔ Derived (setting g [] [])
    → IsChart (setting g [] []) plans (told_of ∷ [])
none_told g plans told_of planned is = record {
  planned = planned;
  few = search rules;
  read = refl;
  all = refl;
  told = at;
}
  where
    at : (count : ℕ) (b : Bool) → count ≤ 0 → slice_get (told_of ∷ []) count ≡ Some b → IsTrue b ↔ Derived (first_of (setting g [] []) count)
    at zero b le h = subst (λ x. IsTrue x ↔ Derived (setting g [] [])) (same_Some told_of b h) is
    at (suc count) b le h = absurd (omega arith)

pub chart_none : (g : GrammarParts) (plans : List Plan) (tokens : List (List ℕ)) (readings : List (List Ground)) (derives : List Bool) (told_of : Bool)
    → tokens ≡ [] → readings ≡ [] → derives ≡ told_of ∷ [] → EachPlan g g.rules plans → IsTrue told_of ↔ Derived (setting g [] [])
    → IsChart (setting g tokens readings) plans derives
chart_none g plans tokens readings derives told_of t r d planned is =
    subst (λ x. IsChart (setting g x readings) plans derives) (sym t)
    (subst (λ x. IsChart (setting g [] x) plans derives) (sym r)
    (subst (IsChart (setting g [] []) plans) (sym d) (none_told g plans told_of planned is)))

-- one more token, whose readings a function of tokens gives
pub chart_more : (g : GrammarParts) (f : List ℕ → List Ground) (tokens : List (List ℕ)) (token : List ℕ) (plans : List Plan) (derives : List Bool)
    (told_of : Bool) → length tokens < MOST_TOKENS → IsChart (setting g tokens (map f tokens)) plans derives
    → IsTrue told_of ↔ Derived (setting g (tokens ++ token ∷ []) (map f (tokens ++ token ∷ [])))
    → IsChart (setting g (tokens ++ token ∷ []) (map f (tokens ++ token ∷ []))) plans (derives ++ told_of ∷ [])
chart_more g f tokens token plans derives told_of room chart is = record {
  planned = chart.planned;
  few = omega (arith, length-append tokens (token ∷ []));
  read = length_mapped f (tokens ++ token ∷ []);
  all = let before = chart.all in omega (arith, length-append derives (told_of ∷ []), length-append tokens (token ∷ []));
  told = λ count b le h. by_last count b le h (nat_lt (length tokens) count) refl;
}
  where
    by_last : (count : ℕ) (b : Bool) → count ≤ length (tokens ++ token ∷ []) → slice_get (derives ++ told_of ∷ []) count ≡ Some b → (last : Bool)
        → nat_lt (length tokens) count ≡ last → IsTrue b ↔ Derived (first_of (setting g (tokens ++ token ∷ []) (map f (tokens ++ token ∷ []))) count)
    by_last count b le h true t =
        let lt : length tokens < count = grind (arith, nat_tests) in
        let all = chart.all in
        let here : count ≡ length derives = omega (arith, length-append tokens (token ∷ [])) in
        let same : told_of ≡ b = same_Some told_of b (sym (slice_end derives told_of) ∙ ap (slice_get (derives ++ told_of ∷ [])) (sym here) ∙ h) in
        let whole : take count (tokens ++ token ∷ []) ≡ tokens ++ token ∷ [] =
        take_all count (tokens ++ token ∷ []) (omega (arith, length-append tokens (token ∷ []))) in
        let whole_readings : take count (map f (tokens ++ token ∷ [])) ≡ map f (tokens ++ token ∷ []) =
        take_all count (map f (tokens ++ token ∷ [])) (omega (arith, length-append tokens (token ∷ []), length_mapped f (tokens ++ token ∷ []))) in
        subst (λ x. IsTrue x ↔ Derived (first_of (setting g (tokens ++ token ∷ []) (map f (tokens ++ token ∷ []))) count)) same
        (subst (λ s. IsTrue told_of ↔ Derived s) (sym (setting_same g _ _ _ _ whole whole_readings)) is)
    by_last count b le h false t =
        let within : count ≤ length tokens = grind (arith, nat_tests) in
        let all = chart.all in
        let lt : count < length derives = omega arith in
        let front : take count (tokens ++ token ∷ []) ≡ take count tokens = take-append-le count tokens (token ∷ []) within in
        let in_readings : count ≤ length (map f tokens) = omega (arith, length_mapped f tokens) in
        let front_readings : take count (map f (tokens ++ token ∷ [])) ≡ take count (map f tokens) =
        ap (take count) (map_push f tokens token) ∙ take-append-le count (map f tokens) (f token ∷ []) in_readings in
        subst (λ s. IsTrue b ↔ Derived s) (sym (setting_same g _ _ _ _ front front_readings))
        (chart.told count b within (sym (slice_get-append derives (told_of ∷ []) count lt) ∙ h))

-- all but the last token
pub chart_less : (s : Setting) (plans : List Plan) (derives : List Bool) (count : ℕ) → count ≤ length s.tokens → IsChart s plans derives
    → IsChart (first_of s count) plans (take (count + 1) derives)
chart_less s plans derives count le chart =
    let all = chart.all in
    let few = chart.few in
    let read = chart.read in
    let in_readings : count ≤ length s.readings = omega arith in
    let in_derives : count + 1 ≤ length derives = omega arith in
    record {
      planned = chart.planned;
      few = omega (arith, length-take-le count s.tokens le);
      read = length-take-le count s.readings in_readings ∙ sym (length-take-le count s.tokens le);
      all = length-take-le (count + 1) derives in_derives ∙ ap (λ k. k + 1) (sym (length-take-le count s.tokens le));
      told = λ k b within h.
          let less : k ≤ count = omega (arith, length-take-le count s.tokens le) in
          let lt : k < count + 1 = omega arith in
          let inside : k ≤ length s.tokens = omega arith in
          subst (λ x. IsTrue b ↔ Derived x) (sym (setting_same s.grammar _ _ _ _ (take-take k count s.tokens less) (take-take k count s.readings less)))
          (chart.told k b inside (sym (slice_get-take (count + 1) k derives lt) ∙ h));
    }

-- all tokens
pub chart_told : (s : Setting) (plans : List Plan) (derives : List Bool) (told_of : Bool) → IsChart s plans derives
    → slice_get derives (length s.tokens) ≡ Some told_of → IsTrue told_of ↔ Derived s
chart_told s plans derives told_of chart h =
    let read = chart.read in
    subst (λ x. IsTrue told_of ↔ Derived x)
    (setting_same s.grammar _ _ _ _ (take_all (length s.tokens) s.tokens (omega arith)) (take_all (length s.tokens) s.readings (omega arith)))
    (chart.told (length s.tokens) told_of (omega arith) h)

-- the chart after an advance, by what it kept
pub chart_grown : (g kept : GrammarParts) (f : List ℕ → List Ground) (s : Setting) (old : List (List ℕ)) (old_readings : List (List Ground)) (token : List ℕ)
    (tokens : List (List ℕ)) (readings : List (List Ground)) (plans : List Plan) (derives grown : List Bool) (b : Bool) → setting kept old old_readings ≡ s
    → s ≡ setting g s.tokens (map f s.tokens) → length s.tokens < MOST_TOKENS → IsChart (setting kept old old_readings) plans derives
    → tokens ≡ old ++ token ∷ [] → readings ≡ map f tokens → grown ≡ derives ++ b ∷ [] → IsTrue b ↔ Derived (setting g tokens (map f tokens))
    → IsChart (setting kept tokens readings) plans grown
chart_grown g kept f s old old_readings token tokens readings plans derives grown b view is_kept room chart t r d is =
    let grammar_is : kept ≡ g = ap (λ x. x.grammar) (view ∙ is_kept) in
    let old_is : old ≡ s.tokens = ap (λ x. x.tokens) view in
    let readings_are : old_readings ≡ map f old = ap (λ x. x.readings) (view ∙ is_kept) ∙ ap (map f) (sym old_is) in
    let below : length old < MOST_TOKENS = subst (λ x. length x < MOST_TOKENS) (sym old_is) room in
    let before : IsChart (setting g old (map f old)) plans derives =
    subst (λ x. IsChart x plans derives) (ap (λ x. setting x old old_readings) grammar_is ∙ ap (setting g old) readings_are) chart in
    let told : IsTrue b ↔ Derived (setting g (old ++ token ∷ []) (map f (old ++ token ∷ []))) = subst (λ x. IsTrue b ↔ Derived (setting g x (map f x))) t is in
    let after = chart_more g f old token plans derives b below before told in
    let same : setting kept tokens readings ≡ setting g (old ++ token ∷ []) (map f (old ++ token ∷ [])) =
    ap (λ x. setting x tokens readings) grammar_is ∙ ap (setting g tokens) r ∙ ap (λ x. setting g x (map f x)) t in
    subst (λ x. IsChart x plans grown) (sym same) (subst (IsChart (setting g (old ++ token ∷ []) (map f (old ++ token ∷ []))) plans) (sym d) after)

-- a chart by its own tokens
pub kept_on : (g : GrammarParts) (f : List ℕ → List Ground) (s : Setting) (tokens : List (List ℕ)) → s ≡ setting g tokens (map f tokens)
    → s ≡ setting g s.tokens (map f s.tokens)
kept_on g f s tokens e = e ∙ ap (λ t. setting g t (map f t)) (sym (ap (λ x. x.tokens) e))

-- the readings that a chart keeps are those that the lexicon gives
pub readings_kept : (g kept : GrammarParts) (f : List ℕ → List Ground) (s : Setting) (old : List (List ℕ)) (old_readings : List (List Ground))
    → setting kept old old_readings ≡ s → s ≡ setting g s.tokens (map f s.tokens) → old_readings ≡ map f old
readings_kept g kept f s old old_readings view is_kept =
    ap (λ x. x.readings) (view ∙ is_kept) ∙ ap (map f) (sym (ap (λ x. x.tokens) view))

-- the plans that a chart keeps are those of the grammar
pub plans_kept : (g kept : GrammarParts) (f : List ℕ → List Ground) (s : Setting) (old : List (List ℕ)) (old_readings : List (List Ground))
    (plans : List Plan) → setting kept old old_readings ≡ s → s ≡ setting g s.tokens (map f s.tokens) → EachPlan kept kept.rules plans
    → EachPlan g g.rules plans
plans_kept g kept f s old old_readings plans view is_kept planned =
    subst (λ x. EachPlan x x.rules plans) (ap (λ x. x.grammar) (view ∙ is_kept)) planned

-- the first tokens, which read as before
pub chart_unchanged : (s : Setting) (plans : List Plan) (derives : List Bool) (f : List ℕ → List Ground) (n : ℕ) (g : GrammarParts) (tokens : List (List ℕ))
    (readings : List (List Ground)) (told_of : List Bool) → g ≡ s.grammar → tokens ≡ take n s.tokens → readings ≡ map f tokens
    → take n s.readings ≡ map f (take n s.tokens) → told_of ≡ take (n + 1) derives → n ≤ length s.tokens → IsChart s plans derives
    → IsChart (setting g tokens readings) plans told_of
chart_unchanged s plans derives f n g tokens readings told_of same first read alike told_is within chart =
    let is : setting g tokens readings ≡ first_of s n =
    ap (λ x. setting x tokens readings) same
    ∙ setting_same s.grammar tokens (take n s.tokens) readings (take n s.readings) first (read ∙ ap (map f) first ∙ sym alike) in
    subst (λ x. IsChart x plans told_of) (sym is) (subst (IsChart (first_of s n) plans) (sym told_is) (chart_less s plans derives n within chart))
