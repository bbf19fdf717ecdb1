-- What a phrase means introduces only referents that lie in its span, each once.
use Rattle.std.proofs.Common.{◌≡◌, ℕ, zero, suc, ◌+◌, ◌≤◌, Bool, true, false, cond, List, [], ◌∷◌, map, refl, sym, ap, subst, arith, Option, Some, None}
use Rattle.std.specs.Prelude.{◌==◌, filter, slice_get, count_by}
use Rattle.std.specs.Option.{option_map_or}
use Rattle.wiki_base.specs.declared.numbers.WordId.{WordId}
use Rattle.codeco_terms.specs.declared.rules.Label.{Label}
use Rattle.codeco_terms.specs.GrammarParts.{GrammarParts}
use Rattle.codeco_checked.specs.Labels.{label_row, is_introduction}
use Rattle.derivation_trees.specs.declared.skeletons.Skeleton.{Skeleton, out-Skeleton}
use Rattle.derivation_trees.specs.Sketches.{body_of}
use Rattle.drs_build.specs.Meanings.{nothing, meaning}
use Rattle.drs_build.specs.Nodes.{label_of, is_meant, introduced_at, ends_of, position_in, meaning_in, meant_children, made_in}
use Rattle.drs_build.specs.Order.{span_of, is_in_order}
use Rattle.drs_build.proofs.OrderLemmas.{body_leads}
use Rattle.drs_build.proofs.NodeLemmas.{meaning_by, meaning_none}
use Rattle.drs_build.proofs.CountLemmas.{one}
use Rattle.drs_build.proofs.LightLemmas.{Light, light_more, light_nothing, light_label, own}
use Rattle.drs_build.proofs.WeightLemmas.{past, inside, total, ends_in, children_inside, own_inside}
use Rattle.drs_build.proofs.GrammarLemmas.{Introduces, Introducing}

abbrev pub LightIn : GrammarParts → Skeleton → Type 0
LightIn g sk = Introducing g → (names : List (ℕ × WordId)) → Light (inside (span_of sk)) (meaning_in g names sk)

abbrev pub AllLight : GrammarParts → List Skeleton → Type 0
AllLight g [] = Unit {0}
AllLight g (sk ∷ sks) = LightIn g sk × AllLight g sks

abbrev weight_at : List Skeleton → ℕ → ℕ → ℕ
weight_at sks i r = option_map_or (λ c. inside (span_of c) r) (slice_get sks i) 0

two_weights : (sks : List Skeleton) (r : ℕ) → weight_at sks 0 r + weight_at sks 1 r ≤ total (map span_of sks) r
two_weights [] r = omega arith
two_weights (a ∷ []) r = omega arith
two_weights (a ∷ b ∷ cs) r = omega arith

kept_weight : (p : Skeleton → Bool) (sks : List Skeleton) (r : ℕ) → total (map span_of (filter p sks)) r ≤ total (map span_of sks) r
kept_weight p [] r = omega arith
kept_weight p (sk ∷ sks) r = by (p sk) (kept_weight p sks r)
  where
    by : (b : Bool) → total (map span_of (filter p sks)) r ≤ total (map span_of sks) r
        → total (map span_of (cond b (sk ∷ filter p sks) (filter p sks))) r ≤ inside (span_of sk) r + total (map span_of sks) r
    by true h = omega arith
    by false h = omega arith

kept_light : (g : GrammarParts) (p : Skeleton → Bool) (sks : List Skeleton) → AllLight g sks → AllLight g (filter p sks)
kept_light g p [] all = tt
kept_light g p (sk ∷ sks) all = by (p sk) (kept_light g p sks all.1)
  where
    by : (b : Bool) → AllLight g (filter p sks) → AllLight g (cond b (sk ∷ filter p sks) (filter p sks))
    by true later = (all.0, later)
    by false later = later

nth_light : (g : GrammarParts) (sks : List Skeleton) (i : ℕ) → AllLight g sks → Introducing g → (names : List (ℕ × WordId))
    → Light (λ r. weight_at sks i r) (option_map_or (meaning_in g names) (slice_get sks i) nothing)
nth_light g [] i all new names = light_nothing (λ r. weight_at [] i r)
nth_light g (sk ∷ sks) zero all new names = all.0 new names
nth_light g (sk ∷ sks) (suc i) all new names = nth_light g sks i all.1 new names

span_ends : (sks : List Skeleton) → ends_in (map span_of sks) ≡ ends_of sks
span_ends [] = refl
span_ends (sk ∷ sks) = ap (λ es. (out-Skeleton sk).end ∷ es) (span_ends sks)

-- a skeleton's own referent and those of its children lie in its span
own_le : (g : GrammarParts) (sk : Skeleton) (l : Label) (r : ℕ) → is_in_order g sk ≡ true → label_of g (out-Skeleton sk).rule ≡ Some l → Introducing g
    → own l (position_in g sk) r + total (map span_of (out-Skeleton sk).children) r + past (out-Skeleton sk).end r ≤ past (out-Skeleton sk).start r
own_le g sk l r ordered named new = by (label_row l).introduces refl
  where
    by : (b : Bool) → (label_row l).introduces ≡ b
        → own l (position_in g sk) r + total (map span_of (out-Skeleton sk).children) r + past (out-Skeleton sk).end r ≤ past (out-Skeleton sk).start r
    by true e =
        let it : Introduces (body_of g (out-Skeleton sk).rule) = new (out-Skeleton sk).rule l named e in
        let mine : own l (position_in g sk) r ≡ one (position_in g sk == r) = ap (λ b. cond b (one (position_in g sk == r)) 0) e in
        let here : one (introduced_at (body_of g (out-Skeleton sk).rule) (out-Skeleton sk).start (ends_in (map span_of (out-Skeleton sk).children)) == r)
        ≡ one (position_in g sk == r) =
        ap (λ es. one (introduced_at (body_of g (out-Skeleton sk).rule) (out-Skeleton sk).start es == r)) (span_ends (out-Skeleton sk).children) in
        let has : 1 ≤ count_by is_introduction (body_of g (out-Skeleton sk).rule) = omega (arith, it.once) in
        omega (
          arith,
          mine,
          here,
          own_inside false (body_of g (out-Skeleton sk).rule) (out-Skeleton sk).start (map span_of (out-Skeleton sk).children)
              (out-Skeleton sk).end r (body_leads g sk ordered) it.behind has,
        )
    by false e =
        let none : own l (position_in g sk) r ≡ 0 = ap (λ b. cond b (one (position_in g sk == r)) 0) e in
        omega (
          arith,
          none,
          children_inside (body_of g (out-Skeleton sk).rule) (out-Skeleton sk).start (map span_of (out-Skeleton sk).children)
              (out-Skeleton sk).end r (body_leads g sk ordered),
        )

-- a skeleton in order whose children introduce each referent once, in their spans, does so
pub node_light : (g : GrammarParts) (sk : Skeleton) → is_in_order g sk ≡ true → AllLight g (out-Skeleton sk).children → LightIn g sk
node_light g sk ordered all new names = by (label_of g (out-Skeleton sk).rule) refl
  where
    by : (o : Option Label) → label_of g (out-Skeleton sk).rule ≡ o → Light (inside (span_of sk)) (meaning_in g names sk)
    by None e = subst (Light (inside (span_of sk))) (sym (meaning_none g names sk e)) (light_nothing (inside (span_of sk)))
    by (Some l) e =
        let light : AllLight g (meant_children g sk) = kept_light g (λ c. is_meant g (out-Skeleton c).rule) (out-Skeleton sk).children all in
        let v : ℕ → ℕ = λ r. weight_at (meant_children g sk) 0 r in
        let w : ℕ → ℕ = λ r. weight_at (meant_children g sk) 1 r in
        let le : (r : ℕ) → own l (position_in g sk) r + weight_at (meant_children g sk) 0 r + weight_at (meant_children g sk) 1 r ≤ inside (span_of sk) r = λ r.
        omega (
          arith,
          own_le g sk l r ordered e new,
          two_weights (meant_children g sk) r,
          kept_weight (λ c. is_meant g (out-Skeleton c).rule) (out-Skeleton sk).children r,
        ) in
        subst (Light (inside (span_of sk))) (sym (meaning_by g names sk l e))
        (light_more (λ r. own l (position_in g sk) r + weight_at (meant_children g sk) 0 r + weight_at (meant_children g sk) 1 r) (inside (span_of sk))
        (meaning l (made_in g names sk)) le
        (light_label (made_in g names sk) v w (nth_light g (meant_children g sk) 0 light new names) (nth_light g (meant_children g sk) 1 light new names) l))
