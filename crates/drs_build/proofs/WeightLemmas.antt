-- How often the places of a body's parts have a referent: together at most as often as its span.
use Rattle.std.proofs.Common.{◌≡◌, ℕ, ◌+◌, ◌-◌, ◌≤◌, Bool, true, false, cond, List, [], ◌∷◌, map, ap, arith}
use Rattle.std.specs.Prelude.{◌&&◌, ◌==◌, nat_le, nat_lt, count_by}
use Rattle.std.proofs.lemmas.Bool.Decides.{nat_tests}
use Rattle.std.proofs.lemmas.Bool.{and_parts, leb-true, eqb-true}
use Rattle.codeco_terms.specs.declared.elements.Element.{Element}
use Rattle.codeco_terms.specs.declared.elements.Element.TheVariants.{Terminal, Preterminal, Sub, Position, Opener, Forward, Strong, Back, NoBack}
use Rattle.codeco_checked.specs.Labels.{is_introduction, introduces_behind_tokens}
use Rattle.drs_build.specs.Nodes.{introduced_at}
use Rattle.drs_build.specs.Order.{Span, leads}
use Rattle.drs_build.proofs.CountLemmas.{one}

-- the referent lies behind the place
abbrev pub past : ℕ → ℕ → ℕ
past place r = one (nat_lt place r)

-- the referent lies in the span: one, else none
abbrev pub inside : Span → ℕ → ℕ
inside span r = past span.start r - past span.end r

abbrev pub total : List Span → ℕ → ℕ
total [] r = 0
total (span ∷ spans) r = inside span r + total spans r

past_down : (a b r : ℕ) → a ≤ b → past b r ≤ past a r
past_down a b r h = grind (arith, nat_tests)

past_next : (a r : ℕ) → past a r ≡ one (a + 1 == r) + past (a + 1) r
past_next a r = grind (arith, nat_tests)

pub inside_small : (span : Span) (r : ℕ) → inside span r ≤ 1
inside_small span r = by (nat_lt span.start r)
  where
    by : (b : Bool) → one b - past span.end r ≤ 1
    by true = omega arith
    by false = omega arith

-- a child, and what comes behind it
record Parted (place : ℕ) (span : Span) (es : List Element) (spans : List Span) (end r : ℕ) : Type 0 where
  pub inside : inside span r + past span.end r ≡ past place r
  pub later : leads es span.end spans end ≡ true

parted : (place : ℕ) (span : Span) (es : List Element) (spans : List Span) (end r : ℕ)
    → ((span.start == place) && (nat_le span.start span.end && leads es span.end spans end)) ≡ true → Parted place span es spans end r
parted place span es spans end r h =
    let one_part = and_parts (span.start == place) (nat_le span.start span.end && leads es span.end spans end) h in
    let more_part = and_parts (nat_le span.start span.end) (leads es span.end spans end) one_part.1 in
    let from : span.start ≡ place = eqb-true span.start place one_part.0 in
    let same : past span.start r ≡ past place r = ap (λ x. past x r) from in
    let down : past span.end r ≤ past span.start r = past_down span.start span.end r (leb-true span.start span.end more_part.0) in
    record { inside = omega arith; later = more_part.1 }

-- the children of a body are inside it
pub children_inside : (es : List Element) (place : ℕ) (spans : List Span) (end r : ℕ) → leads es place spans end ≡ true
    → total spans r + past end r ≤ past place r
children_inside [] place [] end r h = omega (arith, ap (λ x. past x r) (eqb-true place end h))
children_inside [] place (span ∷ spans) end r h = absurd cc
children_inside (Terminal t ∷ es) place spans end r h = omega (arith, children_inside es (place + 1) spans end r h, past_next place r)
children_inside (Preterminal c ∷ es) place spans end r h = omega (arith, children_inside es (place + 1) spans end r h, past_next place r)
children_inside (Sub c ∷ es) place [] end r h = children_inside es place [] end r h
children_inside (Sub c ∷ es) place (span ∷ spans) end r h =
    let parts : Parted place span es spans end r = parted place span es spans end r h in
    omega (arith, parts.inside, children_inside es span.end spans end r parts.later)
children_inside (Position x ∷ es) place spans end r h = children_inside es place spans end r h
children_inside (Opener ∷ es) place spans end r h = children_inside es place spans end r h
children_inside (Forward c ∷ es) place spans end r h = children_inside es place spans end r h
children_inside (Strong c ∷ es) place spans end r h = children_inside es place spans end r h
children_inside (Back ps ns ∷ es) place spans end r h = children_inside es place spans end r h
children_inside (NoBack ps ∷ es) place spans end r h = children_inside es place spans end r h

-- the referent of a place, where a token stands before it
abbrev pub at_place : Bool → ℕ → ℕ → ℕ
at_place before place r = cond before (one (place == r)) 0

abbrev pub ends_in : List Span → List ℕ
ends_in spans = map (λ s. s.end) spans

-- what has to be said of the elements from an element on
abbrev pub Fitting : Bool → List Element → ℕ → List Span → ℕ → ℕ → Type 0
Fitting before es place spans end r = one (introduced_at es place (ends_in spans) == r) + total spans r + past end r ≤ past place r + at_place before place r

-- an introduction, behind a token
introduction_inside : (before : Bool) (es : List Element) (place : ℕ) (spans : List Span) (end r : ℕ) → leads es place spans end ≡ true → before ≡ true
    → one (place == r) + total spans r + past end r ≤ past place r + at_place before place r
introduction_inside before es place spans end r h is =
    let here : at_place before place r ≡ one (place == r) = ap (λ b. at_place b place r) is in
    omega (arith, children_inside es place spans end r h, here)

-- The body's own referent and its children are inside it: the token before the introduction belongs to no child.
pub own_inside : (before : Bool) (es : List Element) (place : ℕ) (spans : List Span) (end r : ℕ) → leads es place spans end ≡ true
    → introduces_behind_tokens before es ≡ true → 1 ≤ count_by is_introduction es → Fitting before es place spans end r
own_inside before [] place spans end r h behind has = absurd (omega arith)
own_inside before (Terminal t ∷ es) place spans end r h behind has = omega (arith, own_inside true es (place + 1) spans end r h behind has, past_next place r)
own_inside before (Preterminal c ∷ es) place spans end r h behind has =
    omega (arith, own_inside true es (place + 1) spans end r h behind has, past_next place r)
own_inside before (Sub c ∷ es) place [] end r h behind has = omega (arith, own_inside false es place [] end r h behind has)
own_inside before (Sub c ∷ es) place (span ∷ spans) end r h behind has =
    let parts : Parted place span es spans end r = parted place span es spans end r h in
    omega (arith, parts.inside, own_inside false es span.end spans end r parts.later behind has)
own_inside before (Position x ∷ es) place spans end r h behind has = own_inside before es place spans end r h behind has
own_inside before (Opener ∷ es) place spans end r h behind has = own_inside before es place spans end r h behind has
own_inside before (Forward c ∷ es) place spans end r h behind has =
    introduction_inside before es place spans end r h (and_parts before (introduces_behind_tokens false es) behind).0
own_inside before (Strong c ∷ es) place spans end r h behind has =
    introduction_inside before es place spans end r h (and_parts before (introduces_behind_tokens false es) behind).0
own_inside before (Back ps ns ∷ es) place spans end r h behind has = omega (arith, own_inside false es place spans end r h behind has)
own_inside before (NoBack ps ∷ es) place spans end r h behind has = omega (arith, own_inside false es place spans end r h behind has)
