-- A statement is true exactly where all its axioms are, and a question's class has the elements that answer it.
use Rattle.std.proofs.Common.{◌≡◌, ℕ, ◌<◌, ◌==◌, ◌&&◌, ◌||◌, Bool, true, false, List, [], ◌∷◌, ◌++◌, map, length, Option, Some, None, Result, Ok, Err, Decides, refl, sym, ap, ◌∙◌, subst, inl, inr, arith}
use Rattle.std.specs.Prelude.{◌⊎◌, not, cond, if◌then◌else◌}
use Rattle.std.specs.List.{list_any, list_all, filter, cons_option}
use Rattle.std.proofs.lemmas.Bool.{cases_Bool, eq-eqb, ne_eqb, or_cases, or_right, and_from, eqb-true, both_ways}
use Rattle.std.proofs.lemmas.List.Folds.{list_any-append}
use Rattle.wiki_base.specs.declared.numbers.WordId.{WordId}
use Rattle.wiki_base.proofs.BoolLaws.{and_first, and_second, same_tests}
use Rattle.logic_terms.specs.declared.structures.Thing.TheVariants.{Ref, Name}
use Rattle.logic_terms.specs.declared.cause.Cause.{Cause}
use Rattle.logic_terms.specs.declared.cause.Cause.TheVariants.{NoRoot}
use Rattle.logic_terms.specs.Concept.{Concept, Claim, ClassAssertion}
use Rattle.logic_terms.specs.Structure.{Condition, Conditions, Structure, no_condition, also_condition, structure, conditions_from, condition_list, referents_in}
use Rattle.logic_terms.specs.Free.{is_bound}
use Rattle.logic_terms.specs.Introduced.{introduced_in, introduced_in_all, introduced_in_condition, all_distinct}
use Rattle.logic_terms.specs.Interpretation.{Interpretation, is_interpretation, element_of}
use Rattle.logic_terms.specs.Meaning.{is_in, holds, all_hold}
use Rattle.logic_terms.specs.Truth.{giving, is_true, all_true, condition_true}
use Rattle.logic_terms.specs.Reading.{Extends}
use Rattle.logic_terms.proofs.MeaningLemmas.{list_any-Contains}
use Rattle.logic_terms.proofs.Extensions.{same_at, some_extension-Decides}
use Rattle.ace_to_owl.specs.Outcomes.{next}
use Rattle.ace_to_owl.specs.Terms.{terms_in_all, terms_in_condition, first_name}
use Rattle.ace_to_owl.specs.Moves.{gathered}
use Rattle.ace_to_owl.specs.Rolling.{roll}
use Rattle.ace_to_owl.specs.Mapping.{without, class_asked, member_claim, claim_alone, own_terms, joined, together, referents_with, conditions_with, claim_together, claim_at, claims_after, axioms_stated}
use Rattle.ace_to_owl.proofs.GroupLemmas.{joined_more}
use Rattle.ace_to_owl.proofs.RollMeaning.{Went, went, no_err, ok_same, fresh_in, fresh_in_all, fresh_in_condition}
use Rattle.ace_to_owl.proofs.Fresh.{Among, Apart, apart_of, fresh_once, fresh_less_condition, bound_filter}
use Rattle.ace_to_owl.proofs.TermsTruth.{is_used, condition_alike, has_own}
use Rattle.ace_to_owl.proofs.RollTruth.{roll_true}
use Rattle.ace_to_owl.proofs.AloneTruth.{positive, alone_says, without_fresh}

-- what groups join has one label
abbrev pub grouped : List (List ℕ) → ℕ → ℕ
grouped [] n = n
grouped (g ∷ gs) n = gathered (grouped gs) g n

joined-grouped : (gs : List (List ℕ)) (q p : ℕ) → (grouped gs q == grouped gs p) ≡ joined gs q p
joined-grouped [] q p = refl
joined-grouped (g ∷ gs) q p = joined_more (grouped gs) (grouped (g ∷ gs)) g gs (λ a b. joined-grouped gs a b) (λ n. refl) q p

label_of : (gs : List (List ℕ)) (q p : ℕ) → joined gs q p ≡ true → grouped gs q ≡ grouped gs p
label_of gs q p h = eqb-true (grouped gs q) (grouped gs p) (joined-grouped gs q p ∙ h)

joined_by : (gs : List (List ℕ)) (q p : ℕ) → grouped gs q ≡ grouped gs p → joined gs q p ≡ true
joined_by gs q p e = sym (joined-grouped gs q p) ∙ eq-eqb (grouped gs q) (grouped gs p) e

joined_refl : (gs : List (List ℕ)) (q : ℕ) → joined gs q q ≡ true
joined_refl gs q = joined_by gs q q refl

joined_sym : (gs : List (List ℕ)) (q p : ℕ) → joined gs q p ≡ true → joined gs p q ≡ true
joined_sym gs q p h = joined_by gs p q (sym (label_of gs q p h))

joined_trans : (gs : List (List ℕ)) (q p r : ℕ) → joined gs q p ≡ true → joined gs p r ≡ true → joined gs q r ≡ true
joined_trans gs q p r h g = joined_by gs q r (label_of gs q p h ∙ label_of gs p r g)

-- a member of a list that passes a test
any_at : (test : ℕ → Bool) (xs : List ℕ) (q : ℕ) → is_bound xs q ≡ true → test q ≡ true → list_any test xs ≡ true
any_at test [] q h t = h
any_at test (x ∷ xs) q h t = elim (or_cases (x == q) (is_bound xs q) h) [
  | inl here ↦ ap (λ b. b || list_any test xs) (ap test (eqb-true x q here) ∙ t)
  | inr later ↦ or_right (test x) (list_any test xs) (any_at test xs q later t)
]

record Passing (test : ℕ → Bool) (xs : List ℕ) : Type 0 where
  at : ℕ
  among : is_bound xs at ≡ true
  passes : test at ≡ true

any_from : (test : ℕ → Bool) (xs : List ℕ) → list_any test xs ≡ true → Passing test xs
any_from test [] h = absurd (both_ways false refl h)
any_from test (x ∷ xs) h = elim (or_cases (test x) (list_any test xs) h) [
  | inl here ↦ record { at = x; among = ap (λ b. b || is_bound xs x) (eq-eqb x x refl); passes = here }
  | inr later ↦ (let w : Passing test xs = any_from test xs later in
      record { at = w.at; among = or_right (x == w.at) (is_bound xs w.at) w.among; passes = w.passes })
]

-- two groups with referents that are joined
record Meeting (gs : List (List ℕ)) (own other : List ℕ) : Type 0 where
  q : ℕ
  p : ℕ
  mine : is_bound own q ≡ true
  theirs : is_bound other p ≡ true
  join : joined gs q p ≡ true

meeting : (gs : List (List ℕ)) (own other : List ℕ) → together gs own other ≡ true → Meeting gs own other
meeting gs own other h =
    let one : Passing (λ q. list_any (λ p. joined gs q p) other) own = any_from (λ q. list_any (λ p. joined gs q p) other) own h in
    let two : Passing (λ p. joined gs one.at p) other = any_from (λ p. joined gs one.at p) other one.passes in
    record { q = one.at; p = two.at; mine = one.among; theirs = two.among; join = two.passes }

meet : (gs : List (List ℕ)) (own other : List ℕ) (q p : ℕ) → is_bound own q ≡ true → is_bound other p ≡ true → joined gs q p ≡ true
    → together gs own other ≡ true
meet gs own other q p mine theirs join =
    any_at (λ a. list_any (λ b. joined gs a b) other) own q mine (any_at (λ b. joined gs q b) other p theirs join)

-- a condition stands in a list
abbrev pub Listed : Condition → List Condition → Type 0
Listed c [] = ⊥
Listed c (d ∷ ds) = (c ≡ d) ⊎ Listed c ds

-- the referents that a condition uses are joined
group_joins : (rs : List ℕ) (all : List Condition) (c : Condition) (q p : ℕ) → Listed c all → is_bound (own_terms rs c) q ≡ true
    → is_bound (own_terms rs c) p ≡ true → joined (map (own_terms rs) all) q p ≡ true
group_joins rs [] c q p listed mine theirs = absurd listed
group_joins rs (d ∷ ds) c q p listed mine theirs = elim listed [
  | inl same ↦ (let gs : List (List ℕ) = map (own_terms rs) ds in
      let g : List ℕ = own_terms rs d in
      or_right (joined gs q p) (list_any (λ r. joined gs q r) g && list_any (λ r. joined gs r p) g)
      (and_from (list_any (λ r. joined gs q r) g) (list_any (λ r. joined gs r p) g)
      (any_at (λ r. joined gs q r) g q (sym (ap (λ e. is_bound (own_terms rs e) q) same) ∙ mine) (joined_refl gs q))
      (any_at (λ r. joined gs r p) g p (sym (ap (λ e. is_bound (own_terms rs e) p) same) ∙ theirs) (joined_refl gs p))))
  | inr later ↦ (let gs : List (List ℕ) = map (own_terms rs) ds in
      let g : List ℕ = own_terms rs d in
      ap (λ b. b || (list_any (λ r. joined gs q r) g && list_any (λ r. joined gs r p) g)) (group_joins rs ds c q p later mine theirs))
]

-- conditions that are kept are those that pass
kept_listed : (t : Bool) (test : Condition → Bool) (d c : Condition) (more : List Condition) → test d ≡ t → Listed c (cond t (d ∷ more) more)
    → (((c ≡ d) × (test c ≡ true)) ⊎ Listed c more)
kept_listed true test d c more is h = elim h [ inl same ↦ inl (same, ap test same ∙ is) | inr later ↦ inr later ]
kept_listed false test d c more is h = inr h

listed_kept : (t : Bool) (test : Condition → Bool) (d c : Condition) (more : List Condition) → test d ≡ t → test c ≡ true → (c ≡ d) ⊎ Listed c more
    → Listed c (cond t (d ∷ more) more)
listed_kept true test d c more is passes h = h
listed_kept false test d c more is passes h = elim h [
  | inl same ↦ absurd (both_ways (test d) is (sym (ap test same) ∙ passes))
  | inr later ↦ later
]

filter_listed : (test : Condition → Bool) (cs : List Condition) (c : Condition) → Listed c (filter test cs) → Listed c cs
filter_listed test [] c h = h
filter_listed test (d ∷ cs) c h = elim (kept_listed (test d) test d c (filter test cs) refl h) [
  | inl here ↦ inl here.0
  | inr later ↦
      inr (filter_listed test cs c later)
]

listed_filter : (test : Condition → Bool) (cs : List Condition) (c : Condition) → test c ≡ true → Listed c cs → Listed c (filter test cs)
listed_filter test [] c passes h = h
listed_filter test (d ∷ cs) c passes h = elim h [
  | inl same ↦ listed_kept (test d) test d c (filter test cs) refl passes (inl same)
  | inr later ↦ listed_kept (test d) test d c (filter test cs) refl passes (inr (listed_filter test cs c passes later))
]

all_true_each : (i : Interpretation) (cs : List Condition) (g : ℕ → ℕ) → all_true i (conditions_from cs) g ≡ true → (c : Condition) → Listed c cs
    → condition_true i c g ≡ true
all_true_each i [] g h c listed = absurd listed
all_true_each i (d ∷ cs) g h c listed = elim listed [
  | inl same ↦ ap (λ e. condition_true i e g) same ∙ and_first (condition_true i d g) (all_true i (conditions_from cs) g) h
  | inr later ↦ all_true_each i cs g (and_second (condition_true i d g) (all_true i (conditions_from cs) g) h) c later
]

each_all_true : (i : Interpretation) (cs : List Condition) (g : ℕ → ℕ) → ((c : Condition) → Listed c cs → condition_true i c g ≡ true)
    → all_true i (conditions_from cs) g ≡ true
each_all_true i [] g each = refl
each_all_true i (d ∷ cs) g each =
    and_from (condition_true i d g) (all_true i (conditions_from cs) g) (each d (inl refl)) (each_all_true i cs g (λ c listed. each c (inr listed)))

-- what is known of each condition of a statement
pub record Known (rs : List ℕ) (c : Condition) : Type 0 where
  pub once : all_distinct (introduced_in_condition c) ≡ true
  pub fresh : fresh_in_condition rs c ≡ true

all_known : (rs : List ℕ) (cs : Conditions) → all_distinct (introduced_in_all cs) ≡ true → fresh_in_all rs cs ≡ true → (c : Condition)
    → Listed c (condition_list cs) → Known rs c
all_known rs no_condition once fresh c listed = absurd listed
all_known rs (also_condition d cs) once fresh c listed =
    let two : Apart (introduced_in_condition d) (introduced_in_all cs) = apart_of (introduced_in_condition d) (introduced_in_all cs) once in
    elim listed [
      | inl same ↦ subst (Known rs) (sym same) (record { once = two.first; fresh = and_first (fresh_in_condition rs d) (fresh_in_all rs cs) fresh })
      | inr later ↦ all_known rs cs two.second (and_second (fresh_in_condition rs d) (fresh_in_all rs cs) fresh) c later
    ]

known_fresh_all : (rs fewer : List ℕ) (cs : List Condition) → Among fewer rs → ((c : Condition) → Listed c cs → Known rs c)
    → fresh_in_all fewer (conditions_from cs) ≡ true
known_fresh_all rs fewer [] less each = refl
known_fresh_all rs fewer (d ∷ cs) less each =
    and_from (fresh_in_condition fewer d) (fresh_in_all fewer (conditions_from cs))
    (fresh_less_condition fewer rs d less (each d (inl refl)).fresh)
    (known_fresh_all rs fewer cs less (λ c listed. each c (inr listed)))

none_out : (rs : List ℕ) → list_all (λ r. not (is_bound [] r)) rs ≡ true
none_out [] = refl
none_out (r ∷ rs) = none_out rs

-- a component's axiom is true where some elements for its referents make its conditions true
component_says : (i : Interpretation) (rs inside : List ℕ) (cs : List Condition) (claim : Claim) → Among inside rs
    → ((c : Condition) → Listed c cs → Known rs c) → claim_together inside cs ≡ Ok claim → (f : ℕ → ℕ)
    → holds i claim ≡ is_true i (structure inside (conditions_from cs)) f
component_says i rs inside cs claim less each e f = by (first_name (terms_in_all [] (conditions_from cs))) e
  where
    by : (o : Option WordId) → ◌≡◌ {A = Result Claim Cause}
        (elim o [ Some name ↦ member_claim name (structure inside (conditions_from cs)) | None ↦ Err NoRoot ]) (Ok claim)
        → holds i claim ≡ is_true i (structure inside (conditions_from cs)) f
    by None h = absurd (no_err NoRoot claim h)
    by (Some name) h =
        let w : Went (roll (Some (Name name)) (structure inside (conditions_from cs))) (λ d. Ok (ClassAssertion d name)) claim =
        went (roll (Some (Name name)) (structure inside (conditions_from cs))) (λ d. Ok (ClassAssertion d name)) claim h in
        sym (ap (holds i) (ok_same (ClassAssertion w.from name) claim w.after))
        ∙ roll_true i [] (Some (Name name)) (structure inside (conditions_from cs)) w.from
        (and_from (list_all (λ r. not (is_bound [] r)) inside) (fresh_in_all inside (conditions_from cs)) (none_out inside)
        (known_fresh_all rs inside cs less each))
        tt w.first f (element_of i name) refl

-- what an axiom at a place is, by the cases of its condition
pub data Step (rs : List ℕ) (all : List Condition) (before : List (List ℕ)) (c : Condition) (o : Option Claim) : Type 0 where
  by_itself : (claim : Claim) → o ≡ Some claim → own_terms rs c ≡ [] → claim_alone c ≡ Ok claim → Step rs all before c o
  gone_before : o ≡ None → list_any (together (map (own_terms rs) all) (own_terms rs c)) before ≡ true → Step rs all before c o
  new_component : (claim : Claim) → o ≡ Some claim → (q : ℕ) → is_bound (own_terms rs c) q ≡ true
      → list_any (together (map (own_terms rs) all) (own_terms rs c)) before ≡ false
      → claim_together (referents_with (map (own_terms rs) all) (own_terms rs c) rs) (conditions_with rs (map (own_terms rs) all) (own_terms rs c) all)
      ≡ Ok claim → Step rs all before c o

step_by : (rs : List ℕ) (all : List Condition) (before : List (List ℕ)) (c : Condition) (o : Option Claim) (own : List ℕ) (was : Bool) → own_terms rs c ≡ own
    → list_any (together (map (own_terms rs) all) (own_terms rs c)) before ≡ was
    → (if length own == 0 then next (claim_alone c) (λ claim. Ok (Some claim)) else if was then Ok None
    else next (claim_together (referents_with (map (own_terms rs) all) (own_terms rs c) rs) (conditions_with rs (map (own_terms rs) all) (own_terms rs c) all))
    (λ claim. Ok (Some claim))) ≡ Ok o → Step rs all before c o
step_by rs all before c o [] was is is_w e =
    let w : Went (claim_alone c) (λ claim. Ok (Some claim)) o = went (claim_alone c) (λ claim. Ok (Some claim)) o e in
    by_itself w.from (sym (ok_same (Some w.from) o w.after)) is w.first
step_by rs all before c o (q ∷ qs) true is is_w e =
    let some : (length (q ∷ qs) == 0) ≡ false = ne_eqb (length (q ∷ qs)) 0 (λ z. omega arith) in
    gone_before (sym (ok_same None o (sym (ap (λ b. if b then next (claim_alone c) (λ claim. Ok (Some claim)) else Ok None) some) ∙ e))) is_w
step_by rs all before c o (q ∷ qs) false is is_w e =
    let some : (length (q ∷ qs) == 0) ≡ false = ne_eqb (length (q ∷ qs)) 0 (λ z. omega arith) in
    let make : Result Claim Cause = claim_together (referents_with (map (own_terms rs) all) (own_terms rs c) rs)
    (conditions_with rs (map (own_terms rs) all) (own_terms rs c) all) in
    let w : Went make (λ claim. Ok (Some claim)) o =
    went make (λ claim. Ok (Some claim)) o
    (sym (ap (λ b. if b then next (claim_alone c) (λ claim. Ok (Some claim)) else next make (λ claim. Ok (Some claim))) some) ∙ e) in
    new_component w.from (sym (ok_same (Some w.from) o w.after)) q (ap (λ own. is_bound own q) is ∙ ap (λ b. b || is_bound qs q) (eq-eqb q q refl)) is_w w.first

step_of : (rs : List ℕ) (all : List Condition) (before : List (List ℕ)) (c : Condition) (o : Option Claim)
    → claim_at rs (map (own_terms rs) all) all before (own_terms rs c) c ≡ Ok o → Step rs all before c o
step_of rs all before c o e =
    step_by rs all before c o (own_terms rs c) (list_any (together (map (own_terms rs) all) (own_terms rs c)) before) refl refl e

-- an axiom and those after it
front_holds : (i : Interpretation) (o : Option Claim) (claims : List Claim)
    → all_hold i (cons_option o claims) ≡ ((elim o [ Some claim ↦ holds i claim | None ↦ true ]) && all_hold i claims)
front_holds i (Some claim) claims = refl
front_holds i None claims = refl

more_before : (test : List ℕ → Bool) (before : List (List ℕ)) (g : List ℕ) → list_any test (before ++ g ∷ []) ≡ true
    → (list_any test before ≡ true) ⊎ (test g ≡ true)
more_before test before g h = elim (or_cases (list_any test before) (test g || false) (sym (list_any-append test before (g ∷ [])) ∙ h)) [
  | inl old ↦ inl old
  | inr new ↦ elim (or_cases (test g) false new) [ inl is_so ↦ inr is_so | inr is_not ↦ absurd (both_ways false refl is_not) ]
]

before_old : (test : List ℕ → Bool) (before : List (List ℕ)) (g : List ℕ) → list_any test before ≡ true → list_any test (before ++ g ∷ []) ≡ true
before_old test before g h = list_any-append test before (g ∷ []) ∙ ap (λ b. b || (test g || false)) h

before_new : (test : List ℕ → Bool) (before : List (List ℕ)) (g : List ℕ) → test g ≡ true → list_any test (before ++ g ∷ []) ≡ true
before_new test before g h = list_any-append test before (g ∷ []) ∙ or_right (list_any test before) (test g || false) (ap (λ b. b || false) h)

record PassingGroup (test : List ℕ → Bool) (gs : List (List ℕ)) : Type 0 where
  group : List ℕ
  passes : test group ≡ true
  carries : (other : List ℕ → Bool) → other group ≡ true → list_any other gs ≡ true

group_from : (test : List ℕ → Bool) (gs : List (List ℕ)) → list_any test gs ≡ true → PassingGroup test gs
group_from test [] h = absurd (both_ways false refl h)
group_from test (g ∷ gs) h = elim (or_cases (test g) (list_any test gs) h) [
  | inl here ↦ record { group = g; passes = here; carries = λ other p. ap (λ b. b || list_any other gs) p }
  | inr later ↦ (let w : PassingGroup test gs = group_from test gs later in
      record { group = w.group; passes = w.passes; carries = λ other p. or_right (other g) (list_any other gs) (w.carries other p) })
]

-- a statement's conditions, each of which is known
module _ (i : Interpretation) (lawful : is_interpretation i ≡ true) (rs : List ℕ) (all : List Condition) (known : (c : Condition) → Listed c all → Known rs c)
  where
    unfoldable inside_of : Condition → List ℕ
    inside_of c = referents_with (map (own_terms rs) all) (own_terms rs c) rs

    unfoldable with_of : Condition → List Condition
    with_of c = conditions_with rs (map (own_terms rs) all) (own_terms rs c) all

    inside_among : (c : Condition) → Among (inside_of c) rs
    unfolding inside_of
    inside_among c q h = (bound_filter (λ p. list_any (λ r. joined (map (own_terms rs) all) r p) (own_terms rs c)) rs q h).0

    inside_joined : (c : Condition) (q : ℕ) → is_bound (inside_of c) q ≡ true → Passing (λ r. joined (map (own_terms rs) all) r q) (own_terms rs c)
    unfolding inside_of
    inside_joined c q h =
        any_from (λ r. joined (map (own_terms rs) all) r q) (own_terms rs c)
        (bound_filter (λ p. list_any (λ r. joined (map (own_terms rs) all) r p) (own_terms rs c)) rs q h).1

    with_listed : (c d : Condition) → Listed d (with_of c) → Listed d all
    unfolding with_of
    with_listed c d h = filter_listed (λ e. together (map (own_terms rs) all) (own_terms rs c) (own_terms rs e)) all d h

    listed_with : (c d : Condition) → together (map (own_terms rs) all) (own_terms rs c) (own_terms rs d) ≡ true → Listed d all → Listed d (with_of c)
    unfolding with_of
    listed_with c d t h = listed_filter (λ e. together (map (own_terms rs) all) (own_terms rs c) (own_terms rs e)) all d t h

    alone_true : (c : Condition) (claim : Claim) → Listed c all → claim_alone c ≡ Ok claim → (f : ℕ → ℕ) → holds i claim ≡ condition_true i c f
    alone_true c claim listed e f =
        let k : Known rs c = known c listed in
        (alone_says i c claim lawful k.once (fresh_less_condition [] rs c (λ q h. absurd (both_ways false refl h)) k.fresh) e).truth f

    component_true : (c : Condition) (claim : Claim) → claim_together (inside_of c) (with_of c) ≡ Ok claim → (f : ℕ → ℕ)
        → holds i claim ≡ is_true i (structure (inside_of c) (conditions_from (with_of c))) f
    component_true c claim e f = component_says i rs (inside_of c) (with_of c) claim (inside_among c) (λ d h. known d (with_listed c d h)) e f

    some_inside : (c : Condition) (f : ℕ → ℕ)
        → Decides (is_true i (structure (inside_of c) (conditions_from (with_of c))) f)
        ((g : ℕ → ℕ) × Extends i.size (inside_of c) f g × (all_true i (conditions_from (with_of c)) g ≡ true))
    some_inside c f =
        some_extension-Decides i.size (inside_of c) (λ g. all_true i (conditions_from (with_of c)) g) (λ g. all_true i (conditions_from (with_of c)) g ≡ true)
        (λ g. (λ t. t, λ t. t)) f

    -- elements that make all conditions true make all axioms true
    module _ (g : ℕ → ℕ) (sized : (q : ℕ) → is_bound rs q ≡ true → g q < i.size) (trues : (c : Condition) → Listed c all → condition_true i c g ≡ true) where
      step_forth : (before : List (List ℕ)) (c : Condition) (o : Option Claim) → Listed c all → Step rs all before c o
          → (elim o [ Some claim ↦ holds i claim | None ↦ true ]) ≡ true
      unfolding inside_of with_of
      step_forth before c o listed (by_itself claim is none e) =
          ap (λ p. elim p [ Some k ↦ holds i k | None ↦ true ]) is ∙ alone_true c claim listed e g ∙ trues c listed
      step_forth before c o listed (gone_before is was) = ap (λ p. elim p [ Some k ↦ holds i k | None ↦ true ]) is
      step_forth before c o listed (new_component claim is q own new e) =
          ap (λ p. elim p [ Some k ↦ holds i k | None ↦ true ]) is
          ∙ component_true c claim e g
          ∙ (some_inside c g).1 (
            g,
            record { introduced = λ r h. sized r (inside_among c r ((list_any-Contains (inside_of c) r).1 h)); others = λ r out. refl },
            each_all_true i (with_of c) g (λ d h. trues d (with_listed c d h)),
          )

      claims_forth : (before : List (List ℕ)) (cs : List Condition) (claims : List Claim) → ((c : Condition) → Listed c cs → Listed c all)
          → claims_after rs (map (own_terms rs) all) all before cs ≡ Ok claims → all_hold i claims ≡ true
      claims_forth before [] claims within e = sym (ap (all_hold i) (ok_same [] claims e))
      claims_forth before (c ∷ cs) claims within e =
          let w : Went (claim_at rs (map (own_terms rs) all) all before (own_terms rs c) c)
          (λ claim. next (claims_after rs (map (own_terms rs) all) all (before ++ own_terms rs c ∷ []) cs) (λ more. Ok (cons_option claim more))) claims =
          went (claim_at rs (map (own_terms rs) all) all before (own_terms rs c) c)
          (λ claim. next (claims_after rs (map (own_terms rs) all) all (before ++ own_terms rs c ∷ []) cs) (λ more. Ok (cons_option claim more))) claims e in
          let v : Went (claims_after rs (map (own_terms rs) all) all (before ++ own_terms rs c ∷ []) cs) (λ more. Ok (cons_option w.from more)) claims =
          went (claims_after rs (map (own_terms rs) all) all (before ++ own_terms rs c ∷ []) cs) (λ more. Ok (cons_option w.from more)) claims w.after in
          sym (ap (all_hold i) (ok_same (cons_option w.from v.from) claims v.after))
          ∙ front_holds i w.from v.from
          ∙ and_from (elim w.from [ Some claim ↦ holds i claim | None ↦ true ]) (all_hold i v.from)
          (step_forth before c w.from (within c (inl refl)) (step_of rs all before c w.from w.first))
          (claims_forth (before ++ own_terms rs c ∷ []) cs v.from (λ d h. within d (inr h)) v.first)

    -- elements for the referents where all axioms are true
    module _ (f : ℕ → ℕ) where
      -- whether a condition belongs together with one of these groups
      unfoldable is_done : List (List ℕ) → Condition → Bool
      is_done before d = list_any (together (map (own_terms rs) all) (own_terms rs d)) before

      -- elements that make the conditions true that are done
      record Found (before : List (List ℕ)) (h : ℕ → ℕ) : Type 0 where
        extends : Extends i.size rs f h
        done : (d : Condition) → Listed d all → is_done before d ≡ true → condition_true i d h ≡ true

      -- what one more condition needs
      record Next (before : List (List ℕ)) (c : Condition) : Type 0 where
        h : ℕ → ℕ
        found : Found (before ++ own_terms rs c ∷ []) h
        -- later elements that keep what is done make the condition true
        keeps : (g : ℕ → ℕ) → ((d : Condition) → Listed d all → is_done (before ++ own_terms rs c ∷ []) d ≡ true → condition_true i d g ≡ true)
            → condition_true i c g ≡ true

      -- a condition without referents
      next_alone : (before : List (List ℕ)) (c : Condition) (claim : Claim) (h : ℕ → ℕ) → Listed c all → own_terms rs c ≡ [] → claim_alone c ≡ Ok claim
          → holds i claim ≡ true → Found before h → Next before c
      unfolding is_done
      next_alone before c claim h listed none e true_claim found = record {
        h = h;
        found = record {
          extends = found.extends;
          done = λ d in_all was. elim (more_before (together (map (own_terms rs) all) (own_terms rs d)) before (own_terms rs c) was) [
            | inl old ↦ found.done d in_all old
            | inr new ↦ (let m : Meeting (map (own_terms rs) all) (own_terms rs d) (own_terms rs c) =
                meeting (map (own_terms rs) all) (own_terms rs d) (own_terms rs c) new in
                absurd (both_ways false refl (sym (ap (λ own. is_bound own m.p) none) ∙ m.theirs)))
          ];
        };
        keeps = λ g kept. sym (alone_true c claim listed e g) ∙ true_claim;
      }

      -- a condition of a component that came up already
      next_gone : (before : List (List ℕ)) (c : Condition) (h : ℕ → ℕ) → Listed c all → is_done before c ≡ true → Found before h → Next before c
      unfolding is_done
      next_gone before c h listed was found = record {
        h = h;
        found = record {
          extends = found.extends;
          done = λ d in_all now. elim (more_before (together (map (own_terms rs) all) (own_terms rs d)) before (own_terms rs c) now) [
            | inl old ↦ found.done d in_all old
            | inr new ↦ (let m : Meeting (map (own_terms rs) all) (own_terms rs d) (own_terms rs c) =
                meeting (map (own_terms rs) all) (own_terms rs d) (own_terms rs c) new in
                let w : PassingGroup (together (map (own_terms rs) all) (own_terms rs c)) before =
                group_from (together (map (own_terms rs) all) (own_terms rs c)) before was in
                let n : Meeting (map (own_terms rs) all) (own_terms rs c) w.group = meeting (map (own_terms rs) all) (own_terms rs c) w.group w.passes in
                found.done d in_all
                (w.carries (together (map (own_terms rs) all) (own_terms rs d))
                (meet (map (own_terms rs) all) (own_terms rs d) w.group m.q n.p m.mine n.theirs
                (joined_trans (map (own_terms rs) all) m.q m.p n.p m.join
                (joined_trans (map (own_terms rs) all) m.p n.q n.p (group_joins rs all c m.p n.q listed m.theirs n.mine) n.join)))))
          ];
        };
        keeps = λ g kept. kept c listed (before_old (together (map (own_terms rs) all) (own_terms rs c)) before (own_terms rs c) was);
      }

      -- the first condition of a component: elements for its referents
      next_new : (before : List (List ℕ)) (c : Condition) (claim : Claim) (q : ℕ) (h : ℕ → ℕ) → Listed c all → is_bound (own_terms rs c) q ≡ true
          → is_done before c ≡ false → claim_together (inside_of c) (with_of c) ≡ Ok claim → holds i claim ≡ true → Found before h → Next before c
      unfolding is_done
      next_new before c claim q h listed own new e true_claim found =
          let w : (g : ℕ → ℕ) × Extends i.size (inside_of c) h g × (all_true i (conditions_from (with_of c)) g ≡ true) =
          (some_inside c h).0 (sym (component_true c claim e h) ∙ true_claim) in
          record {
            h = w.0;
            found = record {
              extends = record {
                introduced = λ r in_rs. elim (cases_Bool (is_bound (inside_of c) r)) [
                  | inl is_so ↦ w.1.introduced r ((list_any-Contains (inside_of c) r).0 is_so)
                  | inr is_not ↦ subst (λ n. n < i.size)
                      (sym (w.1.others r (λ in_c. both_ways (is_bound (inside_of c) r) is_not ((list_any-Contains (inside_of c) r).1 in_c))))
                      (found.extends.introduced r in_rs)
                ];
                others = λ r out.
                    w.1.others r (λ in_c. out ((list_any-Contains rs r).0 (inside_among c r ((list_any-Contains (inside_of c) r).1 in_c))))
                    ∙ found.extends.others r out;
              };
              done = λ d in_all now. elim (more_before (together (map (own_terms rs) all) (own_terms rs d)) before (own_terms rs c) now) [
                | inl old ↦
                    sym (condition_alike i [] d h w.0
                    (λ r used. sym (w.1.others r (λ in_c. outside d in_all old r used ((list_any-Contains (inside_of c) r).1 in_c)))))
                    ∙ found.done d in_all old
                | inr with_it ↦ (let m : Meeting (map (own_terms rs) all) (own_terms rs d) (own_terms rs c) =
                    meeting (map (own_terms rs) all) (own_terms rs d) (own_terms rs c) with_it in
                    all_true_each i (with_of c) w.0 w.2 d
                    (listed_with c d (meet (map (own_terms rs) all) (own_terms rs c) (own_terms rs d) m.p m.q m.theirs m.mine
                    (joined_sym (map (own_terms rs) all) m.q m.p m.join)) in_all))
              ];
            };
            keeps = λ g kept.
                kept c listed
                (before_new (together (map (own_terms rs) all) (own_terms rs c)) before (own_terms rs c)
                (meet (map (own_terms rs) all) (own_terms rs c) (own_terms rs c) q q own own (joined_refl (map (own_terms rs) all) q)));
          }
        where
          outside : (d : Condition) → Listed d all → list_any (together (map (own_terms rs) all) (own_terms rs d)) before ≡ true → (r : ℕ)
              → is_used [] (terms_in_condition [] d) r ≡ true → is_bound (inside_of c) r ≡ true → ⊥
          outside d in_all old r used in_c =
              let j : Passing (λ p. joined (map (own_terms rs) all) p r) (own_terms rs c) = inside_joined c r in_c in
              let mine : is_bound (own_terms rs d) r ≡ true = has_own rs (terms_in_condition [] d) r (inside_among c r in_c) used in
              let w : PassingGroup (together (map (own_terms rs) all) (own_terms rs d)) before =
              group_from (together (map (own_terms rs) all) (own_terms rs d)) before old in
              let n : Meeting (map (own_terms rs) all) (own_terms rs d) w.group = meeting (map (own_terms rs) all) (own_terms rs d) w.group w.passes in
              both_ways (list_any (together (map (own_terms rs) all) (own_terms rs c)) before) new
              (w.carries (together (map (own_terms rs) all) (own_terms rs c))
              (meet (map (own_terms rs) all) (own_terms rs c) w.group j.at n.p j.among n.theirs
              (joined_trans (map (own_terms rs) all) j.at r n.p j.passes
              (joined_trans (map (own_terms rs) all) r n.q n.p (group_joins rs all d r n.q in_all mine n.mine) n.join))))

      step_back : (before : List (List ℕ)) (c : Condition) (o : Option Claim) (h : ℕ → ℕ) → Listed c all → Step rs all before c o
          → (elim o [ Some claim ↦ holds i claim | None ↦ true ]) ≡ true → Found before h → Next before c
      unfolding inside_of with_of is_done
      step_back before c o h listed (by_itself claim is none e) t found =
          next_alone before c claim h listed none e (sym (ap (λ p. elim p [ Some k ↦ holds i k | None ↦ true ]) is) ∙ t) found
      step_back before c o h listed (gone_before is was) t found = next_gone before c h listed was found
      step_back before c o h listed (new_component claim is q own new e) t found =
          next_new before c claim q h listed own new e (sym (ap (λ p. elim p [ Some k ↦ holds i k | None ↦ true ]) is) ∙ t) found

      record Made (before : List (List ℕ)) (cs : List Condition) : Type 0 where
        g : ℕ → ℕ
        extends : Extends i.size rs f g
        done : (d : Condition) → Listed d all → is_done before d ≡ true → condition_true i d g ≡ true
        trues : (d : Condition) → Listed d cs → condition_true i d g ≡ true

      still : (d c : Condition) (before : List (List ℕ)) → is_done before d ≡ true → is_done (before ++ own_terms rs c ∷ []) d ≡ true
      unfolding is_done
      still d c before was = before_old (together (map (own_terms rs) all) (own_terms rs d)) before (own_terms rs c) was

      claims_back : (before : List (List ℕ)) (cs : List Condition) (claims : List Claim) (h : ℕ → ℕ) → ((c : Condition) → Listed c cs → Listed c all)
          → claims_after rs (map (own_terms rs) all) all before cs ≡ Ok claims → all_hold i claims ≡ true → Found before h → Made before cs
      claims_back before [] claims h within e t found = record { g = h; extends = found.extends; done = found.done; trues = λ d listed. absurd listed }
      claims_back before (c ∷ cs) claims h within e t found =
          let w : Went (claim_at rs (map (own_terms rs) all) all before (own_terms rs c) c)
          (λ claim. next (claims_after rs (map (own_terms rs) all) all (before ++ own_terms rs c ∷ []) cs) (λ more. Ok (cons_option claim more))) claims =
          went (claim_at rs (map (own_terms rs) all) all before (own_terms rs c) c)
          (λ claim. next (claims_after rs (map (own_terms rs) all) all (before ++ own_terms rs c ∷ []) cs) (λ more. Ok (cons_option claim more))) claims e in
          let v : Went (claims_after rs (map (own_terms rs) all) all (before ++ own_terms rs c ∷ []) cs) (λ more. Ok (cons_option w.from more)) claims =
          went (claims_after rs (map (own_terms rs) all) all (before ++ own_terms rs c ∷ []) cs) (λ more. Ok (cons_option w.from more)) claims w.after in
          let two : ((elim w.from [ Some claim ↦ holds i claim | None ↦ true ]) && all_hold i v.from) ≡ true =
          sym (front_holds i w.from v.from) ∙ ap (all_hold i) (ok_same (cons_option w.from v.from) claims v.after) ∙ t in
          let n : Next before c =
          step_back before c w.from h (within c (inl refl)) (step_of rs all before c w.from w.first)
          (and_first (elim w.from [ Some claim ↦ holds i claim | None ↦ true ]) (all_hold i v.from) two) found in
          let m : Made (before ++ own_terms rs c ∷ []) cs =
          claims_back (before ++ own_terms rs c ∷ []) cs v.from n.h (λ d listed. within d (inr listed)) v.first
          (and_second (elim w.from [ Some claim ↦ holds i claim | None ↦ true ]) (all_hold i v.from) two) n.found in
          record {
            g = m.g;
            extends = m.extends;
            done = λ d listed was. m.done d listed (still d c before was);
            trues = λ d listed. elim listed [
              | inl same ↦ ap (λ b. condition_true i b m.g) same ∙ n.keeps m.g m.done
              | inr later ↦ m.trues d later
            ];
          }

      nothing_done : (d : Condition) → is_done [] d ≡ false
      unfolding is_done
      nothing_done d = refl

      unfoldable first_elements : ℕ → ℕ
      first_elements q = if is_bound rs q then 0 else f q

      first_found : Found [] first_elements
      unfolding first_elements
      first_found = record {
        extends = record {
          introduced = λ q own. subst (λ n. n < i.size) (sym (ap (λ b. if b then 0 else f q) ((list_any-Contains rs q).1 own))) (positive i lawful);
          others = λ q out. elim (cases_Bool (is_bound rs q)) [
            | inl is_so ↦ absurd (out ((list_any-Contains rs q).0 is_so))
            | inr is_not ↦ ap (λ b. if b then 0 else f q) is_not
          ];
        };
        done = λ d listed was. absurd (both_ways (is_done [] d) (nothing_done d) was);
      }

      statement_same : (claims : List Claim) → claims_after rs (map (own_terms rs) all) all [] all ≡ Ok claims
          → is_true i (structure rs (conditions_from all)) f ≡ all_hold i claims
      statement_same claims e =
          let some : Decides (is_true i (structure rs (conditions_from all)) f)
          ((g : ℕ → ℕ) × Extends i.size rs f g × (all_true i (conditions_from all) g ≡ true)) =
          some_extension-Decides i.size rs (λ g. all_true i (conditions_from all) g) (λ g. all_true i (conditions_from all) g ≡ true)
          (λ g. (λ t. t, λ t. t)) f in
          same_tests (is_true i (structure rs (conditions_from all)) f) (all_hold i claims)
          (λ h.
          let w : (g : ℕ → ℕ) × Extends i.size rs f g × (all_true i (conditions_from all) g ≡ true) = some.0 h in
          claims_forth w.0 (λ q own. w.1.introduced q ((list_any-Contains rs q).0 own)) (all_true_each i all w.0 w.2) [] all claims (λ c listed. listed) e)
          (λ t.
          let m : Made [] all = claims_back [] all claims first_elements (λ c listed. listed) e t first_found in
          some.1 (m.g, m.extends, each_all_true i all m.g m.trues))

from_list : (cs : Conditions) → conditions_from (condition_list cs) ≡ cs
from_list no_condition = refl
from_list (also_condition c cs) = ap (also_condition c) (from_list cs)

-- a statement is true exactly where all its axioms are
pub statement_true : (k : Structure) (claims : List Claim) → axioms_stated k ≡ Ok claims → all_distinct (introduced_in k) ≡ true → (i : Interpretation)
    → is_interpretation i ≡ true → (f : ℕ → ℕ) → is_true i k f ≡ all_hold i claims
statement_true (structure rs cs) claims e once i lawful f =
    let two : Apart rs (introduced_in_all cs) = apart_of rs (introduced_in_all cs) once in
    let fresh : fresh_in [] (structure rs cs) ≡ true = fresh_once [] (structure rs cs) once (λ q none own. both_ways false refl none) in
    ap (λ ds. is_true i (structure rs ds) f) (sym (from_list cs))
    ∙ statement_same i lawful rs (condition_list cs)
    (all_known rs cs two.second (and_second (list_all (λ r. not (is_bound [] r)) rs) (fresh_in_all rs cs) fresh)) f claims e

-- an element is in a question's class exactly where the structure is true with it for the referent that is asked for
pub question_true : (k : Structure) (x : ℕ) (c : Concept) → class_asked k x ≡ Ok c → all_distinct (introduced_in k) ≡ true → is_bound (referents_in k) x ≡ true
    → (i : Interpretation) (f : ℕ → ℕ) (y : ℕ) → is_in i c y ≡ is_true i (without x k) (giving f x y)
question_true k x c e once own i f y =
    roll_true i (x ∷ []) (Some (Ref x)) (without x k) c
    (without_fresh x k (fresh_once [] k once (λ q none h. both_ways false refl none)) own)
    (ap (λ b. b || false) (eq-eqb x x refl)) e (giving f x y) y (same_at f x y x refl)
