-- The first rule that doesn't fit, from tables of kinds.
use Rattle.std.proofs.Common.{◌≡◌, ℕ, zero, suc, ◌+◌, ◌-◌, ◌<◌, ◌≤◌, Bool, true, false, ltb, ◌&&◌, cond, List, [], ◌∷◌, length, take, get_or, refl, sym, ap, ◌∙◌, arith, inl, inr, Option, Some, None}
use Rattle.std.specs.Prelude.{slice_get, slice_index_or}
use Rattle.std.specs.List.{list_all}
use Rattle.std.specs.Option.{option_map_or}
use Rattle.std.proofs.lemmas.Bool.{both_ways, cases_lt, lt-ltb, le-ltb, cond-true, cond-false, and_parts, and_from}
use Rattle.std.proofs.lemmas.List.{get_or_past}
use Rattle.std.proofs.lemmas.List.Folds.{list_all_more}
use Rattle.std.proofs.lemmas.Option.{slice_get_within}
use Rattle.wiki_base.proofs.ListLaws.{all_same, slice_get_at}
use Rattle.codeco_terms.specs.declared.rules.Rule.{Rule}
use Rattle.codeco_terms.specs.declared.rules.Label.{Label}
use Rattle.codeco_checked.specs.declared.labels.Kind.{Kind}
use Rattle.codeco_checked.specs.declared.labels.Kind.TheVariants.{Text, Sentence}
use Rattle.codeco_checked.specs.Labels.{is_mark, label_row, fits_row, fits_label, FitKinds, differs_from_first, IsMisfit}
use Rattle.codeco_labels.specs.declared.allowed.Allowed.TheVariants.{Only, Nothing}
use Rattle.codeco_labels.specs.Kinds.{allows, pick}
use Rattle.codeco_labels.specs.Shapes.{shape_of, row_holds}
use Rattle.codeco_labels.specs.Tables.{KindRows, allowed_at, IsWhole, IsAlive, Meets, Narrows}
use Rattle.codeco_labels.specs.Misfits.{FirstMisfit, AreMarks, FitMarks, rule_holds, Knows, first_place}
use Rattle.codeco_labels.proofs.AllowedLemmas.{pick_allowed, same_kind_is, same_kind_from}
use Rattle.codeco_labels.proofs.RowLemmas.{row_same}

-- Lists

all_fewer : {X : Type 0} (p : X → Bool) (n m : ℕ) (xs : List X) → n ≤ m → list_all p (take m xs) ≡ true → list_all p (take n xs) ≡ true
all_fewer p zero m xs le h = refl
all_fewer p (suc n) zero xs le h = absurd (omega arith)
all_fewer p (suc n) (suc m) [] le h = refl
all_fewer p (suc n) (suc m) (x ∷ xs) le h =
    let parts = and_parts (p x) (list_all p (take m xs)) h in
    and_from (p x) (list_all p (take n xs)) parts.0 (all_fewer p n m xs (omega arith) parts.1)

-- Labels

label_same : (marks : List Bool) (kinds : ℕ → Kind) → FitMarks marks kinds → (r : Rule) → fits_label kinds r ≡ rule_holds marks r kinds
label_same marks kinds fit r = at r.label
  where
    at : (o : Option Label) → option_map_or (λ l. fits_row kinds (label_row l) r) o true
        ≡ option_map_or (λ l. row_holds (label_row l) r.head.name (shape_of marks r.body) kinds) o true
    at None = refl
    at (Some l) = row_same marks kinds fit (label_row l) r

-- the first rules hold
abbrev pub Hold : List Bool → List Rule → ℕ → (ℕ → Kind) → Type 0
Hold marks rules n kinds = list_all (λ r. rule_holds marks r kinds) (take n rules) ≡ true

fit_marks : (rules : List Rule) (marks : List Bool) (n : ℕ) (kinds : ℕ → Kind) → AreMarks rules marks → FitKinds rules n kinds → FitMarks marks kinds
fit_marks rules marks n kinds right fit = λ c. fit.marks c ∙ sym (right c)

fit_holds : (rules : List Rule) (marks : List Bool) (n : ℕ) (kinds : ℕ → Kind) → AreMarks rules marks → FitKinds rules n kinds → Hold marks rules n kinds
fit_holds rules marks n kinds right fit =
    sym (all_same (fits_label kinds) (λ r. rule_holds marks r kinds) (label_same marks kinds (fit_marks rules marks n kinds right fit)) (take n rules))
    ∙ fit.fit

-- Kinds that a table gives

abbrev reading : KindRows → ℕ → Kind
reading t c = cond (ltb c (length t.groups)) (pick (allowed_at t c)) Sentence

reading_in : (t : KindRows) (c : ℕ) → c < length t.groups → reading t c ≡ pick (allowed_at t c)
reading_in t c lt = cond-true (ltb c (length t.groups)) (pick (allowed_at t c)) Sentence (lt-ltb c (length t.groups) lt)

reading_out : (t : KindRows) (c : ℕ) → length t.groups ≤ c → reading t c ≡ Sentence
reading_out t c le = cond-false (ltb c (length t.groups)) (pick (allowed_at t c)) Sentence (le-ltb c (length t.groups) le)

reading_meets : (t : KindRows) → IsAlive t → Meets t (reading t)
reading_meets t alive = record {
  allowed = λ c lt. ap (allows (allowed_at t c)) (reading_in t c lt) ∙ pick_allowed (allowed_at t c) (alive c lt);
  alike = λ c d lt less e. reading_in t c lt ∙ ap (λ g. pick (slice_index_or t.allowed g Nothing)) e ∙ sym (reading_in t d less);
}

-- What is known when the first rules have been seen.
pub record Seen (rules : List Rule) (marks : List Bool) (start t : KindRows) (place : ℕ) : Type 0 where
  pub whole : IsWhole t
  pub alive : IsAlive t
  pub size : length t.groups ≡ length start.groups
  pub alike : (k : ℕ) (r : Rule) → k < place → slice_get rules k ≡ Some r → differs_from_first rules r ≡ false
  pub only : (kinds : ℕ → Kind) → Meets start kinds → Hold marks rules place kinds → Meets t kinds
  pub all : (kinds : ℕ → Kind) → Meets t kinds → Meets start kinds × Hold marks rules place kinds

pub seen_start : (rules : List Rule) (marks : List Bool) (t : KindRows) → IsWhole t → IsAlive t → Seen rules marks t t 0
seen_start rules marks t whole alive = record {
  whole = whole;
  alive = alive;
  size = refl;
  alike = λ k r lt e. absurd (omega arith);
  only = λ kinds met h. met;
  all = λ kinds met. (met, refl);
}

pub seen_more : (rules : List Rule) (marks : List Bool) (start t new : KindRows) (place : ℕ) (r : Rule) (answer : Bool) → Seen rules marks start t place
    → place < length rules → r ≡ get_or rules place r → differs_from_first rules r ≡ false → answer ≡ true → Narrows t new answer (rule_holds marks r)
    → Seen rules marks start new (place + 1)
seen_more rules marks start t new place r answer seen lt is same fits n = record {
  whole = n.whole seen.whole;
  alive = n.alive fits seen.alive;
  size = n.size ∙ seen.size;
  alike = λ k x less e.
      elim (cases_lt k place) [
        | inl before ↦ seen.alike k x before e
        | inr after ↦
            let at : k ≡ place = omega arith in
            ap (differs_from_first rules) (same_item x r (sym e ∙ ap (slice_get rules) at ∙ slice_get_at rules place r lt is)) ∙ same
      ];
  only = λ kinds met h.
      let parts = and_parts (list_all (λ x. rule_holds marks x kinds) (take place rules)) (rule_holds marks (get_or rules place r) kinds)
      (sym (list_all_more (λ x. rule_holds marks x kinds) rules place r lt) ∙ h) in
      (n.only kinds (seen.only kinds met parts.0) (ap (λ x. rule_holds marks x kinds) is ∙ parts.1)).1;
  all = λ kinds met.
      let later = n.all fits kinds met in
      let earlier = seen.all kinds later.0 in (
        earlier.0,
        list_all_more (λ x. rule_holds marks x kinds) rules place r lt
            ∙ and_from (list_all (λ x. rule_holds marks x kinds) (take place rules)) (rule_holds marks (get_or rules place r) kinds) earlier.1
            (ap (λ x. rule_holds marks x kinds) (sym is) ∙ later.1),
      );
}
  where
    same_item : (x y : Rule) → Some x ≡ Some y → x ≡ y
    same_item x y e = cc

-- the kinds of the table fit the rules that were seen
seen_fit : (rules : List Rule) (marks : List Bool) (start t : KindRows) (place n : ℕ) → Knows rules marks start → Seen rules marks start t place → n ≤ place
    → FitKinds rules n (reading t)
seen_fit rules marks start t place n known seen le =
    let met = reading_meets t seen.alive in
    let both = seen.all (reading t) met in
    let first = known.all (reading t) both.0 in
    let sizes : length marks ≡ length t.groups = known.size ∙ sym seen.size in
    let fit : FitMarks marks (reading t) = λ c.
    elim (cases_lt c (length marks)) [
      | inl below ↦ first.0 c below
      | inr above ↦ ap is_mark (reading_out t c (omega arith)) ∙ sym (get_or_past marks c false above)
    ] in
    record {
      marks = λ c. fit c ∙ known.right c;
      text = first.1;
      fit = all_fewer (fits_label (reading t)) n place rules le
          (all_same (fits_label (reading t)) (λ r. rule_holds marks r (reading t)) (label_same marks (reading t) fit) (take place rules) ∙ both.1);
    }

-- nothing up to this place is a misfit
pub seen_none : (rules : List Rule) (marks : List Bool) (start t : KindRows) (place : ℕ) → Knows rules marks start → Seen rules marks start t place → (n : ℕ)
    → n ≤ place → IsMisfit rules n → ⊥
seen_none rules marks start t place known seen n le bad =
    elim bad.3 [
      | inl differs ↦
          let some = bad.1 in
          both_ways (differs_from_first rules bad.0) (seen.alike (n - 1) bad.0 (omega arith) bad.2) differs
      | inr none ↦ none (reading t) (seen_fit rules marks start t place n known seen le)
    ]

pub all_seen : (rules : List Rule) (marks : List Bool) (start t : KindRows) (place : ℕ) → Knows rules marks start → Seen rules marks start t place
    → length rules ≤ place → FirstMisfit rules None
all_seen rules marks start t place known seen end = λ n bad.
    let below = slice_get_within rules (n - 1) bad.0 bad.2 in
    let some = bad.1 in
    seen_none rules marks start t place known seen n (omega arith) bad

back : (i : ℕ) → (i + 1) - 1 ≡ i
back i = omega arith

pub differs_here : (rules : List Rule) (marks : List Bool) (start t : KindRows) (place : ℕ) (r : Rule) → Knows rules marks start
    → Seen rules marks start t place → place < length rules → r ≡ get_or rules place r → differs_from_first rules r ≡ true → FirstMisfit rules (Some place)
differs_here rules marks start t place r known seen lt is differs =
    ((r, omega arith, ap (slice_get rules) (back place) ∙ slice_get_at rules place r lt is, inl differs), seen_none rules marks start t place known seen)

pub unfit_here : (rules : List Rule) (marks : List Bool) (start t new : KindRows) (place : ℕ) (r : Rule) (answer : Bool) → Knows rules marks start
    → Seen rules marks start t place → place < length rules → r ≡ get_or rules place r → answer ≡ false → Narrows t new answer (rule_holds marks r)
    → FirstMisfit rules (Some place)
unfit_here rules marks start t new place r answer known seen lt is unfit n =
    let none : (kinds : ℕ → Kind) → FitKinds rules (place + 1) kinds → ⊥ = λ kinds fit.
    let holds = fit_holds rules marks (place + 1) kinds known.right fit in
    let parts = and_parts (list_all (λ x. rule_holds marks x kinds) (take place rules)) (rule_holds marks (get_or rules place r) kinds)
    (sym (list_all_more (λ x. rule_holds marks x kinds) rules place r lt) ∙ holds) in
    let met = seen.only kinds (known.only kinds (fit_marks rules marks (place + 1) kinds known.right fit) fit.text) parts.0 in
    both_ways answer unfit (n.only kinds met (ap (λ x. rule_holds marks x kinds) is ∙ parts.1)).0 in
    ((r, omega arith, ap (slice_get rules) (back place) ∙ slice_get_at rules place r lt is, inr none), seen_none rules marks start t place known seen)

-- The start

-- what is known of a table of marks alone
pub record IsFresh (marks : List Bool) (t : KindRows) : Type 0 where
  pub size : length t.groups ≡ length marks
  pub meets : (kinds : ℕ → Kind) → FitMarks marks kinds → Meets t kinds
  pub marked : (kinds : ℕ → Kind) → Meets t kinds → (c : ℕ) → c < length marks → is_mark (kinds c) ≡ slice_index_or marks c false

pub knows_start : (rules : List Rule) (marks : List Bool) (fresh t : KindRows) (answer : Bool) → 6 ≤ length marks → AreMarks rules marks → IsFresh marks fresh
    → answer ≡ true → Narrows fresh t answer (λ kinds. allows (Only Text) (kinds 5)) → Knows rules marks t
knows_start rules marks fresh t answer six right is may n =
    let size : length marks ≡ length t.groups = sym is.size ∙ sym n.size in
    record {
      size = size;
      text = omega arith;
      right = right;
      only = λ kinds fit text. (n.only kinds (is.meets kinds fit) (same_kind_from (kinds 5) Text text)).1;
      all = λ kinds met.
          let both = n.all may kinds met in
          (is.marked kinds both.0, same_kind_is (kinds 5) Text both.1);
    }

-- where text is a mark, the first rule is a misfit
pub no_text : (rules : List Rule) (marks : List Bool) (fresh t : KindRows) (answer : Bool) → AreMarks rules marks → IsFresh marks fresh → answer ≡ false
    → Narrows fresh t answer (λ kinds. allows (Only Text) (kinds 5)) → FirstMisfit rules (first_place rules)
no_text [] marks fresh t answer right is not n = λ k bad. let below = slice_get_within [] (k - 1) bad.0 bad.2 in omega arith
no_text (r ∷ rs) marks fresh t answer right is not n =
    let none : (kinds : ℕ → Kind) → FitKinds (r ∷ rs) 1 kinds → ⊥ = λ kinds fit.
    both_ways answer not (n.only kinds (is.meets kinds (fit_marks (r ∷ rs) marks 1 kinds right fit)) (same_kind_from (kinds 5) Text fit.text)).0 in
    ((r, omega arith, refl, inr none), λ k le bad. let some = bad.1 in omega arith)
