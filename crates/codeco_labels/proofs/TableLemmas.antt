-- Tables of kinds, as more becomes known.
use Rattle.std.proofs.Common.{◌≡◌, ◌≢◌, ℕ, ◌<◌, Bool, true, false, eqb, not, ◌&&◌, length, slice_index_or, get_or, refl, sym, ap, ◌∙◌, subst, inl, inr}
use Rattle.std.specs.Prelude.{◌⊎◌, slice_index, slice_set}
use Rattle.std.proofs.lemmas.List.{get_or_read, get_or-set_same, get_or-set_other, length-set}
use Rattle.std.proofs.lemmas.Bool.{cases_eq, eq-eqb, ne_eqb, cond-true, cond-false, and_parts, and_from, not_from_false, not-true}
use Rattle.codeco_checked.specs.declared.labels.Kind.{Kind}
use Rattle.codeco_checked.specs.declared.labels.LabelRow.{LabelRow}
use Rattle.codeco_checked.specs.Labels.{same_kind, head_fits}
use Rattle.codeco_labels.specs.declared.allowed.Allowed.{Allowed}
use Rattle.codeco_labels.specs.declared.allowed.Allowed.TheVariants.{Nothing}
use Rattle.codeco_labels.specs.declared.shapes.Shape.{Shape}
use Rattle.codeco_labels.specs.Kinds.{allows, of_heads, is_nothing, meet}
use Rattle.codeco_labels.specs.Shapes.{has_shape, children_have, row_holds}
use Rattle.codeco_labels.specs.Tables.{KindRows, allowed_at, IsWhole, Meets, IsAlive, Narrows, moved}
use Rattle.codeco_labels.proofs.AllowedLemmas.{meet_allows, of_heads_allows, something_allowed, same_kind_is, same_kind_from}

both_allow : (a b : Allowed) (k : Kind) → allows a k ≡ true → allows b k ≡ true → allows (meet a b) k ≡ true
both_allow a b k p q = meet_allows a b k ∙ and_from (allows a k) (allows b k) p q

each_allows : (a b : Allowed) (k : Kind) → allows (meet a b) k ≡ true → (allows a k ≡ true) × (allows b k ≡ true)
each_allows a b k h = and_parts (allows a k) (allows b k) (sym (meet_allows a b k) ∙ h)

moved_same : (from to g : ℕ) → g ≡ from → moved from to g ≡ to
moved_same from to g e = cond-true (eqb g from) to g (eq-eqb g from e)

moved_other : (from to g : ℕ) → (g ≡ from → ⊥) → moved from to g ≡ g
moved_other from to g ne = cond-false (eqb g from) to g (ne_eqb g from ne)

-- what a group is allowed
abbrev allowed_of : KindRows → ℕ → Allowed
allowed_of t g = slice_index_or t.allowed g Nothing

-- The group gone is put into the group kept, which may be what both and also a set of kinds allow.
module _ (t new : KindRows) (one other : ℕ) (m : Allowed)
    (one_in : one < length t.groups) (other_in : other < length t.groups)
    (sizes : length new.allowed ≡ length t.allowed) (size : length new.groups ≡ length t.groups)
    (groups : (c : ℕ) → c < length t.groups → slice_index new.groups c ≡ moved (slice_index t.groups other) (slice_index t.groups one) (slice_index t.groups c))
    (here : allowed_of new (slice_index t.groups one) ≡ m)
    (there : (g : ℕ) → (g ≡ slice_index t.groups one → ⊥) → allowed_of new g ≡ allowed_of t g) where
  abbrev kept : ℕ
  kept = slice_index t.groups one

  abbrev gone : ℕ
  gone = slice_index t.groups other

  -- a category is in one of the two groups, or it is where it was
  data Place (c : ℕ) : Type 0 where
    was_kept : slice_index t.groups c ≡ kept → slice_index new.groups c ≡ kept → Place c
    was_gone : slice_index t.groups c ≡ gone → slice_index new.groups c ≡ kept → Place c
    stays : (slice_index t.groups c ≡ kept → ⊥) → (slice_index t.groups c ≡ gone → ⊥) → slice_index new.groups c ≡ slice_index t.groups c → Place c

  place : (c : ℕ) → c < length t.groups → Place c
  place c lt =
      elim (cases_eq (slice_index t.groups c) gone) [
        | inl e ↦ was_gone e (groups c lt ∙ moved_same gone kept (slice_index t.groups c) e)
        | inr ne ↦
            let same = groups c lt ∙ moved_other gone kept (slice_index t.groups c) ne in
            elim (cases_eq (slice_index t.groups c) kept) [
              | inl e ↦ was_kept e (same ∙ e)
              | inr other ↦ stays other ne same
            ]
      ]

  at_new : (c g : ℕ) → slice_index new.groups c ≡ g → allowed_at new c ≡ allowed_of new g
  at_new c g e = ap (allowed_of new) e

  pub still_whole : IsWhole t → IsWhole new
  still_whole w = record {
    sized = sizes ∙ w.sized ∙ sym size;
    inside = λ c lt.
        let below : c < length t.groups = subst (λ n. c < n) size lt in
        subst (λ n. slice_index new.groups c < n) (sym size) (elim (place c below) [
          | was_kept e f ↦ subst (λ g. g < length t.groups) (sym f) (w.inside one one_in)
          | was_gone e f ↦ subst (λ g. g < length t.groups) (sym f) (w.inside one one_in)
          | stays a b f ↦ subst (λ g. g < length t.groups) (sym f) (w.inside c below)
        ]);
  }

  pub still_alive : is_nothing m ≡ false → IsAlive t → IsAlive new
  still_alive some alive c lt =
      let below : c < length t.groups = subst (λ n. c < n) size lt in
      elim (place c below) [
        | was_kept e f ↦ ap is_nothing (at_new c kept f ∙ here) ∙ some
        | was_gone e f ↦ ap is_nothing (at_new c kept f ∙ here) ∙ some
        | stays a b f ↦ ap is_nothing (at_new c (slice_index t.groups c) f ∙ there (slice_index t.groups c) a) ∙ alive c below
      ]

  -- what meets the old table, where the two are alike and the set allows it, meets the new one
  module _ (kinds : ℕ → Kind) (old : Meets t kinds) (alike : kinds other ≡ kinds one) (allowed : allows m (kinds one) ≡ true) where
    -- the new group of the two has the one's kind
    in_kept : (c : ℕ) → c < length t.groups → (slice_index new.groups c ≡ kept) → kinds c ≡ kinds one
    in_kept c lt e =
        elim (place c lt) [
          | was_kept f g ↦ old.alike c one lt one_in f
          | was_gone f g ↦ old.alike c other lt other_in f ∙ alike
          | stays a b f ↦ absurd (a (sym f ∙ e))
        ]

    same_kinds : (c d : ℕ) → c < length t.groups → d < length t.groups → slice_index new.groups c ≡ slice_index new.groups d → kinds c ≡ kinds d
    same_kinds c d lt less e =
        elim (place c lt) [
          | was_kept f g ↦ in_kept c lt g ∙ sym (in_kept d less (sym e ∙ g))
          | was_gone f g ↦ in_kept c lt g ∙ sym (in_kept d less (sym e ∙ g))
          | stays a b f ↦
              elim (place d less) [
                | was_kept h g ↦ in_kept c lt (e ∙ g) ∙ sym (in_kept d less g)
                | was_gone h g ↦ in_kept c lt (e ∙ g) ∙ sym (in_kept d less g)
                | stays i j g ↦ old.alike c d lt less (sym f ∙ e ∙ g)
              ]
        ]

    pub meets_new : Meets new kinds
    meets_new = record {
      allowed = λ c lt.
          let below : c < length t.groups = subst (λ n. c < n) size lt in
          elim (place c below) [
            | was_kept e f ↦ ap (λ a. allows a (kinds c)) (at_new c kept f ∙ here) ∙ ap (allows m) (in_kept c below f) ∙ allowed
            | was_gone e f ↦ ap (λ a. allows a (kinds c)) (at_new c kept f ∙ here) ∙ ap (allows m) (in_kept c below f) ∙ allowed
            | stays a b f ↦ ap (λ x. allows x (kinds c)) (at_new c (slice_index t.groups c) f ∙ there (slice_index t.groups c) a) ∙ old.allowed c below
          ];
      alike = λ c d lt less e. same_kinds c d (subst (λ n. c < n) size lt) (subst (λ n. d < n) size less) e;
    }

  -- what meets the new table meets the old one
  module _ (kinds : ℕ → Kind) (met : Meets new kinds)
      (of_kept : (k : Kind) → allows m k ≡ true → allows (allowed_of t kept) k ≡ true)
      (of_gone : (k : Kind) → allows m k ≡ true → allows (allowed_of t gone) k ≡ true) where
    up : (c : ℕ) → c < length t.groups → c < length new.groups
    up c lt = subst (λ n. c < n) (sym size) lt

    in_m : (c : ℕ) → c < length t.groups → slice_index new.groups c ≡ kept → allows m (kinds c) ≡ true
    in_m c lt e = ap (λ a. allows a (kinds c)) (sym (at_new c kept e ∙ here)) ∙ met.allowed c (up c lt)

    pub meets_old : Meets t kinds
    meets_old = record {
      allowed = λ c lt. elim (place c lt) [
        | was_kept e f ↦ ap (λ g. allows (allowed_of t g) (kinds c)) e ∙ of_kept (kinds c) (in_m c lt f)
        | was_gone e f ↦ ap (λ g. allows (allowed_of t g) (kinds c)) e ∙ of_gone (kinds c) (in_m c lt f)
        | stays a b f ↦ ap (λ x. allows x (kinds c)) (sym (at_new c (slice_index t.groups c) f ∙ there (slice_index t.groups c) a)) ∙ met.allowed c (up c lt)
      ];
      alike = λ c d lt less e. met.alike c d (up c lt) (up d less) (groups c lt ∙ ap (moved gone kept) e ∙ sym (groups d less));
    }

    one_new : slice_index new.groups one ≡ kept
    one_new = elim (place one one_in) [ was_kept e f ↦ f | was_gone e f ↦ f | stays a b f ↦ f ]

    other_new : slice_index new.groups other ≡ kept
    other_new = elim (place other other_in) [ was_kept e f ↦ f | was_gone e f ↦ f | stays a b f ↦ absurd (b refl) ]

    pub now_alike : kinds other ≡ kinds one
    now_alike = met.alike other one (up other other_in) (up one one_in) (other_new ∙ sym one_new)

    pub now_allowed : allows m (kinds one) ≡ true
    now_allowed = in_m one one_in one_new

-- two categories become alike
pub joined_narrows : (t new : KindRows) (one other : ℕ) → one < length t.groups → other < length t.groups
    → length new.allowed ≡ length t.allowed → length new.groups ≡ length t.groups
    → ((c : ℕ) → c < length t.groups → slice_index new.groups c ≡ moved (slice_index t.groups other) (slice_index t.groups one) (slice_index t.groups c))
    → slice_index_or new.allowed (slice_index t.groups one) Nothing ≡ meet (allowed_at t one) (allowed_at t other)
    → ((g : ℕ) → (g ≡ slice_index t.groups one → ⊥) → slice_index_or new.allowed g Nothing ≡ slice_index_or t.allowed g Nothing)
    → Narrows t new (not (is_nothing (meet (allowed_at t one) (allowed_at t other)))) (λ kinds. same_kind (kinds other) (kinds one))
joined_narrows t new one other one_in other_in sizes size groups here there =
    let a : Allowed = allowed_at t one in
    let b : Allowed = allowed_at t other in
    record {
      size = size;
      whole = still_whole t new one other (meet a b) one_in other_in sizes size groups here there;
      alive = λ some. still_alive t new one other (meet a b) one_in other_in sizes size groups here there (not-true (is_nothing (meet a b)) some);
      only = λ kinds old test.
          let alike = same_kind_is (kinds other) (kinds one) test in
          let allowed = both_allow a b (kinds one) (old.allowed one one_in) (ap (allows b) (sym alike) ∙ old.allowed other other_in) in (
            not_from_false (is_nothing (meet a b)) (something_allowed (meet a b) (kinds one) allowed),
            meets_new t new one other (meet a b) one_in other_in sizes size groups here there kinds old alike allowed,
          );
      all = λ some kinds met.
          let of_kept : (k : Kind) → allows (meet a b) k ≡ true → allows a k ≡ true = λ k h. (each_allows a b k h).0 in
          let of_gone : (k : Kind) → allows (meet a b) k ≡ true → allows b k ≡ true = λ k h. (each_allows a b k h).1 in (
            meets_old t new one other (meet a b) one_in other_in sizes size groups here there kinds met of_kept of_gone,
            same_kind_from (kinds other) (kinds one)
                (now_alike t new one other (meet a b) one_in other_in sizes size groups here there kinds met of_kept of_gone),
          );
    }

moved_self : (g h : ℕ) → g ≡ moved h h g
moved_self g h = elim (cases_eq g h) [ inl e ↦ e ∙ sym (moved_same h h g e) | inr ne ↦ sym (moved_other h h g ne) ]

-- a category is restricted
pub restricted_narrows : (t new : KindRows) (one : ℕ) (to : Allowed) → one < length t.groups
    → length new.allowed ≡ length t.allowed → new.groups ≡ t.groups
    → slice_index_or new.allowed (slice_index t.groups one) Nothing ≡ meet (allowed_at t one) to
    → ((g : ℕ) → (g ≡ slice_index t.groups one → ⊥) → slice_index_or new.allowed g Nothing ≡ slice_index_or t.allowed g Nothing)
    → Narrows t new (not (is_nothing (meet (allowed_at t one) to))) (λ kinds. allows to (kinds one))
restricted_narrows t new one to one_in sizes same here there =
    let a : Allowed = allowed_at t one in
    let size : length new.groups ≡ length t.groups = ap length same in
    let groups : (c : ℕ) → c < length t.groups
    → slice_index new.groups c ≡ moved (slice_index t.groups one) (slice_index t.groups one) (slice_index t.groups c) =
    λ c lt. ap (λ gs. slice_index gs c) same ∙ moved_self (slice_index t.groups c) (slice_index t.groups one) in
    record {
      size = size;
      whole = still_whole t new one one (meet a to) one_in one_in sizes size groups here there;
      alive = λ some. still_alive t new one one (meet a to) one_in one_in sizes size groups here there (not-true (is_nothing (meet a to)) some);
      only = λ kinds old test.
          let allowed = both_allow a to (kinds one) (old.allowed one one_in) test in (
            not_from_false (is_nothing (meet a to)) (something_allowed (meet a to) (kinds one) allowed),
            meets_new t new one one (meet a to) one_in one_in sizes size groups here there kinds old refl allowed,
          );
      all = λ some kinds met.
          let of_kept : (k : Kind) → allows (meet a to) k ≡ true → allows a k ≡ true = λ k h. (each_allows a to k h).0 in (
            meets_old t new one one (meet a to) one_in one_in sizes size groups here there kinds met of_kept of_kept,
            (each_allows a to (kinds one) (now_allowed t new one one (meet a to) one_in one_in sizes size groups here there kinds met of_kept of_kept)).1,
          );
    }

-- The same, as the code reads and writes.

pub restricted_written : (t new : KindRows) (one g : ℕ) (to a m : Allowed) (nothing : Bool) → IsWhole t → one < length t.groups
    → g ≡ get_or t.groups one g → a ≡ get_or t.allowed g a → m ≡ meet a to → nothing ≡ is_nothing m
    → new.groups ≡ t.groups → new.allowed ≡ slice_set t.allowed g m → Narrows t new (not nothing) (λ kinds. allows to (kinds one))
restricted_written t new one g to a m nothing whole one_in group read met none same written =
    let at_g : g ≡ slice_index t.groups one = get_or_read t.groups one g one_in group 0 in
    let g_in : g < length t.allowed = subst (λ n. n < length t.allowed) (sym at_g)
    (subst (λ n. slice_index t.groups one < n) (sym whole.sized) (whole.inside one one_in)) in
    let is_a : a ≡ allowed_at t one = get_or_read t.allowed g a g_in read Nothing ∙ ap (allowed_of t) at_g in
    let is_m : m ≡ meet (allowed_at t one) to = met ∙ ap (λ x. meet x to) is_a in
    let answer : not (is_nothing (meet (allowed_at t one) to)) ≡ not nothing = ap (λ x. not (is_nothing x)) (sym is_m) ∙ ap not (sym none) in
    subst (λ b. Narrows t new b (λ kinds. allows to (kinds one))) answer
    (restricted_narrows t new one to one_in
    (ap length written ∙ length-set t.allowed g m) same
    (ap (λ al. slice_index_or al (slice_index t.groups one) Nothing) written ∙ ap (λ h. slice_index_or (slice_set t.allowed g m) h Nothing) (sym at_g)
    ∙ get_or-set_same t.allowed g m Nothing g_in ∙ is_m)
    (λ h ne. ap (λ al. slice_index_or al h Nothing) written ∙ get_or-set_other t.allowed g h m Nothing (λ e. ne (e ∙ at_g))))

pub joined_written : (t new : KindRows) (one other g h : ℕ) (a b m : Allowed) (nothing : Bool) → IsWhole t → one < length t.groups → other < length t.groups
    → g ≡ get_or t.groups one g → h ≡ get_or t.groups other h → a ≡ get_or t.allowed g a → b ≡ get_or t.allowed h b → m ≡ meet a b → nothing ≡ is_nothing m
    → length new.groups ≡ length t.groups → ((c : ℕ) → c < length t.groups → slice_index new.groups c ≡ moved h g (slice_index t.groups c))
    → new.allowed ≡ slice_set t.allowed g m → Narrows t new (not nothing) (λ kinds. same_kind (kinds other) (kinds one))
joined_written t new one other g h a b m nothing whole one_in other_in group gone read read_gone met none size moves written =
    let at_g : g ≡ slice_index t.groups one = get_or_read t.groups one g one_in group 0 in
    let at_h : h ≡ slice_index t.groups other = get_or_read t.groups other h other_in gone 0 in
    let g_in : g < length t.allowed = subst (λ n. n < length t.allowed) (sym at_g)
    (subst (λ n. slice_index t.groups one < n) (sym whole.sized) (whole.inside one one_in)) in
    let h_in : h < length t.allowed = subst (λ n. n < length t.allowed) (sym at_h)
    (subst (λ n. slice_index t.groups other < n) (sym whole.sized) (whole.inside other other_in)) in
    let is_a : a ≡ allowed_at t one = get_or_read t.allowed g a g_in read Nothing ∙ ap (allowed_of t) at_g in
    let is_b : b ≡ allowed_at t other = get_or_read t.allowed h b h_in read_gone Nothing ∙ ap (allowed_of t) at_h in
    let is_m : m ≡ meet (allowed_at t one) (allowed_at t other) = met ∙ ap (λ x. meet x b) is_a ∙ ap (meet (allowed_at t one)) is_b in
    let answer : not (is_nothing (meet (allowed_at t one) (allowed_at t other))) ≡ not nothing = ap (λ x. not (is_nothing x)) (sym is_m) ∙ ap not (sym none) in
    subst (λ x. Narrows t new x (λ kinds. same_kind (kinds other) (kinds one))) answer
    (joined_narrows t new one other one_in other_in
    (ap length written ∙ length-set t.allowed g m) size
    (λ c lt. moves c lt ∙ ap (λ x. moved x g (slice_index t.groups c)) at_h ∙ ap (λ x. moved (slice_index t.groups other) x (slice_index t.groups c)) at_g)
    (ap (λ al. slice_index_or al (slice_index t.groups one) Nothing) written ∙ ap (λ x. slice_index_or (slice_set t.allowed g m) x Nothing) (sym at_g)
    ∙ get_or-set_same t.allowed g m Nothing g_in ∙ is_m)
    (λ x ne. ap (λ al. slice_index_or al x Nothing) written ∙ get_or-set_other t.allowed g x m Nothing (λ e. ne (e ∙ at_g))))

-- Steps one behind the other

-- nothing changes, and the test passes always or never
pub unchanged_narrows : (t : KindRows) (answer : Bool) (test : (ℕ → Kind) → Bool) → ((kinds : ℕ → Kind) → test kinds ≡ answer) → Narrows t t answer test
unchanged_narrows t answer test same = record {
  size = refl;
  whole = λ w. w;
  alive = λ _ alive. alive;
  only = λ kinds old h. (sym (same kinds) ∙ h, old);
  all = λ yes kinds met. (met, same kinds ∙ yes);
}

-- the same test in other words
pub same_narrows : (t new : KindRows) (answer : Bool) (p q : (ℕ → Kind) → Bool) → ((kinds : ℕ → Kind) → p kinds ≡ q kinds) → Narrows t new answer p
    → Narrows t new answer q
same_narrows t new answer p q same n = record {
  size = n.size;
  whole = n.whole;
  alive = n.alive;
  only = λ kinds old h. n.only kinds old (same kinds ∙ h);
  all = λ yes kinds met. let both = n.all yes kinds met in (both.0, sym (same kinds) ∙ both.1);
}

-- the first step says no
pub refused_narrows : (t new : KindRows) (p q : (ℕ → Kind) → Bool) (first : Bool) → first ≡ false → Narrows t new first p
    → Narrows t new false (λ kinds. p kinds && q kinds)
refused_narrows t new p q first e n = record {
  size = n.size;
  whole = n.whole;
  alive = λ yes. absurd cc;
  only = λ kinds old h.
      let parts = and_parts (p kinds) (q kinds) h in
      let none = (n.only kinds old parts.0).0 in
      absurd cc;
  all = λ yes. absurd cc;
}

-- the first step says yes, and then the second decides
pub then_narrows : (t mid new : KindRows) (p q : (ℕ → Kind) → Bool) (first answer : Bool) → first ≡ true → Narrows t mid first p → Narrows mid new answer q
    → Narrows t new answer (λ kinds. p kinds && q kinds)
then_narrows t mid new p q first answer e n m = record {
  size = m.size ∙ n.size;
  whole = λ w. m.whole (n.whole w);
  alive = λ yes alive. m.alive yes (n.alive e alive);
  only = λ kinds old h.
      let parts = and_parts (p kinds) (q kinds) h in
      m.only kinds (n.only kinds old parts.0).1 parts.1;
  all = λ yes kinds met.
      let later = m.all yes kinds met in
      let earlier = n.all e kinds later.0 in
      (earlier.0, and_from (p kinds) (q kinds) earlier.1 later.1);
}

-- Rows: what a body has, then the head, then the children

row_test : (row : LabelRow) (head : ℕ) (s : Shape) (a : Allowed) → has_shape row s ≡ true → a ≡ of_heads row.heads → (kinds : ℕ → Kind)
    → (allows a (kinds head) && children_have row.children head kinds s.children) ≡ row_holds row head s kinds
row_test row head s a has is kinds =
    ap (λ b. allows b (kinds head) && children_have row.children head kinds s.children) is
    ∙ ap (λ b. b && children_have row.children head kinds s.children) (of_heads_allows row.heads (kinds head))
    ∙ ap (λ b. b && (head_fits row.heads (kinds head) && children_have row.children head kinds s.children)) (sym has)

pub fit_refused : (t new : KindRows) (row : LabelRow) (head : ℕ) (s : Shape) (a : Allowed) (first : Bool) → has_shape row s ≡ true → a ≡ of_heads row.heads
    → first ≡ false → Narrows t new first (λ kinds. allows a (kinds head)) → Narrows t new false (row_holds row head s)
fit_refused t new row head s a first has is refused n =
    same_narrows t new false (λ kinds. allows a (kinds head) && children_have row.children head kinds s.children) (row_holds row head s)
    (row_test row head s a has is)
    (refused_narrows t new (λ kinds. allows a (kinds head)) (λ kinds. children_have row.children head kinds s.children) first refused n)

pub fit_then : (t mid new : KindRows) (row : LabelRow) (head : ℕ) (s : Shape) (a : Allowed) (first answer : Bool) → has_shape row s ≡ true
    → a ≡ of_heads row.heads → first ≡ true → Narrows t mid first (λ kinds. allows a (kinds head))
    → Narrows mid new answer (λ kinds. children_have row.children head kinds s.children) → Narrows t new answer (row_holds row head s)
fit_then t mid new row head s a first answer has is accepted n m =
    same_narrows t new answer (λ kinds. allows a (kinds head) && children_have row.children head kinds s.children) (row_holds row head s)
    (row_test row head s a has is)
    (then_narrows t mid new (λ kinds. allows a (kinds head)) (λ kinds. children_have row.children head kinds s.children) first answer accepted n m)
