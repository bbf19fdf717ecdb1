-- The closure of pairs, one pair after another.
use Rattle.std.proofs.Common.{◌≡◌, ℕ, zero, suc, ◌+◌, ◌<◌, ◌≤◌, ◌==◌, ◌&&◌, ◌||◌, Bool, true, false, List, take, get_or, length, Contains, refl, sym, ap, ◌∙◌, subst, inl, inr}
use Rattle.std.specs.Prelude.{◌⊎◌, ◌↔◌, not}
use Rattle.std.specs.List.{list_any}
use Rattle.std.proofs.lemmas.Bool.{and_parts, and_from, or_cases, or_left, or_right, eqb-true, eq-eqb}
use Rattle.std.proofs.lemmas.List.{take_more, take_all}
use Rattle.std.proofs.lemmas.List.Folds.{list_any_more}
use Rattle.std.proofs.lemmas.List.Elements.{Contains-get_or, Contains-push_cases}
use Rattle.logic_terms.proofs.MeaningLemmas.{list_any-Contains_pair}
use Rattle.owl_eval.specs.Pairs.{is_paired}
use Rattle.branch_model.specs.Related.{Steps, Reaches, IsTransitive, AtOrBefore, AtOrBehind}
use Rattle.branch_model.proofs.Paths.{joined}

or_none : (x : Bool) → x ≡ x || false
or_none true = refl
or_none false = refl

or_there : (x t : Bool) → x ≡ true → x ≡ x || t
or_there true t h = refl
or_there false t h = cc

-- a test that answers no was there
pub was_there : (x y : Bool) → y ≡ not x → y ≡ false → x ≡ true
was_there true y h g = refl
was_there false y h g = cc

-- a pair that is there adds nothing
pub nothing_added : (ps : List (ℕ × ℕ)) (from to a b : ℕ) → is_paired ps from to ≡ true → is_paired ps a b ≡ is_paired ps a b || ((from == a) && (to == b))
nothing_added ps from to a b has = by ((from == a) && (to == b)) refl
  where
    by : (t : Bool) → ((from == a) && (to == b)) ≡ t → is_paired ps a b ≡ is_paired ps a b || t
    by false is = or_none (is_paired ps a b)
    by true is =
        let two = and_parts (from == a) (to == b) is in
        or_there (is_paired ps a b) true
        (subst (λ z. is_paired ps z b ≡ true) (eqb-true from a two.0) (subst (λ z. is_paired ps from z ≡ true) (eqb-true to b two.1) has))

spread : (p s x e : Bool) → (p || (s && e)) || (x && e) ≡ p || ((s || x) && e)
spread true s x e = refl
spread false false x e = refl
spread false true x true = refl
spread false true true false = refl
spread false true false false = refl

-- one more start
pub one_start_more : (starts : List ℕ) (i d a : ℕ) → i < length starts → (e p r q : Bool) → r ≡ p || (list_any (λ x. x == a) (take i starts) && e)
    → q ≡ r || ((get_or starts i d == a) && e) → q ≡ p || (list_any (λ x. x == a) (take (i + 1) starts) && e)
one_start_more starts i d a lt e p r q old new =
    new ∙ ap (λ t. t || ((get_or starts i d == a) && e)) old ∙ spread p (list_any (λ x. x == a) (take i starts)) (get_or starts i d == a) e
    ∙ ap (λ t. p || (t && e)) (sym (list_any_more (λ x. x == a) starts i d lt))

-- what is related once a pair is
abbrev pub More : (ℕ → ℕ → Type 0) → ℕ → ℕ → ℕ → ℕ → Type 0
More related from to a b = related a b ⊎ (AtOrBefore related a from × AtOrBehind related to b)

module _ (related : ℕ → ℕ → Type 0) (leads : IsTransitive related) (from to : ℕ) where
  before_on : (a b : ℕ) → related a b → AtOrBefore related b from → AtOrBefore related a from
  before_on a b h (inl e) = inr (subst (related a) e h)
  before_on a b h (inr r) = inr (leads a b from h r)

  behind_on : (b c : ℕ) → related b c → AtOrBehind related to b → AtOrBehind related to c
  behind_on b c h (inl e) = inr (subst (λ z. related z c) (sym e) h)
  behind_on b c h (inr r) = inr (leads to b c r h)

  -- it is transitive again
  pub more_transitive : IsTransitive (More related from to)
  more_transitive a b c (inl h) (inl g) = inl (leads a b c h g)
  more_transitive a b c (inl h) (inr (start, end)) = inr (before_on a b h start, end)
  more_transitive a b c (inr (start, end)) (inl g) = inr (start, behind_on b c g end)
  more_transitive a b c (inr (start, middle)) (inr (between, end)) = inr (start, end)

  -- a pair that is related relates nothing more
  pub nothing_more : related from to → (a b : ℕ) → More related from to a b → related a b
  nothing_more has a b (inl h) = h
  nothing_more has a b (inr (inl e, inl f)) = subst (λ z. related z b) (sym e) (subst (related from) f has)
  nothing_more has a b (inr (inl e, inr g)) = subst (λ z. related z b) (sym e) (leads from to b has g)
  nothing_more has a b (inr (inr h, inl f)) = leads a from b h (subst (related from) f has)
  nothing_more has a b (inr (inr h, inr g)) = leads a from b h (leads from to b has g)

-- what was related by steps is so once a step is
pub more_reached : (step related : ℕ → ℕ → Type 0) (from to : ℕ) → step from to → ((a b : ℕ) → related a b → Reaches step a b)
    → (a b : ℕ) → More related from to a b → Reaches step a b
more_reached step related from to pair reached a b more = go more
  where
    then : (c : ℕ) → Reaches step a c → (d : ℕ) → Reaches step c d → Reaches step a d
    then c one d other = joined step one.0 other.0 a c d one.1 other.1

    first : AtOrBefore related a from → Reaches step a to
    first (inl e) = subst (λ z. Reaches step z to) (sym e) (zero, pair)
    first (inr h) = then from (reached a from h) to (zero, pair)

    go : More related from to a b → Reaches step a b
    go (inl h) = reached a b h
    go (inr (start, inl e)) = subst (Reaches step a) e (first start)
    go (inr (start, inr h)) = then to (first start) b (reached to b h)

-- a transitive relation that has the steps has all that they lead to
pub steps_related : (step related : ℕ → ℕ → Type 0) → IsTransitive related → ((a b : ℕ) → step a b → related a b) → (n a b : ℕ) → Steps step n a b → related a b
steps_related step related leads has zero a b one = has a b one
steps_related step related leads has (suc n) a b (m, before, one) = leads a m b (steps_related step related leads has n a m before) (has m b one)

-- the test of what is related once a pair is
abbrev pub more_paired : List (ℕ × ℕ) → ℕ → ℕ → ℕ → ℕ → Bool
more_paired ps from to a b = is_paired ps a b || (((from == a) || is_paired ps a from) && ((to == b) || is_paired ps to b))

module _ (ps : List (ℕ × ℕ)) (from to : ℕ) where
  to_more : (a b : ℕ) → more_paired ps from to a b ≡ true → More (λ x y. is_paired ps x y ≡ true) from to a b
  to_more a b h = elim (or_cases (is_paired ps a b) (((from == a) || is_paired ps a from) && ((to == b) || is_paired ps to b)) h) [
    | inl old ↦ inl old
    | inr new ↦ (let two = and_parts ((from == a) || is_paired ps a from) ((to == b) || is_paired ps to b) new in inr (start two.0, end two.1))
  ]
    where
      start : ((from == a) || is_paired ps a from) ≡ true → AtOrBefore (λ x y. is_paired ps x y ≡ true) a from
      start g = elim (or_cases (from == a) (is_paired ps a from) g) [ inl same ↦ inl (sym (eqb-true from a same)) | inr old ↦ inr old ]

      end : ((to == b) || is_paired ps to b) ≡ true → AtOrBehind (λ x y. is_paired ps x y ≡ true) to b
      end g = elim (or_cases (to == b) (is_paired ps to b) g) [ inl same ↦ inl (eqb-true to b same) | inr old ↦ inr old ]

  from_more : (a b : ℕ) → More (λ x y. is_paired ps x y ≡ true) from to a b → more_paired ps from to a b ≡ true
  from_more a b (inl old) = or_left (is_paired ps a b) (((from == a) || is_paired ps a from) && ((to == b) || is_paired ps to b)) old
  from_more a b (inr (start, end)) =
      or_right (is_paired ps a b) (((from == a) || is_paired ps a from) && ((to == b) || is_paired ps to b))
      (and_from ((from == a) || is_paired ps a from) ((to == b) || is_paired ps to b) (before start) (behind end))
    where
      before : AtOrBefore (λ x y. is_paired ps x y ≡ true) a from → ((from == a) || is_paired ps a from) ≡ true
      before (inl e) = or_left (from == a) (is_paired ps a from) (eq-eqb from a (sym e))
      before (inr h) = or_right (from == a) (is_paired ps a from) h

      behind : AtOrBehind (λ x y. is_paired ps x y ≡ true) to b → ((to == b) || is_paired ps to b) ≡ true
      behind (inl e) = or_left (to == b) (is_paired ps to b) (eq-eqb to b e)
      behind (inr h) = or_right (to == b) (is_paired ps to b) h

  -- a pair that is related relates nothing more
  pub stays : IsTransitive (λ x y. is_paired ps x y ≡ true) → is_paired ps from to ≡ true → (a b : ℕ) → is_paired ps a b ≡ more_paired ps from to a b
  stays leads has a b = by (is_paired ps a b) refl
    where
      by : (t : Bool) → is_paired ps a b ≡ t → t ≡ t || (((from == a) || is_paired ps a from) && ((to == b) || is_paired ps to b))
      by true is = refl
      by false is = by_more (((from == a) || is_paired ps a from) && ((to == b) || is_paired ps to b)) refl
        where
          by_more : (t : Bool) → (((from == a) || is_paired ps a from) && ((to == b) || is_paired ps to b)) ≡ t → false ≡ t
          by_more false so = refl
          by_more true so =
              sym is
              ∙ nothing_more (λ x y. is_paired ps x y ≡ true) leads from to has a b
              (to_more a b (or_right (is_paired ps a b) (((from == a) || is_paired ps a from) && ((to == b) || is_paired ps to b)) so))

-- one step of the loop over pairs
module _ (pairs : List (ℕ × ℕ)) (i : ℕ) (d : ℕ × ℕ) (within : i < length pairs) (ps qs : List (ℕ × ℕ))
    (more : (a b : ℕ) → is_paired qs a b ≡ more_paired ps (get_or pairs i d).0 (get_or pairs i d).1 a b)
    (leads : IsTransitive (λ a b. is_paired ps a b ≡ true)) where
  pub leads_again : IsTransitive (λ a b. is_paired qs a b ≡ true)
  leads_again a b c one other =
      more a c
      ∙ from_more ps (get_or pairs i d).0 (get_or pairs i d).1 a c
      (more_transitive (λ x y. is_paired ps x y ≡ true) leads (get_or pairs i d).0 (get_or pairs i d).1 a b c
      (to_more ps (get_or pairs i d).0 (get_or pairs i d).1 a b (sym (more a b) ∙ one))
      (to_more ps (get_or pairs i d).0 (get_or pairs i d).1 b c (sym (more b c) ∙ other)))

  pub reached_again : ((a b : ℕ) → is_paired ps a b ≡ true → Reaches (λ x y. Contains pairs (x, y)) a b)
      → (a b : ℕ) → is_paired qs a b ≡ true → Reaches (λ x y. Contains pairs (x, y)) a b
  reached_again reached a b has =
      more_reached (λ x y. Contains pairs (x, y)) (λ x y. is_paired ps x y ≡ true) (get_or pairs i d).0 (get_or pairs i d).1 (Contains-get_or pairs i d within)
      reached a b (to_more ps (get_or pairs i d).0 (get_or pairs i d).1 a b (sym (more a b) ∙ has))

  pub has_again : ((a b : ℕ) → Contains (take i pairs) (a, b) → is_paired ps a b ≡ true)
      → (a b : ℕ) → Contains (take (i + 1) pairs) (a, b) → is_paired qs a b ≡ true
  has_again has a b there = more a b ∙ from_more ps (get_or pairs i d).0 (get_or pairs i d).1 a b
      (by (Contains-push_cases (take i pairs) (get_or pairs i d) (a, b)
      (subst (λ xs. Contains xs (a, b)) (take_more pairs i d within) there)))
    where
      by : Contains (take i pairs) (a, b) ⊎ (get_or pairs i d ≡ (a, b)) → More (λ x y. is_paired ps x y ≡ true) (get_or pairs i d).0 (get_or pairs i d).1 a b
      by (inl before) = inl (has a b before)
      by (inr same) = inr (inl (sym (ap (λ p. p.0) same)), inl (ap (λ p. p.1) same))

-- in the end the pairs are those that steps lead to
pub all_led : (pairs : List (ℕ × ℕ)) (i : ℕ) → length pairs ≤ i → (ps : List (ℕ × ℕ)) → IsTransitive (λ a b. is_paired ps a b ≡ true)
    → ((a b : ℕ) → is_paired ps a b ≡ true → Reaches (λ x y. Contains pairs (x, y)) a b)
    → ((a b : ℕ) → Contains (take i pairs) (a, b) → is_paired ps a b ≡ true)
    → (a b : ℕ) → Contains ps (a, b) ↔ Reaches (λ x y. Contains pairs (x, y)) a b
all_led pairs i le ps leads reached has a b = (
  λ there. reached a b ((list_any-Contains_pair ps a b).1 there),
  λ way. (list_any-Contains_pair ps a b).0
      (steps_related (λ x y. Contains pairs (x, y)) (λ x y. is_paired ps x y ≡ true) leads
      (λ x y one. has x y (subst (λ xs. Contains xs (x, y)) (sym (take_all i pairs le)) one)) way.0 a b way.1),
)
