-- A search by steps: what is reached, and what is open.
use Rattle.std.proofs.Common.{◌≡◌, ℕ, ◌+◌, ◌<◌, Bool, true, false, not, cond, ◌||◌, eqb, List, [], ◌∷◌, ◌++◌, length, get_or, set, replicate, refl, sym, ap, ◌∙◌, subst, arith, inl, inr, length-set, length-append, get_or-set_other, ◌⊎◌, ◌↔◌, zero, suc}
use Rattle.std.specs.Prelude.{IsTrue}
use Rattle.std.proofs.lemmas.List.{get_or-set_same, length-replicate, get_or_default}
use Rattle.std.proofs.lemmas.List.Sums.{sum_by-set}
use Rattle.std.proofs.lemmas.List.Folds.{list_any-append}
use Rattle.std.proofs.lemmas.Bool.{cases_eq, or_cases, or_left, or_right, eqb-true, eq-eqb}
use Rattle.codeco_checked.specs.Numbering.{has}
use Rattle.codeco_late_faults.specs.Steps.{leads, IsPath, Reaches, IsIn, count_out, IsFollowed}

-- nothing to follow
pub followed_none : (m : List Bool) (o : List ℕ) → IsFollowed (λ c. false) m m o o
followed_none m o = record {
  kept = λ c h. h;
  every = λ c h. absurd cc;
  only = λ c h. inl h;
  still_waiting = λ c h. h;
  listed = λ c h. inl h;
  count = refl;
  room = refl;
}

-- what is reached already
pub followed_old : (to : ℕ) (m : List Bool) (o : List ℕ) → IsIn m to → IsFollowed (λ c. eqb c to) m m o o
followed_old to m o is = record {
  kept = λ c h. h;
  every = λ c h. subst (IsIn m) (sym (eqb-true c to h)) is;
  only = λ c h. inl h;
  still_waiting = λ c h. h;
  listed = λ c h. inl h;
  count = refl;
  room = refl;
}

set_in : (m : List Bool) (to : ℕ) → to < length m → IsIn (set m to true) to
set_in m to lt = get_or-set_same m to true false lt

set_kept : (m : List Bool) (to c : ℕ) → to < length m → IsIn m c → IsIn (set m to true) c
set_kept m to c lt h =
    elim (cases_eq c to) [
      | inl same ↦ subst (IsIn (set m to true)) (sym same) (set_in m to lt)
      | inr other ↦ get_or-set_other m to c true false other ∙ h
    ]

set_only : (m : List Bool) (to c : ℕ) → IsIn (set m to true) c → IsIn m c ⊎ (c ≡ to)
set_only m to c h =
    elim (cases_eq c to) [
      | inl same ↦ inr same
      | inr other ↦ inl (sym (get_or-set_other m to c true false other) ∙ h)
    ]

has_last : (o : List ℕ) (c : ℕ) → IsTrue (has (o ++ c ∷ []) c)
has_last o c = list_any-append (eqb c) o (c ∷ []) ∙ or_right (has o c) (eqb c c || false) (or_left (eqb c c) false (eq-eqb c c refl))

has_front : (o : List ℕ) (to c : ℕ) → IsTrue (has o c) → IsTrue (has (o ++ to ∷ []) c)
has_front o to c h = list_any-append (eqb c) o (to ∷ []) ∙ or_left (has o c) (eqb c to || false) h

pub has_cases : (o : List ℕ) (to c : ℕ) → IsTrue (has (o ++ to ∷ []) c) → IsTrue (has o c) ⊎ (c ≡ to)
has_cases o to c h =
    elim (or_cases (has o c) (eqb c to || false) (sym (list_any-append (eqb c) o (to ∷ [])) ∙ h)) [
      | inl front ↦ inl front
      | inr last ↦ elim (or_cases (eqb c to) false last) [ inl same ↦ inr (eqb-true c to same) | inr none ↦ absurd cc ]
    ]

count_set : (m : List Bool) (to : ℕ) → to < length m → get_or m to false ≡ false → count_out (set m to true) + 1 ≡ count_out m
count_set m to lt h =
    let moved = sum_by-set (λ b. cond (not b) 1 0) m to true false lt in
    let one : ℕ = 1 in let was : cond (not (get_or m to false)) one 0 ≡ one = ap (λ b. cond (not b) one 0) h in
    omega (arith, moved, was)

-- what wasn't reached before
pub followed_new : (to : ℕ) (m : List Bool) (o : List ℕ) → to < length m → get_or m to false ≡ false
    → IsFollowed (λ c. eqb c to) m (set m to true) o (o ++ to ∷ [])
followed_new to m o lt out = record {
  kept = λ c h. set_kept m to c lt h;
  every = λ c h. subst (IsIn (set m to true)) (sym (eqb-true c to h)) (set_in m to lt);
  only = λ c h. elim (set_only m to c h) [
    | inl was ↦ inl was
    | inr same ↦
        inr (eq-eqb c to same, subst (λ x. IsTrue (has (o ++ to ∷ []) x)) (sym same) (has_last o to))
  ];
  still_waiting = λ c h. has_front o to c h;
  listed = λ c h. elim (has_cases o to c h) [ inl was ↦ inl was | inr same ↦ inr (subst (IsIn (set m to true)) (sym same) (set_in m to lt)) ];
  count = omega (arith, count_set m to lt out, length-append o (to ∷ []));
  room = length-set m to true;
}

-- one after the other
pub followed_both : (s t u : ℕ → Bool) (m n k : List Bool) (o p q : List ℕ) → ((c : ℕ) → u c ≡ (s c || t c)) → IsFollowed s m n o p → IsFollowed t n k p q
    → IsFollowed u m k o q
followed_both s t u m n k o p q both f g = record {
  kept = λ c h. g.kept c (f.kept c h);
  every = λ c h. elim (or_cases (s c) (t c) (sym (both c) ∙ h)) [ inl x ↦ g.kept c (f.every c x) | inr x ↦ g.every c x ];
  only = λ c h. elim (g.only c h) [
    | inl was ↦ elim (f.only c was) [ inl x ↦ inl x | inr x ↦ inr (both c ∙ or_left (s c) (t c) x.0, g.still_waiting c x.1) ]
    | inr x ↦ inr (both c ∙ or_right (s c) (t c) x.0, x.1)
  ];
  still_waiting = λ c h. g.still_waiting c (f.still_waiting c h);
  listed = λ c h. elim (g.listed c h) [
    | inl was ↦ elim (f.listed c was) [ inl x ↦ inl x | inr x ↦ inr (g.kept c x) ]
    | inr x ↦ inr x
  ];
  count = g.count ∙ f.count;
  room = g.room ∙ f.room;
}

-- the same steps
pub followed_same : (s t : ℕ → Bool) (m n : List Bool) (o p : List ℕ) → ((c : ℕ) → t c ≡ s c) → IsFollowed s m n o p → IsFollowed t m n o p
followed_same s t m n o p same f = record {
  kept = f.kept;
  every = λ c h. f.every c (sym (same c) ∙ h);
  only = λ c h. elim (f.only c h) [ inl x ↦ inl x | inr x ↦ inr (same c ∙ x.0, x.1) ];
  still_waiting = f.still_waiting;
  listed = f.listed;
  count = f.count;
  room = f.room;
}

-- Where a search stands: what is reached is reached by steps, what one step leads to from the first number is reached,
-- and so is what one step leads to from what is reached, but for the waiting.
pub record Searches (steps : ℕ → ℕ → Bool) (from : ℕ) (m : List Bool) (o : List ℕ) : Type 0 where
  pub sound : (c : ℕ) → IsIn m c → Reaches steps from c
  pub begun : (c : ℕ) → IsTrue (steps from c) → IsIn m c
  pub closed : (c : ℕ) → IsIn m c → IsTrue (has o c) ⊎ ((d : ℕ) → IsTrue (steps c d) → IsIn m d)
  pub waits : (c : ℕ) → IsTrue (has o c) → IsIn m c
  pub room : length m ≡ 65536

none_in : (n c : ℕ) → IsIn (replicate n false) c → ⊥
none_in zero c h = absurd cc
none_in (suc n) zero h = absurd cc
none_in (suc n) (suc c) h = none_in n c h

searches_first : (steps : ℕ → ℕ → Bool) (from : ℕ) (size : ℕ) (m : List Bool) (o : List ℕ) → size ≡ 65536
    → IsFollowed (steps from) (replicate size false) m [] o → Searches steps from m o
searches_first steps from size m o large f = record {
  sound = λ c h. elim (f.only c h) [ inl was ↦ absurd (none_in size c was) | inr new ↦ ([], new.0) ];
  begun = f.every;
  closed = λ c h. elim (f.only c h) [ inl was ↦ absurd (none_in size c was) | inr new ↦ inl new.1 ];
  waits = λ c h. elim (f.listed c h) [ inl was ↦ absurd cc | inr new ↦ new ];
  room = f.room ∙ length-replicate size false ∙ large;
}

pub searches_begun : (steps : ℕ → ℕ → Bool) (from size : ℕ) (m n : List Bool) (o p : List ℕ) → size ≡ 65536 → m ≡ replicate size false → o ≡ []
    → IsFollowed (steps from) m n o p → Searches steps from n p
searches_begun steps from size m n o p large e k f =
    searches_first steps from size n p large
    (subst (λ z. IsFollowed (steps from) (replicate size false) n z p) k (subst (λ z. IsFollowed (steps from) z n o p) e f))

path_more : (steps : ℕ → ℕ → Bool) (from : ℕ) (between : List ℕ) (c d : ℕ) → IsPath steps from between c → IsTrue (steps c d)
    → IsPath steps from (between ++ c ∷ []) d
path_more steps from [] c d p h = (p, h)
path_more steps from (b ∷ bs) c d p h = (p.0, path_more steps b bs c d p.1 h)

searches_next : (steps : ℕ → ℕ → Bool) (from next : ℕ) (m n : List Bool) (o p : List ℕ) → Searches steps from m (o ++ next ∷ [])
    → IsFollowed (steps next) m n o p → Searches steps from n p
searches_next steps from next m n o p s f = record {
  sound = λ c h. elim (f.only c h) [
    | inl was ↦ s.sound c was
    | inr new ↦ let far = s.sound next (s.waits next (has_last o next)) in (far.0 ++ next ∷ [], path_more steps from far.0 next c far.1 new.0)
  ];
  begun = λ c h. f.kept c (s.begun c h);
  closed = λ c h. elim (f.only c h) [
    | inl was ↦ elim (s.closed c was) [
      | inl waiting ↦ elim (has_cases o next c waiting) [
        | inl front ↦ inl (f.still_waiting c front)
        | inr same ↦ inr (λ d k. f.every d (subst (λ x. IsTrue (steps x d)) same k))
      ]
      | inr done ↦ inr (λ d k. f.kept d (done d k))
    ]
    | inr new ↦ inl new.1
  ];
  waits = λ c h. elim (f.listed c h) [ inl was ↦ f.kept c (s.waits c (has_front o next c was)) | inr new ↦ new ];
  room = f.room ∙ s.room;
}

pub searches_step : (steps : ℕ → ℕ → Bool) (from next : ℕ) (m n : List Bool) (q o p : List ℕ) → q ≡ o ++ next ∷ [] → Searches steps from m q
    → IsFollowed (steps next) m n o p → Searches steps from n p
searches_step steps from next m n q o p e s f = searches_next steps from next m n o p (subst (λ z. Searches steps from m z) e s) f

path_in : (steps : ℕ → ℕ → Bool) (m : List Bool) → ((c d : ℕ) → IsIn m c → IsTrue (steps c d) → IsIn m d) → (c : ℕ) (between : List ℕ) (d : ℕ) → IsIn m c
    → IsPath steps c between d → IsIn m d
path_in steps m all c [] d h p = all c d h p
path_in steps m all c (b ∷ bs) d h p = path_in steps m all b bs d (all c b h p.0) p.1

pub searched : (steps : ℕ → ℕ → Bool) (from : ℕ) (m : List Bool) → Searches steps from m [] → (c : ℕ) → IsIn m c ↔ Reaches steps from c
searched steps from m s c =
    let all : (a b : ℕ) → IsIn m a → IsTrue (steps a b) → IsIn m b = λ a b h k. elim (s.closed a h) [ inl waiting ↦ absurd cc | inr done ↦ done b k ] in
    (s.sound c, λ r. whole all r.0 r.1)
  where
    whole : ((a b : ℕ) → IsIn m a → IsTrue (steps a b) → IsIn m b) → (between : List ℕ) → IsPath steps from between c → IsIn m c
    whole all [] p = s.begun c p
    whole all (b ∷ bs) p = path_in steps m all b bs c (s.begun b p.0) p.1

pub no_length : (xs : List ℕ) → length xs ≡ 0 → xs ≡ []
no_length [] h = refl
no_length (x ∷ xs) h = absurd (omega arith)

-- the followers of a number are what one step leads to
pub followed_at : (table : List (List ℕ)) (from : ℕ) (fs : List ℕ) (m n : List Bool) (o p : List ℕ) → from < length table → fs ≡ get_or table from fs
    → IsFollowed (has fs) m n o p → IsFollowed (leads table from) m n o p
followed_at table from fs m n o p lt is f =
    followed_same (has fs) (leads table from) m n o p (λ c. ap (λ xs. has xs c) (sym (is ∙ get_or_default table from fs [] lt))) f

pub none_pushed : (table : List (List ℕ)) → ((name : ℕ) → get_or table name [] ≡ []) → (name : ℕ) → get_or (table ++ [] ∷ []) name [] ≡ []
none_pushed [] h zero = refl
none_pushed [] h (suc name) = refl
none_pushed (x ∷ xs) h zero = h zero
none_pushed (x ∷ xs) h (suc name) = none_pushed xs (λ n. h (suc n)) name
