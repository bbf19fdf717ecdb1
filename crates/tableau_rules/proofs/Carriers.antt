-- Transitive roles, word by word.
use Rattle.std.proofs.Common.{◌≡◌, ℕ, zero, suc, ◌+◌, ◌<◌, ◌≤◌, ◌&&◌, ◌||◌, Bool, true, false, List, [], ◌∷◌, ◌++◌, map, filter, cond, length, take, get_or, Option, Some, None, subst, refl, sym, ap, ◌∙◌, append_assoc, inl, inr, arith}
use Rattle.std.specs.Prelude.{min, if◌then◌else◌}
use Rattle.std.specs.List.{list_any, flat_map}
use Rattle.std.specs.Option.{option_or}
use Rattle.std.proofs.lemmas.Bool.{or_parts, or_cases, or_from, or_left, or_right}
use Rattle.std.proofs.lemmas.List.{take_all, take_more, append-nil}
use Rattle.std.proofs.lemmas.List.Concat.{flat_map-append}
use Rattle.std.proofs.lemmas.List.Folds.{list_any-append}
use Rattle.wiki_base.specs.declared.numbers.WordId.{WordId}
use Rattle.wiki_base.proofs.ListLaws.{list_any-filter}
use Rattle.logic_terms.specs.declared.expressions.Role.{Role}
use Rattle.logic_terms.specs.Concept.{Concept}
use Rattle.logic_terms.specs.Same.{same_role}
use Rattle.logic_terms.specs.Theory.{Theory, is_below}
use Rattle.logic_terms.proofs.SameLemmas.{role_equal, same_role-self}
use Rattle.tableau_rules.specs.Carrying.{along, both_ways, carriers, carried}
use Rattle.tableau_rules.specs.First.{first_below, where_true}
use Rattle.tableau_rules.specs.Graph.{Graph}
use Rattle.tableau_rules.specs.Least.{lesser_of}
use Rattle.tableau_rules.specs.Neighbours.{is_neighbour}
use Rattle.tableau_rules.specs.Rules.{needs}
use Rattle.tableau_rules.proofs.Firsts.{first_none, where_parts}

-- a role of a list fails what none of the list passes
pub none_there : (test : Role → Bool) (ts : List Role) (t : Role) → list_any test ts ≡ false → list_any (λ s. same_role s t) ts ≡ true → test t ≡ false
none_there test [] t none there = cc
none_there test (s ∷ ts) t none there =
    let two = or_parts (test s) (list_any test ts) none in
    elim (or_cases (same_role s t) (list_any (λ r. same_role r t) ts) there) [
      | inl here ↦ subst (λ r. test r ≡ false) (role_equal s t here) two.0
      | inr later ↦ none_there test ts t two.1 later
    ]

-- and back
pub all_fail : (test : Role → Bool) (ts : List Role) → ((t : Role) → list_any (λ s. same_role s t) ts ≡ true → test t ≡ false) → list_any test ts ≡ false
all_fail test [] each = refl
all_fail test (s ∷ ts) each =
    or_from (test s) (list_any test ts) (each s (or_left (same_role s s) (list_any (λ r. same_role r s) ts) (same_role-self s)))
    (all_fail test ts (λ t there. each t (or_right (same_role s t) (list_any (λ r. same_role r t) ts) there)))

-- the first number that passes a test
abbrev pub first : ℕ → (ℕ → Bool) → Option ℕ
first n test = first_below n (λ y. where_true (test y) y)

first_lt : (n : ℕ) (test : ℕ → Bool) (a : ℕ) → first n test ≡ Some a → a < n
first_lt zero test a h = cc
first_lt (suc n) test a h = go (first n test) refl h (first_lt n test a)
  where
    go : (o : Option ℕ) → first n test ≡ o → option_or o (where_true (test n) n) ≡ Some a → (first n test ≡ Some a → a < n) → a < suc n
    go None e k lower = let last : n ≡ a = (where_parts (test n) n a k).1 in omega (arith, last)
    go (Some y) e k lower = let lt : a < n = lower (e ∙ k) in omega (arith, lt)

-- the first number that passes one of two tests is the lesser of the first that pass each
pub first_either : (n : ℕ) (p q : ℕ → Bool) → lesser_of (first n p) (first n q) ≡ first n (λ y. p y || q y)
first_either zero p q = refl
first_either (suc n) p q =
    go (first n p) (first n q) (first n (λ y. p y || q y)) (first_lt n p) (first_lt n q) (first_either n p q) (p n) (q n)
  where
    min_first : (a b : ℕ) → a < b → min a b ≡ a
    min_first a b lt = omega (arith, lt)

    min_second : (a b : ℕ) → b < a → min a b ≡ b
    min_second a b lt = omega (arith, lt)

    min_same : (a : ℕ) → min a a ≡ a
    min_same a = omega arith

    go : (one two both : Option ℕ) → ((a : ℕ) → one ≡ Some a → a < n) → ((b : ℕ) → two ≡ Some b → b < n) → lesser_of one two ≡ both → (s t : Bool)
        → lesser_of (option_or one (where_true s n)) (option_or two (where_true t n)) ≡ option_or both (where_true (s || t) n)
    go None None both la lb h true true = ap Some (min_same n) ∙ ap (λ o. option_or o (Some n)) h
    go None None both la lb h true false = ap (λ o. option_or o (Some n)) h
    go None None both la lb h false true = ap (λ o. option_or o (Some n)) h
    go None None both la lb h false false = ap (λ o. option_or o None) h
    go None (Some b) both la lb h true t = ap Some (min_second n b (lb b refl)) ∙ ap (λ o. option_or o (where_true true n)) h
    go None (Some b) both la lb h false t = ap (λ o. option_or o (where_true t n)) h
    go (Some a) None both la lb h s true = ap Some (min_first a n (la a refl)) ∙ ap (λ o. option_or o (where_true (s || true) n)) h
    go (Some a) None both la lb h s false = ap (λ o. option_or o (where_true (s || false) n)) h
    go (Some a) (Some b) both la lb h s t = ap (λ o. option_or o (where_true (s || t) n)) h

or_last : (a b c : Bool) → ((a || b) || c) ≡ (a || (b || (c || false)))
or_last true b c = refl
or_last false true c = refl
or_last false false true = refl
or_last false false false = refl

-- one word more gives its two roles
two_more : (words : List WordId) (i : ℕ) (d : WordId) → i < length words
    → flat_map both_ways (take (i + 1) words) ≡ flat_map both_ways (take i words) ++ both_ways (get_or words i d)
two_more words i d lt =
    ap (flat_map both_ways) (take_more words i d lt)
    ∙ (flat_map-append both_ways (take i words) (get_or words i d ∷ [])
    ∙ ap (λ ts. flat_map both_ways (take i words) ++ ts) (append-nil (both_ways (get_or words i d))))

module _ (k : Theory) (g : Graph) (role : Role) (c : Concept) (x : ℕ) where
  -- whether y is in need of what one of these roles, which is below, carries to it
  abbrev pub in_need : List Role → ℕ → Bool
  in_need ts y = list_any (λ t. is_below k t role && needs k g t (along t c) x y) ts

  -- the same of one role
  abbrev pub needs_by : Role → ℕ → Bool
  needs_by t y = is_below k t role && needs k g t (along t c) x y

  pub first_more : (n : ℕ) (words : List WordId) (i : ℕ) (d : WordId) → i < length words → (least one two : Option ℕ)
      → least ≡ first n (in_need (flat_map both_ways (take i words))) → one ≡ first n (needs_by (record { id = get_or words i d; inverted = false }))
      → two ≡ first n (needs_by (record { id = get_or words i d; inverted = true }))
      → lesser_of (lesser_of least one) two ≡ first n (in_need (flat_map both_ways (take (i + 1) words)))
  first_more n words i d lt least one two at_least at_one at_two =
      let plain : Role = record { id = get_or words i d; inverted = false } in
      let turned : Role = record { id = get_or words i d; inverted = true } in
      let seen : List Role = flat_map both_ways (take i words) in
      (λ j. lesser_of (lesser_of (at_least j) (at_one j)) (at_two j))
      ∙ (ap (λ o. lesser_of o (first n (needs_by turned))) (first_either n (in_need seen) (needs_by plain))
      ∙ (first_either n (λ y. in_need seen y || needs_by plain y) (needs_by turned)
      ∙ ap (first n) (λ j y. (or_last (in_need seen y) (needs_by plain y) (needs_by turned y)
      ∙ (sym (list_any-append (λ t. needs_by t y) seen (both_ways (get_or words i d)))
      ∙ ap (λ ts. in_need ts y) (sym (two_more words i d lt)))) j)))

  -- no words
  pub first_begun : (n : ℕ) (words : List WordId) → None ≡ first n (in_need (flat_map both_ways (take 0 words)))
  first_begun n words = sym (first_none n (λ y. where_true (in_need (flat_map both_ways (take 0 words)) y) y) (λ y lt. refl))

  -- all words
  pub first_all : (n : ℕ) (words : List WordId) (i : ℕ) → words ≡ k.transitive → length words ≤ i → (least : Option ℕ)
      → least ≡ first n (in_need (flat_map both_ways (take i words))) → least ≡ first n (λ y. list_any (λ t. needs k g t (along t c) x y) (carriers k role))
  first_all n words i is past least h =
      h ∙ ap (first n) (λ j y. (ap (λ ws. in_need (flat_map both_ways ws) y) (take_all i words past ∙ is)
      ∙ sym (list_any-filter (λ t. needs k g t (along t c) x y) (λ t. is_below k t role) (flat_map both_ways k.transitive))) j)

  module _ (y : ℕ) where
    -- what these roles carry from x to y
    abbrev pub carried_by : List Role → List Concept
    carried_by ts = map (λ t. along t c) (filter (λ t. is_neighbour k g t x y) (filter (λ t. is_below k t role) ts))

    -- the same of one role
    abbrev pub one_carried : Role → List Concept
    one_carried t = if is_below k t role && is_neighbour k g t x y then along t c ∷ [] else []

    -- one role after others, where it was found whether it carries
    pub carried_on : (made now : List Concept) (t : Role) (b : Bool) → now ≡ made ++ (if b then along t c ∷ [] else [])
        → b ≡ (is_below k t role && is_neighbour k g t x y) → now ≡ made ++ one_carried t
    carried_on made now t b grown found = grown ∙ ap (λ d. made ++ (if d then along t c ∷ [] else [])) found

    -- one role before others
    carried_step : (t : Role) (ts : List Role) → carried_by (t ∷ ts) ≡ one_carried t ++ carried_by ts
    carried_step t ts = go (is_below k t role) (is_neighbour k g t x y) (filter (λ s. is_below k s role) ts) refl
      where
        near : (b : Bool) (rest : List Role)
            → map (λ s. along s c) (cond b (t ∷ filter (λ s. is_neighbour k g s x y) rest) (filter (λ s. is_neighbour k g s x y) rest))
            ≡ (if b then along t c ∷ [] else []) ++ map (λ s. along s c) (filter (λ s. is_neighbour k g s x y) rest)
        near true rest = refl
        near false rest = refl

        go : (a b : Bool) (rest : List Role) → is_neighbour k g t x y ≡ b
            → map (λ s. along s c) (filter (λ s. is_neighbour k g s x y) (cond a (t ∷ rest) rest))
            ≡ (if a && b then along t c ∷ [] else []) ++ map (λ s. along s c) (filter (λ s. is_neighbour k g s x y) rest)
        go true b rest e =
            ap (λ d. map (λ s. along s c) (cond d (t ∷ filter (λ s. is_neighbour k g s x y) rest) (filter (λ s. is_neighbour k g s x y) rest))) e ∙ near b rest
        go false b rest e = refl

    carried_append : (ts us : List Role) → carried_by (ts ++ us) ≡ carried_by ts ++ carried_by us
    carried_append [] us = refl
    carried_append (t ∷ ts) us =
        carried_step t (ts ++ us)
        ∙ (ap (λ cs. one_carried t ++ cs) (carried_append ts us)
        ∙ (sym (append_assoc (one_carried t) (carried_by ts) (carried_by us))
        ∙ ap (λ cs. cs ++ carried_by us) (sym (carried_step t ts))))

    pub carried_more : (words : List WordId) (i : ℕ) (d : WordId) → i < length words → (made one two : List Concept)
        → made ≡ carried_by (flat_map both_ways (take i words)) → one ≡ made ++ one_carried (record { id = get_or words i d; inverted = false })
        → two ≡ one ++ one_carried (record { id = get_or words i d; inverted = true }) → two ≡ carried_by (flat_map both_ways (take (i + 1) words))
    carried_more words i d lt made one two at_made at_one at_two =
        let plain : Role = record { id = get_or words i d; inverted = false } in
        let turned : Role = record { id = get_or words i d; inverted = true } in
        let seen : List Role = flat_map both_ways (take i words) in
        at_two
        ∙ (ap (λ cs. cs ++ one_carried turned) (at_one ∙ ap (λ cs. cs ++ one_carried plain) at_made)
        ∙ (append_assoc (carried_by seen) (one_carried plain) (one_carried turned)
        ∙ (ap (λ cs. carried_by seen ++ (one_carried plain ++ cs)) (sym (append-nil (one_carried turned)))
        ∙ (ap (λ cs. carried_by seen ++ (one_carried plain ++ cs)) (sym (carried_step turned []))
        ∙ (ap (λ cs. carried_by seen ++ cs) (sym (carried_step plain (turned ∷ [])))
        ∙ (sym (carried_append seen (both_ways (get_or words i d)))
        ∙ ap carried_by (sym (two_more words i d lt))))))))

    pub carried_all : (words : List WordId) (i : ℕ) → words ≡ k.transitive → length words ≤ i → (made : List Concept)
        → made ≡ carried_by (flat_map both_ways (take i words)) → made ≡ carried k g role c x y
    carried_all words i is past made h = h ∙ ap (λ ws. carried_by (flat_map both_ways ws)) (take_all i words past ∙ is)
