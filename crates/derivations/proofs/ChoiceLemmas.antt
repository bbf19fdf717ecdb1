-- Each instance whose head fits is among those that are tried.
use Rattle.std.proofs.Common.{◌≡◌, ℕ, zero, suc, ◌+◌, ◌<◌, ◌≤◌, List, [], ◌∷◌, ◌++◌, map, filter, drop, length, Bool, true, false, ◌&&◌, ◌||◌, ◌⊎◌, inl, inr, Option, Some, None, refl, sym, ap, subst, ◌∙◌, arith, append_assoc, append-nil}
use Rattle.std.specs.Prelude.{if◌then◌else◌, ◌==◌, unwrap_or}
use Rattle.std.specs.Option.{option_map_or}
use Rattle.std.specs.List.{flat_map, list_all, range_with_len}
use Rattle.std.proofs.lemmas.Bool.Decides.{nat_tests}
use Rattle.std.proofs.lemmas.Bool.{eqb-true}
use Rattle.wiki_base.proofs.BoolLaws.{and_first, and_second}
use Rattle.wiki_base.proofs.NumberLaws.{eqb_refl}
use Rattle.codeco_terms.specs.declared.values.Value.{Value}
use Rattle.codeco_terms.specs.declared.values.Value.TheVariants.{Atom}
use Rattle.codeco_terms.specs.declared.values.Term.{Term}
use Rattle.codeco_terms.specs.declared.values.Term.TheVariants.{Var}
use Rattle.codeco_terms.specs.declared.declarations.Declared.TheVariants as declared
use Rattle.codeco_terms.specs.declared.rules.Rule.{Rule}
use Rattle.scopes.specs.declared.agreement.Test.{Test}
use Rattle.codeco_checked.specs.Numbering.{has}
use Rattle.codeco_checked.specs.Occurrences.{rule_features, rule_variables, positions}
use Rattle.derivation_trees.specs.Settings.{Setting, is_value, fits_feature}
use Rattle.derivation_trees.specs.Instances.{looked_up, value_under, term_value, feats_under, under, written_variables, variables_of, same_numbers, term_fits, own_fit, own_values, rule_own_features, is_instance}
use Rattle.derivation_trees.specs.Derives.{same_where_both, fits}
use Rattle.derivations.specs.Enumeration.{given, feature_values, position_values, rule_terms, feature_at, fixed_at, free_among, own_choices, choices, lengthened, chosen, instances}
use Rattle.derivations.proofs.Tried.{tried}
use Rattle.derivations.proofs.Members.{Among, among_map, among_flat_map, all_among}
use Rattle.derivations.proofs.ValueLemmas.{given_fixed, value_has, feature_has, number_has}
use Rattle.derivations.proofs.TermLemmas.{Fixed, all_terms, in_rule, feature_some, feature_none, fixed_some}

-- each variable has one of the values that are tried for it
abbrev pub Chooses : List (ℕ × List Value) → List (ℕ × Value) → Type 0
Chooses [] [] = Unit {0}
Chooses [] (p ∷ ps) = ⊥
Chooses (c ∷ cs) [] = ⊥
Chooses (c ∷ cs) (p ∷ ps) = (p.0 ≡ c.0) × Among c.1 p.1 × Chooses cs ps

longer : (c : ℕ × List Value) (done : List (List (ℕ × Value))) (before : List (ℕ × Value)) (p : ℕ × Value) → Among done before → p.0 ≡ c.0 → Among c.1 p.1
    → Among (lengthened c done) (before ++ p ∷ [])
longer c done before p h e k =
    let here : Among (map (λ v. before ++ (c.0, v) ∷ []) c.1) (before ++ (c.0, p.1) ∷ []) = among_map (λ v. before ++ (c.0, v) ∷ []) c.1 p.1 k in
    among_flat_map (λ values. map (λ v. values ++ (c.0, v) ∷ []) c.1) done before (before ++ p ∷ []) h
    (subst (λ n. Among (map (λ v. before ++ (c.0, v) ∷ []) c.1) (before ++ (n, p.1) ∷ [])) (sym e) here)

pub chosen_has : (cs : List (ℕ × List Value)) (done : List (List (ℕ × Value))) (before values : List (ℕ × Value)) → Among done before → Chooses cs values
    → Among (chosen cs done) (before ++ values)
chosen_has [] done before [] h k = subst (Among done) (sym (append-nil before)) h
chosen_has [] done before (p ∷ ps) h k = absurd k
chosen_has (c ∷ cs) done before [] h k = absurd k
chosen_has (c ∷ cs) done before (p ∷ ps) h k =
    subst (Among (chosen cs (lengthened c done))) (append_assoc before (p ∷ []) ps)
    (chosen_has cs (lengthened c done) (before ++ p ∷ []) ps (longer c done before p h k.0 k.1) k.2)

own_chooses : (s : Setting) (fs : List ℕ) (m : ℕ) (ps : List (ℕ × Value)) → same_numbers (map (λ p. p.0) ps) (range_with_len m (length fs)) ≡ true
    → own_fit s fs ps ≡ true → Chooses (own_choices s m fs) ps
own_chooses s [] m [] h k = tt
own_chooses s [] m (p ∷ ps) h k = cc
own_chooses s (f ∷ fs) m [] h k = cc
own_chooses s (f ∷ fs) m (p ∷ ps) h k =
    let same : p.0 ≡ m = eqb-true p.0 m (and_first (p.0 == m) (same_numbers (map (λ q. q.0) ps) (range_with_len (m + 1) (length fs))) h) in
    let rest : same_numbers (map (λ q. q.0) ps) (range_with_len (m + 1) (length fs)) ≡ true =
    and_second (p.0 == m) (same_numbers (map (λ q. q.0) ps) (range_with_len (m + 1) (length fs))) h in (
      same,
      feature_has s f p.1 (and_first (fits_feature s f p.1) (own_fit s fs ps) k),
      own_chooses s fs (m + 1) ps rest (and_second (fits_feature s f p.1) (own_fit s fs ps) k),
    )

written_chooses : (try : ℕ → List Value) (xs rest : List ℕ) (cs : List (ℕ × List Value)) (values : List (ℕ × Value))
    → same_numbers (map (λ p. p.0) values) (xs ++ rest) ≡ true → ((p : ℕ × Value) → Among values p → Among xs p.0 → Among (try p.0) p.1)
    → Chooses cs (drop (length xs) values) → Chooses (map (λ x. (x, try x)) xs ++ cs) values
written_chooses try [] rest cs values h good k = k
written_chooses try (x ∷ xs) rest cs [] h good k = cc
written_chooses try (x ∷ xs) rest cs (p ∷ ps) h good k =
    let same : p.0 ≡ x = eqb-true p.0 x (and_first (p.0 == x) (same_numbers (map (λ q. q.0) ps) (xs ++ rest)) h) in (
      same,
      subst (λ n. Among (try n) p.1) same (good p (inl refl) (inl same)),
      written_chooses try xs rest cs ps (and_second (p.0 == x) (same_numbers (map (λ q. q.0) ps) (xs ++ rest)) h) (λ q m w. good q (inr m) (inr w)) k,
    )

same_numbers_rest : (xs rest : List ℕ) (values : List (ℕ × Value)) → same_numbers (map (λ p. p.0) values) (xs ++ rest) ≡ true
    → same_numbers (map (λ p. p.0) (drop (length xs) values)) rest ≡ true
same_numbers_rest [] rest values h = h
same_numbers_rest (x ∷ xs) rest [] h = cc
same_numbers_rest (x ∷ xs) rest (p ∷ ps) h =
    same_numbers_rest xs rest ps (and_second (p.0 == x) (same_numbers (map (λ q. q.0) ps) (xs ++ rest)) h)

-- numbers that ascend from one on
abbrev Ascends : ℕ → List ℕ → Type 0
Ascends a [] = Unit {0}
Ascends a (x ∷ xs) = (a ≤ x) × Ascends (x + 1) xs

ascends_from : (a b : ℕ) (xs : List ℕ) → a ≤ b → Ascends b xs → Ascends a xs
ascends_from a b [] le h = tt
ascends_from a b (x ∷ xs) le h = (omega (arith, le, h.0), h.1)

ascends_range : (n a b : ℕ) → a ≤ b → Ascends a (range_with_len b n)
ascends_range zero a b le = tt
ascends_range (suc n) a b le = (le, ascends_range n (b + 1) (b + 1) (omega arith))

ascends_filter : (p : ℕ → Bool) (n a b m : ℕ) → a + n ≤ b → Ascends a (filter p (range_with_len a n) ++ range_with_len b m)
ascends_filter p zero a b m le = ascends_range m a b (omega arith)
ascends_filter p (suc n) a b m le = by (ascends_filter p n (a + 1) b m (omega arith)) (p a) refl
  where
    by : Ascends (a + 1) (filter p (range_with_len (a + 1) n) ++ range_with_len b m) → (c : Bool) → p a ≡ c
        → Ascends a (filter p (range_with_len a (suc n)) ++ range_with_len b m)
    by later true e = subst (λ c. Ascends a
        ((if c then a ∷ filter p (range_with_len (a + 1) n) else filter p (range_with_len (a + 1) n)) ++ range_with_len b m)) (sym e) (omega arith, later)
    by later false e = subst (λ c. Ascends a
        ((if c then a ∷ filter p (range_with_len (a + 1) n) else filter p (range_with_len (a + 1) n)) ++ range_with_len b m)) (sym e)
        (ascends_from a (a + 1) (filter p (range_with_len (a + 1) n) ++ range_with_len b m) (omega arith) later)

differ_where : (a b : ℕ) → a + 1 ≤ b → (a == b) ≡ false
differ_where a b h = grind (arith, nat_tests)

record Looked (values : List (ℕ × Value)) (a : ℕ) (p : ℕ × Value) : Type 0 where
  pub found : looked_up values p.0 ≡ Some p.1
  pub above : a ≤ p.0

looked : (a : ℕ) (ns : List ℕ) (values : List (ℕ × Value)) → Ascends a ns → same_numbers (map (λ p. p.0) values) ns ≡ true → (p : ℕ × Value) → Among values p
    → Looked values a p
looked a ns [] asc h p k = absurd k
looked a [] (q ∷ qs) asc h p k = cc
looked a (n ∷ ns) (q ∷ qs) asc h p k =
    let same : q.0 ≡ n = eqb-true q.0 n (and_first (q.0 == n) (same_numbers (map (λ r. r.0) qs) ns) h) in
    let rest : same_numbers (map (λ r. r.0) qs) ns ≡ true = and_second (q.0 == n) (same_numbers (map (λ r. r.0) qs) ns) h in
    by (looked (n + 1) ns qs asc.1 rest p) same k
  where
    by : (Among qs p → Looked qs (n + 1) p) → q.0 ≡ n → Among (q ∷ qs) p → Looked (q ∷ qs) a p
    by later same (inl e) = record {
      found = ap (λ r. looked_up (q ∷ qs) r.0) e ∙ ap (λ b. if b then Some q.1 else looked_up qs q.0) (eqb_refl q.0) ∙ ap (λ r. Some r.1) (sym e);
      above = subst (λ m. a ≤ m) (sym same ∙ ap (λ r. r.0) (sym e)) asc.0;
    }
    by later same (inr m) = record {
      found = ap (λ b. if b then Some q.1 else looked_up qs p.0) (subst (λ w. (w == p.0) ≡ false) (sym same) (differ_where n p.0 (later m).above))
          ∙ (later m).found;
      above = omega (arith, asc.0, (later m).above);
    }

-- what an instance is
pub record Instance (s : Setting) (rule : Rule) (values : List (ℕ × Value)) : Type 0 where
  pub numbers : same_numbers (map (λ p. p.0) values) (variables_of s.grammar rule) ≡ true
  pub terms : list_all (term_fits s values) (rule_features rule) ≡ true
  pub places : list_all (λ x. is_value s declared.Positions (value_under values x)) (flat_map positions rule.body) ≡ true
  pub own : own_fit s (rule_own_features s.grammar rule) (own_values rule values) ≡ true

pub instance_parts : (s : Setting) (rule : Rule) (values : List (ℕ × Value)) → is_instance s rule values ≡ true → Instance s rule values
unfolding is_instance
instance_parts s rule values h =
    let a : Bool = same_numbers (map (λ p. p.0) values) (variables_of s.grammar rule) in
    let b : Bool = list_all (term_fits s values) (rule_features rule) in
    let c : Bool = list_all (λ x. is_value s declared.Positions (value_under values x)) (flat_map positions rule.body) in
    let d : Bool = own_fit s (rule_own_features s.grammar rule) (own_values rule values) in
    record {
      numbers = and_first a b (and_first (a && b) c (and_first ((a && b) && c) d h));
      terms = and_second a b (and_first (a && b) c (and_first ((a && b) && c) d h));
      places = and_second (a && b) c (and_first ((a && b) && c) d h);
      own = and_second ((a && b) && c) d h;
    }

head_value : (values : List (ℕ × Value)) (feats : List (ℕ × Term)) (f x : ℕ) → Among feats (f, Var x)
    → Among (feats_under values feats) (f, value_under values x)
head_value values feats f x h = among_map (λ p. (p.0, term_value values p.1)) feats (f, Var x) h

free_has : (s : Setting) (rule : Rule) (values : List (ℕ × Value)) (x : ℕ) → Instance s rule values → has (rule_variables rule) x ≡ true
    → Among (free_among s (rule_terms rule) x) (value_under values x)
free_has s rule values x i h = by (feature_at x (rule_terms rule)) refl
  where
    by : (o : Option ℕ) → feature_at x (rule_terms rule) ≡ o → Among (option_map_or (feature_values s) o (position_values s)) (value_under values x)
    by (Some f) e = feature_has s f (value_under values x)
        (all_among (term_fits s values) (rule_terms rule) (f, Var x) (all_terms (term_fits s values) rule i.terms) (feature_some x (rule_terms rule) f e))
    by None e = elim (in_rule rule x h) [
      | inl p ↦ value_has s declared.Positions (value_under values x)
          (all_among (λ y. is_value s declared.Positions (value_under values y)) (flat_map positions rule.body) x i.places
          (number_has (flat_map positions rule.body) x p))
      | inr m ↦ absurd (feature_none x (rule_terms rule) m.0 e m.1)
    ]

tried_has : (s : Setting) (rule : Rule) (wanted : Test) (values : List (ℕ × Value)) (x : ℕ) → Instance s rule values
    → fits (under values rule.head) wanted ≡ true → has (rule_variables rule) x ≡ true → Among (tried s rule wanted x) (value_under values x)
tried_has s rule wanted values x i fit h = by (fixed_at wanted.values x rule.head.feats) refl
  where
    by : (o : Option ℕ) → fixed_at wanted.values x rule.head.feats ≡ o
        → Among (option_map_or (given wanted.values) o (free_among s (rule_terms rule) x)) (value_under values x)
    by (Some f) e =
        let at : Fixed wanted.values x rule.head.feats f = fixed_some wanted.values x rule.head.feats f e in
        let all : list_all (λ p. list_all (same_where_both p) wanted.values) (feats_under values rule.head.feats) ≡ true =
        and_second (rule.head.name == wanted.name) (list_all (λ p. list_all (same_where_both p) wanted.values) (feats_under values rule.head.feats)) fit in
        given_fixed [] wanted.values f (value_under values x) at.wanted
        (all_among (λ p. list_all (same_where_both p) wanted.values) (feats_under values rule.head.feats) (f, value_under values x) all
        (head_value values rule.head.feats f x at.written))
    by None e = free_has s rule values x i h

filter_passes : (p : ℕ → Bool) (xs : List ℕ) (x : ℕ) → Among (filter p xs) x → p x ≡ true
filter_passes p [] x h = absurd h
filter_passes p (y ∷ ys) x h = by (filter_passes p ys x) (p y) refl h
  where
    by : (Among (filter p ys) x → p x ≡ true) → (b : Bool) → p y ≡ b → Among (if b then y ∷ filter p ys else filter p ys) x → p x ≡ true
    by later true e (inl same) = ap p same ∙ e
    by later true e (inr k) = later k
    by later false e k = later k

written_is : (rule : Rule) (x : ℕ) → Among (written_variables rule) x → has (rule_variables rule) x ≡ true
unfolding written_variables
written_is rule x h = filter_passes (has (rule_variables rule)) (range_with_len 0 16) x h

ascends_variables : (s : Setting) (rule : Rule) → Ascends 0 (variables_of s.grammar rule)
unfolding written_variables
ascends_variables s rule = ascends_filter (has (rule_variables rule)) 16 0 16 (length (rule_own_features s.grammar rule)) (omega arith)

pub instance_has : (s : Setting) (rule : Rule) (wanted : Test) (values : List (ℕ × Value)) → is_instance s rule values ≡ true
    → fits (under values rule.head) wanted ≡ true → Among (instances s rule wanted) values
instance_has s rule wanted values h fit =
    let i : Instance s rule values = instance_parts s rule values h in
    let own : Chooses (own_choices s 16 (rule_own_features s.grammar rule)) (own_values rule values) =
    own_chooses s (rule_own_features s.grammar rule) 16 (own_values rule values)
    (same_numbers_rest (written_variables rule) (range_with_len 16 (length (rule_own_features s.grammar rule))) values i.numbers) i.own in
    chosen_has (choices s rule wanted) ([] ∷ []) [] values (inl refl)
    (written_chooses (tried s rule wanted) (written_variables rule) (range_with_len 16 (length (rule_own_features s.grammar rule)))
    (own_choices s 16 (rule_own_features s.grammar rule)) values i.numbers (λ p m w. good i p m w) own)
  where
    good : Instance s rule values → (p : ℕ × Value) → Among values p → Among (written_variables rule) p.0 → Among (tried s rule wanted p.0) p.1
    good i p m w =
        let at : Looked values 0 p = looked 0 (variables_of s.grammar rule) values (ascends_variables s rule) i.numbers p m in
        subst (Among (tried s rule wanted p.0)) (ap (λ o. unwrap_or o (Atom 0)) at.found) (tried_has s rule wanted values p.0 i fit (written_is rule p.0 w))
