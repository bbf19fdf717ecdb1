-- The features that are written in a rule.
use Rattle.std.proofs.Common.{◌≡◌, ℕ, List, [], ◌∷◌, ◌++◌, map, Bool, true, false, ◌&&◌, ◌||◌, ◌⊎◌, inl, inr, Some, None, refl, sym, ap, subst, ◌∙◌, append-nil}
use Rattle.std.specs.Prelude.{if◌then◌else◌, ◌==◌}
use Rattle.std.specs.List.{flat_map, list_all}
use Rattle.std.proofs.lemmas.Grind.{flat_map-append}
use Rattle.std.proofs.lemmas.Bool.{and_from, or_cases, eqb-true}
use Rattle.std.proofs.lemmas.Option.{same_Some}
use Rattle.wiki_base.proofs.ListLaws.{all_append as all_both}
use Rattle.wiki_base.proofs.BoolLaws.{and_first, and_second}
use Rattle.wiki_base.proofs.NumberLaws.{eqb_refl}
use Rattle.derivation_trees.proofs.TruthLemmas.{true_is_false}
use Rattle.codeco_terms.specs.declared.values.Value.{Value}
use Rattle.codeco_terms.specs.declared.values.Term.{Term}
use Rattle.codeco_terms.specs.declared.values.Term.TheVariants.{Val, Var}
use Rattle.codeco_terms.specs.declared.categories.Category.{Category}
use Rattle.codeco_terms.specs.declared.categories.Pattern.{Pattern}
use Rattle.codeco_terms.specs.declared.elements.Element.{Element}
use Rattle.codeco_terms.specs.declared.elements.Element.TheVariants.{Terminal, Preterminal, Sub, Position, Opener, Forward, Strong, Back, NoBack}
use Rattle.codeco_terms.specs.declared.rules.Rule.{Rule}
use Rattle.codeco_checked.specs.Numbering.{has}
use Rattle.codeco_checked.specs.Occurrences.{whole, mentions, rule_features, rule_variables, element_variables, category_variables, term_variables, positions}
use Rattle.derivation_trees.proofs.OccurrenceLemmas.{has_append, all_append, with_taken_has, with_taken_all}
use Rattle.derivations.specs.Enumeration.{taken_terms, pattern_terms, element_terms, rule_terms, is_variable, feature_at, has_feature, fixed_at}
use Rattle.derivations.proofs.Members.{Among, among_left, among_right}

-- tests of all features

all_first : {X : Type 0} (p : X → Bool) (xs ys : List X) → list_all p (xs ++ ys) ≡ true → list_all p xs ≡ true
all_first p xs ys h = and_first (list_all p xs) (list_all p ys) (sym (all_append p xs ys) ∙ h)

all_second : {X : Type 0} (p : X → Bool) (xs ys : List X) → list_all p (xs ++ ys) ≡ true → list_all p ys ≡ true
all_second p xs ys h = and_second (list_all p xs) (list_all p ys) (sym (all_append p xs ys) ∙ h)

feats_of : List Category → List (ℕ × Term)
feats_of cs = flat_map (λ c. c.feats) cs

one_category : (p : ℕ × Term → Bool) (c : Category) → list_all p (flat_map (λ (d : Category). d.feats) (c ∷ [])) ≡ true → list_all p c.feats ≡ true
one_category p c h = all_first p c.feats [] h

all_taken : (p : ℕ × Term → Bool) (taken : List (ℕ × ℕ)) → list_all (λ t. p (t.0, Var t.1)) taken ≡ true → list_all p (taken_terms taken) ≡ true
all_taken p [] h = refl
all_taken p (t ∷ ts) h =
    and_from (p (t.0, Var t.1)) (list_all p (taken_terms ts)) (and_first (p (t.0, Var t.1)) (list_all (λ u. p (u.0, Var u.1)) ts) h)
    (all_taken p ts (and_second (p (t.0, Var t.1)) (list_all (λ u. p (u.0, Var u.1)) ts) h))

all_pattern : (p : ℕ × Term → Bool) (q : Pattern) → list_all p (whole q).feats ≡ true → list_all p (pattern_terms q) ≡ true
all_pattern p q h =
    let both : (list_all p q.cat.feats && list_all (λ t. p (t.0, Var t.1)) q.taken) ≡ true = sym (with_taken_all p q.cat.feats q.taken) ∙ h in
    all_both p q.cat.feats (taken_terms q.taken) (and_first (list_all p q.cat.feats) (list_all (λ t. p (t.0, Var t.1)) q.taken) both)
    (all_taken p q.taken (and_second (list_all p q.cat.feats) (list_all (λ t. p (t.0, Var t.1)) q.taken) both))

all_patterns : (p : ℕ × Term → Bool) (qs : List Pattern) → list_all p (flat_map (λ (c : Category). c.feats) (map whole qs)) ≡ true
    → list_all p (flat_map pattern_terms qs) ≡ true
all_patterns p [] h = refl
all_patterns p (q ∷ qs) h =
    all_both p (pattern_terms q) (flat_map pattern_terms qs)
    (all_pattern p q (all_first p (whole q).feats (flat_map (λ (c : Category). c.feats) (map whole qs)) h))
    (all_patterns p qs (all_second p (whole q).feats (flat_map (λ (c : Category). c.feats) (map whole qs)) h))

all_element : (p : ℕ × Term → Bool) (e : Element) → list_all p (flat_map (λ (c : Category). c.feats) (mentions e)) ≡ true → list_all p (element_terms e) ≡ true
all_element p (Terminal t) h = refl
all_element p (Preterminal c) h = one_category p c h
all_element p (Sub c) h = one_category p c h
all_element p (Position x) h = refl
all_element p Opener h = refl
all_element p (Forward c) h = one_category p c h
all_element p (Strong c) h = one_category p c h
all_element p (Back ps ns) h =
    let split : list_all p (flat_map (λ (c : Category). c.feats) (map whole ps) ++ flat_map (λ (c : Category). c.feats) (map whole ns)) ≡ true =
    ap (list_all p) (sym (flat_map-append (λ (c : Category). c.feats) (map whole ps) (map whole ns))) ∙ h in
    all_both p (flat_map pattern_terms ps) (flat_map pattern_terms ns)
    (all_patterns p ps (all_first p (flat_map (λ (c : Category). c.feats) (map whole ps)) (flat_map (λ (c : Category). c.feats) (map whole ns)) split))
    (all_patterns p ns (all_second p (flat_map (λ (c : Category). c.feats) (map whole ps)) (flat_map (λ (c : Category). c.feats) (map whole ns)) split))
all_element p (NoBack ps) h = all_patterns p ps h

all_body : (p : ℕ × Term → Bool) (body : List Element) → list_all p (flat_map (λ (c : Category). c.feats) (flat_map mentions body)) ≡ true
    → list_all p (flat_map element_terms body) ≡ true
all_body p [] h = refl
all_body p (e ∷ es) h =
    let F : Category → List (ℕ × Term) = λ c. c.feats in
    let split : list_all p (flat_map F (mentions e) ++ flat_map F (flat_map mentions es)) ≡ true =
    ap (list_all p) (sym (flat_map-append F (mentions e) (flat_map mentions es))) ∙ h in
    all_both p (element_terms e) (flat_map element_terms es) (all_element p e (all_first p (flat_map F (mentions e)) (flat_map F (flat_map mentions es)) split))
    (all_body p es (all_second p (flat_map F (mentions e)) (flat_map F (flat_map mentions es)) split))

-- what holds of all features of a rule holds of those that are gone through
pub all_terms : (p : ℕ × Term → Bool) (rule : Rule) → list_all p (rule_features rule) ≡ true → list_all p (rule_terms rule) ≡ true
all_terms p rule h =
    let F : Category → List (ℕ × Term) = λ c. c.feats in
    all_both p rule.head.feats (flat_map element_terms rule.body) (all_first p rule.head.feats (flat_map F (flat_map mentions rule.body)) h)
    (all_body p rule.body (all_second p rule.head.feats (flat_map F (flat_map mentions rule.body)) h))

-- a variable stands at a feature

abbrev pub Stands : List (ℕ × Term) → ℕ → Type 0
Stands terms x = (f : ℕ) × Among terms (f, Var x)

stands_left : (fs gs : List (ℕ × Term)) (x : ℕ) → Stands fs x → Stands (fs ++ gs) x
stands_left fs gs x h = (h.0, among_left fs gs (h.0, Var x) h.1)

stands_right : (fs gs : List (ℕ × Term)) (x : ℕ) → Stands gs x → Stands (fs ++ gs) x
stands_right fs gs x h = (h.0, among_right fs gs (h.0, Var x) h.1)

in_term : (t : Term) (x : ℕ) → has (term_variables t) x ≡ true → t ≡ Var x
in_term (Val v) x h = cc
in_term (Var y) x h = elim (or_cases (x == y) false h) [ inl e ↦ ap (λ n. Var n) (sym (eqb-true x y e)) | inr k ↦ cc ]

in_feats : (feats : List (ℕ × Term)) (x : ℕ) → has (flat_map (λ f. term_variables f.1) feats) x ≡ true → Stands feats x
in_feats [] x h = cc
in_feats (f ∷ fs) x h =
    elim (or_cases (has (term_variables f.1) x) (has (flat_map (λ g. term_variables g.1) fs) x)
    (sym (has_append (term_variables f.1) (flat_map (λ g. term_variables g.1) fs) x) ∙ h)) [
      | inl e ↦ (f.0, inl (ap (λ t. (f.0, t)) (sym (in_term f.1 x e))))
      | inr k ↦ ((in_feats fs x k).0, inr (in_feats fs x k).1)
    ]

in_taken : (taken : List (ℕ × ℕ)) (x : ℕ) → has (map (λ t. t.1) taken) x ≡ true → Stands (taken_terms taken) x
in_taken [] x h = cc
in_taken (t ∷ ts) x h =
    elim (or_cases (x == t.1) (has (map (λ u. u.1) ts) x) h) [
      | inl e ↦ (t.0, inl (ap (λ n. (t.0, Var n)) (eqb-true x t.1 e)))
      | inr k ↦ ((in_taken ts x k).0, inr (in_taken ts x k).1)
    ]

in_pattern : (q : Pattern) (x : ℕ) → has (category_variables (whole q)) x ≡ true → Stands (pattern_terms q) x
in_pattern q x h =
    elim (or_cases (has (flat_map (λ f. term_variables f.1) q.cat.feats) x) (has (map (λ t. t.1) q.taken) x) (sym (with_taken_has q.cat.feats q.taken x) ∙ h)) [
      | inl e ↦ stands_left q.cat.feats (taken_terms q.taken) x (in_feats q.cat.feats x e)
      | inr k ↦ stands_right q.cat.feats (taken_terms q.taken) x (in_taken q.taken x k)
    ]

in_patterns : (qs : List Pattern) (x : ℕ) → has (flat_map category_variables (map whole qs)) x ≡ true → Stands (flat_map pattern_terms qs) x
in_patterns [] x h = cc
in_patterns (q ∷ qs) x h =
    elim (or_cases (has (category_variables (whole q)) x) (has (flat_map category_variables (map whole qs)) x)
    (sym (has_append (category_variables (whole q)) (flat_map category_variables (map whole qs)) x) ∙ h)) [
      | inl e ↦ stands_left (pattern_terms q) (flat_map pattern_terms qs) x (in_pattern q x e)
      | inr k ↦ stands_right (pattern_terms q) (flat_map pattern_terms qs) x (in_patterns qs x k)
    ]

in_one : (c : Category) (x : ℕ) → has (flat_map category_variables (c ∷ [])) x ≡ true → Stands c.feats x
in_one c x h = in_feats c.feats x (sym (ap (λ xs. has xs x) (append-nil (category_variables c))) ∙ h)

in_mentions : (e : Element) (x : ℕ) → has (flat_map category_variables (mentions e)) x ≡ true → Stands (element_terms e) x
in_mentions (Terminal t) x h = cc
in_mentions (Preterminal c) x h = in_one c x h
in_mentions (Sub c) x h = in_one c x h
in_mentions (Position y) x h = cc
in_mentions Opener x h = cc
in_mentions (Forward c) x h = in_one c x h
in_mentions (Strong c) x h = in_one c x h
in_mentions (Back ps ns) x h =
    elim (or_cases (has (flat_map category_variables (map whole ps)) x) (has (flat_map category_variables (map whole ns)) x)
    (sym (has_append (flat_map category_variables (map whole ps)) (flat_map category_variables (map whole ns)) x)
    ∙ ap (λ xs. has xs x) (sym (flat_map-append category_variables (map whole ps) (map whole ns))) ∙ h)) [
      | inl e ↦ stands_left (flat_map pattern_terms ps) (flat_map pattern_terms ns) x (in_patterns ps x e)
      | inr k ↦ stands_right (flat_map pattern_terms ps) (flat_map pattern_terms ns) x (in_patterns ns x k)
    ]
in_mentions (NoBack ps) x h = in_patterns ps x h

in_body : (body : List Element) (x : ℕ) → has (flat_map element_variables body) x ≡ true
    → (has (flat_map positions body) x ≡ true) ⊎ Stands (flat_map element_terms body) x
in_body [] x h = cc
in_body (e ∷ es) x h =
    elim (or_cases (has (element_variables e) x) (has (flat_map element_variables es) x)
    (sym (has_append (element_variables e) (flat_map element_variables es) x) ∙ h)) [
      | inl k ↦ elim (or_cases (has (positions e) x) (has (flat_map category_variables (mentions e)) x)
          (sym (has_append (positions e) (flat_map category_variables (mentions e)) x) ∙ k)) [
            | inl p ↦ inl (has_append (positions e) (flat_map positions es) x ∙ ap (λ b. b || has (flat_map positions es) x) p)
            | inr m ↦ inr (stands_left (element_terms e) (flat_map element_terms es) x (in_mentions e x m))
          ]
      | inr k ↦ elim (in_body es x k) [
        | inl p ↦ inl (has_append (positions e) (flat_map positions es) x ∙ or_true (has (positions e) x) (has (flat_map positions es) x) p)
        | inr m ↦ inr (stands_right (element_terms e) (flat_map element_terms es) x m)
      ]
    ]
  where
    or_true : (a b : Bool) → b ≡ true → (a || b) ≡ true
    or_true true b h = refl
    or_true false b h = h

-- a variable of a rule stands at a feature, or after `#`
pub in_rule : (rule : Rule) (x : ℕ) → has (rule_variables rule) x ≡ true → (has (flat_map positions rule.body) x ≡ true) ⊎ Stands (rule_terms rule) x
in_rule rule x h =
    elim (or_cases (has (category_variables rule.head) x) (has (flat_map element_variables rule.body) x)
    (sym (has_append (category_variables rule.head) (flat_map element_variables rule.body) x) ∙ h)) [
      | inl e ↦ inr (stands_left rule.head.feats (flat_map element_terms rule.body) x (in_feats rule.head.feats x e))
      | inr k ↦ elim (in_body rule.body x k) [
        | inl p ↦ inl p
        | inr m ↦ inr (stands_right rule.head.feats (flat_map element_terms rule.body) x m)
      ]
    ]

-- the first feature of a variable

is_the_variable : (x : ℕ) (t : Term) → is_variable x t ≡ true → t ≡ Var x
is_the_variable x (Val v) h = cc
is_the_variable x (Var y) h = ap (λ n. Var n) (sym (eqb-true x y h))

pub feature_some : (x : ℕ) (terms : List (ℕ × Term)) (f : ℕ) → feature_at x terms ≡ Some f → Among terms (f, Var x)
feature_some x [] f h = cc
feature_some x (g ∷ gs) f h = by (feature_some x gs f) (is_variable x g.1) refl h
  where
    by : (feature_at x gs ≡ Some f → Among gs (f, Var x)) → (b : Bool) → is_variable x g.1 ≡ b → (if b then Some g.0 else feature_at x gs) ≡ Some f
        → Among (g ∷ gs) (f, Var x)
    by later true e k = inl (ap (λ n. (n, Var x)) (sym (same_Some g.0 f k)) ∙ ap (λ t. (g.0, t)) (sym (is_the_variable x g.1 e)))
    by later false e k = inr (later k)

pub feature_none : (x : ℕ) (terms : List (ℕ × Term)) (f : ℕ) → feature_at x terms ≡ None → Among terms (f, Var x) → ⊥
feature_none x [] f h k = k
feature_none x (g ∷ gs) f h k = by (feature_none x gs f) (is_variable x g.1) refl h k
  where
    by : (feature_at x gs ≡ None → Among gs (f, Var x) → ⊥) → (b : Bool) → is_variable x g.1 ≡ b → (if b then Some g.0 else feature_at x gs) ≡ None
        → Among (g ∷ gs) (f, Var x) → ⊥
    by later true e m n = cc
    by later false e m (inl same) = true_is_false (sym (ap (λ p. is_variable x p.1) (sym same) ∙ eqb_refl x) ∙ e)
    by later false e m (inr n) = later m n

pub record Fixed (pairs : List (ℕ × Value)) (x : ℕ) (feats : List (ℕ × Term)) (f : ℕ) : Type 0 where
  pub written : Among feats (f, Var x)
  pub wanted : has_feature pairs f ≡ true

pub fixed_some : (pairs : List (ℕ × Value)) (x : ℕ) (feats : List (ℕ × Term)) (f : ℕ) → fixed_at pairs x feats ≡ Some f → Fixed pairs x feats f
fixed_some pairs x [] f h = cc
fixed_some pairs x (g ∷ gs) f h = by (fixed_some pairs x gs f) (is_variable x g.1 && has_feature pairs g.0) refl h
  where
    by : (fixed_at pairs x gs ≡ Some f → Fixed pairs x gs f) → (b : Bool) → (is_variable x g.1 && has_feature pairs g.0) ≡ b
        → (if b then Some g.0 else fixed_at pairs x gs) ≡ Some f → Fixed pairs x (g ∷ gs) f
    by later true e k = record {
      written = inl (ap (λ n. (n, Var x)) (sym (same_Some g.0 f k))
          ∙ ap (λ t. (g.0, t)) (sym (is_the_variable x g.1 (and_first (is_variable x g.1) (has_feature pairs g.0) e))));
      wanted = subst (λ n. has_feature pairs n ≡ true) (same_Some g.0 f k) (and_second (is_variable x g.1) (has_feature pairs g.0) e);
    }
    by later false e k = record { written = inr (later k).written; wanted = (later k).wanted }
