-- The class occurrences of knowledge: they have the parts of each class that is one of them.
use Rattle.std.proofs.Common.{◌≡◌, ℕ, suc, ◌+◌, ◌*◌, ◌≤◌, ◌⊎◌, Bool, true, false, List, [], ◌∷◌, ◌++◌, map, filter, length, cond, Some, refl, sym, ap, ◌∙◌, subst, inl, inr, arith, length-append}
use Rattle.std.specs.List.{list_any, flat_map}
use Rattle.std.proofs.lemmas.Bool.{or_cases, or_left, or_right}
use Rattle.std.proofs.lemmas.List.{length-map}
use Rattle.wiki_base.specs.declared.numbers.WordId.{WordId}
use Rattle.tableau_rules.proofs.Labels.{has-append}
use Rattle.logic_terms.specs.declared.expressions.Role.{Role}
use Rattle.logic_terms.specs.Concept.{Concept, Concepts, Everything, Atomic, ComplementOf, IntersectionOf, UnionOf, SomeValuesFrom, AllValuesFrom, HasValue, no_concept, also_concept}
use Rattle.logic_terms.specs.Interpretation.{is_word}
use Rattle.logic_terms.specs.Parts.{members_in, intersection_part, union_part, some_part, all_part}
use Rattle.logic_terms.specs.Same.{same_role, same_concept, has_concept}
use Rattle.logic_terms.specs.Theory.{Theory, representative}
use Rattle.logic_terms.proofs.SameLemmas.{role_equal, same_role-self, same_concept-equal, same_concept-self}
use Rattle.tableau_rules.specs.Clashes.{passes}
use Rattle.tableau_rules.specs.Rules.{unfoldings_of}
use Rattle.tableau_rules.specs.Branches.{asserted}
use Rattle.tableau_bounds.specs.Enough.{occurrences, member_occurrences, all_occurrences, given_classes, own_occurrences, class_occurrences, class_count}
use Rattle.tableau_rules.specs.Carrying.{along, both_ways}

-- each class of one list is in another
abbrev pub Within : List Concept → List Concept → Type 0
Within cs ds = (e : Concept) → has_concept cs e ≡ true → has_concept ds e ≡ true

pub in_first : (cs ds : List Concept) → Within cs (cs ++ ds)
in_first cs ds e h = has-append cs ds e ∙ or_left (has_concept cs e) (has_concept ds e) h

pub in_second : (cs ds : List Concept) → Within ds (cs ++ ds)
in_second cs ds e h = has-append cs ds e ∙ or_right (has_concept cs e) (has_concept ds e) h

pub in_one : (cs ds : List Concept) (e : Concept) → has_concept (cs ++ ds) e ≡ true → (has_concept cs e ≡ true) ⊎ (has_concept ds e ≡ true)
in_one cs ds e h = or_cases (has_concept cs e) (has_concept ds e) (sym (has-append cs ds e) ∙ h)

-- the parts of a class are in a list, which is at least as long
abbrev pub HasParts : List Concept → Concept → Type 0
HasParts ds c = Within (occurrences c) ds × (length (occurrences c) ≤ length ds)

le_self : (n : ℕ) → n ≤ n
le_self n = omega arith

top : (d : Concept) (rest : List Concept) → occurrences d ≡ d ∷ rest → ((c : Concept) → has_concept rest c ≡ true → HasParts rest c) → (c : Concept)
    → has_concept (d ∷ rest) c ≡ true → HasParts (d ∷ rest) c
top d rest is inside c h = elim (or_cases (same_concept d c) (has_concept rest c) h) [
  | inl here ↦ subst (HasParts (d ∷ rest)) (same_concept-equal d c here)
      ((λ e there. subst (λ l. has_concept l e ≡ true) is there), subst (λ l. length (occurrences d) ≤ length l) is (le_self (length (occurrences d))))
  | inr later ↦
      let parts = inside c later in
      ((λ e there. or_right (same_concept d e) (has_concept rest e) (parts.0 e there)), more (length (occurrences c)) (length rest) parts.1)
]
  where
    more : (a b : ℕ) → a ≤ b → a ≤ suc b
    more a b le = omega arith

leaf : (c : Concept) → has_concept [] c ≡ true → HasParts [] c
leaf c h = cc

both : (cs ds : List Concept) → ((c : Concept) → has_concept cs c ≡ true → HasParts cs c) → ((c : Concept) → has_concept ds c ≡ true → HasParts ds c)
    → (c : Concept) → has_concept (cs ++ ds) c ≡ true → HasParts (cs ++ ds) c
both cs ds first second c h = elim (in_one cs ds c h) [
  | inl one ↦ let parts = first c one in
      ((λ e there. in_first cs ds e (parts.0 e there)), left (length (occurrences c)) (length cs) (length ds) (length (cs ++ ds)) parts.1 (length-append cs ds))
  | inr two ↦ let parts = second c two in (
    (λ e there. in_second cs ds e (parts.0 e there)),
    right (length (occurrences c)) (length cs) (length ds) (length (cs ++ ds)) parts.1 (length-append cs ds),
  )
]
  where
    left : (a x y z : ℕ) → a ≤ x → z ≡ x + y → a ≤ z
    left a x y z le sum = omega arith

    right : (a x y z : ℕ) → a ≤ y → z ≡ x + y → a ≤ z
    right a x y z le sum = omega arith

mutual
  pub parts_within : (d c : Concept) → has_concept (occurrences d) c ≡ true → HasParts (occurrences d) c
  parts_within Everything c h = top Everything [] refl leaf c h
  parts_within (Atomic word) c h = top (Atomic word) [] refl leaf c h
  parts_within (ComplementOf d) c h = top (ComplementOf d) (occurrences d) refl (parts_within d) c h
  parts_within (IntersectionOf ds) c h = top (IntersectionOf ds) (member_occurrences ds) refl (members_within ds) c h
  parts_within (UnionOf ds) c h = top (UnionOf ds) (member_occurrences ds) refl (members_within ds) c h
  parts_within (SomeValuesFrom role d) c h = top (SomeValuesFrom role d) (occurrences d) refl (parts_within d) c h
  parts_within (AllValuesFrom role d) c h = top (AllValuesFrom role d) (occurrences d) refl (parts_within d) c h
  parts_within (HasValue role name) c h = top (HasValue role name) [] refl leaf c h

  pub members_within : (ds : Concepts) (c : Concept) → has_concept (member_occurrences ds) c ≡ true → HasParts (member_occurrences ds) c
  members_within no_concept c h = leaf c h
  members_within (also_concept d ds) c h = both (occurrences d) (member_occurrences ds) (parts_within d) (members_within ds) c h

pub all_within : (ds : List Concept) (c : Concept) → has_concept (all_occurrences ds) c ≡ true → HasParts (all_occurrences ds) c
all_within [] c h = leaf c h
all_within (d ∷ ds) c h = both (occurrences d) (all_occurrences ds) (parts_within d) (all_within ds) c h

-- a class occurs in itself
here : (d : Concept) (rest : List Concept) → has_concept (d ∷ rest) d ≡ true
here d rest = or_left (same_concept d d) (has_concept rest d) (same_concept-self d)

pub occurs : (c : Concept) → has_concept (occurrences c) c ≡ true
occurs Everything = here Everything []
occurs (Atomic word) = here (Atomic word) []
occurs (ComplementOf c) = here (ComplementOf c) (occurrences c)
occurs (IntersectionOf cs) = here (IntersectionOf cs) (member_occurrences cs)
occurs (UnionOf cs) = here (UnionOf cs) (member_occurrences cs)
occurs (SomeValuesFrom role c) = here (SomeValuesFrom role c) (occurrences c)
occurs (AllValuesFrom role c) = here (AllValuesFrom role c) (occurrences c)
occurs (HasValue role name) = here (HasValue role name) []

pub each_occurs : (ds : List Concept) → Within ds (all_occurrences ds)
each_occurs [] e h = h
each_occurs (d ∷ ds) e h = elim (or_cases (same_concept d e) (has_concept ds e) h) [
  | inl same ↦ in_first (occurrences d) (all_occurrences ds) e (subst (λ z. has_concept (occurrences d) z ≡ true) (same_concept-equal d e same) (occurs d))
  | inr later ↦ in_second (occurrences d) (all_occurrences ds) e (each_occurs ds e later)
]

-- the members of an intersection or a union
pub members_occur : (cs : Concepts) → Within (members_in cs) (member_occurrences cs)
members_occur no_concept e h = h
members_occur (also_concept c cs) e h = elim (or_cases (same_concept c e) (has_concept (members_in cs) e) h) [
  | inl same ↦ in_first (occurrences c) (member_occurrences cs) e (subst (λ z. has_concept (occurrences c) z ≡ true) (same_concept-equal c e same) (occurs c))
  | inr later ↦ in_second (occurrences c) (member_occurrences cs) e (members_occur cs e later)
]

one_at_least : (c : Concept) → 1 ≤ length (occurrences c)
one_at_least c = go (occurrences c) (occurs c)
  where
    go : (cs : List Concept) → has_concept cs c ≡ true → 1 ≤ length cs
    go [] h = cc
    go (d ∷ ds) h = omega arith

pub members_few : (cs : Concepts) → length (members_in cs) ≤ length (member_occurrences cs)
members_few no_concept = omega arith
members_few (also_concept c cs) = sum (length (occurrences c)) (length (members_in cs)) (length (member_occurrences cs))
    (length (occurrences c ++ member_occurrences cs)) (one_at_least c) (members_few cs) (length-append (occurrences c) (member_occurrences cs))
  where
    sum : (a x y z : ℕ) → 1 ≤ a → x ≤ y → z ≡ a + y → suc x ≤ z
    sum a x y z one le total = omega arith

below : (d : Concept) (rest : List Concept) → Within rest (d ∷ rest)
below d rest e h = or_right (same_concept d e) (has_concept rest e) h

pub map_within : {X : Type 0} (class_of : X → Concept) (p : X → Bool) (xs : List X) → Within (map class_of (filter p xs)) (map class_of xs)
map_within class_of p [] e h = h
map_within class_of p (x ∷ xs) e h = go (p x) h (map_within class_of p xs e)
  where
    go : (b : Bool) → has_concept (map class_of (cond b (x ∷ filter p xs) (filter p xs))) e ≡ true
        → (has_concept (map class_of (filter p xs)) e ≡ true → has_concept (map class_of xs) e ≡ true) → has_concept (map class_of (x ∷ xs)) e ≡ true
    go true in_all rest = elim (or_cases (same_concept (class_of x) e) (has_concept (map class_of (filter p xs)) e) in_all) [
      | inl same ↦ or_left (same_concept (class_of x) e) (has_concept (map class_of xs) e) same
      | inr later ↦ or_right (same_concept (class_of x) e) (has_concept (map class_of xs) e) (rest later)
    ]
    go false in_all rest = or_right (same_concept (class_of x) e) (has_concept (map class_of xs) e) (rest in_all)

-- a class along one role and then along another
pub along_twice : (t s : Role) (d : Concept) → along t (along s d) ≡ along t d
along_twice t s (ComplementOf d) = ap ComplementOf (along_twice t s d)
along_twice t s (AllValuesFrom role d) = refl
along_twice t s (HasValue role name) = refl
along_twice t s _ = refl

-- whether a role is in a list
abbrev pub has_role : List Role → Role → Bool
has_role roles t = list_any (λ s. same_role s t) roles

-- classes along each of these roles
abbrev pub moved : List Concept → List Role → List Concept
moved own roles = flat_map (λ t. map (along t) own) roles

mapped_there : (t : Role) (own : List Concept) (d : Concept) → has_concept own d ≡ true → has_concept (map (along t) own) (along t d) ≡ true
mapped_there t [] d h = cc
mapped_there t (c ∷ own) d h = elim (or_cases (same_concept c d) (has_concept own d) h) [
  | inl here ↦ or_left (same_concept (along t c) (along t d)) (has_concept (map (along t) own) (along t d))
      (subst (λ e. same_concept (along t c) (along t e) ≡ true) (same_concept-equal c d here) (same_concept-self (along t c)))
  | inr later ↦ or_right (same_concept (along t c) (along t d)) (has_concept (map (along t) own) (along t d)) (mapped_there t own d later)
]

mapped_found : (t : Role) (own : List Concept) (e : Concept) → has_concept (map (along t) own) e ≡ true
    → (d : Concept) × (has_concept own d ≡ true) × (e ≡ along t d)
mapped_found t [] e h = cc
mapped_found t (c ∷ own) e h = elim (or_cases (same_concept (along t c) e) (has_concept (map (along t) own) e) h) [
  | inl here ↦ (c, or_left (same_concept c c) (has_concept own c) (same_concept-self c), sym (same_concept-equal (along t c) e here))
  | inr later ↦ let found = mapped_found t own e later in (found.0, or_right (same_concept c found.0) (has_concept own found.0) found.1, found.2)
]

pub moved_there : (own : List Concept) (roles : List Role) (t : Role) (d : Concept) → has_role roles t ≡ true → has_concept own d ≡ true
    → has_concept (moved own roles) (along t d) ≡ true
moved_there own [] t d there h = cc
moved_there own (s ∷ roles) t d there h = elim (or_cases (same_role s t) (has_role roles t) there) [
  | inl here ↦ in_first (map (along s) own) (moved own roles) (along t d)
      (subst (λ r. has_concept (map (along s) own) (along r d) ≡ true) (role_equal s t here) (mapped_there s own d h))
  | inr later ↦ in_second (map (along s) own) (moved own roles) (along t d) (moved_there own roles t d later h)
]

pub moved_found : (own : List Concept) (roles : List Role) (e : Concept) → has_concept (moved own roles) e ≡ true
    → (t : Role) × (d : Concept) × (has_role roles t ≡ true) × (has_concept own d ≡ true) × (e ≡ along t d)
moved_found own [] e h = cc
moved_found own (s ∷ roles) e h = elim (in_one (map (along s) own) (moved own roles) e h) [
  | inl here ↦
      let found = mapped_found s own e here in
      (s, found.0, or_left (same_role s s) (has_role roles s) (same_role-self s), found.1, found.2)
  | inr later ↦
      let found = moved_found own roles e later in
      (found.0, found.1, or_right (same_role s found.0) (has_role roles found.0) found.2, found.3, found.4)
]

pub parts_longer : (cs ds : List Concept) (c : Concept) → HasParts cs c → HasParts (cs ++ ds) c
parts_longer cs ds c parts = (
  λ e there. in_first cs ds e (parts.0 e there),
  sum (length (occurrences c)) (length cs) (length ds) (length (cs ++ ds)) parts.1 (length-append cs ds),
)
  where
    sum : (a x y z : ℕ) → a ≤ x → z ≡ x + y → a ≤ z
    sum a x y z le total = omega arith

length-along : (t : Role) (d : Concept) → length (occurrences (along t d)) ≡ length (occurrences d)
length-along t (ComplementOf d) = ap suc (length-along t d)
length-along t (AllValuesFrom role d) = refl
length-along t (HasValue role name) = refl
length-along t _ = refl

-- the parts of a class along a role: itself, and parts of the class or these along the role
pub moved_parts : (own : List Concept) (roles : List Role) → ((c : Concept) → has_concept own c ≡ true → HasParts own c) → (t : Role) (d : Concept)
    → has_role roles t ≡ true → has_concept own d ≡ true → HasParts (own ++ moved own roles) (along t d)
moved_parts own roles parts t d there h = (
  within d h,
  subst (λ n. n ≤ length (own ++ moved own roles)) (sym (length-along t d)) (parts_longer own (moved own roles) d (parts d h)).1,
)
  where
    itself : (d : Concept) → has_concept own d ≡ true → has_concept (own ++ moved own roles) (along t d) ≡ true
    itself d h = in_second own (moved own roles) (along t d) (moved_there own roles t d there h)

    old : (d : Concept) → has_concept own d ≡ true → Within (occurrences d) (own ++ moved own roles)
    old d h = (parts_longer own (moved own roles) d (parts d h)).0

    under : (top : Concept) (rest : List Concept) → has_concept (own ++ moved own roles) top ≡ true → Within rest (own ++ moved own roles)
        → Within (top ∷ rest) (own ++ moved own roles)
    under top rest has later e h = elim (or_cases (same_concept top e) (has_concept rest e) h) [
      | inl same ↦ subst (λ z. has_concept (own ++ moved own roles) z ≡ true) (same_concept-equal top e same) has
      | inr other ↦ later e other
    ]

    within : (d : Concept) → has_concept own d ≡ true → Within (occurrences (along t d)) (own ++ moved own roles)
    within (ComplementOf d) h =
        under (ComplementOf (along t d)) (occurrences (along t d)) (itself (ComplementOf d) h)
        (within d ((parts (ComplementOf d) h).0 d (below (ComplementOf d) (occurrences d) d (occurs d))))
    within (AllValuesFrom role d) h =
        under (AllValuesFrom t d) (occurrences d) (itself (AllValuesFrom role d) h)
        (λ e inside. old (AllValuesFrom role d) h e (below (AllValuesFrom role d) (occurrences d) e inside))
    within (HasValue role name) h = under (HasValue t name) [] (itself (HasValue role name) h) (λ e inside. cc)
    within Everything h = old Everything h
    within (Atomic word) h = old (Atomic word) h
    within (IntersectionOf ds) h = old (IntersectionOf ds) h
    within (UnionOf ds) h = old (UnionOf ds) h
    within (SomeValuesFrom role d) h = old (SomeValuesFrom role d) h

-- what the roles that are kept carry of a class
pub carried_within : (ds : List Concept) (c : Concept) (roles : List Role) → ((t : Role) → has_role roles t ≡ true → has_concept ds (along t c) ≡ true)
    → Within (map (λ t. along t c) roles) ds
carried_within ds c [] each e h = cc
carried_within ds c (t ∷ roles) each e h = elim (or_cases (same_concept (along t c) e) (has_concept (map (λ s. along s c) roles) e) h) [
  | inl same ↦ subst (λ z. has_concept ds z ≡ true) (same_concept-equal (along t c) e same)
      (each t (or_left (same_role t t) (has_role roles t) (same_role-self t)))
  | inr later ↦ carried_within ds c roles (λ s there. each s (or_right (same_role t s) (has_role roles s) there)) e later
]

-- what is there of those that are kept is there of all
pub any_kept : {X : Type 0} (test p : X → Bool) (xs : List X) → list_any test (filter p xs) ≡ true → list_any test xs ≡ true
any_kept test p [] h = h
any_kept test p (x ∷ xs) h = go (p x) h (any_kept test p xs)
  where
    go : (b : Bool) → list_any test (cond b (x ∷ filter p xs) (filter p xs)) ≡ true → (list_any test (filter p xs) ≡ true → list_any test xs ≡ true)
        → list_any test (x ∷ xs) ≡ true
    go true there rest = elim (or_cases (test x) (list_any test (filter p xs)) there) [
      | inl here ↦ or_left (test x) (list_any test xs) here
      | inr later ↦ or_right (test x) (list_any test xs) (rest later)
    ]
    go false there rest = or_right (test x) (list_any test xs) (rest there)

-- how many there are
pub length-moved : (own : List Concept) (words : List WordId) → length (own ++ moved own (flat_map both_ways words)) ≡ length own * (1 + 2 * length words)
length-moved own words = length-append own (moved own (flat_map both_ways words)) ∙ (ap (λ n. length own + n) (go words) ∙ total (length own) (length words))
  where
    total : (c t : ℕ) → c + c * (2 * t) ≡ c * (1 + 2 * t)
    total c t = omega arith

    next : (c t : ℕ) → c + (c + c * (2 * t)) ≡ c * (2 * suc t)
    next c t = omega arith

    go : (words : List WordId) → length (moved own (flat_map both_ways words)) ≡ length own * (2 * length words)
    go [] = (λ j. zero_is (length own) j)
      where
        zero_is : (c : ℕ) → 0 ≡ c * (2 * 0)
        zero_is c = omega arith
    go (w ∷ words) =
        let plain : Role = record { id = w; inverted = false } in
        let turned : Role = record { id = w; inverted = true } in
        length-append (map (along plain) own) (map (along turned) own ++ moved own (flat_map both_ways words))
        ∙ (ap (λ n. length (map (along plain) own) + n) (length-append (map (along turned) own) (moved own (flat_map both_ways words)))
        ∙ ((λ j. length-map own (along plain) j + (length-map own (along turned) j + go words j)) ∙ next (length own) (length words)))

module _ (k : Theory) where
  -- the parts of a class occurrence are class occurrences
  pub parts_of : (c : Concept) → has_concept (class_occurrences k) c ≡ true → HasParts (class_occurrences k) c
  parts_of c h = elim (in_one (own_occurrences k) (moved (own_occurrences k) (flat_map both_ways k.transitive)) c h) [
    | inl own ↦ parts_longer (own_occurrences k) (moved (own_occurrences k) (flat_map both_ways k.transitive)) c (all_within (given_classes k) c own)
    | inr other ↦
        let found = moved_found (own_occurrences k) (flat_map both_ways k.transitive) c other in
        subst (HasParts (class_occurrences k)) (sym found.4)
        (moved_parts (own_occurrences k) (flat_map both_ways k.transitive) (all_within (given_classes k)) found.0 found.1 found.2 found.3)
  ]

  -- what is carried along of a class occurrence is one
  pub along_within : (c : Concept) (t : Role) → has_concept (class_occurrences k) c ≡ true → has_role (flat_map both_ways k.transitive) t ≡ true
      → has_concept (class_occurrences k) (along t c) ≡ true
  along_within c t h there =
      in_second (own_occurrences k) (moved (own_occurrences k) (flat_map both_ways k.transitive)) (along t c)
      (elim (in_one (own_occurrences k) (moved (own_occurrences k) (flat_map both_ways k.transitive)) c h) [
        | inl own ↦ moved_there (own_occurrences k) (flat_map both_ways k.transitive) t c there own
        | inr other ↦
            let found = moved_found (own_occurrences k) (flat_map both_ways k.transitive) c other in
            subst (λ e. has_concept (moved (own_occurrences k) (flat_map both_ways k.transitive)) e ≡ true)
            (sym (ap (along t) found.4 ∙ along_twice t found.0 found.1))
            (moved_there (own_occurrences k) (flat_map both_ways k.transitive) t found.1 there found.3)
      ])

  pub given_within : Within (given_classes k) (class_occurrences k)
  given_within e h =
      in_first (own_occurrences k) (moved (own_occurrences k) (flat_map both_ways k.transitive)) e (each_occurs (given_classes k) e h)

  pub general_within : Within k.general (class_occurrences k)
  general_within e h =
      given_within e (in_second (map (λ a. a.1) k.assertions) (map (λ a. a.1) k.unfoldings ++ k.general) e
      (in_second (map (λ a. a.1) k.unfoldings) k.general e h))

  pub unfoldings_within : (word : WordId) → Within (unfoldings_of k word) (class_occurrences k)
  unfoldings_within word e h =
      given_within e (in_second (map (λ a. a.1) k.assertions) (map (λ a. a.1) k.unfoldings ++ k.general) e
      (in_first (map (λ a. a.1) k.unfoldings) k.general e (map_within (λ a. a.1) (λ a. is_word word a.0) k.unfoldings e h)))

  pub asserted_within : (root : WordId) → Within (asserted k root) (class_occurrences k)
  asserted_within root e h =
      given_within e (in_first (map (λ a. a.1) k.assertions) (map (λ a. a.1) k.unfoldings ++ k.general) e
      (map_within (λ a. a.1) (λ a. passes (representative k a.0) (is_word root)) k.assertions e h))

  option_same : {X : Type 0} (a b : X) → Some a ≡ Some b → a ≡ b
  option_same a b e = cc

  pub intersection_within : (c : Concept) (cs : List Concept) → has_concept (class_occurrences k) c ≡ true → intersection_part c ≡ Some cs
      → Within cs (class_occurrences k)
  intersection_within (IntersectionOf ds) cs h is e there =
      let same = option_same (members_in ds) cs is in
      (parts_of (IntersectionOf ds) h).0 e
      (below (IntersectionOf ds) (member_occurrences ds) e (members_occur ds e (subst (λ l. has_concept l e ≡ true) (sym same) there)))
  intersection_within _ cs h is e there = cc

  pub union_within : (c : Concept) (cs : List Concept) → has_concept (class_occurrences k) c ≡ true → union_part c ≡ Some cs → Within cs (class_occurrences k)
  union_within (UnionOf ds) cs h is e there =
      let same = option_same (members_in ds) cs is in
      (parts_of (UnionOf ds) h).0 e (below (UnionOf ds) (member_occurrences ds) e (members_occur ds e (subst (λ l. has_concept l e ≡ true) (sym same) there)))
  union_within _ cs h is e there = cc

  pub union_few : (c : Concept) (cs : List Concept) → has_concept (class_occurrences k) c ≡ true → union_part c ≡ Some cs → length cs ≤ class_count k
  union_few (UnionOf ds) cs h is =
      let same = option_same (members_in ds) cs is in
      subst (λ l. length l ≤ class_count k) same
      (sum (length (members_in ds)) (length (member_occurrences ds)) (class_count k) (members_few ds) (parts_of (UnionOf ds) h).1)
    where
      sum : (a x y : ℕ) → a ≤ x → suc x ≤ y → a ≤ y
      sum a x y le lt = omega arith
  union_few _ cs h is = cc

  pub some_within : (c : Concept) (p : Role × Concept) → has_concept (class_occurrences k) c ≡ true → some_part c ≡ Some p
      → has_concept (class_occurrences k) p.1 ≡ true
  some_within (SomeValuesFrom role d) p h is =
      let same = option_same (role, d) p is in
      subst (λ q. has_concept (class_occurrences k) q.1 ≡ true) same
      ((parts_of (SomeValuesFrom role d) h).0 d (below (SomeValuesFrom role d) (occurrences d) d (occurs d)))
  some_within _ p h is = cc

  pub all_class_within : (c : Concept) (p : Role × Concept) → has_concept (class_occurrences k) c ≡ true → all_part c ≡ Some p
      → has_concept (class_occurrences k) p.1 ≡ true
  all_class_within (AllValuesFrom role d) p h is =
      let same = option_same (role, d) p is in
      subst (λ q. has_concept (class_occurrences k) q.1 ≡ true) same
      ((parts_of (AllValuesFrom role d) h).0 d (below (AllValuesFrom role d) (occurrences d) d (occurs d)))
  all_class_within _ p h is = cc
