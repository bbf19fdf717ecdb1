-- Pairs of roles, and the closure of inclusions.
use Rattle.std.proofs.Common.{◌≡◌, ◌<◌, ◌+◌, ◌==◌, ◌&&◌, Bool, true, false, List, [], ◌∷◌, ◌++◌, get_or, Contains, refl, sym, ap, ◌∙◌, subst, inl, inr, arith, Decides}
use Rattle.std.specs.Prelude.{◌⊎◌, ◌↔◌}
use Rattle.std.specs.List.{list_any}
use Rattle.std.proofs.lemmas.Bool.Decides.{Decides-eqb, Decides-like, Decides-and, Decides-or, Decides-by_or}
use Rattle.std.proofs.lemmas.List.Elements.{Contains-append_left, Contains-push, Contains-push_cases, Decides-contains, All-push}
use Rattle.std.proofs.lemmas.List.Quantifiers.{all_pairs_push}
use Rattle.std.proofs.Math.Bool.{not-not}
use Rattle.wiki_base.specs.declared.numbers.WordId.{WordId}
use Rattle.logic_terms.specs.declared.expressions.Role.{Role}
use Rattle.logic_terms.specs.Interpretation.{is_word}
use Rattle.logic_terms.specs.Same.{same_role, same_direction, inverse}
use Rattle.logic_terms.specs.Theory.{Theory, is_below}
use Rattle.absorb.specs.Closure.{Reaches}
use Rattle.absorb.specs.Hierarchy.{IsAtOrBelow, AreDistinct}
use Rattle.absorb.specs.Absorbed.{IsPutBelow}
use Rattle.absorb.proofs.ClosureLemmas as closure

-- what an element of a slice is shown as
abbrev pub no_role : Role
no_role = record { id = record { 0 = 0 }; inverted = false }

abbrev pub no_pair : Role × Role
no_pair = (no_role, no_role)

pub is_word-Decides : (v w : WordId) → Decides (is_word v w) (v ≡ w)
is_word-Decides v w = Decides-like (is_word v w) (λ e j. record { 0 = e j }) (λ e. ap (λ x. x.0) e) (Decides-eqb v.0 w.0)

same_direction-Decides : (a b : Bool) → Decides (same_direction a b) (a ≡ b)
same_direction-Decides true true = (λ _. refl, λ _. refl)
same_direction-Decides true false = (λ e. cc, λ e. cc)
same_direction-Decides false true = (λ e. cc, λ e. cc)
same_direction-Decides false false = (λ _. refl, λ _. refl)

pub same_role-Decides : (r s : Role) → Decides (same_role r s) (r ≡ s)
same_role-Decides r s =
    Decides-like (same_role r s) (λ e j. record { id = e.0 j; inverted = e.1 j }) (λ e. (ap (λ x. x.id) e, ap (λ x. x.inverted) e))
    (Decides-and (is_word r.id s.id) (same_direction r.inverted s.inverted) (is_word-Decides r.id s.id) (same_direction-Decides r.inverted s.inverted))

pair_is : (p : Role × Role) (r s : Role) → Decides (same_role p.0 r && same_role p.1 s) (p ≡ (r, s))
pair_is p r s =
    Decides-like (same_role p.0 r && same_role p.1 s) (λ e j. (e.0 j, e.1 j)) (λ e. (ap (λ q. q.0) e, ap (λ q. q.1) e))
    (Decides-and (same_role p.0 r) (same_role p.1 s) (same_role-Decides p.0 r) (same_role-Decides p.1 s))

pub is_below-Decides : (k : Theory) (r s : Role) → Decides (is_below k r s) (IsAtOrBelow k.hierarchy r s)
is_below-Decides k r s =
    let test : Role × Role → Bool = λ p. same_role p.0 r && same_role p.1 s in
    Decides-or (same_role r s) (list_any test k.hierarchy) (same_role-Decides r s)
    (Decides-contains k.hierarchy (r, s) (list_any test k.hierarchy)
    (Decides-by_or test (λ p. p ≡ (r, s)) (list_any test) (λ p. pair_is p r s) refl (λ _ _. refl) k.hierarchy))

nothing_in : {X : Type 0} (x : X) → ¬ Contains [] x
nothing_in x (k, h, e) = absurd (omega arith)

-- what is below a role by pairs of which one more is there
pub lower_more : (hs : List (Role × Role)) (made : List Role) (p : Role × Role) (role : Role) → p.1 ≡ role
    → ((r : Role) → Contains made r ↔ IsAtOrBelow hs r role) → (r : Role) → Contains (made ++ p.0 ∷ []) r ↔ IsAtOrBelow (hs ++ p ∷ []) r role
lower_more hs made p role e all r = (
  λ h. elim (Contains-push_cases made p.0 r h) [
    | inl old ↦ elim ((all r).0 old) [ inl same ↦ inl same | inr pair ↦ inr (Contains-append_left hs (p ∷ []) (r, role) pair) ]
    | inr new ↦ inr (subst (λ q. Contains (hs ++ p ∷ []) q) (λ j. (new j, e j)) (Contains-push hs p))
  ],
  λ h. elim h [
    | inl same ↦ Contains-append_left made (p.0 ∷ []) r ((all r).1 (inl same))
    | inr pair ↦ elim (Contains-push_cases hs p (r, role) pair) [
      | inl old ↦ Contains-append_left made (p.0 ∷ []) r ((all r).1 (inr old))
      | inr new ↦ subst (λ q. Contains (made ++ p.0 ∷ []) q) (ap (λ q. q.0) new) (Contains-push made p.0)
    ]
  ],
)

pub lower_skip : (hs : List (Role × Role)) (made : List Role) (p : Role × Role) (role : Role) → (p.1 ≡ role → ⊥)
    → ((r : Role) → Contains made r ↔ IsAtOrBelow hs r role) → (r : Role) → Contains made r ↔ IsAtOrBelow (hs ++ p ∷ []) r role
lower_skip hs made p role ne all r = (
  λ h. elim ((all r).0 h) [ inl same ↦ inl same | inr pair ↦ inr (Contains-append_left hs (p ∷ []) (r, role) pair) ],
  λ h. elim h [
    | inl same ↦ (all r).1 (inl same)
    | inr pair ↦ elim (Contains-push_cases hs p (r, role) pair) [
      | inl old ↦ (all r).1 (inr old)
      | inr new ↦ absurd (ne (ap (λ q. q.1) new))
    ]
  ],
)

pub upper_more : (hs : List (Role × Role)) (made : List Role) (p : Role × Role) (role : Role) → p.0 ≡ role
    → ((r : Role) → Contains made r ↔ IsAtOrBelow hs role r) → (r : Role) → Contains (made ++ p.1 ∷ []) r ↔ IsAtOrBelow (hs ++ p ∷ []) role r
upper_more hs made p role e all r = (
  λ h. elim (Contains-push_cases made p.1 r h) [
    | inl old ↦ elim ((all r).0 old) [ inl same ↦ inl same | inr pair ↦ inr (Contains-append_left hs (p ∷ []) (role, r) pair) ]
    | inr new ↦ inr (subst (λ q. Contains (hs ++ p ∷ []) q) (λ j. (e j, new j)) (Contains-push hs p))
  ],
  λ h. elim h [
    | inl same ↦ Contains-append_left made (p.1 ∷ []) r ((all r).1 (inl same))
    | inr pair ↦ elim (Contains-push_cases hs p (role, r) pair) [
      | inl old ↦ Contains-append_left made (p.1 ∷ []) r ((all r).1 (inr old))
      | inr new ↦ subst (λ q. Contains (made ++ p.1 ∷ []) q) (ap (λ q. q.1) new) (Contains-push made p.1)
    ]
  ],
)

pub upper_skip : (hs : List (Role × Role)) (made : List Role) (p : Role × Role) (role : Role) → (p.0 ≡ role → ⊥)
    → ((r : Role) → Contains made r ↔ IsAtOrBelow hs role r) → (r : Role) → Contains made r ↔ IsAtOrBelow (hs ++ p ∷ []) role r
upper_skip hs made p role ne all r = (
  λ h. elim ((all r).0 h) [ inl same ↦ inl same | inr pair ↦ inr (Contains-append_left hs (p ∷ []) (role, r) pair) ],
  λ h. elim h [
    | inl same ↦ (all r).1 (inl same)
    | inr pair ↦ elim (Contains-push_cases hs p (role, r) pair) [
      | inl old ↦ (all r).1 (inr old)
      | inr new ↦ absurd (ne (ap (λ q. q.0) new))
    ]
  ],
)

-- the role itself alone, before any pair
pub itself_lower : (role r : Role) → Contains ([] ++ role ∷ []) r ↔ IsAtOrBelow [] r role
itself_lower role r = (
  λ h. elim (Contains-push_cases [] role r h) [ inl none ↦ absurd (nothing_in r none) | inr same ↦ inl (sym same) ],
  λ h. elim h [ inl same ↦ subst (λ q. Contains ([] ++ role ∷ []) q) (sym same) (Contains-push [] role) | inr pair ↦ absurd (nothing_in (r, role) pair) ],
)

pub itself_upper : (role r : Role) → Contains ([] ++ role ∷ []) r ↔ IsAtOrBelow [] role r
itself_upper role r = (
  λ h. elim (Contains-push_cases [] role r h) [ inl none ↦ absurd (nothing_in r none) | inr same ↦ inl same ],
  λ h. elim h [ inl same ↦ subst (λ q. Contains ([] ++ role ∷ []) q) same (Contains-push [] role) | inr pair ↦ absurd (nothing_in (role, r) pair) ],
)

-- a role put below one more: the pair is new
pub put_more : (before hs : List (Role × Role)) (below role : Role) (passed : List Role)
    → ((r s : Role) → IsAtOrBelow hs r s ↔ (IsAtOrBelow before r s ⊎ ((below ≡ r) × Contains passed s))) → (r s : Role)
    → IsAtOrBelow (hs ++ (below, role) ∷ []) r s ↔ (IsAtOrBelow before r s ⊎ ((below ≡ r) × Contains (passed ++ role ∷ []) s))
put_more before hs below role passed all r s = (
  λ h. elim (split h) [
    | inl old ↦ widen ((all r s).0 old)
    | inr new ↦ inr (ap (λ q. q.0) new, subst (λ q. Contains (passed ++ role ∷ []) q) (ap (λ q. q.1) new) (Contains-push passed role))
  ],
  λ h. elim h [
    | inl old ↦ grow ((all r s).1 (inl old))
    | inr both ↦ elim (Contains-push_cases passed role s both.1) [
      | inl old ↦ grow ((all r s).1 (inr (both.0, old)))
      | inr new ↦ inr (subst (λ q. Contains (hs ++ (below, role) ∷ []) q) (λ j. (both.0 j, new j)) (Contains-push hs (below, role)))
    ]
  ],
)
  where
    split : IsAtOrBelow (hs ++ (below, role) ∷ []) r s → IsAtOrBelow hs r s ⊎ (◌≡◌ {A = Role × Role} (below, role) (r, s))
    split h = elim h [
      | inl same ↦ inl (inl same)
      | inr pair ↦ elim (Contains-push_cases hs (below, role) (r, s) pair) [ inl old ↦ inl (inr old) | inr new ↦ inr new ]
    ]

    grow : IsAtOrBelow hs r s → IsAtOrBelow (hs ++ (below, role) ∷ []) r s
    grow h = elim h [ inl same ↦ inl same | inr pair ↦ inr (Contains-append_left hs ((below, role) ∷ []) (r, s) pair) ]

    widen : IsAtOrBelow before r s ⊎ ((below ≡ r) × Contains passed s) → IsAtOrBelow before r s ⊎ ((below ≡ r) × Contains (passed ++ role ∷ []) s)
    widen h = elim h [ inl old ↦ inl old | inr both ↦ inr (both.0, Contains-append_left passed (role ∷ []) s both.1) ]

-- a role that is below one more already
pub put_skip : (before hs : List (Role × Role)) (below role : Role) (passed : List Role) → IsAtOrBelow hs below role
    → ((r s : Role) → IsAtOrBelow hs r s ↔ (IsAtOrBelow before r s ⊎ ((below ≡ r) × Contains passed s))) → (r s : Role)
    → IsAtOrBelow hs r s ↔ (IsAtOrBelow before r s ⊎ ((below ≡ r) × Contains (passed ++ role ∷ []) s))
put_skip before hs below role passed there all r s = (
  λ h. elim ((all r s).0 h) [ inl old ↦ inl old | inr both ↦ inr (both.0, Contains-append_left passed (role ∷ []) s both.1) ],
  λ h. elim h [
    | inl old ↦ (all r s).1 (inl old)
    | inr both ↦ elim (Contains-push_cases passed role s both.1) [
      | inl old ↦ (all r s).1 (inr (both.0, old))
      | inr new ↦ subst (λ q. IsAtOrBelow hs r q) new (subst (λ q. IsAtOrBelow hs q role) both.0 there)
    ]
  ],
)

pub put_none : (hs : List (Role × Role)) (below r s : Role) → IsAtOrBelow hs r s ↔ (IsAtOrBelow hs r s ⊎ ((below ≡ r) × Contains [] s))
put_none hs below r s = (λ h. inl h, λ h. elim h [ inl old ↦ old | inr both ↦ absurd (nothing_in s both.1) ])

-- a pair that was not there keeps the pairs distinct
pub distinct_push : (hs : List (Role × Role)) (below role : Role) → AreDistinct hs → ¬ IsAtOrBelow hs below role → AreDistinct (hs ++ (below, role) ∷ [])
distinct_push hs below role d out = record {
  different = All-push (λ p. same_role p.0 p.1 ≡ false) hs (below, role) d.different
      (is_false (same_role below role) (λ t. out (inl ((same_role-Decides below role).0 t))));
  once = all_pairs_push (λ p q. (same_role p.0 q.0 && same_role p.1 q.1) ≡ false) hs (below, role) d.once
      (λ k e lt. is_false (same_role (get_or hs k e).0 below && same_role (get_or hs k e).1 role)
      (λ t. out (inr (subst (λ q. Contains hs q) ((pair_is (get_or hs k e) below role).0 t)
      (Rattle.std.proofs.lemmas.List.Elements.Contains-get_or hs k e lt)))));
}
  where
    is_false : (b : Bool) → (b ≡ true → ⊥) → b ≡ false
    is_false true h = absurd (h refl)
    is_false false h = refl

-- pairs of each of some roles with each of others
pub product_more : (before hs hs' : List (Role × Role)) (first : Role) (passed upper : List Role)
    → ((r s : Role) → IsAtOrBelow hs r s ↔ (IsAtOrBelow before r s ⊎ (Contains passed r × Contains upper s)))
    → ((r s : Role) → IsAtOrBelow hs' r s ↔ (IsAtOrBelow hs r s ⊎ ((first ≡ r) × Contains upper s))) → (r s : Role)
    → IsAtOrBelow hs' r s ↔ (IsAtOrBelow before r s ⊎ (Contains (passed ++ first ∷ []) r × Contains upper s))
product_more before hs hs' first passed upper all step r s = (
  λ h. elim ((step r s).0 h) [
    | inl old ↦ elim ((all r s).0 old) [ inl before' ↦ inl before' | inr both ↦ inr (Contains-append_left passed (first ∷ []) r both.0, both.1) ]
    | inr new ↦ inr (subst (λ q. Contains (passed ++ first ∷ []) q) new.0 (Contains-push passed first), new.1)
  ],
  λ h. elim h [
    | inl old ↦ (step r s).1 (inl ((all r s).1 (inl old)))
    | inr both ↦ elim (Contains-push_cases passed first r both.0) [
      | inl old ↦ (step r s).1 (inl ((all r s).1 (inr (old, both.1))))
      | inr new ↦ (step r s).1 (inr (new, both.1))
    ]
  ],
)

pub product_none : (hs : List (Role × Role)) (upper : List Role) (r s : Role) → IsAtOrBelow hs r s ↔ (IsAtOrBelow hs r s ⊎ (Contains [] r × Contains upper s))
product_none hs upper r s = (λ h. inl h, λ h. elim h [ inl old ↦ old | inr both ↦ absurd (nothing_in r both.0) ])

pub product_all : (before hs : List (Role × Role)) (lower upper : List Role) (below above : Role) → ((r : Role) → Contains lower r ↔ IsAtOrBelow before r below)
    → ((r : Role) → Contains upper r ↔ IsAtOrBelow before above r)
    → ((r s : Role) → IsAtOrBelow hs r s ↔ (IsAtOrBelow before r s ⊎ (Contains lower r × Contains upper s))) → (r s : Role)
    → IsAtOrBelow hs r s ↔ (IsAtOrBelow before r s ⊎ (IsAtOrBelow before r below × IsAtOrBelow before above s))
product_all before hs lower upper below above low up all r s = (
  λ h. elim ((all r s).0 h) [ inl old ↦ inl old | inr both ↦ inr ((low r).0 both.0, (up s).0 both.1) ],
  λ h. elim h [ inl old ↦ (all r s).1 (inl old) | inr both ↦ (all r s).1 (inr ((low r).1 both.0, (up s).1 both.1)) ],
)

pub inverse-inverse : (r : Role) → inverse (inverse r) ≡ r
inverse-inverse r = λ j. record { id = r.id; inverted = not-not r.inverted j }

-- one of the two steps that one more inclusion makes
abbrev Halfway : List (Role × Role) → Role × Role → Role → Role → Type 0
Halfway ps p r s = IsPutBelow ps r s ⊎ ((r ≡ p.0) × (s ≡ p.1))

put_cases : (ps : List (Role × Role)) (p : Role × Role) (r s : Role) → IsPutBelow (ps ++ p ∷ []) r s
    → Halfway ps p r s ⊎ ((r ≡ inverse p.0) × (s ≡ inverse p.1))
put_cases ps p r s h = elim h [
  | inl plain ↦ elim (Contains-push_cases ps p (r, s) plain) [
    | inl old ↦ inl (inl (inl old))
    | inr new ↦ inl (inr (sym (ap (λ q. q.0) new), sym (ap (λ q. q.1) new)))
  ]
  | inr turned ↦ elim (Contains-push_cases ps p (inverse r, inverse s) turned) [
    | inl old ↦ inl (inl (inr old))
    | inr new ↦ inr (sym (ap (λ q. inverse q.0) new ∙ inverse-inverse r), sym (ap (λ q. inverse q.1) new ∙ inverse-inverse s))
  ]
]

put_still : (ps : List (Role × Role)) (p : Role × Role) (r s : Role) → IsPutBelow ps r s → IsPutBelow (ps ++ p ∷ []) r s
put_still ps p r s h = elim h [
  | inl plain ↦ inl (Contains-append_left ps (p ∷ []) (r, s) plain)
  | inr turned ↦ inr (Contains-append_left ps (p ∷ []) (inverse r, inverse s) turned)
]

put_itself : (ps : List (Role × Role)) (p : Role × Role) → IsPutBelow (ps ++ p ∷ []) p.0 p.1
put_itself ps p = inl (Contains-push ps p)

put_turned : (ps : List (Role × Role)) (p : Role × Role) → IsPutBelow (ps ++ p ∷ []) (inverse p.0) (inverse p.1)
put_turned ps p =
    inr (subst (λ q. Contains (ps ++ p ∷ []) q) (λ j. (sym (inverse-inverse p.0) j, sym (inverse-inverse p.1) j)) (Contains-push ps p))

halfway_put : (ps : List (Role × Role)) (p : Role × Role) (r s : Role) → Halfway ps p r s → IsPutBelow (ps ++ p ∷ []) r s
halfway_put ps p r s h = elim h [
  | inl old ↦ put_still ps p r s old
  | inr new ↦ subst (λ q. IsPutBelow (ps ++ p ∷ []) q s) (sym new.0) (subst (λ q. IsPutBelow (ps ++ p ∷ []) p.0 q) (sym new.1) (put_itself ps p))
]

-- what two puttings make of a closure is the closure with one more inclusion
closed_turned : (ps hs hs' hs'' : List (Role × Role)) (p : Role × Role) → ((r s : Role) → IsAtOrBelow hs r s ↔ Reaches (IsPutBelow ps) r s)
    → ((r s : Role) → IsAtOrBelow hs' r s ↔ (IsAtOrBelow hs r s ⊎ (IsAtOrBelow hs r p.0 × IsAtOrBelow hs p.1 s)))
    → ((r s : Role) → IsAtOrBelow hs'' r s ↔ (IsAtOrBelow hs' r s ⊎ (IsAtOrBelow hs' r (inverse p.0) × IsAtOrBelow hs' (inverse p.1) s))) → (r s : Role)
    → IsAtOrBelow hs'' r s ↔ Reaches (IsPutBelow (ps ++ p ∷ [])) r s
closed_turned ps hs hs' hs'' p closed first second r s = (
  λ h. elim ((second r s).0 h) [
    | inl one ↦ there r s one
    | inr two ↦ closure.join step r (inverse p.1) s (closure.onward step r (inverse p.0) (inverse p.1) (there r (inverse p.0) two.0) (put_turned ps p))
        (there (inverse p.1) s two.1)
  ],
  λ h. elim (closure.one_more (Halfway ps p) step (inverse p.0) (inverse p.1) (put_cases ps p) r s h) [
    | inl one ↦ (second r s).1 (inl (half r s one))
    | inr two ↦ (second r s).1 (inr (half r (inverse p.0) two.0, half (inverse p.1) s two.1))
  ],
)
  where
    step : Role → Role → Type 0
    step = IsPutBelow (ps ++ p ∷ [])

    old : (r s : Role) → IsAtOrBelow hs r s → Reaches (IsPutBelow (ps ++ p ∷ [])) r s
    old r s h = closure.more (IsPutBelow ps) (IsPutBelow (ps ++ p ∷ [])) (put_still ps p) r s ((closed r s).0 h)

    there : (r s : Role) → IsAtOrBelow hs' r s → Reaches (IsPutBelow (ps ++ p ∷ [])) r s
    there r s h = elim ((first r s).0 h) [
      | inl one ↦ old r s one
      | inr two ↦ closure.join (IsPutBelow (ps ++ p ∷ [])) r p.1 s (closure.onward (IsPutBelow (ps ++ p ∷ [])) r p.0 p.1 (old r p.0 two.0) (put_itself ps p))
          (old p.1 s two.1)
    ]

    half : (r s : Role) → Reaches (Halfway ps p) r s → IsAtOrBelow hs' r s
    half r s h = elim (closure.one_more (IsPutBelow ps) (Halfway ps p) p.0 p.1 (λ x y c. c) r s h) [
      | inl one ↦ (first r s).1 (inl ((closed r s).1 one))
      | inr two ↦ (first r s).1 (inr ((closed r p.0).1 two.0, (closed p.1 s).1 two.1))
    ]

pub closed_more : (ps hs hs' hs'' : List (Role × Role)) (p : Role × Role) (a b : Role) → a ≡ inverse p.0 → b ≡ inverse p.1
    → ((r s : Role) → IsAtOrBelow hs r s ↔ Reaches (IsPutBelow ps) r s)
    → ((r s : Role) → IsAtOrBelow hs' r s ↔ (IsAtOrBelow hs r s ⊎ (IsAtOrBelow hs r p.0 × IsAtOrBelow hs p.1 s)))
    → ((r s : Role) → IsAtOrBelow hs'' r s ↔ (IsAtOrBelow hs' r s ⊎ (IsAtOrBelow hs' r a × IsAtOrBelow hs' b s))) → (r s : Role)
    → IsAtOrBelow hs'' r s ↔ Reaches (IsPutBelow (ps ++ p ∷ [])) r s
closed_more ps hs hs' hs'' p a b e f closed first second =
    closed_turned ps hs hs' hs'' p closed first
    (subst (λ x. (r s : Role) → IsAtOrBelow hs'' r s ↔ (IsAtOrBelow hs' r s ⊎ (IsAtOrBelow hs' r x × IsAtOrBelow hs' (inverse p.1) s))) e
    (subst (λ y. (r s : Role) → IsAtOrBelow hs'' r s ↔ (IsAtOrBelow hs' r s ⊎ (IsAtOrBelow hs' r a × IsAtOrBelow hs' y s))) f second))

nothing_put : (r s : Role) → IsPutBelow [] r s → ⊥
nothing_put r s h = elim h [ inl plain ↦ nothing_in (r, s) plain | inr turned ↦ nothing_in (inverse r, inverse s) turned ]

pub closed_none : (r s : Role) → IsAtOrBelow [] r s ↔ Reaches (IsPutBelow []) r s
closed_none r s = (
  λ h. elim h [ inl same ↦ (0, same) | inr pair ↦ absurd (nothing_in (r, s) pair) ],
  λ h. closure.kept (IsPutBelow []) (λ x y. IsAtOrBelow [] x y) (λ x. inl refl) (λ x y z old step. absurd (nothing_put y z step)) r s h,
)
