-- Pairs of a role and of the roles above it.
use Rattle.std.proofs.Common.{◌≡◌, ℕ, zero, suc, ◌&&◌, true, List, [], ◌∷◌, Some, slice_get, refl, sym, ap, ◌∙◌, subst, inl, inr}
use Rattle.std.specs.Prelude.{◌⊎◌}
use Rattle.std.specs.List.{list_any}
use Rattle.std.proofs.lemmas.Bool.{or_cases, or_left, or_right, and_from, and_parts}
use Rattle.std.proofs.lemmas.Option.{same_Some}
use Rattle.wiki_base.specs.declared.numbers.WordId.{WordId}
use Rattle.logic_terms.proofs.SameLemmas.{role_equal, same_role-self}
use Rattle.logic_terms.specs.declared.expressions.Role.{Role}
use Rattle.logic_terms.specs.Same.{same_role}
use Rattle.logic_terms.specs.Theory.{Theory, is_below}
use Rattle.branch_model.proofs.ExtentsLemmas.{IsPair, IsPairAbove}

pair_found : (ps : List (Role × Role)) (r s : Role) → list_any (λ p. same_role p.0 r && same_role p.1 s) ps ≡ true
    → (j : ℕ) × (p : Role × Role) × (slice_get ps j ≡ Some p) × (same_role p.0 r ≡ true) × (p.1 ≡ s)
pair_found [] r s h = cc
pair_found (p ∷ ps) r s h = elim (or_cases (same_role p.0 r && same_role p.1 s) (list_any (λ p. same_role p.0 r && same_role p.1 s) ps) h) [
  | inl here ↦ (let two = and_parts (same_role p.0 r) (same_role p.1 s) here in (0, p, refl, two.0, role_equal p.1 s two.1))
  | inr later ↦ (let found = pair_found ps r s later in (suc found.0, found.1, found.2, found.3, found.4))
]

pair_any : (ps : List (Role × Role)) (r : Role) (j : ℕ) (p : Role × Role) → slice_get ps j ≡ Some p → same_role p.0 r ≡ true
    → list_any (λ q. same_role q.0 r && same_role q.1 p.1) ps ≡ true
pair_any [] r j p at h = absurd (nothing j at)
  where
    nothing : (j : ℕ) → slice_get {X = Role × Role} [] j ≡ Some p → ⊥
    nothing j q = cc
pair_any (q ∷ ps) r zero p at h =
    or_left (same_role q.0 r && same_role q.1 p.1) (list_any (λ q. same_role q.0 r && same_role q.1 p.1) ps)
    (ap (λ (s : Role × Role). same_role s.0 r && same_role s.1 p.1) (same_Some _ _ at) ∙ and_from (same_role p.0 r) (same_role p.1 p.1) h (same_role-self p.1))
pair_any (q ∷ ps) r (suc j) p at h = or_right (same_role q.0 r && same_role q.1 p.1) (list_any (λ q. same_role q.0 r && same_role q.1 p.1) ps)
    (pair_any ps r j p at h)

-- the role of a pair is the own or one above it
pub role_above : (k : Theory) (own : Role) (a b : ℕ) (v : WordId) (y : ℕ × ℕ) → IsPair own a b v y ⊎ IsPairAbove k.hierarchy own a b v y
    → (r : Role) × (is_below k own r ≡ true) × IsPair r a b v y
role_above k own a b v y h = elim h [
  | inl here ↦ (
    own,
    or_left (same_role own own) (list_any (λ p. same_role p.0 own && same_role p.1 own) k.hierarchy)
        (same_role-self own),
    here,
  )
  | inr (j, p, at, same, pair) ↦ (
    p.1,
    or_right (same_role own p.1) (list_any (λ q. same_role q.0 own && same_role q.1 p.1) k.hierarchy)
        (pair_any k.hierarchy own j p at same),
    pair,
  )
]

pub above_role : (k : Theory) (own r : Role) (a b : ℕ) (v : WordId) (y : ℕ × ℕ) → is_below k own r ≡ true → IsPair r a b v y
    → IsPair own a b v y ⊎ IsPairAbove k.hierarchy own a b v y
above_role k own r a b v y up pair = elim (or_cases (same_role own r) (list_any (λ p. same_role p.0 own && same_role p.1 r) k.hierarchy) up) [
  | inl same ↦ inl (subst (λ q. IsPair q a b v y) (sym (role_equal own r same)) pair)
  | inr there ↦ (let found = pair_found k.hierarchy own r there in
      inr (found.0, found.1, found.2, found.3, subst (λ q. IsPair q a b v y) (sym found.4) pair))
]
