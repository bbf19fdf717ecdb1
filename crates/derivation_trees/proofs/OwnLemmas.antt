-- The own variables of a rule that are left after the features of an introduced referent.
use Rattle.std.proofs.Common.{◌≡◌, ℕ, zero, suc, Bool, true, false, not, ◌||◌, cond, List, [], ◌∷◌, map, length, drop, Option, Some, None, refl, sym, ap, ◌∙◌}
use Rattle.std.specs.Prelude.{if◌then◌else◌, ◌==◌}
use Rattle.wiki_base.proofs.NumberLaws.{eqb_comm}
use Rattle.codeco_terms.specs.declared.values.Value.{Value}
use Rattle.codeco_terms.specs.declared.values.Term.{Term}
use Rattle.codeco_checked.specs.Numbering.{has}
use Rattle.derivation_trees.specs.Instances.{looked_up, unwritten}
use Rattle.derivation_trees.specs.Derives.{own_after, own_rest}

-- a feature is looked up exactly where it is written
lookup_has_at : (feats : List (ℕ × Term)) (p : ℕ × Term) (f : ℕ) (b : Bool) (o : Option Term) → (p.0 == f) ≡ b
    → (o ≡ None → has (map (λ q. q.0) feats) f ≡ false) → (if b then Some p.1 else o) ≡ None → has (map (λ q. q.0) (p ∷ feats)) f ≡ false
lookup_has_at feats p f true o e rest h = absurd (cc)
lookup_has_at feats p f false o e rest h = ap (λ b. b || has (map (λ q. q.0) feats) f) (eqb_comm f p.0 ∙ e) ∙ rest h

lookup_none : (feats : List (ℕ × Term)) (f : ℕ) → looked_up feats f ≡ None → has (map (λ q. q.0) feats) f ≡ false
lookup_none [] f h = refl
lookup_none (p ∷ feats) f h = lookup_has_at feats p f (p.0 == f) (looked_up feats f) refl (lookup_none feats f) h

lookup_has_some : (feats : List (ℕ × Term)) (p : ℕ × Term) (f : ℕ) (t : Term) (b : Bool) (o : Option Term) → (p.0 == f) ≡ b
    → (o ≡ Some t → has (map (λ q. q.0) feats) f ≡ true) → (if b then Some p.1 else o) ≡ Some t → has (map (λ q. q.0) (p ∷ feats)) f ≡ true
lookup_has_some feats p f t true o e rest h = ap (λ b. b || has (map (λ q. q.0) feats) f) (eqb_comm f p.0 ∙ e)
lookup_has_some feats p f t false o e rest h = ap (λ b. b || has (map (λ q. q.0) feats) f) (eqb_comm f p.0 ∙ e) ∙ rest h

lookup_some : (feats : List (ℕ × Term)) (f : ℕ) (t : Term) → looked_up feats f ≡ Some t → has (map (λ q. q.0) feats) f ≡ true
lookup_some [] f t h = absurd (cc)
lookup_some (p ∷ feats) f t h = lookup_has_some feats p f t (p.0 == f) (looked_up feats f) refl (lookup_some feats f t) h

drop_drop : (n : ℕ) (own : List (ℕ × Value)) → drop n (drop 1 own) ≡ drop (suc n) own
drop_drop zero [] = refl
drop_drop (suc n) [] = refl
drop_drop n (p ∷ own) = refl

own_rest_at : (feats : List (ℕ × Term)) (f : ℕ) (fs : List ℕ) (own : List (ℕ × Value)) (o : Option Term) → looked_up feats f ≡ o
    → own_rest feats (f ∷ fs) own ≡ own_rest feats fs (own_after own o)
own_rest_at feats f fs own (Some t) e =
    ap (λ b. drop (length (cond (not b) (f ∷ unwritten feats fs) (unwritten feats fs))) own) (lookup_some feats f t e)
own_rest_at feats f fs own None e =
    ap (λ b. drop (length (cond (not b) (f ∷ unwritten feats fs) (unwritten feats fs))) own) (lookup_none feats f e)
    ∙ sym (drop_drop (length (unwritten feats fs)) own)

-- what is left after a feature and the others
pub own_rest_more : (feats : List (ℕ × Term)) (f : ℕ) (fs : List ℕ) (own : List (ℕ × Value))
    → own_rest feats (f ∷ fs) own ≡ own_rest feats fs (own_after own (looked_up feats f))
own_rest_more feats f fs own = own_rest_at feats f fs own (looked_up feats f) refl
