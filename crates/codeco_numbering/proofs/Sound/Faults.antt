-- A fault that holds at no rule.
use Rattle.std.proofs.Common.{◌≡◌, ℕ, suc, ◌-◌, Bool, true, false, ◌||◌, ltb, List, [], ◌∷◌, refl, ap, subst, ◌∙◌, arith}
use Rattle.std.specs.Prelude.{slice_get}
use Rattle.std.specs.Option.{option_map_or}
use Rattle.std.specs.List.{list_any}
use Rattle.std.proofs.lemmas.Bool.{and_from, lt-ltb, false_from_ne_true}
use Rattle.codeco_terms.specs.declared.rules.Rule.{Rule}
use Rattle.codeco_checked.specs.Faults.{at_rule}

-- a test that holds at no rule
holds_nowhere : (test : Rule → Bool) (rs : List Rule) → ((k : ℕ) → option_map_or test (slice_get rs k) false ≡ true → ⊥) → list_any test rs ≡ false
holds_nowhere test [] h = refl
holds_nowhere test (r ∷ rs) h =
    let here : test r ≡ false = false_from_ne_true (test r) (h 0) in
    let rest : list_any test rs ≡ false = holds_nowhere test rs (λ k e. h (suc k) e) in
    ap (λ b. b || list_any test rs) here ∙ rest

pub at_no_rule : (test : Rule → Bool) (rs : List Rule) → ((n : ℕ) → at_rule test rs n ≡ true → ⊥) → list_any test rs ≡ false
at_no_rule test rs h =
    holds_nowhere test rs (λ k e.
    let e' : option_map_or test (slice_get rs (suc k - 1)) false ≡ true = subst (λ n. option_map_or test (slice_get rs n) false ≡ true) (omega arith) e in
    h (suc k) (and_from (ltb 0 (suc k)) (option_map_or test (slice_get rs (suc k - 1)) false) (lt-ltb 0 (suc k) (omega arith)) e'))
