use Rattle.std.proofs.Common.{◌≡◌, ◌∙◌, sym, ap, ◌||◌, Bool, true, false, List, ℕ, map}
use Rattle.std.specs.List.{flat_map}
use Rattle.codeco_terms.specs.declared.values.Term.{Term}
use Rattle.codeco_checked.specs.Numbering.{has}
use Rattle.codeco_checked.specs.Occurrences.{term_variables}
use Rattle.derivation_trees.proofs.OccurrenceLemmas.{with_taken_has}
use Rattle.derivation_trees.proofs.variables.pattern_has.Goals as goal

pub returns-then-feats_have : goal.returns-then-feats_have
returns-then-feats_have c =
    let taken = c.args.pattern.now.taken in
    let there : has (flat_map (λ (f : ℕ × Term). term_variables f.1) c.args.pattern.now.cat.feats) c.args.variable ≡ true =
    sym (c.feats_have.ensures ∙ ap (λ (feats : List (ℕ × Term)). has (flat_map (λ f. term_variables f.1) feats) c.args.variable) c.as_slice.ensures)
    ∙ c.if-feats_have.true in
    c.if-feats_have.true
    ∙ sym (with_taken_has c.args.pattern.now.cat.feats taken c.args.variable
    ∙ ap (λ (b : Bool). b || has (map (λ (t : ℕ × ℕ). t.1) taken) c.args.variable) there)

pub returns-else-feats_have : goal.returns-else-feats_have
returns-else-feats_have c =
    let taken = c.args.pattern.now.taken in
    let none : has (flat_map (λ (f : ℕ × Term). term_variables f.1) c.args.pattern.now.cat.feats) c.args.variable ≡ false =
    sym (c.feats_have.ensures ∙ ap (λ (feats : List (ℕ × Term)). has (flat_map (λ f. term_variables f.1) feats) c.args.variable) c.as_slice.ensures)
    ∙ c.if-feats_have.false in
    c.taken_has.ensures ∙ ap (λ (ts : List (ℕ × ℕ)). has (map (λ t. t.1) ts) c.args.variable) c.as_slice-else-feats_have.ensures
    ∙ sym (with_taken_has c.args.pattern.now.cat.feats taken c.args.variable
    ∙ ap (λ (b : Bool). b || has (map (λ (t : ℕ × ℕ). t.1) taken) c.args.variable) none)
