use Rattle.std.proofs.Common.{◌≡◌, ◌∙◌, sym, ap, Bool, List, [], ℕ, map}
use Rattle.std.specs.Prelude.{if◌then◌else◌}
use Rattle.std.proofs.lemmas.Bool.{eq-eqb}
use Rattle.codeco_terms.specs.declared.values.Term.{Term}
use Rattle.codeco_checked.specs.Occurrences.{with_taken}
use Rattle.derivation_trees.specs.Putting.{put_all}
use Rattle.derivation_trees.proofs.PutLemmas.{put_all_taken}
use Rattle.derivation_trees.proofs.features.put_pattern.Goals as goal

pub returns-in_ok-put_taken : goal.returns-in_ok-put_taken
returns-in_ok-put_taken c =
    let feats = c.args.pattern.now.cat.feats in
    let taken = c.args.pattern.now.taken in
    let before = c.args.features.now.items in
    c.in_ok-put_taken.ensures
    ∙ ap (λ (ts : List (ℕ × ℕ)). put_all c.put_feats.new.features.items (map (λ t. t.0) ts)) c.as_slice-then-pattern-name.ensures
    ∙ ap (λ (sorted : List ℕ). put_all sorted (map (λ (t : ℕ × ℕ). t.0) taken))
    (c.in_ok-put_feats.ensures ∙ ap (λ (fs : List (ℕ × Term)). put_all before (map (λ f. f.0) fs)) c.as_slice.ensures)
    ∙ sym (put_all_taken before feats taken)
    ∙ ap (λ (b : Bool). put_all before (if b then map (λ (f : ℕ × Term). f.0) (with_taken feats taken) else []))
    (sym (eq-eqb c.args.pattern.now.cat.name c.args.name c.if-pattern-name.true))
