use Rattle.std.proofs.Common.{◌≡◌, ◌==◌, ◌&&◌, ℕ, Some, sym, ap, ◌∙◌}
use Rattle.std.proofs.lemmas.Bool.Decides.{Decides-eqb, Decides-and, Decides-like}
use Rattle.std.proofs.lemmas.Slice.Eq.{slice_eq-Decides}
use Rattle.std.specs.Bool.{Decides}
use Rattle.owl_eval.proofs.changes.same_relation_at.Goals as goal

pair_eq : (p q : ℕ × ℕ) → Decides ((p.0 == q.0) && (p.1 == q.1)) (p ≡ q)
pair_eq p q =
    Decides-like ((p.0 == q.0) && (p.1 == q.1)) (λ e. λ j. (e.0 j, e.1 j)) (λ e. (ap (λ r. r.0) e, ap (λ r. r.1) e))
    (Decides-and (p.0 == q.0) (p.1 == q.1) (Decides-eqb p.0 q.0) (Decides-eqb p.1 q.1))

pub returns-then-word-others : goal.returns-then-word-others
returns-then-word-others c same =
    let word : c.relation_at.result.0.0 ≡ c.relation_at-2.result.0.0 = c.if-word-others.true in
    let pairs : c.relation_at.result.1.now ≡ c.relation_at-2.result.1.now =
    (slice_eq-Decides pair_eq c.relation_at.result.1.now c.relation_at-2.result.1.now c.eq.result c.eq.ensures).0 same in
    c.relation_at.ensures
    ∙ ((λ j. Some (record { 0 = word j }, pairs j)) ∙ sym c.relation_at-2.ensures)
