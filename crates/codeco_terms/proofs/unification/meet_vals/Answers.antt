use Rattle.std.proofs.Common.{◌≡◌, All, subst, arith}
use Rattle.std.proofs.lemmas.List.{take_all}
use Rattle.codeco_terms.specs.declared.values.Value.TheVariants.{Atom}
use Rattle.codeco_terms.specs.Unification.{Meets, IsLeastExtension}
use Rattle.codeco_terms.proofs.UnificationLemmas.{least_take_more, none_take_more, least_none, least_same, Meets-kept}
use Rattle.codeco_terms.proofs.unification.meet_vals.Goals as goal
use Rattle.codeco_terms.proofs.unification.meet_vals.Goals.{else-feature-other-via-then-feature-other+else-not-meet, else-feature-other-via-else-feature-other}

pub returns-then-not-meet-clause-no : goal.returns-then-not-meet-clause-no
returns-then-not-meet-clause-no c = λ m h a.
    none_take_more (λ q n. Meets n c.args.feature c.args.term q) c.args.vals.now c.loop-other.other-index (0, Atom 0) c.args.env.now c.loop-other.env
    (omega arith) c.loop-other.invariant (λ n k p. c.if-not-meet.ensures.no n k (p c.if-feature-other.true)) m h a

pub loop-other-preserved : goal.loop-other-preserved
loop-other-preserved c =
    elim c.else-feature-other.branch [
      | else-feature-other-via-then-feature-other+else-not-meet w ↦
          rw w.env-is (least_take_more (λ q n. Meets n c.args.feature c.args.term q) c.args.vals.now c.loop-other.other-index (0, Atom 0) c.args.env.now
          c.loop-other.env w.meet.new.env (Meets-kept c.args.feature c.args.term) (omega arith) c.loop-other.invariant
          (least_same _ _ _ _ (λ n e _. e) (λ n p. p w.if-feature-other.true) w.if-not-meet.ensures.yes))
      | else-feature-other-via-else-feature-other w ↦
          rw w.env-is (least_take_more (λ q n. Meets n c.args.feature c.args.term q) c.args.vals.now c.loop-other.other-index (0, Atom 0) c.args.env.now
          c.loop-other.env c.loop-other.env (Meets-kept c.args.feature c.args.term) (omega arith) c.loop-other.invariant
          (least_none _ c.loop-other.env (λ same. absurd (w.if-feature-other.false same))))
    ]

pub returns-clause-yes : goal.returns-clause-yes
returns-clause-yes c =
    subst (λ vals. IsLeastExtension (λ m. All (Meets m c.args.feature c.args.term) vals) c.args.env.now c.loop-other.env)
    (take_all c.loop-other.other-index c.args.vals.now (omega arith)) c.loop-other.invariant
