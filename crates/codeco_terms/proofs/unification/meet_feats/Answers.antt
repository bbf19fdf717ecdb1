use Rattle.std.proofs.Common.{All, subst, arith}
use Rattle.std.proofs.lemmas.List.{take_all}
use Rattle.codeco_terms.specs.declared.values.Value.TheVariants.{Atom}
use Rattle.codeco_terms.specs.declared.values.Term.TheVariants.{Val}
use Rattle.codeco_terms.specs.Unification.{AgreeOnShared, IsLeastExtension, Meets}
use Rattle.codeco_terms.proofs.UnificationLemmas.{least_take_more, none_take_more, Shares-kept}
use Rattle.codeco_terms.proofs.unification.meet_feats.Goals as goal

pub returns-then-not-meet_vals-clause-no : goal.returns-then-not-meet_vals-clause-no
returns-then-not-meet_vals-clause-no c = λ m h a.
    none_take_more (λ p n. All (Meets n p.0 p.1) c.args.vals.now) c.args.feats.now c.loop-feature.feature-index (0, Val (Atom 0)) c.args.env.now
    c.loop-feature.env (omega arith) c.loop-feature.invariant c.if-not-meet_vals.ensures.no m h a

pub loop-feature-preserved : goal.loop-feature-preserved
loop-feature-preserved c =
    least_take_more (λ p n. All (Meets n p.0 p.1) c.args.vals.now) c.args.feats.now c.loop-feature.feature-index (0, Val (Atom 0)) c.args.env.now
    c.loop-feature.env c.meet_vals.new.env (Shares-kept c.args.vals.now) (omega arith) c.loop-feature.invariant c.if-not-meet_vals.ensures.yes

pub returns-clause-yes : goal.returns-clause-yes
returns-clause-yes c =
    subst (λ feats. IsLeastExtension (λ m. AgreeOnShared m feats c.args.vals.now) c.args.env.now c.loop-feature.env)
    (take_all c.loop-feature.feature-index c.args.feats.now (omega arith)) c.loop-feature.invariant
