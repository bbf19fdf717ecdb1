use Rattle.std.proofs.Common.{◌≡◌, ap, ◌∙◌}
use Rattle.std.proofs.lemmas.Result.{IfOk-weaker}
use Rattle.logic_terms.specs.Shown.{concept_of}
use Rattle.logic_terms.specs.Meaning.{is_in}
use Rattle.logic_terms.specs.Complement.{complement, is_normal, is_wide}
use Rattle.logic_terms.proofs.ComplementLemmas.{is_in-complement, IsIn-complement, is_normal-complement, is_wide-complement}
use Rattle.logic_terms.proofs.complement.negated.Goals as goal

pub returns-clause-meaning : goal.returns-clause-meaning
returns-clause-meaning c =
    IfOk-weaker c.complement_of.result (λ k. concept_of k ≡ complement (concept_of c.args.class.now)) _
    (λ k e i x. ap (λ d. is_in i d x) e ∙ is_in-complement i (concept_of c.args.class.now) x) c.complement_of.ensures

pub returns-clause-reading : goal.returns-clause-reading
returns-clause-reading c =
    IfOk-weaker c.complement_of.result (λ k. concept_of k ≡ complement (concept_of c.args.class.now)) _
    (λ k e i x. IsIn-complement i (concept_of c.args.class.now) (concept_of k) x e) c.complement_of.ensures

pub returns-clause-normal : goal.returns-clause-normal
returns-clause-normal c =
    IfOk-weaker c.complement_of.result (λ k. concept_of k ≡ complement (concept_of c.args.class.now)) _
    (λ k e. ap is_normal e ∙ is_normal-complement (concept_of c.args.class.now)) c.complement_of.ensures

pub returns-clause-wide : goal.returns-clause-wide
returns-clause-wide c =
    IfOk-weaker c.complement_of.result (λ k. concept_of k ≡ complement (concept_of c.args.class.now)) _
    (λ k e. ap is_wide e ∙ is_wide-complement (concept_of c.args.class.now)) c.complement_of.ensures
