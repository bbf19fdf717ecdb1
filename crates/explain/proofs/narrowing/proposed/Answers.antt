use Rattle.std.proofs.Common.{ap, ◌∙◌}
use Rattle.std.specs.List.{list_all}
use Rattle.absorb.specs.Mentioned.{is_among, names_in_claim, are_over}
use Rattle.explain.specs.Answers.{claims_in}
use Rattle.explain.proofs.ReasonLemmas.{gathered_fit}
use Rattle.explain.proofs.narrowing.proposed.Goals as goal

pub absorb-requires : goal.absorb-requires
absorb-requires c =
    ap (are_over c.args.inquiry.now.names.now) c.in_ok-axioms.ensures
    ∙ gathered_fit (λ claim. list_all (is_among c.args.inquiry.now.names.now) (names_in_claim claim)) (claims_in c.args.inquiry.now.parts.now)
    c.as_slice.result.now c.requires.fit.over
