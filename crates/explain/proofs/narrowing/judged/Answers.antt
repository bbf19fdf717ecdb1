use Rattle.std.proofs.Common.{ap, ◌∙◌}
use Rattle.std.specs.List.{list_all}
use Rattle.logic_terms.specs.Plain.{is_plain_claim}
use Rattle.absorb.specs.Mentioned.{is_among, names_in_claim, are_over}
use Rattle.logic_terms.specs.Plain.{are_plain}
use Rattle.explain.specs.Answers.{claims_in}
use Rattle.explain.proofs.ReasonLemmas.{gathered_fit}
use Rattle.explain.proofs.narrowing.judged.Goals as goal

pub searched_verdict-requires-clause-over : goal.searched_verdict-requires-clause-over
searched_verdict-requires-clause-over c =
    ap (are_over c.args.inquiry.now.names.now) c.in_ok-axioms.ensures
    ∙ gathered_fit (λ claim. list_all (is_among c.args.inquiry.now.names.now) (names_in_claim claim)) (claims_in c.args.inquiry.now.parts.now)
    c.as_slice.result.now c.requires.over

pub searched_verdict-requires-clause-plain : goal.searched_verdict-requires-clause-plain
searched_verdict-requires-clause-plain c =
    ap are_plain c.in_ok-axioms.ensures ∙ gathered_fit is_plain_claim (claims_in c.args.inquiry.now.parts.now) c.as_slice.result.now c.requires.plain
