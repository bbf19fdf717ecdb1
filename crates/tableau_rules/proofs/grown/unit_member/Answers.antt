use Rattle.std.proofs.Common.{map, slice_get, sym, ap, ◌∙◌}
use Rattle.std.specs.Prelude.{not}
use Rattle.std.specs.Option.{option_or}
use Rattle.std.proofs.lemmas.List.{take-map}
use Rattle.logic_terms.specs.Complement.{complement}
use Rattle.logic_terms.specs.Same.{has_concept}
use Rattle.logic_terms.specs.Shown.{concept_of}
use Rattle.tableau_rules.specs.Rules.{open_members}
use Rattle.tableau_rules.proofs.Growing.{first_kept}
use Rattle.tableau_rules.proofs.MapWalks.{stands_at}
use Rattle.tableau_rules.proofs.grown.unit_member.Goals as goal

pub returns-then-not-has_complement : goal.returns-then-not-has_complement
returns-then-not-has_complement c =
    sym (ap (λ o. option_or o (slice_get (map concept_of c.args.members.now) 0))
    (first_kept (λ d. not (has_concept (map concept_of c.args.label.now) (complement d))) (map concept_of c.args.members.now) c.loop-member.member-index
    (concept_of c.member-item.result)
    (ap (open_members (map concept_of c.args.label.now)) (take-map concept_of c.loop-member.member-index c.args.members.now) ∙ c.loop-member.invariant)
    (stands_at concept_of c.args.members.now c.loop-member.member-index c.member-item.result c.loop-member-test.true c.member-item.is)
    (ap not (sym c.has_complement.ensures ∙ c.if-not-has_complement.true))))
