use Rattle.std.proofs.Common.{[], sym, subst, refl}
use Rattle.std.proofs.lemmas.List.{get_or-map}
use Rattle.std.specs.Bool.{IsTrue}
use Rattle.logic_terms.specs.Shown.{claims_of}
use Rattle.absorb.specs.Mentioned.{are_over}
use Rattle.explain.specs.Answers.{claims_in}
use Rattle.explain.specs.declared.part.Part.{Part}
use Rattle.explain.proofs.ReasonLemmas.{each_or}
use Rattle.explain.proofs.sources.serves.Goals as goal

pub absorb-requires : goal.absorb-requires
absorb-requires c =
    let parts = c.args.inquiry.now.parts.now in
    let place = c.args.place in
    let names = c.args.inquiry.now.names.now in
    let there = c.in-Some.ensures.lookup.3 in
    let each = each_or (λ claims. IsTrue (are_over names claims)) (claims_in parts) place c.requires.over refl in
    subst (λ (p : Part). IsTrue (are_over names (claims_of p.axioms))) (sym (there.1 c.in-Some.part.now))
    (subst (λ claims. IsTrue (are_over names claims)) (get_or-map (λ (p : Part). claims_of p.axioms) parts place c.in-Some.part.now [] there.0) each)
