use Rattle.std.proofs.Common.{◌≡◌, ◌≤◌, ◌++◌, length, drop, ap, sym, subst, ◌∙◌}
use Rattle.std.proofs.lemmas.List.{length-map}
use Rattle.logic_terms.specs.Shown.{claims_of}
use Rattle.explain.specs.Answers.{claims_in}
use Rattle.explain.specs.Reasons.{places_of, stated_at}
use Rattle.explain.specs.Narrow.{AreBetween, IsShut}
use Rattle.explain.specs.declared.part.Part.{Part}
use Rattle.explain.proofs.ReasonLemmas.{all_long, rest_between}
use Rattle.explain.proofs.narrowing.core_of.Goals as goal

pub proposed-requires-clause-within : goal.proposed-requires-clause-within
proposed-requires-clause-within c =
    let parts = c.args.inquiry.now.parts.now in
    subst (λ n. c.args.from ≤ n)
    (all_long (claims_in parts) c.args.all.now c.requires.whole ∙ length-map parts (λ (part : Part). claims_of part.axioms))
    c.requires.within

pub returns-in_ok-from_slice-in_default : goal.returns-in_ok-from_slice-in_default
returns-in_ok-from_slice-in_default c =
    let parts = claims_in c.args.inquiry.now.parts.now in
    let names = c.args.inquiry.now.names.now in
    let from = c.args.from in
    let rest : c.in_ok-from_slice-in_default.field-0 ≡ drop from c.args.all.now = c.in_ok-from_slice-in_default.ensures ∙ c.behind-rest.ensures in
    let within = subst (λ n. from ≤ n) (all_long parts c.args.all.now c.requires.whole) c.requires.within in
    record {
      shut = subst (λ l. IsShut (stated_at parts (c.args.kept.now ++ l)) names c.args.closed) (sym rest) c.requires.shut;
      between = subst (AreBetween from (length parts)) (sym (rest ∙ ap (drop from) c.requires.whole)) (rest_between from (length parts) within);
    }
