use Rattle.std.proofs.Common.{◌≡◌, true, sym, ap, ◌∙◌}
use Rattle.logic_terms.specs.Shown.{structure_of}
use Rattle.drs_build.specs.Built.{is_question}
use Rattle.drs_build.specs.Nodes.{meaning_in, meaning_of}
use Rattle.drs_build.specs.Order.{is_in_order}
use Rattle.drs_build.proofs.DerivedLemmas.{derived_in_order, built_once}
use Rattle.drs_build.proofs.QuestionLemmas.{asked_introduced}
use Rattle.drs_build.proofs.building.build.Goals as goal

pub names_of-requires : goal.names_of-requires
names_of-requires c = ap (λ g. is_in_order g c.args.skeleton.now) c.grammar-grammar.ensures.grammar
    ∙ derived_in_order c.args.grammar.now c.args.skeleton.now c.requires.derived

pub says-requires : goal.says-requires
says-requires c = ap (λ g. is_in_order g c.args.skeleton.now) c.grammar-grammar.ensures.grammar
    ∙ derived_in_order c.args.grammar.now c.args.skeleton.now c.requires.derived

pub referent-asked-requires : goal.referent-asked-requires
referent-asked-requires c = ap (λ g. is_in_order g c.args.skeleton.now) c.grammar-grammar.ensures.grammar
    ∙ derived_in_order c.args.grammar.now c.args.skeleton.now c.requires.derived

pub returns-then-is_question-clause-once : goal.returns-then-is_question-clause-once
returns-then-is_question-clause-once c =
    let is : structure_of c.into_drs-drs.result ≡ (meaning_of c.args.grammar.now c.args.skeleton.now).says =
    c.into_drs-drs.ensures ∙ c.in_ok-says.ensures
    ∙ ap (λ ns. (meaning_in c.grammar-grammar.result.now ns c.args.skeleton.now).says) (c.as_slice.ensures ∙ c.in_ok-names.ensures)
    ∙ ap (λ g. (meaning_of g c.args.skeleton.now).says) c.grammar-grammar.ensures.grammar in
    built_once c.args.grammar.now c.args.skeleton.now (structure_of c.into_drs-drs.result) c.grammar-grammar.ensures.sound c.requires.derived is

pub returns-then-is_question-clause-asked : goal.returns-then-is_question-clause-asked
returns-then-is_question-clause-asked c =
    let is : structure_of c.into_drs-drs.result ≡ (meaning_of c.args.grammar.now c.args.skeleton.now).says =
    c.into_drs-drs.ensures ∙ c.in_ok-says.ensures
    ∙ ap (λ ns. (meaning_in c.grammar-grammar.result.now ns c.args.skeleton.now).says) (c.as_slice.ensures ∙ c.in_ok-names.ensures)
    ∙ ap (λ g. (meaning_of g c.args.skeleton.now).says) c.grammar-grammar.ensures.grammar in
    let same : c.referent-asked.result ≡ (meaning_of c.args.grammar.now c.args.skeleton.now).referent =
    c.referent-asked.ensures ∙ ap (λ ns. (meaning_in c.grammar-grammar.result.now ns c.args.skeleton.now).referent) (c.as_slice.ensures ∙ c.in_ok-names.ensures)
    ∙ ap (λ g. (meaning_of g c.args.skeleton.now).referent) c.grammar-grammar.ensures.grammar in
    let asks : is_question c.args.grammar.now c.args.skeleton.now ≡ true =
    sym (c.is_question.ensures ∙ ap (λ g. is_question g c.args.skeleton.now) c.grammar-grammar.ensures.grammar) ∙ c.if-is_question.true in
    asked_introduced c.args.grammar.now c.args.skeleton.now (structure_of c.into_drs-drs.result) c.referent-asked.result c.grammar-grammar.ensures.sound
    c.requires.labelled c.requires.derived asks is same

pub returns-clause-once : goal.returns-clause-once
returns-clause-once c =
    let is : structure_of c.into_drs-drs.result ≡ (meaning_of c.args.grammar.now c.args.skeleton.now).says =
    c.into_drs-drs.ensures ∙ c.in_ok-says.ensures
    ∙ ap (λ ns. (meaning_in c.grammar-grammar.result.now ns c.args.skeleton.now).says) (c.as_slice.ensures ∙ c.in_ok-names.ensures)
    ∙ ap (λ g. (meaning_of g c.args.skeleton.now).says) c.grammar-grammar.ensures.grammar in
    built_once c.args.grammar.now c.args.skeleton.now (structure_of c.into_drs-drs.result) c.grammar-grammar.ensures.sound c.requires.derived is
