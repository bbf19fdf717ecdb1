use Rattle.std.proofs.Common.{◌&&◌, map, sym, ap, ◌∙◌}
use Rattle.std.specs.Prelude.{not}
use Rattle.std.specs.List.{list_any}
use Rattle.logic_terms.specs.Interpretation.{is_word}
use Rattle.logic_terms.specs.Known.{theory_of}
use Rattle.logic_terms.specs.Same.{has_concept}
use Rattle.logic_terms.specs.Shown.{concept_of}
use Rattle.tableau_rules.proofs.Lists.{lacks_unfolding_as_list}
use Rattle.tableau_rules.proofs.MapWalks.{map_passes, map_some_more, map_all}
use Rattle.tableau_rules.proofs.rows.lacks_unfolding.Goals as goal

pub returns-then-lacks_entry : goal.returns-then-lacks_entry
returns-then-lacks_entry c =
    sym (lacks_unfolding_as_list (map concept_of c.args.label.now) (theory_of c.args.k.now).unfoldings c.args.word
    ∙ (ap (list_any (λ e. is_word c.args.word e.0 && not (has_concept (map concept_of c.args.label.now) e.1))) (sym c.unfoldings-entry-items.ensures)
    ∙ map_passes (λ e. (e.0, concept_of e.1)) (λ e. is_word c.args.word e.0 && not (has_concept (map concept_of c.args.label.now) e.1))
    c.unfoldings-entry-items.result.now c.loop-entry.entry-index c.entry-item.result c.loop-entry-test.true c.entry-item.is
    (sym c.lacks_entry.ensures ∙ c.if-lacks_entry.true)))

pub loop-entry-preserved : goal.loop-entry-preserved
loop-entry-preserved c =
    map_some_more (λ e. (e.0, concept_of e.1)) (λ e. is_word c.args.word e.0 && not (has_concept (map concept_of c.args.label.now) e.1))
    c.unfoldings-entry-items.result.now c.loop-entry.entry-index c.entry-item.result c.loop-entry-test.true c.entry-item.is c.loop-entry.invariant
    (sym c.lacks_entry.ensures ∙ c.if-lacks_entry.false)

pub returns : goal.returns
returns c =
    sym (lacks_unfolding_as_list (map concept_of c.args.label.now) (theory_of c.args.k.now).unfoldings c.args.word
    ∙ (ap (list_any (λ e. is_word c.args.word e.0 && not (has_concept (map concept_of c.args.label.now) e.1))) (sym c.unfoldings-entry-items.ensures)
    ∙ (ap (list_any (λ e. is_word c.args.word e.0 && not (has_concept (map concept_of c.args.label.now) e.1)))
    (sym (map_all (λ e. (e.0, concept_of e.1)) c.unfoldings-entry-items.result.now c.loop-entry.entry-index c.loop-entry-test.false))
    ∙ c.loop-entry.invariant)))
