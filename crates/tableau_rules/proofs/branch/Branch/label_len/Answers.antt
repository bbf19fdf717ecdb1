use Rattle.std.proofs.Common.{length, sym, ap, ◌∙◌}
use Rattle.std.proofs.lemmas.List.{length-map}
use Rattle.logic_terms.specs.Shown.{concept_of}
use Rattle.tableau_rules.proofs.branch.Branch.label_len.Goals as goal

pub returns : goal.returns
returns c = sym (length-map c.label.result.now concept_of) ∙ ap length c.label.ensures
