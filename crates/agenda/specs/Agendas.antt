-- An agenda of a branch: for each rule it leaves out no node at which a step by the rule applies.
use Rattle.std.specs.Prelude.{ℕ, ◌≡◌, false, IsTrue}
use Rattle.logic_terms.specs.Theory.{Theory}
use Rattle.tableau_rules.specs.declared.step.Rule.TheVariants as rule
use Rattle.tableau_rules.specs.declared.step.Step.{Step}
use Rattle.tableau_rules.specs.Branches.{IsBranch}
use Rattle.tableau_rules.specs.Clashes.{has_clash}
use Rattle.tableau_rules.specs.Graph.{Graph}
use Rattle.tableau_rules.specs.Rules.{applies, after}
use Rattle.agenda.specs.declared.keeping.Agenda.{Agenda}
use Rattle.agenda.specs.Views.{FitsQueue}

pub record IsAgendaOf (k : Theory) (g : Graph) (a : Agenda) : Type 0 where
  pub ands : FitsQueue k g rule.And a.ands
  pub unfoldings : FitsQueue k g rule.Unfold a.unfoldings
  pub alls : FitsQueue k g rule.All a.alls
  pub transes : FitsQueue k g rule.Trans a.transes
  pub values : FitsQueue k g rule.Value a.values
  pub units : FitsQueue k g rule.Unit a.units
  pub ors : FitsQueue k g rule.Or a.ors
  pub somes : FitsQueue k g rule.Some a.somes

-- where an agenda is one of a branch of the knowledge, another one is one of the branch after a choice of a step that applies
abbrev pub Follows : Theory → Step → Graph → Agenda → Agenda → Type 0
Follows k s h old new =
    (g : Graph) (choice : ℕ) → IsBranch k g → IsTrue (applies k g s) → h ≡ after k g s choice → IsAgendaOf k g old → IsAgendaOf k h new

-- a branch is one after a choice of a step that applied to a branch without a clash
abbrev pub IsAfterCalm : Theory → Step → Graph → Type 0
IsAfterCalm k s h = (g : Graph) × (choice : ℕ) × (has_clash k g ≡ false) × IsTrue (applies k g s) × (h ≡ after k g s choice)
