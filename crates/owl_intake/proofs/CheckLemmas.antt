-- What is told of a text.
use Rattle.std.proofs.Common.{◌≡◌, ◌≢◌, inl, inr, ℕ, List, true, subst, codes, Result, Ok, Err, IfOk, IfErr}
use Rattle.wiki_base.specs.declared.numbers.WordId.{WordId}
use Rattle.logic_terms.specs.Concept.{Claim}
use Rattle.logic_terms.specs.Plain.{are_plain}
use Rattle.logic_terms.specs.Shown.{claims_of}
use Rattle.absorb.specs.Mentioned.{are_over}
use Rattle.owl_eval.specs.declared.checked.CheckedModel.{CheckedModel}
use Rattle.owl_eval.specs.Checked.{kept_interp}
use Rattle.tableau_rules.specs.Graph.{Graph}
use Rattle.reasoner.specs.Verdicts.{IsFiniteModel, HaveNoModel, SpendsAll}
use Rattle.owl_reader.specs.declared.faults.OwlFault.{OwlFault}
use Rattle.owl_reader.specs.declared.faults.OwlFault.TheVariants as fault
use Rattle.owl_reader.specs.declared.reading.OwlDoc.{OwlDoc}
use Rattle.owl_reader.specs.Shown.{Reads}
use Rattle.owl_grammar.specs.Files.{IsOwlFile}
use Rattle.owl_grammar.specs.Faults.{IsFault}
use Rattle.owl_intake.specs.Checked.{individuals, TellsVerdict, fault_line, TellsCheck}
use Rattle.owl_intake.proofs.ReadFits.{read_over, read_plain}

-- ---- a file that is read

module _ (text : List ℕ) (result : Result OwlDoc OwlFault) where
  module _ (reads : Reads text result) (doc : OwlDoc) (is : result ≡ Ok doc) where
    so : Reads text (Ok doc)
    so = subst (Reads text) is reads

    pub doc_over : are_over (individuals doc.entities) (claims_of doc.axioms) ≡ true
    doc_over = read_over so.0 so.1 doc.entities (claims_of doc.axioms) so.3

    pub doc_plain : are_plain (claims_of doc.axioms) ≡ true
    doc_plain = read_plain so.0 so.1 doc.entities (claims_of doc.axioms) so.3

  pub doc_told : IfOk result (λ doc. IsOwlFile text doc.entities (claims_of doc.axioms)) → (doc : OwlDoc) (budget : ℕ) (line : List ℕ) → result ≡ Ok doc
      → TellsVerdict budget (claims_of doc.axioms) (individuals doc.entities) line → TellsCheck budget text line
  doc_told ok doc budget line is told =
      inl (doc.entities, claims_of doc.axioms, subst (λ r. IfOk r (λ doc. IsOwlFile text doc.entities (claims_of doc.axioms))) is ok, told)

  -- a text that is refused
  pub fault_told : IfErr result (IsFault text) → (f : OwlFault) (budget : ℕ) (line : List ℕ) → result ≡ Err f → f ≢ fault.Memory → line ≡ fault_line f
      → TellsCheck budget text line
  fault_told faults f budget line is not_memory told = inr (f, not_memory, subst (λ r. IfErr r (IsFault text)) is faults, told)

-- ---- verdicts

module _ (budget : ℕ) (claims : List Claim) (names : List WordId) (line : List ℕ) where
  pub tells_consistent : (m : CheckedModel) → IsFiniteModel (kept_interp m) claims → line ≡ codes "consistent\n" → TellsVerdict budget claims names line
  tells_consistent m model told = inl ((kept_interp m, model), told)

  pub tells_inconsistent : HaveNoModel claims → line ≡ codes "inconsistent\n" → TellsVerdict budget claims names line
  tells_inconsistent none told = inr (inl (none, told))

  pub tells_budget : (g : Graph) → SpendsAll claims names budget g → line ≡ codes "budget\n" → TellsVerdict budget claims names line
  tells_budget g spent told = inr (inr (record { knowledge = spent.knowledge; absorbed = spent.absorbed; longer = spent.cut.longer }, told))
