use Rattle.std.proofs.Common.{◌≡◌, ◌≢◌, List, ℕ, Result, Ok, Err, IfOk}
use Rattle.std.proofs.lemmas.Result.{IfOk-weaker}
use Rattle.owl_reader.specs.declared.faults.OwlFault.TheVariants as fault
use Rattle.owl_intake.specs.Checked.{fault_line, TellsCheck}
use Rattle.owl_intake.proofs.CheckLemmas.{doc_over, doc_plain, doc_told, fault_told}
use Rattle.owl_intake.proofs.checking.check.Goals as goal

-- both facts of a line
both : {E : Type 0} (r : Result (List ℕ) E) (P Q R : List ℕ → Type 0) → ((line : List ℕ) → P line → Q line → R line) → IfOk r P → IfOk r Q → IfOk r R
both (Ok line) P Q R join p q = join line p q
both (Err e) P Q R join p q = tt

pub verdict_line-requires-clause-over : goal.verdict_line-requires-clause-over
verdict_line-requires-clause-over c = doc_over c.args.text.now c.read_owl.result c.read_owl.ensures.reading c.in-Ok.doc c.in-Ok.is

pub verdict_line-requires-clause-plain : goal.verdict_line-requires-clause-plain
verdict_line-requires-clause-plain c = doc_plain c.args.text.now c.read_owl.result c.read_owl.ensures.reading c.in-Ok.doc c.in-Ok.is

pub returns-in-Ok : goal.returns-in-Ok
returns-in-Ok c =
    IfOk-weaker c.verdict_line.result _ (TellsCheck c.args.budget c.args.text.now)
    (λ line told. doc_told c.args.text.now c.read_owl.result c.read_owl.ensures.ok c.in-Ok.doc c.args.budget line c.in-Ok.is told) c.verdict_line.ensures

pub returns-in-Err : goal.returns-in-Err
returns-in-Err c =
    both c.fault_line.result (λ line. line ≡ fault_line c.in-Err.fault) (λ _. c.in-Err.fault ≢ fault.Memory) (TellsCheck c.args.budget c.args.text.now)
    (λ line told other. fault_told c.args.text.now c.read_owl.result c.read_owl.ensures.fault c.in-Err.fault c.args.budget line c.in-Err.is other told)
    c.fault_line.ensures.line c.fault_line.ensures.memory
