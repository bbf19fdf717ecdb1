use Rattle.codeco_text.proofs.Exactness.{is_spelled, is_only, is_fault}
use Rattle.codeco_text.proofs.scanner.read_items.Goals as goal

pub returns-clause-spelled : goal.returns-clause-spelled
returns-clause-spelled c = is_spelled c.args.text.now c.scan.result c.scan.ensures

pub returns-clause-only : goal.returns-clause-only
returns-clause-only c = is_only c.args.text.now c.scan.result c.scan.ensures

pub returns-clause-fault : goal.returns-clause-fault
returns-clause-fault c = is_fault c.args.text.now c.scan.result c.scan.ensures
