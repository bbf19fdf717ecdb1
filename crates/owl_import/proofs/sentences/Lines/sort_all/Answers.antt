use Rattle.logic_terms.specs.Shown.{claim_of, claims_of}
use Rattle.owl_import.proofs.FateLemmas.{sorts_more}
use Rattle.owl_import.proofs.sentences.Lines.sort_all.Goals as goal

pub loop-place-preserved : goal.loop-place-preserved
loop-place-preserved c =
    sorts_more c.args.grammar.now c.args.called.now.words.now c.args.called.now.iris.now (claims_of c.args.axioms.now) c.loop-place.place
    (claim_of c.get.result.now) c.args.self.now c.loop-place.self c.sort.new.self c.requires.none c.get.ensures c.loop-place.invariant c.in_ok-sort.ensures
