use Rattle.std.proofs.Common.{◌-◌, ◌<◌}
use Rattle.generator.specs.Requests.{sentences_from}
use Rattle.making.proofs.MakingLemmas.{Leads}
use Rattle.making.proofs.making.add_sentences.Given as goal

-- the sentences that are left to add decide
abbrev pub invariant-loop-number : goal.invariant-loop-number
invariant-loop-number g l = record {
  leads : Leads g.W.Machine.Steps l.fn.machine (sentences_from 0 l.fn.count l.fn.first) l.fn.before l.machine
      (sentences_from l.number (l.fn.count - l.number) l.draw) l.summary;
  below : l.draw < 65537;
}
