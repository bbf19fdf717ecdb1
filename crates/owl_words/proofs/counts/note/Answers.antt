use Rattle.owl_words.proofs.NotingLemmas.{notes}
use Rattle.owl_words.proofs.counts.note.Goals as goal

pub returns : goal.returns
returns c =
    notes c.args.counts.now c.insert-noted.new.self c.args.key c.args.count c.insert-noted.result c.insert-noted.ensures.updates c.insert-noted.ensures.err
