use Rattle.lexicon.proofs.Keys.{same_texts}
use Rattle.lexicon.proofs.index.make_room.Goals as goal

-- a table that finds the same at each key finds the same at all bytes
pub returns-clause-same : goal.returns-clause-same
returns-clause-same c = same_texts c.args.index.now.entries c.reserve.new.self.entries c.reserve.ensures.entries.2
