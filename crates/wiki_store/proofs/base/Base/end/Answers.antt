use Rattle.std.proofs.Common.{sym, arith}
use Rattle.wiki_store.proofs.KeepingLemmas.{few_there}
use Rattle.wiki_store.proofs.base.Base.end.Goals as goal

pub overflow_cast-result : goal.overflow_cast-result
overflow_cast-result c = let few = few_there c.self.inside.articles c.args.word _ (sym c.in-Some.ensures) c.self.invariant.0.sound.few in
    omega (arith, few, c.len.ensures)
