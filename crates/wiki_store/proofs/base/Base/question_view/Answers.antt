use Rattle.wiki_store.proofs.base.Base.question_view.Goals as goal

pub returns-clause-remembered : goal.returns-clause-remembered
returns-clause-remembered c = c.keep.ensures c.args.self.now c.requires.remembered c.in_ok-answers.ensures
