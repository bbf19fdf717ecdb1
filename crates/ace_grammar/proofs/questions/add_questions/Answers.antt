use Rattle.ace_grammar.specs.Questions.{questions}
use Rattle.ace_grammar.proofs.questions.add_questions.Goals as goal

pub returns : goal.returns
unfolding questions
returns c = c.add_rules.ensures
