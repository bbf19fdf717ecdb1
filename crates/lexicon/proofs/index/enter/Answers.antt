use Rattle.std.proofs.Common.{arith, ◌∙◌, Some}
use Rattle.std.specs.HashMap.{UpdatesBy}
use Rattle.std.specs.String.{string_eq}
use Rattle.std.proofs.lemmas.Result.{IfOk-at_ok}
use Rattle.lexicon.proofs.Keys.{enter_last}
use Rattle.lexicon.proofs.index.enter.Goals as goal

-- the last key is entered, which uses up at most one place
pub loop-key-preserved : goal.loop-key-preserved
loop-key-preserved c = (
  omega (arith, c.in-Some.ensures.len, c.insert-entered.ensures.spare),
  λ text. enter_last c.pop.new.self.items c.in-Some.key c.loop-key.index c.insert-entered.new.self c.args.id
      (IfOk-at_ok (λ _. UpdatesBy string_eq (string_eq c.in-Some.key) c.loop-key.index c.insert-entered.new.self (Some c.args.id)) c.unwrap.ensures
      c.insert-entered.ensures.updates) text ∙ rw (← c.in-Some.ensures.items) (c.loop-key.invariant.1 text),
)
