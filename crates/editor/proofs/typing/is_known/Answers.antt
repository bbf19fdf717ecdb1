use Rattle.std.proofs.Common.{◌≡◌, true, false, rules}
use Rattle.derivation_trees.specs.Cutting.{is_terminal}
use Rattle.editor.proofs.KnownLemmas.{terminal_is_token, known_by_owner, token_by_owner}
use Rattle.editor.proofs.typing.is_known.Goals as goal

pub returns-then-is_terminal-clause-token : goal.returns-then-is_terminal-clause-token
returns-then-is_terminal-clause-token c =
    let terminal : is_terminal c.args.grammar.now.terminals c.args.text.now ≡ true = search rules in
    λ _. terminal_is_token c.args.grammar.now c.args.text.now c.grammar.ensures.sound terminal

pub returns-clause-known : goal.returns-clause-known
returns-clause-known c =
    let other : is_terminal c.args.grammar.now.terminals c.args.text.now ≡ false = search rules in
    known_by_owner c.args.grammar.now c.args.lexicon.now c.args.text.now c.find.result c.is_some.result other c.find.ensures.owner c.is_some.ensures

pub returns-clause-token : goal.returns-clause-token
returns-clause-token c = token_by_owner c.args.lexicon.now c.args.text.now c.find.result c.is_some.result c.find.ensures.lexicon c.utf8.text
    c.find.ensures.owner c.is_some.ensures
