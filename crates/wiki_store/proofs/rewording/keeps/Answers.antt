use Rattle.std.proofs.Common.{ℕ, List, Option, ap, subst, ◌∙◌}
use Rattle.std.specs.Option.{MatchOption, option_copied}
use Rattle.derivation_trees.specs.Sentences.{IsSentence}
use Rattle.wiki_parts.specs.declared.meanings.Sense.{Sense}
use Rattle.wiki_parts.specs.Found.{meaning_shown}
use Rattle.plain_wiki.specs.Meanings.{Means}
use Rattle.wiki_store.specs.Sameness.{same_meaning}
use Rattle.wiki_store.proofs.FindLemmas.{told_kept, passed_keeps}
use Rattle.wiki_store.proofs.rewording.keeps.Goals as goal

pub returns-in-Some : goal.returns-in-Some
returns-in-Some c = λ g words means others.
    let other = c.args.grammar.now in
    let lexicon = c.args.lexicon.now in
    let tokens = c.args.sentence.now.tokens in
    let after : Means other lexicon tokens (meaning_shown c.in-Some.found) =
    subst (λ (ts : List (List ℕ)). Means other lexicon ts (meaning_shown c.in-Some.found)) c.get.ensures
    (subst
    (λ (o : Option Sense). MatchOption o (IsSentence other lexicon c.get.result.now → ⊥)
    (λ found. Means other lexicon c.get.result.now (meaning_shown found)))
    c.in-Some.is
    c.in_ok-found.ensures.means) in
    told_kept g words other lexicon tokens (meaning_shown c.args.sense.now) (meaning_shown c.in-Some.found) c.same_sense.result
    (c.same_sense.ensures ∙ ap (λ (s : Sense). same_meaning (meaning_shown c.in-Some.found) (meaning_shown s)) c.get-in-Some.ensures) means after

pub returns-then-is_passed : goal.returns-then-is_passed
returns-then-is_passed c = λ g words means others.
    passed_keeps g words c.args.grammar.now c.args.lexicon.now c.args.sentence.now.tokens (meaning_shown c.args.sense.now) (option_copied c.args.forms)
    c.is_passed.result c.is_passed.ensures c.if-is_passed.true means others
