use Rattle.std.proofs.Common.{◌≡◌, ◌≤◌, ◌↔◌, length, ap, subst}
use Rattle.wiki_base.specs.declared.tokens.TheConstants.{MOST_TOKENS}
use Rattle.logic_terms.specs.Shown.{claim_of}
use Rattle.verbalise.specs.declared.saying.Spoken.{Spoken}
use Rattle.verbalise.specs.declared.saying.Spoken.TheVariants.{TooLong}
use Rattle.verbalise.specs.Spoken.{is_no_pattern, reading_shown, SaysExactly, IsTooLong, ReadsOtherwise}
use Rattle.owl_import.proofs.SpokenLemmas.{few_tokens, by_no_pattern, by_length, by_reading}
use Rattle.owl_import.proofs.sentences.sentence_of.Goals as goal

pub returns-in-Sentence : goal.returns-in-Sentence
returns-in-Sentence c =
    let g = c.args.grammar.now in
    let words = c.args.words.now in
    let claim = claim_of c.args.axiom.now in
    let tokens = c.in-Sentence.tokens in
    let said = subst (SaysExactly g words claim) c.in-Sentence.is c.in_ok-tokens.ensures.sentence in
    let few : length tokens ≤ MOST_TOKENS = few_tokens words claim tokens said.0
    (λ n. subst (λ (s : Spoken). (s ≡ TooLong n) ↔ IsTooLong words claim n) c.in-Sentence.is (c.in_ok-tokens.ensures.too_long n)) in
    record { is_said = said.0; few = few; reads = said.1 }

pub returns-in-NoPattern : goal.returns-in-NoPattern
returns-in-NoPattern c =
    by_no_pattern c.args.grammar.now c.args.words.now (claim_of c.args.axiom.now) (c.in_ok-tokens.ensures.no_pattern.0 (ap is_no_pattern c.in-NoPattern.is))

pub returns-in-TooLong : goal.returns-in-TooLong
returns-in-TooLong c =
    let n = c.in-TooLong.field-0 in
    by_length c.args.grammar.now c.args.words.now (claim_of c.args.axiom.now) n ((c.in_ok-tokens.ensures.too_long n).0 c.in-TooLong.is)

pub returns : goal.returns
returns c =
    let g = c.args.grammar.now in
    let words = c.args.words.now in
    let claim = claim_of c.args.axiom.now in
    let otherwise = subst (ReadsOtherwise g words claim) c.in-ReadOtherwise.is c.in_ok-tokens.ensures.read_otherwise in
    by_reading g words claim c.in-ReadOtherwise.field-0 (reading_shown c.in-ReadOtherwise.field-1) otherwise
