use Rattle.std.proofs.Common.{◌≡◌, ◌≤◌, ◌↔◌, ℕ, length, ap, subst, ◌∙◌}
use Rattle.std.proofs.lemmas.Result.{IfOk-weaker}
use Rattle.wiki_base.specs.declared.tokens.TheConstants.{MOST_TOKENS}
use Rattle.codeco_terms.specs.GrammarParts.{GrammarParts}
use Rattle.derivation_trees.specs.Cutting.{shown}
use Rattle.logic_terms.specs.Shown.{claim_of}
use Rattle.verbalise.specs.declared.saying.Spoken.{Spoken}
use Rattle.verbalise.specs.declared.saying.Spoken.TheVariants.{TooLong}
use Rattle.verbalise.specs.Spoken.{is_no_pattern, reading_shown, SaysExactly, IsTooLong, ReadsOtherwise}
use Rattle.retelling.specs.Saying.{IsTextOf}
use Rattle.retelling.proofs.SayLemmas.{few_tokens, with_sentence, by_no_pattern, by_length, by_reading}
use Rattle.retelling.proofs.saying.text_of.Goals as goal

pub returns-in-Sentence : goal.returns-in-Sentence
returns-in-Sentence c =
    let g = c.args.grammar.now in
    let words = c.args.words.now in
    let claim = claim_of c.args.axiom.now in
    let tokens = c.in-Sentence.tokens in
    let said = subst (SaysExactly g words claim) c.in-Sentence.is c.in_ok-tokens.ensures.sentence in
    let few : length tokens ≤ MOST_TOKENS = few_tokens words claim tokens said.0
    (λ n. subst (λ (s : Spoken). (s ≡ TooLong n) ↔ IsTooLong words claim n) c.in-Sentence.is (c.in_ok-tokens.ensures.too_long n)) in
    IfOk-weaker c.show.result _ (IsTextOf g words claim)
    (λ text e. with_sentence g words claim tokens text said few (e ∙ ap (λ (h : GrammarParts). shown h.terminals tokens) c.grammar.ensures.grammar))
    c.show.ensures.exact

pub returns-in-NoPattern : goal.returns-in-NoPattern
returns-in-NoPattern c =
    let claim = claim_of c.args.axiom.now in
    IfOk-weaker c.bare_text.result _ (IsTextOf c.args.grammar.now c.args.words.now claim)
    (λ text e. by_no_pattern c.args.grammar.now c.args.words.now claim text (c.in_ok-tokens.ensures.no_pattern.0 (ap is_no_pattern c.in-NoPattern.is)) e)
    c.bare_text.ensures

pub returns-in-TooLong : goal.returns-in-TooLong
returns-in-TooLong c =
    let claim = claim_of c.args.axiom.now in
    let n = c.in-TooLong.field-0 in
    IfOk-weaker c.bare_text-in-TooLong.result _ (IsTextOf c.args.grammar.now c.args.words.now claim)
    (λ text e. by_length c.args.grammar.now c.args.words.now claim n text ((c.in_ok-tokens.ensures.too_long n).0 c.in-TooLong.is) e)
    c.bare_text-in-TooLong.ensures

pub returns : goal.returns
returns c =
    let g = c.args.grammar.now in
    let words = c.args.words.now in
    let claim = claim_of c.args.axiom.now in
    let otherwise = subst (ReadsOtherwise g words claim) c.in-ReadOtherwise.is c.in_ok-tokens.ensures.read_otherwise in
    IfOk-weaker c.bare_text-in-ReadOtherwise.result _ (IsTextOf g words claim)
    (λ text e. by_reading g words claim c.in-ReadOtherwise.field-0 (reading_shown c.in-ReadOtherwise.field-1) text otherwise e)
    c.bare_text-in-ReadOtherwise.ensures
