use Rattle.std.proofs.Common.{◌+◌, inl, inr, refl, subst}
use Rattle.std.proofs.lemmas.Result.{IfOk-weaker}
use Rattle.logic_terms.specs.Shown.{claim_of}
use Rattle.owl_import.specs.Steps.{TellsSentence, Written, SortsOne}
use Rattle.owl_import.proofs.FateLemmas.{sorts_left, sorts_added}
use Rattle.owl_import.proofs.sentences.Lines.sort.Goals as goal

-- so many are added already
pub returns-then-self-ge-MOST_SENTENCES : goal.returns-then-self-ge-MOST_SENTENCES
returns-then-self-ge-MOST_SENTENCES c =
    let g = c.args.grammar.now in
    let words = c.args.called.now.words.now in
    let iris = c.args.called.now.iris.now in
    let claim = claim_of c.args.axiom.now in
    let old : Written = record { requests = c.self.inside.requests; left_out = c.self.inside.left_out.items; count = c.self.inside.count } in
    let new : Written = record { requests = c.self.inside.requests; left_out = c.put_left_out.new.out.items; count = c.self.inside.count } in
    IfOk-weaker c.put_left_out.result _ (λ _. SortsOne g words iris c.args.number claim c.args.self.now new)
    (λ _ written. subst (λ (it : Written). SortsOne g words iris c.args.number claim it new) c.self.view_is
    (sorts_left g words iris c.args.number claim old new (inl c.if-self-ge-MOST_SENTENCES.true) refl written refl))
    c.put_left_out.ensures

-- the axiom has a sentence
pub returns-in_ok-put_added-in-Some : goal.returns-in_ok-put_added-in-Some
returns-in_ok-put_added-in-Some c =
    let g = c.args.grammar.now in
    let words = c.args.called.now.words.now in
    let iris = c.args.called.now.iris.now in
    let claim = claim_of c.args.axiom.now in
    let old : Written = record { requests = c.self.inside.requests; left_out = c.self.inside.left_out.items; count = c.self.inside.count } in
    let new : Written = record { requests = c.put_added.new.out; left_out = c.self.inside.left_out.items; count = c.self.inside.count + 1 } in
    subst (λ (it : Written). SortsOne g words iris c.args.number claim it new) c.self.view_is
    (sorts_added g words iris c.args.number claim c.in-Some.tokens old new c.if-self-ge-MOST_SENTENCES.false
    (subst (TellsSentence g words claim) c.in-Some.is c.in_ok-tokens.ensures) c.in_ok-put_added-in-Some.ensures refl refl)

-- it has none
pub returns-in-None : goal.returns-in-None
returns-in-None c =
    let g = c.args.grammar.now in
    let words = c.args.called.now.words.now in
    let iris = c.args.called.now.iris.now in
    let claim = claim_of c.args.axiom.now in
    let old : Written = record { requests = c.self.inside.requests; left_out = c.self.inside.left_out.items; count = c.self.inside.count } in
    let new : Written = record { requests = c.self.inside.requests; left_out = c.put_left_out-in-None.new.out.items; count = c.self.inside.count } in
    IfOk-weaker c.put_left_out-in-None.result _ (λ _. SortsOne g words iris c.args.number claim c.args.self.now new)
    (λ _ written. subst (λ (it : Written). SortsOne g words iris c.args.number claim it new) c.self.view_is
    (sorts_left g words iris c.args.number claim old new (inr (subst (TellsSentence g words claim) c.in-None.is c.in_ok-tokens.ensures)) refl written refl))
    c.put_left_out-in-None.ensures
