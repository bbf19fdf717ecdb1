use Rattle.std.proofs.Common.{◌≡◌, ap, sym, subst, ◌∙◌, Err}
use Rattle.std.proofs.lemmas.Result.{err_from_is_err_and}
use Rattle.owl_tokens.specs.Shown.{token_of}
use Rattle.owl_reader.specs.declared.faults.OwlFault.TheVariants as fault
use Rattle.owl_reader.specs.Views.{state_of}
use Rattle.owl_reader.specs.Shown.{ReadsFront}
use Rattle.owl_reader.proofs.Runs.{leads_on, no_memory, refused, comes_to_end, ends_early, breaks_off}
use Rattle.owl_reader.proofs.reading.read_front.Goals as goal

pub returns-in_err-reader : goal.returns-in_err-reader
returns-in_err-reader c =
    let p = err_from_is_err_and c.from_residual.result c.from_residual.ensures.1 in
    subst (λ r. ReadsFront c.args.front.now c.args.whole r) (sym (p.1 ∙ ap Err p.2)) (no_memory c.args.front.now c.args.whole)

pub returns-in-Err : goal.returns-in-Err
returns-in-Err c =
    refused c.args.front.now c.args.whole c.loop-token.at (state_of c.loop-token.reader) (token_of c.in-Found.token) c.in-Err.fault c.loop-token.invariant.leads
    (sym c.in-Found.ensures.next) c.in-Found.ensures.within.2 c.in-Err.ensures

pub loop-token-preserved : goal.loop-token-preserved
loop-token-preserved c = record {
  within = c.in-Found.ensures.within.2;
  leads = leads_on c.args.front.now c.loop-token.at (state_of c.loop-token.reader) (state_of c.take_token.new.reader) (token_of c.in-Found.token)
      c.loop-token.invariant.leads (sym c.in-Found.ensures.next) c.in_default.ensures;
}

pub returns-in-Broken : goal.returns-in-Broken
returns-in-Broken c =
    breaks_off c.args.front.now c.args.whole c.loop-token.at c.in-Broken.place (state_of c.loop-token.reader) c.loop-token.invariant.leads
    (sym c.in-Broken.ensures.next)

pub returns-then-whole : goal.returns-then-whole
returns-then-whole c =
    subst (λ w. ReadsFront c.args.front.now w c.ended.result) (sym c.if-whole.true)
    (comes_to_end c.args.front.now c.loop-token.at c.in-Ends.place (state_of c.loop-token.reader) c.ended.result c.loop-token.invariant.leads
    (sym c.in-Ends.ensures.next) c.ended.ensures)

pub returns-else-whole : goal.returns-else-whole
returns-else-whole c =
    subst (λ w. ReadsFront c.args.front.now w (Err (fault.Syntax c.in-Ends.place))) (sym c.if-whole.false)
    (ends_early c.args.front.now c.loop-token.at c.in-Ends.place (state_of c.loop-token.reader) c.loop-token.invariant.leads (sym c.in-Ends.ensures.next))
