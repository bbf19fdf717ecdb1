use Rattle.std.proofs.Common.{◌≡◌, ◌+◌, ◌-◌, ◌≤◌, Bool, cond, List, length, take, drop, sym, ap, ◌∙◌, append_assoc, arith}
use Rattle.std.specs.List.{insert_slice, remove_range}
use Rattle.logic_terms.specs.Concept.{Claim}
use Rattle.logic_terms.specs.Shown.{claims_of}
use Rattle.owl_eval.specs.Checked.{kept_claims}
use Rattle.wiki_store.specs.Putting.{known_with}
use Rattle.wiki_store.proofs.JoiningLemmas.{replaced, gone, long-insert_slice}
use Rattle.wiki_store.proofs.joining.join.Goals as goal

pub returns-clause-joined : goal.returns-clause-joined
returns-clause-joined c =
    let known = known_with c.args.stretch.now in
    let own = claims_of c.args.own in
    let first = c.span_of-old.result.first in
    let count = c.span_of-old.result.count in
    let within : first ≤ length known = omega (arith, c.span_of-old.ensures.within) in
    let grown : kept_claims c.insert.new.self ≡ insert_slice known first own =
    c.in_ok-insert.ensures.axioms
    ∙ ap (λ (b : Bool). cond b (insert_slice (kept_claims c.args.kept.now) first own) (kept_claims c.args.kept.now)) c.if-not-branch.false
    ∙ ap (λ (cs : List Claim). insert_slice cs first own) c.requires.known in
    let long = long-insert_slice known own first within in
    let old_long : c.len-total.result ≡ length known = c.len-total.ensures ∙ ap length (c.axioms.ensures.part ∙ c.requires.known) in
    let new_long : c.len.result ≡ length (insert_slice known first own) = c.len.ensures ∙ ap length (c.axioms-2.ensures.part ∙ grown) in
    let more : c.len.result - c.len-total.result ≡ length own = omega (arith, old_long, new_long, long) in
    let all_long : length (kept_claims c.insert.new.self) ≡ length (insert_slice known first own) = ap length grown in
    record {
      rises = omega arith;
      rising = omega arith;
      within = omega (arith, all_long, long, more, c.span_of-old.ensures.within);
      settled =
          ap (λ (cs : List Claim). remove_range cs (first + (c.len.result - c.len-total.result)) (first + (c.len.result - c.len-total.result) + count)) grown
          ∙ ap (λ n. remove_range (insert_slice known first own) (first + n) (first + n + count)) more
          ∙ replaced known own first count within
          ∙ sym (c.span_of-old.ensures.around own);
      undone =
          ap (λ (cs : List Claim). remove_range cs first (first + (c.len.result - c.len-total.result))) grown
          ∙ ap (λ n. remove_range (insert_slice known first own) first (first + n)) more
          ∙ ap (λ (cs : List Claim). remove_range cs first (first + length own)) (append_assoc (take first known) own (drop first known))
          ∙ gone known own first within
          ∙ sym c.requires.known;
    }
