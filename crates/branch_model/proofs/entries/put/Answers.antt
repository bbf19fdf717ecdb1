use Rattle.std.proofs.Common.{◌≡◌, ◌<◌, ◌≤◌, [], ◌∷◌, ◌++◌, length, get_or, sym, ap, ◌∙◌, subst, inl, inr, arith}
use Rattle.std.proofs.lemmas.Bool.{cases_lt}
use Rattle.owl_eval.specs.Given.{lists_in}
use Rattle.branch_model.proofs.Putting.{read_any, before_more, put_same, put_new}
use Rattle.branch_model.proofs.entries.put.Goals as goal
use Rattle.branch_model.proofs.entries.put.Goals.{then-loop-place-test+else-index-word, else-loop-place-test, else-place-len-via-then-place-len+else-index-word-2, else-place-len-via-else-place-len}

pub loop-place-init : goal.loop-place-init
loop-place-init g c = record { within = omega arith; before = λ j d lt. absurd (omega (arith, lt)) }

pub loop-place-preserved : goal.loop-place-preserved
loop-place-preserved g c =
    let es = c.args.entries.now.items in
    let lt : c.loop-place.place < length es = omega (arith, c.len.ensures, c.loop-place-test.true) in
    record {
      within = omega (arith, lt);
      before = before_more c.args.word c.args.item es c.loop-place.place c.index.result.now c.loop-place.invariant.before lt c.index.ensures
          (omega (arith, c.if-index-word.true));
    }

pub returns-then-index-word-2 : goal.returns-then-index-word-2
returns-then-index-word-2 g c =
    let es = c.args.entries.now.items in
    let lt : c.loop-place.place < length es = omega (arith, c.len-2.ensures, c.if-place-len.true) in
    let here = sym (read_any c.args.word c.args.item es c.loop-place.place c.index-then-place-len.result.now c.index_mut-entry.result.now lt
    c.index-then-place-len.ensures) in
    put_same c.args.word c.args.item es c.loop-place.place c.index_mut-entry.result.now c.push.new.self c.loop-place.invariant.before lt
    c.index_mut-entry.ensures.value
    (subst (λ e. e.0.0 ≡ c.args.word.0) (here ∙ sym c.index_mut-entry.ensures.value) (omega (arith, c.if-index-word-2.true))) c.in_ok-push.ensures.items

pub returns : goal.returns
returns g c =
    let es = c.args.entries.now.items in
    ap lists_in c.in_ok-insert.ensures.items
    ∙ put_new c.args.word c.args.item es c.loop-place.place c.push-2.new.self c.loop-place.invariant.before c.loop-place.invariant.within
    (λ d lt. elim c.else-place-len.branch [
      | else-place-len-via-then-place-len+else-index-word-2 w ↦ elim c.loop-place-test.branch [
        | then-loop-place-test+else-index-word v ↦
            (let one = read_any c.args.word c.args.item es c.loop-place.place v.index.result.now d lt v.index.ensures in
            let two = read_any c.args.word c.args.item es c.loop-place.place w.index-then-place-len.result.now d lt w.index-then-place-len.ensures in
            let high : c.args.word.0 ≤ (get_or es c.loop-place.place d).0.0 =
            subst (λ e. c.args.word.0 ≤ e.0.0) (sym one) (omega (arith, v.if-index-word.false)) in
            let other : (get_or es c.loop-place.place d).0.0 ≡ c.args.word.0 → ⊥ =
            subst (λ e. e.0.0 ≡ c.args.word.0 → ⊥) (sym two) (λ same. omega (arith, w.if-index-word-2.false, same)) in
            elim (cases_lt c.args.word.0 (get_or es c.loop-place.place d).0.0) [ inl less ↦ less | inr low ↦ absurd (other (omega (arith, high, low))) ])
        | else-loop-place-test v ↦ absurd (omega (arith, lt, c.len.ensures, v.loop-place-test.false))
      ]
      | else-place-len-via-else-place-len w ↦ absurd (omega (arith, lt, c.len-2.ensures, w.if-place-len.false))
    ])
    (c.in_ok-push-2.ensures.items ∙ ap (λ xs. xs ++ c.args.item ∷ []) c.new-items.ensures.items)
