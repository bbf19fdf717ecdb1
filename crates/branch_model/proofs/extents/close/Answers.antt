use Rattle.std.proofs.Common.{ℕ, ◌+◌, ◌≤◌, [], length, get_or, take, Contains, sym, ap, subst, ◌∙◌, arith}
use Rattle.std.specs.Prelude.{◌↔◌}
use Rattle.logic_terms.specs.Known.{theory_of}
use Rattle.owl_eval.specs.Given.{lists_in}
use Rattle.branch_model.specs.Extents.{paired_all}
use Rattle.branch_model.specs.Related.{Reaches, straight}
use Rattle.branch_model.proofs.EntriesLemmas.{Adds}
use Rattle.branch_model.proofs.ExtentsLemmas.{fit}
use Rattle.branch_model.proofs.Led.{IsLedBy, none_led, more_led, still_fit, all_close}
use Rattle.branch_model.proofs.extents.close.Goals as goal

pub loop-word-init : goal.loop-word-init
loop-word-init c =
    let k = theory_of c.args.k.now in
    let old = lists_in c.args.edges.now in (
      subst (λ es. Adds old es (IsLedBy k old [])) (sym c.requires.edges) (none_led k old c.requires.rise),
      λ size h. ap (fit size) c.requires.edges ∙ h,
    )

pub loop-word-preserved : goal.loop-word-preserved
loop-word-preserved c =
    let k = theory_of c.args.k.now in
    let old = lists_in c.args.edges.now in
    let es = lists_in c.loop-word.made.items in
    let words = c.transitive-word-items.result.now in
    let i = c.loop-word.word-index in
    let led = c.in_ok-led.led.items in
    let are = subst (λ ps. (a b : ℕ) → Contains led (a, b) ↔ Reaches (λ x y. Contains ps (x, y)) a b) c.pairs_of.ensures c.in_ok-led.ensures in
    let own = straight (get_or words i _) in
    let new_is = c.in_ok-add_each.ensures ∙ ap (λ h. paired_all h own c.as_slice.result.now es) c.hierarchy.ensures
    ∙ ap (λ ps. paired_all k.hierarchy own ps es) c.as_slice.ensures.value in (
      subst (λ fs. Adds old fs (IsLedBy k old (take (i + 1) words))) (sym new_is)
          (more_led k old words i _ c.loop-word-test.true led are es c.loop-word.invariant.0),
      λ size h. ap (fit size) new_is ∙ still_fit k old words i _ c.loop-word-test.true led are es c.loop-word.invariant.1 size h,
    )

pub returns : goal.returns
returns c =
    let k = theory_of c.args.k.now in
    let old = lists_in c.args.edges.now in
    let i = c.loop-word.word-index in
    let past : length c.transitive-word-items.result.now ≤ i = omega arith in
    all_close k old (lists_in c.loop-word.made.items) i (subst (λ ws. length ws ≤ i) c.transitive-word-items.ensures past)
    (subst (λ ws. Adds old (lists_in c.loop-word.made.items) (IsLedBy k old (take i ws))) c.transitive-word-items.ensures c.loop-word.invariant.0)
    c.loop-word.invariant.1
