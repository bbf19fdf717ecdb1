use Rattle.std.proofs.Common.{◌≡◌, true, false, ℕ, ◌+◌, List, ◌++◌, drop, sym, ap, ◌∙◌, append-nil}
use Rattle.std.specs.List.{list_any}
use Rattle.std.proofs.lemmas.List.{drop_all}
use Rattle.owl_words.specs.Bases.{is_separator, last_part}
use Rattle.owl_words.proofs.BaseLemmas.{last_part_same, separator_step, other_step}
use Rattle.owl_words.proofs.bases.last_part.Goals as goal

pub loop-c-preserved-then-is_separator : goal.loop-c-preserved-then-is_separator
loop-c-preserved-then-is_separator c =
    let cs = c.args.cs.now in
    let k = c.loop-c.c-index in
    let is : is_separator c.c-item.result ≡ true = sym c.is_separator.ensures ∙ c.if-is_separator.true in
    record {
      no_separator = ap (list_any is_separator) c.clear.ensures.items;
      left_decides = c.loop-c.invariant.left_decides
          ∙ separator_step cs c.loop-c.part.items k c.c-item.result c.loop-c-test.true c.c-item.is is
          ∙ ap (λ (ps : List ℕ). last_part (ps ++ drop (k + 1) cs)) (sym c.clear.ensures.items);
    }

pub loop-c-preserved : goal.loop-c-preserved
loop-c-preserved c =
    let cs = c.args.cs.now in
    let k = c.loop-c.c-index in
    let is : is_separator c.c-item.result ≡ false = sym c.is_separator.ensures ∙ c.if-is_separator.false in
    let step = other_step cs c.loop-c.part.items k c.c-item.result c.loop-c-test.true c.c-item.is is c.loop-c.invariant.no_separator in
    record {
      no_separator = ap (list_any is_separator) c.in_ok-push.ensures.items ∙ step.0;
      left_decides = c.loop-c.invariant.left_decides ∙ step.1
          ∙ ap (λ (ps : List ℕ). last_part (ps ++ drop (k + 1) cs)) (sym c.in_ok-push.ensures.items);
    }

pub returns : goal.returns
returns c =
    let cs = c.args.cs.now in
    let part = c.loop-c.part.items in
    sym (c.loop-c.invariant.left_decides
    ∙ ap last_part (ap (λ (rest : List ℕ). part ++ rest) (drop_all c.loop-c.c-index cs c.loop-c-test.false) ∙ append-nil part)
    ∙ last_part_same part c.loop-c.invariant.no_separator)
