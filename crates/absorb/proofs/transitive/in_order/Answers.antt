use Rattle.std.proofs.Common.{Contains, map, ap, subst, sym, ◌∙◌}
use Rattle.std.specs.Prelude.{◌↔◌}
use Rattle.logic_terms.specs.Names.{names_rise}
use Rattle.absorb.specs.Numbered.{numbered}
use Rattle.absorb.proofs.OrderLemmas.{names_rise-numbered, same_words}
use Rattle.absorb.proofs.transitive.in_order.Goals as goal

pub returns-clause-rising : goal.returns-clause-rising
returns-clause-rising c =
    ap names_rise (c.in_ok-made.ensures ∙ ap (map numbered) c.as_slice.ensures.value) ∙ names_rise-numbered _ c.put_in_order.ensures.rises

pub returns-clause-same : goal.returns-clause-same
returns-clause-same c word =
    subst (λ made. Contains made word ↔ Contains c.args.words.now word) (sym (c.in_ok-made.ensures ∙ ap (map numbered) c.as_slice.ensures.value))
    (same_words c.args.words.now _ _ c.in_ok-numbers.ensures c.put_in_order.ensures.keeps c.put_in_order.ensures.adds_none word)
