use Rattle.std.proofs.Common.{◌≡◌, ℕ, map, take, ap, ◌∙◌, arith, rules}
use Rattle.std.proofs.lemmas.List.{take_all}
use Rattle.std.proofs.lemmas.List.Sorted.{IsNonDecreasingBy-from_sort_by_key, answers_always}
use Rattle.codeco_text.specs.declared.written.WrittenTerm.{WrittenTerm}
use Rattle.codeco_numbering.specs.Numbered.{number_of, in_order}
use Rattle.codeco_numbering.proofs.Orders.{sorted_is}
use Rattle.codeco_numbering.proofs.categories.ordered.Goals as goal

pub returns : goal.returns
returns c =
    let feats = c.as_slice-feat-items.result.now in
    let all : take c.loop-feat.feat-index feats ≡ feats = take_all c.loop-feat.feat-index feats (omega arith) in
    sorted_is (λ f. (f.0, f.1.now)) c.loop-feat.list.items c.sort_by_key.new.self.items
    (IsNonDecreasingBy-from_sort_by_key (λ p. p.0) _ c.in_ok-sort_by_key.ensures.sorted (λ a r q k. search rules))
    (c.in_ok-sort_by_key.ensures.stable (λ p. p.0) (answers_always _ (λ a r. r ≡ a.0.now.0) _ (λ f a r q k. search rules)))
    ∙ ap in_order (c.loop-feat.invariant
    ∙ ap (map {B = ℕ × WrittenTerm} (λ f. (number_of c.args.features.now f.name, f.term))) (all ∙ c.as_slice-feat-items.ensures))
