use Rattle.std.proofs.Common.{◌≡◌, suc, ◌+◌, ◌<◌, ◌∷◌, length, cond, None, drop, get_or, sym, ap, subst, ◌∙◌, arith, drop-cons, add-one}
use Rattle.std.specs.HashMap.{get_by_text}
use Rattle.lexicon.specs.Words.{is_among}
use Rattle.lexicon.proofs.Keys.{forget_first}
use Rattle.lexicon.proofs.index.forget.Goals as goal

-- the first text that is left is taken out
pub loop-text-preserved : goal.loop-text-preserved
loop-text-preserved c =
    let items = c.as_slice-text-items.result.now in
    let i = c.loop-text.text-index in
    let read : get_or items i c.text-item.result ≡ c.as_str.result.now = sym (c.as_str.ensures.value ∙ c.text-item.is) in
    let in_range : i < length items = c.loop-text-test.true in
    let left : drop i items ≡ c.as_str.result.now ∷ drop (i + 1) items =
    rw (add-one, drop-cons items i c.text-item.result) (ap (λ text. text ∷ drop (suc i) items) read) in (
      omega (arith, c.loop-text.invariant.0, c.remove.ensures.spare),
      λ text. forget_first c.as_str.result.now (drop (c.loop-text.text-index + 1) c.as_slice-text-items.result.now) c.loop-text.index c.remove.new.self
          c.remove.ensures.updates text ∙ subst
          (λ texts. cond (is_among texts text) None (get_by_text c.loop-text.index text)
          ≡ cond (is_among c.args.texts.now text) None (get_by_text c.args.index.now text)) left (c.loop-text.invariant.1 text),
    )
