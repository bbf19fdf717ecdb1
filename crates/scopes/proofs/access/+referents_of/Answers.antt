use Rattle.std.proofs.Common.{◌++◌, [], ◌∷◌, refl, ap, ◌∙◌}
use Rattle.std.proofs.lemmas.Result.{IfOk-weaker}
use Rattle.scopes.specs.AccessList.{referents}
use Rattle.scopes.specs.Links.{entries}
use Rattle.scopes.proofs.ClosingLemmas.{referents_plain, referents_more}
use Rattle.scopes.proofs.access.+referents_of.Goals as goal

pub returns-then-is_plain : goal.returns-then-is_plain
returns-then-is_plain t c =
    IfOk-weaker c.listed.result _ _ (λ access same. same
    ∙ referents_plain (entries c.args.links.now) c.is_plain.result c.is_plain.ensures c.if-is_plain.true) c.listed.ensures

pub returns-in_ok-older-in-Cons : goal.returns-in_ok-older-in-Cons
returns-in_ok-older-in-Cons t c =
    let node = c.in-Cons.node.value in
    IfOk-weaker c.with_referent.result _ _ (λ access same. same
    ∙ ap (λ n. c.in_ok-older-in-Cons.older ++ referents (n.entry ∷ [])) c.deref-in-Cons.ensures
    ∙ referents_more (entries node.older) (node.entry ∷ []) (entries c.args.links.now) c.in_ok-older-in-Cons.older (referents (node.entry ∷ []))
    (ap entries c.in-Cons.is) (c.in_ok-older-in-Cons.ensures ∙ ap (λ n. referents (entries n.older)) c.deref.ensures) refl) c.with_referent.ensures

pub returns-in_ok-newer-in-Join : goal.returns-in_ok-newer-in-Join
returns-in_ok-newer-in-Join t c =
    let pair = c.in-Join.pair.value in
    IfOk-weaker c.join.result _ _ (λ access same. same
    ∙ referents_more (entries pair.older) (entries pair.newer) (entries c.args.links.now) c.in_ok-older-in-Join.older c.in_ok-newer-in-Join.newer
    (ap entries c.in-Join.is) (c.in_ok-older-in-Join.ensures ∙ ap (λ n. referents (entries n.older)) c.deref-in-Join.ensures)
    (c.in_ok-newer-in-Join.ensures ∙ ap (λ n. referents (entries n.newer)) c.deref-in-Join-3.ensures)) c.join.ensures
