use Rattle.std.proofs.Common.{◌≡◌, ◌-◌, length, drop, arith, sym, ap, ◌∙◌}
use Rattle.std.proofs.lemmas.List.{length-take}
use Rattle.std.proofs.lemmas.Result.{IfOk-weaker}
use Rattle.scopes.specs.AccessList.{any_opener}
use Rattle.scopes.specs.Links.{entries}
use Rattle.scopes.proofs.ClosingLemmas.{closed_same}
use Rattle.scopes.proofs.access.Access.close.Goals as goal

pub returns-else-has_opener : goal.returns-else-has_opener
returns-else-has_opener c =
    let all = c.args.self.now in
    let begun = c.args.before.now in
    let links = entries c.self.inside.newest in
    let n = length links - (c.self.inside.len - c.before-2.inside.len) in
    let long : length links ≡ length all = ap length c.self.view_is in
    let short : length (entries c.before-2.inside.newest) ≡ length begun = ap length c.before-2.view_is in
    let has_long : c.self.inside.len ≡ length links = c.self.invariant.0 in
    let has_short : c.before-2.inside.len ≡ length (entries c.before-2.inside.newest) = c.before-2.invariant.0 in
    let at : n ≡ length begun = omega (arith, length-take (length begun) all, ap length c.requires) in
    IfOk-weaker c.share-else-has_opener.result _ _ (λ access same. same
    ∙ closed_same begun all n c.requires at (ap (λ xs. any_opener (drop n xs)) (sym c.self.view_is) ∙ sym c.has_opener.ensures ∙ c.if-has_opener.false))
    c.share-else-has_opener.ensures
