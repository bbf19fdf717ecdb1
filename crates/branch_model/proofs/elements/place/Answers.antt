use Rattle.std.proofs.Common.{◌≡◌, ◌+◌, ◌<◌, [], ◌∷◌, ◌++◌, Some, sym, ap, ◌∙◌, subst, arith, length}
use Rattle.std.proofs.lemmas.Option.{slice_get-get_or}
use Rattle.logic_terms.specs.Known.{theory_of}
use Rattle.tableau_rules.specs.Shown.{graph_of}
use Rattle.branch_model.specs.Elements.{ArePlaced}
use Rattle.branch_model.proofs.Placing.{placed_hidden, placed_twin, placed_own}
use Rattle.branch_model.proofs.elements.place.Goals as goal

pub returns-then-is_indirectly_blocked : goal.returns-then-is_indirectly_blocked
returns-then-is_indirectly_blocked c =
    subst (ArePlaced (theory_of c.args.k.now) (graph_of c.args.b.now) (c.args.node + 1) c.args.owners.now.items) (sym c.in_ok-push.ensures.items)
    (placed_hidden (theory_of c.args.k.now) (graph_of c.args.b.now) c.args.node c.args.owners.now.items c.args.stands.now.items c.requires.placed
    (sym c.is_indirectly_blocked.ensures ∙ c.if-is_indirectly_blocked.true))

pub returns-then-is_directly_blocked : goal.returns-then-is_directly_blocked
returns-then-is_directly_blocked c =
    let stands = c.args.stands.now.items in
    let lt : c.twin_of.result < length stands = omega (arith, c.twin_of.ensures.before, c.requires.placed.all) in
    subst (ArePlaced (theory_of c.args.k.now) (graph_of c.args.b.now) (c.args.node + 1) c.args.owners.now.items) (sym c.in_ok-push-2.ensures.items)
    (placed_twin (theory_of c.args.k.now) (graph_of c.args.b.now) c.args.node c.args.owners.now.items stands c.requires.placed c.twin_of.result
    c.index-stand.result.now
    (sym c.is_directly_blocked.ensures ∙ c.if-is_directly_blocked.true) c.twin_of.ensures
    (slice_get-get_or stands c.twin_of.result c.index-stand.result.now lt ∙ ap Some (sym c.index-stand.ensures)))

pub returns : goal.returns
returns c =
    let k = theory_of c.args.k.now in
    let g = graph_of c.args.b.now in
    let owners = c.args.owners.now.items in
    let made = placed_own k g c.args.node owners c.args.stands.now.items c.requires.placed
    (sym c.is_directly_blocked.ensures ∙ c.if-is_directly_blocked.false) (sym c.is_indirectly_blocked.ensures ∙ c.if-is_indirectly_blocked.false) in
    let element_is : c.len-element.result ≡ length owners = omega (arith, c.len-element.ensures) in
    let stands_are : c.push-3.new.self.items ≡ c.args.stands.now.items ++ Some (length owners) ∷ [] =
    c.in_ok-push-4.ensures.items ∙ ap (λ e. c.args.stands.now.items ++ Some e ∷ []) element_is in
    subst (λ os. ArePlaced k g (c.args.node + 1) os c.push-3.new.self.items) (sym c.in_ok-push-3.ensures.items)
    (subst (ArePlaced k g (c.args.node + 1) (owners ++ c.args.node ∷ [])) (sym stands_are) made)
