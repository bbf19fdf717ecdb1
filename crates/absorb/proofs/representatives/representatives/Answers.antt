use Rattle.std.proofs.Common.{◌≡◌, ◌<◌, ◌≤◌, ◌&&◌, true, [], ◌∷◌, ◌++◌, length, get_or, take, All, sym, ap, ◌∙◌, subst, arith}
use Rattle.std.proofs.lemmas.List.{take_more, take_all}
use Rattle.wiki_base.specs.declared.numbers.WordId.{WordId}
use Rattle.absorb.specs.Absorbed.{Represents}
use Rattle.absorb.specs.Mentioned.{is_among}
use Rattle.absorb.specs.Renamed.{joined}
use Rattle.absorb.proofs.RepresentativeLemmas.{no_pair, AreEntries, itself_represents, joined_entries}
use Rattle.absorb.proofs.AbsorbedLemmas.{each_passes}
use Rattle.absorb.proofs.representatives.representatives.Goals as goal

pub loop-equality-init : goal.loop-equality-init
loop-equality-init c =
    let both : AreEntries c.args.names.now [] c.in_ok-made.made.items =
    subst (AreEntries c.args.names.now []) (sym c.in_ok-made.ensures.entries) (itself_represents c.args.names.now) in
    record { given = both.0; least = both.1 }

pub loop-equality-preserved : goal.loop-equality-preserved
loop-equality-preserved c =
    let ps = c.args.equalities.now in
    let k = c.loop-equality.equality-index in
    let p = get_or ps k no_pair in
    let names = c.args.names.now in
    let lt : k < length ps = c.loop-equality-test.true in
    let there : (is_among names p.0 && is_among names p.1) ≡ true =
    each_passes (λ (e : WordId × WordId). is_among names e.0 && is_among names e.1) ps c.requires k no_pair lt in
    let made : c.in_ok-made-2.made.items ≡ joined c.loop-equality.made.items p.0 p.1 =
    c.in_ok-made-2.ensures ∙ ap (λ es. joined es p.0 p.1) c.as_slice.ensures.value in
    let both : AreEntries names (take k ps ++ p ∷ []) c.in_ok-made-2.made.items =
    subst (AreEntries names (take k ps ++ p ∷ [])) (sym made)
    (joined_entries (take k ps) p c.loop-equality.made.items names there c.loop-equality.invariant.given c.loop-equality.invariant.least) in
    record {
      given = both.0;
      least = subst (λ qs. All (λ (e : WordId × WordId). Represents qs e.0 e.1) c.in_ok-made-2.made.items) (sym (take_more ps k no_pair lt)) both.1;
    }

pub returns-clause-least : goal.returns-clause-least
returns-clause-least c =
    let ps = c.args.equalities.now in
    let past : length ps ≤ c.loop-equality.equality-index = omega (arith, c.loop-equality-test.false) in
    subst (λ qs. All (λ (e : WordId × WordId). Represents qs e.0 e.1) c.loop-equality.made.items) (take_all c.loop-equality.equality-index ps past)
    c.loop-equality.invariant.least
