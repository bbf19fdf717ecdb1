use Rattle.std.proofs.Common.{◌≡◌, map, ap, ◌∙◌, subst, IsTrue, ◌↔◌, sym}
use Rattle.std.specs.Prelude.{IfOk}
use Rattle.lexicon.specs.Readings.{readings_of}
use Rattle.derivation_trees.specs.Trees.{node_of}
use Rattle.derivation_trees.specs.Derives.{IsDerivation}
use Rattle.derivation_trees.specs.Sentences.{setting_of}
use Rattle.codeco_checked.specs.Sound.{IsSound}
use Rattle.derivation_trees.proofs.LimitLemmas.{IsLimited-from_sound}
use Rattle.derivation_trees.proofs.check.check_tree.Goals as goal

pub is_derivation-requires : goal.is_derivation-requires
is_derivation-requires c =
    IsLimited-from_sound c.grammar.result.now (subst IsSound (sym c.grammar.ensures.grammar) c.grammar.ensures.sound)

pub returns : goal.returns
returns c =
    let g = c.args.grammar.now in
    let l = c.args.lexicon.now in
    let t = c.args.tokens.now in
    let read = c.as_slice-3.ensures.value ∙ c.in_ok-readings.ensures ∙ ap (map (readings_of l.live)) c.as_slice.ensures in
    let e : record { grammar = c.grammar.result.now; tokens = c.as_slice-2.result.now; readings = c.as_slice-3.result.now } ≡ setting_of g l t =
    ap (λ x. record { grammar = x; tokens = c.as_slice-2.result.now; readings = c.as_slice-3.result.now }) c.grammar.ensures.grammar
    ∙ ap (λ x. record { grammar = g; tokens = x; readings = c.as_slice-3.result.now }) c.as_slice-2.ensures
    ∙ ap (λ x. record { grammar = g; tokens = t; readings = x }) read in
    subst (λ s. IfOk c.is_derivation.result (λ yes. IsTrue yes ↔ IsDerivation s (node_of c.args.tree.now))) e c.is_derivation.ensures
