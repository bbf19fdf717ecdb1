use Rattle.std.proofs.Common.{◌≡◌, ap, ◌∙◌}
use Rattle.std.specs.Prelude.{codes}
use Rattle.owl_reader.specs.Names.{Declared, declare, first_prefixes}
use Rattle.owl_reader.proofs.prefixes.Prefixes.new.Goals as goal

pub returns : goal.returns
unfolding first_prefixes
returns c =
    let owl = λ (ds : Declared). declare ds (codes "owl") (codes "http://www.w3.org/2002/07/owl#") in
    let rdf = λ (ds : Declared). declare ds (codes "rdf") (codes "http://www.w3.org/1999/02/22-rdf-syntax-ns#") in
    let rdfs = λ (ds : Declared). declare ds (codes "rdfs") (codes "http://www.w3.org/2000/01/rdf-schema#") in
    let xsd = λ (ds : Declared). declare ds (codes "xsd") (codes "http://www.w3.org/2001/XMLSchema#") in
    c.in_ok-declare-4.ensures
    ∙ ap xsd (c.in_ok-declare-3.ensures ∙ ap rdfs (c.in_ok-declare-2.ensures ∙ ap rdf (c.in_ok-declare.ensures ∙ ap owl c.empty-made.ensures)))
