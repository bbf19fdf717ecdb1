use Rattle.std.proofs.Common.{◌≡◌, ℕ, List, ltb, length, map, ap, ◌∙◌, arith}
use Rattle.std.proofs.lemmas.List.{length-map}
use Rattle.codeco_text.specs.Names.{is_among}
use Rattle.codeco_numbering.specs.Numbered.{number_of, NamedFeature}
use Rattle.codeco_numbering.proofs.Declaring.{among_number}
use Rattle.codeco_numbering.proofs.features.FeatureTable.has.Goals as goal

pub returns : goal.returns
returns c =
    let list : List NamedFeature = c.self.inside.list.items in
    let names : List (List ℕ) = map (λ f. f.name) list in
    let w = c.args.name.now in
    let number : c.number_of.result ≡ number_of names w = c.number_of.ensures.number ∙ ap (λ (ns : List (List ℕ)). number_of ns w) c.self.invariant in
    let len : c.len.result ≡ length names = omega (arith, c.len.ensures, length-map list (λ (f : NamedFeature). f.name)) in
    (λ i. ltb (number i) (len i)) ∙ among_number names w ∙ ap (λ (fs : List NamedFeature). is_among (map (λ f. f.name) fs) w) c.self.view_is
