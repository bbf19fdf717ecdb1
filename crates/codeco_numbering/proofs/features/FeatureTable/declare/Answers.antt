use Rattle.std.proofs.Common.{◌≡◌, ◌≤◌, ◌<◌, ℕ, List, true, length, map, set, sym, ap, subst, ◌∙◌, arith, Some}
use Rattle.std.proofs.lemmas.List.{length-map}
use Rattle.std.proofs.lemmas.Bool.{le-ltb}
use Rattle.std.proofs.lemmas.Result.{IfOk-weaker}
use Rattle.codeco_checked.specs.Numbering.{differ}
use Rattle.codeco_numbering.specs.Numbered.{number_of, NamedFeature, with_declaration}
use Rattle.codeco_numbering.proofs.Declaring.{among_number, declared_set, declared_names, declared_last}
use Rattle.codeco_numbering.proofs.features.FeatureTable.declare.Goals as goal

number : (names ns : List (List ℕ)) (w : List ℕ) (n : ℕ) → names ≡ ns → n ≡ number_of names w → n ≡ number_of ns w
number names ns w n e is = is ∙ ap (λ (l : List (List ℕ)). number_of l w) e

pub returns-then-place-len : goal.returns-then-place-len
returns-then-place-len c =
    let name = c.args.name.now in
    let d = c.args.domain.now in
    let list : List NamedFeature = c.self.inside.list.items in
    let names : List (List ℕ) = map (λ f. f.name) list in
    let once : differ (map (λ f. f.name) (with_declaration list name d)) ≡ true =
    subst (λ (fs : List NamedFeature). differ (map (λ f. f.name) (with_declaration fs name d)) ≡ true) (sym c.self.view_is) c.requires in
    let place : c.number_of-place.result ≡ number_of names name =
    number c.self.inside.names names name c.number_of-place.result c.self.invariant c.number_of-place.ensures.number in
    let lt : number_of names name < length list = omega (arith, place, c.if-place-len.true, c.len.ensures) in
    ap (λ k. set list k (record { name = name; domain = Some d })) place ∙ declared_set name d list once lt
    ∙ ap (λ (fs : List NamedFeature). with_declaration fs name d) c.self.view_is

pub invariant_of-result : goal.invariant_of-result
invariant_of-result c =
    let name = c.args.name.now in
    let d = c.args.domain.now in
    let list : List NamedFeature = c.self.inside.list.items in
    let names : List (List ℕ) = map (λ f. f.name) list in
    let once : differ (map (λ f. f.name) (with_declaration list name d)) ≡ true =
    subst (λ (fs : List NamedFeature). differ (map (λ f. f.name) (with_declaration fs name d)) ≡ true) (sym c.self.view_is) c.requires in
    let place : c.number_of-place.result ≡ number_of names name =
    number c.self.inside.names names name c.number_of-place.result c.self.invariant c.number_of-place.ensures.number in
    let lt : number_of names name < length list = omega (arith, place, c.if-place-len.true, c.len.ensures) in
    let done = ap (λ k. set list k (record { name = name; domain = Some d })) place ∙ declared_set name d list once lt in
    c.self.invariant ∙ sym (declared_names name d list once lt) ∙ ap (λ (fs : List NamedFeature). map (λ f. f.name) fs) (sym done)

pub with-requires : goal.with-requires
with-requires c =
    let name = c.args.name.now in
    let list : List NamedFeature = c.self.inside.list.items in
    let names : List (List ℕ) = map (λ f. f.name) list in
    let place : c.number_of-place.result ≡ number_of names name =
    number c.self.inside.names names name c.number_of-place.result c.self.invariant c.number_of-place.ensures.number in
    let ge : length names ≤ number_of names name = omega (arith, place, c.if-place-len.false, c.len.ensures, length-map list (λ (f : NamedFeature). f.name)) in
    sym (among_number names name) ∙ le-ltb (number_of names name) (length names) ge

pub returns-else-place-len : goal.returns-else-place-len
returns-else-place-len c =
    let name = c.args.name.now in
    let d = c.args.domain.now in
    let list : List NamedFeature = c.self.inside.list.items in
    let names : List (List ℕ) = map (λ f. f.name) list in
    let place : c.number_of-place.result ≡ number_of names name =
    number c.self.inside.names names name c.number_of-place.result c.self.invariant c.number_of-place.ensures.number in
    let ge : length list ≤ number_of names name = omega (arith, place, c.if-place-len.false, c.len.ensures) in
    IfOk-weaker c.with.result _ _ (λ table is. is ∙ declared_last name d list ge ∙ ap (λ (fs : List NamedFeature). with_declaration fs name d) c.self.view_is)
    c.with.ensures
