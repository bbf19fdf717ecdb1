use Rattle.std.proofs.Common.{◌≡◌, Some, ap, ◌∙◌}
use Rattle.std.specs.Option.{option_map}
use Rattle.owl_reader.specs.Names.{Declared, iri_of}
use Rattle.owl_reader.proofs.Tables.{iri_found}
use Rattle.owl_reader.proofs.prefixes.Prefixes.iri_of.Goals as goal

pub returns-in-Some : goal.returns-in-Some
returns-in-Some c =
    ap Some c.as_slice.ensures.value
    ∙ ap (option_map (λ v. v.items)) c.in-Some.ensures.value
    ∙ iri_found (λ v. v.items) (λ v. v.items) c.self.inside.declared.entries c.args.prefix.now
    ∙ ap (λ (ds : Declared). iri_of ds c.args.prefix.now) c.self.view_is

pub returns-in-None : goal.returns-in-None
returns-in-None c =
    ap (option_map (λ v. v.items)) c.in-None.ensures.value
    ∙ iri_found (λ v. v.items) (λ v. v.items) c.self.inside.declared.entries c.args.prefix.now
    ∙ ap (λ (ds : Declared). iri_of ds c.args.prefix.now) c.self.view_is
