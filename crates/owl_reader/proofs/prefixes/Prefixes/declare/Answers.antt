use Rattle.std.proofs.Common.{◌≡◌, map, ap, ◌∙◌}
use Rattle.owl_reader.specs.Names.{Declared, declare}
use Rattle.owl_reader.proofs.Tables.{declared_entry}
use Rattle.owl_reader.proofs.prefixes.Prefixes.declare.Goals as goal

pub returns : goal.returns
returns c =
    let set : map (λ e. (e.0.items, e.1.items)) c.insert.new.self.entries ≡ declare c.args.self.now c.in_ok-prefix.prefix.items c.in_ok-iri.iri.items =
    ap (map (λ e. (e.0.items, e.1.items))) c.in_ok-insert.ensures.entries
    ∙ declared_entry (λ v. v.items) (λ v. v.items) c.self.inside.declared.entries c.in_ok-prefix.prefix c.in_ok-iri.iri
    ∙ ap (λ (ds : Declared). declare ds c.in_ok-prefix.prefix.items c.in_ok-iri.iri.items) c.self.view_is in
    set ∙ (λ i. declare c.args.self.now (c.in_ok-prefix.ensures.items i) (c.in_ok-iri.ensures.items i))
