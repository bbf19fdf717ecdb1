use Rattle.std.proofs.Common.{◌≡◌, ℕ, ◌+◌, List, map, Ok, Err, refl, ap, ◌∙◌}
use Rattle.std.specs.Prelude.{Result, OnOk}
use Rattle.std.proofs.lemmas.Result.{IfOk-weaker}
use Rattle.wiki_base.specs.declared.numbers.WordId.{WordId}
use Rattle.owl_reader.specs.declared.kinds.Entity.{Entity}
use Rattle.owl_reader.specs.declared.kinds.EntityKind.{EntityKind}
use Rattle.owl_reader.specs.declared.kinds.EntityKind.TheVariants as kind
use Rattle.owl_reader.specs.declared.entities.Key.{Key}
use Rattle.owl_reader.specs.contracts.entities.KeyPartialEq.TheImpl.{eq-value}
use Rattle.owl_reader.specs.Grammar.{same_bytes}
use Rattle.owl_reader.specs.Names.{same_entity, entered, place_of}
use Rattle.owl_reader.proofs.Tables.{pointwise_same, key_entered, place_entered}
use Rattle.owl_reader.proofs.entities.EntityTable.number.Goals as goal

abbrev shown : Key → Entity
shown k = record { kind = k.kind; iri = k.iri.items }

same : (x y : Key) → eq-value.it x y ≡ same_entity (shown x) (shown y)
same x y = by x.kind y.kind
  where
    by : (k l : EntityKind) → eq-value.it (record { kind = k; iri = x.iri }) (record { kind = l; iri = y.iri })
        ≡ same_entity (record { kind = k; iri = x.iri.items }) (record { kind = l; iri = y.iri.items })
    by kind.Class kind.Class = pointwise_same x.iri.items y.iri.items
    by kind.Class kind.Property = refl
    by kind.Class kind.Individual = refl
    by kind.Property kind.Class = refl
    by kind.Property kind.Property = pointwise_same x.iri.items y.iri.items
    by kind.Property kind.Individual = refl
    by kind.Individual kind.Class = refl
    by kind.Individual kind.Property = refl
    by kind.Individual kind.Individual = pointwise_same x.iri.items y.iri.items

on_ok_all : {T E Q : Type 0} (r : Result T E) → Q → OnOk r Q
on_ok_all (Ok x) q = q
on_ok_all (Err e) q = tt

pub returns-clause-number : goal.returns-clause-number
returns-clause-number c =
    let key : Key = record { kind = c.args.kind; iri = c.args.iri } in
    let place : c.in_ok-place.place ≡ place_of c.args.self.now (shown key) =
    c.in_ok-place.ensures.index
    ∙ place_entered shown eq-value.it same key c.self.inside.set.keys
    ∙ ap (λ (es : List Entity). place_of es (shown key)) c.self.view_is in
    IfOk-weaker c.word_at.result _ _ (λ word is. is ∙ ap (λ (n : ℕ). record { 0 = n + 1 }) place) c.word_at.ensures

pub returns-clause-entered : goal.returns-clause-entered
returns-clause-entered c =
    let key : Key = record { kind = c.args.kind; iri = c.args.iri } in
    on_ok_all c.word_at.result
    (ap (map shown) c.in_ok-place.ensures.keys
    ∙ key_entered shown eq-value.it same key c.self.inside.set.keys
    ∙ ap (λ (es : List Entity). entered es (shown key)) c.self.view_is)
