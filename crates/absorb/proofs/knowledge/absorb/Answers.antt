use Rattle.std.proofs.Common.{◌≡◌, ◌&&◌, ap, ◌∙◌}
use Rattle.std.specs.List.{list_all}
use Rattle.wiki_base.specs.declared.numbers.WordId.{WordId}
use Rattle.logic_terms.specs.Shown.{claims_of}
use Rattle.logic_terms.specs.Known.{theory_of}
use Rattle.absorb.specs.Mentioned.{is_among}
use Rattle.absorb.proofs.AbsorbedLemmas.{equalities_over, absorbed_from, lawful, plain_theory, model_of, model_from}
use Rattle.absorb.proofs.knowledge.absorb.Goals as goal

pub representatives-requires : goal.representatives-requires
representatives-requires c =
    ap (list_all (λ (e : WordId × WordId). is_among c.args.names.now e.0 && is_among c.args.names.now e.1))
    (c.as_slice.ensures.value ∙ ap (λ s. s.equalities) c.in_ok-pieces.ensures)
    ∙ equalities_over c.args.names.now (claims_of c.args.axioms.now) c.requires

pub returns-clause-exact : goal.returns-clause-exact
returns-clause-exact c =
    absorbed_from (claims_of c.args.axioms.now) c.args.names.now (theory_of c.new.result) c.in_ok-given.given.items c.as_slice.result.now
    c.in_ok-roles.roles.items c.as_slice-2.result.now c.in_ok-transitive.transitive.items c.as_slice-3.result.now
    (c.as_slice.ensures.value ∙ ap (λ s. s.equalities) c.in_ok-pieces.ensures)
    (c.as_slice-2.ensures.value ∙ ap (λ s. s.role_inclusions) c.in_ok-pieces.ensures)
    c.new.ensures.names c.new.ensures.hierarchy
    (c.as_slice-3.ensures.value ∙ ap (λ s. s.transitive) c.in_ok-pieces.ensures) c.new.ensures.transitive c.in_ok-transitive.ensures.rising
    c.in_ok-transitive.ensures.same c.in_ok-given.ensures.given c.in_ok-given.ensures.least c.in_ok-roles.ensures.closed
    c.in_ok-roles.ensures.distinct
    (c.new.ensures.assertions ∙ ap (λ s. s.assertions) c.in_ok-pieces.ensures)
    (c.new.ensures.edges ∙ ap (λ s. s.edges) c.in_ok-pieces.ensures)
    (c.new.ensures.differences ∙ ap (λ s. s.differences) c.in_ok-pieces.ensures)
    (c.new.ensures.unfoldings ∙ ap (λ s. s.unfoldings) c.in_ok-pieces.ensures)
    (c.new.ensures.general ∙ ap (λ s. s.general) c.in_ok-pieces.ensures)

pub returns-clause-lawful : goal.returns-clause-lawful
returns-clause-lawful c =
    lawful (claims_of c.args.axioms.now) c.args.names.now (theory_of c.new.result) (returns-clause-exact c) c.requires c.in_ok-given.ensures.rising

pub returns-clause-plain : goal.returns-clause-plain
returns-clause-plain c h = plain_theory (claims_of c.args.axioms.now) c.args.names.now (theory_of c.new.result) (returns-clause-exact c) c.requires h

pub returns-clause-models : goal.returns-clause-models
returns-clause-models c i = (
  λ m. model_from (claims_of c.args.axioms.now) c.args.names.now (theory_of c.new.result) (returns-clause-exact c) c.requires i m,
  λ m. model_of (claims_of c.args.axioms.now) c.args.names.now (theory_of c.new.result) (returns-clause-exact c) c.requires i m,
)
