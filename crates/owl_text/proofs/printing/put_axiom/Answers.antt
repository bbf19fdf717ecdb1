use Rattle.std.proofs.Common.{◌≡◌, ◌++◌, OnOk, sym, ap, subst}
use Rattle.logic_terms.specs.Shown.{claim_of}
use Rattle.owl_text.specs.Texts.{claim_text}
use Rattle.owl_text.proofs.printing.put_axiom.Goals as goal

pub returns-in-SubClass : goal.returns-in-SubClass
returns-in-SubClass g c =
    subst (λ text. OnOk c.put_subclass.result (c.put_subclass.new.out ≡ c.args.out.now ++ text))
    (sym (ap (claim_text (g.L.Spelled.canonical_form c.args.lexicon.now)) (ap claim_of c.in-SubClass.is))) c.put_subclass.ensures

pub returns-in-SubRole : goal.returns-in-SubRole
returns-in-SubRole g c =
    subst (λ text. OnOk c.put_subrole.result (c.put_subrole.new.out ≡ c.args.out.now ++ text))
    (sym (ap (claim_text (g.L.Spelled.canonical_form c.args.lexicon.now)) (ap claim_of c.in-SubRole.is))) c.put_subrole.ensures

pub returns-in-Member : goal.returns-in-Member
returns-in-Member g c =
    subst (λ text. OnOk c.put_member.result (c.put_member.new.out ≡ c.args.out.now ++ text))
    (sym (ap (claim_text (g.L.Spelled.canonical_form c.args.lexicon.now)) (ap claim_of c.in-Member.is))) c.put_member.ensures

pub returns-in-NotRelated : goal.returns-in-NotRelated
returns-in-NotRelated g c =
    subst (λ text. OnOk c.put_related-in-NotRelated.result (c.put_related-in-NotRelated.new.out ≡ c.args.out.now ++ text))
    (sym (ap (claim_text (g.L.Spelled.canonical_form c.args.lexicon.now)) (ap claim_of c.in-NotRelated.is))) c.put_related-in-NotRelated.ensures
