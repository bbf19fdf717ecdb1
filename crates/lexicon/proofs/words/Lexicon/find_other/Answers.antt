use Rattle.std.proofs.Common.{Some, None, sym, ap, ◌∙◌, cond}
use Rattle.lexicon.proofs.Others.{owner-others, other_than}
use Rattle.lexicon.proofs.words.Lexicon.find_other.Goals as goal

-- the owner among the others is the owner, if that is another word
pub returns-in_err-owner : goal.returns-in_err-owner
returns-in_err-owner c = c.from_residual.ensures
    ∙ sym (owner-others c.args.self.now.live c.in_err-owner.ensures.lexicon.apart c.args.id c.args.form.now
    ∙ ap (other_than c.args.id) (sym c.in_err-owner.ensures.owner))

pub returns-then-eq : goal.returns-then-eq
returns-then-eq c = sym (owner-others c.args.self.now.live c.in_ok-owner.ensures.lexicon.apart c.args.id c.args.form.now
    ∙ ap (other_than c.args.id) (sym c.in_ok-owner.ensures.owner) ∙ ap (λ b. cond b None (Some c.in_ok-owner.owner)) (sym c.if-eq.ensures))

pub returns-else-eq : goal.returns-else-eq
returns-else-eq c = sym (owner-others c.args.self.now.live c.in_ok-owner.ensures.lexicon.apart c.args.id c.args.form.now
    ∙ ap (other_than c.args.id) (sym c.in_ok-owner.ensures.owner) ∙ ap (λ b. cond b None (Some c.in_ok-owner.owner)) (sym c.if-eq.ensures))
