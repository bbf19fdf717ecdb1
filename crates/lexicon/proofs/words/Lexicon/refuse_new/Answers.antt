use Rattle.std.proofs.Common.{◌≡◌, List, None, OnOk, IfErr, subst}
use Rattle.lexicon.specs.declared.words.Word.{Word}
use Rattle.lexicon.specs.Words.{Listed, others, forms_refusal, IsRefusal}
use Rattle.lexicon.proofs.Others.{others_than_none}
use Rattle.lexicon.proofs.words.Lexicon.refuse_new.Goals as goal

-- no word has the number 0, so all words are others
pub returns : goal.returns
returns c =
    let all = subst (λ (listed : Listed). others listed.live (record { 0 = 0 }) ≡ listed.live) c.self.view_is
    (others_than_none c.self.inside.words.items c.self.inside.last c.self.invariant.0.given) in
    record {
      free = subst (λ (live : List Word). OnOk c.refuse.result (forms_refusal live c.args.self.now.terminals c.args.forms.now ≡ None)) all
          c.refuse.ensures.free;
      refused = subst (λ (live : List Word). IfErr c.refuse.result (IsRefusal (forms_refusal live c.args.self.now.terminals c.args.forms.now))) all
          c.refuse.ensures.refused;
    }
