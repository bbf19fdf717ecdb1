use Rattle.std.proofs.Common.{◌≡◌, None, sym, subst, ◌∙◌}
use Rattle.lexicon.specs.Words.{Listed, next_word, forms_refusal, fullness}
use Rattle.lexicon.proofs.Adding.{lexicon_with_word, owner-push, new_forms}
use Rattle.lexicon.proofs.words.Lexicon.add.Goals as goal

-- the new word's forms are no other word's, so it is found at them, and the others where they were
pub invariant_of-self-2 : goal.invariant_of-self-2
invariant_of-self-2 c =
    let listed : Listed = record { live = c.self.inside.words.items; terminals = c.self.inside.terminals; last = c.self.inside.last } in
    let forms = c.args.forms.now in
    let free = subst (λ (l : Listed). forms_refusal l.live l.terminals forms ≡ None) (sym c.self.view_is) c.in_ok-refuse_new.ensures.free in
    let room = subst (λ (l : Listed). fullness l ≡ None) (sym c.self.view_is) c.in_ok-refuse_full.ensures.room in
    rw (c.push_reserved.ensures.items, c.reserve.ensures.items, c.in_ok-forms.ensures) (
      lexicon_with_word listed forms c.self.invariant.0 c.requires c.in_ok-keys.ensures.texts free room,
      λ text. c.enter.ensures text ∙ rw (c.in_ok-keys.ensures.keys, c.in_ok-make_room.ensures.same text, c.self.invariant.1 text)
          (sym (owner-push listed.live (next_word listed forms) (new_forms listed forms c.self.invariant.0 c.requires c.in_ok-keys.ensures.texts free room)
          text)),
    )
