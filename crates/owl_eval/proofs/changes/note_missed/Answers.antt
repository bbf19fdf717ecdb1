use Rattle.std.proofs.Common.{◌≡◌, ◌+◌, ◌++◌, ◌∷◌, [], take, subst, sym, ap, ◌∙◌, arith}
use Rattle.std.proofs.lemmas.List.{take_all}
use Rattle.owl_eval.specs.Changes.{words_of, GiveSame, IsPartOf}
use Rattle.owl_eval.proofs.Changed.{AreNoted, part_push, noted_same, noted_push, same_given}
use Rattle.owl_eval.proofs.changes.note_missed.Goals as goal
use Rattle.owl_eval.proofs.changes.note_missed.Goals.{then-not-are_same_at+in_ok-push, else-not-are_same_at}

pub loop-place-preserved : goal.loop-place-preserved
loop-place-preserved c =
    let words = words_of c.args.kind c.args.one.now in
    let Same = GiveSame c.args.kind c.args.one.now c.args.other.now in
    let k = c.loop-place.place in
    let word = c.word_at-word.result in
    let before = c.loop-place.changed.items in
    elim c.if-not-are_same_at.branch [
      | then-not-are_same_at+in_ok-push w ↦
          let is : c.if-not-are_same_at.changed.items ≡ before ++ word.0 ∷ [] = ap (λ v. v.items) w.changed-is ∙ w.in_ok-push.ensures.items in
          record {
            kept = subst (IsPartOf c.args.changed.now.items) (sym is) (λ v h. c.loop-place.invariant.kept v (part_push before word.0 v h));
            noted = subst (λ ns. AreNoted ns Same (take (k + 1) words)) (sym is)
                (noted_push before Same words k word c.word_at-word.ensures c.loop-place.invariant.noted);
          }
      | else-not-are_same_at w ↦
          let is : c.if-not-are_same_at.changed.items ≡ before = ap (λ v. v.items) w.changed-is in
          record {
            kept = subst (IsPartOf c.args.changed.now.items) (sym is) c.loop-place.invariant.kept;
            noted = subst (λ ns. AreNoted ns Same (take (k + 1) words)) (sym is)
                (noted_same before Same words k word c.word_at-word.ensures c.loop-place.invariant.noted
                (same_given c.args.kind c.args.one.now c.args.other.now c.requires.one c.requires.other k c.place_from-beside.result word c.word_at-word.ensures
                (c.are_same_at.ensures w.if-not-are_same_at.false)));
          }
    ]

pub returns-clause-noted : goal.returns-clause-noted
returns-clause-noted c =
    let words = words_of c.args.kind c.args.one.now in
    subst (AreNoted c.loop-place.changed.items (GiveSame c.args.kind c.args.one.now c.args.other.now)) (take_all c.loop-place.place words (omega arith))
    c.loop-place.invariant.noted
