use Rattle.std.proofs.Common.{take}
use Rattle.owl_eval.specs.Changes.{words_of, GiveSame, IsPartOf}
use Rattle.owl_eval.proofs.Changed.{AreNoted}
use Rattle.owl_eval.proofs.changes.note_missed.Given as goal

abbrev pub invariant-loop-place : goal.invariant-loop-place
invariant-loop-place l = record {
  kept : IsPartOf l.fn.changed.items l.changed.items;
  noted : AreNoted l.changed.items (GiveSame l.kind l.one l.other) (take l.place (words_of l.kind l.one));
}
