use Rattle.std.proofs.Common.{◌≡◌, IsTrue, length}
use Rattle.std.specs.List.{list_all}
use Rattle.wiki_io.specs.MemoryLink.{coming, is_whole}
use Rattle.wiki_io.proofs.memory_link.skip.Given as goal

abbrev pub invariant-loop-event : goal.invariant-loop-event
invariant-loop-event l = record {
  left_decides : coming l.connections l.script.items ≡ coming l.connections l.initial.script.items;
  whole : IsTrue (list_all is_whole l.script.items);
}

abbrev pub decreases-loop-event : goal.decreases-loop-event
decreases-loop-event l = length l.script.items
