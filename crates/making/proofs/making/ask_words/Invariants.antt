use Rattle.std.proofs.Common.{◌-◌, map}
use Rattle.std.specs.List.{range_with_len}
use Rattle.generator.specs.Requests.{word_request, word_requests}
use Rattle.making.proofs.MakingLemmas.{Leads}
use Rattle.making.proofs.making.ask_words.Given as goal

-- what is left to ask decides
abbrev pub invariant-loop-number : goal.invariant-loop-number
invariant-loop-number g l = Leads g.W.Machine.Steps l.fn.machine word_requests l.fn.before l.machine
    (map word_request (range_with_len l.number (50 - l.number))) l.summary
