use Rattle.std.proofs.Common.{◌≡◌, ◌++◌, take}
use Rattle.std.specs.List.{flat_map}
use Rattle.std.specs.String.{string_bytes}
use Rattle.pages.specs.Pages.{sentence_item}
use Rattle.pages.proofs.article.push_sentences.Given as goal

abbrev pub invariant-loop-sentence : goal.invariant-loop-sentence
invariant-loop-sentence l = string_bytes l.page ≡ string_bytes l.fn.page ++ flat_map sentence_item (take l.sentence-index l.sentences)
