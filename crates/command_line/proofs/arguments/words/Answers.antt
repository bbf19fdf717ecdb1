use Rattle.std.proofs.Common.{◌≡◌, ℕ, ◌+◌, List, [], ◌∷◌, ◌++◌, take, Option, Some, None, IfSome, sym, ap, ◌∙◌}
use Rattle.std.specs.List.{slice_get}
use Rattle.std.proofs.lemmas.List.{take_more}
use Rattle.std.proofs.lemmas.Option.{slice_get_within, get_or_from_slice_get}
use Rattle.command_line.proofs.arguments.words.Goals as goal

-- one more word
words_more : (line : Option (List (List ℕ))) (words new : List (List ℕ)) (place : ℕ) (word : List ℕ) (got : Option (List ℕ))
    → IfSome line (λ told. words ≡ take place told) → IfSome line (λ told. got ≡ slice_get told place) → got ≡ Some word → new ≡ words ++ word ∷ []
    → IfSome line (λ told. new ≡ take (place + 1) told)
words_more None words new place word got so_far next is pushed = tt
words_more (Some told) words new place word got so_far next is pushed =
    let at = sym next ∙ is in
    pushed ∙ ap (λ (xs : List (List ℕ)). xs ++ word ∷ []) so_far
    ∙ sym (take_more told place word (slice_get_within told place word at)
    ∙ ap (λ (y : List ℕ). take place told ++ y ∷ []) (get_or_from_slice_get told place word word at))

pub loop-place-preserved : goal.loop-place-preserved
loop-place-preserved g c =
    words_more (g.C.CommandLine.words c.args.line.now) c.loop-place.words.items c.push.new.self.items c.loop-place.place c.in-Some.word c.in_ok-word.field-0
    c.loop-place.invariant c.in_ok-word.ensures c.in-Some.is c.in_ok-push-in-Some.ensures.items
