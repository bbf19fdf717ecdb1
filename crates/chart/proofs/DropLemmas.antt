-- What a chart keeps when its last token is dropped.
use Rattle.std.proofs.Common.{◌≡◌, ℕ, ◌-◌, ◌<◌, List, [], Bool, true, false, length, take, refl, ap, ◌∙◌}
use Rattle.std.proofs.lemmas.List.{take-map}
use Rattle.codeco_terms.specs.GrammarParts.{GrammarParts}
use Rattle.lexicon.specs.Words.{Listed}
use Rattle.lexicon.specs.Readings.{readings_of}
use Rattle.derivation_trees.specs.Settings.{Setting}
use Rattle.derivation_trees.specs.Sentences.{setting_of}
use Rattle.chart.specs.Charts.{first_of}
use Rattle.chart.proofs.ChartLemmas.{kept_on}

-- the first of the tokens, by the grammar and the lexicon
pub first_set : (g : GrammarParts) (l : Listed) (tokens : List (List ℕ)) (n : ℕ) → first_of (setting_of g l tokens) n ≡ setting_of g l (take n tokens)
first_set g l tokens n = ap (λ r. record { grammar = g; tokens = take n tokens; readings = r }) (take-map (readings_of l.live) n tokens)

-- the tokens that are left are read by the same lexicon
pub dropped_kept : (g : GrammarParts) (l : Listed) (old new : Setting) (dropped : Bool) → old ≡ setting_of g l old.tokens
    → (dropped ≡ false → (old.tokens ≡ []) × (new ≡ old)) → (dropped ≡ true → (0 < length old.tokens) × (new ≡ first_of old (length old.tokens - 1)))
    → new ≡ setting_of g l new.tokens
dropped_kept g l old new false kept none last =
    let same = (none refl).1 in
    kept_on g (readings_of l.live) new old.tokens (same ∙ kept)
dropped_kept g l old new true kept none last =
    let n = length old.tokens - 1 in
    kept_on g (readings_of l.live) new (take n old.tokens) ((last refl).1 ∙ ap (λ s. first_of s n) kept ∙ first_set g l old.tokens n)
