use Rattle.std.proofs.Common.{◌≡◌, ℕ, ◌+◌, [], ◌∷◌, ◌++◌, List, cond, length, drop, sym, ap, ◌∙◌, arith, length-append}
use Rattle.std.specs.Str.{bytes_eq}
use Rattle.lexicon.specs.Readings.{reading, readings_from, readings_of_word}
use Rattle.lexicon.proofs.Reading.{form_count_le, readings_from-drop, reading_taken}
use Rattle.lexicon.proofs.readings.readings_of_word.Goals as goal
use Rattle.lexicon.proofs.readings.readings_of_word.Goals.{then-eq, else-eq}

-- there are as many forms as the kind has, and no more readings so far than forms so far
pub push-requires : goal.push-requires
push-requires c = omega (
  arith,
  c.loop-place.invariant.0,
  c.loop-place-test.true,
  form_count_le c.args.word.now.forms.kind,
  c.requires,
  ap (length {A = List ℕ}) c.as_slice-form-items.ensures,
)

-- the form at the place gives its reading, or none
pub loop-place-preserved : goal.loop-place-preserved
loop-place-preserved c =
    let word = c.args.word.now in
    let token = c.args.token.now in
    let items = c.as_slice-form-items.result.now in
    let i = c.loop-place.place in
    let rest = readings_from word.forms.kind word.id token (i + 1) (drop (i + 1) items) in
    let step = readings_from-drop word.forms.kind word.id token items i c.form-item.result c.loop-place-test.true c.form-item.is in
    let test : c.eq.result ≡ bytes_eq token c.form-item.result = c.eq.ensures ∙ ap (bytes_eq token) c.as_str.ensures.value in
    elim c.if-eq.branch [
      | then-eq w ↦
          let here : readings_from word.forms.kind word.id token i (drop i items) ≡ reading word.forms.kind word.id i c.form-item.result ∷ rest =
          step ∙ ap (λ b. cond b (reading word.forms.kind word.id i c.form-item.result ∷ rest) rest) (sym test ∙ w.if-eq.true) in
          let taken : w.reading.result ≡ reading word.forms.kind word.id i c.form-item.result =
          w.reading.ensures ∙ ap (reading word.forms.kind word.id i) w.as_str-then-eq.ensures.value in
          let now : c.if-eq.readings ≡ c.loop-place.readings ++ reading word.forms.kind word.id i c.form-item.result ∷ [] =
          w.readings-is ∙ w.push.ensures ∙ ap (λ r. c.loop-place.readings ++ r ∷ []) taken in
          rw now (
            omega (arith, c.loop-place.invariant.0, length-append c.loop-place.readings (reading word.forms.kind word.id i c.form-item.result ∷ [])),
            reading_taken c.loop-place.readings rest (readings_from word.forms.kind word.id token i (drop i items)) (readings_of_word token word)
                (reading word.forms.kind word.id i c.form-item.result) here c.loop-place.invariant.1,
          )
      | else-eq w ↦
          let here : readings_from word.forms.kind word.id token i (drop i items) ≡ rest =
          step ∙ ap (λ b. cond b (reading word.forms.kind word.id i c.form-item.result ∷ rest) rest) (sym test ∙ w.if-eq.false) in
          rw w.readings-is (omega (arith, c.loop-place.invariant.0), ap (λ gs. c.loop-place.readings ++ gs) (sym here) ∙ c.loop-place.invariant.1)
    ]
