-- The sentence of an axiom: its first word, and that its text is cut into its tokens again.
use Rattle.std.proofs.Common.{◌≡◌, ℕ, zero, suc, ◌<◌, ◌≤◌, Bool, true, false, cond, ◌||◌, inl, inr, List, [], ◌∷◌, length, Option, Some, None, find, option_map, refl, sym, ap, subst, ◌∙◌, arith}
use Rattle.std.specs.Prelude.{is_some, slice_get}
use Rattle.std.specs.Option.{option_or, option_and_then}
use Rattle.std.specs.List.{All, list_any}
use Rattle.std.specs.Str.{bytes_eq}
use Rattle.std.proofs.lemmas.Bool.{false≢true}
use Rattle.std.proofs.lemmas.List.Elements.{All-head, All-tail, All-weaker}
use Rattle.std.proofs.lemmas.Option.{none-some, same_Some}
use Rattle.std.proofs.lemmas.Slice.Eq.{bytes_eq-Decides}
use Rattle.wiki_base.specs.declared.numbers.WordId.{WordId}
use Rattle.wiki_base.specs.declared.tokens.TheConstants.{MOST_TOKENS}
use Rattle.wiki_base.specs.Text.{IsText}
use Rattle.lexicon.specs.declared.kinds.Kind.{Kind}
use Rattle.lexicon.specs.declared.kinds.Kind.TheVariants.{Name, Noun, Of, Verb, Adjective}
use Rattle.lexicon.specs.declared.kinds.Forms.{Forms}
use Rattle.lexicon.specs.declared.words.Word.{Word}
use Rattle.lexicon.specs.Kinds.{form_count, canonical_place, IsComplete}
use Rattle.lexicon.specs.Terminals.{raised, is_spelling_of, is_reserved}
use Rattle.lexicon.specs.Words.{Listed, is_among, has_form, has_number, owner, forms_of, canonical_form_of, HasNoTerminal, IsLexicon}
use Rattle.lexicon.proofs.Owners.{owner_lives}
use Rattle.derivations.proofs.CutLemmas.{Passing, any_passes, passes_any}
use Rattle.derivation_trees.specs.Cutting.{is_terminal, IsNotRaised, FirstIsNotRaised, IsWord, AreWords}
use Rattle.ace_grammar.specs.Names.{terminal_texts}
use Rattle.owl_import.specs.Sentences.{word_named, first_word}
use Rattle.owl_import.proofs.SaidLemmas.{is_owned, IsKnown, Told}
use Rattle.owl_import.proofs.TerminalLemmas.{terminal_not_raised}

-- ---- the first word

slice_there : (xs : List (List ℕ)) (k : ℕ) → k < length xs → is_some (slice_get xs k) ≡ true
slice_there [] k never = absurd (omega arith)
slice_there (x ∷ xs) zero within = refl
slice_there (x ∷ xs) (suc k) within = slice_there xs k (omega arith)

canonical_within : (kind : Kind) → canonical_place kind < form_count kind
canonical_within Name = omega arith
canonical_within Noun = omega arith
canonical_within Of = omega arith
canonical_within Verb = omega arith
canonical_within Adjective = omega arith

canonical_there : (forms : Forms) → IsComplete forms → is_some (slice_get forms.texts (canonical_place forms.kind)) ≡ true
canonical_there forms complete =
    slice_there forms.texts (canonical_place forms.kind) (subst (λ (n : ℕ). canonical_place forms.kind < n) (sym complete) (canonical_within forms.kind))

-- the forms of a live word are complete
forms_complete : (live : List Word) → All (λ (word : Word). IsComplete word.forms) live → (id : WordId) (forms : Forms)
    → forms_of live id ≡ Some forms → IsComplete forms
forms_complete [] all id forms never = absurd (none-some forms never)
forms_complete (word ∷ live) all id forms is =
    by (has_number id word) is (forms_complete live (All-tail (λ (w : Word). IsComplete w.forms) word live all) id forms)
  where
    own : IsComplete word.forms
    own = All-head (λ (w : Word). IsComplete w.forms) word live all

    by : (numbered : Bool) → option_map (λ (w : Word). w.forms) (cond numbered (Some word) (find (has_number id) live)) ≡ Some forms
        → (forms_of live id ≡ Some forms → IsComplete forms) → IsComplete forms
    by true is later = subst IsComplete (same_Some word.forms forms is) own
    by false is later = later is

-- a live word has a form that names it
word_there : (live : List Word) → All (λ (word : Word). IsComplete word.forms) live → (token : List ℕ) → is_owned live token ≡ true
    → is_some (word_named live token) ≡ true
word_there live all token owned = by (owner live token) refl owned
  where
    named : (id : WordId) (found : Option Forms) → forms_of live id ≡ found → is_some found ≡ true
        → is_some (option_and_then (λ (forms : Forms). slice_get forms.texts (canonical_place forms.kind)) found) ≡ true
    named id None is never = absurd (false≢true never)
    named id (Some forms) is lives = canonical_there forms (forms_complete live all id forms is)

    by : (found : Option WordId) → owner live token ≡ found → is_some found ≡ true → is_some (option_and_then (canonical_form_of live) found) ≡ true
    by None is never = absurd (false≢true never)
    by (Some id) is lives = named id (forms_of live id) refl (owner_lives live token id is)

pub first_word_there : (live : List Word) → All (λ (word : Word). IsComplete word.forms) live → (tokens : List (List ℕ))
    → list_any (is_owned live) tokens ≡ true → is_some (first_word live tokens) ≡ true
first_word_there live all [] never = absurd (false≢true never)
first_word_there live all (token ∷ tokens) some =
    by (is_owned live token) refl some (first_word_there live all tokens)
  where
    first : (found next : Option (List ℕ)) → is_some found ≡ true → is_some (option_or found next) ≡ true
    first (Some form) next is = refl
    first None next never = absurd (false≢true never)

    either : (found next : Option (List ℕ)) → is_some next ≡ true → is_some (option_or found next) ≡ true
    either (Some form) next is = refl
    either None next is = is

    by : (owned : Bool) → is_owned live token ≡ owned → (owned || list_any (is_owned live) tokens) ≡ true
        → (list_any (is_owned live) tokens ≡ true → is_some (first_word live tokens) ≡ true)
        → is_some (option_or (word_named live token) (first_word live tokens)) ≡ true
    by true is some later = first (word_named live token) (first_word live tokens) (word_there live all token is)
    by false is some later = either (word_named live token) (first_word live tokens) (later some)

-- ---- tokens that are cut again

among_text : (texts : List (List ℕ)) → All IsText texts → (text : List ℕ) → is_among texts text ≡ true → IsText text
among_text [] all text never = absurd (false≢true never)
among_text (first ∷ texts) all text some = by (bytes_eq text first) refl some (among_text texts (All-tail IsText first texts all) text)
  where
    own : IsText first
    own = All-head IsText first texts all

    by : (same : Bool) → bytes_eq text first ≡ same → (same || is_among texts text) ≡ true → (is_among texts text ≡ true → IsText text) → IsText text
    by true is some later = subst IsText (sym ((bytes_eq-Decides text first).0 is)) own
    by false is some later = later some

-- what holds of each live word holds of the one that has a form
owned_by : (P : Word → Type 0) (live : List Word) → All P live → (token : List ℕ) → is_owned live token ≡ true
    → (word : Word) × (has_form token word ≡ true) × P word
owned_by P [] all token never = absurd (false≢true never)
owned_by P (word ∷ live) all token owned = by (has_form token word) refl owned (owned_by P live (All-tail P word live all) token)
  where
    own : P word
    own = All-head P word live all

    by : (here : Bool) → has_form token word ≡ here
        → is_some (option_map (λ (w : Word). w.id) (cond here (Some word) (find (has_form token) live))) ≡ true
        → (is_owned live token ≡ true → (other : Word) × (has_form token other ≡ true) × P other) → (other : Word) × (has_form token other ≡ true) × P other
    by true is owned later = (word, is, own)
    by false is owned later = later owned

module _ (words : Listed) (lexicon : IsLexicon words) (same : words.terminals ≡ terminal_texts) where
  known_word : (token : List ℕ) → IsKnown words.live token → IsWord terminal_texts token
  known_word token (inl terminal) = inl terminal
  known_word token (inr owned) =
      let it = owned_by (λ (word : Word). All IsText word.forms.texts) words.live lexicon.spelled token owned in
      inr (among_text it.0.forms.texts it.2 token it.1)

  reserved_by : (terminal token : List ℕ) → is_terminal terminal_texts terminal ≡ true → token ≡ raised terminal → is_reserved terminal_texts token ≡ true
  reserved_by terminal token is raises =
      let one : Passing (bytes_eq terminal) terminal_texts = any_passes (bytes_eq terminal) terminal_texts is in
      let equal : terminal ≡ one.one = (bytes_eq-Decides terminal one.one).0 one.passes in
      passes_any (is_spelling_of token) terminal_texts one.one one.among (right (bytes_eq token one.one) (bytes_eq token (raised one.one))
      ((bytes_eq-Decides token (raised one.one)).1 (raises ∙ ap raised equal)))
    where
      right : (a b : Bool) → b ≡ true → (a || b) ≡ true
      right true b is = refl
      right false b is = is

  known_not_raised : (token : List ℕ) → IsKnown words.live token → IsNotRaised terminal_texts token
  known_not_raised token (inl terminal) = terminal_not_raised token terminal
  known_not_raised token (inr owned) = λ terminal is raises.
      let it = owned_by (HasNoTerminal words.terminals) words.live lexicon.unreserved token owned in
      let free : is_reserved words.terminals token ≡ false = it.2 token it.1 in
      absurd (false≢true (sym free ∙ ap (λ (ts : List (List ℕ)). is_reserved ts token) same ∙ reserved_by terminal token is raises))

  first_not_raised : (tokens : List (List ℕ)) → All (IsKnown words.live) tokens → FirstIsNotRaised terminal_texts tokens
  first_not_raised [] known = tt
  first_not_raised (token ∷ tokens) known = known_not_raised token (All-head (IsKnown words.live) token tokens known)

  -- known tokens are words, as what shows them is cut into them again
  pub told_words : (tokens : List (List ℕ)) → length tokens ≤ MOST_TOKENS → Told words.live tokens → AreWords terminal_texts tokens
  told_words tokens few told =
      (few, All-weaker (IsKnown words.live) (IsWord terminal_texts) known_word tokens told.known, first_not_raised tokens told.known)

  -- the sentence of an axiom has a first word
  pub told_first : (tokens : List (List ℕ)) → Told words.live tokens → is_some (first_word words.live tokens) ≡ true
  told_first tokens told = first_word_there words.live lexicon.complete tokens told.owned
