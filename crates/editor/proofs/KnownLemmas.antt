-- Texts that are terminals or forms of live words.
use Rattle.std.proofs.Common.{◌≡◌, ℕ, List, [], ◌∷◌, ◌++◌, Bool, true, false, inl, inr, Option, Some, None, find, option_map, is_some, refl, sym, ap, subst, ◌∙◌, All, IsTrue, ◌↔◌}
use Rattle.std.specs.Prelude.{if◌then◌else◌}
use Rattle.std.specs.Str.{IsUtf8, bytes_eq}
use Rattle.std.proofs.lemmas.List.Elements.{All-contains}
use Rattle.std.proofs.lemmas.Slice.Eq.{bytes_eq-Decides}
use Rattle.wiki_base.specs.declared.numbers.WordId.{WordId}
use Rattle.wiki_base.specs.Text.{IsText}
use Rattle.wiki_base.specs.Token.{IsToken}
use Rattle.derivations.proofs.TypingLemmas.{form_of_group}
use Rattle.derivation_trees.proofs.TruthLemmas.{true_is_false}
use Rattle.codeco_text.specs.Names.{is_terminal as is_terminal_text}
use Rattle.codeco_terms.specs.GrammarParts.{GrammarParts}
use Rattle.codeco_checked.specs.Sound.{IsSound}
use Rattle.lexicon.specs.declared.words.Word.{Word}
use Rattle.lexicon.specs.Words.{Listed, has_form, owner, IsLexicon}
use Rattle.derivation_trees.specs.declared.menus.Group.{Group}
use Rattle.derivation_trees.specs.declared.menus.Group.TheVariants.{Function, Name, Noun, Of, Verb, Adjective}
use Rattle.derivation_trees.specs.Cutting.{is_terminal}
use Rattle.derivation_trees.specs.Menus.{group_of, IsFormIn, IsOfGroup}
use Rattle.derivations.proofs.Members.{Among, all_among}
use Rattle.derivations.proofs.CutLemmas.{Passing, any_passes}
use Rattle.derivations.proofs.EntryLemmas.{contains_among, among_contains}
use Rattle.derivations.proofs.TokenLemmas.{terminal_token, text_token}
use Rattle.derivation_trees.proofs.ReadingLemmas.{unread}
use Rattle.derivation_trees.specs.Partial.{IsBeginning}
use Rattle.lexicon.specs.Readings.{readings_of}
use Rattle.editor.proofs.ReadLemmas.{IsReadable, beginning_readable}

-- the text is a terminal or a form of a live word, of some group
abbrev pub IsKnown : GrammarParts → Listed → List ℕ → Type 0
IsKnown g l text = (group : Group) × IsOfGroup g l group text

-- a word that is found is one of the list, and passes
found_word : (p : Word → Bool) (live : List Word) (word : Word) → find p live ≡ Some word → Among live word × (p word ≡ true)
found_word p [] word h = cc
found_word p (w ∷ ws) word h = by (p w) refl h (found_word p ws word)
  where
    by : (b : Bool) → p w ≡ b → (if b then Some w else find p ws) ≡ Some word → (find p ws ≡ Some word → Among ws word × (p word ≡ true))
        → Among (w ∷ ws) word × (p word ≡ true)
    by true passes is later = let same : w ≡ word = cc in (inl (sym same), ap p (sym same) ∙ passes)
    by false fails is later = let rest = later is in (inr rest.0, rest.1)

-- where none is found, none passes
found_none : (p : Word → Bool) (live : List Word) (word : Word) → find p live ≡ None → Among live word → p word ≡ true → ⊥
found_none p [] word h k passes = k
found_none p (w ∷ ws) word h k passes = by (p w) refl h k (found_none p ws word)
  where
    by : (b : Bool) → p w ≡ b → (if b then Some w else find p ws) ≡ None → Among (w ∷ ws) word → (find p ws ≡ None → Among ws word → p word ≡ true → ⊥) → ⊥
    by true here is k later = cc
    by false fails is (inl e) later = true_is_false (sym passes ∙ ap p e ∙ fails)
    by false fails is (inr k) later = later is k passes

owner_known_at : (g : GrammarParts) (l : Listed) (text : List ℕ) (id : WordId) (o : Option Word) → find (has_form text) l.live ≡ o
    → option_map (λ word. word.id) o ≡ Some id → IsKnown g l text
owner_known_at g l text id None found h = cc
owner_known_at g l text id (Some word) found h =
    let one = found_word (has_form text) l.live word found in
    (group_of word.forms.kind, form_of_group g l word.forms.kind text (word, among_contains l.live word one.0, refl, one.1))

pub owner_known : (g : GrammarParts) (l : Listed) (text : List ℕ) (id : WordId) → owner l.live text ≡ Some id → IsKnown g l text
owner_known g l text id h = owner_known_at g l text id (find (has_form text) l.live) refl h

pub terminal_known : (g : GrammarParts) (l : Listed) (text : List ℕ) → is_terminal g.terminals text ≡ true → IsKnown g l text
terminal_known g l text h = (Function, h)

no_owner : (l : Listed) (text : List ℕ) (o : Option Word) → find (has_form text) l.live ≡ o → option_map (λ word. word.id) o ≡ None → (word : Word)
    → Among l.live word → has_form text word ≡ true → ⊥
no_owner l text None found h word k form = found_none (has_form text) l.live word found k form
no_owner l text (Some w) found h word k form = cc

no_form : (l : Listed) (text : List ℕ) (group : Group) → owner l.live text ≡ None → IsFormIn l.live group text → ⊥
no_form l text group h form = no_owner l text (find (has_form text) l.live) refl h form.0 (contains_among l.live form.0 form.1) form.3

pub nothing_known : (g : GrammarParts) (l : Listed) (text : List ℕ) → is_terminal g.terminals text ≡ false → owner l.live text ≡ None → IsKnown g l text → ⊥
nothing_known g l text terminal none h = by h.0 h.1
  where
    by : (group : Group) → IsOfGroup g l group text → ⊥
    by Function k = true_is_false (sym k ∙ terminal)
    by Name k = no_form l text Name none k
    by Noun k = no_form l text Noun none k
    by Of k = no_form l text Of none k
    by Verb k = no_form l text Verb none k
    by Adjective k = no_form l text Adjective none k

-- The last token of those that have a partial derivation

last_among : (tokens : List (List ℕ)) (token : List ℕ) → Among (tokens ++ token ∷ []) token
last_among [] token = inl refl
last_among (t ∷ ts) token = inr (last_among ts token)

readable_known : (g : GrammarParts) (l : Listed) (token : List ℕ) → IsReadable g l token → IsKnown g l token
readable_known g l token (inl terminal) = terminal_known g l token terminal
readable_known g l token (inr read) = by (owner l.live token) refl
  where
    by : (o : Option WordId) → owner l.live token ≡ o → IsKnown g l token
    by (Some id) e = owner_known g l token id e
    by None e = absurd (read (unread l.live token e))

pub beginning_known : (g : GrammarParts) (l : Listed) (tokens : List (List ℕ)) (token : List ℕ) → IsBeginning g l (tokens ++ token ∷ []) → IsKnown g l token
beginning_known g l tokens token h = readable_known g l token (beginning_readable g l (tokens ++ token ∷ []) h token (last_among tokens token))

-- Tokens

pub terminal_is_token : (g : GrammarParts) (text : List ℕ) → IsSound g → is_terminal g.terminals text ≡ true → IsToken text
terminal_is_token g text sound h =
    let one : Passing (bytes_eq text) g.terminals = any_passes (bytes_eq text) g.terminals h in
    let same : text ≡ one.one = (bytes_eq-Decides text one.one).0 one.passes in
    terminal_token text (ap is_terminal_text same ∙ all_among is_terminal_text g.terminals one.one sound.written.terminals one.among)

form_is_token : (l : Listed) (text : List ℕ) (group : Group) → IsLexicon l → IsUtf8 text → IsFormIn l.live group text → IsToken text
form_is_token l text group is utf8 h =
    let word : Word = h.0 in
    let one : Passing (bytes_eq text) word.forms.texts = any_passes (bytes_eq text) word.forms.texts h.3 in
    let same : text ≡ one.one = (bytes_eq-Decides text one.one).0 one.passes in
    let spelled : All IsText word.forms.texts = All-contains (λ (w : Word). All IsText w.forms.texts) l.live word is.spelled h.1 in
    text_token text utf8 (subst IsText (sym same) (All-contains IsText word.forms.texts one.one spelled (among_contains word.forms.texts one.one one.among)))

pub known_is_token : (g : GrammarParts) (l : Listed) (text : List ℕ) → IsSound g → IsLexicon l → IsUtf8 text → IsKnown g l text → IsToken text
known_is_token g l text sound is utf8 h = by h.0 h.1
  where
    by : (group : Group) → IsOfGroup g l group text → IsToken text
    by Function k = terminal_is_token g text sound k
    by Name k = form_is_token l text Name is utf8 k
    by Noun k = form_is_token l text Noun is utf8 k
    by Of k = form_is_token l text Of is utf8 k
    by Verb k = form_is_token l text Verb is utf8 k
    by Adjective k = form_is_token l text Adjective is utf8 k

-- A text that is no terminal, by what is found of it

pub known_by_owner : (g : GrammarParts) (l : Listed) (text : List ℕ) (o : Option WordId) (b : Bool) → is_terminal g.terminals text ≡ false
    → o ≡ owner l.live text → b ≡ is_some o → IsTrue b ↔ IsKnown g l text
known_by_owner g l text None b terminal e test = (λ t. true_is_false (sym t ∙ test), λ k. absurd (nothing_known g l text terminal (sym e) k))
known_by_owner g l text (Some id) b terminal e test = (λ t. owner_known g l text id (sym e), λ k. test)

pub token_by_owner : (l : Listed) (text : List ℕ) (o : Option WordId) (b : Bool) → IsLexicon l → IsUtf8 text → o ≡ owner l.live text → b ≡ is_some o → b ≡ true
    → IsToken text
token_by_owner l text None b is utf8 e test t = true_is_false (sym t ∙ test)
token_by_owner l text (Some id) b is utf8 e test t = by (find (has_form text) l.live) refl (sym e)
  where
    by : (word : Option Word) → find (has_form text) l.live ≡ word → option_map (λ w. w.id) word ≡ Some id → IsToken text
    by None found h = cc
    by (Some word) found h =
        let one = found_word (has_form text) l.live word found in
        form_is_token l text (group_of word.forms.kind) is utf8 (word, among_contains l.live word one.0, refl, one.1)
