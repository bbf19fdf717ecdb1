-- A word that is added gives no token that is typed another reading.
use Rattle.std.proofs.Common.{◌≡◌, ℕ, ◌+◌, List, [], ◌∷◌, ◌++◌, map, Bool, true, false, ◌||◌, inl, inr, Option, Some, None, refl, sym, ap, ◌∙◌}
use Rattle.std.specs.Prelude.{if◌then◌else◌}
use Rattle.std.specs.List.{flat_map}
use Rattle.std.specs.Str.{bytes_eq}
use Rattle.std.proofs.lemmas.Slice.Eq.{bytes_eq-Decides}
use Rattle.wiki_base.proofs.OptionLaws.{option_or-first_none, option_or-second_none}
use Rattle.lexicon.proofs.Adding.{free_texts}
use Rattle.derivation_trees.proofs.ReadingLemmas.{no_readings, unread}
use Rattle.derivation_trees.proofs.TruthLemmas.{true_is_false}
use Rattle.codeco_terms.specs.declared.categories.Ground.{Ground}
use Rattle.codeco_terms.specs.GrammarParts.{GrammarParts}
use Rattle.lexicon.specs.declared.kinds.Forms.{Forms}
use Rattle.lexicon.specs.declared.words.LexFault.{LexFault}
use Rattle.lexicon.specs.declared.words.LexFault.TheVariants.{Reserved}
use Rattle.lexicon.specs.Words.{Listed, is_among, owner, next_word, with_word, first_taken, first_reserved, fullness, forms_refusal, add_refusal}
use Rattle.lexicon.specs.Terminals.{is_reserved, raised}
use Rattle.lexicon.specs.Readings.{readings_of_word, readings_of}
use Rattle.derivation_trees.specs.Settings.{Setting}
use Rattle.derivation_trees.specs.Cutting.{is_terminal}
use Rattle.derivation_trees.specs.Sentences.{setting_of}
use Rattle.derivations.proofs.Members.{Among}
use Rattle.editor.specs.Editing.{IsTypeableAsKept}
use Rattle.editor.proofs.ReadLemmas.{IsReadable, beginning_readable}
use Rattle.editor.proofs.EditingLemmas.{typeable_by, whole_begins}

-- Readings

flat_map_last : {X Y : Type 0} (f : X → List Y) (xs : List X) (x : X) → f x ≡ [] → flat_map f (xs ++ x ∷ []) ≡ flat_map f xs
flat_map_last f [] x h = ap (λ ys. ys ++ []) h
flat_map_last f (y ∷ ys) x h = ap (λ zs. f y ++ zs) (flat_map_last f ys x h)

-- Causes that don't stand

same_bytes : (xs ys : List ℕ) → bytes_eq xs ys ≡ true → xs ≡ ys
same_bytes xs ys h = (bytes_eq-Decides xs ys).0 h

reserved_none : (b : Bool) (text : List ℕ) (o : Option LexFault) → (if b then Some (Reserved text) else o) ≡ None → (b ≡ false) × (o ≡ None)
reserved_none true text o h = cc
reserved_none false text o h = (refl, h)

-- a form that is not reserved is none of the terminals
not_spelled : (terminals : List (List ℕ)) (token : List ℕ) → is_reserved terminals token ≡ false → is_terminal terminals token ≡ false
not_spelled [] token h = refl
not_spelled (t ∷ ts) token h = by (bytes_eq token t) (bytes_eq token (raised t)) h (not_spelled ts token)
  where
    by : (b c : Bool) → ((b || c) || is_reserved ts token) ≡ false → (is_reserved ts token ≡ false → is_terminal ts token ≡ false)
        → (b || is_terminal ts token) ≡ false
    by true c k later = k
    by false true k later = true_is_false k
    by false false k later = later k

not_reserved : (terminals texts : List (List ℕ)) (token : List ℕ) → first_reserved terminals texts ≡ None → is_among texts token ≡ true
    → is_terminal terminals token ≡ false
not_reserved terminals [] token h k = true_is_false (sym k)
not_reserved terminals (text ∷ texts) token h k =
    let free = reserved_none (is_reserved terminals text) text (first_reserved terminals texts) h in
    by (bytes_eq token text) refl free.0 k (not_reserved terminals texts token free.1)
  where
    by : (b : Bool) → bytes_eq token text ≡ b → is_reserved terminals text ≡ false → (b || is_among texts token) ≡ true
        → (is_among texts token ≡ true → is_terminal terminals token ≡ false) → is_terminal terminals token ≡ false
    by true e free k later = not_spelled terminals token (ap (is_reserved terminals) (same_bytes token text e) ∙ free)
    by false e free k later = later k

-- Kept readings

-- a readable token is no form of a word that can be added
not_a_new_form : (g : GrammarParts) (l : Listed) (forms : Forms) (token : List ℕ) → l.terminals ≡ g.terminals → add_refusal l forms ≡ None
    → IsReadable g l token → (b : Bool) → is_among forms.texts token ≡ b → b ≡ false
not_a_new_form g l forms token same free readable false e = refl
not_a_new_form g l forms token same free readable true e =
    let given = option_or-first_none (forms_refusal l.live l.terminals forms) (fullness l) free in
    let owned : owner l.live token ≡ None =
    free_texts l.live forms.texts (option_or-first_none (first_taken l.live forms.texts) (first_reserved l.terminals forms.texts) given) token e in
    let spelled : is_terminal l.terminals token ≡ false =
    not_reserved l.terminals forms.texts token (option_or-second_none (first_taken l.live forms.texts) (first_reserved l.terminals forms.texts) given) e in
    by owned (ap (λ ts. is_terminal ts token) (sym same) ∙ spelled) readable
  where
    by : owner l.live token ≡ None → is_terminal g.terminals token ≡ false → IsReadable g l token → true ≡ false
    by owned spelled (inl terminal) = sym terminal ∙ spelled
    by owned spelled (inr reads) = absurd (reads (unread l.live token owned))

map_alike : {X Y : Type 0} (f h : X → Y) (xs : List X) → ((x : X) → Among xs x → f x ≡ h x) → map f xs ≡ map h xs
map_alike f h [] same = refl
map_alike f h (x ∷ xs) same = ap (λ y. y ∷ map f xs) (same x (inl refl)) ∙ ap (λ ys. h x ∷ ys) (map_alike f h xs (λ y k. same y (inr k)))

-- what is kept by a lexicon is kept by the same with a word more
pub kept_with_word : (g : GrammarParts) (l : Listed) (forms : Forms) (s : Setting) → l.terminals ≡ g.terminals → add_refusal l forms ≡ None
    → s ≡ setting_of g l s.tokens → IsTypeableAsKept s → s ≡ setting_of g (with_word l forms) s.tokens
kept_with_word g l forms s same free kept typeable =
    kept ∙ ap (λ (readings : List (List Ground)). let made : Setting = record { grammar = g; tokens = s.tokens; readings = readings } in made)
    (map_alike (readings_of l.live) (readings_of (l.live ++ next_word l forms ∷ [])) s.tokens (λ token k.
    let readable = beginning_readable g l s.tokens (whole_begins g l s.tokens (typeable_by g l s kept typeable)) token k in
    sym (flat_map_last (readings_of_word token) l.live (next_word l forms)
    (no_readings token (next_word l forms) (not_a_new_form g l forms token same free readable (is_among forms.texts token) refl)))))
