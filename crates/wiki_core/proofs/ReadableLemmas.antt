-- Words whose forms are read as they are shown, and that they stay so.
use Rattle.std.proofs.Common.{◌≡◌, ℕ, zero, suc, ◌==◌, Bool, true, false, not, cond, ◌||◌, ◌⊎◌, inl, inr, List, [], ◌∷◌, ◌++◌, length, map, filter, find, Option, Some, None, option_map, IsSome, All, refl, sym, ap, subst, ◌∙◌}
use Rattle.std.specs.Option.{option_or, option_and_then, option_map_or}
use Rattle.std.specs.Str.{IsUtf8, bytes_eq}
use Rattle.std.specs.List.{slice_get}
use Rattle.std.specs.Prelude.{if◌then◌else◌, ⊤}
use Rattle.std.proofs.lemmas.Bool.{false≢true, eqb-true}
use Rattle.std.proofs.lemmas.Option.{none-some, same_Some}
use Rattle.std.proofs.lemmas.Slice.Eq.{bytes_eq-Decides}
use Rattle.wiki_base.specs.declared.numbers.WordId.{WordId}
use Rattle.wiki_base.proofs.OptionLaws.{option_or-none}
use Rattle.lexicon.specs.declared.kinds.Kind.{Kind}
use Rattle.lexicon.specs.declared.kinds.Forms.{Forms}
use Rattle.lexicon.specs.declared.words.Word.{Word}
use Rattle.lexicon.specs.declared.words.LexFault.{LexFault}
use Rattle.lexicon.specs.declared.words.LexFault.TheVariants as faults
use Rattle.lexicon.specs.declared.words.LexLimit.TheVariants as bounds
use Rattle.lexicon.specs.declared.words.TheConstants.{MOST_WORDS, LAST_NUMBER}
use Rattle.lexicon.specs.Kinds.{canonical_place}
use Rattle.lexicon.specs.Terminals.{is_reserved}
use Rattle.lexicon.specs.Words.{Listed, is_among, has_form, has_number, owner, forms_of, canonical_form_of, others, next_word, with_word, with_forms, first_taken, first_reserved, fullness, forms_refusal, add_refusal, reword_refusal, reground_refusal}
use Rattle.lexicon.proofs.Adding.{free_texts, unreserved_texts}
use Rattle.lexicon.proofs.Owners.{owner_lives, owner-add_refusal, add_refusal_names_none}
use Rattle.derivations.specs.Among.{Among}
use Rattle.derivations.proofs.GrowLemmas.{Each}
use Rattle.wiki_talk.specs.declared.refusals.Refusal.TheVariants.{Taken, Reserved}
use Rattle.plain_wiki.specs.Words.{canonical, bad_text, bad_count, lexicon_refusal, full_refusal, forms_given, word_refusal}
use Rattle.plain_wiki.specs.Causes.{reword_cause}
use Rattle.wiki_store.proofs.RewordLemmas.{forms_free, taken_lives, reword_names_none}
use Rattle.wiki_core.proofs.FormLemmas.{IsForm, each_among, forms_of_texts}

-- Each form of a live word is a whole token of at most 64 bytes, and no terminal, nor one with its first letter raised; and what two
-- words have as a form they have by one number.
pub record AreReadable (terminals : List (List ℕ)) (live : List Word) : Type 0 where
  pub forms : (word : Word) → Among live word → (text : List ℕ) → has_form text word ≡ true → IsForm text
  pub free : (word : Word) → Among live word → (text : List ℕ) → has_form text word ≡ true → is_reserved terminals text ≡ false
  pub apart : (word other : Word) → Among live word → Among live other → (text : List ℕ) → has_form text word ≡ true → has_form text other ≡ true
      → word.id.0 ≡ other.id.0

pub no_words : (terminals : List (List ℕ)) → AreReadable terminals []
no_words terminals = record {
  forms = λ word there text has. absurd there;
  free = λ word there text has. absurd there;
  apart = λ word other there its text has too. absurd there;
}

-- ---- lists

either_list : {X : Type 0} (xs ys : List X) (x : X) → Among (xs ++ ys) x → Among xs x ⊎ Among ys x
either_list [] ys x there = inr there
either_list (z ∷ zs) ys x (inl same) = inl (inl same)
either_list (z ∷ zs) ys x (inr later) = by (either_list zs ys x later)
  where
    by : Among zs x ⊎ Among ys x → Among (z ∷ zs) x ⊎ Among ys x
    by (inl one) = inl (inr one)
    by (inr two) = inr two

in_filter : {X : Type 0} (p : X → Bool) (xs : List X) (x : X) → Among (filter p xs) x → Among xs x × (p x ≡ true)
in_filter p [] x there = absurd there
in_filter {X} p (y ∷ ys) x there = by (p y) refl there (in_filter p ys x)
  where
    by : (b : Bool) → p y ≡ b → Among (cond b (y ∷ filter p ys) (filter p ys)) x → (Among (filter p ys) x → Among ys x × (p x ≡ true))
        → Among (y ∷ ys) x × (p x ≡ true)
    by true is (inl same) rest = (inl same, ap p same ∙ is)
    by true is (inr later) rest = let both = rest later in (inr both.0, both.1)
    by false is later rest = let both = rest later in (inr both.0, both.1)

to_filter : {X : Type 0} (p : X → Bool) (xs : List X) (x : X) → Among xs x → p x ≡ true → Among (filter p xs) x
to_filter p [] x there passes = absurd there
to_filter {X} p (y ∷ ys) x there passes = by (p y) refl there (λ later. to_filter p ys x later passes)
  where
    by : (b : Bool) → p y ≡ b → Among (y ∷ ys) x → (Among ys x → Among (filter p ys) x) → Among (cond b (y ∷ filter p ys) (filter p ys)) x
    by true is (inl same) rest = inl same
    by true is (inr later) rest = inr (rest later)
    by false is (inl same) rest = absurd (false≢true (sym is ∙ ap p (sym same) ∙ passes))
    by false is (inr later) rest = rest later

in_map : {X Y : Type 0} (f : X → Y) (xs : List X) (y : Y) → Among (map f xs) y → (x : X) × Among xs x × (y ≡ f x)
in_map f [] y there = absurd there
in_map f (x ∷ xs) y (inl same) = (x, inl refl, same)
in_map f (x ∷ xs) y (inr later) = let one = in_map f xs y later in (one.0, inr one.1, one.2)

-- ---- owners

-- the word that has the form, and its number
pub owner_there : (live : List Word) (text : List ℕ) (id : WordId) → owner live text ≡ Some id
    → (word : Word) × Among live word × (has_form text word ≡ true) × (word.id ≡ id)
owner_there [] text id owned = absurd (none-some id owned)
owner_there (word ∷ live) text id owned = by (has_form text word) refl owned (owner_there live text id)
  where
    by : (b : Bool) → has_form text word ≡ b → option_map (λ (w : Word). w.id) (cond b (Some word) (find (has_form text) live)) ≡ Some id
        → (owner live text ≡ Some id → (w : Word) × Among live w × (has_form text w ≡ true) × (w.id ≡ id))
        → (w : Word) × Among (word ∷ live) w × (has_form text w ≡ true) × (w.id ≡ id)
    by true has owned rest = (word, inl refl, has, same_Some word.id id owned)
    by false lacks owned rest = let one = rest owned in (one.0, inr one.1, one.2, one.3)

-- a form of a live word has an owner
owned_form : (live : List Word) (text : List ℕ) (word : Word) → Among live word → has_form text word ≡ true → owner live text ≡ None → ⊥
owned_form [] text word there has none = there
owned_form (first ∷ live) text word there has none = by (has_form text first) refl there none (owned_form live text word)
  where
    by : (b : Bool) → has_form text first ≡ b → Among (first ∷ live) word
        → option_map (λ (w : Word). w.id) (cond b (Some first) (find (has_form text) live)) ≡ None
        → (Among live word → has_form text word ≡ true → owner live text ≡ None → ⊥) → ⊥
    by true is there none rest = none-some first.id (sym none)
    by false is (inl same) none rest = false≢true (sym is ∙ ap (has_form text) (sym same) ∙ has)
    by false is (inr later) none rest = rest later has none

-- the word with the number lives
numbered_there : (live : List Word) (id : WordId) (forms : Forms) → forms_of live id ≡ Some forms
    → (word : Word) × Among live word × (word.id.0 ≡ id.0) × (word.forms ≡ forms)
numbered_there [] id forms of_word = absurd (none-some forms of_word)
numbered_there (word ∷ live) id forms of_word = by (has_number id word) refl of_word (numbered_there live id forms)
  where
    by : (b : Bool) → has_number id word ≡ b → option_map (λ (w : Word). w.forms) (cond b (Some word) (find (has_number id) live)) ≡ Some forms
        → (forms_of live id ≡ Some forms → (w : Word) × Among live w × (w.id.0 ≡ id.0) × (w.forms ≡ forms))
        → (w : Word) × Among (word ∷ live) w × (w.id.0 ≡ id.0) × (w.forms ≡ forms)
    by true is of_word rest = (word, inl refl, eqb-true word.id.0 id.0 is, same_Some word.forms forms of_word)
    by false is of_word rest = let one = rest of_word in (one.0, inr one.1, one.2, one.3)

there_among : (texts : List (List ℕ)) (k : ℕ) (text : List ℕ) → slice_get texts k ≡ Some text → is_among texts text ≡ true
there_among [] k text at = absurd (none-some text at)
there_among (first ∷ texts) zero text at = by (bytes_eq text first) ((bytes_eq-Decides text first).1 (sym (same_Some first text at)))
  where
    by : (b : Bool) → b ≡ true → (b || is_among texts text) ≡ true
    by true is = refl
    by false is = absurd (false≢true is)
there_among (first ∷ texts) (suc k) text at = by (bytes_eq text first) (there_among texts k text at)
  where
    by : (b : Bool) → is_among texts text ≡ true → (b || is_among texts text) ≡ true
    by true rest = refl
    by false rest = rest

-- the canonical form of a live word names it
pub canonical_owner : (terminals : List (List ℕ)) (live : List Word) → AreReadable terminals live → (id : WordId) (form : List ℕ)
    → canonical_form_of live id ≡ Some form → owner live form ≡ Some id
canonical_owner terminals live are id form spelled = by_forms (forms_of live id) refl spelled
  where
    by_owner : (word : Word) → Among live word → word.id.0 ≡ id.0 → has_form form word ≡ true → (o : Option WordId) → owner live form ≡ o → o ≡ Some id
    by_owner word there numbered has None none = absurd (owned_form live form word there has none)
    by_owner word there numbered has (Some other) owned =
        let its = owner_there live form other owned in
        let same : other.0 ≡ id.0 = ap (λ (i : WordId). i.0) (sym its.3) ∙ are.apart its.0 word its.1 there form its.2 has ∙ numbered in
        ap (λ (n : ℕ). Some (record { 0 = n })) same

    by_forms : (o : Option Forms) → forms_of live id ≡ o → option_and_then (λ (f : Forms). slice_get f.texts (canonical_place f.kind)) o ≡ Some form
        → owner live form ≡ Some id
    by_forms None none spelled = absurd (none-some form spelled)
    by_forms (Some forms) of_word spelled =
        let its = numbered_there live id forms of_word in
        let has : has_form form its.0 ≡ true =
        subst (λ (f : Forms). is_among f.texts form ≡ true) (sym its.3) (there_among forms.texts (canonical_place forms.kind) form spelled) in
        by_owner its.0 its.1 its.2 has (owner live form) refl

-- ---- words that go, come, and get other forms

pub readable_without : (terminals : List (List ℕ)) (live : List Word) (id : WordId) → AreReadable terminals live → AreReadable terminals (others live id)
readable_without terminals live id are = record {
  forms = λ word there. are.forms word (in_filter (λ w. not (has_number id w)) live word there).0;
  free = λ word there. are.free word (in_filter (λ w. not (has_number id w)) live word there).0;
  apart = λ word other there its.
      are.apart word other (in_filter (λ w. not (has_number id w)) live word there).0 (in_filter (λ w. not (has_number id w)) live other its).0;
}

pub readable_with : (terminals : List (List ℕ)) (live : List Word) (new : Word) → AreReadable terminals live → Each IsForm new.forms.texts
    → first_taken live new.forms.texts ≡ None → first_reserved terminals new.forms.texts ≡ None → AreReadable terminals (live ++ new ∷ [])
readable_with terminals live new are each untaken unreserved = record { forms = forms; free = free; apart = apart }
  where
    new_form : (text : List ℕ) → has_form text new ≡ true → IsForm text
    new_form text has = each_among IsForm new.forms.texts each text has

    new_free : (text : List ℕ) → has_form text new ≡ true → is_reserved terminals text ≡ false
    new_free text has = unreserved_texts terminals new.forms.texts unreserved text has

    forms : (word : Word) → Among (live ++ new ∷ []) word → (text : List ℕ) → has_form text word ≡ true → IsForm text
    forms word there text has = by (either_list live (new ∷ []) word there)
      where
        by : Among live word ⊎ Among (new ∷ []) word → IsForm text
        by (inl old) = are.forms word old text has
        by (inr (inl same)) = new_form text (ap (has_form text) (sym same) ∙ has)
        by (inr (inr none)) = absurd none

    free : (word : Word) → Among (live ++ new ∷ []) word → (text : List ℕ) → has_form text word ≡ true → is_reserved terminals text ≡ false
    free word there text has = by (either_list live (new ∷ []) word there)
      where
        by : Among live word ⊎ Among (new ∷ []) word → is_reserved terminals text ≡ false
        by (inl old) = are.free word old text has
        by (inr (inl same)) = new_free text (ap (has_form text) (sym same) ∙ has)
        by (inr (inr none)) = absurd none

    never : (word : Word) → Among live word → (text : List ℕ) → has_form text word ≡ true → has_form text new ≡ true → ⊥
    never word there text has too = owned_form live text word there has (free_texts live new.forms.texts untaken text too)

    apart : (word other : Word) → Among (live ++ new ∷ []) word → Among (live ++ new ∷ []) other → (text : List ℕ) → has_form text word ≡ true
        → has_form text other ≡ true → word.id.0 ≡ other.id.0
    apart word other there its text has too = by (either_list live (new ∷ []) word there) (either_list live (new ∷ []) other its)
      where
        by : Among live word ⊎ Among (new ∷ []) word → Among live other ⊎ Among (new ∷ []) other → word.id.0 ≡ other.id.0
        by (inl old) (inl also) = are.apart word other old also text has too
        by (inl old) (inr (inl same)) = absurd (never word old text has (ap (has_form text) (sym same) ∙ too))
        by (inl old) (inr (inr none)) = absurd none
        by (inr (inl same)) (inl also) = absurd (never other also text too (ap (has_form text) (sym same) ∙ has))
        by (inr (inl same)) (inr (inl equal)) = ap (λ (w : Word). w.id.0) (same ∙ sym equal)
        by (inr (inl same)) (inr (inr none)) = absurd none
        by (inr (inr none)) also = absurd none

-- a word is one of those that stay, or the one with the new forms
abbrev IsOldOrNew : List Word → WordId → Forms → Word → Type 0
IsOldOrNew live id new word = (Among live word × (has_number id word ≡ false)) ⊎ ((word.id.0 ≡ id.0) × (word.forms ≡ new))

pub readable_with_forms : (terminals : List (List ℕ)) (live : List Word) (id : WordId) (new : Forms) → AreReadable terminals live → Each IsForm new.texts
    → first_taken (others live id) new.texts ≡ None → first_reserved terminals new.texts ≡ None
    → AreReadable terminals (map (λ word. if has_number id word then record word { forms = new } else word) live)
readable_with_forms terminals live id new are each untaken unreserved = record { forms = forms; free = free; apart = apart }
  where
    changed : Word → Word
    changed word = cond (has_number id word) (record word { forms = new }) word

    either : (word : Word) → Among (map changed live) word → IsOldOrNew live id new word
    either word there =
        let one = in_map changed live word there in
        subst (IsOldOrNew live id new) (sym one.2) (by one.0 (has_number id one.0) refl one.1)
      where
        by : (old : Word) (b : Bool) → has_number id old ≡ b → Among live old → IsOldOrNew live id new (cond b (record old { forms = new }) old)
        by old true is there = inr (eqb-true old.id.0 id.0 is, refl)
        by old false is there = inl (there, is)

    new_has : (word : Word) (text : List ℕ) → word.forms ≡ new → has_form text word ≡ true → is_among new.texts text ≡ true
    new_has word text same has = ap (λ (f : Forms). is_among f.texts text) (sym same) ∙ has

    never : (word : Word) → Among live word → has_number id word ≡ false → (text : List ℕ) → has_form text word ≡ true → is_among new.texts text ≡ true → ⊥
    never word there other text has too =
        owned_form (others live id) text word (to_filter (λ w. not (has_number id w)) live word there (ap not other)) has
        (free_texts (others live id) new.texts untaken text too)

    forms : (word : Word) → Among (map changed live) word → (text : List ℕ) → has_form text word ≡ true → IsForm text
    forms word there text has = by (either word there)
      where
        by : IsOldOrNew live id new word → IsForm text
        by (inl (old, other)) = are.forms word old text has
        by (inr (numbered, same)) = each_among IsForm new.texts each text (new_has word text same has)

    free : (word : Word) → Among (map changed live) word → (text : List ℕ) → has_form text word ≡ true → is_reserved terminals text ≡ false
    free word there text has = by (either word there)
      where
        by : IsOldOrNew live id new word → is_reserved terminals text ≡ false
        by (inl (old, other)) = are.free word old text has
        by (inr (numbered, same)) = unreserved_texts terminals new.texts unreserved text (new_has word text same has)

    apart : (word other : Word) → Among (map changed live) word → Among (map changed live) other → (text : List ℕ) → has_form text word ≡ true
        → has_form text other ≡ true → word.id.0 ≡ other.id.0
    apart word other there its text has too = by (either word there) (either other its)
      where
        by : IsOldOrNew live id new word → IsOldOrNew live id new other → word.id.0 ≡ other.id.0
        by (inl (old, stays)) (inl (also, keeps)) = are.apart word other old also text has too
        by (inl (old, stays)) (inr (numbered, same)) = absurd (never word old stays text has (new_has other text same too))
        by (inr (numbered, same)) (inl (also, keeps)) = absurd (never other also keeps text too (new_has word text same has))
        by (inr (numbered, same)) (inr (also, equal)) = numbered ∙ sym also

-- ---- why forms are refused

-- no cause is want of memory
abbrev is_told : Option LexFault → Bool
is_told (Some faults.Memory) = false
is_told fault = true

told_either : (a b : Option LexFault) → is_told a ≡ true → is_told b ≡ true → is_told (option_or a b) ≡ true
told_either None b one two = two
told_either (Some fault) b one two = one

told_taken : (live : List Word) (texts : List (List ℕ)) → is_told (first_taken live texts) ≡ true
told_taken live [] = refl
told_taken live (text ∷ texts) = by (owner live text) (told_taken live texts)
  where
    by : (o : Option WordId) → is_told (first_taken live texts) ≡ true → is_told (option_or (option_map (faults.Taken text) o) (first_taken live texts)) ≡ true
    by None rest = rest
    by (Some id) rest = refl

told_reserved : (terminals texts : List (List ℕ)) → is_told (first_reserved terminals texts) ≡ true
told_reserved terminals [] = refl
told_reserved terminals (text ∷ texts) = by (is_reserved terminals text) (told_reserved terminals texts)
  where
    by : (b : Bool) → is_told (first_reserved terminals texts) ≡ true → is_told (cond b (Some (faults.Reserved text)) (first_reserved terminals texts)) ≡ true
    by true rest = refl
    by false rest = rest

told_full : (listed : Listed) → is_told (fullness listed) ≡ true
told_full listed = by (length listed.live == MOST_WORDS) (listed.last == LAST_NUMBER)
  where
    by : (b c : Bool) → is_told (cond b (Some (faults.Full bounds.Words)) (cond c (Some (faults.Full bounds.Numbers)) None)) ≡ true
    by true c = refl
    by false true = refl
    by false false = refl

told_forms : (live : List Word) (terminals : List (List ℕ)) (forms : Forms) → is_told (forms_refusal live terminals forms) ≡ true
told_forms live terminals forms =
    told_either (first_taken live forms.texts) (first_reserved terminals forms.texts) (told_taken live forms.texts) (told_reserved terminals forms.texts)

-- where no fault is told, there is none
none_told : (words : Listed) (fault : Option LexFault) → is_told fault ≡ true
    → ((text : List ℕ) (id : WordId) → fault ≡ Some (faults.Taken text id) → IsSome (forms_of words.live id))
    → ((id : WordId) → fault ≡ Some (faults.NoWord id) → ⊥) → lexicon_refusal words fault ≡ None → fault ≡ None
none_told words None told lives named none = refl
none_told words (Some (faults.Taken text id)) told lives named none = absurd (by (forms_of words.live id) (lives text id refl) none)
  where
    by : (o : Option Forms) → IsSome o → option_map (λ (forms : Forms). Taken text (canonical forms)) o ≡ None → ⊥
    by None there none = false≢true there
    by (Some forms) there none = none-some (Taken text (canonical forms)) (sym none)
none_told words (Some (faults.Reserved text)) told lives named none = absurd (none-some (Reserved text) (sym none))
none_told words (Some (faults.NoWord id)) told lives named none = absurd (named id refl)
none_told words (Some (faults.Full limit)) told lives named none = absurd (none-some (full_refusal limit) (sym none))
none_told words (Some faults.Memory) told lives named none = absurd (false≢true told)

-- what stands of the forms of a word that isn't refused
pub record AreGiven (terminals : List (List ℕ)) (live : List Word) (forms : Forms) : Type 0 where
  pub each : Each IsForm forms.texts
  pub untaken : first_taken live forms.texts ≡ None
  pub unreserved : first_reserved terminals forms.texts ≡ None

given_word : (words : Listed) (kind : Kind) (texts : List (List ℕ)) → All IsUtf8 texts → word_refusal words kind texts ≡ None
    → AreGiven words.terminals words.live (forms_given kind texts)
unfolding word_refusal
given_word words kind texts utf8 none =
    let outer = option_or-none (bad_text texts)
    (option_or (bad_count kind texts) (lexicon_refusal words (add_refusal words (forms_given kind texts)))) none in
    let inner = option_or-none (bad_count kind texts) (lexicon_refusal words (add_refusal words (forms_given kind texts))) outer.1 in
    let forms = forms_given kind texts in
    let told = told_either (forms_refusal words.live words.terminals forms) (fullness words) (told_forms words.live words.terminals forms) (told_full words) in
    let free = none_told words (add_refusal words forms) told
    (λ text id is. owner_lives words.live text id (owner-add_refusal words forms text id is))
    (λ id is. add_refusal_names_none words forms id is) inner.1 in
    let first = option_or-none (forms_refusal words.live words.terminals forms) (fullness words) free in
    let both = option_or-none (first_taken words.live forms.texts) (first_reserved words.terminals forms.texts) first.0 in
    record { each = forms_of_texts kind texts outer.0 inner.0 utf8; untaken = both.0; unreserved = both.1 }

-- a new word leaves words readable
pub readable_word : (words : Listed) (kind : Kind) (texts : List (List ℕ)) → All IsUtf8 texts → word_refusal words kind texts ≡ None
    → AreReadable words.terminals words.live → AreReadable words.terminals (with_word words (forms_given kind texts)).live
readable_word words kind texts utf8 none are =
    let given = given_word words kind texts utf8 none in
    readable_with words.terminals words.live (next_word words (forms_given kind texts)) are given.each given.untaken given.unreserved

-- and so do other forms of a word
pub readable_reword : (words : Listed) (id : WordId) (kind : Kind) (texts : List (List ℕ)) → IsSome (forms_of words.live id) → All IsUtf8 texts
    → reword_cause words id kind texts ≡ None → AreReadable words.terminals words.live
    → AreReadable words.terminals (with_forms words id (forms_given kind texts)).live
readable_reword words id kind texts lives utf8 none are =
    let forms = forms_given kind texts in
    let outer = option_or-none (bad_text texts) (option_or (bad_count kind texts) (lexicon_refusal words (reword_refusal words id forms))) none in
    let inner = option_or-none (bad_count kind texts) (lexicon_refusal words (reword_refusal words id forms)) outer.1 in
    let told : is_told (reword_refusal words id forms) ≡ true = is_told_there forms lives in
    let refused = none_told words (reword_refusal words id forms) told (λ text other is. taken_lives words id forms text other lives is)
    (λ other is. reword_names_none words id forms lives other is) inner.1 in
    let free = forms_free words id forms lives refused in
    let both = option_or-none (first_taken (others words.live id) forms.texts) (first_reserved words.terminals forms.texts) free in
    readable_with_forms words.terminals words.live id forms are (forms_of_texts kind texts outer.0 inner.0 utf8) both.0 both.1
  where
    is_told_there : (forms : Forms) → IsSome (forms_of words.live id) → is_told (reword_refusal words id forms) ≡ true
    is_told_there forms lives = by (forms_of words.live id) lives
      where
        by : (o : Option Forms) → IsSome o
            → is_told (option_map_or (λ _. forms_refusal (others words.live id) words.terminals forms) o (Some (faults.NoWord id))) ≡ true
        by None none = absurd (false≢true none)
        by (Some old) there = told_forms (others words.live id) words.terminals forms

-- ---- words beside other terminals

told_reground : (live : List Word) (terminals : List (List ℕ)) → is_told (reground_refusal live terminals) ≡ true
told_reground [] terminals = refl
told_reground (word ∷ live) terminals =
    told_either (first_reserved terminals word.forms.texts) (reground_refusal live terminals) (told_reserved terminals word.forms.texts)
    (told_reground live terminals)

-- the fault, if there is one, is that a form is reserved
abbrev IsReserved : Option LexFault → Type 0
IsReserved None = ⊤
IsReserved (Some (faults.Reserved text)) = ⊤
IsReserved (Some fault) = ⊥

reserved_either : (a b : Option LexFault) → IsReserved a → IsReserved b → IsReserved (option_or a b)
reserved_either None b one two = two
reserved_either (Some fault) b one two = one

reserved_forms : (terminals texts : List (List ℕ)) → IsReserved (first_reserved terminals texts)
reserved_forms terminals [] = tt
reserved_forms terminals (text ∷ texts) = by (is_reserved terminals text) (reserved_forms terminals texts)
  where
    by : (b : Bool) → IsReserved (first_reserved terminals texts) → IsReserved (cond b (Some (faults.Reserved text)) (first_reserved terminals texts))
    by true rest = tt
    by false rest = rest

reserved_words : (live : List Word) (terminals : List (List ℕ)) → IsReserved (reground_refusal live terminals)
reserved_words [] terminals = tt
reserved_words (word ∷ live) terminals =
    reserved_either (first_reserved terminals word.forms.texts) (reground_refusal live terminals) (reserved_forms terminals word.forms.texts)
    (reserved_words live terminals)

unreserved_words : (live : List Word) (terminals : List (List ℕ)) → reground_refusal live terminals ≡ None → (word : Word) → Among live word
    → (text : List ℕ) → has_form text word ≡ true → is_reserved terminals text ≡ false
unreserved_words [] terminals none word there text has = absurd there
unreserved_words (first ∷ live) terminals none word there text has =
    let both = option_or-none (first_reserved terminals first.forms.texts) (reground_refusal live terminals) none in
    by there both.0 (λ later. unreserved_words live terminals both.1 word later text has)
  where
    by : Among (first ∷ live) word → first_reserved terminals first.forms.texts ≡ None → (Among live word → is_reserved terminals text ≡ false)
        → is_reserved terminals text ≡ false
    by (inl same) free rest = unreserved_texts terminals first.forms.texts free text (ap (has_form text) (sym same) ∙ has)
    by (inr later) free rest = rest later

-- words of which no form is reserved by other terminals are readable beside them
pub readable_beside : (words : Listed) (terminals : List (List ℕ)) → lexicon_refusal words (reground_refusal words.live terminals) ≡ None
    → AreReadable words.terminals words.live → AreReadable terminals words.live
readable_beside words terminals none are =
    let fault = reground_refusal words.live terminals in
    let free = none_told words fault (told_reground words.live terminals)
    (λ text id is. absurd (subst IsReserved is (reserved_words words.live terminals)))
    (λ id is. subst IsReserved is (reserved_words words.live terminals)) none in
    record { forms = are.forms; free = unreserved_words words.live terminals free; apart = are.apart }
