-- What stays known when a word is added.
use Rattle.std.proofs.Common.{◌≡◌, ℕ, Bool, true, false, cond, ◌⊎◌, inl, inr, List, [], ◌∷◌, ◌++◌, Option, Some, None, find, option_map, refl, sym, ap, subst, ◌∙◌, arith}
use Rattle.std.specs.Prelude.{◌==◌, if◌then◌else◌, is_some}
use Rattle.std.specs.HashMap.{get_by_text}
use Rattle.std.specs.Option.{option_or}
use Rattle.std.proofs.lemmas.Bool.{false≢true}
use Rattle.std.proofs.lemmas.Str.{encodes_same}
use Rattle.lexicon.specs.declared.kinds.Kind.{Kind}
use Rattle.lexicon.specs.declared.kinds.Forms.{Forms}
use Rattle.lexicon.specs.declared.words.Word.{Word}
use Rattle.lexicon.specs.declared.words.LexFault.TheVariants.{Taken}
use Rattle.lexicon.specs.Words.{Listed, has_form, owner, first_taken, first_reserved, with_word, next_word}
use Rattle.owl_words.specs.Attempts.{attempted}
use Rattle.owl_words.specs.Chosen.{is_refused, AreRefused}
use Rattle.owl_words.specs.Known.{Counts, kind_mark, key, AreKnown, IsNoted, Notes}

-- ---- refused forms stay refused

owner_stays : (live more : List Word) (text : List ℕ) → is_some (owner live text) ≡ true → is_some (owner (live ++ more) text) ≡ true
owner_stays [] more text never = absurd (false≢true never)
owner_stays (word ∷ live) more text is = by (has_form text word) is (owner_stays live more text)
  where
    by : (here : Bool) → is_some (option_map (λ (w : Word). w.id) (cond here (Some word) (find (has_form text) live))) ≡ true
        → (is_some (owner live text) ≡ true → is_some (owner (live ++ more) text) ≡ true)
        → is_some (option_map (λ (w : Word). w.id) (cond here (Some word) (find (has_form text) (live ++ more)))) ≡ true
    by true is later = refl
    by false is later = later is

-- a choice of two stays where both stay
choice_stays : {X : Type 0} (a b c d : Option X) → (is_some a ≡ true → is_some c ≡ true) → (is_some b ≡ true → is_some d ≡ true)
    → is_some (option_or a b) ≡ true → is_some (option_or c d) ≡ true
choice_stays a b (Some z) d first second is = refl
choice_stays (Some x) b None d first second is = absurd (false≢true (first refl))
choice_stays None b None d first second is = second is

mapped : {X Y : Type 0} (f : X → Y) (o : Option X) → is_some (option_map f o) ≡ is_some o
mapped f (Some x) = refl
mapped f None = refl

taken_stays : (live more : List Word) (texts : List (List ℕ)) → is_some (first_taken live texts) ≡ true → is_some (first_taken (live ++ more) texts) ≡ true
taken_stays live more [] never = absurd (false≢true never)
taken_stays live more (text ∷ texts) is =
    choice_stays (option_map (Taken text) (owner live text)) (first_taken live texts) (option_map (Taken text) (owner (live ++ more) text))
    (first_taken (live ++ more) texts)
    (λ some. mapped (Taken text) (owner (live ++ more) text) ∙ owner_stays live more text (sym (mapped (Taken text) (owner live text)) ∙ some))
    (taken_stays live more texts) is

refused_stays : (old : Listed) (forms : Forms) (made : Option Forms) → is_refused old made ≡ true → is_refused (with_word old forms) made ≡ true
refused_stays old forms None is = refl
refused_stays old forms (Some those) is =
    choice_stays (first_taken old.live those.texts) (first_reserved old.terminals those.texts)
    (first_taken (old.live ++ next_word old forms ∷ []) those.texts) (first_reserved old.terminals those.texts)
    (taken_stays old.live (next_word old forms ∷ []) those.texts) (λ some. some) is

-- so are attempts
pub attempts_stay : (old : Listed) (forms : Forms) (kind : Kind) (cs : List ℕ) (count : ℕ) → AreRefused old kind cs count
    → AreRefused (with_word old forms) kind cs count
attempts_stay old forms kind cs count refused attempt before = refused_stays old forms (attempted kind cs attempt) (refused attempt before)

-- ---- keys

abbrev kind_of : ℕ → Kind
kind_of mark =
    if mark == 49 then Kind.Name else (if mark == 50 then Kind.Noun else (if mark == 51 then Kind.Of else (if mark == 52 then Kind.Verb else Kind.Adjective)))

kind_back : (kind : Kind) → kind_of (kind_mark kind) ≡ kind
kind_back Kind.Name = refl
kind_back Kind.Noun = refl
kind_back Kind.Of = refl
kind_back Kind.Verb = refl
kind_back Kind.Adjective = refl

abbrev first_of : List ℕ → ℕ
first_of [] = 0
first_of (c ∷ cs) = c

abbrev rest_of : List ℕ → List ℕ
rest_of [] = []
rest_of (c ∷ cs) = cs

same_kind : (kind other : Kind) (cs ds : List ℕ) → key kind cs ≡ key other ds → kind ≡ other
same_kind kind other cs ds is =
    sym (kind_back kind) ∙ ap (λ (all : List ℕ). kind_of (first_of all)) (encodes_same (kind_mark kind ∷ cs) (kind_mark other ∷ ds) is) ∙ kind_back other

same_base : (kind other : Kind) (cs ds : List ℕ) → key kind cs ≡ key other ds → cs ≡ ds
same_base kind other cs ds is = ap rest_of (encodes_same (kind_mark kind ∷ cs) (kind_mark other ∷ ds) is)

-- ---- what is known

-- none is refused before the first attempt, and so many before a number that is noted
pub noted_refused : (words : Listed) (counts : Counts) (kind : Kind) (cs : List ℕ) (count : ℕ) → AreKnown words counts → IsNoted counts (key kind cs) count
    → AreRefused words kind cs count
noted_refused words counts kind cs count known (inl found) = known kind cs count found
noted_refused words counts kind cs count known (inr none) = λ attempt before. absurd (omega (arith, none, before))

-- what is known stays so when a word is added, and the number of refused attempts for it is noted
pub known_after : (old : Listed) (forms : Forms) (counts after : Counts) (kind : Kind) (cs : List ℕ) (count : ℕ) → AreKnown old counts
    → AreRefused old kind cs count → Notes counts (key kind cs) count after → AreKnown (with_word old forms) after
known_after old forms counts after kind cs count known refused notes other ds n found =
    attempts_stay old forms other ds n (by (notes (key other ds) n found))
  where
    by : (get_by_text counts (key other ds) ≡ Some n) ⊎ ((key other ds ≡ key kind cs) × (n ≡ count)) → AreRefused old other ds n
    by (inl before) = known other ds n before
    by (inr here) =
        subst (λ (k : Kind). AreRefused old k ds n) (sym (same_kind other kind ds cs here.0))
        (subst (λ (es : List ℕ). AreRefused old kind es n) (sym (same_base other kind ds cs here.0))
        (subst (AreRefused old kind cs) (sym here.1) refused))
