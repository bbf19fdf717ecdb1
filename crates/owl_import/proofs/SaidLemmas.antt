-- What axioms are said as: words of the grammar and forms of live words, of which there is one in each sentence.
use Rattle.std.proofs.Common.{◌≡◌, ℕ, zero, suc, Bool, true, false, cond, ◌||◌, ◌⊎◌, inl, inr, List, [], ◌∷◌, Option, Some, None, find, option_map, refl, sym, ap, subst, ◌∙◌}
use Rattle.std.specs.Prelude.{codes, is_some, slice_get, if◌then◌else◌}
use Rattle.std.specs.Option.{option_and_then}
use Rattle.std.specs.List.{All, list_any}
use Rattle.std.specs.Str.{bytes_eq}
use Rattle.std.proofs.lemmas.Bool.{false≢true}
use Rattle.std.proofs.lemmas.List.Elements.{All-nil, All-cons, All-append}
use Rattle.std.proofs.lemmas.List.Folds.{list_any-append}
use Rattle.std.proofs.lemmas.Option.{none-some, same_Some}
use Rattle.std.proofs.lemmas.Slice.Eq.{bytes_eq-Decides}
use Rattle.wiki_base.specs.declared.numbers.WordId.{WordId}
use Rattle.lexicon.specs.declared.kinds.Kind.{Kind}
use Rattle.lexicon.specs.declared.kinds.Kind.TheVariants.{Name, Noun, Of, Verb, Adjective}
use Rattle.lexicon.specs.declared.kinds.Forms.{Forms}
use Rattle.lexicon.specs.declared.words.Word.{Word}
use Rattle.lexicon.specs.Readings.{begins_with_vowel}
use Rattle.lexicon.specs.Words.{is_among, has_form, has_number, owner, forms_of}
use Rattle.derivation_trees.specs.Cutting.{is_terminal}
use Rattle.logic_terms.specs.declared.expressions.Role.{Role}
use Rattle.logic_terms.specs.Same.{inverse}
use Rattle.logic_terms.specs.Concept.{Concept, Concepts, Everything, Atomic, ComplementOf, IntersectionOf, UnionOf, SomeValuesFrom, AllValuesFrom, HasValue, no_concept, also_concept, Claim, SubClassOf, SubPropertyOf, ClassAssertion, PropertyAssertion, NegativePropertyAssertion, SameIndividual, DifferentIndividuals, TransitiveProperty}
use Rattle.ace_grammar.specs.Names.{terminal_texts}
use Rattle.verbalise.specs.Phrases.{Phrase, ◌⋅◌, the, article, form_at, form_with_article}
use Rattle.verbalise.specs.Vocabulary.{name_form, singular_form, article_form, plural_form, third_form, relation, denial, said_by, name, singular, a_singular, plural, third, related, not_related, where_straight, where_inverted}
use Rattle.verbalise.specs.Said.{only, basic_phrase, also, joint_phrase, phrase, is_attribute, attribute, membership, inclusion, chain, said}

-- the token is a form of a live word
abbrev pub is_owned : List Word → List ℕ → Bool
is_owned live token = is_some (owner live token)

-- the token is a word of the grammar, or a form of a live word
abbrev pub IsKnown : List Word → List ℕ → Type 0
IsKnown live token = (is_terminal terminal_texts token ≡ true) ⊎ (is_owned live token ≡ true)

-- each token is known, and one of them is a form
pub record Told (live : List Word) (tokens : List (List ℕ)) : Type 0 where
  pub known : All (IsKnown live) tokens
  pub owned : list_any (is_owned live) tokens ≡ true

-- ---- parts of sentences

-- each token of the part is known, if there is one
abbrev Fine : List Word → Phrase → Type 0
Fine live None = Unit {0}
Fine live (Some tokens) = All (IsKnown live) tokens

-- so it is, and one of them is a form
abbrev Good : List Word → Phrase → Type 0
Good live None = Unit {0}
Good live (Some tokens) = Told live tokens

fine_from : (live : List Word) (a : Phrase) → Good live a → Fine live a
fine_from live None good = tt
fine_from live (Some tokens) good = good.known

fine_then : (live : List Word) (a b : Phrase) → Fine live a → Fine live b → Fine live (a ⋅ b)
fine_then live (Some x) (Some y) first second = All-append (IsKnown live) x y first second
fine_then live (Some x) None first second = tt
fine_then live None b first second = tt

good_first : (live : List Word) (a b : Phrase) → Good live a → Fine live b → Good live (a ⋅ b)
good_first live (Some x) (Some y) first second = record {
  known = All-append (IsKnown live) x y first.known second;
  owned = list_any-append (is_owned live) x y ∙ ap (λ (t : Bool). t || list_any (is_owned live) y) first.owned;
}
good_first live (Some x) None first second = tt
good_first live None b first second = tt

or_true : (t : Bool) → (t || true) ≡ true
or_true true = refl
or_true false = refl

good_then : (live : List Word) (a b : Phrase) → Fine live a → Good live b → Good live (a ⋅ b)
good_then live (Some x) (Some y) first second = record {
  known = All-append (IsKnown live) x y first second.known;
  owned = list_any-append (is_owned live) x y ∙ ap (λ (t : Bool). list_any (is_owned live) x || t) second.owned ∙ or_true (list_any (is_owned live) x);
}
good_then live (Some x) None first second = tt
good_then live None b first second = tt

-- a word of the grammar
word_fine : (live : List Word) (text : List ℕ) → is_terminal terminal_texts text ≡ true → All (IsKnown live) (text ∷ [])
word_fine live text is = All-cons (IsKnown live) text [] (inl is) (All-nil (IsKnown live))

-- ---- forms

-- each of these texts is a form of a live word
abbrev AreOwned : List Word → List (List ℕ) → Type 0
AreOwned live texts = (text : List ℕ) → is_among texts text ≡ true → is_owned live text ≡ true

-- the forms of a live word are owned
forms_owned : (live : List Word) (id : WordId) (forms : Forms) → forms_of live id ≡ Some forms → AreOwned live forms.texts
forms_owned [] id forms never text among = absurd (none-some forms never)
forms_owned (word ∷ live) id forms is text among =
    by (has_form text word) refl (has_number id word) is (λ rest. forms_owned live id forms rest text among)
  where
    by : (here : Bool) → has_form text word ≡ here → (numbered : Bool)
        → option_map (λ (w : Word). w.forms) (cond numbered (Some word) (find (has_number id) live)) ≡ Some forms
        → (forms_of live id ≡ Some forms → is_owned live text ≡ true)
        → is_some (option_map (λ (w : Word). w.id) (cond here (Some word) (find (has_form text) live))) ≡ true
    by true here numbered is later = refl
    by false here true is later =
        let same : word.forms ≡ forms = same_Some word.forms forms is in
        absurd (false≢true (sym here ∙ ap (λ (f : Forms). is_among f.texts text) same ∙ among))
    by false here false is later = later is

among_at : (texts : List (List ℕ)) (k : ℕ) (text : List ℕ) → slice_get texts k ≡ Some text → is_among texts text ≡ true
among_at [] k text never = absurd (none-some text never)
among_at (first ∷ texts) zero text is =
    ap (λ (t : Bool). t || list_any (bytes_eq text) texts) ((bytes_eq-Decides text first).1 (sym (same_Some first text is)))
among_at (first ∷ texts) (suc k) text is =
    ap (λ (t : Bool). bytes_eq text first || t) (among_at texts k text is) ∙ or_true (bytes_eq text first)

form_told : (live : List Word) (text : List ℕ) → is_owned live text ≡ true → Told live (text ∷ [])
form_told live text is = record {
  known = All-cons (IsKnown live) text [] (inr is) (All-nil (IsKnown live));
  owned = ap (λ (t : Bool). t || false) is;
}

-- the form at a place
good_form : (live : List Word) (texts : List (List ℕ)) (k : ℕ) → AreOwned live texts → Good live (form_at texts k)
good_form live texts k owned = by (slice_get texts k) refl
  where
    by : (found : Option (List ℕ)) → slice_get texts k ≡ found → Good live (option_map (λ (form : List ℕ). form ∷ []) found)
    by None is = tt
    by (Some text) is = form_told live text (owned text (among_at texts k text is))

article_known : (live : List Word) (form : List ℕ) → IsKnown live (article form)
article_known live form = by (begins_with_vowel form)
  where
    by : (vowel : Bool) → IsKnown live (if vowel then codes "an" else codes "a")
    by true = inl refl
    by false = inl refl

-- the first form behind its article
good_with_article : (live : List Word) (texts : List (List ℕ)) → AreOwned live texts → Good live (form_with_article texts)
good_with_article live texts owned = by (slice_get texts 0) refl
  where
    by : (found : Option (List ℕ)) → slice_get texts 0 ≡ found → Good live (option_map (λ (form : List ℕ). article form ∷ form ∷ []) found)
    by None is = tt
    by (Some text) is =
        let told = form_told live text (owned text (among_at texts 0 text is)) in
        record {
          known = All-cons (IsKnown live) (article text) (text ∷ []) (article_known live text) told.known;
          owned = ap (λ (t : Bool). is_owned live (article text) || t) told.owned ∙ or_true (is_owned live (article text));
        }

-- what is said by the forms of a word
good_said : (live : List Word) (says : Kind → List (List ℕ) → Phrase) (id : WordId)
    → ((kind : Kind) (texts : List (List ℕ)) → AreOwned live texts → Good live (says kind texts)) → Good live (said_by says live id)
good_said live says id each = by (forms_of live id) refl
  where
    by : (found : Option Forms) → forms_of live id ≡ found → Good live (option_and_then (λ (forms : Forms). says forms.kind forms.texts) found)
    by None is = tt
    by (Some forms) is = each forms.kind forms.texts (forms_owned live id forms is)

name_forms : (live : List Word) (kind : Kind) (texts : List (List ℕ)) → AreOwned live texts → Good live (name_form kind texts)
name_forms live Name texts owned = good_form live texts 0 owned
name_forms live _ texts owned = tt

singular_forms : (live : List Word) (kind : Kind) (texts : List (List ℕ)) → AreOwned live texts → Good live (singular_form kind texts)
singular_forms live Noun texts owned = good_form live texts 0 owned
singular_forms live _ texts owned = tt

article_forms : (live : List Word) (kind : Kind) (texts : List (List ℕ)) → AreOwned live texts → Good live (article_form kind texts)
article_forms live Noun texts owned = good_with_article live texts owned
article_forms live _ texts owned = tt

plural_forms : (live : List Word) (kind : Kind) (texts : List (List ℕ)) → AreOwned live texts → Good live (plural_form kind texts)
plural_forms live Noun texts owned = good_form live texts 1 owned
plural_forms live _ texts owned = tt

third_forms : (live : List Word) (kind : Kind) (texts : List (List ℕ)) → AreOwned live texts → Good live (third_form kind texts)
third_forms live Verb texts owned = good_form live texts 0 owned
third_forms live _ texts owned = tt

module _ (live : List Word) where
  fine_is : Fine live (the "is")
  fine_is = word_fine live (codes "is") refl

  fine_not : Fine live (the "not")
  fine_not = word_fine live (codes "not") refl

  fine_of : Fine live (the "of")
  fine_of = word_fine live (codes "of") refl

  fine_by : Fine live (the "by")
  fine_by = word_fine live (codes "by") refl

  fine_does : Fine live (the "does")
  fine_does = word_fine live (codes "does") refl

  fine_only : Fine live (the "only")
  fine_only = word_fine live (codes "only") refl

  fine_something : Fine live (the "something")
  fine_something = word_fine live (codes "something") refl

  fine_and : Fine live (the "and")
  fine_and = word_fine live (codes "and") refl

  fine_or : Fine live (the "or")
  fine_or = word_fine live (codes "or") refl

  fine_if : Fine live (the "if")
  fine_if = word_fine live (codes "if") refl

  fine_then_word : Fine live (the "then")
  fine_then_word = word_fine live (codes "then") refl

  fine_every : Fine live (the "every")
  fine_every = word_fine live (codes "every") refl

  fine_everything : Fine live (the "everything")
  fine_everything = word_fine live (codes "everything") refl

  fine_x : Fine live (the "X")
  fine_x = word_fine live (codes "X") refl

  fine_y : Fine live (the "Y")
  fine_y = word_fine live (codes "Y") refl

  fine_z : Fine live (the "Z")
  fine_z = word_fine live (codes "Z") refl

  fine_end : Fine live (the ".")
  fine_end = word_fine live (codes ".") refl

  -- a part behind two words of the grammar
  fine_is_not : Fine live (the "is" ⋅ the "not")
  fine_is_not = fine_then live (the "is") (the "not") fine_is fine_not

  relations : (inverted : Bool) (kind : Kind) (texts : List (List ℕ)) (object : Phrase) → AreOwned live texts → Fine live object
      → Good live (relation inverted kind texts object)
  relations false Verb texts object owned fine = good_first live (form_at texts 0) object (good_form live texts 0 owned) fine
  relations false Adjective texts object owned fine =
      good_first live (the "is" ⋅ form_at texts 0) object (good_then live (the "is") (form_at texts 0) fine_is (good_form live texts 0 owned)) fine
  relations false Of texts object owned fine =
      good_first live (the "is" ⋅ form_with_article texts ⋅ the "of") object
      (good_first live (the "is" ⋅ form_with_article texts) (the "of")
      (good_then live (the "is") (form_with_article texts) fine_is (good_with_article live texts owned)) fine_of) fine
  relations true Verb texts object owned fine =
      good_first live (the "is" ⋅ form_at texts 2 ⋅ the "by") object
      (good_first live (the "is" ⋅ form_at texts 2) (the "by") (good_then live (the "is") (form_at texts 2) fine_is (good_form live texts 2 owned)) fine_by)
      fine
  relations true _ texts object owned fine = tt
  relations false _ texts object owned fine = tt

  denials : (inverted : Bool) (kind : Kind) (texts : List (List ℕ)) (object : Phrase) → AreOwned live texts → Fine live object
      → Good live (denial inverted kind texts object)
  denials false Verb texts object owned fine =
      good_first live (the "does" ⋅ the "not" ⋅ form_at texts 1) object
      (good_then live (the "does" ⋅ the "not") (form_at texts 1) (fine_then live (the "does") (the "not") fine_does fine_not) (good_form live texts 1 owned))
      fine
  denials false Adjective texts object owned fine =
      good_first live (the "is" ⋅ the "not" ⋅ form_at texts 0) object
      (good_then live (the "is" ⋅ the "not") (form_at texts 0) fine_is_not (good_form live texts 0 owned)) fine
  denials false Of texts object owned fine =
      good_first live (the "is" ⋅ the "not" ⋅ form_with_article texts ⋅ the "of") object
      (good_first live (the "is" ⋅ the "not" ⋅ form_with_article texts) (the "of")
      (good_then live (the "is" ⋅ the "not") (form_with_article texts) fine_is_not (good_with_article live texts owned)) fine_of) fine
  denials true Verb texts object owned fine =
      good_first live (the "is" ⋅ the "not" ⋅ form_at texts 2 ⋅ the "by") object
      (good_first live (the "is" ⋅ the "not" ⋅ form_at texts 2) (the "by")
      (good_then live (the "is" ⋅ the "not") (form_at texts 2) fine_is_not (good_form live texts 2 owned)) fine_by) fine
  denials true _ texts object owned fine = tt
  denials false _ texts object owned fine = tt

  good_name : (id : WordId) → Good live (name live id)
  good_name id = good_said live name_form id (name_forms live)

  good_singular : (id : WordId) → Good live (singular live id)
  good_singular id = good_said live singular_form id (singular_forms live)

  good_a_singular : (id : WordId) → Good live (a_singular live id)
  good_a_singular id = good_said live article_form id (article_forms live)

  good_plural : (id : WordId) → Good live (plural live id)
  good_plural id = good_said live plural_form id (plural_forms live)

  good_third : (id : WordId) → Good live (third live id)
  good_third id = good_said live third_form id (third_forms live)

  good_related : (role : Role) (object : Phrase) → Fine live object → Good live (related live role object)
  good_related role object fine =
      good_said live (λ kind texts. relation role.inverted kind texts object) role.id (λ kind texts owned. relations role.inverted kind texts object owned fine)

  good_not_related : (role : Role) (object : Phrase) → Fine live object → Good live (not_related live role object)
  good_not_related role object fine =
      good_said live (λ kind texts. denial role.inverted kind texts object) role.id (λ kind texts owned. denials role.inverted kind texts object owned fine)

  good_straight : (role : Role) (a : Phrase) → Good live a → Good live (where_straight role a)
  good_straight role a good = by role.inverted
    where
      by : (inverted : Bool) → Good live (if inverted then None else a)
      by true = tt
      by false = good

  good_inverted : (role : Role) (a : Phrase) → Good live a → Good live (where_inverted role a)
  good_inverted role a good = by role.inverted
    where
      by : (inverted : Bool) → Good live (if inverted then a else None)
      by true = good
      by false = tt

  -- ---- classes

  good_only : (verb noun : WordId) → Good live (only live verb noun)
  good_only verb noun =
      good_first live (third live verb ⋅ the "only") (plural live noun) (good_first live (third live verb) (the "only") (good_third verb) fine_only)
      (fine_from live (plural live noun) (good_plural noun))

  good_basic : (c : Concept) → Good live (basic_phrase live c)
  good_basic (Atomic noun) = good_then live (the "is") (a_singular live noun) fine_is (good_a_singular noun)
  good_basic (ComplementOf (Atomic noun)) = good_then live (the "is" ⋅ the "not") (a_singular live noun) fine_is_not (good_a_singular noun)
  good_basic (SomeValuesFrom role (Atomic noun)) = good_related role (a_singular live noun) (fine_from live (a_singular live noun) (good_a_singular noun))
  good_basic (SomeValuesFrom role Everything) = good_related role (the "something") fine_something
  good_basic (HasValue role a) = good_related role (name live a) (fine_from live (name live a) (good_name a))
  good_basic (ComplementOf (HasValue role a)) = good_not_related role (name live a) (fine_from live (name live a) (good_name a))
  good_basic (AllValuesFrom role (Atomic noun)) = good_straight role (only live role.id noun) (good_only role.id noun)
  good_basic (ComplementOf _) = tt
  good_basic (SomeValuesFrom role _) = tt
  good_basic (AllValuesFrom role _) = tt
  good_basic _ = tt

  fine_basic : (c : Concept) → Fine live (basic_phrase live c)
  fine_basic c = fine_from live (basic_phrase live c) (good_basic c)

  fine_also : (cs : Concepts) → Fine live (also live cs)
  fine_also no_concept = All-nil (IsKnown live)
  fine_also (also_concept c cs) =
      fine_then live (the "and" ⋅ basic_phrase live c) (also live cs) (fine_then live (the "and") (basic_phrase live c) fine_and (fine_basic c)) (fine_also cs)

  good_joint : (c : Concept) → Good live (joint_phrase live c)
  good_joint (IntersectionOf (also_concept c cs)) = good_first live (basic_phrase live c) (also live cs) (good_basic c) (fine_also cs)
  good_joint (IntersectionOf no_concept) = tt
  good_joint Everything = good_basic Everything
  good_joint (Atomic noun) = good_basic (Atomic noun)
  good_joint (ComplementOf c) = good_basic (ComplementOf c)
  good_joint (UnionOf cs) = good_basic (UnionOf cs)
  good_joint (SomeValuesFrom role c) = good_basic (SomeValuesFrom role c)
  good_joint (AllValuesFrom role c) = good_basic (AllValuesFrom role c)
  good_joint (HasValue role a) = good_basic (HasValue role a)

  good_either : (a b : Phrase) → Good live a → Good live b → Good live (a ⋅ the "or" ⋅ b)
  good_either a b first second = good_first live (a ⋅ the "or") b (good_first live a (the "or") first fine_or) (fine_from live b second)

  good_phrase : (c : Concept) → Good live (phrase live c)
  good_phrase (UnionOf (also_concept c (also_concept d no_concept))) = good_either (joint_phrase live c) (joint_phrase live d) (good_joint c) (good_joint d)
  good_phrase (UnionOf no_concept) = tt
  good_phrase (UnionOf (also_concept c no_concept)) = tt
  good_phrase (UnionOf (also_concept c (also_concept d (also_concept e es)))) = tt
  good_phrase Everything = tt
  good_phrase (Atomic noun) = good_joint (Atomic noun)
  good_phrase (ComplementOf c) = good_joint (ComplementOf c)
  good_phrase (IntersectionOf cs) = good_joint (IntersectionOf cs)
  good_phrase (SomeValuesFrom role c) = good_joint (SomeValuesFrom role c)
  good_phrase (AllValuesFrom role c) = good_joint (AllValuesFrom role c)
  good_phrase (HasValue role a) = good_joint (HasValue role a)

  good_attribute : (c : Concept) → Good live (attribute live c)
  good_attribute c = by (is_attribute c)
    where
      by : (t : Bool) → Good live (if t then basic_phrase live c else None)
      by true = good_basic c
      by false = tt

  good_membership : (c : Concept) → Good live (membership live c)
  good_membership (UnionOf (also_concept c (also_concept d no_concept))) =
      good_either (attribute live c) (attribute live d) (good_attribute c) (good_attribute d)
  good_membership (UnionOf no_concept) = tt
  good_membership (UnionOf (also_concept c no_concept)) = tt
  good_membership (UnionOf (also_concept c (also_concept d (also_concept e es)))) = tt
  good_membership Everything = tt
  good_membership (Atomic noun) = good_attribute (Atomic noun)
  good_membership (ComplementOf c) = good_attribute (ComplementOf c)
  good_membership (IntersectionOf cs) = tt
  good_membership (SomeValuesFrom role c) = good_attribute (SomeValuesFrom role c)
  good_membership (AllValuesFrom role c) = tt
  good_membership (HasValue role a) = tt

  -- ---- axioms

  -- a role between two of the variables
  good_of_two : (subject object : Phrase) (role : Role) → Fine live subject → Fine live object → Good live (subject ⋅ related live role object)
  good_of_two subject object role first second = good_then live subject (related live role object) first (good_related role object second)

  ended : (a : Phrase) → Good live a → Good live (a ⋅ the ".")
  ended a good = good_first live a (the ".") good fine_end

  implied : (below : Role) → Good live (the "if" ⋅ (the "X" ⋅ related live below (the "Y")))
  implied below =
      good_then live (the "if") (the "X" ⋅ related live below (the "Y")) fine_if (good_of_two (the "X") (the "Y") below fine_x fine_y)

  -- the one part, and then the other
  concluded : (front second : Phrase) → Good live front → Fine live second → Good live (front ⋅ the "then" ⋅ second ⋅ the ".")
  concluded front second good fine =
      ended (front ⋅ the "then" ⋅ second) (good_first live (front ⋅ the "then") second (good_first live front (the "then") good fine_then_word) fine)

  fine_of_two : (subject object : Phrase) (role : Role) → Fine live subject → Fine live object → Fine live (subject ⋅ related live role object)
  fine_of_two subject object role first second =
      fine_from live (subject ⋅ related live role object) (good_of_two subject object role first second)

  fine_above : (above : Role) → Fine live (if above.inverted then the "Y" ⋅ related live (inverse above) (the "X") else the "X" ⋅ related live above (the "Y"))
  fine_above above = by above.inverted
    where
      by : (t : Bool) → Fine live (if t then the "Y" ⋅ related live (inverse above) (the "X") else the "X" ⋅ related live above (the "Y"))
      by true = fine_of_two (the "Y") (the "X") (inverse above) fine_y fine_x
      by false = fine_of_two (the "X") (the "Y") above fine_x fine_y

  good_inclusion : (below above : Role) → Good live (inclusion live below above)
  good_inclusion below above =
      concluded (the "if" ⋅ (the "X" ⋅ related live below (the "Y")))
      (if above.inverted then the "Y" ⋅ related live (inverse above) (the "X") else the "X" ⋅ related live above (the "Y")) (implied below) (fine_above above)

  good_chain : (role : Role) → Good live (chain live role)
  good_chain role =
      concluded (the "if" ⋅ (the "X" ⋅ related live role (the "Y")) ⋅ the "and" ⋅ (the "Y" ⋅ related live role (the "Z")))
      (the "X" ⋅ related live role (the "Z"))
      (good_first live (the "if" ⋅ (the "X" ⋅ related live role (the "Y")) ⋅ the "and") (the "Y" ⋅ related live role (the "Z"))
      (good_first live (the "if" ⋅ (the "X" ⋅ related live role (the "Y"))) (the "and") (implied role) fine_and)
      (fine_of_two (the "Y") (the "Z") role fine_y fine_z))
      (fine_of_two (the "X") (the "Z") role fine_x fine_z)

  good_named : (a : WordId) (rest : Phrase) → Fine live rest → Good live (name live a ⋅ rest ⋅ the ".")
  good_named a rest fine = ended (name live a ⋅ rest) (good_first live (name live a) rest (good_name a) fine)

  good_axiom : (claim : Claim) → Good live (said live claim)
  good_axiom (ClassAssertion c a) = good_named a (membership live c) (fine_from live (membership live c) (good_membership c))
  good_axiom (PropertyAssertion role a b) =
      good_straight role (name live a ⋅ related live role (name live b) ⋅ the ".")
      (good_named a (related live role (name live b))
      (fine_from live (related live role (name live b)) (good_related role (name live b) (fine_from live (name live b) (good_name b)))))
  good_axiom (NegativePropertyAssertion role a b) =
      good_straight role (name live a ⋅ not_related live role (name live b) ⋅ the ".")
      (good_named a (not_related live role (name live b))
      (fine_from live (not_related live role (name live b)) (good_not_related role (name live b) (fine_from live (name live b) (good_name b)))))
  good_axiom (SameIndividual a b) =
      ended (name live a ⋅ the "is" ⋅ name live b)
      (good_first live (name live a ⋅ the "is") (name live b) (good_first live (name live a) (the "is") (good_name a) fine_is)
      (fine_from live (name live b) (good_name b)))
  good_axiom (DifferentIndividuals a b) =
      ended (name live a ⋅ the "is" ⋅ the "not" ⋅ name live b)
      (good_first live (name live a ⋅ the "is" ⋅ the "not") (name live b)
      (good_first live (name live a ⋅ the "is") (the "not") (good_first live (name live a) (the "is") (good_name a) fine_is) fine_not)
      (fine_from live (name live b) (good_name b)))
  good_axiom (SubClassOf (Atomic noun) c) =
      ended (the "every" ⋅ singular live noun ⋅ phrase live c)
      (good_first live (the "every" ⋅ singular live noun) (phrase live c) (good_then live (the "every") (singular live noun) fine_every (good_singular noun))
      (fine_from live (phrase live c) (good_phrase c)))
  good_axiom (SubClassOf Everything c) =
      ended (the "everything" ⋅ phrase live c) (good_then live (the "everything") (phrase live c) fine_everything (good_phrase c))
  good_axiom (SubClassOf (HasValue role a) (Atomic noun)) =
      good_inverted role (name live a ⋅ only live role.id noun ⋅ the ".")
      (good_named a (only live role.id noun) (fine_from live (only live role.id noun) (good_only role.id noun)))
  good_axiom (SubClassOf (HasValue role a) _) = tt
  good_axiom (SubClassOf _ c) = tt
  good_axiom (SubPropertyOf below above) = good_straight below (inclusion live below above) (good_inclusion below above)
  good_axiom (TransitiveProperty word) = good_chain (record { id = word; inverted = false })

  -- an axiom's tokens are known, and one of them is a form
  pub said_told : (claim : Claim) (tokens : List (List ℕ)) → said live claim ≡ Some tokens → Told live tokens
  said_told claim tokens is = subst (Good live) is (good_axiom claim)
