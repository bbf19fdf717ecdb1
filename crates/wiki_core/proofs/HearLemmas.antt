-- What a session sees after what it hears is one thing.
use Rattle.std.proofs.Common.{◌≡◌, ℕ, ◌+◌, ◌-◌, ◌≤◌, ◌⊎◌, List, [], ◌∷◌, ◌++◌, length, take, min, find, Option, Some, None, option_map, sym, ap, subst, ◌∙◌, arith, inl, inr}
use Rattle.std.proofs.lemmas.List.{length-take}
use Rattle.std.proofs.lemmas.Option.{same_Some}
use Rattle.wiki_base.specs.declared.tokens.TheConstants.{MOST_TOKENS}
use Rattle.codeco_terms.specs.GrammarParts.{GrammarParts}
use Rattle.lexicon.specs.declared.words.Word.{Word}
use Rattle.codeco_reader.specs.Texts.{IsTextOf}
use Rattle.codeco_reader.proofs.OneGrammar.{same_grammar}
use Rattle.lexicon.specs.Words.{Listed, has_form, with_word, with_forms, without_word, with_terminals}
use Rattle.derivation_trees.specs.Partial.{IsTypeable}
use Rattle.editor.specs.Editing.{typed, IsInMenu}
use Rattle.editor.specs.Rebasing.{IsRebased}
use Rattle.wiki_talk.specs.declared.requests.Request.{Request}
use Rattle.wiki_talk.specs.declared.requests.Request.TheVariants as requests
use Rattle.wiki_talk.specs.declared.requests.WikiRequest.TheVariants as of_wiki
use Rattle.wiki_talk.specs.declared.requests.WordRequest.TheVariants as of_word
use Rattle.plain_wiki.specs.Words.{forms_given}
use Rattle.wiki_core.specs.Apart as apart
use Rattle.wiki_core.proofs.SeenLemmas.{Own, RebasesOwn, ended}

-- what all sessions share: the grammar and the words
pub record Shared : Type 0 where
  pub grammar : GrammarParts
  pub words : Listed

-- what a session sees: what is shared, and itself where it is open
pub record Seen : Type 0 where
  pub shared : Shared
  pub own : Option Own

-- what is shared with other words
abbrev pub with_words : Shared → Listed → Shared
with_words old words = record { grammar = old.grammar; words = words }

-- a request that changes words or the grammar makes this of that
abbrev pub SharedChange : Shared → Request → Shared → Type 0
SharedChange old (requests.OnWiki (of_wiki.Word kind forms)) new = new ≡ with_words old (with_word old.words (forms_given kind forms))
SharedChange old (requests.OnWord form (of_word.Reword texts)) new =
    (word : Word) × (find (has_form form) old.words.live ≡ Some word)
    × (new ≡ with_words old (with_forms old.words word.id (forms_given word.forms.kind texts)))
SharedChange old (requests.OnWord form of_word.Unword) new =
    (word : Word) × (find (has_form form) old.words.live ≡ Some word) × (new ≡ with_words old (without_word old.words word.id))
SharedChange old (requests.OnWiki (of_wiki.Grammar text)) new =
    (g : GrammarParts) × IsTextOf text g × (new ≡ record { grammar = g; words = with_terminals old.words g.terminals })
SharedChange old request new = ⊥

-- what a session sees of itself by a request that changes words or the grammar
abbrev pub OwnChanges : Shared → Request → Shared → Option Own → Option Own → Type 0
OwnChanges old (requests.OnWord form of_word.Unword) new was is =
    (word : Word) × (mid : Option Own) × (find (has_form form) old.words.live ≡ Some word) × RebasesOwn new.grammar new.words was mid
    × (is ≡ ended word.id mid)
OwnChanges old request new was is = RebasesOwn new.grammar new.words was is

-- a text isn't typed behind tokens: there are too many, or it isn't in their menu
abbrev pub IsNotTyped : GrammarParts → Listed → List ℕ → List (List ℕ) → Type 0
IsNotTyped g words text tokens = (MOST_TOKENS ≤ length tokens)
    ⊎ ((MOST_TOKENS ≤ length tokens → ⊥) × (IsInMenu g words tokens (typed g.terminals tokens text) → ⊥))

-- what a session sees of itself where a text is typed
abbrev pub OwnTypes : GrammarParts → Listed → List ℕ → Option Own → Option Own → Type 0
OwnTypes g words text None is = is ≡ None
OwnTypes g words text (Some own) is =
    (IsNotTyped g words text own.tokens × (is ≡ Some own))
    ⊎ ((IsNotTyped g words text own.tokens → ⊥) × (is ≡ Some (record { article = own.article; tokens = own.tokens ++ typed g.terminals own.tokens text ∷ [] })))

-- the session without its last token, and without any
abbrev pub own_back : Own → Own
own_back own = record { article = own.article; tokens = take (length own.tokens - 1) own.tokens }

abbrev pub own_emptied : Own → Own
own_emptied own = record { article = own.article; tokens = [] }

-- what the session sees after what it hears
abbrev pub Goes : Seen → apart.Heard → Seen → Type 0
Goes old (apart.opened form) new = (new.shared ≡ old.shared)
    × ((word : Word) × (find (has_form form) old.shared.words.live ≡ Some word) × (new.own ≡ Some (record { article = word.id; tokens = [] })))
Goes old (apart.typed text) new = (new.shared ≡ old.shared) × OwnTypes old.shared.grammar old.shared.words text old.own new.own
Goes old apart.stepped_back new = (new.shared ≡ old.shared) × (new.own ≡ option_map own_back old.own)
Goes old apart.committed new = (new.shared ≡ old.shared) × (new.own ≡ option_map own_emptied old.own)
Goes old apart.dropped new = (new.shared ≡ old.shared) × (new.own ≡ None)
Goes old (apart.changed request) new = SharedChange old.shared request new.shared × OwnChanges old.shared request new.shared old.own new.own

pub seen_is : (a b : Seen) → a.shared ≡ b.shared → a.own ≡ b.own → a ≡ b
seen_is a b same_shared same_own = ap (λ (shared : Shared). record { shared = shared; own = a.own }) same_shared
    ∙ ap (λ (own : Option Own). record { shared = b.shared; own = own }) same_own

-- rebased tokens are one
pub rebased_tokens : (g : GrammarParts) (words : Listed) (tokens one other : List (List ℕ)) → IsRebased g words tokens one → IsRebased g words tokens other
    → other ≡ one
rebased_tokens g words tokens one other is its =
    let within = fits one is.prefix in
    let its_within = fits other its.prefix in
    let below = its.longest (length one) within (typeable_again one is) in
    let above = is.longest (length other) its_within (typeable_again other its) in
    let same : length other ≡ length one = omega (arith, below, above) in
    sym its.prefix ∙ ap (λ (n : ℕ). take n tokens) same ∙ is.prefix
  where
    fits : (front : List (List ℕ)) → take (length front) tokens ≡ front → length front ≤ length tokens
    fits front prefix = let same : min (length front) (length tokens) ≡ length front =
        sym (length-take (length front) tokens) ∙ ap (λ (ts : List (List ℕ)). length ts) prefix in omega (arith, same)

    typeable_again : (front : List (List ℕ)) → (is : IsRebased g words tokens front) → IsTypeable g words (take (length front) tokens)
    typeable_again front is = subst (IsTypeable g words) (sym is.prefix) is.typeable

own_rebased_one : (g : GrammarParts) (words : Listed) (was one other : Option Own) → RebasesOwn g words was one → RebasesOwn g words was other → other ≡ one
own_rebased_one g words None one other is its = its ∙ sym is
own_rebased_one g words (Some old) one other (tokens, rebased, is) (its_tokens, its_rebased, its) =
    its ∙ ap (λ (ts : List (List ℕ)). Some (record { article = old.article; tokens = ts }))
    (rebased_tokens g words old.tokens tokens its_tokens rebased its_rebased) ∙ sym is

shared_one : (old : Shared) (request : Request) (one other : Shared) → SharedChange old request one → SharedChange old request other → other ≡ one
shared_one old (requests.OnWiki (of_wiki.Word kind forms)) one other is its = its ∙ sym is
shared_one old (requests.OnWord form (of_word.Reword texts)) one other (word, named, is) (its_word, its_named, its) =
    its ∙ ap (λ (w : Word). with_words old (with_forms old.words w.id (forms_given w.forms.kind texts))) (same_Some its_word word (sym its_named ∙ named))
    ∙ sym is
shared_one old (requests.OnWord form of_word.Unword) one other (word, named, is) (its_word, its_named, its) =
    its ∙ ap (λ (w : Word). with_words old (without_word old.words w.id)) (same_Some its_word word (sym its_named ∙ named)) ∙ sym is
shared_one old (requests.OnWiki (of_wiki.Grammar text)) one other (g, of_text, is) (its_g, its_of_text, its) =
    let same : its_g ≡ g = same_grammar text its_g g its_of_text of_text in
    its ∙ ap (λ (h : GrammarParts). record { grammar = h; words = with_terminals old.words h.terminals }) same ∙ sym is
shared_one old request one other is its = absurd is

-- where what is shared changes to the same, the session sees the same of itself
own_one : (old : Shared) (request : Request) (new : Shared) (was one other : Option Own) → OwnChanges old request new was one
    → OwnChanges old request new was other → other ≡ one
own_one old (requests.OnWord form of_word.Unword) new was one other (word, mid, named, rebased, is) (its_word, its_mid, its_named, its_rebased, its) =
    let same_word : its_word ≡ word = same_Some its_word word (sym its_named ∙ named) in
    let same_mid = own_rebased_one new.grammar new.words was mid its_mid rebased its_rebased in
    its ∙ ap (λ (w : Word). ended w.id its_mid) same_word ∙ ap (ended word.id) same_mid ∙ sym is
own_one old request new was one other is its = own_rebased_one new.grammar new.words was one other is its

typed_one : (g : GrammarParts) (words : Listed) (text : List ℕ) (was one other : Option Own) → OwnTypes g words text was one → OwnTypes g words text was other
    → other ≡ one
typed_one g words text None one other is its = its ∙ sym is
typed_one g words text (Some own) one other (inl (not_typed, is)) (inl (not_its, its)) = its ∙ sym is
typed_one g words text (Some own) one other (inl (not_typed, is)) (inr (free, its)) = absurd (free not_typed)
typed_one g words text (Some own) one other (inr (free, is)) (inl (not_its, its)) = absurd (free not_its)
typed_one g words text (Some own) one other (inr (free, is)) (inr (its_free, its)) = its ∙ sym is

-- after what is heard the same is seen
pub goes_one : (old : Seen) (heard : apart.Heard) (one other : Seen) → Goes old heard one → Goes old heard other → other ≡ one
goes_one old (apart.opened form) one other (same, (word, named, is)) (its_same, (its_word, its_named, its)) =
    let same_word : its_word ≡ word = same_Some its_word word (sym its_named ∙ named) in
    seen_is other one (its_same ∙ sym same) (its ∙ ap (λ (w : Word). Some (record { article = w.id; tokens = [] })) same_word ∙ sym is)
goes_one old (apart.typed text) one other is its =
    seen_is other one (its.0 ∙ sym is.0) (typed_one old.shared.grammar old.shared.words text old.own one.own other.own is.1 its.1)
goes_one old apart.stepped_back one other is its = seen_is other one (its.0 ∙ sym is.0) (its.1 ∙ sym is.1)
goes_one old apart.committed one other is its = seen_is other one (its.0 ∙ sym is.0) (its.1 ∙ sym is.1)
goes_one old apart.dropped one other is its = seen_is other one (its.0 ∙ sym is.0) (its.1 ∙ sym is.1)
goes_one old (apart.changed request) one other is its =
    let same = shared_one old.shared request one.shared other.shared is.0 its.0 in
    let its_own = subst (λ (shared : Shared). OwnChanges old.shared request shared old.own other.own) same its.1 in
    seen_is other one same (own_one old.shared request one.shared old.own one.own other.own is.1 its_own)

-- what is seen after all that is heard
abbrev pub Follows : Seen → List apart.Heard → Seen → Type 0
Follows old [] new = new ≡ old
Follows old (heard ∷ more) new = (mid : Seen) × Goes old heard mid × Follows mid more new

pub follows_one : (old : Seen) (heard : List apart.Heard) (one other : Seen) → Follows old heard one → Follows old heard other → other ≡ one
follows_one old [] one other is its = its ∙ sym is
follows_one old (heard ∷ more) one other (mid, goes, rest) (its_mid, its_goes, its_rest) =
    follows_one mid more one other rest (subst (λ (m : Seen). Follows m more other) (goes_one old heard mid its_mid goes its_goes) its_rest)

pub follows_append : (old : Seen) (first : List apart.Heard) (mid : Seen) (second : List apart.Heard) (new : Seen) → Follows old first mid
    → Follows mid second new → Follows old (first ++ second) new
follows_append old [] mid second new is rest = subst (λ (m : Seen). Follows m second new) is rest
follows_append old (heard ∷ more) mid second new (next, goes, later) rest = (next, goes, follows_append next more mid second new later rest)
