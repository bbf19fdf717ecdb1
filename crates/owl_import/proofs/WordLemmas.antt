-- The words of entities.
use Rattle.std.proofs.Common.{◌≡◌, ℕ, ◌+◌, ◌<◌, ◌≤◌, Bool, false, List, [], ◌∷◌, ◌++◌, length, take, Some, None, refl, sym, ap, subst, ◌∙◌, arith, length-append, append-nil, append_assoc}
use Rattle.std.specs.Prelude.{◌==◌, if◌then◌else◌, slice_get, map, min, drop}
use Rattle.std.specs.List.{flat_map}
use Rattle.std.proofs.lemmas.Bool.Decides.{nat_tests}
use Rattle.std.proofs.lemmas.Grind.{flat_map-append}
use Rattle.std.proofs.lemmas.List.{take_more, drop_more, take_min, length-take-le}
use Rattle.std.proofs.lemmas.Option.{slice_get_within, get_or_from_slice_get}
use Rattle.codeco_terms.specs.GrammarParts.{GrammarParts}
use Rattle.lexicon.specs.declared.words.Word.{Word}
use Rattle.lexicon.specs.declared.words.LexFault.TheVariants.{Full}
use Rattle.lexicon.specs.declared.words.LexLimit.TheVariants.{Words, Numbers}
use Rattle.lexicon.specs.declared.words.TheConstants.{MOST_WORDS, LAST_NUMBER}
use Rattle.lexicon.specs.Words.{Listed, fullness, next_word}
use Rattle.owl_reader.specs.declared.kinds.Entity.{Entity}
use Rattle.owl_words.specs.Chosen.{AddsWord}
use Rattle.owl_import.specs.Words.{word_kind, AddsWords, no_words, word_line, enclosed}

-- one word more
pub adds_more : (old : Listed) (es : List Entity) (mid : Listed) (e : Entity) (new : Listed) → AddsWords old es mid
    → AddsWord mid (word_kind e.kind) e.iri new → AddsWords old (es ++ e ∷ []) new
adds_more old [] mid e new same adds = (new, subst (λ (from : Listed). AddsWord from (word_kind e.kind) e.iri new) same adds, refl)
adds_more old (first ∷ es) mid e new so_far adds = (so_far.0, so_far.1, adds_more so_far.0 es mid e new so_far.2 adds)

-- the words of the entities up to a place, and then of the one there
pub adds_at : (old : Listed) (entities : List Entity) (k : ℕ) (e : Entity) (mid new : Listed) → slice_get entities k ≡ Some e
    → AddsWords old (take k entities) mid → AddsWord mid (word_kind e.kind) e.iri new → AddsWords old (take (k + 1) entities) new
adds_at old entities k e mid new at so_far adds =
    subst (λ (es : List Entity). AddsWords old es new)
    (sym (take_more entities k e (slice_get_within entities k e at)
    ∙ ap (λ (it : Entity). take k entities ++ it ∷ []) (get_or_from_slice_get entities k e e at)))
    (adds_more old (take k entities) mid e new so_far adds)

-- the grammar's words stay
pub adds_terminals : (old : Listed) (es : List Entity) (new : Listed) → AddsWords old es new → new.terminals ≡ old.terminals
adds_terminals old [] new same = ap (λ (l : Listed). l.terminals) same
adds_terminals old (e ∷ es) new adds = adds_terminals adds.0 es new adds.2 ∙ ap (λ (l : Listed). l.terminals) adds.1.1.added

-- how many words there are then, and the last number
pub adds_count : (old : Listed) (es : List Entity) (new : Listed) → AddsWords old es new
    → (length new.live ≡ length old.live + length es) × (new.last ≡ old.last + length es)
adds_count old [] new same =
    let live : length old.live ≡ length old.live + 0 = omega arith in
    let last : old.last ≡ old.last + 0 = omega arith in
    (ap (λ (l : Listed). length l.live) same ∙ live, ap (λ (l : Listed). l.last) same ∙ last)
adds_count old (e ∷ es) new adds =
    let rest = adds_count adds.0 es new adds.2 in
    let longer : length adds.0.live ≡ length old.live + 1 =
    ap (λ (l : Listed). length l.live) adds.1.1.added ∙ length-append old.live (next_word old adds.1.1.forms ∷ []) in
    let later : adds.0.last ≡ old.last + 1 = ap (λ (l : Listed). l.last) adds.1.1.added in
    (omega (arith, rest.0, longer), omega (arith, rest.1, later))

-- fewer words than there may be leave room
few_fit : (listed : Listed) → length listed.live < MOST_WORDS → listed.last < LAST_NUMBER → fullness listed ≡ None
few_fit listed few low =
    let words : (length listed.live == MOST_WORDS) ≡ false = grind (arith, nat_tests) in
    let numbers : (listed.last == LAST_NUMBER) ≡ false = grind (arith, nat_tests) in
    ap (λ (b : Bool). if b then Some (Full Words) else (if listed.last == LAST_NUMBER then Some (Full Numbers) else None)) words
    ∙ ap (λ (b : Bool). if b then Some (Full Numbers) else None) numbers

pub adds_room : (g : GrammarParts) (es : List Entity) (words : Listed) → AddsWords (no_words g) es words → length es < MOST_WORDS
    → fullness words ≡ None
adds_room g es words adds few =
    let count = adds_count (no_words g) es words adds in
    few_fit words (omega (arith, count.0)) (omega (arith, count.1))

-- a list of words by its parts
pub listed_from : (l : Listed) (terminals : List (List ℕ)) → l.live ≡ [] → l.terminals ≡ terminals → l.last ≡ 0
    → l ≡ record { live = []; terminals = terminals; last = 0 }
listed_from l terminals none same zero =
    ap (λ (x : List Word). record { live = x; terminals = l.terminals; last = l.last }) none
    ∙ ap (λ (x : List (List ℕ)). record { live = []; terminals = x; last = l.last }) same
    ∙ ap (λ (x : ℕ). record { live = []; terminals = terminals; last = x }) zero

-- one line more
pub lines_more : (words : List Word) (k : ℕ) (word : Word) (start so_far line : List ℕ) → slice_get words k ≡ Some word
    → so_far ≡ start ++ flat_map word_line (take k words) → line ≡ word_line word → so_far ++ line ≡ start ++ flat_map word_line (take (k + 1) words)
lines_more words k word start so_far line at before is =
    let step : take (k + 1) words ≡ take k words ++ word ∷ [] =
    take_more words k word (slice_get_within words k word at)
    ∙ ap (λ (w : Word). take k words ++ w ∷ []) (get_or_from_slice_get words k word word at) in
    let joined : flat_map word_line (take (k + 1) words) ≡ flat_map word_line (take k words) ++ word_line word =
    ap (flat_map word_line) step ∙ flat_map-append word_line (take k words) (word ∷ [])
    ∙ ap (λ (l : List ℕ). flat_map word_line (take k words) ++ l) (append-nil (word_line word)) in
    ap (λ (l : List ℕ). l ++ line) before ∙ append_assoc start (flat_map word_line (take k words)) line
    ∙ ap (λ (l : List ℕ). start ++ (flat_map word_line (take k words) ++ l)) is ∙ sym (ap (λ (l : List ℕ). start ++ l) joined)

-- the words of fewer entities than there may be words leave room for one more
pub room_at : (g : GrammarParts) (es : List Entity) (k : ℕ) (words : Listed) → AddsWords (no_words g) (take k es) words → k < min MOST_WORDS (length es)
    → fullness words ≡ None
room_at g es k words adds within =
    let inside : k ≤ length es = omega arith in
    let few : length (take k es) < MOST_WORDS = omega (arith, length-take-le k es inside) in
    adds_room g (take k es) words adds few

-- the words of all that get one
pub adds_all : (g : GrammarParts) (es : List Entity) (k : ℕ) (words : Listed) → AddsWords (no_words g) (take k es) words → k ≡ min MOST_WORDS (length es)
    → AddsWords (no_words g) (take MOST_WORDS es) words
adds_all g es k words adds is =
    subst (λ (those : List Entity). AddsWords (no_words g) those words) (ap (λ (n : ℕ). take n es) is ∙ take_min MOST_WORDS es) adds

-- one IRI more
pub iris_more : (es : List Entity) (k : ℕ) (e : Entity) (iris : List (List ℕ)) (text : List ℕ) (whole : List (List ℕ)) → slice_get es k ≡ Some e
    → text ≡ enclosed e → iris ++ map enclosed (drop k es) ≡ whole → (iris ++ text ∷ []) ++ map enclosed (drop (k + 1) es) ≡ whole
iris_more es k e iris text whole at is before =
    let rest = map enclosed (drop (k + 1) es) in
    let step : drop k es ≡ e ∷ drop (k + 1) es =
    drop_more es k e (slice_get_within es k e at) ∙ ap (λ (it : Entity). it ∷ drop (k + 1) es) (get_or_from_slice_get es k e e at) in
    append_assoc iris (text ∷ []) rest ∙ ap (λ (t : List ℕ). iris ++ t ∷ rest) is ∙ sym (ap (λ (those : List Entity). iris ++ map enclosed those) step) ∙ before
