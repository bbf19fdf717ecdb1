-- Each token of a sentence is a terminal or a form of a live word.
use Rattle.std.proofs.Common.{◌≡◌, ℕ, zero, suc, ◌+◌, ◌<◌, ◌≤◌, List, [], ◌∷◌, map, length, Bool, true, false, ◌||◌, ◌⊎◌, inl, inr, Option, Some, None, refl, sym, ap, subst, ◌∙◌, arith}
use Rattle.std.specs.Prelude.{if◌then◌else◌, option_and_then, slice_get}
use Rattle.std.specs.Option.{option_map_or}
use Rattle.std.specs.List.{list_any}
use Rattle.std.specs.Str.{bytes_eq}
use Rattle.std.proofs.lemmas.Bool.{false≢true, cases_lt}
use Rattle.std.proofs.lemmas.Option.{none-some, same_Some}
use Rattle.wiki_base.specs.declared.numbers.WordId.{WordId}
use Rattle.codeco_terms.specs.declared.values.Value.{Value}
use Rattle.codeco_terms.specs.declared.values.Value.TheVariants.{Pos}
use Rattle.codeco_terms.specs.declared.categories.Pattern.{Pattern}
use Rattle.codeco_terms.specs.declared.categories.Ground.{Ground}
use Rattle.codeco_terms.specs.declared.elements.Element.{Element}
use Rattle.codeco_terms.specs.declared.elements.Element.TheVariants.{Terminal, Preterminal, Sub, Position, Opener, Forward, Strong, Back, NoBack}
use Rattle.codeco_terms.specs.declared.rules.Rule.{Rule}
use Rattle.codeco_terms.specs.GrammarParts.{GrammarParts}
use Rattle.codeco_terms.specs.Values.{same_value}
use Rattle.scopes.specs.declared.agreement.Test.{Test}
use Rattle.scopes.specs.Resolution.{Finding, closest_finding, is_agreeing, agrees}
use Rattle.lexicon.specs.declared.words.Word.{Word}
use Rattle.lexicon.specs.Words.{Listed, owner}
use Rattle.lexicon.specs.Readings.{readings_of}
use Rattle.derivation_trees.specs.Trees.{Node, Nodes, node, none, more}
use Rattle.derivation_trees.specs.Settings.{Setting, matches_terminal, matches_preterminal}
use Rattle.derivation_trees.specs.Instances.{value_under, under, tests_under, own_values}
use Rattle.derivation_trees.specs.Cutting.{is_terminal}
use Rattle.derivation_trees.specs.Derives.{At, Stand, Phrase, pass, pass_token, pass_child, pass_finding, run, phrase, phrase_of, phrases_of, rule_with, is_found, reference_tests}
use Rattle.derivation_trees.specs.Sentences.{setting_of, IsSentence}
use Rattle.derivation_trees.proofs.ReadingLemmas.{unread}
use Rattle.derivations.proofs.ListingLemmas.{Parts, phrase_parts}
use Rattle.derivations.proofs.GrowLemmas.{Each}

-- the token at a place is a terminal, or it has a reading
abbrev KnownAt : Setting → ℕ → Type 0
KnownAt s k =
    (token : List ℕ) → slice_get s.tokens k ≡ Some token
    → (is_terminal s.grammar.terminals token ≡ true) ⊎ ((readings : List Ground) × (slice_get s.readings k ≡ Some readings) × (readings ≡ [] → ⊥))

-- so is each from a place to before another
abbrev KnownFrom : Setting → ℕ → ℕ → Type 0
KnownFrom s i j = (k : ℕ) → i ≤ k → k < j → KnownAt s k

known_join : (s : Setting) (i j l : ℕ) → KnownFrom s i j → KnownFrom s j l → KnownFrom s i l
known_join s i j l one two k low high = by (cases_lt k j)
  where
    by : (k < j) ⊎ (j ≤ k) → KnownAt s k
    by (inl before) = one k low before
    by (inr behind) = two k behind high

-- what a phrase passes is known
abbrev Knowing : Setting → Phrase → Type 0
Knowing s p = (asked : Test) (at after : At) → p asked at ≡ Some after → KnownFrom s at.place after.place

-- what is known after elements that were passed
record Met (s : Setting) (stand after : Stand) : Type 0 where
  pub known : KnownFrom s stand.at.place after.at.place
  pub rest : Each (Knowing s) after.children

-- ---- the elements

found_terminal : (terminals : List (List ℕ)) (number : ℕ) (token : List ℕ) → option_map_or (bytes_eq token) (slice_get terminals number) false ≡ true
    → is_terminal terminals token ≡ true
found_terminal [] number token h = absurd (false≢true h)
found_terminal (x ∷ xs) zero token h = by (bytes_eq token x) h
  where
    by : (b : Bool) → b ≡ true → (b || is_terminal xs token) ≡ true
    by true is = refl
    by false is = absurd (false≢true is)
found_terminal (x ∷ xs) (suc number) token h = by (bytes_eq token x) (found_terminal xs number token h)
  where
    by : (b : Bool) → is_terminal xs token ≡ true → (b || is_terminal xs token) ≡ true
    by true rest = refl
    by false rest = rest

terminal_known : (s : Setting) (number place : ℕ) → matches_terminal s number place ≡ true → KnownAt s place
terminal_known s number place h token at =
    inl (found_terminal s.grammar.terminals number token
    (ap (λ (o : Option (List ℕ)). option_map_or (λ t. option_map_or (bytes_eq t) (slice_get s.grammar.terminals number) false) o false) (sym at) ∙ h))

has_reading : (test : Ground → Bool) (readings : List Ground) → list_any test readings ≡ true → readings ≡ [] → ⊥
has_reading test readings h empty = false≢true (ap (list_any test) (sym empty) ∙ h)

preterminal_known : (s : Setting) (asked : Test) (place : ℕ) → matches_preterminal s asked place ≡ true → KnownAt s place
preterminal_known s asked place h token at = by (slice_get s.readings place) refl h
  where
    by : (o : Option (List Ground)) → slice_get s.readings place ≡ o
        → option_map_or (λ readings. list_any (λ reading. agrees reading asked) readings) o false ≡ true
        → (is_terminal s.grammar.terminals token ≡ true) ⊎ ((readings : List Ground) × (slice_get s.readings place ≡ Some readings) × (readings ≡ [] → ⊥))
    by None is h = absurd (false≢true h)
    by (Some readings) is h = inr (readings, is, has_reading (λ reading. agrees reading asked) readings h)

token_met : (s : Setting) (b : Bool) (stand after : Stand) → (b ≡ true → KnownAt s stand.at.place) → Each (Knowing s) stand.children
    → pass_token b stand ≡ Some after → Met s stand after
token_met s false stand after known all h = absurd (none-some after h)
token_met s true stand after known all h =
    subst (Met s stand) (same_Some (record {
      at = record { place = stand.at.place + 1; list = stand.at.list };
      found = stand.found;
      own = stand.own;
      children = stand.children;
    }) after h)
    (record {
      known = λ k low high. subst (KnownAt s) (let same : stand.at.place ≡ k = omega (arith, low, high) in same) (known refl);
      rest = all;
    })

stays : (s : Setting) (stand mid after : Stand) → mid.at.place ≡ stand.at.place → mid.children ≡ stand.children → Each (Knowing s) stand.children
    → Some mid ≡ Some after → Met s stand after
stays s stand mid after place children all h =
    subst (Met s stand) (same_Some mid after h)
    (record {
      known = λ k low high. absurd (omega (arith, low, high, place));
      rest = subst (Each (Knowing s)) (sym children) all;
    })

tested : (s : Setting) (b : Bool) (stand mid after : Stand) → mid.at.place ≡ stand.at.place → mid.children ≡ stand.children → Each (Knowing s) stand.children
    → (if b then Some mid else None) ≡ Some after → Met s stand after
tested s true stand mid after place children all h = stays s stand mid after place children all h
tested s false stand mid after place children all h = absurd (none-some after h)

untested : (s : Setting) (b : Bool) (stand after : Stand) → Each (Knowing s) stand.children → (if b then None else Some stand) ≡ Some after → Met s stand after
untested s true stand after all h = absurd (none-some after h)
untested s false stand after all h = stays s stand stand after refl refl all h

finding_met : (s : Setting) (values : List (ℕ × Value)) (positive : List Pattern) (finding : Option Finding) (found : List ℕ) (stand after : Stand)
    → Each (Knowing s) stand.children → pass_finding values positive finding found stand ≡ Some after → Met s stand after
finding_met s values positive finding [] stand after all h = absurd (none-some after h)
finding_met s values positive finding (pos ∷ rest) stand after all h =
    tested s (is_found values positive pos finding) stand (record { at = stand.at; found = rest; own = stand.own; children = stand.children }) after refl refl
    all h

child_met : (s : Setting) (asked : Test) (children : List Phrase) (stand after : Stand) → Each (Knowing s) children
    → pass_child asked children stand ≡ Some after → Met s stand after
child_met s asked [] stand after all h = absurd (none-some after h)
child_met s asked (p ∷ ps) stand after all h = by (p asked stand.at) refl h
  where
    by : (o : Option At) → p asked stand.at ≡ o
        → option_and_then (λ at. Some (record { at = at; found = stand.found; own = stand.own; children = ps })) o ≡ Some after → Met s stand after
    by None is k = absurd (none-some after k)
    by (Some at) is k =
        subst (Met s stand) (same_Some (record { at = at; found = stand.found; own = stand.own; children = ps }) after k)
        (record { known = all.0 asked stand.at at is; rest = all.1 })

pass_met : (s : Setting) (values : List (ℕ × Value)) (e : Element) (stand after : Stand) → Each (Knowing s) stand.children
    → pass s values e stand ≡ Some after → Met s stand after
pass_met s values (Terminal t) stand after all h =
    token_met s (matches_terminal s t stand.at.place) stand after (λ is. terminal_known s t stand.at.place is) all h
pass_met s values (Preterminal c) stand after all h =
    token_met s (matches_preterminal s (under values c) stand.at.place) stand after (λ is. preterminal_known s (under values c) stand.at.place is) all h
pass_met s values (Sub c) stand after all h = child_met s (under values c) stand.children stand after all h
pass_met s values (Position x) stand after all h =
    tested s (same_value (value_under values x) (Pos stand.at.place)) stand stand after refl refl all h
pass_met s values Opener stand after all h = stays s stand _ after refl refl all h
pass_met s values (Forward c) stand after all h = stays s stand _ after refl refl all h
pass_met s values (Strong c) stand after all h = stays s stand _ after refl refl all h
pass_met s values (Back positive negative) stand after all h =
    finding_met s values positive (closest_finding (reference_tests values positive negative) stand.at.list) stand.found stand after all h
pass_met s values (NoBack patterns) stand after all h = untested s (list_any (is_agreeing (tests_under values patterns)) stand.at.list) stand after all h

run_known : (s : Setting) (values : List (ℕ × Value)) (es : List Element) (stand after : Stand) → Each (Knowing s) stand.children
    → run s values es stand ≡ Some after → KnownFrom s stand.at.place after.at.place
run_known s values [] stand after all h =
    let same : stand.at.place ≡ after.at.place = ap (λ (t : Stand). t.at.place) (same_Some stand after h) in
    λ k low high. absurd (omega (arith, low, high, same))
run_known s values (e ∷ es) stand after all h = by (λ mid rest k. run_known s values es mid after rest k) (pass s values e stand) refl h
  where
    by : ((mid : Stand) → Each (Knowing s) mid.children → run s values es mid ≡ Some after → KnownFrom s mid.at.place after.at.place) → (o : Option Stand)
        → pass s values e stand ≡ o → option_and_then (run s values es) o ≡ Some after → KnownFrom s stand.at.place after.at.place
    by later None is k = absurd (none-some after k)
    by later (Some mid) is k =
        let one : Met s stand mid = pass_met s values e stand mid all is in
        known_join s stand.at.place mid.at.place after.at.place one.known (later mid one.rest k)

-- ---- trees

mutual
  node_known : (s : Setting) (n : Node) → Knowing s (phrase_of s n)
  node_known s (node number values found children) asked at after h = by (nodes_known s children) (rule_with s.grammar number) h
    where
      by : Each (Knowing s) (phrases_of s children) → (o : Option Rule)
          → option_and_then (λ r. phrase s r values found (phrases_of s children) asked at) o ≡ Some after → KnownFrom s at.place after.place
      by all None k = absurd (none-some after k)
      by all (Some rule) k =
          let parts : Parts s rule values found (phrases_of s children) asked at after =
          phrase_parts s rule values found (phrases_of s children) asked at after k in
          subst (λ (a : At). KnownFrom s at.place a.place) (sym parts.ends)
          (run_known s values rule.body (record { at = at; found = found; own = own_values rule values; children = phrases_of s children }) parts.stand all
          parts.ran)

  nodes_known : (s : Setting) (ns : Nodes) → Each (Knowing s) (phrases_of s ns)
  nodes_known s none = tt
  nodes_known s (more n ns) = (node_known s n, nodes_known s ns)

-- ---- sentences

-- the token is a terminal, or a live word has it as a form
abbrev pub IsTerminalOrForm : GrammarParts → Listed → List ℕ → Type 0
IsTerminalOrForm g words token = (is_terminal g.terminals token ≡ true) ⊎ ((word : WordId) × (owner words.live token ≡ Some word))

mapped_at : {X Y : Type 0} (f : X → Y) (xs : List X) (k : ℕ) (x : X) → slice_get xs k ≡ Some x → slice_get (map f xs) k ≡ Some (f x)
mapped_at f [] k x h = absurd (none-some x h)
mapped_at f (y ∷ ys) zero x h = ap (λ z. Some (f z)) (same_Some y x h)
mapped_at f (y ∷ ys) (suc k) x h = mapped_at f ys k x h

owned : (live : List Word) (token : List ℕ) → (readings_of live token ≡ [] → ⊥) → (word : WordId) × (owner live token ≡ Some word)
owned live token read = by (owner live token) refl
  where
    by : (o : Option WordId) → owner live token ≡ o → (word : WordId) × (owner live token ≡ Some word)
    by None is = absurd (read (unread live token is))
    by (Some word) is = (word, is)

pub sentence_known : (g : GrammarParts) (words : Listed) (tokens : List (List ℕ)) → IsSentence g words tokens → (k : ℕ) (token : List ℕ) → k < length tokens
    → slice_get tokens k ≡ Some token → IsTerminalOrForm g words token
sentence_known g words tokens (tree, (after, derives)) k token within at =
    by (node_known (setting_of g words tokens) tree _ _ _ derives k (omega arith) within token at)
  where
    by : (is_terminal g.terminals token ≡ true)
        ⊎ ((readings : List Ground) × (slice_get (map (readings_of words.live) tokens) k ≡ Some readings) × (readings ≡ [] → ⊥))
        → IsTerminalOrForm g words token
    by (inl terminal) = inl terminal
    by (inr (readings, is, some)) =
        let same : readings ≡ readings_of words.live token =
        same_Some readings (readings_of words.live token) (sym is ∙ mapped_at (readings_of words.live) tokens k token at) in
        inr (owned words.live token (λ empty. some (same ∙ empty)))
