-- The names in a derivation are live: each word that its skeleton introduces as a name passes a test that each live name passes.
use Rattle.std.proofs.Common.{◌≡◌, ℕ, zero, suc, ◌+◌, ◌-◌, ◌<◌, ◌&&◌, ◌||◌, Bool, true, false, cond, List, [], ◌∷◌, ◌++◌, length, map, filter, take, Option, Some, None, AllPairs, inl, inr, refl, sym, ap, subst, ◌∙◌, arith, append-nil}
use Rattle.std.specs.Prelude.{◌==◌, count_by, flat_map, slice_get, slice_index_or, option_and_then}
use Rattle.std.specs.Option.{option_map_or}
use Rattle.std.specs.Str.{bytes_eq}
use Rattle.std.specs.List.{list_all, list_any}
use Rattle.std.proofs.lemmas.List.Folds.{list_all-append}
use Rattle.std.proofs.lemmas.Bool.{and_from, or_cases, and_parts, eqb-true}
use Rattle.wiki_base.specs.declared.numbers.WordId.{WordId}
use Rattle.wiki_base.proofs.ListLaws.{AllPairs-head, AllPairs-tail}
use Rattle.wiki_base.proofs.BoolLaws.{and_first, and_second}
use Rattle.drs_build.proofs.QuestionLemmas.{children_kept}
use Rattle.lexicon.proofs.Reading.{readings_from_none, readings_none}
use Rattle.codeco_text.specs.Names.{same_bytes}
use Rattle.codeco_terms.specs.declared.values.Value.{Value}
use Rattle.codeco_terms.specs.declared.categories.Ground.{Ground}
use Rattle.codeco_terms.specs.declared.elements.Element.{Element}
use Rattle.codeco_terms.specs.declared.elements.Element.TheVariants.{Preterminal, Sub}
use Rattle.codeco_terms.specs.declared.rules.Label.{Label}
use Rattle.codeco_terms.specs.declared.rules.Rule.{Rule}
use Rattle.codeco_terms.specs.GrammarParts.{GrammarParts}
use Rattle.codeco_checked.specs.declared.labels.Kind.{Kind as PhraseKind}
use Rattle.codeco_checked.specs.declared.labels.LabelRow.{LabelRow}
use Rattle.codeco_checked.specs.declared.labels.Words.{Words}
use Rattle.codeco_checked.specs.declared.labels.Words.TheVariants as words
use Rattle.codeco_checked.specs.declared.fault.GrammarFault.TheVariants.{LabelKind}
use Rattle.codeco_checked.specs.Labels.{label_row, child_kinds, word_names, head_fits, children_fit, words_fit, fits_row, fits_label, FitKinds, is_introduction, is_reference, introduces_behind_tokens, one_if}
use Rattle.codeco_checked.specs.Sound.{IsSound}
use Rattle.scopes.specs.declared.agreement.Test.{Test}
use Rattle.scopes.specs.Resolution.{has_value, agrees}
use Rattle.lexicon.specs.declared.kinds.Kind.{Kind}
use Rattle.lexicon.specs.declared.kinds.Kind.TheVariants.{Name, Noun, Of, Verb, Adjective}
use Rattle.lexicon.specs.declared.words.Word.{Word}
use Rattle.lexicon.specs.Words.{Listed, has_form, SharesNoForm, is_among as is_form}
use Rattle.lexicon.specs.Readings.{reading, readings_from, readings_of_word, readings_of}
use Rattle.derivation_trees.specs.declared.skeletons.Skeleton.{Skeleton}
use Rattle.derivation_trees.specs.declared.skeletons.Skeleton.TheViews.{out-roll-Skeleton}
use Rattle.derivation_trees.specs.Trees.{Node, Nodes, node, none, more}
use Rattle.derivation_trees.specs.Settings.{Setting, matches_preterminal}
use Rattle.derivation_trees.specs.Sentences.{setting_of}
use Rattle.derivation_trees.specs.Instances.{under}
use Rattle.derivation_trees.specs.Derives.{At, Stand, pass, pass_token, pass_child, run, phrase, phrase_of, phrases_of, rule_with, text_category, IsDerivation}
use Rattle.derivation_trees.specs.Skeletons.{word_among, word_in, word_at, word_here, child_here, met, start, end_place, skeleton, skeleton_at, skeletons_at, skeleton_of}
use Rattle.derivations.proofs.ListingLemmas.{Parts, phrase_parts}
use Rattle.drs_build.specs.Nodes.{label_of, is_naming, no_word, own_name, introduced_at, ends_of, names_of, is_name as is_name_word}
use Rattle.derivation_trees.specs.Sketches.{body_of}
use Rattle.drs_build.proofs.NodeLemmas.{names_of_is}
use Rattle.drs_build.proofs.GrammarLemmas.{Found, found, taken}
use Rattle.plain_wiki.specs.Knowledge.{is_name, live_names}
use Rattle.wiki_parts.proofs.NameLemmas.{names_among}
use Rattle.wiki_parts.proofs.PassingLemmas.{words_pass}

-- Readings

not_name : (n : ℕ) (b : Bool) (asked : Test) → asked.name ≡ 0 → 0 < n → ((n == asked.name) && b) ≡ true → ⊥
not_name n b asked named positive h = let e : n ≡ asked.name = eqb-true n asked.name (and_first (n == asked.name) b h) in omega arith

-- only a name has a reading as $name
reading_name : (kind : Kind) (id : WordId) (place : ℕ) (form : List ℕ) (asked : Test) → asked.name ≡ 0 → agrees (reading kind id place form) asked ≡ true
    → is_name kind ≡ true
reading_name Name id place form asked named h = refl
reading_name Noun id place form asked named h =
    absurd (not_name 1 (list_all (has_value (reading Noun id place form).vals) asked.values) asked named (omega arith) h)
reading_name Of id place form asked named h =
    absurd (not_name 2 (list_all (has_value (reading Of id place form).vals) asked.values) asked named (omega arith) h)
reading_name Verb id place form asked named h =
    absurd (not_name 3 (list_all (has_value (reading Verb id place form).vals) asked.values) asked named (omega arith) h)
reading_name Adjective id place form asked named h =
    absurd (not_name 4 (list_all (has_value (reading Adjective id place form).vals) asked.values) asked named (omega arith) h)

abbrev reads_as : Test → List Ground → Bool
reads_as asked readings = list_any (λ reading. agrees reading asked) readings

from_name : (kind : Kind) (id : WordId) (token : List ℕ) (place : ℕ) (forms : List (List ℕ)) (asked : Test) → asked.name ≡ 0
    → reads_as asked (readings_from kind id token place forms) ≡ true → is_name kind ≡ true
from_name kind id token place [] asked named h = absurd cc
from_name kind id token place (form ∷ forms) asked named h = by (from_name kind id token (place + 1) forms asked named) (bytes_eq token form) h
  where
    by : (reads_as asked (readings_from kind id token (place + 1) forms) ≡ true → is_name kind ≡ true)
        → (b : Bool) → reads_as asked (cond b (reading kind id place form ∷ readings_from kind id token (place + 1) forms)
        (readings_from kind id token (place + 1) forms)) ≡ true → is_name kind ≡ true
    by later true k =
        elim (or_cases (agrees (reading kind id place form) asked) (reads_as asked (readings_from kind id token (place + 1) forms)) k) [
          | inl e ↦ reading_name kind id place form asked named e
          | inr e ↦ later e
        ]
    by later false k = later k

word_of_reading : (kind : Kind) (id : WordId) (place : ℕ) (form : List ℕ) → word_among (reading kind id place form).vals ≡ id
word_of_reading Name id place form = refl
word_of_reading Noun id place form = refl
word_of_reading Of id place form = refl
word_of_reading Verb id place form = refl
word_of_reading Adjective id place form = refl

-- the word of a token that is one of the forms
first_word : (kind : Kind) (id : WordId) (token : List ℕ) (place : ℕ) (forms : List (List ℕ)) (others : List Ground) → is_form forms token ≡ true
    → word_in (readings_from kind id token place forms ++ others) ≡ id
first_word kind id token place [] others h = absurd cc
first_word kind id token place (form ∷ forms) others h = by (first_word kind id token (place + 1) forms others) (bytes_eq token form) h
  where
    by : (is_form forms token ≡ true → word_in (readings_from kind id token (place + 1) forms ++ others) ≡ id)
        → (b : Bool) → (b || is_form forms token) ≡ true
        → word_in (cond b (reading kind id place form ∷ readings_from kind id token (place + 1) forms) (readings_from kind id token (place + 1) forms)
        ++ others) ≡ id
    by later true k = word_of_reading kind id place form
    by later false k = later k

-- Bodies of rules that name

-- one preterminal, $name
abbrev names_once : List Element → Bool
names_once body = same_bytes (word_names body) (0 ∷ [])

words_by : (w : Words) (kinds : ℕ → PhraseKind) (body : List Element) → is_name_word w ≡ true → words_fit w kinds body ≡ true → names_once body ≡ true
words_by words.Name kinds body naming h = h
words_by other kinds body naming h = absurd cc

row_names : (kinds : ℕ → PhraseKind) (row : LabelRow) (r : Rule) → is_name_word row.words ≡ true → fits_row kinds row r ≡ true → names_once r.body ≡ true
row_names kinds row r naming h =
    let heads = head_fits row.heads (kinds r.head.name) in
    let children = children_fit row.children (kinds r.head.name) (child_kinds kinds r.body) in
    let fit = words_fit row.words kinds r.body in
    let once = count_by is_introduction r.body == one_if row.introduces in
    let refers = count_by is_reference r.body == one_if row.refers in
    let behind = introduces_behind_tokens false r.body in
    let last = and_parts (heads && children && fit && once && refers) behind h in
    let before = and_parts (heads && children && fit && once) refers last.0 in
    let here = and_parts (heads && children && fit) once before.0 in
    words_by row.words kinds r.body naming (and_parts (heads && children) fit here.0).1

-- in a sound grammar the rule of a label that names has the one preterminal $name
pub naming_body : (g : GrammarParts) (n : ℕ) (r : Rule) (l : Label) → IsSound g → Found g n r → r.label ≡ Some l → is_name_word (label_row l).words ≡ true
    → names_once r.body ≡ true
naming_body g n r l sound at is naming = by (names_once r.body) refl
  where
    fitting : (kinds : ℕ → PhraseKind) → FitKinds g.rules n kinds → names_once r.body ≡ true
    fitting kinds fit =
        let positive : 0 < n = at.positive in
        let count : n ≡ suc (n - 1) = omega arith in
        let all : list_all (fits_label kinds) (take (suc (n - 1)) g.rules) ≡ true =
        ap (λ i. list_all (fits_label kinds) (take i g.rules)) (sym count) ∙ fit.fit in
        row_names kinds (label_row l) r naming
        (ap (λ o. option_map_or (λ x. fits_row kinds (label_row x) r) o true) (sym is) ∙ taken (fits_label kinds) g.rules (n - 1) r at.at all)

    by : (b : Bool) → names_once r.body ≡ b → names_once r.body ≡ true
    by true e = e
    by false e = absurd (sound.faultless (LabelKind n)
        (r, at.positive, at.at, inr (λ kinds fit. let no : true ≡ false = sym (fitting kinds fit) ∙ e in absurd cc)))

naming_rule : (g : GrammarParts) (n : ℕ) (r : Rule) → IsSound g → rule_with g n ≡ Some r → is_naming (label_of g n) ≡ true → names_once r.body ≡ true
naming_rule g n r sound at naming = by r.label refl (sym (ap (λ o. is_naming (option_and_then (λ x. x.label) o)) at) ∙ naming)
  where
    by : (o : Option Label) → r.label ≡ o → is_naming o ≡ true → names_once r.body ≡ true
    by None e k = absurd cc
    by (Some l) e k = naming_body g n r l sound (found g n r at) e k

module _ (test : WordId → Bool) where
  head_passes : (w : Word) (ws : List Word) → is_name w.forms.kind ≡ true → list_all test (names_among (w ∷ ws)) ≡ true → test w.id ≡ true
  head_passes w ws named all =
      and_first (test w.id) (list_all test (names_among ws))
      (sym (ap (λ b. list_all test (map (λ (word : Word). word.id)
      (cond b (w ∷ filter (λ word. is_name word.forms.kind) ws) (filter (λ word. is_name word.forms.kind) ws)))) named) ∙ all)

  tail_passes : (w : Word) (ws : List Word) → list_all test (names_among (w ∷ ws)) ≡ true → list_all test (names_among ws) ≡ true
  tail_passes w ws all = by (is_name w.forms.kind) all
    where
      by : (b : Bool)
          → list_all test (map (λ (word : Word). word.id)
          (cond b (w ∷ filter (λ word. is_name word.forms.kind) ws) (filter (λ word. is_name word.forms.kind) ws))) ≡ true
          → list_all test (names_among ws) ≡ true
      by true k = and_second (test w.id) (list_all test (names_among ws)) k
      by false k = k

  -- a token that reads as $name is a form of a live name
  token_passes : (asked : Test) → asked.name ≡ 0 → (token : List ℕ) (live : List Word) → AllPairs SharesNoForm live → list_all test (names_among live) ≡ true
      → reads_as asked (readings_of live token) ≡ true → test (word_in (readings_of live token)) ≡ true
  token_passes asked named token [] apart all h = absurd cc
  token_passes asked named token (w ∷ ws) apart all h =
      by (token_passes asked named token ws (AllPairs-tail SharesNoForm w ws apart) (tail_passes w ws all)) (has_form token w) refl
    where
      by : (reads_as asked (readings_of ws token) ≡ true → test (word_in (readings_of ws token)) ≡ true)
          → (b : Bool) → has_form token w ≡ b → test (word_in (readings_of_word token w ++ readings_of ws token)) ≡ true
      by later true e =
          let none_behind : readings_of ws token ≡ [] = readings_none ws token (λ k d bound. AllPairs-head SharesNoForm w ws apart k d bound token e) in
          let alone : readings_of_word token w ++ readings_of ws token ≡ readings_of_word token w =
          ap (λ rs. readings_of_word token w ++ rs) none_behind ∙ append-nil (readings_of_word token w) in
          let own : reads_as asked (readings_of_word token w) ≡ true = sym (ap (reads_as asked) alone) ∙ h in
          let is : is_name w.forms.kind ≡ true = from_name w.forms.kind w.id token 0 w.forms.texts asked named own in
          ap test (first_word w.forms.kind w.id token 0 w.forms.texts (readings_of ws token) e) ∙ head_passes w ws is all
      by later false e =
          let same : readings_of_word token w ++ readings_of ws token ≡ readings_of ws token =
          ap (λ rs. rs ++ readings_of ws token) (readings_from_none w.forms.kind w.id token 0 w.forms.texts e) in
          ap (λ rs. test (word_in rs)) same ∙ later (sym (ap (reads_as asked) same) ∙ h)

  place_passes : (asked : Test) → asked.name ≡ 0 → (live : List Word) → AllPairs SharesNoForm live → list_all test (names_among live) ≡ true
      → (tokens : List (List ℕ)) (place : ℕ) → option_map_or (reads_as asked) (slice_get (map (readings_of live) tokens) place) false ≡ true
      → test (option_map_or word_in (slice_get (map (readings_of live) tokens) place) no_word) ≡ true
  place_passes asked named live apart all [] place h = absurd cc
  place_passes asked named live apart all (token ∷ tokens) zero h = token_passes asked named token live apart all h
  place_passes asked named live apart all (token ∷ tokens) (suc place) h = place_passes asked named live apart all tokens place h

  joined_words : (xs ys : List (ℕ × WordId)) → words_pass test xs ≡ true → words_pass test ys ≡ true → words_pass test (xs ++ ys) ≡ true
  joined_words xs ys h k = list_all-append (λ n. test n.1) xs ys ∙ and_from (words_pass test xs) (words_pass test ys) h k

  module _ (g : GrammarParts) (sound : IsSound g) (lexicon : Listed) (apart : AllPairs SharesNoForm lexicon.live)
      (all : list_all test (live_names lexicon) ≡ true) (tokens : List (List ℕ)) where
    abbrev s : Setting
    s = setting_of g lexicon tokens

    abbrev IsLive : Skeleton → Type 0
    IsLive sk = words_pass test (names_of g sk) ≡ true

    -- the first word of a body with the one preterminal $name
    word_passes : (values : List (ℕ × Value)) (es : List Element) (stand after : Stand) → names_once es ≡ true → run s values es stand ≡ Some after
        → test (slice_index_or (met (word_here s) s values es stand) 0 no_word) ≡ true
    word_passes values [] stand after once h = absurd cc
    word_passes values (Preterminal c ∷ es) stand after once h = by (matches_preterminal s (under values c) stand.at.place) refl h
      where
        named : c.name ≡ 0
        named = eqb-true c.name 0 (and_first (c.name == 0) (same_bytes (word_names es) []) once)

        by : (b : Bool) → matches_preterminal s (under values c) stand.at.place ≡ b → option_and_then (run s values es) (pass_token b stand) ≡ Some after
            → test (word_at s stand.at.place) ≡ true
        by true e k = place_passes (under values c) named lexicon.live apart all tokens stand.at.place e
        by false e k = absurd cc
    word_passes values (e ∷ es) stand after once h = by (λ mid k. word_passes values es mid after once k) (pass s values e stand) h
      where
        by : ((mid : Stand) → run s values es mid ≡ Some after → test (slice_index_or (met (word_here s) s values es mid) 0 no_word) ≡ true)
            → (o : Option Stand) → option_and_then (run s values es) o ≡ Some after
            → test (slice_index_or (option_map_or (met (word_here s) s values es) o []) 0 no_word) ≡ true
        by later None k = absurd cc
        by later (Some mid) k = later mid k

    abbrev LiveNode : Node → Type 0
    LiveNode n = (asked : Test) (at after : At) → phrase_of s n asked at ≡ Some after → IsLive (skeleton_at s n at)

    abbrev LiveNodes : Nodes → Type 0
    LiveNodes none = Unit {0}
    LiveNodes (more n ns) = LiveNode n × LiveNodes ns

    abbrev kids_pass : Nodes → List At → Bool
    kids_pass ns ats = words_pass test (flat_map (names_of g) (skeletons_at s ns ats))

    no_kids : (ns : Nodes) → kids_pass ns [] ≡ true
    no_kids none = refl
    no_kids (more n ns) = refl

    walk_children : (values : List (ℕ × Value)) (es : List Element) (ns : Nodes) (stand after : Stand) → LiveNodes ns → stand.children ≡ phrases_of s ns
        → run s values es stand ≡ Some after → kids_pass ns (met child_here s values es stand) ≡ true
    walk_children values [] ns stand after live children h = no_kids ns
    walk_children values (Sub c ∷ es) none stand after live children h = refl
    walk_children values (Sub c ∷ es) (more n ns) stand after live children h =
        by (λ mid same k. walk_children values es ns mid after live.1 same k) (phrase_of s n (under values c) stand.at) refl
        (sym (ap (λ ps. option_and_then (run s values es) (pass_child (under values c) ps stand)) children) ∙ h)
      where
        by : ((mid : Stand) → mid.children ≡ phrases_of s ns → run s values es mid ≡ Some after → kids_pass ns (met child_here s values es mid) ≡ true)
            → (o : Option At) → phrase_of s n (under values c) stand.at ≡ o
            → option_and_then (run s values es)
            (option_and_then (λ at. Some (record { at = at; found = stand.found; own = stand.own; children = phrases_of s ns })) o) ≡ Some after
            → kids_pass (more n ns) (met child_here s values (Sub c ∷ es) stand) ≡ true
        by later None w k = absurd cc
        by later (Some at) w k =
            let mid : Stand = record { at = at; found = stand.found; own = stand.own; children = phrases_of s ns } in
            let passes : pass s values (Sub c) stand ≡ Some mid =
            ap (λ ps. pass_child (under values c) ps stand) children
            ∙ ap (option_and_then (λ a. Some (record { at = a; found = stand.found; own = stand.own; children = phrases_of s ns }))) w in
            joined_words (names_of g (skeleton_at s n stand.at))
            (flat_map (names_of g) (skeletons_at s ns (option_map_or (met child_here s values es) (pass s values (Sub c) stand) [])))
            (live.0 (under values c) stand.at at w)
            (ap (λ o. kids_pass ns (option_map_or (met child_here s values es) o [])) passes ∙ later mid refl k)
    walk_children values (e ∷ es) ns stand after live children h =
        by (λ mid same k. walk_children values es ns mid after live same k) (pass s values e stand) refl h
      where
        by : ((mid : Stand) → mid.children ≡ phrases_of s ns → run s values es mid ≡ Some after → kids_pass ns (met child_here s values es mid) ≡ true)
            → (o : Option Stand) → pass s values e stand ≡ o → option_and_then (run s values es) o ≡ Some after
            → kids_pass ns (option_map_or (met child_here s values es) o []) ≡ true
        by later None w k = absurd cc
        by later (Some mid) w k = later mid (children_kept s values e stand mid refl w ∙ children) k

    own_passes : (number first : ℕ) (given : List WordId) (ends : List ℕ)
        → (is_naming (label_of g number) ≡ true → test (slice_index_or given 0 no_word) ≡ true) → words_pass test (own_name g number first given ends) ≡ true
    own_passes number first given ends passes = by (is_naming (label_of g number)) refl
      where
        by : (b : Bool) → is_naming (label_of g number) ≡ b
            → words_pass test (cond b ((introduced_at (body_of g number) first ends, slice_index_or given 0 no_word) ∷ []) []) ≡ true
        by true e = and_from (test (slice_index_or given 0 no_word)) true (passes e) refl
        by false e = refl

    layer_live : (number first end : ℕ) (positions : List ℕ) (given : List WordId) (kids : List Skeleton)
        → (is_naming (label_of g number) ≡ true → test (slice_index_or given 0 no_word) ≡ true) → words_pass test (flat_map (names_of g) kids) ≡ true
        → IsLive (skeleton number first end positions given kids)
    layer_live number first end positions given kids passes each =
        let out = out-roll-Skeleton (record { rule = number; start = first; end = end; found = positions; words = given; children = kids }) in
        ap (words_pass test) (names_of_is g (skeleton number first end positions given kids))
        ∙ ap (λ layer. words_pass test (own_name g layer.rule layer.start layer.words (ends_of layer.children) ++ flat_map (names_of g) layer.children)) out
        ∙ joined_words (own_name g number first given (ends_of kids)) (flat_map (names_of g) kids) (own_passes number first given (ends_of kids) passes) each

    node_live : (number : ℕ) (values : List (ℕ × Value)) (positions : List ℕ) (children : Nodes) (asked : Test) (at after : At) (rule : Rule)
        → LiveNodes children → rule_with g number ≡ Some rule → phrase s rule values positions (phrases_of s children) asked at ≡ Some after
        → IsLive (skeleton_at s (node number values positions children) at)
    node_live number values positions children asked at after rule live h k =
        let parts : Parts s rule values positions (phrases_of s children) asked at after =
        phrase_parts s rule values positions (phrases_of s children) asked at after k in
        let first : Stand = start rule values positions (phrases_of s children) at in
        let given : List WordId = met (word_here s) s values rule.body first in
        let kids : List Skeleton = skeletons_at s children (met child_here s values rule.body first) in
        let here : skeleton_at s (node number values positions children) at ≡ skeleton number at.place (end_place s rule values first) positions given kids =
        ap (λ o. option_map_or (λ r. skeleton number at.place (end_place s r values (start r values positions (phrases_of s children) at)) positions
        (met (word_here s) s values r.body (start r values positions (phrases_of s children) at))
        (skeletons_at s children (met child_here s values r.body (start r values positions (phrases_of s children) at)))) o
        (skeleton number at.place at.place positions [] [])) h in
        subst IsLive (sym here)
        (layer_live number at.place (end_place s rule values first) positions given kids
        (λ naming. word_passes values rule.body first parts.stand (naming_rule g number rule sound h naming) parts.ran)
        (walk_children values rule.body children first parts.stand live refl parts.ran))

    mutual
      pub each_live : (n : Node) → LiveNode n
      each_live (node number values positions children) asked at after h = by (all_live children) (rule_with g number) refl h
        where
          by : LiveNodes children → (o : Option Rule) → rule_with g number ≡ o
              → option_and_then (λ r. phrase s r values positions (phrases_of s children) asked at) o ≡ Some after
              → IsLive (skeleton_at s (node number values positions children) at)
          by live None w k = absurd cc
          by live (Some rule) w k = node_live number values positions children asked at after rule live w k

      all_live : (ns : Nodes) → LiveNodes ns
      all_live none = tt
      all_live (more n ns) = (each_live n, all_live ns)

    -- each name of a derivation's skeleton passes
    pub names_pass_live : (tree : Node) → IsDerivation s tree → words_pass test (names_of g (skeleton_of s tree)) ≡ true
    names_pass_live tree h = each_live tree text_category (record { place = 0; list = [] }) (record { place = length tokens; list = h.0 }) h.1
