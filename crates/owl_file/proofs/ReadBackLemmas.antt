-- A file that was written is read as what was written.
use Rattle.std.proofs.Common.{◌≡◌, ℕ, suc, ◌+◌, ◌<◌, Bool, true, false, cond, eqb, List, [], ◌∷◌, ◌++◌, map, length, take, get_or, Some, unwrap_or, All, AllPairs, refl, sym, ap, subst, ◌∙◌, arith, append_assoc, codes}
use Rattle.std.specs.Prelude.{find}
use Rattle.std.specs.List.{list_all, AllByRecursion}
use Rattle.std.specs.Str.{IsUtf8, bytes_eq}
use Rattle.std.proofs.Math.Seq.{take-length}
use Rattle.std.proofs.lemmas.List.Folds.{list_any_at}
use Rattle.std.proofs.lemmas.Option.{unwrap_or-slice_get}
use Rattle.std.proofs.lemmas.Str.{utf8_valid_len-IsUtf8}
use Rattle.std.specs.Str.Lossy.{utf8_valid_len}
use Rattle.wiki_base.specs.declared.numbers.WordId.{WordId}
use Rattle.wiki_base.specs.Text.{IsText}
use Rattle.wiki_base.proofs.ListLaws.{AllPairs-head, AllPairs-tail}
use Rattle.wiki_base.proofs.NumberLaws.{eqb_refl}
use Rattle.logic_terms.specs.Concept.{Claim}
use Rattle.lexicon.specs.declared.kinds.Kind.{Kind}
use Rattle.lexicon.specs.declared.kinds.Kind.TheVariants as word_kind
use Rattle.lexicon.specs.declared.words.Word.{Word}
use Rattle.lexicon.specs.Kinds.{form_count, canonical_place, IsComplete}
use Rattle.lexicon.specs.Words.{Listed, IsLexicon, SharesNoForm, has_number, has_form, canonical_form_of}
use Rattle.owl_tokens.specs.Tokens.{Whole, is_word_byte, Cuts, has_mark, utf8_front, ending_of, FileCuts, IsCut}
use Rattle.owl_reader.specs.Grammar.{same_bytes}
use Rattle.owl_reader.specs.declared.kinds.Entity.{Entity}
use Rattle.owl_reader.specs.Names.{word_of}
use Rattle.owl_reader.proofs.Tables.{pointwise_same}
use Rattle.owl_grammar.specs.Files.{File, spelled_file, entities_of, claims_of_file, claims_in}
use Rattle.owl_grammar.proofs.Numbers.{same_bytes-refl}
use Rattle.owl_grammar.proofs.Words.{same_bytes-true}
use Rattle.std.specs.List.{flat_map}
use Rattle.owl_file.specs.Written.{canonical_text, entity_kind, declaration, text_of, file_text}
use Rattle.owl_file.specs.ReadBack.{entity_of as word_entity, placed, claim_with, ReadsBack}
use Rattle.owl_file.proofs.TokenLemmas.{Lexes, Cutting}
use Rattle.owl_file.proofs.SpellingLemmas.{written_file, lines_text, file_lexes}
use Rattle.owl_file.proofs.FormLemmas.{text_bytes, inner_utf8}
use Rattle.owl_file.proofs.FitLemmas.{prefixes, written_is_file}
use Rattle.owl_file.proofs.SayingLemmas.{all_said}
use Rattle.owl_file.proofs.EntityLemmas.{Apart, found_text, place_found, all_entities}

-- ---- canonical forms

by_places : {X : Type 0} (P : X → Type 0) (xs : List X) → ((k : ℕ) (d : X) → k < length xs → P (get_or xs k d)) → AllByRecursion P xs
by_places P [] h = tt
by_places P (x ∷ xs) h = (h 0 x (omega arith), by_places P xs (λ k d lt. h (suc k) d (omega arith)))

place_within : (w : Word) → IsComplete w.forms → canonical_place w.forms.kind < length w.forms.texts
place_within w h = by w.forms.kind h
  where
    by : (k : Kind) → length w.forms.texts ≡ form_count k → canonical_place k < length w.forms.texts
    by word_kind.Noun e = omega (arith, e)
    by word_kind.Verb e = omega (arith, e)
    by word_kind.Name e = omega (arith, e)
    by word_kind.Of e = omega (arith, e)
    by word_kind.Adjective e = omega (arith, e)

canonical_there : (w : Word) → canonical_text w ≡ get_or w.forms.texts (canonical_place w.forms.kind) []
canonical_there w = unwrap_or-slice_get w.forms.texts (canonical_place w.forms.kind) []

-- it is a form of its word
own_form : (w : Word) → IsComplete w.forms → has_form (canonical_text w) w ≡ true
own_form w h =
    let t : List ℕ = canonical_text w in
    list_any_at (bytes_eq t) w.forms.texts (canonical_place w.forms.kind) [] (place_within w h)
    (ap (bytes_eq t) (sym (canonical_there w)) ∙ pointwise_same t t ∙ same_bytes-refl t)

-- and of no other
another : (x y : Word) → SharesNoForm x y → IsComplete x.forms → IsComplete y.forms → same_bytes (canonical_text y) (canonical_text x) ≡ false
another x y apart whole_x whole_y = by (same_bytes (canonical_text y) (canonical_text x)) refl
  where
    by : (b : Bool) → same_bytes (canonical_text y) (canonical_text x) ≡ b → b ≡ false
    by false e = refl
    by true e =
        let same : canonical_text y ≡ canonical_text x = same_bytes-true (canonical_text y) (canonical_text x) e in
        sym (own_form y whole_y) ∙ ap (λ t. has_form t y) same ∙ apart (canonical_text x) (own_form x whole_x)

words_apart : (live : List Word) → AllPairs SharesNoForm live → All (λ w. IsComplete w.forms) live → Apart live
words_apart [] pairs whole = tt
words_apart (x ∷ xs) pairs whole = (
  by_places (λ y. same_bytes (canonical_text y) (canonical_text x) ≡ false) xs
      (λ k d lt. another x (get_or xs k d) (AllPairs-head SharesNoForm x xs pairs k d lt) (whole 0 x (omega arith)) (whole (suc k) d (omega arith))),
  words_apart xs (AllPairs-tail SharesNoForm x xs pairs) (λ k d lt. whole (suc k) d (omega arith)),
)

-- ---- the bytes of forms

-- what stands before and after a form in the line of its word
around : (f d k c r : List ℕ) → f ++ (((d ++ ((k ++ 40 ∷ 58 ∷ (c ++ 41 ∷ [])) ++ 41 ∷ [])) ++ 10 ∷ []) ++ r)
    ≡ (f ++ (d ++ (k ++ 40 ∷ []))) ++ 58 ∷ (c ++ 41 ∷ 41 ∷ 10 ∷ r)
around f d k c r = simp append_assoc refl

forms_utf8 : (front : List ℕ) (live : List Word) (rest : List ℕ) → IsUtf8 (front ++ (text_of (map declaration live) ++ rest))
    → AllByRecursion (λ w. IsUtf8 (canonical_text w)) live
forms_utf8 front [] rest utf8 = tt
forms_utf8 front (w ∷ ws) rest utf8 =
    let line : List ℕ = declaration w ++ codes "\n" in
    let more : List ℕ = text_of (map declaration ws) in
    let d : List ℕ = codes "Declaration(" in
    let k : List ℕ = entity_kind w.forms.kind in
    let split : front ++ (text_of (map declaration (w ∷ ws)) ++ rest) ≡ front ++ (line ++ (more ++ rest)) =
    ap (λ (l : List ℕ). front ++ l) (append_assoc line more rest) in (
      inner_utf8 (front ++ (d ++ (k ++ 40 ∷ []))) (canonical_text w) (41 ∷ 10 ∷ (more ++ rest)) 58 41 (omega arith) (omega arith)
          (subst IsUtf8 (split ∙ around front d k (canonical_text w) (more ++ rest)) utf8),
      forms_utf8 (front ++ line) ws rest (subst IsUtf8 (split ∙ sym (append_assoc front line (more ++ rest))) utf8),
    )

forms_plain : (live : List Word) → All (λ w. IsComplete w.forms) live → All (λ w. All IsText w.forms.texts) live
    → AllByRecursion (λ w. IsUtf8 (canonical_text w)) live → AllByRecursion (λ w. list_all is_word_byte (canonical_text w) ≡ true) live
forms_plain [] whole texts utf8 = tt
forms_plain (w ∷ ws) whole texts utf8 =
    let text : IsText (canonical_text w) =
    subst IsText (sym (canonical_there w)) (texts 0 w (omega arith) (canonical_place w.forms.kind) [] (place_within w (whole 0 w (omega arith)))) in (
      text_bytes (canonical_text w) utf8.0 text,
      forms_plain ws (λ k d lt. whole (suc k) d (omega arith)) (λ k d lt. texts (suc k) d (omega arith)) utf8.1,
    )

any_plain : (live : List Word) → AllByRecursion (λ w. list_all is_word_byte (canonical_text w) ≡ true) live → (a : WordId)
    → list_all is_word_byte (unwrap_or (canonical_form_of live a) []) ≡ true
any_plain [] all a = refl
any_plain (w ∷ ws) all a = by (has_number a w) (any_plain ws all.1 a)
  where
    by : (b : Bool) → list_all is_word_byte (found_text (find (has_number a) ws)) ≡ true
        → list_all is_word_byte (found_text (cond b (Some w) (find (has_number a) ws))) ≡ true
    by true later = all.0
    by false later = later

-- ---- the text as a file

module _ (words : Listed) (claims : List Claim) (text : List ℕ) (is : text ≡ file_text words claims) (lexicon : IsLexicon words) (utf8 : IsUtf8 text) where
  plain : AllByRecursion (λ w. list_all is_word_byte (canonical_text w) ≡ true) words.live
  plain =
      forms_plain words.live lexicon.complete lexicon.spelled
      (forms_utf8 (codes "Prefix(:=<urn:acewiki:>)\nOntology(<urn:acewiki>\n") words.live _
      (subst IsUtf8 (is ∙ ap (λ (l : List ℕ). codes "Prefix(:=<urn:acewiki:>)\nOntology(<urn:acewiki>\n" ++ l) (lines_text words claims)) utf8))

  lexed : Lexes text (spelled_file (written_file words claims))
  lexed = subst (λ (t : List ℕ). Lexes t (spelled_file (written_file words claims))) (sym is) (file_lexes words claims (any_plain words.live plain) plain)

  cutting : Cutting text 0 (spelled_file (written_file words claims))
  cutting = lexed.cut text 0 refl

  is_cut : IsCut text cutting.tokens (Whole cutting.end)
  is_cut = subst (λ b. FileCuts b text cutting.tokens (Whole cutting.end)) (sym (ap has_mark is)) (Whole cutting.end, cuts, ends)
    where
      valid : utf8_valid_len text ≡ length text
      valid = utf8_valid_len-IsUtf8 text utf8

      front : utf8_front text ≡ text
      front = ap (λ n. take n text) valid ∙ take-length text

      cuts : Cuts (utf8_front text) 0 cutting.tokens (Whole cutting.end)
      cuts = subst (λ (t : List ℕ). Cuts t 0 cutting.tokens (Whole cutting.end)) (sym front) cutting.cut

      ends : Whole cutting.end ≡ ending_of (eqb (utf8_valid_len text) (length text)) (Whole cutting.end)
      ends = sym (ap (λ b. ending_of b (Whole cutting.end)) (ap (λ n. eqb n (length text)) valid ∙ eqb_refl (length text)))

  apart : Apart words.live
  apart = words_apart words.live lexicon.apart lexicon.complete

  pub reads_back : ReadsBack words claims text
  reads_back fit plain_claims deep =
      let f : File = written_file words claims in
      let all : List Entity = map word_entity words.live in
      let entities : entities_of f ≡ all = all_entities words.live claims apart fit in
      let says : claims_of_file f ≡ map (claim_with (placed words.live)) claims =
      ap (λ (es : List Entity). flat_map (claims_in prefixes (word_of es)) f.items) entities
      ∙ all_said words.live (word_of all)
      (λ k a h. ap (λ (n : ℕ). let w : WordId = record { 0 = n + 1 } in w) (place_found k a words.live apart h)) words.live claims fit plain_claims in (
        f,
        record {
          is_file = written_is_file words claims plain_claims;
          tokens = cutting.tokens;
          end = cutting.end;
          cut = is_cut;
          spelled = cutting.pieces;
          shallow = sym (lexed.deep 200 0) ∙ deep;
        },
        sym entities,
        sym says,
      )
