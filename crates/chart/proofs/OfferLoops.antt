-- Loops that add what each of a list gives.
use Rattle.std.proofs.Common.{◌≡◌, ℕ, suc, zero, ◌+◌, ◌<◌, ◌≤◌, List, [], ◌∷◌, ◌++◌, Bool, true, false, ◌&&◌, ◌||◌, map, filter, length, drop, take, get_or, Some, refl, sym, ap, ◌∙◌, subst, arith, ◌⊎◌, inl, inr, append_assoc, append-nil, IsTrue, ◌↔◌}
use Rattle.std.specs.Prelude.{if◌then◌else◌, slice_get, slice_index_or, Result, Ok, Err, IfOk}
use Rattle.std.specs.Borrow.{Bor}
use Rattle.std.specs.Str.{bytes_eq}
use Rattle.std.proofs.lemmas.Bool.{cases_lt}
use Rattle.std.proofs.lemmas.List.{drop_more}
use Rattle.wiki_base.proofs.ListLaws.{drop_past, length_mapped, drop_slice_get}
use Rattle.codeco_terms.specs.declared.categories.Ground.{Ground}
use Rattle.lexicon.specs.declared.words.Word.{Word}
use Rattle.lexicon.specs.Readings.{readings_of}
use Rattle.codeco_terms.specs.GrammarParts.{GrammarParts}
use Rattle.derivation_trees.specs.declared.menus.Group.{Group}
use Rattle.derivation_trees.specs.declared.menus.Group.TheVariants.{Function}
use Rattle.derivation_trees.specs.Derives.{text_category}
use Rattle.derivation_trees.specs.Settings.{Setting}
use Rattle.derivations.specs.Entries.{shown, forms_in, functions_in, with_entry, all_tried}
use Rattle.chart_table.specs.declared.asks.Ask.{Ask}
use Rattle.chart_table.specs.Asks.{AskLeads}
use Rattle.chart_table.specs.declared.asks.Ask.TheVariants as ask
use Rattle.chart.specs.Offers.{terminal_asks, with_last, class_readings, KnownFound, NewFound, Told, some_follows, is_used, form_asks, used_asks, used_forms, chosen, told_forms, new_forms}

-- one turn of a loop, at the place of an element
pub turn : {X Y : Type 0} (F : ℕ → List X → List Y) (xs : List X) (i : ℕ) (d : X) (done piece new whole : List Y) → i < length xs
    → F i (get_or xs i d ∷ drop (i + 1) xs) ≡ piece ++ F (i + 1) (drop (i + 1) xs) → new ≡ done ++ piece → done ++ F i (drop i xs) ≡ whole
    → new ++ F (i + 1) (drop (i + 1) xs) ≡ whole
turn F xs i d done piece new whole lt unfolds is before =
    ap (λ n. n ++ F (i + 1) (drop (i + 1) xs)) is ∙ append_assoc done piece (F (i + 1) (drop (i + 1) xs)) ∙ ap (λ ys. done ++ ys) (sym unfolds)
    ∙ ap (λ ys. done ++ F i ys) (sym (drop_more xs i d lt)) ∙ before

-- the end of a loop
pub turned_all : {X Y : Type 0} (F : ℕ → List X → List Y) (xs : List X) (i : ℕ) (done whole : List Y) → length xs ≤ i → F i [] ≡ []
    → done ++ F i (drop i xs) ≡ whole → done ≡ whole
turned_all F xs i done whole le none h =
    sym (append-nil done) ∙ ap (λ ys. done ++ ys) (sym none) ∙ ap (λ ys. done ++ F i ys) (sym (drop_past xs i le)) ∙ h

-- what an element gives where it passes a test
pub passing : {Y : Type 0} (b : Bool) (y : Y) (rest : List Y) → (if b then y ∷ rest else rest) ≡ (if b then y ∷ [] else []) ++ rest
passing true y rest = refl
passing false y rest = refl

pub passing_all : {Y : Type 0} (b : Bool) (ys rest : List Y) → (if b then ys ++ rest else rest) ≡ (if b then ys else []) ++ rest
passing_all true ys rest = refl
passing_all false ys rest = refl

pub failing_all : {Y : Type 0} (b : Bool) (ys rest : List Y) → (if b then rest else ys ++ rest) ≡ (if b then [] else ys) ++ rest
failing_all true ys rest = refl
failing_all false ys rest = refl

pub function_passing : (p : List ℕ → Bool) (t : List ℕ) (ts : List (List ℕ))
    → functions_in (filter p (t ∷ ts)) ≡ (if p t then (Function, t) ∷ [] else []) ++ functions_in (filter p ts)
function_passing p t ts = by (p t)
  where
    by : (b : Bool) → functions_in (if b then t ∷ filter p ts else filter p ts) ≡ (if b then (Function, t) ∷ [] else []) ++ functions_in (filter p ts)
    by true = refl
    by false = refl

pub shown_push : (xs : List (Group × Bor (List ℕ))) (x : Group × Bor (List ℕ)) → map shown (xs ++ x ∷ []) ≡ map shown xs ++ shown x ∷ []
shown_push [] x = refl
shown_push (y ∷ ys) x = ap (λ l. shown y ∷ l) (shown_push ys x)

map_get : {X Y : Type 0} (f : X → Y) (xs : List X) (i : ℕ) (d : X) → i < length xs → get_or (map f xs) i (f d) ≡ f (get_or xs i d)
map_get f [] i d lt = absurd (omega arith)
map_get f (x ∷ xs) zero d lt = refl
map_get f (x ∷ xs) (suc i) d lt = map_get f xs i d (omega arith)

-- putting one more
pub put_turn : (xs : List (Group × Bor (List ℕ))) (i : ℕ) (d : Group × Bor (List ℕ)) (old new whole : List (Group × List ℕ)) → i < length xs
    → new ≡ with_entry (shown (get_or xs i d)) old → all_tried (λ e. true) (map shown (drop i xs)) old ≡ whole
    → all_tried (λ e. true) (map shown (drop (i + 1) xs)) new ≡ whole
put_turn xs i d old new whole lt is h =
    ap (all_tried (λ e. true) (map shown (drop (i + 1) xs))) is ∙ sym (ap (λ ys. all_tried (λ e. true) (map shown ys) old) (drop_more xs i d lt)) ∙ h

-- a word that is passed over, or whose forms are added

pub new_step : (rs : List (List Ground)) (told : List Bool) (ws : List Word) (i : ℕ) (w : Word) (old new whole : List (Group × List ℕ))
    → slice_get ws i ≡ Some w → new ≡ old ++ (if is_used rs w.id then [] else told_forms told w.forms.kind 0 w.forms.texts)
    → old ++ new_forms rs told (drop i ws) ≡ whole → new ++ new_forms rs told (drop (i + 1) ws) ≡ whole
new_step rs told ws i w old new whole at is h =
    ap (λ n. n ++ new_forms rs told (drop (i + 1) ws)) is
    ∙ append_assoc old (if is_used rs w.id then [] else told_forms told w.forms.kind 0 w.forms.texts) (new_forms rs told (drop (i + 1) ws))
    ∙ ap (λ l. old ++ l) (sym (failing_all (is_used rs w.id) (told_forms told w.forms.kind 0 w.forms.texts) (new_forms rs told (drop (i + 1) ws))))
    ∙ ap (λ l. old ++ new_forms rs told l) (sym (drop_slice_get ws i w at)) ∙ h

pub used_step : (rs : List (List Ground)) (ws : List Word) (i : ℕ) (w : Word) (old new whole : List (Group × List ℕ)) → slice_get ws i ≡ Some w
    → new ≡ old ++ (if is_used rs w.id then forms_in w else []) → old ++ used_forms rs (drop i ws) ≡ whole → new ++ used_forms rs (drop (i + 1) ws) ≡ whole
used_step rs ws i w old new whole at is h =
    ap (λ n. n ++ used_forms rs (drop (i + 1) ws)) is ∙ append_assoc old (if is_used rs w.id then forms_in w else []) (used_forms rs (drop (i + 1) ws))
    ∙ ap (λ l. old ++ l) (sym (passing_all (is_used rs w.id) (forms_in w) (used_forms rs (drop (i + 1) ws))))
    ∙ ap (λ l. old ++ used_forms rs l) (sym (drop_slice_get ws i w at)) ∙ h

pub asks_step : (rs : List (List Ground)) (ws : List Word) (i : ℕ) (w : Word) (old new whole : List Ask) → slice_get ws i ≡ Some w
    → new ≡ old ++ (if is_used rs w.id then form_asks w.forms.kind w.id 0 w.forms.texts else []) → old ++ used_asks rs (drop i ws) ≡ whole
    → new ++ used_asks rs (drop (i + 1) ws) ≡ whole
asks_step rs ws i w old new whole at is h =
    ap (λ n. n ++ used_asks rs (drop (i + 1) ws)) is
    ∙ append_assoc old (if is_used rs w.id then form_asks w.forms.kind w.id 0 w.forms.texts else []) (used_asks rs (drop (i + 1) ws))
    ∙ ap (λ l. old ++ l) (sym (passing_all (is_used rs w.id) (form_asks w.forms.kind w.id 0 w.forms.texts) (used_asks rs (drop (i + 1) ws))))
    ∙ ap (λ l. old ++ used_asks rs l) (sym (drop_slice_get ws i w at)) ∙ h

-- what is added where a test says yes, and where it says no
pub added_if : {Y : Type 0} (b : Bool) (old new piece : List Y) → b ≡ true → new ≡ old ++ piece → new ≡ old ++ (if b then piece else [])
added_if b old new piece test is = is ∙ ap (λ c. old ++ (if c then piece else [])) (sym test)

pub kept_if : {Y : Type 0} (b : Bool) (old new piece : List Y) → b ≡ false → new ≡ old → new ≡ old ++ (if b then piece else [])
kept_if b old new piece test is = is ∙ sym (append-nil old) ∙ ap (λ c. old ++ (if c then piece else [])) (sym test)

pub added_unless : {Y : Type 0} (b : Bool) (old new piece : List Y) → b ≡ false → new ≡ old ++ piece → new ≡ old ++ (if b then [] else piece)
added_unless b old new piece test is = is ∙ ap (λ c. old ++ (if c then [] else piece)) (sym test)

pub kept_unless : {Y : Type 0} (b : Bool) (old new piece : List Y) → b ≡ true → new ≡ old → new ≡ old ++ (if b then [] else piece)
kept_unless b old new piece test is = is ∙ sym (append-nil old) ∙ ap (λ c. old ++ (if c then [] else piece)) (sym test)

-- both facts of a result
pub both_ok : {X Y : Type 0} (r : Result X Y) (P Q R : X → Type 0) → ((x : X) → P x → Q x → R x) → IfOk r P → IfOk r Q → IfOk r R
both_ok (Ok x) P Q R f p q = f x p q
both_ok (Err e) P Q R f p q = p

-- what is told of asks, from what is told of each
pub told_all : (s : Setting) (n : ℕ) (asks : List Ask) (bs : List Bool) → length bs ≡ length asks
    → ((j : ℕ) (a : Ask) (b : Bool) → slice_get asks j ≡ Some a → slice_get bs j ≡ Some b
    → IsTrue b ↔ AskLeads s n a text_category (record { place = 0; list = [] })) → Told s n asks bs
told_all s n [] [] long each = tt
told_all s n [] (b ∷ bs) long each = absurd (omega arith)
told_all s n (a ∷ rest) [] long each = absurd (omega arith)
told_all s n (a ∷ rest) (b ∷ bs) long each = (each 0 a b refl refl, told_all s n rest bs (omega arith) (λ j x c h k. each (suc j) x c h k))

pub told_parts : (s : Setting) (n : ℕ) (xs ys : List Ask) (bs : List Bool) (k : ℕ) → length xs ≡ k → Told s n (xs ++ ys) bs
    → Told s n xs (take k bs) × Told s n ys (drop k bs)
told_parts s n [] ys bs zero h told = (tt, told)
told_parts s n [] ys bs (suc k) h told = absurd (omega arith)
told_parts s n (x ∷ xs) ys bs zero h told = absurd (omega arith)
told_parts s n (x ∷ xs) ys [] (suc k) h told = absurd told
told_parts s n (x ∷ xs) ys (b ∷ bs) (suc k) h told =
    let r = told_parts s n xs ys bs k (omega arith) told.1 in ((told.0, r.0), r.1)

past : (bs : List Bool) (i : ℕ) → length bs ≤ i → slice_index_or bs i false ≡ false
past [] i le = refl
past (b ∷ bs) zero le = absurd (omega arith)
past (b ∷ bs) (suc i) le = past bs i (omega arith)

-- a search for a terminal, one by one

no_more : (text : List ℕ) (ts : List (List ℕ)) → some_follows text ts [] ≡ false
no_more text [] = refl
no_more text (t ∷ ts) = refl

follows_past : (text : List ℕ) (ts : List (List ℕ)) (bs : List Bool) (i : ℕ) → length bs ≤ i → some_follows text ts (drop i bs) ≡ false
follows_past text ts bs i le = ap (some_follows text ts) (drop_past bs i le) ∙ no_more text ts

pub follows_turn : (text : List ℕ) (ts : List (List ℕ)) (bs : List Bool) (i : ℕ) (t : List ℕ) → i < length ts
    → some_follows text (drop i ts) (drop i bs)
    ≡ ((bytes_eq text (get_or ts i t) && slice_index_or bs i false) || some_follows text (drop (i + 1) ts) (drop (i + 1) bs))
follows_turn text ts bs i t lt = by (cases_lt i (length bs))
  where
    and_false : (b : Bool) → (b && false) ≡ false
    and_false true = refl
    and_false false = refl

    by : (i < length bs) ⊎ (length bs ≤ i)
        → some_follows text (drop i ts) (drop i bs)
        ≡ ((bytes_eq text (get_or ts i t) && slice_index_or bs i false) || some_follows text (drop (i + 1) ts) (drop (i + 1) bs))
    by (inl below) =
        ap (λ xs. some_follows text xs (drop i bs)) (drop_more ts i t lt)
        ∙ ap (some_follows text (get_or ts i t ∷ drop (i + 1) ts)) (drop_more bs i false below)
    by (inr above) =
        let later : length bs ≤ i + 1 = omega arith in
        follows_past text (drop i ts) bs i above
        ∙ sym (ap (λ b. (bytes_eq text (get_or ts i t) && b) || some_follows text (drop (i + 1) ts) (drop (i + 1) bs)) (past bs i above)
        ∙ ap (λ b. b || some_follows text (drop (i + 1) ts) (drop (i + 1) bs)) (and_false (bytes_eq text (get_or ts i t)))
        ∙ follows_past text (drop (i + 1) ts) bs (i + 1) later)

pub follows_end : (text : List ℕ) (ts : List (List ℕ)) (bs : List Bool) (i : ℕ) → length ts ≤ i → some_follows text (drop i ts) (drop i bs) ≡ false
follows_end text ts bs i le = ap (λ xs. some_follows text xs (drop i bs)) (drop_past ts i le)

-- a choice, one by one

chosen_none : {X : Type 0} (xs : List X) → chosen xs [] ≡ []
chosen_none [] = refl
chosen_none (x ∷ xs) = refl

pub chosen_turn : {X : Type 0} (xs : List X) (bs : List Bool) (i : ℕ) (d : X) → i < length xs
    → chosen (drop i xs) (drop i bs) ≡ (if slice_index_or bs i false then get_or xs i d ∷ [] else []) ++ chosen (drop (i + 1) xs) (drop (i + 1) bs)
chosen_turn {X = X} xs bs i d lt = by (cases_lt i (length bs))
  where
    by : (i < length bs) ⊎ (length bs ≤ i)
        → chosen (drop i xs) (drop i bs) ≡ (if slice_index_or bs i false then get_or xs i d ∷ [] else []) ++ chosen (drop (i + 1) xs) (drop (i + 1) bs)
    by (inl below) =
        ap (λ ys. chosen ys (drop i bs)) (drop_more xs i d lt) ∙ ap (chosen (get_or xs i d ∷ drop (i + 1) xs)) (drop_more bs i false below)
        ∙ passing (slice_index_or bs i false) (get_or xs i d) (chosen (drop (i + 1) xs) (drop (i + 1) bs))
    by (inr above) =
        let later : length bs ≤ i + 1 = omega arith in
        ap (chosen (drop i xs)) (drop_past bs i above) ∙ chosen_none (drop i xs)
        ∙ sym (ap (λ b. (if b then get_or xs i d ∷ [] else []) ++ chosen (drop (i + 1) xs) (drop (i + 1) bs)) (past bs i above)
        ∙ ap (chosen (drop (i + 1) xs)) (drop_past bs (i + 1) later) ∙ chosen_none (drop (i + 1) xs))

pub chosen_end : {X : Type 0} (xs : List X) (bs : List Bool) (i : ℕ) → length xs ≤ i → chosen (drop i xs) bs ≡ []
chosen_end xs bs i le = ap (λ ys. chosen ys bs) (drop_past xs i le)

-- choosing one more, or not
chosen_step : (xs : List (Group × Bor (List ℕ))) (bs : List Bool) (i : ℕ) (d : Group × Bor (List ℕ)) (old new whole : List (Group × List ℕ)) → i < length xs
    → new ≡ old ++ (if slice_index_or bs i false then shown (get_or xs i d) ∷ [] else []) → old ++ chosen (drop i (map shown xs)) (drop i bs) ≡ whole
    → new ++ chosen (drop (i + 1) (map shown xs)) (drop (i + 1) bs) ≡ whole
chosen_step xs bs i d old new whole lt is h =
    let long : length (map shown xs) ≡ length xs = length_mapped shown xs in
    let within : i < length (map shown xs) = omega arith in
    let piece = ap (λ x. if slice_index_or bs i false then x ∷ [] else []) (map_get shown xs i d lt) in
    ap (λ n. n ++ chosen (drop (i + 1) (map shown xs)) (drop (i + 1) bs)) is
    ∙ append_assoc old (if slice_index_or bs i false then shown (get_or xs i d) ∷ [] else []) (chosen (drop (i + 1) (map shown xs)) (drop (i + 1) bs))
    ∙ ap (λ p. old ++ (p ++ chosen (drop (i + 1) (map shown xs)) (drop (i + 1) bs))) (sym piece)
    ∙ ap (λ l. old ++ l) (sym (chosen_turn (map shown xs) bs i (shown d) within)) ∙ h

pub chosen_more : (xs : List (Group × Bor (List ℕ))) (bs : List Bool) (i : ℕ) (d : Group × Bor (List ℕ)) (old new : List (Group × Bor (List ℕ)))
    (whole : List (Group × List ℕ)) → i < length xs → slice_index_or bs i false ≡ true → new ≡ old ++ get_or xs i d ∷ []
    → map shown old ++ chosen (drop i (map shown xs)) (drop i bs) ≡ whole → map shown new ++ chosen (drop (i + 1) (map shown xs)) (drop (i + 1) bs) ≡ whole
chosen_more xs bs i d old new whole lt test is h =
    chosen_step xs bs i d (map shown old) (map shown new) whole lt
    (added_if (slice_index_or bs i false) (map shown old) (map shown new) (shown (get_or xs i d) ∷ []) test
    (ap (map shown) is ∙ shown_push old (get_or xs i d))) h

pub chosen_less : (xs : List (Group × Bor (List ℕ))) (bs : List Bool) (i : ℕ) (old new : List (Group × Bor (List ℕ))) (whole : List (Group × List ℕ))
    → i < length xs → slice_index_or bs i false ≡ false → new ≡ old → map shown old ++ chosen (drop i (map shown xs)) (drop i bs) ≡ whole
    → map shown new ++ chosen (drop (i + 1) (map shown xs)) (drop (i + 1) bs) ≡ whole
chosen_less xs bs i old new whole lt test is h =
    let d : Group × Bor (List ℕ) = (Function, record { ref_ptr = (0, 0); now = [] }) in
    chosen_step xs bs i d (map shown old) (map shown new) whole lt
    (kept_if (slice_index_or bs i false) (map shown old) (map shown new) (shown (get_or xs i d) ∷ []) test (ap (map shown) is)) h

pub shown_drop : (n : ℕ) (xs : List (Group × Bor (List ℕ))) → map shown (drop n xs) ≡ drop n (map shown xs)
shown_drop zero xs = refl
shown_drop (suc n) [] = refl
shown_drop (suc n) (x ∷ xs) = shown_drop n xs

-- the asks for terminals are as many as these
pub terminals_long : (k : ℕ) (ts : List (List ℕ)) → length (terminal_asks k ts) ≡ length ts
terminals_long k [] = refl
terminals_long k (t ∷ ts) = let rest = terminals_long (k + 1) ts in omega arith

-- as much is told as is asked
pub told_least : (s : Setting) (n : ℕ) (xs ys : List Ask) (bs : List Bool) → Told s n (xs ++ ys) bs → length xs ≤ length bs
told_least s n [] ys bs told = omega arith
told_least s n (x ∷ xs) ys [] told = absurd told
told_least s n (x ∷ xs) ys (b ∷ bs) told = let rest = told_least s n xs ys bs told.1 in omega arith

-- what is found of terminals and of forms of words among the tokens, from what each call gave
pub known_found : (g : GrammarParts) (live : List Word) (tokens texts : List (List ℕ)) (token : List ℕ) (rs : List (List Ground)) (asks : List Ask)
    (told front back : List Bool) (forms before middle after : List (Group × List ℕ)) → rs ≡ map (readings_of live) tokens
    → asks ≡ terminal_asks 0 g.terminals ++ used_asks rs live → Told (with_last g tokens (map (readings_of live) tokens) token []) (length tokens) asks told
    → front ≡ take (length g.terminals) told → back ≡ drop (length g.terminals) told → forms ≡ used_forms rs live
    → middle ≡ before ++ functions_in (filter (λ text. some_follows text g.terminals front) texts) → after ≡ middle ++ chosen forms back
    → KnownFound g live tokens texts before after
known_found g live tokens texts token rs asks told front back forms before middle after is_read are_asks tells fronts backs are_forms middle_is after_is =
    let s = with_last g tokens (map (readings_of live) tokens) token [] in
    let all : Told s (length tokens) (terminal_asks 0 g.terminals ++ used_asks (map (readings_of live) tokens) live) told =
    subst (λ x. Told s (length tokens) x told) (are_asks ∙ ap (λ r. terminal_asks 0 g.terminals ++ used_asks r live) is_read) tells in
    let parts = told_parts s (length tokens) (terminal_asks 0 g.terminals) (used_asks (map (readings_of live) tokens) live) told (length g.terminals)
    (terminals_long 0 g.terminals) all in
    record {
      token = token;
      terminals = front;
      forms = back;
      told_terminals = subst (Told s (length tokens) (terminal_asks 0 g.terminals)) (sym fronts) parts.0;
      told_forms = subst (Told s (length tokens) (used_asks (map (readings_of live) tokens) live)) (sym backs) parts.1;
      found = after_is ∙ ap (λ m. m ++ chosen forms back) middle_is
          ∙ ap (λ f. (before ++ functions_in (filter (λ text. some_follows text g.terminals front) texts)) ++ chosen f back)
          (are_forms ∙ ap (λ r. used_forms r live) is_read);
    }

-- what is found of forms of other words, from what each call gave
pub new_found : (g : GrammarParts) (live : List Word) (tokens : List (List ℕ)) (token : List ℕ) (rs : List (List Ground)) (read : List Ground) (asks : List Ask)
    (told : List Bool) (place : ℕ) (word : Word) (form : List ℕ) (before after : List (Group × List ℕ)) → rs ≡ map (readings_of live) tokens
    → slice_get live place ≡ Some word → slice_get word.forms.texts 0 ≡ Some form → is_used rs word.id ≡ false → read ≡ readings_of live form
    → asks ≡ map ask.Reading (class_readings word.id) → Told (with_last g tokens (map (readings_of live) tokens) token read) (length tokens) asks told
    → after ≡ before ++ new_forms rs told live → NewFound g live tokens before after
new_found g live tokens token rs read asks told place word form before after is_read lives form_is new reads_so are_asks tells is =
    record {
      token = token;
      place = place;
      word = word;
      form = form;
      told = told;
      lives = lives;
      form_is = form_is;
      new = ap (λ r. is_used r word.id) (sym is_read) ∙ new;
      told_classes = subst (λ x. Told (with_last g tokens (map (readings_of live) tokens) token x) (length tokens) (map ask.Reading (class_readings word.id))
          told) reads_so (subst (λ x. Told (with_last g tokens (map (readings_of live) tokens) token read) (length tokens) x told) are_asks tells);
      found = is ∙ ap (λ r. before ++ new_forms r told live) is_read;
    }
