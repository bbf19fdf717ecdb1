-- A reading answers with what the text spells, or with the place of its fault.
use Rattle.std.proofs.Common.{◌≡◌, ℕ, ◌+◌, ◌<◌, ◌≤◌, Bool, true, false, ◌⊎◌, List, [], ◌∷◌, ◌++◌, length, take, Option, Some, None, Result, Ok, Err, refl, sym, ap, subst, ◌∙◌, append_assoc, arith, inl, inr, length-append}
use Rattle.std.specs.List.{list_all}
use Rattle.std.specs.Prelude.{IfOk, IfErr}
use Rattle.std.proofs.lemmas.List.{append-nil, take_at}
use Rattle.codeco_text.specs.declared.symbols.Lexeme.{Lexeme}
use Rattle.codeco_text.specs.declared.spot.Spot.{Spot}
use Rattle.codeco_text.specs.declared.spot.Spot.TheVariants as spot
use Rattle.codeco_text.specs.declared.written.WrittenItem.{WrittenItem}
use Rattle.codeco_text.specs.declared.builder.Builder.{Builder}
use Rattle.codeco_text.specs.declared.syntax_fault.SyntaxFault.{SyntaxFault}
use Rattle.codeco_text.specs.declared.syntax_fault.SyntaxFault.TheVariants as fault
use Rattle.codeco_text.specs.Notation.{lexemes, item_fits, SpellsFrom, IsSpelling, IsSentence, HasContinuation, IsSyntaxFault, TellsFault, Finds}
use Rattle.codeco_text.specs.Reading.{◌>>=◌}
use Rattle.codeco_text.proofs.SoFar.{so_far, so_far_at}
use Rattle.codeco_text.specs.Scanning.{Mode, between, fresh, guard, finish, step, is_between_items, ended, ok_or_place, carry, reading}
use Rattle.codeco_text.specs.Scanner.{Reads}
use Rattle.codeco_text.proofs.Trees.{runs, only_if, items_run}
use Rattle.codeco_text.proofs.Soundness.{bind_some, guard_some}
use Rattle.codeco_text.proofs.Spelled.{final, final_spelled, none_some}
use Rattle.codeco_text.proofs.Complete.{spelled_final}
use Rattle.codeco_text.proofs.OneSpelling.{lexemes_same}
use Rattle.codeco_text.proofs.Continuing.{reach, reach_final, reach_fits, continuation}

items_spot : (s : Spot) → is_between_items s ≡ true → s ≡ spot.Items
items_spot spot.Items h = refl
items_spot _ h = absurd cc

-- a reading that ends between items
pub record EndsBetween (b : Builder) (m : Mode) (text : List ℕ) (items : List WrittenItem) : Type 0 where
  pub last : Builder
  pub taken : final b m text ≡ Some last
  pub stands : last.spot ≡ spot.Items
  pub has : last.items ≡ items

ended_ends : (b : Builder) (m : Mode) (items : List WrittenItem) → ended b m ≡ Some items → EndsBetween b m [] items
ended_ends b m items e =
    let c = bind_some (finish b m) (λ c. guard (is_between_items c.spot) c.items) items e in
    let g = guard_some (is_between_items c.0.spot) c.0.items items c.2 in
    record { last = c.0; taken = c.1; stands = items_spot c.0.spot g.0; has = g.1 }

place_ok : (o : Option (List WrittenItem)) (n : ℕ) (items : List WrittenItem) → ok_or_place o n ≡ Ok items → o ≡ Some items
place_ok None n items e = absurd cc
place_ok (Some x) n items e = let is : x ≡ items = cc in ap Some is

carry_ok : (o : Option (Builder × Mode)) (n : ℕ) (f : Builder × Mode → Result (List WrittenItem) ℕ) (items : List WrittenItem) → carry o n f ≡ Ok items
    → (s : Builder × Mode) × (o ≡ Some s) × (f s ≡ Ok items)
carry_ok None n f items e = absurd cc
carry_ok (Some s) n f items e = (s, refl, e)

pub reading_ok : (text : List ℕ) (b : Builder) (m : Mode) (n : ℕ) (items : List WrittenItem) → reading b m text n ≡ Ok items → EndsBetween b m text items
reading_ok [] b m n items e = ended_ends b m items (place_ok (ended b m) n items e)
reading_ok (x ∷ xs) b m n items e =
    let s = carry_ok (step b m x) n (λ s. reading s.0 s.1 xs (n + 1)) items e in
    let rest = reading_ok xs s.0.0 s.0.1 (n + 1) items s.2 in
    record {
      last = rest.last;
      taken = ap (λ (o : Option (Builder × Mode)). o >>= λ t. final t.0 t.1 xs) s.1 ∙ rest.taken;
      stands = rest.stands;
      has = rest.has;
    }

-- what the reading has is spelled
pub ends_spelling : (text : List ℕ) (items : List WrittenItem) → EndsBetween fresh between text items → IsSpelling text items
ends_spelling text items e =
    let s = final_spelled text fresh e.last between e.taken in
    let symbols : lexemes items ≡ s.symbols = sym (ap lexemes e.has) ∙ sym (ap (λ (t : Spot). so_far_at t e.last) e.stands) ∙ s.grows in
    let leads : runs spot.Items (lexemes items) ≡ Some spot.Items = ap (runs spot.Items) symbols ∙ s.leads ∙ ap (λ (t : Spot). Some t) e.stands in
    record {
      fits = fits_from (list_all item_fits items) (sym (items_run items) ∙ leads);
      spells = subst (λ (xs : List Lexeme). SpellsFrom false text xs) (sym symbols) s.spells;
    } where
      fits_from : (t : Bool) → only_if t (Some spot.Items) ≡ Some spot.Items → t ≡ true
      fits_from true h = refl
      fits_from false h = absurd cc

-- what is spelled is taken
pub spelling_ends : (text : List ℕ) (items : List WrittenItem) → IsSpelling text items
    → (d : Builder) × (final fresh between text ≡ Some d) × (d.spot ≡ spot.Items) × (so_far d ≡ lexemes items)
spelling_ends text items s =
    let leads : runs spot.Items (lexemes items) ≡ Some spot.Items = items_run items ∙ ap (λ (t : Bool). only_if t (Some spot.Items)) s.fits in
    spelled_final (lexemes items) text false fresh spot.Items s.spells leads

-- where a reading stops
pub record Stops (b : Builder) (m : Mode) (text : List ℕ) (n place : ℕ) : Type 0 where
  pub front : List ℕ
  pub back : List ℕ
  pub parts : text ≡ front ++ back
  pub at : place ≡ n + length front
  pub builder : Builder
  pub mode : Mode
  pub reached : reach b m front ≡ Some (builder, mode)
  pub bad : ((back ≡ []) × (ended builder mode ≡ None)) ⊎ ((x : ℕ) × (rest : List ℕ) × (back ≡ x ∷ rest) × (step builder mode x ≡ None))

place_err : (o : Option (List WrittenItem)) (n place : ℕ) → ok_or_place o n ≡ Err place → (o ≡ None) × (n ≡ place)
place_err None n place e = (refl, cc)
place_err (Some x) n place e = absurd cc

carry_err : (o : Option (Builder × Mode)) (n place : ℕ) (f : Builder × Mode → Result (List WrittenItem) ℕ) → carry o n f ≡ Err place
    → ((o ≡ None) × (n ≡ place)) ⊎ ((s : Builder × Mode) × (o ≡ Some s) × (f s ≡ Err place))
carry_err None n place f e = inl (refl, cc)
carry_err (Some s) n place f e = inr (s, refl, e)

pub reading_err : (text : List ℕ) (b : Builder) (m : Mode) (n place : ℕ) → reading b m text n ≡ Err place → Stops b m text n place
reading_err [] b m n place e =
    let h = place_err (ended b m) n place e in
    record { front = []; back = []; parts = refl; at = omega (arith, h.1); builder = b; mode = m; reached = refl; bad = inl (refl, h.0) }
reading_err (x ∷ xs) b m n place e = elim (carry_err (step b m x) n place (λ s. reading s.0 s.1 xs (n + 1)) e) [
  | inl h ↦ record { front = []; back = x ∷ xs; parts = refl; at = omega (arith, h.1); builder = b; mode = m; reached = refl; bad = inr (x, xs, refl, h.0) }
  | inr h ↦
      let rest = reading_err xs h.0.0 h.0.1 (n + 1) place h.2 in
      let count : place ≡ n + length (x ∷ rest.front) = omega (arith, rest.at) in
      record {
        front = x ∷ rest.front;
        back = rest.back;
        parts = ap (λ (v : List ℕ). x ∷ v) rest.parts;
        at = count;
        builder = rest.builder;
        mode = rest.mode;
        reached = ap (λ (o : Option (Builder × Mode)). o >>= λ t. reach t.0 t.1 rest.front) h.1 ∙ rest.reached;
        bad = rest.bad;
      }
]

-- no sentence goes on from where a step fails
dead_end : (front : List ℕ) (x : ℕ) (more : List ℕ) (c : Builder) (k : Mode) → reach fresh between front ≡ Some (c, k) → step c k x ≡ None
    → IsSentence ((front ++ x ∷ []) ++ more) → ⊥
dead_end front x more c k reached stops sentence =
    let d = spelling_ends ((front ++ x ∷ []) ++ more) sentence.0 sentence.1 in
    let here : final fresh between ((front ++ x ∷ []) ++ more) ≡ None =
    ap (final fresh between) (append_assoc front (x ∷ []) more)
    ∙ reach_final front (x ∷ more) fresh between
    ∙ ap (λ (o : Option (Builder × Mode)). o >>= λ s. final s.0 s.1 (x ∷ more)) reached
    ∙ ap (λ (o : Option (Builder × Mode)). o >>= λ s. final s.0 s.1 more) stops in
    none_some (final fresh between ((front ++ x ∷ []) ++ more)) d.0 here d.1

-- nor is one there where a reading that isn't between items ends
open_end : (front : List ℕ) (c : Builder) (k : Mode) → reach fresh between front ≡ Some (c, k) → ended c k ≡ None → IsSentence front → ⊥
open_end front c k reached stops sentence =
    let d = spelling_ends front sentence.0 sentence.1 in
    let here : final fresh between front ≡ finish c k =
    sym (ap (final fresh between) (append-nil front))
    ∙ reach_final front [] fresh between
    ∙ ap (λ (o : Option (Builder × Mode)). o >>= λ s. final s.0 s.1 []) reached in
    let whole : ended c k ≡ Some d.0.items =
    ap (λ (o : Option Builder). o >>= λ c. guard (is_between_items c.spot) c.items) (sym here ∙ d.1)
    ∙ ap (λ (s : Spot). guard (is_between_items s) d.0.items) d.2 in
    clash (ended c k) d.0.items stops whole where
      clash : (o : Option (List WrittenItem)) (items : List WrittenItem) → o ≡ None → o ≡ Some items → ⊥
      clash o items p q = cc

-- the bytes before go on to a sentence
goes_on_from : (front : List ℕ) (c : Builder) (k : Mode) → reach fresh between front ≡ Some (c, k) → HasContinuation front
goes_on_from front c k reached =
    let end = continuation c k (reach_fits front fresh between (c, k) tt reached) in
    let taken : final fresh between (front ++ end.0) ≡ Some end.1 =
    reach_final front end.0 fresh between
    ∙ ap (λ (o : Option (Builder × Mode)). o >>= λ s. final s.0 s.1 end.0) reached
    ∙ end.2 in
    (end.0, (end.1.items, ends_spelling (front ++ end.0) end.1.items (record { last = end.1; taken = taken; stands = end.3; has = refl })))

pub stops_fault : (text : List ℕ) (place : ℕ) → Stops fresh between text 0 place → IsSyntaxFault text place
stops_fault text place s =
    let count : length text ≡ length s.front + length s.back = ap length s.parts ∙ length-append s.front s.back in
    let at : place ≡ length s.front = omega (arith, s.at) in
    let before : take place text ≡ s.front = ap (take place) s.parts ∙ take_at s.front s.back place (sym at) in
    record {
      within = omega (arith, count, at);
      none = λ sentence. elim s.bad [
        | inl h ↦
            let whole : text ≡ s.front = s.parts ∙ ap (λ (v : List ℕ). s.front ++ v) h.0 ∙ append-nil s.front in
            open_end s.front s.builder s.mode s.reached h.1 (subst IsSentence whole sentence)
        | inr h ↦
            let whole : text ≡ (s.front ++ h.0 ∷ []) ++ h.1 = s.parts ∙ ap (λ (v : List ℕ). s.front ++ v) h.2 ∙ sym (append_assoc s.front (h.0 ∷ []) h.1) in
            dead_end s.front h.0 h.1 s.builder s.mode s.reached h.3 (subst IsSentence whole sentence)
      ];
      before = subst HasContinuation (sym before) (goes_on_from s.front s.builder s.mode s.reached);
      at = λ lt goes. elim s.bad [
        | inl h ↦
            let none : length s.back ≡ 0 = ap length h.0 in
            omega (arith, lt, count, at, none)
        | inr h ↦
            let whole : text ≡ (s.front ++ h.0 ∷ []) ++ h.1 = s.parts ∙ ap (λ (v : List ℕ). s.front ++ v) h.2 ∙ sym (append_assoc s.front (h.0 ∷ []) h.1) in
            let long : length (s.front ++ h.0 ∷ []) ≡ place + 1 = length-append s.front (h.0 ∷ []) ∙ omega (arith, at) in
            let upto : take (place + 1) text ≡ s.front ++ h.0 ∷ [] = ap (take (place + 1)) whole ∙ take_at (s.front ++ h.0 ∷ []) h.1 (place + 1) long in
            let there : HasContinuation (s.front ++ h.0 ∷ []) = subst HasContinuation upto goes in
            dead_end s.front h.0 there.0 s.builder s.mode s.reached h.3 there.1
      ];
    }

-- What a reading of the whole text answers

pub is_spelled : (text : List ℕ) (r : Result (List WrittenItem) SyntaxFault) → Reads r (reading fresh between text 0) → IfOk r (λ items. IsSpelling text items)
is_spelled text (Ok items) h = ends_spelling text items (reading_ok text fresh between 0 items h)
is_spelled text (Err e) h = tt

pub is_fault : (text : List ℕ) (r : Result (List WrittenItem) SyntaxFault) → Reads r (reading fresh between text 0) → IfErr r (TellsFault text)
is_fault text (Ok items) h = tt
is_fault text (Err (fault.At place)) h = stops_fault text place (reading_err text fresh between 0 place h)
is_fault text (Err fault.Memory) h = tt

place_some : (b : Builder) (m : Mode) (d : Builder) (n : ℕ) → finish b m ≡ Some d → d.spot ≡ spot.Items → ok_or_place (ended b m) n ≡ Ok d.items
place_some b m d n e f =
    ap (λ (o : Option Builder). ok_or_place (o >>= λ c. guard (is_between_items c.spot) c.items) n) e
    ∙ ap (λ (s : Spot). ok_or_place (guard (is_between_items s) d.items) n) f

reading_from : (text : List ℕ) (b : Builder) (m : Mode) (n : ℕ) (d : Builder) → final b m text ≡ Some d → d.spot ≡ spot.Items → reading b m text n ≡ Ok d.items
reading_from [] b m n d e f = place_some b m d n e f
reading_from (x ∷ xs) b m n d e f =
    let s = bind_some (step b m x) (λ s. final s.0 s.1 xs) d e in
    ap (λ (o : Option (Builder × Mode)). carry o n (λ s. reading s.0 s.1 xs (n + 1))) s.1 ∙ reading_from xs s.0.0 s.0.1 (n + 1) d s.2 f

-- what is spelled is what the reading has
spelling_read : (text : List ℕ) (items : List WrittenItem) → IsSpelling text items → reading fresh between text 0 ≡ Ok items
spelling_read text items s =
    let d = spelling_ends text items s in
    let same : d.0.items ≡ items = lexemes_same d.0.items items (sym (ap (λ (t : Spot). so_far_at t d.0) d.2) ∙ d.3) in
    reading_from text fresh between 0 d.0 d.1 d.2 ∙ ap (λ (x : List WrittenItem). Ok x) same

pub is_only : (text : List ℕ) (r : Result (List WrittenItem) SyntaxFault) → Reads r (reading fresh between text 0) → (items : List WrittenItem)
    → IsSpelling text items → Finds items r
is_only text (Ok found) h items s = let clash = sym h ∙ spelling_read text items s in cc
is_only text (Err (fault.At place)) h items s = absurd (let clash = sym h ∙ spelling_read text items s in cc)
is_only text (Err fault.Memory) h items s = tt
